-- The texts of answers.
use Rattle.std.specs.Prelude.{ℕ, List, ◌++◌, codes}
use Rattle.std.specs.Fmt.{decimal}
use Rattle.tb_debug_inspection.specs.Texts.{limit, no_such_line, registers_text, status_text, value_text, what}
use Rattle.tb_debug_stepping.specs.declared.answer.Answer.{Answer}
use Rattle.tb_debug_stepping.specs.declared.answer.Answer.TheVariants.{Registers, NothingBack, At, NoSuchLine, NoSource, Limit, Stands, Value, Depth, What}
use Rattle.tb_debug_stepping.specs.declared.answer.TheConstants.{NOTHING_BACK, NO_SOURCE}

-- the line that shows an answer, without its line end
abbrev pub text_of : Answer → List ℕ
text_of (Registers regs line status) = registers_text regs line status
text_of NothingBack = NOTHING_BACK.now
text_of (At line) = codes "at " ++ decimal line
text_of NoSuchLine = no_such_line
text_of NoSource = NO_SOURCE.now
text_of Limit = limit
text_of (Stands status) = status_text status
text_of (Value value) = value_text value
text_of (Depth depth) = decimal depth
text_of What = what
