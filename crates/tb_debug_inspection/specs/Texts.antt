-- The texts of answers.
use Rattle.std.specs.Prelude.{ℕ, ℤ, ◌/◌, ◌%◌, List, [], ◌∷◌, ◌++◌, codes, Option, Some, None, Result, Ok, Err}
use Rattle.std.specs.Fmt.{decimal}
use Rattle.hex.specs.Hex.{encode_upper}
use Rattle.tb_words.specs.Words.{word_of, digits_of}
use Rattle.tb_cpu.specs.declared.registers.Regs.{Regs}
use Rattle.tb_cpu.specs.Effects.{status_byte}
use Rattle.tb_kernal.specs.declared.status.Status.{Status}
use Rattle.tb_kernal.specs.declared.status.Status.TheVariants.{Running, Waits, Returned, Wrong}
use Rattle.tb_basic_meaning.specs.declared.evaluation.EvalError.{EvalError}
use Rattle.tb_basic_meaning.specs.declared.evaluation.EvalError.TheVariants.{DivideByZero, HasRnd}
use Rattle.tb_debug_inspection.specs.declared.texts.TheConstants.{DIVISION_BY_ZERO, HAS_RND, NO_SUCH_LINE}

-- the answer to a line that is no command, and to a text that is no expression
abbrev pub what : List ℕ
what = codes "what?"

-- the answer to the number of a line that the program doesn't have
abbrev pub no_such_line : List ℕ
no_such_line = NO_SUCH_LINE.now

-- what is said of a run that its limit ended
abbrev pub limit : List ℕ
limit = codes "limit"

-- the value of an expression, or why it has none
abbrev pub value_text : Result ℤ EvalError → List ℕ
value_text (Ok value) = digits_of (word_of value)
value_text (Err DivideByZero) = DIVISION_BY_ZERO.now
value_text (Err HasRnd) = HAS_RND.now

-- the word for how a machine stands
abbrev pub status_text : Status → List ℕ
status_text Running = codes "running"
status_text Waits = codes "waits"
status_text Returned = codes "returned"
status_text (Wrong w) = codes "wrong"

-- an address in four hexadecimal digits
abbrev pub address_text : ℕ → List ℕ
address_text address = encode_upper (address / 256 ∷ address % 256 ∷ [])

-- a name and a byte in two digits
abbrev pub field_text : List ℕ → ℕ → List ℕ
field_text name byte = name ++ encode_upper (byte ∷ [])

-- a line's number, or `-`
abbrev pub line_text : Option ℕ → List ℕ
line_text (Some line) = decimal line
line_text None = codes "-"

-- the program counter in four digits, the registers and the flags, the line and the status
abbrev pub registers_text : Regs → Option ℕ → Status → List ℕ
registers_text regs line status =
    address_text regs.pc
    ++ field_text (codes " A=") regs.a
    ++ field_text (codes " X=") regs.x
    ++ field_text (codes " Y=") regs.y
    ++ field_text (codes " S=") regs.s
    ++ field_text (codes " P=") (status_byte regs.flags)
    ++ codes " " ++ line_text line ++ codes " " ++ status_text status
