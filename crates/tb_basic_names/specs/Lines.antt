-- Lines of a source, and what they do to the program.
use Rattle.std.specs.Prelude.{ℕ, List, Option, Some, None, Ok, Err}
use Rattle.tb_basic_syntax.specs.Source.{Statement}
use Rattle.tb_parser.specs.Answers.{edit_of}
use Rattle.tb_parser.specs.Readings.{Edit, Nothing, Sets, Deletes, LineIn, Refusal}
use Rattle.tb_parser.specs.declared.edits.LineEdit.{LineEdit}
use Rattle.tb_basic_text.specs.declared.notation.Notation.{Notation}

-- what a line is found to do in a notation: something to the program, or it is refused
abbrev pub Does : Notation → List ℕ → Option LineEdit → Type 0
Does notation text (Some e) = LineIn notation text (Ok (edit_of e))
Does notation text None = (r : Refusal) × LineIn notation text (Err r)

-- what it does; a bad line does nothing
abbrev pub does : Option LineEdit → Edit
does (Some e) = edit_of e
does None = Nothing

-- the number of a line that does something
abbrev pub number_in : Edit → Option ℕ
number_in Nothing = None
number_in (Sets n c) = Some n
number_in (Deletes n) = Some n

-- its statement
abbrev pub statement_in : Edit → Option Statement
statement_in Nothing = None
statement_in (Sets n c) = Some c
statement_in (Deletes n) = None
