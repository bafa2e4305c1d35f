-- Where lines and variables are named.
use Rattle.std.specs.Prelude.{ℕ, ◌+◌, ◌-◌, ◌==◌, Bool, false, List, [], ◌∷◌, ◌++◌, length, slice_get, Option, Some, None, option_map, is_some, if◌then◌else◌}
use Rattle.std.specs.Option.{option_and_then}
use Rattle.tb_basic_places.specs.Spans.{piece, tail}
use Rattle.tb_basic_places.specs.declared.spans.Span.{Span}
use Rattle.tb_parser.specs.Readings.{Edit}
use Rattle.tb_basic_names.specs.Jumps.{jump_in, jump_word}
use Rattle.tb_basic_names.specs.Lines.{does, number_in}
use Rattle.tb_basic_names.specs.Sources.{edits_of, is_place, standing}
use Rattle.tb_basic_names.specs.Variables.{variables_of}
use Rattle.tb_basic_names.specs.declared.jumps.Jump.{Jump}
use Rattle.tb_basic_names.specs.declared.lines.Line.{Line as SourceLine}
use Rattle.tb_basic_names.specs.declared.names.Name.{Name}
use Rattle.tb_basic_names.specs.declared.names.Name.TheVariants as name
use Rattle.tb_basic_names.specs.declared.places.Occurrence.{Occurrence}
use Rattle.tb_basic_names.specs.declared.places.Role.TheVariants as role
use Rattle.tb_basic_names.specs.declared.variables.Variable.{Variable}

-- the number that begins a line, which is line `number` of the file, from 1: its first token
abbrev pub number_span : ℕ → SourceLine → Option Span
number_span number l = option_map (λ t. piece number l.text.now (t.column - 1) (length t.text.now)) (slice_get l.tokens.items 0)

-- the expression of a jump: from the token behind GOTO or GOSUB to the last one
abbrev pub target_span : ℕ → SourceLine → Option Span
target_span number l =
    option_and_then (λ word. option_map (λ t. tail number l.text.now (t.column - 1)) (slice_get l.tokens.items (word + 1))) (jump_word l.tokens.items)

-- a line is named here, if anywhere
abbrev pub of_line : Option Span → List Occurrence
of_line None = []
of_line (Some span) = record { span = span; role = role.Line } ∷ []

-- whether a jump goes to a number
abbrev pub goes_to : ℕ → Option Jump → Bool
goes_to n None = false
goes_to n (Some jump) = jump.target == n

-- whether a line has a constant jump to a number
abbrev pub jumps_to : ℕ → Edit → Bool
jumps_to n e = goes_to n (jump_in e)

-- a variable is named here
abbrev pub of_variable : ℕ → List ℕ → Variable → Occurrence
of_variable number text v = record { span = piece number text v.place 1; role = if v.gets then role.Set else role.Read }

-- where these variables are the one that is sought
abbrev pub of_variables : ℕ → List ℕ → ℕ → List Variable → List Occurrence
of_variables number text n [] = []
of_variables number text n (v ∷ vs) =
    if v.name == n then of_variable number text v ∷ of_variables number text n vs else of_variables number text n vs

-- where a line names a variable, if it is good
abbrev pub variable_on : ℕ → ℕ → SourceLine → List Occurrence
variable_on n number l = if is_some (number_in (does l.edit)) then of_variables number l.text.now n (variables_of l.tokens.items) else []

-- where a line names the line of a number: by its own number, where it is the declaration, and by a jump
abbrev pub line_on : ℕ → Bool → ℕ → SourceLine → List Occurrence
line_on n is_declared number l =
    (if is_declared then of_line (number_span number l) else []) ++ (if jumps_to n (does l.edit) then of_line (target_span number l) else [])

-- where a line names something
abbrev pub named_on : Name → Bool → ℕ → SourceLine → List Occurrence
named_on (name.Line n) is_declared number l = line_on n is_declared number l
named_on (name.Variable n) is_declared number l = variable_on n number l

-- the place of the declaration, where that is wanted
abbrev pub declaration : Name → Bool → List Edit → Option ℕ
declaration (name.Line n) is_wanted es = if is_wanted then standing n es else None
declaration (name.Variable n) is_wanted es = None

-- where these lines, of which the first is at place i, name something
abbrev pub named_from : Name → Option ℕ → ℕ → List SourceLine → List Occurrence
named_from n declared i [] = []
named_from n declared i (l ∷ ls) = named_on n (is_place i declared) (i + 1) l ++ named_from n declared (i + 1) ls

-- where the lines of a source name something
abbrev pub occurrences : Name → Bool → List SourceLine → List Occurrence
occurrences n is_wanted lines = named_from n (declaration n is_wanted (edits_of lines)) 0 lines
