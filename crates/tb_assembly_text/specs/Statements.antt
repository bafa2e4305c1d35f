-- The statements of a line.
use Rattle.std.specs.Prelude.{ℕ, true, false, ◌||◌, Option, Some, None, option_map, Result, Ok, Err, List, [], ◌∷◌, map, eqb, if◌then◌else◌}
use Rattle.tb_opcodes.specs.declared.Mnemonic.{Mnemonic}
use Rattle.tb_assembly_text.specs.declared.faults.Fault.{Fault}
use Rattle.tb_assembly_text.specs.declared.faults.FaultKind.{FaultKind}
use Rattle.tb_assembly_text.specs.declared.faults.FaultKind.TheVariants.{WantsText, UnknownDirective, UnknownMnemonic}
use Rattle.tb_assembly_text.specs.declared.statements.Clause.{Clause}
use Rattle.tb_assembly_text.specs.declared.statements.Clause.TheVariants.{Label, Assign, Origin, Instruction, Bytes, Words, Fill, Align, Include}
use Rattle.tb_assembly_text.specs.declared.statements.Statement.{Statement}
use Rattle.tb_assembly_text.specs.declared.words.Directive.{Directive}
use Rattle.tb_assembly_text.specs.declared.words.Directive.TheVariants.{Byte as ByteWord, Word as WordWord, Text as TextWord, Fill as FillWord, Align as AlignWord, Origin as OriginWord, Include as IncludeWord}
use Rattle.tb_assembly_text.specs.Tokens.{Placed}
use Rattle.tb_assembly_text.specs.Words.{mnemonic_named, directive_of}
use Rattle.tb_assembly_text.specs.Expressions.{Sum, sum_of, column_at, whole}
use Rattle.tb_assembly_text.specs.Operands.{Form, form_of, operand}
use Rattle.tb_assembly_text.specs.Lists.{Content, content_of, Segment, segments, behind_comma, contents, values, lone_text}

-- what a statement is: a label, a name for a value, the address of what follows, an instruction, bytes, words, bytes of one value,
-- bytes up to a multiple, or the statements of another file
pub data Meant : Type 0 where
  labels : List ℕ → Meant
  assigns : List ℕ → Sum → Meant
  begins : Sum → Meant
  instructs : Mnemonic → Form → Meant
  lays : List Content → Meant
  lays_words : List Sum → Meant
  fills : Sum → Option Sum → Meant
  aligns : Sum → Meant
  includes : List ℕ → Meant

-- a clause of the code as contracts see it
abbrev pub clause_of : Clause → Meant
clause_of (Label n) = labels n.letters.items
clause_of (Assign n e) = assigns n.letters.items (sum_of e)
clause_of (Origin e) = begins (sum_of e)
clause_of (Instruction m s) = instructs m (form_of s)
clause_of (Bytes v) = lays (map content_of v.items)
clause_of (Words v) = lays_words (map sum_of v.items)
clause_of (Fill n v) = fills (sum_of n) (option_map sum_of v)
clause_of (Align e) = aligns (sum_of e)
clause_of (Include p) = includes p.items

-- a statement: its column, and what it is
abbrev pub Said : Type 0
Said = ℕ × Meant

-- a statement of the code as contracts see it
abbrev pub said_of : Statement → Said
said_of s = (s.column, clause_of s.clause)

-- what is made of something that is read, unless it is refused
abbrev pub reading : {A B : Type 0} → (A → B) → Result A Fault → Result B Fault
reading f (Ok x) = Ok (f x)
reading f (Err e) = Err e

-- what is read next after something that is read, unless that is refused
abbrev pub and_then : {A B : Type 0} → Result A Fault → (A → Result B Fault) → Result B Fault
and_then (Ok x) f = f x
and_then (Err e) f = Err e

-- a count, and the value behind it
abbrev pub fill_of : List ℕ → ℕ → Sum → Option (List Placed) → Result Meant Fault
fill_of scope end n None = Ok (fills n None)
fill_of scope end n (Some ts) = reading (λ v. fills n (Some v)) (whole scope end ts)

-- how many bytes, and of which value: all that stands behind the first comma
abbrev pub filled_by : List ℕ → ℕ → List Segment → Option (List Placed) → Result Meant Fault
filled_by scope end [] next = Ok (fills (end, []) None)
filled_by scope end (s ∷ ss) next = and_then (whole scope s.1 s.0) (λ n. fill_of scope end n next)

-- `.fill` with its tokens
abbrev pub filled : List ℕ → ℕ → List Placed → Result Meant Fault
filled scope end ts = filled_by scope end (segments end ts) (behind_comma ts)

-- the path of a file, if there is one
abbrev pub path_or : ℕ → Option (List ℕ) → Result Meant Fault
path_or c (Some p) = Ok (includes p)
path_or c None = Err (record { column = c; kind = WantsText })

-- `.include` with its tokens
abbrev pub included : ℕ → List Placed → Result Meant Fault
included end ts = path_or (column_at end ts) (lone_text ts)

-- what a directive is with the tokens behind it
abbrev pub directed : List ℕ → ℕ → Directive → List Placed → Result Meant Fault
directed scope end ByteWord ts = reading lays (contents scope false (segments end ts))
directed scope end TextWord ts = reading lays (contents scope true (segments end ts))
directed scope end WordWord ts = reading lays_words (values scope (segments end ts))
directed scope end FillWord ts = filled scope end ts
directed scope end AlignWord ts = reading aligns (whole scope end ts)
directed scope end OriginWord ts = reading begins (whole scope end ts)
directed scope end IncludeWord ts = included end ts

-- why a word is neither an instruction nor a directive
abbrev pub unnamed : List ℕ → FaultKind
unnamed [] = UnknownMnemonic
unnamed (b ∷ bs) = if eqb b 46 || eqb b 33 then UnknownDirective else UnknownMnemonic

-- a directive, or what is refused of a word that names none
abbrev pub directive_item : Option Directive → List ℕ → ℕ → ℕ → List ℕ → List Placed → Result Meant Fault
directive_item (Some d) scope end c w ts = directed scope end d ts
directive_item None scope end c w ts = Err (record { column = c; kind = unnamed w })

-- an instruction, or else a directive
abbrev pub named_item : Option Mnemonic → List ℕ → ℕ → ℕ → List ℕ → List Placed → Result Meant Fault
named_item (Some m) scope end c w ts = reading (instructs m) (operand scope end ts)
named_item None scope end c w ts = directive_item (directive_of w) scope end c w ts

-- an instruction or a directive, by its word at a column and the tokens behind it
abbrev pub word_item : List ℕ → ℕ → ℕ → List ℕ → List Placed → Result Meant Fault
word_item scope end c w ts = named_item (mnemonic_named w) scope end c w ts
