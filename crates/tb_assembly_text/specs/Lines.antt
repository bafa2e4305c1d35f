-- The statements of a line of text.
use Rattle.std.specs.Prelude.{◌≡◌, ℕ, ◌+◌, Bool, true, false, ◌&&◌, ◌||◌, not, Option, Some, None, Result, Ok, Err, List, [], ◌∷◌, ◌++◌, drop, length, codes, eqb, if◌then◌else◌, IfOk}
use Rattle.tb_assembly_text.specs.declared.faults.Fault.{Fault}
use Rattle.tb_assembly_text.specs.declared.faults.FaultKind.{FaultKind}
use Rattle.tb_assembly_text.specs.declared.faults.FaultKind.TheVariants.{Reserved, UnknownDirective, WantsEquals, WantsItem}
use Rattle.tb_assembly_text.specs.declared.faults.LineError.{LineError}
use Rattle.tb_assembly_text.specs.declared.faults.LineError.TheVariants.{Bad, NoMemory}
use Rattle.tb_assembly_text.specs.declared.tokens.Sign.{Sign}
use Rattle.tb_assembly_text.specs.declared.tokens.Sign.TheVariants.{Star, Equals, Colon}
use Rattle.tb_assembly_text.specs.Names.{full_name, scope_after, spells}
use Rattle.tb_assembly_text.specs.Tokens.{Placed, tokens_of}
use Rattle.tb_assembly_text.specs.Words.{is_item}
use Rattle.tb_assembly_text.specs.Expressions.{column_at, whole}
use Rattle.tb_assembly_text.specs.Operands.{is_none, sign_at, word_at}
use Rattle.tb_assembly_text.specs.Statements.{Meant, labels, assigns, begins, Said, reading, and_then, word_item}

-- what stands behind `*`: `=` and an address
abbrev pub origin_by : Option Sign → List ℕ → ℕ → List Placed → Result Meant Fault
origin_by (Some Equals) scope end ts = reading begins (whole scope end (drop 1 ts))
origin_by s scope end ts = Err (record { column = column_at end ts; kind = WantsEquals })

-- `* = e`, from the star on
abbrev pub origin : List ℕ → ℕ → List Placed → Result Meant Fault
origin scope end ts = origin_by (sign_at (drop 1 ts)) scope end (drop 1 ts)

-- the one statement at a column
abbrev pub alone : ℕ → Result Meant Fault → Result (List Said) Fault
alone c r = reading (λ m. (c, m) ∷ []) r

-- what a sign begins: only the star begins a statement
abbrev pub sign_item : Option Sign → List ℕ → ℕ → ℕ → List Placed → Result (List Said) Fault
sign_item (Some Star) scope end c ts = alone c (origin scope end ts)
sign_item s scope end c ts = Err (record { column = c; kind = WantsItem })

-- an instruction or a directive by its word, or what a sign begins
abbrev pub first_item : Option (List ℕ) → List ℕ → ℕ → List Placed → Result (List Said) Fault
first_item (Some w) scope end ts = alone (column_at end ts) (word_item scope end (column_at end ts) w (drop 1 ts))
first_item None scope end ts = sign_item (sign_at ts) scope end (column_at end ts) ts

-- what a line has besides a label: nothing, an instruction or a directive
abbrev pub rest_of_line : List ℕ → ℕ → List Placed → Result (List Said) Fault
rest_of_line scope end ts = if is_none ts then Ok [] else first_item (word_at ts) scope end ts

-- whether a word begins with `!`
abbrev pub is_marked : List ℕ → Bool
is_marked [] = false
is_marked (b ∷ bs) = eqb b 33

-- why a word can't be a label or the name of a value
abbrev pub label_fault : List ℕ → Option FaultKind
label_fault w = if spells w (codes "A") then Some Reserved else if is_marked w then Some UnknownDirective else None

-- a name, unless the word can't be one
abbrev pub name_unless : Option FaultKind → ℕ → List ℕ → Result (List ℕ) Fault
name_unless (Some k) c n = Err (record { column = c; kind = k })
name_unless None c n = Ok n

-- the name that a label or a value gets
abbrev pub name_of : List ℕ → ℕ → List ℕ → Result (List ℕ) Fault
name_of scope c w = name_unless (label_fault w) c (full_name scope w)

-- a label before the other statements of its line
abbrev pub after_label : ℕ → List ℕ → Result (List Said) Fault → Result (List Said) Fault
after_label c n r = reading (λ ss. (c, labels n) ∷ ss) r

-- a label at a column, and what follows it, which may name what belongs to the label
abbrev pub labelled : List ℕ → ℕ → ℕ → List ℕ → List Placed → Result (List Said) Fault
labelled scope end c w ts = and_then (name_of scope c w) (λ n. after_label c n (rest_of_line (scope_after scope w) end ts))

-- `NAME = e`, with the tokens behind the sign
abbrev pub assigned : List ℕ → ℕ → ℕ → List ℕ → List Placed → Result (List Said) Fault
assigned scope end c w ts = and_then (name_of scope c w) (λ n. alone c (reading (assigns n) (whole scope end ts)))

-- whether a word begins with a full stop
abbrev pub is_dotted : List ℕ → Bool
is_dotted [] = false
is_dotted (b ∷ bs) = eqb b 46

-- whether a sign begins a statement
abbrev pub is_star : Option Sign → Bool
is_star (Some Star) = true
is_star s = false

-- whether tokens may stand behind a label: none, or a statement by its word or its sign
abbrev pub may_follow_by : Option (List ℕ) → List Placed → Bool
may_follow_by (Some w) ts = is_item w
may_follow_by None ts = is_none ts || is_star (sign_at ts)

abbrev pub may_follow : List Placed → Bool
may_follow ts = may_follow_by (word_at ts) ts

-- whether a word names no directive: it begins with a full stop, and what stands behind it can't stand behind a label
abbrev pub is_unknown : List ℕ → List Placed → Bool
is_unknown w ts = is_dotted w && not (may_follow ts)

-- a word that is no statement's: a label, or a directive that is unknown
abbrev pub plain_word : List ℕ → ℕ → ℕ → List ℕ → List Placed → Result (List Said) Fault
plain_word scope end c w ts = if is_unknown w ts then Err (record { column = c; kind = UnknownDirective }) else labelled scope end c w ts

-- a line that begins with a word, by the sign behind it
abbrev pub word_line_by : Option Sign → List ℕ → ℕ → List ℕ → List Placed → Result (List Said) Fault
word_line_by (Some Equals) scope end w ts = assigned scope end (column_at end ts) w (drop 1 (drop 1 ts))
word_line_by (Some Colon) scope end w ts = labelled scope end (column_at end ts) w (drop 1 (drop 1 ts))
word_line_by s scope end w ts = if is_item w then rest_of_line scope end ts else plain_word scope end (column_at end ts) w (drop 1 ts)

-- a line that begins with a word: the name of a value, a label, an instruction or a directive
abbrev pub word_line : List ℕ → ℕ → List ℕ → List Placed → Result (List Said) Fault
word_line scope end w ts = word_line_by (sign_at (drop 1 ts)) scope end w ts

-- a line by its first word, or without one
abbrev pub line_by : Option (List ℕ) → List ℕ → ℕ → List Placed → Result (List Said) Fault
line_by (Some w) scope end ts = word_line scope end w ts
line_by None scope end ts = rest_of_line scope end ts

-- the statements of a line by its tokens
abbrev pub line_statements : List ℕ → ℕ → List Placed → Result (List Said) Fault
line_statements scope end ts = line_by (word_at ts) scope end ts

-- the statements of a line after a plain label
abbrev pub said_in : List ℕ → List ℕ → Result (List Said) Fault
said_in scope line = and_then (tokens_of line) (line_statements scope (length line + 1))

-- the last plain label after a line that begins with a word, by the sign behind it
abbrev pub scope_by : Option Sign → List ℕ → List ℕ → List ℕ
scope_by (Some Equals) scope w = scope
scope_by (Some Colon) scope w = scope_after scope w
scope_by s scope w = if is_item w then scope else scope_after scope w

-- the last plain label after a line that begins with a word
abbrev pub scope_of_word : List ℕ → List ℕ → List Placed → List ℕ
scope_of_word scope w ts = scope_by (sign_at (drop 1 ts)) scope w

-- the last plain label after a line, by its first word
abbrev pub scope_with : Option (List ℕ) → List ℕ → List Placed → List ℕ
scope_with (Some w) scope ts = scope_of_word scope w ts
scope_with None scope ts = scope

-- the last plain label after a line
abbrev pub scope_of_line : List ℕ → List Placed → List ℕ
scope_of_line scope ts = scope_with (word_at ts) scope ts

-- the last plain label after a line that is read
abbrev pub IsScopeAfter : List ℕ → List ℕ → List ℕ → Type 0
IsScopeAfter scope line new = IfOk (tokens_of line) (λ ts. new ≡ scope_of_line scope ts)

-- the statements of a line, or of a part of it, are put behind the others
abbrev pub Pushes : {U : Type 0} → Result (List Said) Fault → List Said → Result U LineError → List Said → Type 0
Pushes wanted old (Ok u) new = reading (λ ss. old ++ ss) wanted ≡ Ok new
Pushes wanted old (Err (Bad f)) new = wanted ≡ Err f
Pushes wanted old (Err NoMemory) new = Unit {0}
