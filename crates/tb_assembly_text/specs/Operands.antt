-- Operands of instructions.
use Rattle.std.specs.Prelude.{ℕ, Bool, true, false, Option, Some, None, option_and_then, Result, Ok, Err, List, [], ◌∷◌, drop, codes, if◌then◌else◌}
use Rattle.tb_assembly_text.specs.declared.faults.Fault.{Fault}
use Rattle.tb_assembly_text.specs.declared.faults.FaultKind.TheVariants.{WantsRegister, Extra}
use Rattle.tb_assembly_text.specs.declared.tokens.Sign.{Sign}
use Rattle.tb_assembly_text.specs.declared.tokens.Sign.TheVariants.{Left, Right, Comma, Colon, Hash}
use Rattle.tb_assembly_text.specs.declared.operands.Width.{Width}
use Rattle.tb_assembly_text.specs.declared.operands.Width.TheVariants.{Free, ZeroPage, Absolute}
use Rattle.tb_assembly_text.specs.declared.operands.Index.{Index}
use Rattle.tb_assembly_text.specs.declared.operands.Index.TheVariants.{Without, X, Y}
use Rattle.tb_assembly_text.specs.declared.operands.Shape.{Shape}
use Rattle.tb_assembly_text.specs.declared.operands.Shape.TheVariants.{Nothing, Accumulator, Immediate, Direct, Indirect, ByX, ByY}
use Rattle.tb_assembly_text.specs.declared.operands.Ending.{Ending}
use Rattle.tb_assembly_text.specs.declared.operands.Ending.TheVariants.{Plain, X as XEnding, Y as YEnding, GoesOn, Wrong}
use Rattle.tb_assembly_text.specs.Names.{spells}
use Rattle.tb_assembly_text.specs.Tokens.{Placed, word, sign}
use Rattle.tb_assembly_text.specs.Expressions.{Sum, sum_of, column_at, expression, whole}

-- the form of an operand: nothing, `A`, `#e`, an address with a register, `(e)`, `(e,X)`, `(e),Y`
pub data Form : Type 0 where
  nothing : Form
  accumulator : Form
  immediate : Sum → Form
  direct_by : Width → Sum → Index → Form
  indirect : Sum → Form
  by_x : Sum → Form
  by_y : Sum → Form

-- a form of the code as contracts see it
abbrev pub form_of : Shape → Form
form_of Nothing = nothing
form_of Accumulator = accumulator
form_of (Immediate e) = immediate (sum_of e)
form_of (Direct w e i) = direct_by w (sum_of e) i
form_of (Indirect e) = indirect (sum_of e)
form_of (ByX e) = by_x (sum_of e)
form_of (ByY e) = by_y (sum_of e)

-- whether there is no token
abbrev pub is_none : List Placed → Bool
is_none [] = true
is_none (t ∷ ts) = false

-- the sign that comes first
abbrev pub sign_at : List Placed → Option Sign
sign_at [] = None
sign_at ((c, sign s) ∷ ts) = Some s
sign_at ((c, l) ∷ ts) = None

-- the word that comes first
abbrev pub word_at : List Placed → Option (List ℕ)
word_at [] = None
word_at ((c, word w) ∷ ts) = Some w
word_at ((c, l) ∷ ts) = None

-- the register of a word
abbrev pub register_of : List ℕ → Option Index
register_of w = if spells w (codes "X") then Some X else if spells w (codes "Y") then Some Y else None

-- the register that some tokens are
abbrev pub register_at : List Placed → Option Index
register_at (t ∷ []) = option_and_then register_of (word_at (t ∷ []))
register_at ts = None

-- whether a word is `A`
abbrev pub is_a : Option (List ℕ) → Bool
is_a None = false
is_a (Some w) = spells w (codes "A")

-- whether some tokens are `A` alone
abbrev pub is_accumulator : List Placed → Bool
is_accumulator (t ∷ []) = is_a (word_at (t ∷ []))
is_accumulator ts = false

-- the width that a word before a colon forces: `a:` two bytes, `z:` one
abbrev pub width_of : List ℕ → Option Width
width_of w = if spells w (codes "A") then Some Absolute else if spells w (codes "Z") then Some ZeroPage else None

-- the width of a word, if a colon is behind it
abbrev pub with_colon : Option Sign → List ℕ → Option Width
with_colon (Some Colon) w = width_of w
with_colon s w = None

-- the width that is forced at the front
abbrev pub forced_width : List Placed → Option Width
forced_width ts = option_and_then (with_colon (sign_at (drop 1 ts))) (word_at ts)

-- a register, or what is refused in its place
abbrev pub register_or : ℕ → Option Index → Result Index Fault
register_or c (Some i) = Ok i
register_or c None = Err (record { column = c; kind = WantsRegister })

-- what a sign behind an address makes of the tokens from it on: a comma, and a register
abbrev pub behind_address : Option Sign → ℕ → List Placed → Result Index Fault
behind_address (Some Comma) end ts = register_or (column_at end (drop 1 ts)) (register_at (drop 1 ts))
behind_address s end ts = Err (record { column = column_at end ts; kind = Extra })

-- what follows an address: nothing, or a comma and a register
abbrev pub indexed : ℕ → List Placed → Result Index Fault
indexed end [] = Ok Without
indexed end (t ∷ ts) = behind_address (sign_at (t ∷ ts)) end (t ∷ ts)

-- an address with its register
abbrev pub with_index : Width → Sum → Result Index Fault → Result Form Fault
with_index w e (Ok i) = Ok (direct_by w e i)
with_index w e (Err f) = Err f

-- an address by its expression, and what follows it
abbrev pub with_address : ℕ → Width → Result (Sum × List Placed) Fault → Result Form Fault
with_address end w (Err f) = Err f
with_address end w (Ok r) = with_index w r.0 (indexed end r.1)

-- an address, and a register behind it
abbrev pub direct : List ℕ → ℕ → Width → List Placed → Result Form Fault
direct scope end w ts = with_address end w (expression scope end ts)

-- an address of a forced width, or of a free one
abbrev pub forced : Option Width → List ℕ → ℕ → List Placed → Result Form Fault
forced (Some w) scope end ts = direct scope end w (drop 2 ts)
forced None scope end ts = direct scope end Free ts

-- an operand without a parenthesis in front
abbrev pub unbracketed : List ℕ → ℕ → List Placed → Result Form Fault
unbracketed scope end ts =
    if is_none ts then Ok nothing else
    if is_accumulator ts then Ok accumulator else forced (forced_width ts) scope end ts

-- whether a word is `X` where a closing parenthesis is behind it
abbrev pub is_x_before : Option (List ℕ) → Option Sign → Bool
is_x_before (Some w) (Some Right) = spells w (codes "X")
is_x_before w s = false

-- whether some tokens are `X` and a closing parenthesis
abbrev pub is_x_right : List Placed → Bool
is_x_right (t ∷ u ∷ []) = is_x_before (word_at (t ∷ u ∷ [])) (sign_at (u ∷ []))
is_x_right ts = false

-- what follows a comma after an opening parenthesis
abbrev pub after_comma : ℕ → List Placed → Ending
after_comma end ts = if is_x_right ts then XEnding else Wrong (column_at end ts)

-- only the register Y may follow a closing parenthesis
abbrev pub only_y : ℕ → Option Index → Ending
only_y c (Some Y) = YEnding
only_y c i = Wrong c

-- what a sign after a closing parenthesis makes of the tokens from it on
abbrev pub by_sign_after : Option Sign → ℕ → List Placed → Ending
by_sign_after (Some Comma) end ts = only_y (column_at end (drop 1 ts)) (register_at (drop 1 ts))
by_sign_after s end ts = GoesOn

-- what follows a closing parenthesis
abbrev pub after_right : ℕ → List Placed → Ending
after_right end [] = Plain
after_right end (t ∷ ts) = by_sign_after (sign_at (t ∷ ts)) end (t ∷ ts)

-- what a sign after the expression makes of the tokens from it on
abbrev pub by_bracket_sign : Option Sign → ℕ → List Placed → Ending
by_bracket_sign (Some Right) end ts = after_right end (drop 1 ts)
by_bracket_sign (Some Comma) end ts = after_comma end (drop 1 ts)
by_bracket_sign s end ts = GoesOn

-- what follows an expression after an opening parenthesis
abbrev pub after_bracket : ℕ → List Placed → Ending
after_bracket end ts = by_bracket_sign (sign_at ts) end ts

-- the form by what follows an expression after an opening parenthesis; one that goes on has the parenthesis
abbrev pub with_ending : Ending → Sum → Result Form Fault → Result Form Fault
with_ending Plain e whole = Ok (indirect e)
with_ending XEnding e whole = Ok (by_x e)
with_ending YEnding e whole = Ok (by_y e)
with_ending (Wrong c) e whole = Err (record { column = c; kind = WantsRegister })
with_ending GoesOn e whole = whole

-- the form by the expression after an opening parenthesis; if there is none, the parenthesis is the expression's
abbrev pub with_inner : ℕ → Result (Sum × List Placed) Fault → Result Form Fault → Result Form Fault
with_inner end (Err f) whole = whole
with_inner end (Ok r) whole = with_ending (after_bracket end r.1) r.0 whole

-- an operand that begins with a parenthesis
abbrev pub bracketed : List ℕ → ℕ → List Placed → Result Form Fault
bracketed scope end ts = with_inner end (expression scope end (drop 1 ts)) (direct scope end Free ts)

-- an immediate operand by its expression
abbrev pub as_immediate : Result Sum Fault → Result Form Fault
as_immediate (Ok e) = Ok (immediate e)
as_immediate (Err f) = Err f

-- an operand by the sign in front
abbrev pub by_sign : Option Sign → List ℕ → ℕ → List Placed → Result Form Fault
by_sign (Some Hash) scope end ts = as_immediate (whole scope end (drop 1 ts))
by_sign (Some Left) scope end ts = bracketed scope end ts
by_sign s scope end ts = unbracketed scope end ts

-- the operand of an instruction by the tokens behind it
abbrev pub operand : List ℕ → ℕ → List Placed → Result Form Fault
operand scope end ts = by_sign (sign_at ts) scope end ts
