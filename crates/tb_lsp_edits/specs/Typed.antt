-- What is typed before a place of a line.
use Rattle.std.specs.Prelude.{ℕ, zero, suc, ◌≡◌, ◌+◌, ◌-◌, Bool, true, false, ◌&&◌, ◌||◌, nat_le, List, [], ◌∷◌, drop, length, take, slice_get, Option, Some, option_map, if◌then◌else◌}
use Rattle.tb_basic_grammar.specs.declared.keywords.Keyword.TheVariants as keyword
use Rattle.tb_parser.specs.Tokens.{AreTokens}
use Rattle.tb_parser.specs.declared.lexer.Token.{Token}
use Rattle.tb_parser.specs.declared.lexer.TokenKind.{TokenKind}
use Rattle.tb_parser.specs.declared.lexer.TokenKind.TheVariants as kind
use Rattle.tb_lsp_edits.specs.declared.typed.Typed.{Typed}

-- a letter of either case
abbrev pub is_letter : ℕ → Bool
is_letter b = (nat_le 65 b && nat_le b 90) || (nat_le 97 b && nat_le b 122)

-- a digit
abbrev pub is_digit : ℕ → Bool
is_digit b = nat_le 48 b && nat_le b 57

-- how many bytes of a kind a text ends with, by how many are before it
abbrev pub ending : (ℕ → Bool) → ℕ → List ℕ → ℕ
ending is count [] = count
ending is count (b ∷ text) = ending is (if is b then count + 1 else 0) text

-- the kind of the last token
abbrev pub last_kind : List Token → Option TokenKind
last_kind ts = option_map (λ t. t.kind) (slice_get ts (length ts - 1))

-- GOTO or GOSUB
abbrev pub is_jump : Option TokenKind → Bool
is_jump (Some (kind.Keyword keyword.Goto)) = true
is_jump (Some (kind.Keyword keyword.Gosub)) = true
is_jump _ = false

-- REM and what follows it, and what begins nothing, as a text without its second quote
abbrev pub is_closed : Option TokenKind → Bool
is_closed (Some (kind.Keyword keyword.Rem)) = true
is_closed (Some kind.Remark) = true
is_closed (Some kind.Stray) = true
is_closed _ = false

-- the kind of the last token of a text
abbrev pub IsKindBefore : List ℕ → Option TokenKind → Type 0
IsKindBefore text k = (ts : List Token) × AreTokens text ts × (k ≡ last_kind ts)

-- a text without its last bytes, so many of them
abbrev pub without : ℕ → List ℕ → List ℕ
without count text = take (length text - count) text

-- a text, its last bytes, so many of them, and the kind of the token before these
pub record IsSplit (text : List ℕ) (count : ℕ) (t : Typed) : Type 0 where
  pub base : t.base.now ≡ without count text
  pub part : t.part.now ≡ drop (length text - count) text
  pub before : IsKindBefore (without count text) t.before

-- how many digits are typed, by the token before them: all, or none
abbrev pub digits_by : Option TokenKind → ℕ → ℕ
digits_by before count = if is_jump before then count else 0

-- how many digits are typed
abbrev pub AreDigitsTyped : List ℕ → ℕ → Type 0
AreDigitsTyped text count =
    (before : Option TokenKind) × IsKindBefore (without (ending is_digit 0 text) text) before × (count ≡ digits_by before (ending is_digit 0 text))

-- what is typed: letters, where there are some, else digits
abbrev pub TypedBy : ℕ → List ℕ → Typed → Type 0
TypedBy zero text t = (digits : ℕ) × AreDigitsTyped text digits × IsSplit text digits t
TypedBy (suc n) text t = IsSplit text (suc n) t

-- what is typed at the end of a text
abbrev pub IsTyped : List ℕ → Typed → Type 0
IsTyped text t = TypedBy (ending is_letter 0 text) text t
