-- PRINT is not read as PR: INT begins no list of items.
use Rattle.std.proofs.Common.{inl, inr, Bool, ◌≡◌, ◌≢◌, ℕ, suc, ◌+◌, List, [], ◌∷◌, length, Option, Some, None, refl, sym, ap, ◌∙◌, arith}
use Rattle.std.specs.Prelude.{codes}
use Rattle.tb_basic_syntax.specs.Source.{Expression, Item, Variable}
use Rattle.tb_basic_grammar.specs.Reading.{Found, behind_word, variable_at, front_of, factor_by, term_by, whole_by, whole_at}
use Rattle.tb_basic_grammar.specs.Statements.{ReadsItem, value, quotation, Separates, comma, semicolon, Prints, nothing, last, next}
use Rattle.tb_basic_grammar.proofs.Steps.{some_or_none, behind_word_is}
use Rattle.tb_basic_grammar.proofs.Complete.{Follows, nothing_follows, front_read}
use Rattle.tb_basic_grammar.proofs.Lists.{separator_follows}

-- the variable I, and then N
int_front : (t : List ℕ) → front_of (73 ∷ 78 ∷ 84 ∷ t) ≡ Some (record { tree = Variable 8; large = None; rest = 78 ∷ 84 ∷ t })
unfolding front_of whole_at whole_by term_by factor_by variable_at
int_front t = let n : length (73 ∷ 78 ∷ 84 ∷ t) + 1 ≡ suc (length (73 ∷ 78 ∷ 84 ∷ t)) = omega arith in rw n refl

abbrev first_byte : List ℕ → ℕ
first_byte [] = 0
first_byte (b ∷ text) = b

abbrev rest_in : Option Found → List ℕ
rest_in None = []
rest_in (Some f) = f.rest

int_value : (text : List ℕ) (e : Expression) (large : Option ℕ) (rest t : List ℕ) → front_of text
    ≡ Some (record { tree = e; large = large; rest = rest }) → text ≡ 73 ∷ 78 ∷ 84 ∷ t → rest ≡ 78 ∷ 84 ∷ t
int_value text e large rest t r h = ap rest_in (sym r) ∙ ap (λ (x : List ℕ). rest_in (front_of x)) h ∙ ap rest_in (int_front t)

-- an item that begins with INT is the variable I, with N after it
int_item : {text : List ℕ} {item : Item} {large : Option ℕ} {rest : List ℕ} → ReadsItem text item large rest → Follows rest → (t : List ℕ)
    → text ≡ 73 ∷ 78 ∷ 84 ∷ t → rest ≡ 78 ∷ 84 ∷ t
int_item (value text e large rest r) f t h = int_value text e large rest t (front_read text e large rest r f) h
int_item (quotation bytes rest h) f t e = absurd (omega (arith, ap first_byte e))

sign_no_n : {sign : ℕ} {zone : List Item} → Separates sign zone → sign ≢ 78
sign_no_n comma e = omega (arith, e)
sign_no_n semicolon e = omega (arith, e)

no_int : {ends : Bool} {text : List ℕ} {items : List Item} {ends_line : Bool} {large : Option ℕ} → Prints ends text items ends_line large → (t : List ℕ) → text ≢ 73 ∷ 78 ∷ 84 ∷ t
no_int (nothing ends) t h = omega (arith, ap first_byte h)
no_int (last ends text item large i) t h = omega (arith, ap first_byte (int_item i nothing_follows t h))
no_int (next ends text item la sign zone rest items ends_line lb i s p) t h = sign_no_n s (ap first_byte (int_item i (separator_follows rest s) t h))

-- no list of items begins with INT, so that PR and PRINT are told apart
pub int_begins_no_items : {ends : Bool} {text : List ℕ} {items : List Item} {ends_line : Bool} {large : Option ℕ}
    → Prints ends text items ends_line large → behind_word (codes "INT") text ≡ None
int_begins_no_items {text = text} p = elim (some_or_none (behind_word (codes "INT") text)) [
  | inl e ↦ e
  | inr e ↦ absurd (no_int p e.0 (behind_word_is (codes "INT") text e.0 e.1))
]
