-- The lists of PRINT and INPUT: what is read is in the grammar, and what is in the grammar is read.
use Rattle.std.proofs.Common.{◌≡◌, ◌≢◌, ℕ, zero, suc, ◌-◌, ◌<◌, ◌≤◌, Bool, true, false, List, [], ◌∷◌, ◌++◌, inl, inr}
use Rattle.std.proofs.Common.{length, Option, Some, None, refl, sym, ap, subst, ◌∙◌, arith, ◌==◌, length-append}
use Rattle.std.specs.Option.{option_or}
use Rattle.std.specs.Prelude.{All}
use Rattle.std.proofs.lemmas.Bool.{eqb-true, ne_eqb}
use Rattle.std.proofs.lemmas.List.Elements.{All-nil, All-cons, All-head, All-tail}
use Rattle.tb_basic_syntax.specs.Source.{Item, Text, Zone}
use Rattle.tb_basic_grammar.specs.Grammar.{IsLetter}
use Rattle.tb_basic_grammar.specs.Reading.{◌>>=◌, behind, letter_at, front_of}
use Rattle.tb_basic_grammar.specs.Statements.{ReadsItem, value, quotation, Separates, comma, semicolon, Prints, nothing, last, next, Variables, one, more}
use Rattle.tb_basic_grammar.specs.StatementReading.{quotation_at, FoundItem, as_text, as_value, item_at, between, Printed, with_items, others_by, items_at, letters_after, letters_at}
use Rattle.tb_basic_grammar.proofs.Steps.{some_is, bind_some, when_cases, chosen, behind_is, letter_found}
use Rattle.tb_basic_grammar.proofs.Sound.{front_is}
use Rattle.tb_basic_grammar.proofs.Complete.{shorter, Follows, nothing_follows, front_read, is_letter_true, no_other}

-- texts between quotes

abbrev NoQuote : ℕ → Type 0
NoQuote b = b ≢ 34

abbrev IsQuotation : List ℕ → List ℕ × List ℕ → Type 0
IsQuotation text q = (text ≡ q.0 ++ 34 ∷ q.1) × All NoQuote q.0

no_quote : (b : ℕ) → (b == 34) ≡ false → NoQuote b
no_quote b h e = let g : (34 == 34) ≡ false = subst (λ (n : ℕ). (n == 34) ≡ false) e h in absurd cc

quotation_is : (text : List ℕ) (q : List ℕ × List ℕ) → quotation_at text ≡ Some q → IsQuotation text q
quotation_is [] q e = absurd cc
quotation_is (b ∷ text) q e =
    elim (chosen (b == 34) _ _ (Some q) e) [
      | inl h ↦ subst (IsQuotation (b ∷ text)) (some_is ([], text) q h.1) (ap (λ (n : ℕ). n ∷ text) (eqb-true b 34 h.0), All-nil NoQuote)
      | inr h ↦
          let a = bind_some (quotation_at text) (λ q. Some (b ∷ q.0, q.1)) q h.1 in
          let again = quotation_is text a.0 a.1 in
          subst (IsQuotation (b ∷ text)) (some_is (b ∷ a.0.0, a.0.1) q a.2) (ap (λ (t : List ℕ). b ∷ t) again.0, All-cons NoQuote b a.0.0 (no_quote b h.0) again.1)
    ]

quotation_read : (bytes rest : List ℕ) → All NoQuote bytes → quotation_at (bytes ++ 34 ∷ rest) ≡ Some (bytes, rest)
quotation_read [] rest h = refl
quotation_read (b ∷ bytes) rest h = rw (ne_eqb b 34 (All-head NoQuote b bytes h), quotation_read bytes rest (All-tail NoQuote b bytes h)) refl

-- items

-- an item that is read is in the grammar
pub item_is : (text : List ℕ) (f : FoundItem) → item_at text ≡ Some f → ReadsItem text f.item f.large f.rest
unfolding item_at
item_is text f e =
    elim (when_cases (behind 34 text) _ _ (Some f) e) [
      | inl h ↦
          let a = bind_some (front_of text) (λ f. Some (as_value f)) f h.1 in
          subst (λ (f : FoundItem). ReadsItem text f.item f.large f.rest) (some_is (as_value a.0) f a.2) (value text a.0.tree a.0.large a.0.rest (front_is text a.0 a.1))
      | inr h ↦
          let a = bind_some (quotation_at h.0) (λ q. Some (as_text q)) f h.2 in
          let q = quotation_is h.0 a.0 a.1 in
          let spelled : text ≡ 34 ∷ a.0.0 ++ 34 ∷ a.0.1 = behind_is 34 text h.0 h.1 ∙ ap (λ (t : List ℕ). 34 ∷ t) q.0 in
          subst (λ (f : FoundItem). ReadsItem text f.item f.large f.rest) (some_is (as_text a.0) f a.2)
          (subst (λ (t : List ℕ). ReadsItem t (Text a.0.0) None a.0.1) (sym spelled) (quotation a.0.0 a.0.1 q.1))
    ]

-- an item takes at least one byte
pub item_shorter : {text : List ℕ} {item : Item} {large : Option ℕ} {rest : List ℕ} → ReadsItem text item large rest → length rest < length text
item_shorter (value text e large rest r) = shorter r
item_shorter (quotation bytes rest h) = omega (arith, length-append bytes (34 ∷ rest))

-- a byte that is read as a separator is one in the grammar
pub separator_is : (b : ℕ) (zone : List Item) → between b ≡ Some zone → Separates b zone
separator_is b zone e =
    elim (chosen (b == 44) _ _ (Some zone) e) [
      | inl h ↦ subst (λ (b : ℕ). Separates b zone) (sym (eqb-true b 44 h.0)) (subst (Separates 44) (some_is (Zone ∷ []) zone h.1) comma)
      | inr h ↦ elim (chosen (b == 59) _ _ (Some zone) h.1) [
        | inl g ↦ subst (λ (b : ℕ). Separates b zone) (sym (eqb-true b 59 g.0)) (subst (Separates 59) (some_is [] zone g.1) semicolon)
        | inr g ↦ let e' = g.1 in absurd cc
      ]
    ]

-- the first of two places is the first one, if there is no second
pub no_second : (p : Option ℕ) → option_or p None ≡ p
no_second None = refl
no_second (Some n) = refl

abbrev IsPrinted : Bool → List ℕ → Printed → Type 0
IsPrinted ends text p = Prints ends text p.items p.ends_line p.large

-- what follows an item is in the grammar, if the reader of the others finds nothing else
others_is : (others : List ℕ → Option Printed) → ((text : List ℕ) (p : Printed) → others text ≡ Some p → IsPrinted false text p)
    → (ends : Bool) (text : List ℕ) (i : FoundItem) → ReadsItem text i.item i.large i.rest
    → (rest : List ℕ) → i.rest ≡ rest → (p : Printed) → others_by others rest ≡ Some p → IsPrinted ends text (with_items (i.item ∷ []) i.large p)
others_is others is ends text i r [] h p e =
    let made : Printed = record { items = []; ends_line = true; large = None } in
    subst (λ (p : Printed). IsPrinted ends text (with_items (i.item ∷ []) i.large p)) (some_is made p e)
    (rw (no_second i.large) (last ends text i.item i.large (subst (ReadsItem text i.item i.large) h r)))
others_is others is ends text i r (b ∷ rest) h p e =
    let z = bind_some (between b) (λ zone. others rest >>= λ p. Some (with_items zone None p)) p e in
    let o = bind_some (others rest) (λ p. Some (with_items z.0 None p)) p z.2 in
    subst (λ (p : Printed). IsPrinted ends text (with_items (i.item ∷ []) i.large p)) (some_is (with_items z.0 None o.0) p o.2)
    (next ends text i.item i.large b z.0 rest o.0.items o.0.ends_line o.0.large (subst (ReadsItem text i.item i.large) h r) (separator_is b z.0 z.1) (is rest o.0 o.1))

-- items that are read are in the grammar
pub items_is : (k : ℕ) (ends : Bool) (text : List ℕ) (p : Printed) → items_at k ends text ≡ Some p → IsPrinted ends text p
items_is k ends [] p e =
    let made : Printed = record { items = []; ends_line = ends; large = None } in
    subst (IsPrinted ends []) (some_is made p e) (nothing ends)
items_is zero ends (b ∷ text) p e = absurd cc
items_is (suc k) ends (b ∷ text) p e =
    let i = bind_some (item_at (b ∷ text)) (λ i. others_by (items_at k false) i.rest >>= λ p. Some (with_items (i.item ∷ []) i.large p)) p e in
    let o = bind_some (others_by (items_at k false) i.0.rest) (λ p. Some (with_items (i.0.item ∷ []) i.0.large p)) p i.2 in
    subst (IsPrinted ends (b ∷ text)) (some_is (with_items (i.0.item ∷ []) i.0.large o.0) p o.2)
    (others_is (items_at k false) (items_is k false) ends (b ∷ text) i.0 (item_is (b ∷ text) i.0 i.1) i.0.rest refl o.0 o.1)

item_read : {text : List ℕ} {item : Item} {large : Option ℕ} {rest : List ℕ} → ReadsItem text item large rest → Follows rest → item_at text
    ≡ Some (record { item = item; large = large; rest = rest })
unfolding item_at
item_read (value text e large rest r) f = rw ((no_other r).0, front_read text e large rest r f) refl
item_read (quotation bytes rest h) f = rw (quotation_read bytes rest h) refl

-- a separator may follow an expression
pub separator_follows : {sign : ℕ} {zone : List Item} → (rest : List ℕ) → Separates sign zone → Follows (sign ∷ rest)
separator_follows rest comma = record { ends = record { no_digit = refl; no_random = refl }; no_term = refl; no_whole = refl }
separator_follows rest semicolon = record { ends = record { no_digit = refl; no_random = refl }; no_term = refl; no_whole = refl }

separator_read : {sign : ℕ} {zone : List Item} → Separates sign zone → between sign ≡ Some zone
separator_read comma = refl
separator_read semicolon = refl

-- reading items is reading one and then what follows it
pub items_step : (k : ℕ) (ends : Bool) (text : List ℕ) (i : FoundItem) → 0 < length text → item_at text ≡ Some i
    → items_at (suc k) ends text ≡ (others_by (items_at k false) i.rest >>= λ p. Some (with_items (i.item ∷ []) i.large p))
items_step k ends [] i h e = absurd (omega arith)
items_step k ends (b ∷ text) i h e = rw e refl

-- items in the grammar are read at every bound from the text's length on
pub items_read : {ends : Bool} {text : List ℕ} {items : List Item} {ends_line : Bool} {large : Option ℕ} → Prints ends text items ends_line large
    → (k : ℕ) → length text ≤ k → items_at k ends text ≡ Some (record { items = items; ends_line = ends_line; large = large })
items_read (nothing ends) k le = refl
items_read (last ends text item large r) zero le = let s = item_shorter r in absurd (omega arith)
items_read (last ends text item large r) (suc k) le =
    let s = item_shorter r in
    items_step k ends text (record { item = item; large = large; rest = [] }) s (item_read r nothing_follows) ∙ rw (no_second large) refl
items_read (next ends text item la sign zone rest items ends_line lb r s p) zero le = let s = item_shorter r in absurd (omega arith)
items_read (next ends text item la sign zone rest items ends_line lb r s p) (suc k) le =
    let h = item_shorter r in
    items_step k ends text (record { item = item; large = la; rest = sign ∷ rest }) (omega arith) (item_read r (separator_follows rest s))
    ∙ rw (separator_read s, items_read p k (omega arith)) refl

-- variables

letters_after_is : (others : List ℕ → Option (List ℕ)) → ((text letters : List ℕ) → others text ≡ Some letters → Variables text letters) → (v : ℕ) → IsLetter v
    → (rest letters : List ℕ) → letters_after others (v - 65) rest ≡ Some letters → Variables (v ∷ rest) letters
letters_after_is others is v h [] letters e = subst (Variables (v ∷ [])) (some_is ((v - 65) ∷ []) letters e) (one v h)
letters_after_is others is v h (b ∷ rest) letters e =
    elim (chosen (b == 44) _ None (Some letters) e) [
      | inl c ↦
          let a = bind_some (others rest) (λ letters. Some ((v - 65) ∷ letters)) letters c.1 in
          subst (λ (b : ℕ). Variables (v ∷ b ∷ rest) letters) (sym (eqb-true b 44 c.0))
          (subst (Variables (v ∷ 44 ∷ rest)) (some_is ((v - 65) ∷ a.0) letters a.2) (more v rest a.0 h (is rest a.0 a.1)))
      | inr c ↦ let e' = c.1 in absurd cc
    ]

-- variables that are read are in the grammar
pub letters_is : (k : ℕ) (text letters : List ℕ) → letters_at k text ≡ Some letters → Variables text letters
letters_is zero text letters e = absurd cc
letters_is (suc k) text letters e =
    let a = bind_some (letter_at text) (λ v. letters_after (letters_at k) v.0 v.1) letters e in
    let l = letter_found text a.0 a.1 in
    subst (λ (t : List ℕ). Variables t letters) (sym l.2)
    (letters_after_is (letters_at k) (letters_is k) l.0 l.1 a.0.1 letters (ap (λ (n : ℕ). letters_after (letters_at k) n a.0.1) (sym l.3) ∙ a.2))

-- variables in the grammar are read at every bound from the text's length on
pub letters_read : {text letters : List ℕ} → Variables text letters → (k : ℕ) → length text ≤ k → letters_at k text ≡ Some letters
letters_read (one v h) zero le = absurd (omega arith)
letters_read (one v h) (suc k) le = rw (is_letter_true v h) refl
letters_read (more v text letters h r) zero le = absurd (omega arith)
letters_read (more v text letters h r) (suc k) le = rw (is_letter_true v h, letters_read r k (omega arith)) refl
