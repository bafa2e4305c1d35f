-- Steps of reading, taken apart.
use Rattle.std.proofs.Common.{◌≡◌, ℕ, ◌+◌, ◌-◌, ◌*◌, Bool, true, false, cond, List, [], ◌∷◌, ◌++◌, ◌⊎◌, inl, inr, Option}
use Rattle.std.proofs.Common.{Some, None, refl, sym, ap, ◌∙◌, nat_le, ◌==◌}
use Rattle.std.specs.Prelude.{All}
use Rattle.std.proofs.lemmas.List.Elements.{All-nil, All-cons}
use Rattle.std.proofs.lemmas.Bool.{eqb-true, leb-true, cases_Bool, and_parts}
use Rattle.tb_basic_grammar.specs.Grammar.{IsDigit, IsLetter, value_after, is_digit, is_letter}
use Rattle.tb_basic_grammar.specs.Reading.{◌>>=◌, digits_at, behind, behind_word, letter_at, when}

-- `Some` has one value
pub some_is : {A : Type 0} (x y : A) → Some x ≡ Some y → x ≡ y
some_is x y e = cc

-- a chain of two readings that gives a value took both steps
pub bind_some : {A B : Type 0} (o : Option A) (f : A → Option B) (y : B) → (o >>= f) ≡ Some y → (x : A) × (o ≡ Some x) × (f x ≡ Some y)
bind_some None f y e = absurd cc
bind_some (Some x) f y e = (x, refl, e)

-- an answer of `when` is that for nothing or that for a value
pub when_cases : {A B : Type 0} (o : Option A) (b : B) (f : A → B) (y : B) → when o b f ≡ y → ((o ≡ None) × (b ≡ y)) ⊎ ((x : A) × (o ≡ Some x) × (f x ≡ y))
when_cases None b f y e = inl (refl, e)
when_cases (Some x) b f y e = inr (x, refl, e)

-- a value chosen by a test is the one of its case
pub chosen : {A : Type 0} (t : Bool) (x y z : A) → cond t x y ≡ z → ((t ≡ true) × (x ≡ z)) ⊎ ((t ≡ false) × (y ≡ z))
chosen true x y z e = inl (refl, e)
chosen false x y z e = inr (refl, e)

-- a byte that was read is at the front
pub behind_is : (b : ℕ) (text rest : List ℕ) → behind b text ≡ Some rest → text ≡ b ∷ rest
behind_is b [] rest e = absurd cc
behind_is b (c ∷ text) rest e =
    elim (chosen (c == b) (Some text) None (Some rest) e) [
      | inl h ↦ let same : c ≡ b = eqb-true c b h.0 in let e' = h.1 in cc
      | inr h ↦ let e' = h.1 in absurd cc
    ]

-- a word that was read is at the front
pub behind_word_is : (word text rest : List ℕ) → behind_word word text ≡ Some rest → text ≡ word ++ rest
behind_word_is [] text rest e = cc
behind_word_is (b ∷ word) text rest e =
    let a = bind_some (behind b text) (behind_word word) rest e in
    behind_is b text a.0 a.1 ∙ ap (λ (t : List ℕ). b ∷ t) (behind_word_is word a.0 rest a.2)

-- a byte that passes the reader's test is a digit
pub digit_is : (b : ℕ) → is_digit b ≡ true → IsDigit b
digit_is b e = let h = and_parts (nat_le 48 b) (nat_le b 57) e in (leb-true 48 b h.0, leb-true b 57 h.1)

-- a byte that passes the reader's test is a letter
pub letter_is : (b : ℕ) → is_letter b ≡ true → IsLetter b
letter_is b e = let h = and_parts (nat_le 65 b) (nat_le b 90) e in (leb-true 65 b h.0, leb-true b 90 h.1)

-- the letter at the front
pub letter_found : (text : List ℕ) (p : ℕ × List ℕ) → letter_at text ≡ Some p → (v : ℕ) × IsLetter v × (text ≡ v ∷ p.1) × (p.0 ≡ v - 65)
letter_found [] p e = absurd cc
letter_found (b ∷ text) p e =
    elim (chosen (is_letter b) (Some (b - 65, text)) None (Some p) e) [
      | inl h ↦
          let same : (b - 65, text) ≡ p = some_is (b - 65, text) p h.1 in
          (b, letter_is b h.0, ap (λ (q : ℕ × List ℕ). b ∷ q.1) same, sym (ap (λ (q : ℕ × List ℕ). q.0) same))
      | inr h ↦ let e' = h.1 in absurd cc
    ]

-- the digits at the front
pub digits_found : (n : ℕ) (text : List ℕ) → (digits : List ℕ) × (text ≡ digits ++ (digits_at n text).1) × All IsDigit digits × ((digits_at n text).0 ≡ value_after n digits)
digits_found n [] = ([], refl, All-nil IsDigit, refl)
digits_found n (b ∷ text) =
    let again = digits_found (10 * n + (b - 48)) text in
    elim (cases_Bool (is_digit b)) [
      | inl h ↦ rw h (b ∷ again.0, ap (λ (t : List ℕ). b ∷ t) again.1, All-cons IsDigit b again.0 (digit_is b h) again.2, again.3)
      | inr h ↦ rw h ([], refl, All-nil IsDigit, refl)
    ]

-- an option is `None` or `Some`
pub some_or_none : {A : Type 0} (o : Option A) → (o ≡ None) ⊎ ((x : A) × (o ≡ Some x))
some_or_none None = inl refl
some_or_none (Some x) = inr (x, refl)
