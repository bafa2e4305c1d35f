-- New numbers keep the order of lines.
use Rattle.std.proofs.Common.{◌≡◌, ℕ, ◌+◌, ◌<◌, ◌≤◌, Bool, true, false, ◌||◌, List, [], ◌∷◌, map, refl, sym, ap, ◌∙◌, subst, arith, nat_eq, nat_lt}
use Rattle.std.proofs.lemmas.Bool.Decides.{nat_tests}
use Rattle.tb_basic_syntax.specs.Source.{Rises}
use Rattle.tb_basic_meaning.specs.Control.{has_line}

pub same_number : (m n : ℕ) → nat_eq m n ≡ true → m ≡ n
same_number m n e = grind (arith, nat_tests)

pub is_same : (n : ℕ) → nat_eq n n ≡ true
is_same n = grind (arith, nat_tests)

pub differs_below : (m n : ℕ) → m < n → nat_eq m n ≡ false
differs_below m n e = grind (arith, nat_tests)

pub differs_above : (m n : ℕ) → n < m → nat_eq m n ≡ false
differs_above m n e = grind (arith, nat_tests)

pub below : (m n : ℕ) → m < n → nat_lt m n ≡ true
below m n e = grind (arith, nat_tests)

pub not_below : (m n : ℕ) → n ≤ m → nat_lt m n ≡ false
not_below m n e = grind (arith, nat_tests)

-- the first line is one of the lines, and so is each of the others
pub first_line : (m : ℕ) (ms : List ℕ) → has_line (m ∷ ms) m ≡ true
first_line m ms = ap (λ b. b || has_line ms m) (is_same m)

or_true : (b : Bool) → (b || true) ≡ true
or_true true = refl
or_true false = refl

pub other_line : (m : ℕ) (ms : List ℕ) (n : ℕ) → has_line ms n ≡ true → has_line (m ∷ ms) n ≡ true
other_line m ms n h = ap (λ b. nat_eq m n || b) h ∙ or_true (nat_eq m n)

-- lines whose old and new numbers rise: a line's new number is within their bounds
module _ (f : ℕ → ℕ) where
  abbrev pub BothRise : ℕ → ℕ → List ℕ → Type 0
  BothRise low new_low ns = Rises low 32768 ns × Rises new_low 32768 (map f ns)

  pub within : (low new_low : ℕ) (ns : List ℕ) (n : ℕ) → BothRise low new_low ns → has_line ns n ≡ true → (low ≤ n) × (new_low ≤ f n) × (f n < 32768)
  within low new_low [] n r h = absurd cc
  within low new_low (m ∷ ms) n r h = go (within (m + 1) (f m + 1) ms n (r.0.2, r.1.2)) (nat_eq m n) refl h
    where
      go : (has_line ms n ≡ true → (m + 1 ≤ n) × (f m + 1 ≤ f n) × (f n < 32768)) → (b : Bool) → nat_eq m n ≡ b → (b || has_line ms n) ≡ true → (low ≤ n) × (new_low ≤ f n) × (f n < 32768)
      go later true e h = subst (λ k. (low ≤ k) × (new_low ≤ f k) × (f k < 32768)) (same_number m n e) (r.0.0, r.1.0, r.1.1)
      go later false e h = let i = later h in
          let low_m = r.0.0 in let low_f = r.1.0 in
          (omega (arith, i.0, low_m), omega (arith, i.1, low_f), i.2)

  -- of two lines the lower one stays the lower one
  pub keeps_order : (low new_low : ℕ) (ns : List ℕ) (a b : ℕ) → BothRise low new_low ns → has_line ns a ≡ true → has_line ns b ≡ true → a < b → f a < f b
  keeps_order low new_low [] a b r ha hb lt = absurd cc
  keeps_order low new_low (m ∷ ms) a b r ha hb lt = go (λ h h'. keeps_order (m + 1) (f m + 1) ms a b (r.0.2, r.1.2) h h' lt) (nat_eq m a) (nat_eq m b) refl refl ha hb
    where
      go : (has_line ms a ≡ true → has_line ms b ≡ true → f a < f b) → (x y : Bool) → nat_eq m a ≡ x → nat_eq m b ≡ y → (x || has_line ms a) ≡ true → (y || has_line ms b) ≡ true → f a < f b
      go later true true e e' h h' = let same : m ≡ a = same_number m a e in let same' : m ≡ b = same_number m b e' in absurd (omega (arith, lt, same, same'))
      go later true false e e' h h' =
          let i = within (m + 1) (f m + 1) ms b (r.0.2, r.1.2) h' in
          subst (λ k. f k < f b) (same_number m a e) (omega (arith, i.1))
      go later false true e e' h h' =
          let i = within (m + 1) (f m + 1) ms a (r.0.2, r.1.2) h in
          let same : m ≡ b = same_number m b e' in absurd (omega (arith, i.0, lt, same))
      go later false false e e' h h' = later h h'

  -- so tests of two lines' numbers have the same answers
  pub keeps_less : (low new_low : ℕ) (ns : List ℕ) (a b : ℕ) → BothRise low new_low ns → has_line ns a ≡ true → has_line ns b ≡ true → nat_lt (f a) (f b) ≡ nat_lt a b
  keeps_less low new_low ns a b r ha hb = go (nat_lt a b) (nat_lt b a) refl refl
    where
      go : (x y : Bool) → nat_lt a b ≡ x → nat_lt b a ≡ y → nat_lt (f a) (f b) ≡ x
      go true y e e' = let lt : a < b = grind (arith, nat_tests) in below (f a) (f b) (keeps_order low new_low ns a b r ha hb lt)
      go false true e e' = let gt : b < a = grind (arith, nat_tests) in
          let fgt : f b < f a = keeps_order low new_low ns b a r hb ha gt in not_below (f a) (f b) (omega (arith, fgt))
      go false false e e' = let same : a ≡ b = grind (arith, nat_tests) in
          subst (λ k. nat_lt (f a) (f k) ≡ false) same (not_below (f a) (f a) (omega arith))

  pub keeps_same : (low new_low : ℕ) (ns : List ℕ) (a b : ℕ) → BothRise low new_low ns → has_line ns a ≡ true → has_line ns b ≡ true → nat_eq (f a) (f b) ≡ nat_eq a b
  keeps_same low new_low ns a b r ha hb = go (nat_lt a b) (nat_lt b a) refl refl
    where
      go : (x y : Bool) → nat_lt a b ≡ x → nat_lt b a ≡ y → nat_eq (f a) (f b) ≡ nat_eq a b
      go true y e e' = let lt : a < b = grind (arith, nat_tests) in
          differs_below (f a) (f b) (keeps_order low new_low ns a b r ha hb lt) ∙ sym (differs_below a b lt)
      go false true e e' = let gt : b < a = grind (arith, nat_tests) in
          differs_above (f a) (f b) (keeps_order low new_low ns b a r hb ha gt) ∙ sym (differs_above a b gt)
      go false false e e' = let same : a ≡ b = grind (arith, nat_tests) in
          subst (λ k. nat_eq (f a) (f k) ≡ nat_eq a k) same (is_same (f a) ∙ sym (is_same a))
