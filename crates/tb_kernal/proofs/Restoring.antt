-- Noted bytes, put back, restore a memory.
use Rattle.std.proofs.Common.{◌≡◌, ℕ, Bool, true, false, ◌&&◌, ◌||◌, [], ◌∷◌, arith, refl, ap, sym, ◌∙◌, ◌⊎◌, inl, inr, nat_eq}
use Rattle.std.proofs.lemmas.Bool.{cases_eq, and_parts, cases_Bool}
use Rattle.std.proofs.lemmas.Bool.Decides.{nat_tests}
use Rattle.tb_memmap.specs.Regions.{is_open}
use Rattle.tb_memmap.specs.Bytes.{Writes, with_byte, written}
use Rattle.tb_kernal.specs.Rom.{all_open, written_open}

-- an address is among those of a list
abbrev pub is_among : ℕ → Writes → Bool
is_among a [] = false
is_among a (u ∷ us) = nat_eq a u.0 || is_among a us

abbrev pub all_among : Writes → Writes → Bool
all_among [] us = true
all_among (w ∷ ws) us = is_among w.0 us && all_among ws us

-- each byte of a list is that of a memory
abbrev pub AreOf : (ℕ → ℕ) → Writes → Type 0
AreOf m [] = Unit {0}
AreOf m (u ∷ us) = (u.1 ≡ m u.0) × AreOf m us

-- an address that is not written keeps its byte
not_written : (b : ℕ) (us : Writes) (ws : Writes) (m : ℕ → ℕ) → all_among ws us ≡ true → is_among b us ≡ false → written m ws b ≡ m b
not_written b us [] m h o = refl
not_written b us (w ∷ ws) m h o =
    let p = and_parts _ _ h in
    elim (cases_eq b w.0) [
      | inl e ↦ let bad : is_among b us ≡ true = ap (λ x. is_among x us) e ∙ p.0 in absurd (cc)
      | inr n ↦ let q : nat_eq b w.0 ≡ false = grind (arith, nat_tests) in
          not_written b us ws (with_byte m w.0 w.1) p.1 o ∙ rw q refl
    ]

-- bytes of a memory, put back over any other one
put_back : (b : ℕ) (us : Writes) (m n : ℕ → ℕ) → AreOf m us → (n b ≡ m b) ⊎ (is_among b us ≡ true) → written n us b ≡ m b
put_back b [] m n h (inl e) = e
put_back b [] m n h (inr e) = absurd (cc)
put_back b (u ∷ us) m n h o =
    elim (cases_eq b u.0) [
      | inl e ↦ let q : nat_eq b u.0 ≡ true = grind (arith, nat_tests) in
          let now : with_byte n u.0 u.1 b ≡ m b = rw q (h.0 ∙ ap m (sym e)) in
          put_back b us m (with_byte n u.0 u.1) h.1 (inl now)
      | inr d ↦ let q : nat_eq b u.0 ≡ false = grind (arith, nat_tests) in
          let same : with_byte n u.0 u.1 b ≡ n b = rw q refl in
          elim o [
            | inl e ↦ put_back b us m (with_byte n u.0 u.1) h.1 (inl (same ∙ e))
            | inr e ↦ let later : is_among b us ≡ true = rw q at e in put_back b us m (with_byte n u.0 u.1) h.1 (inr later)
          ]
    ]

restored_at : (us ws : Writes) (m : ℕ → ℕ) → AreOf m us → all_among ws us ≡ true → (b : ℕ) → written (written m ws) us b ≡ m b
restored_at us ws m h a b =
    elim (cases_Bool (is_among b us)) [
      | inl e ↦ put_back b us m (written m ws) h (inr e)
      | inr e ↦ put_back b us m (written m ws) h (inl (not_written b us ws m a e))
    ]

-- noted bytes, written back after any writes to noted addresses, restore a memory
pub restored : (us ws : Writes) (m : ℕ → ℕ) → AreOf m us → all_among ws us ≡ true → written (written m ws) us ≡ m
restored us ws m h a = λ i b. restored_at us ws m h a b i

-- noted addresses are open, so none is left out
written_open_is : (us : Writes) (m : ℕ → ℕ) → all_open us ≡ true → written_open m us ≡ written m us
written_open_is [] m h = refl
written_open_is (u ∷ us) m h =
    let p = and_parts (is_open u.0) (all_open us) h in
    rw p.0 (written_open_is us (with_byte m u.0 u.1) p.1)

-- what `undo` does to the memory that an event's writes left
pub restored_open : (us ws : Writes) (m : ℕ → ℕ) → AreOf m us → all_open us ≡ true → all_among ws us ≡ true → written_open (written m ws) us ≡ m
restored_open us ws m h o a = written_open_is us (written m ws) o ∙ restored us ws m h a
