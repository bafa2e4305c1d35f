-- What the ROM and the program may write.
use Rattle.std.proofs.Common.{◌≡◌, ◌⊎◌, ℕ, ◌+◌, ◌<◌, ◌≤◌, true, false, List, [], ◌∷◌, length, refl, sym, ap, ◌∙◌, arith, eqb}
use Rattle.std.specs.Prelude.{if◌then◌else◌}
use Rattle.std.proofs.lemmas.Bool.{and_parts, eq-eqb, ne_eqb, false≢true}
use Rattle.std.proofs.lemmas.Bool.Decides.{nat_tests}
use Rattle.tb_memmap.specs.Regions.{is_open, is_owned}
use Rattle.tb_memmap.specs.Bytes.{Writes, with_byte, written}
use Rattle.tb_machine_reaching.specs.View.{is_data, is_program, is_fixed, Stacked}
use Rattle.tb_machine_reaching.proofs.Acting.{all_data}

-- ---- what the ROM leaves
pub fixed_owned : (s a : ℕ) → is_fixed a ≡ true → is_owned s a ≡ true
fixed_owned s a h = grind (arith, nat_tests)

-- the bytes of page one above S are owned
pub stack_owned : (s a : ℕ) → 0x0101 + s ≤ a → a < 0x0200 → is_owned s a ≡ true
stack_owned s a h k = grind (arith, nat_tests)

-- ---- one byte written
pub put_other : (m : ℕ → ℕ) (at b a : ℕ) → (a ≡ at → ⊥) → with_byte m at b a ≡ m a
put_other m at b a h = ap (λ c. if c then b else m a) (ne_eqb a at h)

-- the byte at the address that was written
pub put_same : (m : ℕ → ℕ) (at b a : ℕ) → a ≡ at → with_byte m at b a ≡ b
put_same m at b a h = ap (λ c. if c then b else m a) (eq-eqb a at h)

-- ---- writes to data, and what is above the stack pointer
-- writes to data leave the rest
pub data_leaves : (a : ℕ) (ws : Writes) (m : ℕ → ℕ) → is_data a ≡ false → all_data ws ≡ true → written m ws a ≡ m a
data_leaves a [] m h l = refl
data_leaves a (w ∷ ws) m h l =
    let l' = and_parts _ _ l in
    data_leaves a ws (with_byte m w.0 w.1) h l'.1 ∙ put_other m w.0 w.1 a (λ e. false≢true (sym h ∙ ap is_data e ∙ l'.0))

-- memories that agree at an address still agree there after equal writes
pub written_same : (a : ℕ) (ws : Writes) (m k : ℕ → ℕ) → m a ≡ k a → written m ws a ≡ written k ws a
written_same a [] m k h = h
written_same a (w ∷ ws) m k h = written_same a ws (with_byte m w.0 w.1) (with_byte k w.0 w.1) (ap (λ x. if eqb a w.0 then w.1 else x) h)

-- bytes of page one are in each memory that agrees on them
pub stacked_same : (lo at : ℕ) (m k : ℕ → ℕ) (bs : List ℕ) → lo ≤ at → at + length bs ≤ 0x0200 → ((a : ℕ) → lo ≤ a → a < 0x0200 → k a ≡ m a)
    → Stacked m at bs → Stacked k at bs
stacked_same lo at m k [] h e f st = tt
stacked_same lo at m k (b ∷ bs) h e f st = (f at h (omega arith) ∙ st.0, stacked_same lo (at + 1) m k bs (omega arith) (omega arith) f st.1)

-- ---- which addresses are which
pub program_not_data : (a : ℕ) → is_program a ≡ true → is_data a ≡ false
program_not_data a h = grind (arith, nat_tests)

-- the program's addresses are fixed
pub program_fixed : (a : ℕ) → is_program a ≡ true → is_fixed a ≡ true
program_fixed a h = grind (arith, nat_tests)

-- the data's addresses are fixed
pub data_fixed : (a : ℕ) → is_data a ≡ true → is_fixed a ≡ true
data_fixed a h = grind (arith, nat_tests)

-- page one holds no data
pub stack_not_data : (a : ℕ) → 0x0100 ≤ a → a < 0x0200 → is_data a ≡ false
stack_not_data a h k = grind (arith, nat_tests)

-- a fixed address is not in page one
pub fixed_not_stack : (a : ℕ) → is_fixed a ≡ true → (a < 0x0100) ⊎ (0x0200 ≤ a)
fixed_not_stack a h = grind (arith, nat_tests)

-- the program's addresses are $0800 to $9FFF
pub program_range : (a : ℕ) → is_program a ≡ true → (0x0800 ≤ a) × (a ≤ 0x9fff)
program_range a h = (grind (arith, nat_tests), grind (arith, nat_tests))

-- a fixed address may be read
pub fixed_open : (a : ℕ) → is_fixed a ≡ true → is_open a ≡ true
fixed_open a h = grind (arith, nat_tests)

-- page one may be read
pub stack_open : (a : ℕ) → 0x0100 ≤ a → a < 0x0200 → is_open a ≡ true
stack_open a h k = grind (arith, nat_tests)
