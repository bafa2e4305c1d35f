-- Above the zero page no label's address is below 256.
use Rattle.std.proofs.Common.{◌≡◌, ℕ, ◌+◌, ◌≤◌, Bool, true, false, not, ◌&&◌, List, [], ◌∷◌, ◌++◌, refl, arith, cond, Some}
use Rattle.std.specs.List.{list_any}
use Rattle.std.proofs.lemmas.Bool.{or_parts}
use Rattle.std.proofs.lemmas.Bool.Decides.{nat_tests}
use Rattle.tb_asm.specs.declared.names.Name.{Name}
use Rattle.tb_asm.specs.declared.items.Operand.TheVariants.{Nothing, Byte, Word, Label, LowOf, HighOf}
use Rattle.tb_asm.specs.Layout.{Entry, instr, label, bytes, word, size_of, same_name, address_in, label_at}
use Rattle.tb_assembly_laws.specs.Items.{has_short, is_low, is_shortened, none_shortened, has_low_number}
use Rattle.tb_assembly_laws.specs.Laws.{LowAddressesAreNumbers}

-- all labels lie at 256 or above
abbrev AreHigh : List (Name × ℕ) → Type 0
AreHigh [] = Unit {0}
AreHigh (p ∷ ps) = (256 ≤ p.1) × AreHigh ps

high_append : (ps qs : List (Name × ℕ)) → AreHigh ps → AreHigh qs → AreHigh (ps ++ qs)
high_append [] qs h k = k
high_append (p ∷ ps) qs h k = (h.0, high_append ps qs h.1 k)

high_label : (a : ℕ) (e : Entry) → 256 ≤ a → AreHigh (label_at a e)
high_label a (instr n m o) l = tt
high_label a (label n) l = (l, tt)
high_label a (bytes bs) l = tt
high_label a (word o) l = tt

high_found : (ps : List (Name × ℕ)) (n : Name) → AreHigh ps → is_low (address_in ps n) ≡ false
high_found [] n h = refl
high_found (p ∷ ps) n h = by (same_name n p.0) (high_found ps n h.1)
  where
    by : (b : Bool) → is_low (address_in ps n) ≡ false → is_low (cond b (Some p.1) (address_in ps n)) ≡ false
    by true rest = let l = h.0 in grind (arith, nat_tests)
    by false rest = rest

never : (b c : Bool) → c ≡ false → (b && c) ≡ false
never true c e = e
never false c e = refl

long : (ps : List (Name × ℕ)) (e : Entry) → AreHigh ps → has_low_number e ≡ false → is_shortened ps e ≡ false
long ps (instr n m Nothing) h k = never (has_short n m) false refl
long ps (instr n m (Byte b)) h k = never (has_short n m) false refl
long ps (instr n m (Word w)) h k = k
long ps (instr n m (Label l)) h k = never (has_short n m) (is_low (address_in ps l)) (high_found ps l h)
long ps (instr n m (LowOf l)) h k = never (has_short n m) false refl
long ps (instr n m (HighOf l)) h k = never (has_short n m) false refl
long ps (label n) h k = refl
long ps (bytes bs) h k = refl
long ps (word o) h k = refl

all_long : (ps : List (Name × ℕ)) (a : ℕ) (es : List Entry) → AreHigh ps → 256 ≤ a → list_any has_low_number es ≡ false → none_shortened ps a es ≡ true
all_long ps a [] h l k = refl
all_long ps a (e ∷ es) h l k =
    let (first, rest) = or_parts (has_low_number e) (list_any has_low_number es) k in
    let on = all_long (ps ++ label_at a e) (a + size_of e) es (high_append ps (label_at a e) h (high_label a e l)) (omega (arith, l)) rest in
    λ i. not (long ps e h first i) && on i

-- the law
pub low_addresses_are_numbers : LowAddressesAreNumbers
low_addresses_are_numbers at es l k = all_long [] at es tt l k
