-- A mnemonic has three letters.
use Rattle.std.proofs.Common.{◌≡◌, ℕ, Bool, true, false, List, [], ◌∷◌, length, map, Some, None, refl, sym, ap, ◌∙◌, arith, nat_eq, if◌then◌else◌}
use Rattle.std.specs.List.{list_all}
use Rattle.std.proofs.lemmas.Bool.{and_parts, false_from_ne_true}
use Rattle.std.proofs.lemmas.Bool.Decides.{nat_tests}
use Rattle.std.proofs.lemmas.List.{length-map}
use lib.Pointwise.{pointwise_long}
use Rattle.tb_opcodes.specs.declared.Mnemonic.{Mnemonic}
use Rattle.tb_asm.specs.Names.{fold_byte}
use Rattle.tb_asm.specs.Mnemonics.{all_mnemonics, find_mnemonic, name_of, same_text}
use Rattle.tb_assembly_text.specs.Words.{mnemonic_named}

abbrev has_three : Mnemonic → Bool
has_three m = nat_eq (length (name_of m)) 3

other_name : (m : Mnemonic) (w : List ℕ) → (length w ≡ 3 → ⊥) → has_three m ≡ true → same_text (name_of m) w ≡ false
other_name m w other three = false_from_ne_true (same_text (name_of m) w) (λ e. other (sym (pointwise_long nat_eq (name_of m) w e) ∙ grind (arith, nat_tests)))

found_none : (ms : List Mnemonic) (w : List ℕ) → (length w ≡ 3 → ⊥) → list_all has_three ms ≡ true → find_mnemonic ms w ≡ None
found_none [] w other three = refl
found_none (m ∷ ms) w other three =
    let t = and_parts (has_three m) (list_all has_three ms) three in
    ap (λ b. if b then Some m else find_mnemonic ms w) (other_name m w other t.0) ∙ found_none ms w other t.1

-- a word that has not three letters names no mnemonic
pub no_mnemonic : (w : List ℕ) → (length w ≡ 3 → ⊥) → None ≡ mnemonic_named w
no_mnemonic w other = sym (found_none all_mnemonics (map fold_byte w) (λ e. other (sym (length-map w fold_byte) ∙ e)) refl)
