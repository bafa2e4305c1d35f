-- Where a part begins.
use Rattle.std.proofs.Common.{◌≡◌, ℕ, true, false, List, [], ◌∷◌, Some, eqb, if◌then◌else◌, arith, ◌||◌}
use Rattle.std.proofs.lemmas.Bool.Decides.{nat_tests}
use Rattle.tb_asm.specs.Names.{fold_byte, is_letter}
use Rattle.tb_asm.specs.Parts.{parts_of, parts_from, in_identifier, in_number, sign_of, with_found, between}

module _ (b : ℕ) (letter : is_letter (fold_byte b) ≡ true) where
  no_comment : eqb b 59 ≡ false
  no_comment = grind (arith, nat_tests)

  no_space : eqb b 32 ≡ false
  no_space = grind (arith, nat_tests)

  -- a letter begins an identifier
  pub letter_begins : (bs : List ℕ) → parts_of (b ∷ bs) ≡ parts_from (in_identifier (fold_byte b ∷ [])) bs
  letter_begins bs =
      let tail = if eqb b 36 then parts_from (in_number []) bs else with_found (sign_of b) (parts_from between bs) in
      λ i. if no_comment i then Some [] else if no_space i then parts_from between bs else if letter i || eqb b 46 then parts_from (in_identifier (fold_byte b ∷ [])) bs else tail
