-- The search for a mnemonic by its name.
use Rattle.std.proofs.Common.{◌≡◌, ℕ, ◌+◌, ◌<◌, true, false, List, ◌∷◌, length, drop, get_or, Some, sym, ap, ◌∙◌, add-one, drop-cons, if◌then◌else◌}
use Rattle.tb_opcodes.specs.declared.Mnemonic.{Mnemonic}
use Rattle.tb_asm.specs.Mnemonics.{name_of, same_text, find_mnemonic, mnemonic_of, all_mnemonics}

module _ (w : List ℕ) (i : ℕ) (d : Mnemonic) (below : i < length all_mnemonics) (so_far : find_mnemonic (drop i all_mnemonics) w ≡ mnemonic_of w) where
  here : find_mnemonic (get_or all_mnemonics i d ∷ drop (i + 1) all_mnemonics) w ≡ mnemonic_of w
  here = ap (λ n. find_mnemonic (get_or all_mnemonics i d ∷ drop n all_mnemonics) w) (add-one i) ∙ ap (λ ns. find_mnemonic ns w) (sym (drop-cons all_mnemonics i d below)) ∙ so_far

  -- the first mnemonic with this name is the one that the letters spell
  pub mnemonic_found : same_text (name_of (get_or all_mnemonics i d)) w ≡ true → Some (get_or all_mnemonics i d) ≡ mnemonic_of w
  mnemonic_found same = sym (ap (λ b. if b then Some (get_or all_mnemonics i d) else find_mnemonic (drop (i + 1) all_mnemonics) w) same) ∙ here

  -- the search goes on after a mnemonic with another name
  pub mnemonic_missed : same_text (name_of (get_or all_mnemonics i d)) w ≡ false → find_mnemonic (drop (i + 1) all_mnemonics) w ≡ mnemonic_of w
  mnemonic_missed other = sym (ap (λ b. if b then Some (get_or all_mnemonics i d) else find_mnemonic (drop (i + 1) all_mnemonics) w) other) ∙ here
