-- What a debugger shows of memory is what the source has.
use Rattle.std.proofs.Common.{◌≡◌, ℕ, ◌+◌, ◌≤◌, Bool, true, false, ◌||◌, List, [], ◌∷◌, length, refl, sym, ap, ◌∙◌, subst, arith}
use Rattle.std.specs.Prelude.{if◌then◌else◌, nat_eq, map, Some, None}
use Rattle.std.proofs.lemmas.Bool.{eqb-true, ne_eqb}
use Rattle.std.proofs.lemmas.Bool.Decides.{nat_tests}
use Rattle.tb_cpu.specs.Operands.{word_in}
use Rattle.tb_basic_meaning.specs.Control.{At, Past, Place, deepest, has_line}
use Rattle.tb_compiled_kept.specs.Addresses.{NOTES}
use Rattle.tb_compiled_kept.specs.LineStarts.{is_start, HoldsReturns, StandsFor}
use Rattle.tb_compiled.specs.Compiled.{AddressesRise}
use Rattle.tb_debug.specs.Lines.{line_at}
use Rattle.tb_debug_inspection.specs.Readings.{return_in}
use Rattle.tb_debug.specs.Readings.{lines_of_returns, depth_in}
use Rattle.tb_debug.specs.Runs.{begins_at}
use Rattle.tb_debug.specs.Sources.{line_of}

-- ---- the lines of places

-- lines with the addresses where they begin
abbrev pub placed : (ℕ → ℕ) → List ℕ → List (ℕ × ℕ)
placed at ns = map (λ n. (n, at n)) ns

module _ (place : ℕ → ℕ) where
  above : (ns : List ℕ) (low n : ℕ) → AddressesRise low (placed place ns) → has_line ns n ≡ true → low ≤ place n
  above [] low n rise has = absurd (cc)
  above (m ∷ ns) low n (here, rest) has = go (nat_eq m n) refl (above ns (place m + 1) n rest) has
    where
      go : (t : Bool) → nat_eq m n ≡ t → (has_line ns n ≡ true → place m + 1 ≤ place n) → (t || has_line ns n) ≡ true → low ≤ place n
      go true is later has = subst (λ k. low ≤ place k) (eqb-true m n is) here
      go false is later has = omega (arith, here, later has)

  same_place : (a : ℕ) → nat_eq a a ≡ true
  same_place a = grind (arith, nat_tests)

  -- a line of the program is found where it begins
  found_there : (ns : List ℕ) (low n : ℕ) → AddressesRise low (placed place ns) → has_line ns n ≡ true
      → line_at (placed place ns) (place n) ≡ Some n
  found_there [] low n rise has = absurd (cc)
  found_there (m ∷ ns) low n (here, rest) has =
      go (nat_eq m n) refl (above ns (place m + 1) n rest) (found_there ns (place m + 1) n rest) has
    where
      go : (t : Bool) → nat_eq m n ≡ t → (has_line ns n ≡ true → place m + 1 ≤ place n)
          → (has_line ns n ≡ true → line_at (placed place ns) (place n) ≡ Some n) → (t || has_line ns n) ≡ true
          → (if nat_eq (place n) (place m) then Some m else line_at (placed place ns) (place n)) ≡ Some n
      go true is later found has =
          let same : m ≡ n = eqb-true m n is in
          ap (λ k. if nat_eq (place n) (place k) then Some k else line_at (placed place ns) (place n)) same
          ∙ ap (λ b. if b then Some n else line_at (placed place ns) (place n)) (same_place (place n))
      go false is later found has =
          let behind = later has in
          ap (λ b. if b then Some m else line_at (placed place ns) (place n)) (ne_eqb (place n) (place m) (λ e. omega (arith, e, behind)))
          ∙ found has

  -- if no line begins at an address, none is found
  none_there : (lines : List (ℕ × ℕ)) (a : ℕ) → begins_at lines a ≡ false → line_at lines a ≡ None
  none_there [] a e = refl
  none_there (s ∷ lines) a e = go (nat_eq a s.1) (none_there lines a) e
    where
      go : (t : Bool) → (begins_at lines a ≡ false → line_at lines a ≡ None) → (t || begins_at lines a) ≡ false
          → (if t then Some s.0 else line_at lines a) ≡ None
      go true later e = absurd (cc)
      go false later e = later e

  module _ (start : ℕ → ℕ) (ns : List ℕ) (low : ℕ) (rise : AddressesRise low (placed place ns))
      (firsts : (n : ℕ) → has_line ns n ≡ true → start n ≡ place n) (same : (a : ℕ) → is_start start ns a ≡ begins_at (placed place ns) a) where
    place_told : (p : Place) (a : ℕ) → StandsFor start ns p a → line_at (placed place ns) a ≡ line_of p
    place_told (At n) a (has, is) = ap (line_at (placed place ns)) (is ∙ firsts n has) ∙ found_there ns low n rise has
    place_told Past a none = none_there (placed place ns) a (sym (same a) ∙ none)

    -- the lines that the return list leads to are those of the places
    pub returns_told : (m : ℕ → ℕ) (ps : List Place) → HoldsReturns start ns m ps
        → lines_of_returns (placed place ns) m (length ps) ≡ map line_of ps
    returns_told m [] held = refl
    returns_told m (p ∷ ps) held =
        let here : line_at (placed place ns) (return_in m (length ps)) ≡ line_of p = place_told p (return_in m (length ps)) held.0 in
        let rest = returns_told m ps held.1 in
        λ i. here i ∷ rest i

-- as many notes are told as there are
pub all_returns : (m : ℕ → ℕ) (count : ℕ) → count ≤ deepest → word_in m NOTES ≡ count → depth_in m ≡ count
all_returns m count few is = omega (arith, few, is)
