-- The addresses of a program's labels rise.
use Rattle.std.proofs.Common.{◌≡◌, ℕ, ◌+◌, ◌≤◌, Bool, true, ◌&&◌, List, [], ◌∷◌, ◌++◌, map, refl, arith, nat_le, subst, append-nil}
use Rattle.std.proofs.lemmas.Bool.Decides.{nat_tests}
use Rattle.std.specs.Prelude.{codes}
use Rattle.std.proofs.lemmas.Bool.{and_parts}
use Rattle.tb_compiled_kept.specs.Addresses.{LINES_AT}
use Rattle.tb_compiled.specs.Compiled.{AddressesRise}
use Rattle.tb_engine_listing.specs.Labels.{line_label, block_labels, data_labels, all_labels}
use Rattle.tb_engine_listing.proofs.Laid.{AreLaid}

-- whether addresses rise from an address on and end before another one
rises : ℕ → List (List ℕ × ℕ) → ℕ → Bool
rises low [] end = nat_le low end
rises low (p ∷ ps) end = nat_le low p.1 && rises (p.1 + 1) ps end

rise_low : (low low' : ℕ) (ps : List (List ℕ × ℕ)) → low ≤ low' → AddressesRise low' ps → AddressesRise low ps
rise_low low low' [] l h = tt
rise_low low low' (p ∷ ps) l h = (omega (arith, l, h.0), h.1)

rise_both : (low end : ℕ) (ps qs : List (List ℕ × ℕ)) → rises low ps end ≡ true → AddressesRise end qs → AddressesRise low (ps ++ qs)
unfolding rises
rise_both low end [] qs e h = rise_low low end qs (let l : low ≤ end = grind (arith, nat_tests) in l) h
rise_both low end (p ∷ ps) qs e h =
    let w = and_parts (nat_le low p.1) (rises (p.1 + 1) ps end) e in
    let first : nat_le low p.1 ≡ true = w.0 in
    ((let l : low ≤ p.1 = grind (arith, nat_tests) in l), rise_both (p.1 + 1) end ps qs w.1 h)

lines_rise : (low : ℕ) (starts : List (ℕ × ℕ)) (table : ℕ) (name : List ℕ) (ps : List (List ℕ × ℕ)) → AddressesRise low (starts ++ (0, table) ∷ [])
    → AddressesRise (table + 1) ps → AddressesRise low (map line_label starts ++ ((name, table) ∷ ps))
lines_rise low [] table name ps h r = (h.0, r)
lines_rise low (s ∷ starts) table name ps h r = (h.0, lines_rise (s.1 + 1) starts table name ps h.1 r)

data_rises : AddressesRise 0xA001 data_labels
unfolding rises
data_rises = subst (AddressesRise 0xA001) (append-nil data_labels) (rise_both 0xA001 65536 data_labels [] refl tt)

-- the addresses of a program's labels rise
pub labels_rise : (starts : List (ℕ × ℕ)) (table bytes : ℕ) → AreLaid starts table bytes → AddressesRise 0 (all_labels starts table)
unfolding rises
labels_rise starts table bytes h =
    rise_both 0 LINES_AT block_labels (map line_label starts ++ ((codes "line_table", table) ∷ data_labels)) refl
    (lines_rise LINES_AT starts table (codes "line_table") data_labels h.rising (rise_low (table + 1) 0xA001 data_labels (let w = h.within in let e = h.ends in omega (arith, w, e)) data_rises))
