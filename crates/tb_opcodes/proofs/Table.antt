-- The laws of the table.
use Rattle.std.proofs.Common.{◌<◌, zero, suc, length, slice_index_or, arith, if◌then◌else◌, ◌≡◌, refl, ℕ, Bool, true, false, List, []}
use Rattle.std.proofs.Common.{◌∷◌, Some, sym, ap, ◌∙◌, eqb, nat_eq, map}
use Rattle.std.specs.Prelude.{Contains}
use Rattle.std.specs.List.{IsDistinct}
use Rattle.std.specs.Cmp.{nat_eq_equiv}
use Rattle.std.proofs.lemmas.Bool.{eqb-true, and_parts}
use Rattle.std.proofs.lemmas.Map.Made.{IsDistinct-from_count}
use Rattle.tb_opcodes.specs.declared.Mnemonic.{Mnemonic}
use Rattle.tb_opcodes.specs.declared.Mode.{Mode}
use Rattle.tb_opcodes.specs.Opcodes.{Row, row, rows, find_row, decoded}
use Rattle.tb_opcodes.specs.Table.{IsListed, IsTable}
use Rattle.tb_opcodes.proofs.Inverse.{encodes_back, decodes_back, all_rows, all_decode, decodes_to, decodes_is, pair_of, pair_same_first, pair_same_second, none_some}

-- a test that each row passes is passed by each row that is listed
passes : (p : Row → Bool) (rs : List Row) (x : Row) (k : ℕ) → k < length rs → slice_index_or rs k x ≡ x → all_rows p rs ≡ true → p x ≡ true
passes p [] x k l e h = absurd (omega arith)
passes p (r ∷ rs) x zero l e h = ap p (sym e) ∙ (and_parts _ _ h).0
passes p (r ∷ rs) x (suc k) l e h = passes p rs x k (omega arith) e (and_parts _ _ h).1

listed_decodes : (o : ℕ) (n : Mnemonic) (m : Mode) → IsListed o n m → decoded o ≡ Some (n, m)
listed_decodes o n m h = decodes_is (row o n m) (decoded o) (passes (λ r. decodes_to r (decoded r.opcode)) rows (row o n m) h.0 h.1 h.2 all_decode)

later : (r : Row) (rs : List Row) (x : Row) → Contains rs x → Contains (r ∷ rs) x
later r rs x h = let l = h.1 in (suc h.0, omega arith, h.2)

-- the row that a look-up finds is listed
found_listed : (rs : List Row) (o : ℕ) (n : Mnemonic) (m : Mode) → find_row rs o ≡ Some (n, m) → Contains rs (row o n m)
found_listed [] o n m e = absurd (none_some e)
found_listed (r ∷ rs) o n m e = by (eqb r.opcode o) refl (found_listed rs o n m)
  where
    by : (t : Bool) → eqb r.opcode o ≡ t → (find_row rs o ≡ Some (n, m) → Contains rs (row o n m)) → Contains (r ∷ rs) (row o n m)
    by true t rest =
        let same : pair_of r.mnemonic r.mode ≡ pair_of n m = sym (ap (λ c. if c then pair_of r.mnemonic r.mode else find_row rs o) t) ∙ e in
        let first : r.mnemonic ≡ n = pair_same_first _ _ _ _ same in
        let second : r.mode ≡ m = pair_same_second _ _ _ _ same in
        let number : r.opcode ≡ o = eqb-true _ _ t in
        (0, omega arith, λ i. row (number i) (first i) (second i))
    by false t rest = later r rs (row o n m) (rest (sym (ap (λ c. if c then pair_of r.mnemonic r.mode else find_row rs o) t) ∙ e))

decoded_listed : (o : ℕ) (n : Mnemonic) (m : Mode) → decoded o ≡ Some (n, m) → IsListed o n m
unfolding decoded
decoded_listed o n m e = found_listed rows o n m e

some_same : (o p : ℕ) → Some o ≡ Some p → o ≡ p
some_same o p q = cc

distinct : IsDistinct nat_eq (map (λ (r : Row). r.opcode) rows)
distinct = IsDistinct-from_count nat_eq_equiv _ refl

-- the rows are a table: no opcode occurs twice, and decoding, encoding and the list agree
pub table : IsTable
table = record {
  count = refl;
  opcodes_differ = distinct;
  pairs_differ = λ o p n m h g. some_same o p (sym (encodes_back o n m (listed_decodes o n m h)) ∙ encodes_back p n m (listed_decodes p n m g));
  decodes = λ o n m. (listed_decodes o n m, decoded_listed o n m);
  encodes = λ o n m. (λ h. encodes_back o n m (listed_decodes o n m h), λ e. decoded_listed o n m (decodes_back o n m e));
  inverse = λ o n m. (encodes_back o n m, decodes_back o n m);
}
