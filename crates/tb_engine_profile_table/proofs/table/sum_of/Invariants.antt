-- What holds at each turn of the loop of `sum_of` in src/table.rt.
use Rattle.std.proofs.Common.{◌≡◌, ◌≤◌, ◌*◌, map, take}
use Rattle.std.specs.Prelude.{sum_by}
use Rattle.tb_engine_profile_table.specs.Lines.{line_pair}
use Rattle.tb_engine_profile_table.proofs.table.sum_of.Given as goal

abbrev pub invariant-loop-line : goal.invariant-loop-line
invariant-loop-line l = record {
  sum : l.times ≡ sum_by (λ x. x.0.times) (map line_pair (take l.line-index l.lines));
  few : l.times ≤ 18446744073709551615 * l.line-index;
}
