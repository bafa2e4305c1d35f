-- What holds at each turn of the loop of `first_end` in src/cuts.rt.
use Rattle.std.proofs.Common.{ℕ, ◌<◌}
use Rattle.tb_basic_text.proofs.FirstLine.{IsInside}
use Rattle.tb_basic_renumber.proofs.cuts.first_end.Given as goal

abbrev pub invariant-loop-i : goal.invariant-loop-i
invariant-loop-i l = (k : ℕ) → k < l.i → IsInside l.text k
