-- What holds at each turn of the loop of `in_order` in src/breakpoints.rt.
use Rattle.std.proofs.Common.{◌≡◌, ℕ, ◌||◌, drop}
use Rattle.tb_debug.specs.Breakpoints.{AreRising, is_among}
use Rattle.tb_debug.proofs.breakpoints.in_order.Given as goal

abbrev pub invariant-loop-line : goal.invariant-loop-line
invariant-loop-line l = record {
  among : (n : ℕ) → (is_among l.set.items n || is_among (drop l.line-index l.lines) n) ≡ is_among l.lines n;
  rising : AreRising l.set.items;
}
