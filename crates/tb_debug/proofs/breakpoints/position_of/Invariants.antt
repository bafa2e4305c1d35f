-- What holds at each turn of the loop of `position_of` in src/breakpoints.rt.
use Rattle.std.proofs.Common.{ℕ, ◌<◌, ◌≤◌, slice_index_or}
use Rattle.tb_debug.proofs.breakpoints.position_of.Given as goal

abbrev pub invariant-loop-index : goal.invariant-loop-index
invariant-loop-index l = (k d : ℕ) → k < l.index → slice_index_or l.lines k d ≤ l.line
