-- What holds at each turn of the loop of `marks` in src/starts.rt.
use Rattle.std.proofs.Common.{◌≡◌, ℕ, ◌||◌, false, drop, map, slice_index_or, vec_len}
use Rattle.tb_compiled.specs.Compiled.{pair_of}
use Rattle.tb_debug.specs.Runs.{begins_at}
use Rattle.tb_debug.proofs.starts.marks.Given as goal

abbrev pub invariant-loop-start : goal.invariant-loop-start
invariant-loop-start l =
    (vec_len l.begins ≡ 65536)
    × ((a : ℕ) → (begins_at (map pair_of (drop l.start-index l.starts)) a || slice_index_or l.begins.items a false) ≡ begins_at (map pair_of l.starts) a)
