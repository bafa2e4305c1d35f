-- What holds at each turn of the loop of `marks` in src/tally.rt.
use Rattle.std.proofs.Common.{◌≡◌, ℕ, ◌<◌, ◌||◌, false, drop, slice_index_or, vec_len}
use Rattle.tb_machine_profile.specs.Steps.{begins_line}
use Rattle.tb_machine_profile.proofs.tally.marks.Given as goal

abbrev pub invariant-loop-address : goal.invariant-loop-address
invariant-loop-address l =
    (vec_len l.begins ≡ 65536)
    × ((a : ℕ) → a < 65536 → (begins_line (drop l.address-index l.starts) a || slice_index_or l.begins.items a false) ≡ begins_line l.starts a)
