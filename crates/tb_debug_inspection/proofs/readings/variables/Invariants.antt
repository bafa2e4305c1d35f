-- What holds at each turn of the loop of `variables` in src/readings.rt.
use Rattle.std.proofs.Common.{◌≡◌, ℕ, ◌<◌, length, get_or}
use Rattle.std.specs.Prelude.{pos}
use Rattle.tb_memmap.specs.Bytes.{at}
use Rattle.tb_debug_inspection.specs.Readings.{value_in, variable_in}
use Rattle.tb_debug_inspection.proofs.Filling.{Filled}
use Rattle.tb_debug_inspection.proofs.readings.variables.Given as goal

abbrev pub invariant-loop-index : goal.invariant-loop-index
invariant-loop-index l =
    (length l.values ≡ 26) × Filled (variable_in (at l.memory)) l.values l.index
    × ((k : ℕ) → k < l.index → get_or l.values k (pos 0) ≡ value_in (at l.memory) k)
