-- What holds at each turn of the loop of `read_digits` in src/parts.rt.
use Rattle.std.proofs.Common.{◌≡◌, ℕ, ◌<◌, slice_index, ◌≤◌, [], length, drop}
use Rattle.tb_asm.specs.Parts.{parts_from, in_number}
use Rattle.tb_asm.proofs.parts.read_digits.Given as goal

abbrev pub invariant-loop-index : goal.invariant-loop-index
invariant-loop-index l = (parts_from (in_number l.digits.items) (drop l.index l.after) ≡ parts_from (in_number []) l.after)
    × (length l.digits.items ≤ 4) × ((i : ℕ) → slice_index l.digits.items i < 16)
