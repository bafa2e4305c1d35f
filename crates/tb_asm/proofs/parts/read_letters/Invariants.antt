-- What holds at each turn of the loop of `read_letters` in src/parts.rt.
use Rattle.std.proofs.Common.{◌≡◌, ◌≤◌, [], ◌∷◌, length, drop}
use Rattle.tb_asm.specs.Parts.{parts_from, in_identifier}
use Rattle.tb_asm.proofs.parts.read_letters.Given as goal

abbrev pub invariant-loop-index : goal.invariant-loop-index
invariant-loop-index l = (parts_from (in_identifier l.letters.items) (drop l.index l.after) ≡ parts_from (in_identifier (l.first ∷ [])) l.after) × (length l.letters.items ≤ 31)
