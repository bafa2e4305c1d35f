-- What holds at each turn of the loop of `split_line` in src/texts.rt.
use Rattle.std.proofs.Common.{ℕ, ◌<◌, get_or}
use Rattle.tb_basic_format.specs.Texts.{IsWithin}
use Rattle.tb_basic_format.proofs.texts.split_line.Given as goal

abbrev pub invariant-loop-i : goal.invariant-loop-i
invariant-loop-i l = (k : ℕ) → k < l.i → IsWithin (get_or l.text k 0)
