-- What holds at each turn of the loop of `next_line` in src/lines.rt.
use Rattle.std.proofs.Common.{◌≢◌, ℕ, ◌<◌, get_or}
use Rattle.tb_basic_text.proofs.lines.next_line.Given as goal

abbrev pub invariant-loop-i : goal.invariant-loop-i
invariant-loop-i l = (k : ℕ) → k < l.i → (get_or l.text k 0 ≢ 10) × (get_or l.text k 0 ≢ 13)
