-- What holds at each turn of the loop of `space_at` in src/options.rt.
use Rattle.std.proofs.Common.{◌≡◌, ◌+◌, drop}
use Rattle.tb_engine_transcripts.specs.Options.{space_at}
use Rattle.tb_engine_transcripts.proofs.options.space_at.Given as goal

abbrev pub invariant-loop-i : goal.invariant-loop-i
invariant-loop-i l = l.i + space_at (drop l.i l.text) ≡ space_at l.text
