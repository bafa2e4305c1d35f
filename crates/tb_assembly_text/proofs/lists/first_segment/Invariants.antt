-- What holds at each turn of the loop of `first_segment` in src/lists.rt.
use Rattle.std.proofs.Common.{◌≡◌, take, drop, map}
use Rattle.tb_assembly_text.specs.Tokens.{token_of}
use Rattle.tb_assembly_text.specs.Lists.{segments, behind_comma}
use Rattle.tb_assembly_text.proofs.Segments.{puts}
use Rattle.tb_assembly_text.proofs.lists.first_segment.Given as goal

abbrev pub invariant-loop-i : goal.invariant-loop-i
invariant-loop-i l =
    (puts (map token_of (take l.i l.tokens)) (segments l.end (map token_of (drop l.i l.tokens))) ≡ segments l.end (map token_of l.tokens))
    × (behind_comma (map token_of (drop l.i l.tokens)) ≡ behind_comma (map token_of l.tokens))
