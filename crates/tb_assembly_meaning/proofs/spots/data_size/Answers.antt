-- The goals of `data_size` in src/spots.rt.
use Rattle.std.proofs.Common.{◌+◌, drop, map, ap, ◌∙◌}
use Rattle.tb_assembly_text.specs.Lists.{content_of}
use Rattle.tb_assembly_meaning.specs.Places.{data_size}
use Rattle.tb_assembly_meaning.proofs.Next.{size_on}
use Rattle.tb_assembly_meaning.proofs.spots.data_size.Goals as goal

pub loop-datum-preserved : goal.loop-datum-preserved
loop-datum-preserved c =
    ap (λ n. n + data_size (drop (c.loop-datum.datum-index + 1) (map content_of c.args.list.now)))
    (c.in-Some.ensures.1 ∙ ap (λ n. c.loop-datum.size + n) c.content_size.ensures)
    ∙ size_on c.args.list.now c.loop-datum.datum-index c.datum-item.result c.loop-datum.size _ c.loop-datum-test.true c.datum-item.is c.loop-datum.invariant
