-- The goals of `place_all` in src/layout.rt.
use Rattle.std.proofs.Common.{◌+◌, ◌++◌, drop, map, sym, ap, ◌∙◌}
use Rattle.tb_assembly_text.specs.Statements.{said_of}
use Rattle.tb_assembly_meaning.specs.Places.{laid_of, layout_of, reached_from, spots_from}
use Rattle.tb_assembly_meaning.proofs.Next.{next, place_on, reach_on}
use Rattle.tb_assembly_meaning.proofs.layout.place_all.Goals as goal

pub loop-statement-preserved : goal.loop-statement-preserved
loop-statement-preserved c =
    let r = layout_of c.loop-statement.layout in
    let rest = drop (c.loop-statement.statement-index + 1) (map said_of c.args.statements.now) in
    let n = next said_of c.args.statements.now c.loop-statement.statement-index c.statement-item.result c.loop-statement-test.true c.statement-item.is in (
      place_on (map laid_of c.loop-statement.laid.items) (map laid_of c.push.new.laid.items) r (layout_of c.pass.new.layout) (said_of c.statement-item.result)
          c.in_ok-spot.spot rest _ c.in_ok-push.ensures.added c.in_ok-spot.ensures.spot c.in_ok-spot.ensures.after
          (sym (ap (λ l. map laid_of c.loop-statement.laid.items ++ spots_from r l) n) ∙ c.loop-statement.invariant.0),
      reach_on r (layout_of c.pass.new.layout) (said_of c.statement-item.result) c.in_ok-spot.spot rest _ c.in_ok-spot.ensures.spot c.in_ok-spot.ensures.after
          (sym (ap (reached_from r) n) ∙ c.loop-statement.invariant.1),
      c.in_ok-spot.ensures.within,
    )
