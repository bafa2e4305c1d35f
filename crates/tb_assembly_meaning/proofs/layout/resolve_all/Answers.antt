-- The goals of `resolve_all` in src/layout.rt.
use Rattle.std.proofs.Common.{◌+◌, drop, map, sym, ap, ◌∙◌}
use Rattle.tb_assembly_meaning.specs.Names.{named}
use Rattle.tb_assembly_meaning.specs.Places.{laid_of, resolved_all}
use Rattle.tb_assembly_meaning.proofs.Next.{next}
use Rattle.tb_assembly_meaning.proofs.layout.resolve_all.Goals as goal

pub loop-one-preserved : goal.loop-one-preserved
loop-one-preserved c =
    ap (λ env. resolved_all env (drop (c.loop-one.one-index + 1) (map laid_of c.args.laid.now))) c.in_ok-resolve.ensures.resolved
    ∙ sym (ap (resolved_all (named c.loop-one.symbols.entries)) (next laid_of c.args.laid.now c.loop-one.one-index c.one-item.result c.loop-one-test.true c.one-item.is))
    ∙ c.loop-one.invariant
