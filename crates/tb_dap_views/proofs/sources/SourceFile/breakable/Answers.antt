-- The goal of `breakable` in src/sources.rt.
use Rattle.std.proofs.Common.{rules, ◌≡◌, ◌<◌, length, None}
use Rattle.tb_dap_views.specs.Sources.{standing_at}
use Rattle.tb_dap_views.proofs.Stepwise.{looks_on}
use Rattle.tb_dap_views.proofs.sources.SourceFile.breakable.Goals as goal

pub loop-place-preserved : goal.loop-place-preserved
loop-place-preserved c =
    let few : c.loop-place.place < length c.args.self.now.source.lines.items = search rules in
    let none : standing_at c.args.self.now c.loop-place.place ≡ None = search rules in
    looks_on c.args.self.now (length c.args.self.now.source.lines.items) c.loop-place.place _ few none c.loop-place.invariant
