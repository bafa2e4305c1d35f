-- What holds at each turn of the loop of `breakable` in src/sources.rt.
use Rattle.std.proofs.Common.{◌≡◌, ◌-◌, length}
use Rattle.tb_dap_views.specs.Sources.{breakable, breakable_in}
use Rattle.tb_dap_views.proofs.sources.SourceFile.breakable.Given as goal

abbrev pub invariant-loop-place : goal.invariant-loop-place
invariant-loop-place l = breakable_in l.self (length l.self.source.lines.items - l.place) l.place ≡ breakable l.self l.from
