-- The goals of `show_make_of` in src/calls/sources.rt.
use Rattle.std.proofs.Common.{refl}
use Rattle.tb_compiled.specs.Settings.{by_cost}
use Rattle.tb_tools_bench.proofs.calls.sources.show_make_of.Goals as goal

pub make-requires : goal.make-requires
make-requires c = (by_cost 1, refl, c.in_ok-program.ensures.only)
