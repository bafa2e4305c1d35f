-- The goals of `start_machine` in src/loading.rt.
use Rattle.std.proofs.Common.{◌∙◌}
use Rattle.tb_engines.proofs.Start.{never_refused, entered_is_start}
use Rattle.tb_engines.proofs.loading.start_machine.Goals as goal

pub unreachable-requires : goal.unreachable-requires
unreachable-requires c =
    let none = never_refused _ _ _ _ c.requires c.in_ok-memory.ensures.1 c.start_regs.ensures in
    cc (c.in-Err.ensures.refused)

pub returns : goal.returns
returns c = (
  c.in_ok-memory.ensures.0,
  c.in-Ok.ensures.entered.1 ∙ entered_is_start _ _ _ _ _ _ c.requires c.in_ok-memory.ensures.1 c.start_regs.ensures,
)
