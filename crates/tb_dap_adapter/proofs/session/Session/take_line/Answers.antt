-- The goals of `take_line` in src/session.rt.
use Rattle.std.proofs.Common.{ap, ◌∙◌, arith}
use Rattle.tb_engine_play.specs.Lines.{keys_of_text}
use Rattle.tb_dap_adapter.specs.Sessions.{waits}
use Rattle.tb_dap_adapter.proofs.Typing.{line_taken}
use Rattle.tb_dap_adapter.proofs.session.Session.take_line.Goals as goal

pub returns : goal.returns
returns c =
    line_taken c.in_ok-keys.keys.items c.args.text.now c.args.self.now _ _ _ c.waits-waited.result
    (c.in_ok-keys.ensures ∙ ap keys_of_text c.as_bytes.ensures.value)
    (omega (arith, c.if-saturating_sub-len.false, c.len.ensures, c.saturating_sub.ensures))
    (rw c.deref.ensures.value at c.in_ok-type_keys.ensures) (c.waits-waited.ensures ∙ ap waits c.status.ensures) c.in_ok-said.ensures
