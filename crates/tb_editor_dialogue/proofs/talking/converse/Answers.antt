-- The goals of `converse` in src/talking.rt.
use Rattle.std.proofs.Common.{inl, inr, refl}
use Rattle.tb_editor_dialogue.specs.Dialogue.{more, none}
use Rattle.tb_editor_dialogue.proofs.talking.converse.Goals as goal

pub loop-init : goal.loop-init
loop-init g c = none _

pub loop-preserved : goal.loop-preserved
loop-preserved g c = more _ _ _ c.in_default.field-0 c.loop.invariant c.in_default.ensures

pub returns-in-Err : goal.returns-in-Err
returns-in-Err g c = inl (_, c.loop.invariant, c.in-Err.ensures)

pub returns : goal.returns
returns g c = inr (c.loop.invariant, (c.end.result, c.end.ensures, refl))
