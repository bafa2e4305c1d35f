-- The goals of `condition_length` in src/conditions.rt.
use Rattle.std.proofs.Common.{◌≡◌, sym, arith}
use Rattle.tb_basic_text.proofs.FirstLine.{rest_of}
use Rattle.tb_basic_format.specs.Conditions.{condition_length}
use Rattle.tb_basic_format.specs.declared.conditions.Place.TheVariants.{Operand}
use Rattle.tb_basic_format.proofs.ConditionEnds.{goes_on, stops, runs_out}
use Rattle.tb_basic_format.proofs.conditions.condition_length.Goals as goal

pub returns-in-None-clause-length : goal.returns-in-None-clause-length
returns-in-None-clause-length c =
    let text = c.args.text.now in
    stops text c.loop-i.i c.loop-i.place _ (omega arith) (rw (rest_of text c.loop-i.i) at (sym c.in-None.ensures)) c.loop-i.invariant

pub loop-i-preserved : goal.loop-i-preserved
loop-i-preserved c =
    let text = c.args.text.now in
    goes_on text c.loop-i.i c.loop-i.place c.in-Some.next _ (omega arith) (rw (rest_of text c.loop-i.i) at (sym c.in-Some.ensures)) c.loop-i.invariant

pub returns-clause-length : goal.returns-clause-length
returns-clause-length c =
    let text = c.args.text.now in
    let ends : c.loop-i.i ≡ condition_length Operand text = runs_out text c.loop-i.i c.loop-i.place _ (omega arith) c.loop-i.invariant in
    omega arith
