-- The goals of `go_on` in src/outside.rt.
use Rattle.std.proofs.Common.{rules, ◌≡◌, true, refl, ◌++◌, ◌∷◌, [], arith, length-append}
use Rattle.tb_kernal.specs.declared.events.Event.{Event}
use Rattle.tb_kernal.specs.declared.events.Event.TheVariants.{Go}
use Rattle.tb_kernal.proofs.Giving.{gave_more, stepped_by_go}
use Rattle.tb_kernal.proofs.outside.go_on.Goals as goal

pub loop-done-preserved : goal.loop-done-preserved
loop-done-preserved g c =
    let i = c.loop-done.invariant.0 in
    let now : c.is_at_instruction.result ≡ true = search rules in
    let there = c.is_at_instruction.ensures now in
    let taken : c.takes_go.result ≡ true = search rules in
    let given = c.takes_go.ensures.taken taken c.loop-done.machine in
    let e : Event = Go given.0 in
    let did = stepped_by_go c.loop-done.machine c.step_once.new.self given.0 there.0 there.1 c.step_once.ensures.state in (
      (
        i.0 ++ e ∷ [],
        omega (arith, length-append i.0 (e ∷ []), i.1),
        gave_more g.O.Outside.gives i.0 _ _ _ c.loop-done.machine e _ c.loop-done.machine c.step_once.new.self i.2 there.0 refl given.1 did,
      ),
      omega (arith, c.loop-done.invariant.1, c.step_once.ensures.room),
    )
