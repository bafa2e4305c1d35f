-- The goals of `machine_after` in src/places.rt.
use Rattle.std.proofs.lemmas.List.{at_drop_all, at_drop_more}
use Rattle.std.proofs.Common.{rules, ◌≡◌, ◌≤◌, ◌+◌, ◌∙◌, [], ◌∷◌, length, map, drop, refl, sym, ap, subst}
use Rattle.tb_kernal.specs.Machine.{state_of}
use Rattle.tb_kernal.specs.Typing.{with_more}
use Rattle.tb_engine_play.specs.Lines.{keys_of_text}
use Rattle.tb_engine_test.specs.Places.{TypedTo, start_of}
use Rattle.tb_engine_test.proofs.Past.{TypesOn, types_more}
use Rattle.tb_engine_test.proofs.places.machine_after.Goals as goal

pub loop-line-init : goal.loop-line-init
loop-line-init g c = λ p n typed. subst (λ m. TypedTo g.O.Outside.gives c.args.outside.now m c.args.manner.now (map (λ v. v.items) c.args.lines.now) p n) c.in_ok-machine.ensures typed

pub loop-line-preserved : goal.loop-line-preserved
loop-line-preserved g c =
    let split : map (λ v. v.items) (drop c.loop-line.line-index c.args.lines.now) ≡ c.line-item.result.items ∷ map (λ v. v.items) (drop (c.loop-line.line-index + 1) c.args.lines.now) =
    at_drop_more (map (λ v. v.items)) c.args.lines.now c.loop-line.line-index c.line-item.result c.loop-line-test.true
    ∙ ap (λ y. y.items ∷ map (λ v. v.items) (drop (c.loop-line.line-index + 1) c.args.lines.now)) (sym c.line-item.is) in
    let here = subst (λ r. TypesOn g.O.Outside.gives c.args.outside.now (start_of c.args.program.now) c.args.manner.now (map (λ v. v.items) c.args.lines.now) c.loop-line.outside c.loop-line.machine r) split c.loop-line.invariant in
    let more : state_of c.type_text.new.self ≡ with_more (keys_of_text c.line-item.result.items) (state_of c.go_on.new.machine) = search rules in
    types_more g.O.Outside.gives _ _ _ _ _ _ c.line-item.result.items _ _ _ _ _ _ _ here c.in_ok-go_on.ensures more

pub returns : goal.returns
returns g c =
    let past : length c.args.lines.now ≤ c.loop-line.line-index = search rules in
    let none : map (λ v. v.items) (drop c.loop-line.line-index c.args.lines.now) ≡ [] = at_drop_all (map (λ v. v.items)) c.args.lines.now c.loop-line.line-index past in
    let here = subst (λ r. TypesOn g.O.Outside.gives c.args.outside.now (start_of c.args.program.now) c.args.manner.now (map (λ v. v.items) c.args.lines.now) c.loop-line.outside c.loop-line.machine r) none c.loop-line.invariant in
    here c.loop-line.outside c.loop-line.machine (refl, refl)
