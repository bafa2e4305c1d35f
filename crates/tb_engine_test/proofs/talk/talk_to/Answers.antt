-- The goals of `talk_to` in src/talk.rt.
use Rattle.std.proofs.lemmas.List.{at_drop_all, at_drop_more}
use Rattle.std.proofs.Common.{rules, ap, length, ◌≤◌, ◌≡◌, false, true, [], ◌∷◌, ◌++◌, ◌+◌, ◌∙◌, map, drop, sym, subst}
use Rattle.tb_engine_test.specs.Talks.{is_waiting, Goes}
use Rattle.tb_engine_test.proofs.Talking.{GoesOn, ends_here, one_more, stops_early, stops_last, waits}
use Rattle.tb_engine_test.proofs.talk.talk_to.Goals as goal

pub returns-then-not-is_waiting : goal.returns-then-not-is_waiting
returns-then-not-is_waiting g c =
    let stopped : is_waiting c.in_ok-now.now.status ≡ false = search rules in
    let pushed : c.push.new.self.items ≡ c.loop-line.rows.items ++ c.in_ok-now.now.rows ∷ [] = search rules in
    rw pushed (ends_here g.O.Outside.gives _ _ _ _ _ _ _ _ _ _ _ _ _ _ c.loop-line.invariant c.in_ok-now.ensures (stops_early _ _ stopped))

pub loop-line-preserved : goal.loop-line-preserved
loop-line-preserved g c =
    let waiting : is_waiting c.in_ok-now.now.status ≡ true = search rules in
    let pushed : c.push.new.self.items ≡ c.loop-line.rows.items ++ c.in_ok-now.now.rows ∷ [] = search rules in
    let split : map (λ v. v.items) (drop c.loop-line.line-index c.args.lines.now) ≡ c.line-item.result.items ∷ map (λ v. v.items) (drop (c.loop-line.line-index + 1) c.args.lines.now) = at_drop_more (map (λ v. v.items)) c.args.lines.now c.loop-line.line-index c.line-item.result c.loop-line-test.true
    ∙ ap (λ y. y.items ∷ map (λ v. v.items) (drop (c.loop-line.line-index + 1) c.args.lines.now)) (sym c.line-item.is) in
    let (turn, more, grown, sent, typed) = c.in_ok-type_line.ensures in
    let here = subst (λ r. GoesOn g.O.Outside.gives c.args.outside.now c.args.machine.now c.args.manner.now (map (λ v. v.items) c.args.lines.now)
    c.loop-line.outside c.loop-line.machine r c.loop-line.turns.items c.loop-line.rows.items) split c.loop-line.invariant in
    let went = subst (λ t. Goes g.O.Outside.gives c.loop-line.outside c.loop-line.machine c.args.manner.now t c.in_ok-now.now.sent.items c.in_ok-now.now.rows.items c.go_on.new.outside c.go_on.new.machine) (waits _ waiting) c.in_ok-now.ensures in
    let goes = subst (λ x. Goes g.O.Outside.gives c.loop-line.outside c.loop-line.machine c.args.manner.now _ x c.in_ok-now.now.rows.items c.go_on.new.outside c.go_on.new.machine) (sym sent) went in
    rw grown (rw pushed (one_more g.O.Outside.gives _ _ _ _ _ _ c.line-item.result.items _ _ _ turn c.in_ok-now.now.rows _ _ _ here goes (search rules) (search rules)))

pub returns : goal.returns
returns g c =
    let pushed : c.push-2.new.self.items ≡ c.loop-line.rows.items ++ c.in_ok-now-2.now.rows ∷ [] = search rules in
    let past : length c.args.lines.now ≤ c.loop-line.line-index = search rules in
    let none : map (λ v. v.items) (drop c.loop-line.line-index c.args.lines.now) ≡ [] = at_drop_all (map (λ v. v.items)) c.args.lines.now c.loop-line.line-index past in
    let here = subst (λ r. GoesOn g.O.Outside.gives c.args.outside.now c.args.machine.now c.args.manner.now (map (λ v. v.items) c.args.lines.now)
    c.loop-line.outside c.loop-line.machine r c.loop-line.turns.items c.loop-line.rows.items) none c.loop-line.invariant in
    rw pushed (ends_here g.O.Outside.gives _ _ _ _ _ _ _ _ _ _ _ _ _ _ here c.in_ok-now-2.ensures (stops_last _))
