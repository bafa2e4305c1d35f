-- The goals of `go_past` in src/places.rt.
use Rattle.std.proofs.Common.{rules, ◌≡◌, ◌∙◌, inl, inr, true, length, drop, ap, arith}
use Rattle.tb_kernal.specs.Machine.{is_running, state_of, status}
use Rattle.tb_engines.proofs.Stretched.{run_longer}
use Rattle.tb_engines.specs.Writing.{sent_since}
use Rattle.tb_engine_streams.specs.HostForm.{shown_as}
use Rattle.tb_engine_test.proofs.Past.{past_more, runs}
use Rattle.tb_engine_test.proofs.places.go_past.Goals as goal

pub sent_after-requires : goal.sent_after-requires
sent_after-requires g c = rw c.sent-before.ensures (run_longer g.O.Outside.gives _ _ _ _ _ _ c.in_ok-run.ensures.ran)

pub returns-then-left-width : goal.returns-then-left-width
returns-then-left-width g c =
    let running : is_running (status (state_of c.loop.machine)) ≡ true = search rules in
    let (events, many, gave, longer, sizes, first) = past_more g.O.Outside.gives _ _ _ _ _ _ _ _ _ _ _ c.loop.invariant (runs _ running) c.in_ok-run.ensures.ran in
    let size : c.len-width.result ≡ length c.in_ok-shown.field-0.items = search rules in
    let width : c.len-width.result ≡ length (shown_as c.args.manner.now.notation (sent_since c.loop.machine c.run.new.machine)) =
    size ∙ ap length c.in_ok-shown.ensures ∙ ap (λ b. length (shown_as c.args.manner.now.notation b)) c.sent_after.ensures
    ∙ ap (λ b. length (shown_as c.args.manner.now.notation (drop (length b) c.run.new.machine.sent))) c.sent-before.ensures in
    let below = c.loop-test.true in
    let more = c.if-left-width.true in
    record { events = events; few = omega (arith, many, below); gave = gave; ends = inl (omega (arith, sizes, width, more)); first = inr first }

pub loop-preserved : goal.loop-preserved
loop-preserved g c =
    let running : is_running (status (state_of c.loop.machine)) ≡ true = search rules in
    let (events, many, gave, longer, sizes, first) = past_more g.O.Outside.gives _ _ _ _ _ _ _ _ _ _ _ c.loop.invariant (runs _ running) c.in_ok-run.ensures.ran in
    let size : c.len-width.result ≡ length c.in_ok-shown.field-0.items = search rules in
    let width : c.len-width.result ≡ length (shown_as c.args.manner.now.notation (sent_since c.loop.machine c.run.new.machine)) =
    size ∙ ap length c.in_ok-shown.ensures ∙ ap (λ b. length (shown_as c.args.manner.now.notation b)) c.sent_after.ensures
    ∙ ap (λ b. length (shown_as c.args.manner.now.notation (drop (length b) c.run.new.machine.sent))) c.sent-before.ensures in
    let fits = c.if-left-width.false in
    record { events = events; counted = many; gave = gave; longer = longer; shown = omega (arith, sizes, width, fits); first = inr first }
