-- The goals of `Stepper::take_event` in src/stepper.rt.
use Rattle.std.proofs.Common.{◌≡◌, ◌≤◌, ◌++◌, ◌∷◌, [], length, ap, refl, sym, subst, ◌∙◌}
use Rattle.std.specs.Prelude.{Ok, option_map}
use Rattle.circular_buffer.specs.Buffer.{keep_last}
use Rattle.tb_kernal.specs.Machine.{Happened}
use Rattle.tb_kernal.specs.Former.{Former}
use Rattle.circular_buffer.specs.Buffer.{Buffer}
use Rattle.tb_stepper.specs.Holding.{Holds, all_fit}
use Rattle.tb_stepper.specs.History.{Added}
use Rattle.tb_stepper.proofs.GivingBack.{kept_fit, few_kept, added, added_follows}
use Rattle.tb_stepper.proofs.stepper.Stepper.take_event.Goals as goal

pub invariant_of-self-in-Ok : goal.invariant_of-self-in-Ok
invariant_of-self-in-Ok g c =
    let happened : Happened c.reserve.new.self c.next-event.result (Ok c.in-Ok.status) c.event.new.self = c.in-Ok.ensures in
    let fit = kept_fit c.self.inside.machine c.reserve.new.self c.event.new.self c.next-event.result c.in-Ok.status c.note-undo.result c.self.inside.undos.items
    c.reserve.ensures.rest c.note-undo.ensures happened c.self.invariant.1 in
    let undos : c.push_back.new.self.items ≡ keep_last 1000 (c.self.inside.undos.items ++ c.note-undo.result ∷ []) =
    ap (λ (b : Buffer Former). b.items) c.push_back.ensures.items ∙ ap (λ n. keep_last n (c.self.inside.undos.items ++ c.note-undo.result ∷ [])) c.self.invariant.0 in
    let before : Holds g.row.O.Denot = record { machine = c.self.inside.machine; outside = c.self.inside.outside; undos = c.self.inside.undos.items; program = option_map (λ p. p.now) c.self.inside.program } in
    let after : Holds g.row.O.Denot = record { machine = c.event.new.self; outside = c.next-event.new.self; undos = c.push_back.new.self.items; program = option_map (λ p. p.now) c.self.inside.program } in
    let more : Added g.O.Outside.gives before after =
    added g.O.Outside.gives before after c.reserve.new.self c.next-event.result c.in-Ok.status c.note-undo.result c.reserve.ensures.rest
    c.next-event.ensures c.note-undo.ensures happened undos refl in (
      ap (λ (b : Buffer Former). b.capacity) c.push_back.ensures.items ∙ c.self.invariant.0,
      ap (all_fit c.event.new.self.all_text c.event.new.self.all_answers) undos ∙ fit,
      added_follows g.O.Outside.gives g.met.O.Outside.gives_lawful
          before after more c.self.invariant.2,
      subst (λ us. length us ≤ 1000) (sym undos) (few_kept (c.self.inside.undos.items ++ c.note-undo.result ∷ [])),
    )

pub returns : goal.returns
returns g c =
    let happened : Happened c.reserve.new.self c.next-event.result (Ok c.in-Ok.status) c.event.new.self = c.in-Ok.ensures in
    let undos : c.push_back.new.self.items ≡ keep_last 1000 (c.self.inside.undos.items ++ c.note-undo.result ∷ []) =
    ap (λ (b : Buffer Former). b.items) c.push_back.ensures.items ∙ ap (λ n. keep_last n (c.self.inside.undos.items ++ c.note-undo.result ∷ [])) c.self.invariant.0 in
    rw (← c.self.view_is) (
      added g.O.Outside.gives (record {
        machine = c.self.inside.machine;
        outside = c.self.inside.outside;
        undos = c.self.inside.undos.items;
        program = option_map (λ p. p.now) c.self.inside.program;
      }) (record {
        machine = c.event.new.self;
        outside = c.next-event.new.self;
        undos = c.push_back.new.self.items;
        program = option_map (λ p. p.now) c.self.inside.program;
      }) c.reserve.new.self c.next-event.result c.in-Ok.status c.note-undo.result
          c.reserve.ensures.rest c.next-event.ensures c.note-undo.ensures happened undos refl,
      happened.2,
    )
