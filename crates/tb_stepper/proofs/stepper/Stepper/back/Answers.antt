-- The goals of `Stepper::back` in src/stepper.rt.
use Rattle.std.proofs.Common.{rules, ◌≡◌, ◌++◌, [], ◌∷◌, true, refl, sym, ap, subst, ◌∙◌, length, length-append, arith}
use Rattle.std.specs.Prelude.{option_map}
use Rattle.circular_buffer.proofs.Items.{pops_last}
use Rattle.tb_kernal.specs.Machine.{state_of}
use Rattle.tb_stepper.specs.Holding.{Holds, machines, all_fit, EachFollows}
use Rattle.tb_stepper.proofs.GivingBack.{fits_less, taken_off}
use Rattle.tb_stepper.proofs.Following.{follows_less}
use Rattle.tb_stepper.proofs.stepper.Stepper.back.Goals as goal

pub invariant_of-self : goal.invariant_of-self
invariant_of-self g c =
    let h = pops_last c.self.inside.undos.items in
    let m = c.self.inside.machine in
    let less : c.self.inside.undos.items ≡ c.pop_back.new.self.items ++ c.in-Some.undo ∷ [] = search rules in
    let all : all_fit m.all_text m.all_answers (c.pop_back.new.self.items ++ c.in-Some.undo ∷ []) ≡ true = ap (all_fit m.all_text m.all_answers) (sym less) ∙ c.self.invariant.1 in
    let keyboard = c.undo.ensures.restored.keyboard in
    let before : Holds g.row.O.Denot = record { machine = m; outside = c.self.inside.outside; undos = c.self.inside.undos.items; program = option_map (λ p. p.now) c.self.inside.program } in
    let after : Holds g.row.O.Denot = record { machine = c.undo.new.self; outside = c.self.inside.outside; undos = c.pop_back.new.self.items; program = option_map (λ p. p.now) c.self.inside.program } in
    let each : EachFollows (machines after ++ state_of m ∷ []) = subst EachFollows (taken_off before after c.in-Some.undo less c.undo.ensures.restored c.self.invariant.1) c.self.invariant.2 in (
      rw c.pop_back.ensures.items c.self.invariant.0,
      (λ i. all_fit (keyboard.0 i) (keyboard.1 i) c.pop_back.new.self.items)
          ∙ (fits_less m.all_text m.all_answers _ _ all).0,
      follows_less _ _ _ each,
      omega (arith, length-append c.pop_back.new.self.items (c.in-Some.undo ∷ []), ap length less, c.self.invariant.3),
    )

pub invariant_of-self-in-None : goal.invariant_of-self-in-None
invariant_of-self-in-None g c =
    let h = pops_last c.self.inside.undos.items in
    let none : c.pop_back.new.self.items ≡ [] = search rules in
    (rw c.pop_back.ensures.items c.self.invariant.0, rw none refl, rw none tt, omega (arith, ap length none))

pub returns-in-Some-clause-restored : goal.returns-in-Some-clause-restored
returns-in-Some-clause-restored g c =
    let h = pops_last c.self.inside.undos.items in
    let less : c.self.inside.undos.items ≡ c.pop_back.new.self.items ++ c.in-Some.undo ∷ [] = search rules in
    rw (← c.self.view_is) (taken_off (record {
      machine = c.self.inside.machine;
      outside = c.self.inside.outside;
      undos = c.self.inside.undos.items;
      program = option_map (λ p. p.now) c.self.inside.program;
    }) (record {
      machine = c.undo.new.self;
      outside = c.self.inside.outside;
      undos = c.pop_back.new.self.items;
      program = option_map (λ p. p.now) c.self.inside.program;
    }) c.in-Some.undo less c.undo.ensures.restored c.self.invariant.1)

pub returns-in-None-clause-refused : goal.returns-in-None-clause-refused
returns-in-None-clause-refused g c =
    let h = pops_last c.self.inside.undos.items in
    let none : c.pop_back.new.self.items ≡ [] = search rules in
    let were : c.self.inside.undos.items ≡ [] = search rules in
    rw (← c.self.view_is) (were, (λ i. record { machine = c.self.inside.machine; outside = c.self.inside.outside; undos = (none ∙ sym were) i; program = option_map (λ p. p.now) c.self.inside.program }))
