-- The goals of `Moment::take_event` in src/moment.rt.
use Rattle.std.proofs.Common.{rules, ◌≡◌, ◌+◌, true, false, ap, refl, sym, ◌∙◌, arith}
use Rattle.std.specs.Prelude.{◌&&◌, if◌then◌else◌}
use Rattle.tb_debug.specs.Roms.{event_at}
use Rattle.tb_debug.specs.Runs.{is_marked, shown}
use Rattle.tb_debug.specs.declared.moment.Moment.{Moment}
use Rattle.tb_debug.proofs.Roms.{given_at}
use Rattle.tb_kernal.specs.Machine.{state_of}
use Rattle.tb_debug.proofs.Beginning.{stays_there}
use Rattle.tb_debug.proofs.Running.{behind_by, none_begins, one_more, own_begins, runs_on}
use Rattle.tb_kernal.specs.Runs.{is_own}
use Rattle.tb_debug.proofs.moment.Moment.take_event.Goals as goal

pub returns-then-not-begins-clause-run : goal.returns-then-not-begins-clause-run
returns-then-not-begins-clause-run c =
    let took = c.in_ok-own.ensures in
    let marks = c.args.starts.now in
    let before = c.args.self.now in
    let given = given_at before.rom took.ready before.machine took.event took.same took.given.0 in
    let no : c.begins.result ≡ false = search rules in
    let unmarked : is_marked marks before.machine.regs.pc ≡ false = sym (c.begins.ensures ∙ ap (λ r. is_marked marks r.pc) c.regs-pc.ensures) ∙ no in
    record {
      on = λ start h. record {
        stands = one_more marks start (shown before) _ before.events _ took.event h.stands given
            (behind_by marks (shown before) _ took.event false took.happened took.given.1 (none_begins (is_own took.event) _ unmarked) (omega arith)
            refl refl) refl;
        ran = runs_on marks start (shown before) before.events _ h.ran h.stands c.requires.runs refl;
      };
      later = omega arith;
    }

pub returns-then-not-begins-clause-own : goal.returns-then-not-begins-clause-own
returns-then-not-begins-clause-own c = λ start h.
    let took = c.in_ok-own.ensures in
    let before = c.args.self.now in
    let given = given_at before.rom took.ready before.machine took.event took.same took.given.0 in
    took.is_own ∙ ap is_own given ∙ ap (λ p. is_own (event_at p.rom p.state.regs)) h.stands

pub returns-then-not-begins-clause-begun : goal.returns-then-not-begins-clause-begun
returns-then-not-begins-clause-begun c =
    let marks = c.args.starts.now in
    let before = c.args.self.now in
    let no : c.begins.result ≡ false = search rules in
    let unmarked : is_marked marks before.machine.regs.pc ≡ false = sym (c.begins.ensures ∙ ap (λ r. is_marked marks r.pc) c.regs-pc.ensures) ∙ no in
    let same : before.begun ≡ before.begun + (if false then 1 else 0) = omega arith in
    same ∙ ap (λ b. before.begun + (if b then 1 else 0)) (none_begins c.in_ok-own.own _ unmarked)

pub returns-then-not-begins-clause-interrupted : goal.returns-then-not-begins-clause-interrupted
returns-then-not-begins-clause-interrupted c = λ other.
    let took = c.in_ok-own.ensures in
    stays_there (state_of c.args.self.now.machine) _ took.event c.in_ok-own.own took.is_own other took.happened

pub returns-clause-run : goal.returns-clause-run
returns-clause-run c =
    let took = c.in_ok-is_own.ensures in
    let marks = c.args.starts.now in
    let before = c.args.self.now in
    let own = c.in_ok-is_own.is_own in
    let rest = c.begin_line.ensures.rest in
    let given = given_at before.rom took.ready before.machine took.event took.same took.given.0 in
    let yes : c.begins.result ≡ true = search rules in
    let marked : is_marked marks before.machine.regs.pc ≡ true = sym (c.begins.ensures ∙ ap (λ r. is_marked marks r.pc) c.regs-pc.ensures) ∙ yes in
    let begins = own_begins own _ marked ∙ (λ i. took.is_own i && is_marked marks before.machine.regs.pc) in
    let one = ap (λ (m : Moment). m.events) rest in
    record {
      on = λ start h. record {
        stands = one_more marks start (shown before) _ before.events _ took.event h.stands given
            (behind_by marks (shown before) _ took.event own (ap (λ (m : Moment). state_of m.machine) rest ∙ took.happened)
            (ap (λ (m : Moment). m.rom) rest ∙ took.given.1) begins c.begin_line.ensures.begun
            (c.begin_line.ensures.last ∙ ap (λ r. if own then r.pc else before.last) c.regs-pc.ensures)
            (c.begin_line.ensures.opened ∙ ap (λ v. if own then v else before.opened) c.variables_in-here.ensures)) one;
        ran = runs_on marks start (shown before) before.events _ h.ran h.stands c.requires.runs one;
      };
      later = omega (arith, one);
    }

pub returns-clause-own : goal.returns-clause-own
returns-clause-own c = λ start h.
    let took = c.in_ok-is_own.ensures in
    let before = c.args.self.now in
    let given = given_at before.rom took.ready before.machine took.event took.same took.given.0 in
    took.is_own ∙ ap is_own given ∙ ap (λ p. is_own (event_at p.rom p.state.regs)) h.stands

pub returns-clause-begun : goal.returns-clause-begun
returns-clause-begun c =
    let marks = c.args.starts.now in
    let before = c.args.self.now in
    let yes : c.begins.result ≡ true = search rules in
    let marked : is_marked marks before.machine.regs.pc ≡ true = sym (c.begins.ensures ∙ ap (λ r. is_marked marks r.pc) c.regs-pc.ensures) ∙ yes in
    c.begin_line.ensures.begun ∙ ap (λ b. before.begun + (if b then 1 else 0)) (own_begins c.in_ok-is_own.is_own _ marked)

pub returns-clause-interrupted : goal.returns-clause-interrupted
returns-clause-interrupted c = λ other.
    let took = c.in_ok-is_own.ensures in
    ap (λ (m : Moment). m.machine.regs.pc) c.begin_line.ensures.rest
    ∙ stays_there (state_of c.args.self.now.machine) _ took.event c.in_ok-is_own.is_own took.is_own other took.happened
