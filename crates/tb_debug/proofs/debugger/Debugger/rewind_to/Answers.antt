-- The goals of `Debugger::rewind_to` in src/debugger.rt.
use Rattle.std.proofs.Common.{◌≡◌, arith, subst, ◌∙◌}
use Rattle.std.specs.Prelude.{vec_len}
use Rattle.tb_debug.specs.Begins.{BeginsThere, StandsBy}
use Rattle.tb_debug.specs.Debuggers.{IsAtTime}
use Rattle.tb_debug.specs.Runs.{IsOfRun}
use Rattle.tb_debug.specs.declared.moment.Reached.TheVariants.{Line}
use Rattle.tb_debug.proofs.Leading.{all_until, comes_back, short_back}
use Rattle.tb_debug.proofs.debugger.Debugger.rewind_to.Goals as goal

pub returns-clause-back : goal.returns-clause-back
returns-clause-back c = λ start none on past.
    let d = c.args.self.now in
    let k = c.rewind_to_checkpoint.new.self in
    let q = c.run_to_time.new.self in
    let time = c.args.time in
    let reached = c.in_ok-reached.reached in
    let kept = c.in_ok-rewind_to_checkpoint.ensures in
    let next = c.in_ok-reached.ensures in
    let of_run = (next.run.2 start (kept.run.2 start on)).of_run in
    comes_back d.starts start d.present k.present q.present time c.events-most.result reached on.of_run
    (subst (λ marks. IsOfRun marks start q.present) (next.run.1 ∙ kept.run.1) of_run) past
    (next.few (kept.before time start c.newest_until-newest.ensures none on)) (subst (λ marks. IsAtTime time marks reached q.present) kept.run.1 next.time)
    (subst (λ marks. StandsBy marks reached q.present) kept.run.1 next.stands) next.limited none (omega (arith, c.events-most.ensures)) (omega (arith, c.events-most.ensures))

pub returns-clause-short : goal.returns-clause-short
returns-clause-short c = λ start none on past newest.
    let d = c.args.self.now in
    let q = c.run_to_time.new.self in
    let time = c.args.time in
    let until = c.newest_until-newest.ensures in
    let kept = c.in_ok-rewind_to_checkpoint.ensures in
    let next = c.in_ok-reached.ensures in
    let there = kept.run.2 start on in
    let is_line : c.in_ok-reached.reached ≡ Line = (returns-clause-back c) start none on past in
    let later = d.history.later in
    let all : c.newest_until-newest.result ≡ vec_len later =
    all_until time (vec_len later) c.newest_until-newest.result d.history.first later.items (omega (arith, later.ok.0)) until newest in
    short_back d start c.rewind_to_checkpoint.new.self.present q.present time on
    (subst (λ marks. IsOfRun marks start q.present) (next.run.1 ∙ kept.run.1) (next.run.2 start there).of_run) past
    (next.few (kept.before time start until none on)) (kept.newest all)
    (subst (λ r. BeginsThere d.starts start r c.rewind_to_checkpoint.new.self.present q.present) is_line
    (subst (λ marks. BeginsThere marks start c.in_ok-reached.reached c.rewind_to_checkpoint.new.self.present q.present) kept.run.1 (next.begins start there)))
