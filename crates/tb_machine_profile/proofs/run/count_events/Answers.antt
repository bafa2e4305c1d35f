-- The goals of `count_events` in src/run.rt.
use Rattle.std.proofs.Common.{rules, ◌≡◌, ◌+◌, ◌-◌, ◌<◌, ◌≤◌, true, false, length, ◌∷◌, [], ◌++◌, sym, ◌∙◌, arith, length-append}
use Rattle.tb_kernal.specs.Machine.{state_of, status, is_running}
use Rattle.tb_kernal.specs.declared.status.Status.TheVariants.{Running}
use Rattle.tb_kernal.proofs.Giving.{gave_more, gave_run, gave_lawful, running, not_running}
use Rattle.tb_machine_profile.proofs.Counting.{event_more, few_counted, took_all}
use Rattle.tb_machine_profile.proofs.run.count_events.Goals.{then-taken-limit-via-then-taken-limit, then-taken-limit-via-else-taken-limit+then-not-is_running}
use Rattle.tb_machine_profile.proofs.run.count_events.Goals as goal

pub take_shortly-taken-requires : goal.take_shortly-taken-requires
take_shortly-taken-requires g c =
    let few = few_counted g.O.Outside.gives c.args.outside.now c.args.machine.now c.args.starts.now c.loop-taken.taken _ _ _ c.loop-taken.invariant.1 in
    let stretch : c.min-stretch.result ≤ c.args.limit - c.loop-taken.taken = search rules in
    record { room = omega (arith, few, stretch, c.loop-taken.invariant.0) }

pub returns-then-taken-limit : goal.returns-then-taken-limit
returns-then-taken-limit g c =
    let gives = g.O.Outside.gives in
    let took = c.take_shortly-taken.ensures.took in
    let (es, many, gave, tally) = took_all gives c.args.outside.now c.args.machine.now c.args.starts.now c.loop-taken.taken c.loop-taken.outside
    c.loop-taken.machine c.take_shortly-taken.new.machine c.loop-taken.tally c.take_shortly-taken.new.tally took.0 c.loop-taken.invariant.1 took.2 in
    let stretch : c.min-stretch.result ≤ c.args.limit - c.loop-taken.taken = search rules in
    let all : status (state_of c.take_shortly-taken.new.machine) ≡ Running → length es ≡ c.args.limit =
    elim c.then-taken-limit.branch [
      | then-taken-limit-via-then-taken-limit w ↦
          let last : c.loop-taken.taken + c.take_shortly-taken.result ≡ c.args.limit = search rules in
          λ runs. omega (arith, many, took.1, last)
      | then-taken-limit-via-else-taken-limit+then-not-is_running w ↦
          let stands : is_running c.status-status.result ≡ false = search rules in
          λ runs. not_running c.status-status.result stands (c.status-status.ensures ∙ runs)
    ] in (
      record {
        events = es;
        few = omega (arith, many, took.1, c.take_shortly-taken.ensures.few, stretch, c.loop-taken.invariant.0);
        gave = gave;
        ran = gave_run gives es _ _ _ _ gave;
        lawful = gave_lawful gives g.met.O.Outside.gives_lawful es _ _ _ _ gave;
        answer = (c.status-status.ensures, λ runs. all (sym c.status-status.ensures ∙ runs));
      },
      tally,
    )

pub take_event-requires-clause-few : goal.take_event-requires-clause-few
take_event-requires-clause-few g c =
    let gives = g.O.Outside.gives in
    let took = c.take_shortly-taken.ensures.took in
    let counts = took_all gives c.args.outside.now c.args.machine.now c.args.starts.now c.loop-taken.taken c.loop-taken.outside
    c.loop-taken.machine c.take_shortly-taken.new.machine c.loop-taken.tally c.take_shortly-taken.new.tally took.0 c.loop-taken.invariant.1 took.2 in
    let few = few_counted gives c.args.outside.now c.args.machine.now c.args.starts.now _ _ _ _ counts in
    let stretch : c.min-stretch.result ≤ c.args.limit - c.loop-taken.taken = search rules in
    let limit : c.args.limit < 4294967296 = search rules in
    omega (arith, few, took.1, c.take_shortly-taken.ensures.few, stretch, c.loop-taken.invariant.0, limit)

pub loop-taken-preserved : goal.loop-taken-preserved
loop-taken-preserved g c =
    let gives = g.O.Outside.gives in
    let q = c.take_shortly-taken.ensures.took in
    let (es, many, gave, tally) = took_all gives c.args.outside.now c.args.machine.now c.args.starts.now c.loop-taken.taken c.loop-taken.outside
    c.loop-taken.machine c.take_shortly-taken.new.machine c.loop-taken.tally c.take_shortly-taken.new.tally q.0 c.loop-taken.invariant.1 q.2 in
    let stretch : c.min-stretch.result ≤ c.args.limit - c.loop-taken.taken = search rules in
    let stands : is_running c.status-status.result ≡ true = search rules in
    let now : status (state_of c.take_shortly-taken.new.machine) ≡ Running = sym c.status-status.ensures ∙ running c.status-status.result stands in
    let took = c.in_ok-take_event.ensures in
    let same : state_of took.ready ≡ _ = took.same ∙ gave_run gives es _ _ _ _ gave in (
      omega (arith, c.take_shortly-taken.ensures.few, stretch, c.loop-taken.invariant.0, c.if-taken-limit.false),
      (
        es ++ took.event ∷ [],
        omega (arith, length-append es (took.event ∷ []), many, q.1),
        gave_more gives es _ _ _ _ took.event _ took.ready _ gave now took.same took.given took.happened,
        event_more c.args.starts.now es _ _ took.event _ _ same tally took.counted,
      ),
    )

pub returns : goal.returns
returns g c =
    let gives = g.O.Outside.gives in
    let (es, many, gave, tally) = c.loop-taken.invariant.1 in
    let all : length es ≡ c.args.limit = omega (arith, many, c.loop-taken.invariant.0, c.loop-taken-test.false) in (
      record {
        events = es;
        few = omega (arith, all);
        gave = gave;
        ran = gave_run gives es _ _ _ _ gave;
        lawful = gave_lawful gives g.met.O.Outside.gives_lawful es _ _ _ _ gave;
        answer = (c.status.ensures, λ _. all);
      },
      tally,
    )
