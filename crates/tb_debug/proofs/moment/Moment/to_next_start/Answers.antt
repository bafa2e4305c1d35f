-- The goals of `Moment::to_next_start` in src/moment.rt.
use Rattle.std.proofs.Common.{◌&&◌, ◌∙◌, sym, subst, arith}
use Rattle.tb_debug.specs.Begins.{GoesBetween}
use Rattle.tb_debug.proofs.Beginning.{comes_by, none_before, none_between, none_more, none_on, tally_few, tally_more, tally_on}
use Rattle.tb_debug.proofs.moment.Moment.to_next_start.Goals as goal

pub returns-then-both-clause-ends : goal.returns-then-both-clause-ends
returns-then-both-clause-ends c = λ start h.
    let marks = c.args.starts.now in
    let before = c.loop-self.self in
    let now = c.take_event.new.self in
    let taken = c.in_ok-own.ensures in
    let was = c.loop-self.invariant.run.on start h in
    let comes = comes_by marks start before now c.in_ok-own.own c.begins-marked.result c.both.result (taken.run.on start was) taken.one
    (taken.own start was) c.begins-marked.ensures c.both.ensures in (
      omega (arith, taken.one, c.loop-self.invariant.run.later),
      comes ∙ c.if-both.true,
      none_before marks start _ before.events now.events taken.one (c.loop-self.invariant.none start h),
    )

pub loop-self-preserved : goal.loop-self-preserved
loop-self-preserved c =
    let marks = c.args.starts.now in
    let before = c.loop-self.self in
    let now = c.take_event.new.self in
    let later = c.go_between.new.self in
    let taken = c.in_ok-own.ensures in
    let gone = c.go_between.ensures in
    let tally = tally_more marks c.args.self.now before now c.in_ok-own.own c.loop-self.invariant.tally taken.begun taken.interrupted
    ((λ i. c.in_ok-own.own && sym c.begins-marked.ensures i) ∙ sym c.both.ensures ∙ c.if-both.false) in
    record {
      run = record {
        on = λ start h. gone.run.on start (taken.run.on start (c.loop-self.invariant.run.on start h));
        later = omega (arith, taken.one, gone.run.later, c.loop-self.invariant.run.later);
      };
      few = omega (arith, taken.one, gone.few, c.loop-self-test.true);
      tally = tally_on marks c.args.self.now now later tally gone.run.later gone.begun gone.stays
          (λ led. sym c.if-go_between.false ∙ gone.led.1 led);
      none = λ start h.
          let was = c.loop-self.invariant.run.on start h in
          let is = taken.run.on start was in
          let comes = comes_by marks start before now c.in_ok-own.own c.begins-marked.result c.both.result is taken.one (taken.own start was)
          c.begins-marked.ensures c.both.ensures in
          let none = none_more marks start _ before.events now.events taken.one (c.loop-self.invariant.none start h) (comes ∙ c.if-both.false) in
          none_on marks start _ now later gone.run.later none (subst (λ b. GoesBetween marks start now b later) c.if-go_between.false (gone.between start is));
    }

pub returns-then-go_between-clause-ends : goal.returns-then-go_between-clause-ends
returns-then-go_between-clause-ends c = λ start h.
    let marks = c.args.starts.now in
    let before = c.loop-self.self in
    let now = c.take_event.new.self in
    let later = c.go_between.new.self in
    let taken = c.in_ok-own.ensures in
    let gone = c.go_between.ensures in
    let was = c.loop-self.invariant.run.on start h in
    let is = taken.run.on start was in
    let between = gone.between start is in
    let (more, marked) = gone.led.0 c.if-go_between.true in
    let comes = comes_by marks start before now c.in_ok-own.own c.begins-marked.result c.both.result is taken.one (taken.own start was)
    c.begins-marked.ensures c.both.ensures in
    let none = none_more marks start _ before.events now.events taken.one (c.loop-self.invariant.none start h) (comes ∙ c.if-both.false) in (
      omega (arith, taken.one, more, c.loop-self.invariant.run.later),
      between.comes more ∙ c.if-go_between.true,
      none_between marks start _ now later _ none between,
    )

pub returns-then-both-clause-begun : goal.returns-then-both-clause-begun
returns-then-both-clause-begun c =
    tally_few c.args.starts.now c.args.self.now c.loop-self.self c.take_event.new.self c.in_ok-own.own c.loop-self.invariant.tally
    c.in_ok-own.ensures.begun
