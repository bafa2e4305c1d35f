-- The goals of `places` in src/code.rt.
use Rattle.std.proofs.Common.{rules, ◌≡◌, ◌≤◌, ◌<◌, ◌+◌, nat_lt, true, false, length, arith}
use Rattle.tb_memmap.specs.Bytes.{at}
use Rattle.tb_dap_views.proofs.Stepwise.{no_more_places, none_left, places_on}
use Rattle.tb_dap_views.proofs.code.places.Goals as goal

pub returns-then-place-ge-PLACES-clause-places : goal.returns-then-place-ge-PLACES-clause-places
returns-then-place-ge-PLACES-clause-places c =
    let past : nat_lt c.loop.place 65536 ≡ false = search rules in
    no_more_places _ (at c.args.memory.now) c.args.end c.loop.place c.loop.places.items _ past c.loop.invariant.0

pub loop-preserved : goal.loop-preserved
loop-preserved c =
    let inside : nat_lt c.loop.place 65536 ≡ true = search rules in
    let few : c.loop.counter < c.args.most = search rules in
    let more : length c.push.new.self.items ≤ c.loop.counter + 1 = search rules in (
      places_on (at c.args.memory.now) c.args.end c.loop.place c.args.most c.loop.counter c.in_ok-place.place c.loop.places.items
          c.push.new.self.items _ few inside c.in_ok-place.ensures c.in_ok-push.ensures.items c.loop.invariant.0,
      more,
    )

pub returns-clause-places : goal.returns-clause-places
returns-clause-places c =
    let done : c.args.most ≤ c.loop.counter = search rules in
    none_left (at c.args.memory.now) c.args.end c.loop.place c.args.most c.loop.counter c.loop.places.items _ done c.loop.invariant.0
