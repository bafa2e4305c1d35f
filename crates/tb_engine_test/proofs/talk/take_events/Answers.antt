-- The goal of `take_events` in src/talk.rt: the rows are those of the lines that are counted.
use Rattle.std.proofs.Common.{rules, ◌≡◌, Some, map, subst}
use Rattle.tb_engine_profile_table.specs.Rows.{start_pair, Tabled}
use Rattle.tb_engine_test.proofs.Talking.{takes_counted}
use Rattle.tb_engine_test.proofs.talk.take_events.Goals as goal

pub returns-in_ok-table-in-Some : goal.returns-in_ok-table-in-Some
returns-in_ok-table-in-Some g c =
    let counted : c.args.manner.now.counted ≡ Some c.in-Some.starts = search rules in
    let tabled = subst (λ s. Tabled g.O.Outside.gives c.args.outside.now c.args.machine.now (map start_pair s) c.args.manner.now.limit c.in_ok-table-in-Some.table c.profile.new.outside c.profile.new.machine) c.deref.ensures.value c.in_ok-table-in-Some.ensures in
    takes_counted g.O.Outside.gives _ _ _ _ _ _ _ counted tabled
