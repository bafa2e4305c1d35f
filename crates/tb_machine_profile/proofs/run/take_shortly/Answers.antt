-- The goals of `take_shortly` in src/run.rt.
use Rattle.std.proofs.Common.{rules, ◌≡◌, true}
use Rattle.tb_machine_profile.proofs.Counting.{took_heard}
use Rattle.tb_machine_profile.proofs.run.take_shortly.Goals as goal

pub returns-clause-took : goal.returns-clause-took
returns-clause-took g c =
    let (es, many, went) = c.go_counting.ensures.went in
    let quiet : c.is_quiet.result ≡ true = search rules in
    (es, search rules, took_heard g.O.Outside.gives c.args.outside.now _ _ es _ _ (c.is_quiet.ensures quiet) went)
