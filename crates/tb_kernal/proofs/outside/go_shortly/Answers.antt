-- The goals of `go_shortly` in src/outside.rt.
use Rattle.std.proofs.Common.{rules, ◌≡◌, true}
use Rattle.tb_kernal.proofs.Shortly.{given}
use Rattle.tb_kernal.proofs.outside.go_shortly.Goals as goal

pub returns-then-is_quiet-clause-went : goal.returns-then-is_quiet-clause-went
returns-then-is_quiet-clause-went g c =
    let yes : c.is_quiet.result ≡ true = search rules in
    let w = c.go_shortly.ensures.went in
    (w.0, w.1, given g.O.Outside.gives c.args.outside.now c.args.machine.now c.go_shortly.new.self w.0 (c.is_quiet.ensures yes) w.2)
