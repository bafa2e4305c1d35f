-- The goals of `Debugger::go_on` in src/searching.rt.
use Rattle.std.proofs.Common.{◌≡◌, ◌-◌, true, false, rules, sym, ◌∙◌}
use Rattle.tb_debug.proofs.Faulting.{as_told, ends_there, goes_back}
use Rattle.tb_debug.proofs.debugger.Debugger.go_on.Goals as goal

pub returns-then-not-stops-clause-stop : goal.returns-then-not-stops-clause-stop
returns-then-not-stops-clause-stop g c =
    let d = c.args.self.now in
    let e = c.run_until.new.self in
    let way = c.in_ok-way.way in
    let known = c.in_ok-way.ensures in
    let told = as_told c.args.to c.args.limit d e way known.run known.leads c.in_ok-stops.stops c.begins-begins.result known.stops c.begins-begins.ensures
    c.in_ok-stops.ensures in
    let never : c.in_ok-stops.stops ≡ false = search rules in
    ends_there c.args.to c.args.limit d e way known.run known.leads (sym told ∙ never)

pub returns-clause-stop : goal.returns-clause-stop
returns-clause-stop g c =
    let d = c.args.self.now in
    let e = c.run_until.new.self in
    let way = c.in_ok-way.way in
    let known = c.in_ok-way.ensures in
    let told = as_told c.args.to c.args.limit d e way known.run known.leads c.in_ok-stops.stops c.begins-begins.result known.stops c.begins-begins.ensures
    c.in_ok-stops.ensures in
    let holds : c.in_ok-stops.stops ≡ true = search rules in
    let back = c.in_ok-reached.ensures in
    let last : c.saturating_sub.result ≡ e.present.begun - 1 = search rules in
    goes_back c.args.to c.args.limit d e way known.run known.leads c.in_ok-reached.reached c.rewind_to.new.self.present c.saturating_sub.result last
    (sym told ∙ holds) back.time back.back
