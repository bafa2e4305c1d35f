-- The goal of `report` in src/loading.rt.
use Rattle.std.proofs.Common.{rules, ◌≡◌, ◌∷◌, [], map, string_bytes}
use Rattle.tb_dap_requests.specs.Loading.{IsHeld}
use Rattle.tb_dap_requests.proofs.Reports.{is_report_of}
use Rattle.tb_dap_requests.proofs.loading.report.Goals as goal

pub returns : goal.returns
returns g c =
    let named : map string_bytes c.deref.result.now ≡ c.args.path.now ∷ [] = search rules in
    let unwritten : c.new-writer.result.stream.items ≡ [] = search rules in
    is_report_of g.K.Compile.own (λ old name given new. IsHeld old.text.now given) c.args.settings c.args.path.now c.args.text.now _ (λ name given t is. is)
    c.check_sources-outcome.result (map string_bytes c.deref.result.now) _ c.new-writer.result.stream.items c.check_sources-outcome.new.writer.stream.items
    c.in-Ended.is named unwritten c.check_sources-outcome.ensures.checks
