-- The goals of `breakpoints_in` in src/setting.rt.
use Rattle.std.proofs.Common.{map, None, Some, ap, ◌∙◌}
use Rattle.serde_json.specs.View.{view}
use Rattle.tb_dap_requests.specs.Setting.{all_wanted}
use Rattle.tb_dap_requests.proofs.Lists.{asked_there}
use Rattle.tb_dap_requests.proofs.setting.breakpoints_in.Goals as goal

pub returns-in-Some : goal.returns-in-Some
returns-in-Some c =
    asked_there (view c.args.arguments.now) c.in-Some-Some.path.now (map view c.in-Some-Some.values.now.items) (Some c.in-Some.lines.items)
    c.in-Some-Some.ensures c.in-Some-Some.ensures'
    ((rw c.in-Some.is at c.in_ok-lines.ensures) ∙ ap (λ vs. all_wanted (map view vs)) c.deref.ensures.value)

pub returns-in-None : goal.returns-in-None
returns-in-None c =
    asked_there (view c.args.arguments.now) c.in-Some-Some.path.now (map view c.in-Some-Some.values.now.items) None
    c.in-Some-Some.ensures c.in-Some-Some.ensures'
    ((rw c.in-None.is at c.in_ok-lines.ensures) ∙ ap (λ vs. all_wanted (map view vs)) c.deref.ensures.value)
