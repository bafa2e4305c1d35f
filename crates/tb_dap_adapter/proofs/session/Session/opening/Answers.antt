-- The goals of `opening` in src/session.rt.
use Rattle.std.proofs.Common.{◌≤◌, [], ◌∷◌, ◌++◌, length, map, ap, ap₂, subst, ◌∙◌, append_assoc}
use Rattle.std.proofs.lemmas.List.{map-append, take_all}
use Rattle.tb_dap_requests.specs.Said.{seen}
use Rattle.tb_dap_adapter.specs.Sessions.{beginning, warning_of}
use Rattle.tb_dap_adapter.proofs.session.Session.opening.Goals as goal

pub returns : goal.returns
returns c =
    let drawn = c.args.self.now.plan.drawn in
    let warnings = c.args.self.now.file.program.now.warnings.items in
    let all = subst (λ ws. length ws ≤ c.loop-one.one-index) c.warnings-one-items.ensures c.loop-one-test.false in
    let whole = take_all c.loop-one.one-index warnings all in
    ap (map seen) c.in_ok-push-2.ensures.items ∙ map-append seen c.loop-one.said.items (c.plain_event.result ∷ [])
    ∙ ap₂ (λ before last. before ++ last ∷ []) (c.loop-one.invariant ∙ ap (λ ws. beginning drawn ++ map warning_of ws) whole) c.plain_event.ensures
    ∙ append_assoc (beginning drawn) (map warning_of warnings) _
