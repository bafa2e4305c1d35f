-- The goal of `diagnose` in src/published.rt.
use Rattle.std.proofs.Common.{rules, ◌≡◌, ◌++◌, ap, ap₂, subst, ◌∙◌, map}
use Rattle.tb_engine_findings.specs.Fitted.{AreFitted}
use Rattle.tb_basic_text.specs.Lines.{lines_of_file}
use Rattle.tb_basic_options.specs.Options.{notation_by, notation_for, options_of}
use Rattle.tb_lsp_diagnostics.specs.Diagnostics.{fitted_of, on_bad_words}
use Rattle.tb_lsp_diagnostics.specs.Published.{told_cost}
use Rattle.tb_lsp_diagnostics.proofs.published.diagnose.Goals as goal

pub returns : goal.returns
returns g c =
    let own = g.K.Compile.own in
    let source = c.args.source.now in
    let uri = c.args.uri.now in
    let cost = c.in_ok-seen.seen.cost in
    let found = c.in_ok-seen.seen.examined.findings in
    let is : c.notation.result ≡ notation_for c.args.notation source =
    c.notation.ensures ∙ ap (notation_by c.args.notation) c.own_options-own.ensures in
    let lines : map (λ t. t.now) c.as_slice.result.now ≡ lines_of_file source =
    ap (map (λ t. t.now)) c.as_slice.ensures.value ∙ c.in_ok-seen.ensures.lines in
    let told : c.told_cost.result ≡ told_cost (options_of source).fit cost =
    c.told_cost.ensures ∙ ap (λ o. told_cost o.fit cost) c.own_options-own.ensures in
    let first = c.in_ok-found.ensures ∙ ap₂ (λ ls k. fitted_of uri ls k found) lines told in
    let last = ap₂ (λ ls o. on_bad_words ls o.bad) lines c.own_options-own.ensures in (
      λ few. (
        cost,
        found,
        subst (λ n. AreFitted own n source cost found) is c.in_ok-seen.ensures.findings,
        c.in_ok-push_bad_word.ensures ∙ ap₂ (λ xs ys. xs ++ ys) first last,
      ),
      search rules,
    )
