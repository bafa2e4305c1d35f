-- The goal of `tell` in src/engine.rt.
use Rattle.std.proofs.Common.{◌≡◌, ap, subst, ◌∙◌, map}
use Rattle.std.specs.Io.KnownBytes.{Appends}
use Rattle.tb_engine_findings.specs.Findings.{AreFindings}
use Rattle.tb_engine_findings.specs.Fitted.{TellsFits, excess_in}
use Rattle.tb_basic_text.specs.Lines.{lines_of_file}
use Rattle.tb_engine_check.specs.Checks.{seen_by}
use Rattle.tb_engine_check.specs.Options.{settings_by, settings_for}
use Rattle.tb_engine_check.specs.Reports.{told_in, told_of}
use Rattle.tb_engine_check.proofs.engine.tell.Goals as goal

pub returns-clause-tells : goal.returns-clause-tells
returns-clause-tells g c =
    let own = g.K.Compile.own in
    let source = c.args.source.now in
    let name = c.args.name.now in
    let found = c.in_ok-seen.seen.findings in
    let fits = c.in_ok-fits.fits in
    let is : c.settings_by-settings.result ≡ settings_for c.args.settings source =
    c.settings_by-settings.ensures ∙ ap (settings_by c.args.settings) c.own_options-own.ensures in
    let lines : map (λ t. t.now) c.as_slice.result.now ≡ lines_of_file source =
    ap (map (λ t. t.now)) c.as_slice.ensures.value ∙ c.in_ok-seen.ensures.lines in
    let told : c.as_slice-2.result.now ≡ told_of name source found fits =
    c.as_slice-2.ensures.value ∙ c.in_ok-text.ensures
    ∙ ap (λ ls. told_in name ls c.own_options-own.result.bad found fits) lines
    ∙ ap (λ o. told_in name (lines_of_file source) o.bad found fits) c.own_options-own.ensures in (
      found,
      fits,
      subst (λ s. AreFindings own s source found) is c.in_ok-seen.ensures.findings,
      subst (λ s. TellsFits own s.notation source (excess_in found) fits) is c.in_ok-fits.ensures,
      subst (Appends (g.W.Write.contents c.args.writer.now.stream) (g.W.Write.contents c.write_output.new.writer.stream)) told c.in-Ok.ensures.whole,
      c.seen_by-answer.ensures ∙ ap (λ o. seen_by o.bad found) c.own_options-own.ensures,
    )
