-- The goal of `source_paged` in src/paging.rt: the page is that of what the compiler answers for the source.
use Rattle.std.proofs.Common.{◌≡◌, [], ◌∷◌, Ok, refl, subst, ap, ◌∙◌}
use Rattle.tb_codegen.specs.Templates.{templates}
use Rattle.tb_compiled.specs.Answers.{IsAnswer}
use Rattle.tb_engine_page.specs.Pages.{source_page}
use Rattle.tb_program_files.proofs.paging.source_paged.Goals as goal

pub returns : goal.returns
returns c =
    let page = c.args.page.now in
    let program = c.in_ok-source.source.program in
    let same = c.in_ok-source.ensures.0 in
    let text : c.in_ok-text.text.items ≡ source_page page.title.now page.settings.seed c.args.source.items program =
    subst (λ t. c.in_ok-text.text.items ≡ source_page page.title.now page.settings.seed t program) (c.as_slice.ensures.value ∙ same) c.in_ok-text.ensures in (
      refl,
      program,
      subst (λ t. IsAnswer templates page.settings t (Ok program)) same c.in_ok-source.ensures.1.answer,
      c.into_warnings.ensures,
      c.in_ok-only.ensures ∙ ap (λ t. t ∷ []) text,
    )
