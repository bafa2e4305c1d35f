-- The goal of `source_page` in src/pages.rt: the page is that of the source's program.
use Rattle.std.proofs.Common.{◌≡◌, ◌∙◌}
use Rattle.std.specs.Fmt.{decimal}
use Rattle.tb_compiled.specs.Compiled.{prg_of, starts_of}
use Rattle.tb_engine_page.specs.Pages.{source_rows}
use Rattle.tb_engine_page.proofs.pages.source_page.Goals as goal

pub returns : goal.returns
returns c =
    let seed : c.as_slice.result.now ≡ decimal c.args.seed = c.as_slice.ensures.value ∙ c.decimal_digits-seed.ensures.items in
    let program : c.prg.result.now ≡ prg_of c.args.program.now = c.prg.ensures in
    let rows : c.deref.result.now ≡ source_rows c.args.source.now (starts_of c.args.program.now) = c.deref.ensures.value ∙ c.in_ok-rows.ensures in
    rw seed at (rw program at (rw rows at c.page_of.ensures))
