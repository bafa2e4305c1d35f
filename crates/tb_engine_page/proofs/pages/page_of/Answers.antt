-- The goal of `page_of` in src/pages.rt: what stands between the fixed texts is made of what is given.
use Rattle.std.proofs.Common.{◌≡◌, ◌∙◌}
use Rattle.hex.specs.Hex.{encode_lower}
use Rattle.tb_engine_page.specs.Pages.{characters, titled}
use Rattle.tb_engine_page.proofs.pages.page_of.Goals as goal

pub returns : goal.returns
returns c =
    let title : c.as_slice.result.now ≡ titled c.args.title.now = c.as_slice.ensures.value ∙ c.in_ok-title.ensures in
    let heading : c.as_slice-2.result.now ≡ titled c.args.title.now = c.as_slice-2.ensures.value ∙ c.in_ok-title.ensures in
    let program : c.as_bytes.result.now ≡ encode_lower c.args.prg.now = c.as_bytes.ensures.value ∙ c.in_ok-program.ensures in
    let shown : c.as_slice-3.result.now ≡ characters = c.as_slice-3.ensures.value ∙ c.in_ok-characters.ensures in
    rw title at (rw heading at (rw program at (rw shown at c.joined.ensures)))
