-- The goals of `put_text` in src/templates.rt.
use Rattle.tb_compiler_templates.proofs.Appends.{three}
use Rattle.tb_compiler_templates.proofs.templates.put_text.Goals as goal

pub returns : goal.returns
returns c = three _ _ _ _ _ _ _ c.in_ok-put_address.ensures c.in_ok-put_text_call.ensures c.in_ok-put_inline.ensures
