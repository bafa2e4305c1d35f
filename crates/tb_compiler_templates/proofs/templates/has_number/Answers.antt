-- The goals of `has_number` in src/templates.rt.
use Rattle.std.proofs.Common.{◌∙◌}
use Rattle.tb_compiler_templates.proofs.Searched.{found}
use Rattle.tb_compiler_templates.proofs.templates.has_number.Goals as goal

pub returns : goal.returns
returns c = c.is_ok.ensures.value ∙ found _ _ c.requires.rising _ _ c.binary_search.ensures.position
