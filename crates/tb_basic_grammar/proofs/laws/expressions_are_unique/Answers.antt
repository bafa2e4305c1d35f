-- The goals of `expressions_are_unique` in src/laws.rt.
use Rattle.tb_basic_grammar.proofs.ExpressionLaws.{unique}
use Rattle.tb_basic_grammar.proofs.laws.expressions_are_unique.Goals as goal

pub returns : goal.returns
returns c = unique
