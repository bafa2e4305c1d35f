-- The goals of `statements_are_unique` in src/laws.rt.
use Rattle.tb_basic_grammar.proofs.StatementLaws.{unique}
use Rattle.tb_basic_grammar.proofs.laws.statements_are_unique.Goals as goal

pub returns : goal.returns
returns c = unique
