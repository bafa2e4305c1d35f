-- The goal of `tokens_are_unique` in src/laws.rt.
use Rattle.tb_parser.proofs.OneToken.{tokens_one}
use Rattle.tb_parser.proofs.laws.tokens_are_unique.Goals as goal

pub returns : goal.returns
returns c = tokens_one
