-- The goals of `behind_word` in src/statements.rt.
use Rattle.tb_basic_grammar.proofs.Prefix.{stripped}
use Rattle.tb_basic_format.proofs.statements.behind_word.Goals as goal

pub returns : goal.returns
returns c = stripped (λ x. x.now) c.args.word.now c.args.text.now c.strip_prefix.result c.strip_prefix.ensures.cases
