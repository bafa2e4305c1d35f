-- What holds at each turn of the loop of `word_token` in src/lexer.rt.
use Rattle.std.proofs.Common.{ℕ, ◌<◌, get_or}
use Rattle.tb_basic_grammar.specs.StatementReading.{keywords, spelled}
use Rattle.tb_basic_grammar.specs.declared.keywords.Keyword.TheVariants.{Let}
use Rattle.tb_parser.specs.Kinds.{LacksWord}
use Rattle.tb_parser.proofs.lexer.word_token.Given as goal

abbrev pub invariant-loop-keyword : goal.invariant-loop-keyword
invariant-loop-keyword l = (k : ℕ) → k < l.keyword-index → LacksWord l.line l.fn.start (spelled (get_or keywords k Let))
