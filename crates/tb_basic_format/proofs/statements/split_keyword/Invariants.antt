-- What holds at each turn of the loop of `split_keyword` in src/statements.rt.
use Rattle.std.proofs.Common.{◌≡◌, drop}
use Rattle.tb_basic_grammar.specs.StatementReading.{first_word, keyword_at}
use Rattle.tb_basic_format.proofs.statements.split_keyword.Given as goal

abbrev pub invariant-loop-keyword : goal.invariant-loop-keyword
invariant-loop-keyword l = first_word (drop l.keyword-index l.keyword-items) l.fn.text ≡ keyword_at l.fn.text
