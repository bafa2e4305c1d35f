-- The goals of `read_statement` in src/statements.rt.
use Rattle.tb_basic_grammar.proofs.StatementLaws.{is_found, is_only}
use Rattle.tb_basic_grammar.proofs.statements.read_statement.Goals as goal

pub returns-clause-found : goal.returns-clause-found
returns-clause-found c = is_found c.args.text.now c.whole_statement.result c.whole_statement.ensures

pub returns-clause-only : goal.returns-clause-only
returns-clause-only c = is_only c.args.text.now c.whole_statement.result c.whole_statement.ensures
