-- What holds at each turn of the loop of `read_expression` in src/expressions.rt.
use Rattle.std.proofs.Common.{◌≡◌, [], map, drop, true}
use Rattle.tb_assembly_text.specs.Tokens.{token_of}
use Rattle.tb_assembly_text.specs.Expressions.{read_from, state_of}
use Rattle.tb_assembly_text.proofs.expressions.read_expression.Given as goal

abbrev pub invariant-loop-i : goal.invariant-loop-i
invariant-loop-i l =
    read_from l.scope l.end l.operand (state_of l.reading) (drop l.i (map token_of l.tokens)) ≡ read_from l.scope l.end true ([], []) (map token_of l.tokens)
