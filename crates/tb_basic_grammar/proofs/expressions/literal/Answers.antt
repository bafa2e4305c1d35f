-- The goals of `literal` in src/expressions.rt.
use Rattle.std.proofs.Common.{length, arith, None, Some}
use Rattle.tb_basic_grammar.proofs.Literal.{is_literal, word_small, none_large, word_big, some_large}
use Rattle.tb_basic_grammar.proofs.expressions.literal.Goals as goal

pub returns-in-Ok : goal.returns-in-Ok
returns-in-Ok c =
    let i = c.loop-digit.invariant in
    let w = c.in-Ok.ensures in
    is_literal c.args.text.now c.loop-digit.rest.now i.0 c.in-Ok.word None i.1 c.in_default.ensures
    (word_small i.0 c.loop-digit.value c.in-Ok.word i.2 w.1 w.0) (none_large i.0 c.loop-digit.value (length c.args.text.now) i.2 w.0)

pub returns-in-Err : goal.returns-in-Err
returns-in-Err c =
    let i = c.loop-digit.invariant in
    let w = c.in-Err.ensures in
    is_literal c.args.text.now c.loop-digit.rest.now i.0 65535 (Some (length c.args.text.now)) i.1 c.in_default.ensures
    (word_big i.0 c.loop-digit.value i.2 (omega (arith, w))) (some_large i.0 c.loop-digit.value (length c.args.text.now) i.2 (omega (arith, w)))
