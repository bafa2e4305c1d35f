-- The goals of `bad_byte_or_sign` in src/signs.rt.
use Rattle.std.proofs.Common.{◌∙◌, arith, sym, length-drop}
use Rattle.tb_basic_text.proofs.FirstLine.{rest_of}
use Rattle.tb_parser.proofs.SignSteps.{bad_behind_byte, bad_behind_sign, bad_byte_here, bad_nowhere}
use Rattle.tb_parser.proofs.signs.bad_byte_or_sign.Goals as goal

pub loop-rest-preserved-in-Some : goal.loop-rest-preserved-in-Some
loop-rest-preserved-in-Some c =
    let l = c.loop-rest in
    let rest = l.rest.now in
    let sign = c.in-Some.sign in
    let within = c.in-Some.ensures.within in
    let next = bad_behind_sign l.mode l.column rest sign (sym c.in-Some.ensures.value) within.0 in
    let less = length-drop sign.length rest in
    record {
      so_far = rw (rest_of rest sign.length) (next ∙ l.invariant.so_far);
      count = rw (rest_of rest sign.length) (omega (arith, less, within.1, l.invariant.count));
    }

pub loop-rest-preserved : goal.loop-rest-preserved
loop-rest-preserved c =
    let l = c.loop-rest in
    let rest = l.rest.now in
    let next = bad_behind_byte l.mode l.column rest (omega (arith, c.in-len1-up.len_at_least)) (sym c.in-None.ensures.value)
    (sym c.is_bad_byte.ensures ∙ c.if-is_bad_byte.false) in
    let less = length-drop 1 rest in
    record {
      so_far = rw (c.after-mode.ensures, rest_of rest 1) (next ∙ l.invariant.so_far);
      count = rw (rest_of rest 1) (omega (arith, less, c.in-len1-up.len_at_least, l.invariant.count));
    }

pub returns-then-is_bad_byte : goal.returns-then-is_bad_byte
returns-then-is_bad_byte c =
    let l = c.loop-rest in
    sym (bad_byte_here l.mode l.column l.rest.now (omega (arith, c.in-len1-up.len_at_least)) (sym c.in-None.ensures.value)
    (sym c.is_bad_byte.ensures ∙ c.if-is_bad_byte.true)) ∙ l.invariant.so_far

pub returns : goal.returns
returns c =
    let l = c.loop-rest in
    sym (bad_nowhere l.mode l.column l.rest.now (omega (arith, c.in_default.len_below))) ∙ l.invariant.so_far
