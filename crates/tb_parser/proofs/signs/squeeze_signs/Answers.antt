-- The goals of `squeeze_signs` in src/signs.rt.
use Rattle.std.proofs.Common.{◌∙◌, arith, sym, length-drop}
use Rattle.tb_basic_text.proofs.FirstLine.{rest_of}
use Rattle.tb_parser.proofs.SignSteps.{squeezed_behind_byte, squeezed_behind_sign, squeezed_ends}
use Rattle.tb_parser.proofs.signs.squeeze_signs.Goals as goal

pub loop-rest-preserved-in-Some : goal.loop-rest-preserved-in-Some
loop-rest-preserved-in-Some c =
    let l = c.loop-rest in
    let rest = l.rest.now in
    let sign = c.in-Some.sign in
    let within = c.in-Some.ensures.within in
    let next = squeezed_behind_sign l.mode l.column rest sign l.placed.items (sym c.in-Some.ensures.value) within.0 in
    let less = length-drop sign.length rest in
    record {
      walked = rw (c.in_ok-push_sign-in-Some.ensures, rest_of rest sign.length) (next ∙ l.invariant.walked);
      count = rw (rest_of rest sign.length) (omega (arith, less, within.1, l.invariant.count));
    }

pub loop-rest-preserved : goal.loop-rest-preserved
loop-rest-preserved c =
    let l = c.loop-rest in
    let rest = l.rest.now in
    let next = squeezed_behind_byte l.mode l.column rest l.placed.items (omega (arith, c.in-len1-up.len_at_least)) (sym c.in-None.ensures.value) in
    let less = length-drop 1 rest in
    record {
      walked = rw (c.in_ok-push_byte-in-None.ensures, c.after-mode.ensures, rest_of rest 1) (next ∙ l.invariant.walked);
      count = rw (rest_of rest 1) (omega (arith, less, c.in-len1-up.len_at_least, l.invariant.count));
    }

pub returns : goal.returns
returns c =
    let l = c.loop-rest in squeezed_ends l.mode l.column l.rest.now l.placed.items _ (omega (arith, c.in_default.len_below)) l.invariant.walked
