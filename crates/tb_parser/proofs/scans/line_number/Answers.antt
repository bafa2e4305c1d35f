-- The goals of `line_number` in src/scans.rt.
use Rattle.std.proofs.Common.{◌+◌, ◌*◌, ◌∙◌, arith, sym, ap}
use Rattle.tb_parser.specs.Scans.{Counted}
use Rattle.tb_parser.proofs.Numbers.{grows, number_ends}
use Rattle.tb_parser.proofs.scans.line_number.Goals as goal

pub returns-then-value-from : goal.returns-then-value-from
returns-then-value-from c = λ range.
    let more = sym (c.in-Some.ensures.3 c.loop-digit.value) ∙ c.loop-digit.invariant.so_far in
    let value = ap (λ (r : Counted). r.value) more in
    omega (arith, range, value, grows (10 * c.loop-digit.value + c.in-Some.digit) c.in-Some.tail.now)

pub returns-then-value-eq0 : goal.returns-then-value-eq0
returns-then-value-eq0 c = λ range.
    let whole = sym (number_ends c.loop-digit.value c.loop-digit.rest.now c.in_default.ensures) ∙ c.loop-digit.invariant.so_far in
    omega (arith, range, ap (λ (r : Counted). r.value) whole)

pub returns : goal.returns
returns c =
    let whole = sym (number_ends c.loop-digit.value c.loop-digit.rest.now c.in_default.ensures) ∙ c.loop-digit.invariant.so_far in
    ((omega arith, omega arith), sym (ap (λ (r : Counted). r.value) whole), sym (ap (λ (r : Counted). r.rest) whole))
