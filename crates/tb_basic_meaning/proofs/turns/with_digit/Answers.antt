-- The goals of `with_digit` in src/turns.rt.
use Rattle.std.proofs.Common.{◌+◌, ◌*◌, ap, arith}
use Rattle.tb_basic_meaning.specs.Input.{with_digit}
use Rattle.tb_basic_meaning.specs.Turns.{reading_of}
use Rattle.tb_basic_meaning.proofs.turns.with_digit.Goals as goal

pub returns-in-Digits : goal.returns-in-Digits
returns-in-Digits c =
    (c.in-Digits.number * 10 + c.args.digit, ap (λ r. with_digit (reading_of r) c.args.digit) c.in-Digits.is, omega arith)
