-- The goals of `digits` in src/lib.rt.
use Rattle.std.proofs.Common.{◌≡◌, ◌∙◌, rules}
use Rattle.std.specs.Fmt.{signed_decimal}
use Rattle.tb_words.proofs.Bridge.{digits_are}
use Rattle.tb_words.proofs.digits.Goals as goal

pub returns-clause-on_words : goal.returns-clause-on_words
returns-clause-on_words c =
    let text : c.push_decimal.new.text.items ≡ signed_decimal c.args.n = search rules in
    text ∙ digits_are c.args.n c.ranges.n
