-- The goals of `read_value` in src/parser.rt.
use Rattle.std.proofs.Common.{◌≡◌, ◌∙◌}
use Rattle.tb_basic_syntax.specs.PlainData.{expression_of}
use Rattle.tb_parser.specs.Readings.{Expresses}
use Rattle.tb_parser.specs.Squeezed.{bytes}
use Rattle.tb_parser.proofs.ReaderAnswers.{says_in_range, says_unread}
use Rattle.tb_parser.proofs.parser.read_value.Goals as goal

pub returns-in-Ok : goal.returns-in-Ok
returns-in-Ok c =
    let text : c.deref.result.now ≡ bytes c.args.text.now = c.deref.ensures.value ∙ c.in_ok-copy_bytes.ensures in
    says_in_range expression_of Expresses c.args.text.now c.in-Ok.read.expr c.in-Ok.read.large c.in_range.result (rw text at c.in-Ok.ensures.found) c.in_range.ensures

pub returns : goal.returns
returns c =
    let text : c.deref.result.now ≡ bytes c.args.text.now = c.deref.ensures.value ∙ c.in_ok-copy_bytes.ensures in
    says_unread expression_of Expresses c.args.text.now c.unread.result (λ a large reading. rw (c.in-Err-NoReading.field-0-is) at
    (c.in-Err-NoReading.ensures.only a large (rw text reading))) c.unread.ensures
