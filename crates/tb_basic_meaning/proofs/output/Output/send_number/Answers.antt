-- The goals of `Output::send_number` in src/output.rt.
use Rattle.std.proofs.Common.{◌≡◌, ◌++◌, OnOk, ap, ◌∙◌, subst, arith}
use Rattle.std.proofs.lemmas.Int.{of_z-to_z}
use Rattle.std.specs.Int.{cast_signed, cast_unsigned}
use mir.Syntax.{w16}
use Rattle.tb_words.specs.Words.{word_of, digits_of}
use Rattle.tb_words.proofs.Bridge.{word_of-cast}
use Rattle.tb_basic_meaning.specs.Control.{column_after}
use Rattle.tb_basic_meaning.proofs.output.Output.send_number.Goals as goal

text_is : (c : goal.After-send_all) → c.as_slice.result.now ≡ digits_of c.args.word
text_is c =
    c.as_slice.ensures.value ∙ c.digits-text.ensures.on_words
    ∙ ap digits_of
    (ap (λ z. word_of (cast_signed w16 (cast_unsigned w16 z))) c.cast_signed.ensures
    ∙ ap (λ n. word_of (cast_signed w16 n)) (of_z-to_z w16 c.args.word (omega arith)) ∙ word_of-cast c.args.word (omega arith))

pub returns-clause-sent : goal.returns-clause-sent
returns-clause-sent c =
    subst (λ text. OnOk c.send_all.result (c.send_all.new.self.sent.items ≡ c.args.self.now.sent.items ++ text)) (text_is c) c.send_all.ensures.sent

pub returns-clause-column : goal.returns-clause-column
returns-clause-column c =
    subst (λ text. OnOk c.send_all.result (c.send_all.new.self.column ≡ column_after c.args.self.now.column text)) (text_is c) c.send_all.ensures.column
