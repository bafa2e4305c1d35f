-- The goals of `push_value` in src/texts.rt.
use Rattle.std.proofs.Common.{rules, ◌≡◌, ◌∙◌, ap, sym, to_z, of_z}
use Rattle.tb_words.specs.Words.{word_of, digits_of}
use Rattle.tb_debug_inspection.specs.Texts.{value_text}
use Rattle.tb_debug_inspection.proofs.Appending.{appended}
use Rattle.tb_debug_inspection.proofs.texts.push_value.Goals as goal

pub returns-in-Ok : goal.returns-in-Ok
returns-in-Ok c =
    let same : to_z mir.Syntax.w16 (of_z mir.Syntax.w16 c.in-Ok.value) ≡ c.in-Ok.value = search rules in
    appended c.extend_from_slice.result c.extend_from_slice.new.self.items c.args.text.now.items c.as_slice.result.now (value_text c.args.value)
    (c.extend_from_slice.ensures.items) (c.as_slice.ensures.value ∙ c.digits.ensures.on_words ∙ ap (λ v. digits_of (word_of v)) same ∙ ap value_text (sym c.in-Ok.is))
