-- The goals of `message_of` in src/messages.rt.
use Rattle.std.proofs.Common.{refl, ap, ◌∙◌, sym}
use Rattle.tb_editor_messages.specs.Messages.{answers, seen}
use Rattle.serde_json.specs.View.{view}
use Rattle.tb_editor_messages.proofs.Members.{told_by}
use Rattle.tb_editor_messages.proofs.messages.message_of.Goals as goal

pub returns-in-Some : goal.returns-in-Some
returns-in-Some c =
    told_by _ _ _ _ _ _ _ _ _ (sym (ap seen c.in-Some.is) ∙ c.get.ensures) c.get-id.ensures c.get-in-Some.ensures refl
    (c.with_method.ensures (answers (view c.args.value.now)))

pub returns-in-None : goal.returns-in-None
returns-in-None c =
    told_by _ _ _ _ _ _ _ _ _ (sym (ap seen c.in-None.is) ∙ c.get.ensures) c.get-id.ensures refl c.answers.ensures (c.without_method.ensures _)
