-- What a message says, by members that are the same.
use Rattle.std.proofs.Common.{◌≡◌, Bool, Option, subst}
use Rattle.serde_json.specs.Data.{Data}
use Rattle.tb_editor_messages.specs.Messages.{TellsBy}
use Rattle.tb_editor_messages.specs.declared.messages.Message.{Message}

-- of members that were found
pub told_by : (method found id seen params given : Option Data) (answers has : Bool) (m : Message) → method ≡ found → id ≡ seen → params ≡ given → answers ≡ has
    → TellsBy method id params answers m → TellsBy found seen given has m
told_by method found id seen params given answers has m a b c d h =
    subst (λ x. TellsBy found seen given x m) d (subst (λ x. TellsBy found seen x answers m) c (subst (λ x. TellsBy found x params answers m) b (subst (λ x. TellsBy x id params answers m) a h)))
