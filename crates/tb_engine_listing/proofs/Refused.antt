-- Items that are refused give no image.
use Rattle.std.proofs.Common.{◌≡◌, ℕ, List, Option, Some, None, refl, sym, ap, ◌∙◌, is_some, true≢false}
use Rattle.std.specs.Prelude.{◌≢◌}
use Rattle.tb_asm.specs.Assembled.{RefusesAt, refusal}
use Rattle.tb_asm.specs.Layout.{Entry}
use Rattle.tb_asm.specs.declared.errors.AsmErrorKind.{AsmErrorKind}
use Rattle.tb_asm.specs.declared.errors.AsmErrorKind.TheVariants.{NoSuchMode, UnknownLabel, LabelTwice, BranchOutOfRange, RunsPast, IndirectAtPageEnd, NoMemory}
use Rattle.tb_runtime16.specs.Addresses.{PROLOGUE_AT}
use Rattle.tb_engine_listing.specs.Places.{NamesItems}

not_both : {A : Type 0} (o : Option A) (x : A) → o ≡ Some x → o ≡ None → ⊥
not_both o x some none = true≢false (sym (ap is_some some) ∙ ap is_some none)

-- they name no places of an image
pub names_nothing : (image : List ℕ) (places : List (List ℕ × ℕ)) (items : List Entry) (k : AsmErrorKind) (i : ℕ) → RefusesAt (refusal PROLOGUE_AT items) k i
    → k ≢ NoMemory → ¬ (NamesItems image places items)
names_nothing image places items NoMemory i r other n = other refl
names_nothing image places items NoSuchMode i r other n = not_both (refusal PROLOGUE_AT items) _ r n.accepted
names_nothing image places items UnknownLabel i r other n = not_both (refusal PROLOGUE_AT items) _ r n.accepted
names_nothing image places items LabelTwice i r other n = not_both (refusal PROLOGUE_AT items) _ r n.accepted
names_nothing image places items BranchOutOfRange i r other n = not_both (refusal PROLOGUE_AT items) _ r n.accepted
names_nothing image places items RunsPast i r other n = not_both (refusal PROLOGUE_AT items) _ r n.accepted
names_nothing image places items IndirectAtPageEnd i r other n = not_both (refusal PROLOGUE_AT items) _ r n.accepted
