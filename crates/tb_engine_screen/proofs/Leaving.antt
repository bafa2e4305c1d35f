-- What leaving the terminal changes.
use Rattle.std.proofs.Common.{◌≡◌, ℕ, inl, inr, List, [], Option, sym, subst, ◌∙◌}
use Rattle.std.proofs.KnownBytes.{Appends-nil}
use Rattle.std.specs.Io.KnownBytes.{Appends}
use Rattle.tb_kernal.specs.Machine.{Content}
use Rattle.tb_engines.specs.Outcomes.{Outcome}
use Rattle.tb_engine_streams.specs.declared.outcome.Outcome.TheVariants.{Ended, Refused, ReadFault, WriteFault, NoMemory}
use Rattle.tb_engine_streams.specs.Uses.{Use}
use Rattle.tb_engine_play.specs.Plays.{PlayFaults as TalkFaults}
use Rattle.tb_engine_screen.specs.Talks.{Leaves, LeaveFaults, PlayFaults, WritesBeforeReading}
use Rattle.tb_engine_screen.proofs.Talking.{still_written}

-- a stream's use
abbrev used : Option (List ℕ) → Option (List ℕ) → ℕ → ℕ → Use
used old new old_failures new_failures = record { old = old; new = new; old_failures = old_failures; new_failures = new_failures }

-- a text that is the same is left by in the same way
pub left_by : (first last : Outcome) (text same : List ℕ) (old new : Option (List ℕ)) → text ≡ same → Leaves first last text old new
    → Leaves first last same old new
left_by first last text same old new is leaves = subst (λ t. Leaves first last t old new) is leaves

-- leaving writes something, or nothing
abbrev WritesMore : Option (List ℕ) → Option (List ℕ) → Type 0
WritesMore old new = (more : List ℕ) × Appends old new more

writes_more : (first last : Outcome) (text : List ℕ) (old new : Option (List ℕ)) → Leaves first last text old new → WritesMore old new
writes_more WriteFault last text old new (fault, same) = ([], subst (λ x. Appends old x []) (sym same) (Appends-nil old))
writes_more (Ended end) last text old new (inl (same, all)) = (text, all)
writes_more (Ended end) last text old new (inr (fault, (k, part))) = (_, part)
writes_more (Refused e) last text old new (inl (same, all)) = (text, all)
writes_more (Refused e) last text old new (inr (fault, (k, part))) = (_, part)
writes_more ReadFault last text old new (inl (same, all)) = (text, all)
writes_more ReadFault last text old new (inr (fault, (k, part))) = (_, part)
writes_more NoMemory last text old new (inl (same, all)) = (text, all)
writes_more NoMemory last text old new (inr (fault, (k, part))) = (_, part)

-- what was written before the next line was read stays written
pub still_left : (limit : ℕ) (m : Content) (first last : Outcome) (text : List ℕ) (had left old now new : Option (List ℕ))
    → WritesBeforeReading limit m (used had left 0 0) (used old now 0 0) → Leaves first last text now new
    → WritesBeforeReading limit m (used had left 0 0) (used old new 0 0)
still_left limit m first last text had left old now new before leaves =
    let (more, since) = writes_more first last text now new leaves in
    still_written limit m had left old now new more before since

-- the faults of a talk and of leaving after it are those of playing
pub faults_left : (first last : Outcome) (keys : Use) (old now new : Option (List ℕ)) (wrote wrote' wrote'' : ℕ)
    → TalkFaults first keys (used old now wrote wrote') → LeaveFaults first last (used now new wrote' wrote'')
    → PlayFaults last keys (used old new wrote wrote'')
faults_left WriteFault last keys old now new wrote wrote' wrote'' (read, failed) (fault, sound) =
    subst (λ o. PlayFaults o keys (used old new wrote wrote'')) (sym fault) (λ e. failed (sym sound ∙ e))
faults_left (Ended end) last keys old now new wrote wrote' wrote'' (read, never) (inl (same, sound)) =
    subst (λ o. PlayFaults o keys (used old new wrote wrote'')) (sym same) (read, sound ∙ never)
faults_left (Ended end) last keys old now new wrote wrote' wrote'' (read, never) (inr (fault, failed)) =
    subst (λ o. PlayFaults o keys (used old new wrote wrote'')) (sym fault) (λ e. failed (e ∙ sym never))
faults_left (Refused refusal) last keys old now new wrote wrote' wrote'' (read, never) (inl (same, sound)) =
    subst (λ o. PlayFaults o keys (used old new wrote wrote'')) (sym same) (read, sound ∙ never)
faults_left (Refused refusal) last keys old now new wrote wrote' wrote'' (read, never) (inr (fault, failed)) =
    subst (λ o. PlayFaults o keys (used old new wrote wrote'')) (sym fault) (λ e. failed (e ∙ sym never))
faults_left ReadFault last keys old now new wrote wrote' wrote'' never (inl (same, sound)) =
    subst (λ o. PlayFaults o keys (used old new wrote wrote'')) (sym same) (sound ∙ never)
faults_left ReadFault last keys old now new wrote wrote' wrote'' never (inr (fault, failed)) =
    subst (λ o. PlayFaults o keys (used old new wrote wrote'')) (sym fault) (λ e. failed (e ∙ sym never))
faults_left NoMemory last keys old now new wrote wrote' wrote'' (read, never) (inl (same, sound)) =
    subst (λ o. PlayFaults o keys (used old new wrote wrote'')) (sym same) (read, sound ∙ never)
faults_left NoMemory last keys old now new wrote wrote' wrote'' (read, never) (inr (fault, failed)) =
    subst (λ o. PlayFaults o keys (used old new wrote wrote'')) (sym fault) (λ e. failed (e ∙ sym never))
