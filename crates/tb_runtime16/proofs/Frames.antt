-- What a routine leaves: the addresses that it does not change, and how it ends.
use Rattle.std.proofs.Common.{◌≡◌, ℕ, Bool, true, false, refl, sym, ap, ◌∙◌}
use Rattle.std.proofs.lemmas.Bool.{false≢true}
use Rattle.tb_memmap.specs.Bytes.{with_byte}
use Rattle.tb_machine_reaching.specs.View.{View}
use Rattle.tb_runtime16.specs.Laws.{Changes, Leaves, is_argument}
use Rattle.tb_machine_reaching.proofs.Memory.{put_other}

-- a write to one of these addresses leaves the others
pub skip : (is : ℕ → Bool) (m : ℕ → ℕ) (at b a : ℕ) → is at ≡ true → is a ≡ false → with_byte m at b a ≡ m a
skip is m at b a h e = put_other m at b a (λ x. false≢true (sym e ∙ ap is x ∙ h))

-- one more write to an address that may be changed
pub changes_put : (changes : ℕ → Bool) (m0 m : ℕ → ℕ) (at b : ℕ) → changes at ≡ true → Changes changes m0 m → Changes changes m0 (with_byte m at b)
changes_put changes m0 m at b h k a e = skip changes m at b a h e ∙ k a e

-- only the arguments' addresses were changed
abbrev pub Frame : (ℕ → ℕ) → (ℕ → ℕ) → Type 0
Frame = Changes is_argument

-- one more write to an argument
pub frame_put : (m0 m : ℕ → ℕ) (at b : ℕ) → is_argument at ≡ true → Frame m0 m → Frame m0 (with_byte m at b)
frame_put = changes_put is_argument

-- pieces that change only arguments, one after another
pub frame_then : (m0 m w : ℕ → ℕ) → Frame m0 m → Frame m w → Frame m0 w
frame_then m0 m w h k a e = k a e ∙ h a e

-- a state leaves itself, with what is said about its memory
pub leaves_now : {q : (ℕ → ℕ) → Type 0} {w : View} → w.regs.flags.d ≡ false → q w.mem → Leaves w.regs.pc w.stack w.text w.answers q w
leaves_now binary memory = record { pc = refl; stack_is = refl; binary = binary; same_text = refl; same_answers = refl; memory = memory }
