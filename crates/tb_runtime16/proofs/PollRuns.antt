-- Poll.
use Rattle.std.proofs.Common.{◌≡◌, ◌+◌, ◌-◌, ◌%◌, true, false, [], ◌∷◌, ◌++◌, drop, refl, arith, eqb, le-leb, length-append}
use Rattle.std.proofs.lemmas.Bool.{ne_eqb, eq-eqb}
use Rattle.tb_kernal.specs.declared.rom.Service.TheVariants.{Getin}
use Rattle.tb_kernal.specs.Machine.{first_or_zero}
use Rattle.tb_machine_reaching.specs.View.{Fits, view}
use Rattle.tb_machine_reaching.proofs.Comes.{looser}
use Rattle.tb_machine_reaching.proofs.Calls.{under}
use Rattle.tb_machine_reaching.proofs.Services.{serving}
use Rattle.tb_basic_meaning.specs.Control.{fault_text}
use Rattle.tb_runtime16.specs.Addresses.{POLL_AT}
use Rattle.tb_runtime16.specs.Ends.{PollLaw}
use Rattle.tb_runtime16.proofs.Within.{poll_part, poll_in}
use Rattle.tb_runtime16.proofs.Called.{after_on, ending_on}
use Rattle.tb_runtime16.proofs.FaultRuns.{fault_law}
use Rattle.tb_runtime16.proofs.Frames.{leaves_now}

-- Poll's law, from the block's bytes
pub poll_law : PollLaw
poll_law f room most fits block hlo hhi above deep lo hi text answers m e line is_line byte a x y n v i z c =
    let own = above ++ hlo ∷ hhi ∷ [] in
    let size = length-append above (hlo ∷ hhi ∷ []) in
    let free : Fits (under f own) 4 = omega (arith, fits, deep, size, length-append own f.rest) in
    let st = poll_in f.code block in (
      λ other. let t : eqb ((first_or_zero answers + 256 - 3) % 256) 0 ≡ false = ne_eqb _ _ (λ h. other (omega (arith, byte, h))) in
          after_on f own 4 free poll_part st 0 (view a x y n v i z c POLL_AT (lo ∷ hi ∷ []) m text answers) _ _ 4 refl
          (serving f room fits Getin _ _ _ _ _ _ 3 (le-leb _ _ (omega (arith, deep, size))) refl refl refl (λ j.
          after_on f own 4 free poll_part st 1 (view (first_or_zero answers) j.x j.y j.n j.v j.i j.z j.c (POLL_AT + 0x3) (lo ∷ hi ∷ []) m text (drop 1 answers)) _ _ 1 refl
          (rw t (ending_on f own 4 free poll_part st 0 (view _ _ _ _ _ _ _ _ (POLL_AT + 0x7) (lo ∷ hi ∷ []) m text (drop 1 answers)) _ refl
          (leaves_now refl refl))))),
      λ stop. let t : eqb ((first_or_zero answers + 256 - 3) % 256) 0 ≡ true = eq-eqb _ _ (omega (arith, stop)) in
          looser f _ _ _ (fault_text 0 line) (1 + (1 + (2 + (2 + 416)))) 422 (omega arith) (λ w h. h)
          (after_on f own 4 free poll_part st 0 (view a x y n v i z c POLL_AT (lo ∷ hi ∷ []) m text answers) _ _ (1 + (2 + (2 + 416))) refl
          (serving f room fits Getin _ _ _ _ _ _ (2 + (2 + 416)) (le-leb _ _ (omega (arith, deep, size))) refl refl refl (λ j.
          after_on f own 4 free poll_part st 1 (view (first_or_zero answers) j.x j.y j.n j.v j.i j.z j.c (POLL_AT + 0x3) (lo ∷ hi ∷ []) m text (drop 1 answers)) _ _ (2 + 416) refl
          (rw t (after_on f own 4 free poll_part st 1 (view _ _ _ _ _ _ _ _ (POLL_AT + 0x8) (lo ∷ hi ∷ []) m text (drop 1 answers)) _ _ 416 refl
          (fault_law f room most fits block hlo hhi (lo ∷ hi ∷ above) (omega (arith, deep)) text (drop 1 answers) m e line is_line 0 _ _ _ _ _ _ _ (omega arith))))))),
    )
