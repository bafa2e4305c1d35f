-- Send.
use Rattle.std.proofs.Common.{◌≡◌, ◌≢◌, ℕ, ◌+◌, ◌-◌, ◌%◌, ◌<◌, Bool, true, false, List, [], ◌∷◌, refl, sym, ap, ◌∙◌, ⊎_elim, arith, eqb}
use Rattle.std.specs.Prelude.{if◌then◌else◌}
use Rattle.std.proofs.lemmas.Bool.{ne_eqb, eq-eqb, cases_eq}
use Rattle.tb_kernal.specs.declared.rom.Service.TheVariants.{Chrout}
use Rattle.tb_machine_reaching.specs.View.{Setup, Holds, Fits, Comes, view}
use Rattle.tb_machine_reaching.proofs.Memory.{put_other}
use Rattle.tb_machine_reaching.proofs.Comes.{after, looser}
use Rattle.tb_machine_reaching.proofs.Services.{served_last}
use Rattle.tb_basic_meaning.specs.Control.{column_after}
use Rattle.tb_runtime16.specs.Addresses.{SEND_AT}
use Rattle.tb_compiled_kept.specs.Addresses.{COLUMN}
use Rattle.tb_runtime16.specs.Block.{block_part}
use Rattle.tb_runtime16.specs.Laws.{Back, Sent, nowhere, SendLaw}
use Rattle.tb_runtime16.proofs.Within.{send_part, send_in}
use Rattle.tb_runtime16.proofs.Frames.{leaves_now}

-- the column after a return
pub column_cr : (c b : ℕ) → b ≡ 13 → column_after c (b ∷ []) ≡ 0
column_cr c b e = ap (λ t. if t then 0 else c + 1) (eq-eqb b 13 e)

-- the column after any other byte
pub column_on : (c b : ℕ) → b ≢ 13 → column_after c (b ∷ []) ≡ c + 1
column_on c b e = ap (λ t. if t then 0 else c + 1) (ne_eqb b 13 e)

module _ (f : Setup) (fits : Fits f 2) (block : Holds block_part f.code) (lo hi : ℕ) (text answers : List ℕ) (m0 : ℕ → ℕ) where
  -- INC COLUMN, JMP CHROUT
  count : (a x y : ℕ) (n v i z c : Bool) (m : ℕ → ℕ) → (m COLUMN + 1) % 256 ≡ column_after (m0 COLUMN) (a ∷ []) % 256
      → ((a : ℕ) → a ≢ COLUMN → m a ≡ m0 a) → Comes f (view a x y n v i z c (SEND_AT + 0x9) (lo ∷ hi ∷ []) m text answers)
      (Back lo hi text answers (Sent nowhere m0 (a ∷ []))) (a ∷ []) 3
  count a x y n v i z c m e r =
      after f 2 fits send_part (send_in f.code block) 1 (view a x y n v i z c (SEND_AT + 0x9) (lo ∷ hi ∷ []) m text answers) _ _ 1 refl
      (served_last f 2 fits Chrout _ _ _ _ _ refl refl refl refl (λ j. leaves_now refl (record { column = e; others = λ a s p. put_other m COLUMN _ a p ∙ r a p })))

  whole : (a x y : ℕ) (n v i z c : Bool) → a < 256 → Comes f (view a x y n v i z c SEND_AT (lo ∷ hi ∷ []) m0 text answers) (Back lo hi text answers (Sent nowhere m0 (a ∷ []))) (a ∷ []) 7
  whole a x y n v i z c small =
      ⊎_elim
      (λ cr. let t : eqb ((a + 256 - 13) % 256) 0 ≡ true = eq-eqb _ _ (omega (arith, cr)) in
      after f 2 fits send_part (send_in f.code block) 1 (view a x y n v i z c SEND_AT (lo ∷ hi ∷ []) m0 text answers) _ _ 5 refl
      (rw t (after f 2 fits send_part (send_in f.code block) 1 (view _ _ _ _ _ _ _ _ (SEND_AT + 0x4) (lo ∷ hi ∷ []) m0 text answers) _ _ 3 refl
      (count _ _ _ _ _ _ _ _ _ (sym (ap (λ n. n % 256) (column_cr (m0 COLUMN) a cr))) (λ a p. put_other m0 COLUMN _ a p)))))
      (λ on. let t : eqb ((a + 256 - 13) % 256) 0 ≡ false = ne_eqb _ _ (λ h. on (omega (arith, small, h))) in
      looser f _ _ _ (a ∷ []) 5 7 (omega arith) (λ w h. h)
      (after f 2 fits send_part (send_in f.code block) 1 (view a x y n v i z c SEND_AT (lo ∷ hi ∷ []) m0 text answers) _ _ 3 refl
      (rw t (count _ _ _ _ _ _ _ _ _ (sym (ap (λ n. n % 256) (column_on (m0 COLUMN) a on))) (λ a p. refl)))))
      (cases_eq a 13)

-- Send's law, from the block's bytes
pub send_law : SendLaw
send_law f fits block lo hi text answers m a x y n v i z c small = whole f fits block lo hi text answers m a x y n v i z c small

-- past the test for 13, a byte other than that is sent
pub plain_law : (f : Setup) → Fits f 2 → Holds block_part f.code → (lo hi : ℕ) (text answers : List ℕ) (m : ℕ → ℕ) (a x y : ℕ) (n v i z c : Bool) → a ≢ 13
    → Comes f (view a x y n v i z c (SEND_AT + 0x9) (lo ∷ hi ∷ []) m text answers) (Back lo hi text answers (Sent nowhere m (a ∷ []))) (a ∷ []) 3
plain_law f fits block lo hi text answers m a x y n v i z c on =
    count f fits block lo hi text answers m a x y n v i z c m (sym (ap (λ n. n % 256) (column_on (m COLUMN) a on))) (λ a p. refl)
