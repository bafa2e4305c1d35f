-- Zone.
use Rattle.std.proofs.Common.{◌≡◌, ℕ, zero, suc, ◌+◌, ◌-◌, ◌*◌, ◌%◌, ◌<◌, Bool, true, false, List, [], ◌∷◌, replicate, refl, ◌∙◌, subst, arith, eqb, bit_and}
use Rattle.std.proofs.lemmas.Bool.{ne_eqb, eq-eqb}
use Rattle.std.proofs.lemmas.Grind.{and_numeral}
use Rattle.tb_machine_reaching.specs.View.{Setup, Holds, Fits, Comes, view}
use Rattle.tb_machine_reaching.proofs.Comes.{after, ending, looser}
use Rattle.tb_machine_reaching.proofs.Calls.{under}
use Rattle.tb_runtime16.specs.Addresses.{ZONE_AT}
use Rattle.tb_compiled_kept.specs.Addresses.{COLUMN}
use Rattle.tb_runtime16.specs.Block.{block_part}
use Rattle.tb_runtime16.specs.Laws.{Back, Sent, nowhere, ZoneLaw}
use Rattle.tb_runtime16.proofs.Within.{zone_part, zone_in}
use Rattle.tb_runtime16.proofs.Called.{calls}
use Rattle.tb_runtime16.proofs.Columns.{sent_then}
use Rattle.tb_runtime16.proofs.SendRuns.{plain_law}
use Rattle.tb_runtime16.proofs.Frames.{leaves_now}

low_bits : (c : ℕ) → bit_and c 7 ≡ c % 8
low_bits c = and_numeral c 6 refl

module _ (f : Setup) (fits : Fits f 4) (block : Holds block_part f.code) (lo hi : ℕ) (text answers : List ℕ) where
  -- the loop sends k + 1 spaces
  Loop : ℕ → Type 0
  Loop k = (a x y : ℕ) (n v i z c : Bool) (m : ℕ → ℕ) → m COLUMN < 256 → m COLUMN % 8 + suc k ≡ 8
      → Comes f (view a x y n v i z c ZONE_AT (lo ∷ hi ∷ []) m text answers) (Back lo hi text answers (Sent nowhere m (replicate (suc k) 32)))
      (replicate (suc k) 32) (8 * suc k + 1)

  -- LDA COLUMN, AND #7, BNE, after the space
  Test : ℕ → Type 0
  Test k = (a x y : ℕ) (n v i z c : Bool) (m0 m : ℕ → ℕ) → Sent nowhere m0 (32 ∷ []) m → m0 COLUMN % 8 + suc k ≡ 8
      → Comes f (view a x y n v i z c (ZONE_AT + 5) (lo ∷ hi ∷ []) m text answers) (Back lo hi text answers (Sent nowhere m0 (replicate (suc k) 32))) (replicate k 32) (8 * k + 4)

  last : Test 0
  unfolding Test
  last a x y n v i z c m0 m h e =
      let done : eqb (bit_and (m COLUMN) 7) 0 ≡ true = eq-eqb _ _ (low_bits (m COLUMN) ∙ omega (arith, h.column, e)) in
      looser f _ _ _ [] (3 + 1) 4 (omega arith) (λ w h. h)
      (after f 4 fits zone_part (zone_in f.code block) 2 (view a x y n v i z c (ZONE_AT + 5) (lo ∷ hi ∷ []) m text answers) _ _ 1 refl
      (rw done (ending f 4 fits zone_part (zone_in f.code block) 0 (view _ _ _ _ _ _ _ _ (ZONE_AT + 12) (lo ∷ hi ∷ []) m text answers) _ refl
      (leaves_now refl h))))

  more : (k : ℕ) → Loop k → Test (suc k)
  unfolding Test Loop
  more k go a x y n v i z c m0 m h e =
      let on : eqb (bit_and (m COLUMN) 7) 0 ≡ false = ne_eqb _ _ (λ s. omega (arith, h.column, e, low_bits (m COLUMN), s)) in
      looser f _ _ _ (replicate (suc k) 32) (3 + (8 * suc k + 1)) (8 * suc k + 4) (omega arith) (λ w h. h)
      (after f 4 fits zone_part (zone_in f.code block) 2 (view a x y n v i z c (ZONE_AT + 5) (lo ∷ hi ∷ []) m text answers) _ _ (8 * suc k + 1) refl
      (rw on (looser f _ _ _ (replicate (suc k) 32) (8 * suc k + 1) (8 * suc k + 1) (omega arith)
      (λ w b. record {
        pc = b.pc;
        stack_is = b.stack_is;
        binary = b.binary;
        same_text = b.same_text;
        same_answers = b.same_answers;
        memory = sent_then nowhere m0 m w.mem (32 ∷ []) (replicate (suc k) 32) h b.memory;
      })
      (go _ _ _ _ _ _ _ _ m (omega (arith, h.column)) (omega (arith, h.column, e))))))

  turn : (k : ℕ) → Test k → Loop k
  unfolding Test Loop
  turn k go a x y n v i z c m small e =
      looser f _ _ _ (replicate (suc k) 32) (2 + (3 + (8 * k + 4))) (8 * suc k + 1) (omega arith) (λ w h. h)
      (after f 4 fits zone_part (zone_in f.code block) 1 (view a x y n v i z c ZONE_AT (lo ∷ hi ∷ []) m text answers) _ _ (3 + (8 * k + 4)) refl
      (calls f (lo ∷ hi ∷ []) _ _ _ _ _ _ _ _ _ _ _ m text answers (Sent nowhere m (32 ∷ [])) _ (32 ∷ []) (replicate k 32) 3 (8 * k + 4)
      (plain_law (under f (lo ∷ hi ∷ [])) (omega (arith, fits)) block _ _ text answers m 32 _ _ _ _ _ _ _ (λ e. omega (arith, e)))
      (λ a x y n v i z c w h. go a x y n v i z c m w h e)))

  loops : (k : ℕ) → Loop k
  loops zero = turn zero last
  loops (suc k) = turn (suc k) (more k (loops k))

  whole : (a x y : ℕ) (n v i z c : Bool) (m : ℕ → ℕ) → m COLUMN < 256 → Comes f (view a x y n v i z c ZONE_AT (lo ∷ hi ∷ []) m text answers)
      (Back lo hi text answers (Sent nowhere m (replicate (8 - m COLUMN % 8) 32))) (replicate (8 - m COLUMN % 8) 32) 65
  unfolding Loop
  whole a x y n v i z c m small =
      let k = 7 - m COLUMN % 8 in
      let spaces : suc k ≡ 8 - m COLUMN % 8 = omega arith in
      subst (λ u. Comes f (view a x y n v i z c ZONE_AT (lo ∷ hi ∷ []) m text answers) (Back lo hi text answers (Sent nowhere m (replicate u 32))) (replicate u 32) 65) spaces
      (looser f _ _ _ _ (8 * suc k + 1) 65 (omega arith) (λ w h. h) (loops k a x y n v i z c m small (omega arith)))

-- Zone's law, from the block's bytes
pub zone_law : ZoneLaw
zone_law f fits block lo hi text answers m a x y n v i z c small = whole f fits block lo hi text answers a x y n v i z c m small
