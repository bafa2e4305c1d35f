-- Divide.
use Rattle.std.proofs.Common.{◌≡◌, ◌⊎◌, ℕ, ◌+◌, ◌-◌, ◌*◌, ◌/◌, ◌%◌, ◌<◌, ◌≤◌, Bool, true, false, not, List, [], ◌∷◌, zero, suc}
use Rattle.std.proofs.Common.{refl, sym, ap, ap₂, ◌∙◌, subst, ⊎_elim, inl, inr, arith, eqb}
use Rattle.std.specs.Prelude.{nat_le, bit_or, bit_xor}
use Rattle.std.proofs.lemmas.Bool.{ne_eqb, eq-eqb, cases_eq, cases_lt, le-leb, lt-leb}
use Rattle.std.proofs.Math.Nat.{div-le_self}
use Rattle.std.proofs.lemmas.Nat.{le_or_l, le_or_r}
use Rattle.std.proofs.lemmas.Nat.Bits.{bit_at_xor}
use Rattle.tb_cpu.specs.Operands.{word_in}
use Rattle.tb_cpu.specs.Effects.{bit}
use Rattle.tb_memmap.specs.Bytes.{with_byte}
use Rattle.tb_machine_reaching.specs.View.{Setup, Holds, Fits, Comes, view}
use Rattle.tb_machine_reaching.proofs.Comes.{after, ending, looser}
use Rattle.tb_machine_reaching.proofs.Calls.{under}
use Rattle.tb_words.specs.Words.{word, is_negative, magnitude, negated, with_sign, differ, quotient}
use Rattle.tb_runtime16.specs.Addresses.{DIVIDE_AT}
use Rattle.tb_compiled_kept.specs.Addresses.{LEFT, RIGHT, RESULT}
use Rattle.tb_runtime16.specs.Block.{block_part}
use Rattle.tb_runtime16.specs.Laws.{unsigned_at, negate_left_at, is_argument, WordAt, Back, Parts, Parted, DivideLaw, DivideByZeroLaw}
use Rattle.tb_runtime16.proofs.InMemory.{IsWord, bytes_of, holds_word, of_word, same_place, value}
use Rattle.tb_runtime16.proofs.Within.{divide_part, divide_in}
use Rattle.tb_runtime16.proofs.Words.{small_byte, taken_from_zero, sign_of, sign_small, sign_none, negated_size, magnitude_positive, magnitude_negative}
use Rattle.tb_runtime16.proofs.Words.{quotient_positive, with_sign_positive}
use Rattle.tb_runtime16.proofs.Frames.{Frame, frame_put, frame_then, leaves_now}
use Rattle.tb_runtime16.proofs.Called.{calls, back_looser}
use Rattle.tb_runtime16.proofs.NarrowRuns.{by_low_byte}
use Rattle.tb_runtime16.proofs.UnsignedRuns.{unsigned_law}

-- the branch on a sign
pub sign_case : (b : Bool) → (b ≡ true) ⊎ (b ≡ false)
sign_case true = inl refl
sign_case false = inr refl

-- the word at an address, negated
abbrev pub negated_low : ℕ → ℕ
negated_low l = (0 + 256 - (l + 0)) % 256

abbrev pub negated_high : ℕ → ℕ → ℕ
negated_high l h = (0 + 256 - (h + bit (not (nat_le (l + 0) 0)))) % 256

abbrev pub negated_left : (ℕ → ℕ) → ℕ → ℕ
negated_left w = with_byte (with_byte w LEFT (negated_low (w LEFT))) (LEFT + 1) (negated_high (w LEFT) (w (LEFT + 1)))

abbrev negated_right : (ℕ → ℕ) → ℕ → ℕ
negated_right w = with_byte (with_byte w RIGHT (negated_low (w RIGHT))) (RIGHT + 1) (negated_high (w RIGHT) (w (RIGHT + 1)))

left_frame : (m w : ℕ → ℕ) → Frame m w → Frame m (negated_left w)
left_frame m w h = frame_put m (with_byte w LEFT (negated_low (w LEFT))) (LEFT + 1) (negated_high (w LEFT) (w (LEFT + 1))) refl (frame_put m w LEFT (negated_low (w LEFT)) refl h)

right_frame : (m w : ℕ → ℕ) → Frame m w → Frame m (negated_right w)
right_frame m w h = frame_put m (with_byte w RIGHT (negated_low (w RIGHT))) (RIGHT + 1) (negated_high (w RIGHT) (w (RIGHT + 1))) refl (frame_put m w RIGHT (negated_low (w RIGHT)) refl h)

bytes_negated : (l h : ℕ) → (negated_low l < 256) × (negated_high l h < 256)
bytes_negated l h = (small_byte (0 + 256 - (l + 0)), small_byte (0 + 256 - (h + bit (not (nat_le (l + 0) 0)))))

-- LEFT is negated, and only the arguments were changed
pub record Turned (m0 : ℕ → ℕ) (q : ℕ) (m : ℕ → ℕ) : Type 0 where
  pub is_word : IsWord m LEFT
  pub value : word_in m LEFT ≡ q
  pub others : Frame m0 m

-- negating LEFT in place leaves its negation
pub turned : (m : ℕ → ℕ) → IsWord m LEFT → Turned m (negated (word_in m LEFT)) (negated_left m)
turned m k = record {
  is_word = bytes_negated (m LEFT) (m (LEFT + 1));
  value = taken_from_zero (m LEFT) (m (LEFT + 1)) k.0 k.1;
  others = left_frame m m (λ a e. refl);
}

-- negating LEFT in place after a division negates the quotient
divided_negated : (m w : ℕ → ℕ) (q r : ℕ) → Parts is_argument m q r w → Parts is_argument m (negated q) r (negated_left w)
divided_negated m w q r h =
    let b = bytes_of w LEFT q h.left in
    record {
      left = holds_word (negated_left w) LEFT (negated q) (bytes_negated (w LEFT) (w (LEFT + 1))) (taken_from_zero (w LEFT) (w (LEFT + 1)) b.0 b.1 ∙ ap negated (value w LEFT q h.left));
      rest = same_place w (negated_left w) RESULT r h.rest refl refl;
      others = left_frame m w h.others;
    }

module _ (f : Setup) (fits : Fits f 2) (block : Holds block_part f.code) (lo hi : ℕ) (text answers : List ℕ) where
  negate_return : (a x y : ℕ) (n v i z c : Bool) (w : ℕ → ℕ) (q : (ℕ → ℕ) → Type 0) → q w
      → Comes f (view a x y n v i z c (DIVIDE_AT + 44) (lo ∷ hi ∷ []) w text answers) (Back lo hi text answers q) [] 1
  negate_return a x y n v i z c w q h = ending f 2 fits divide_part (divide_in f.code block) 0 (view a x y n v i z c (DIVIDE_AT + 44) (lo ∷ hi ∷ []) w text answers) _ refl
      (leaves_now refl h)

  -- Divide's inner routine negates LEFT
  pub negate_left : (a x y : ℕ) (n v i z c : Bool) (w : ℕ → ℕ) (q : (ℕ → ℕ) → Type 0) → q (negated_left w)
      → Comes f (view a x y n v i z c negate_left_at (lo ∷ hi ∷ []) w text answers) (Back lo hi text answers q) [] 9
  negate_left a x y n v i z c w q h =
      after f 2 fits divide_part (divide_in f.code block) 7 (view a x y n v i z c negate_left_at (lo ∷ hi ∷ []) w text answers) _ _ 1 refl
      (negate_return _ _ _ _ _ _ _ _ (negated_left w) q h)

-- ---- LEFT is a size, RIGHT a word with a sign
module _ (f : Setup) (fits : Fits f 4) (block : Holds block_part f.code) (lo hi : ℕ) (text answers : List ℕ) (m : ℕ → ℕ) (p : IsWord m LEFT)
    (q : IsWord m RIGHT) (some : 1 ≤ word_in m RIGHT) where
  abbrev Half : (ℕ → ℕ) → Type 0
  Half = Parts is_argument m (word_in m LEFT / magnitude (word_in m RIGHT)) (word_in m LEFT % magnitude (word_in m RIGHT))

  by_unsigned : (a x y : ℕ) (n v i z c : Bool) (w : ℕ → ℕ) → is_negative (word_in m RIGHT) ≡ true → IsWord w LEFT → word_in w LEFT ≡ word_in m LEFT
      → IsWord w RIGHT → word_in w RIGHT ≡ negated (word_in m RIGHT) → Frame m w
      → Comes f (view a x y n v i z c unsigned_at (lo ∷ hi ∷ []) w text answers) (Back lo hi text answers Half) [] 156
  by_unsigned a x y n v i z c w t wl le wr re h =
      let l = word_in m LEFT in
      let d = word_in m RIGHT in
      let big = sign_small d t in
      let wide : d < 65536 = omega (arith, q) in
      let least : 1 ≤ word_in w RIGHT = omega (arith, big, wide, re) in
      let most : word_in w RIGHT ≤ 32768 = omega (arith, big, wide, re) in
      let size : word_in w RIGHT ≡ magnitude d = re ∙ negated_size d wide t in
      back_looser f _ lo hi text answers _ _ [] 156 156 (omega arith)
      (unsigned_law f fits block lo hi text answers w a x y n v i z c l (magnitude d) (holds_word w LEFT l wl le) (holds_word w RIGHT (magnitude d) wr size)
      (omega (arith, size, least)) (omega (arith, size, most)))
      (λ u g. record { left = g.parts.left; rest = g.parts.rest; others = frame_then m w u h g.parts.others })

  by : (a x y : ℕ) (n v i z c : Bool) → Comes f (view a x y n v i z c (DIVIDE_AT + 57) (lo ∷ hi ∷ []) m text answers) (Back lo hi text answers Half) [] 168
  by a x y n v i z c =
      let l = word_in m LEFT in
      let d = word_in m RIGHT in
      let s = sign_of (m RIGHT) (m (RIGHT + 1)) q.0 q.1 in
      ⊎_elim
      (λ t. let b : eqb (m (RIGHT + 1) / 128 % 2) 1 ≡ true = s ∙ t in
      after f 4 fits divide_part (divide_in f.code block) 1 (view a x y n v i z c (DIVIDE_AT + 57) (lo ∷ hi ∷ []) m text answers) _ _ (10 + 156) refl
      (rw b (after f 4 fits divide_part (divide_in f.code block) 9 (view _ _ _ _ _ _ _ _ (DIVIDE_AT + 61) (lo ∷ hi ∷ []) m text answers) _ _ 156 refl
      (by_unsigned _ _ _ _ _ _ _ _ (negated_right m) t p refl (bytes_negated (m RIGHT) (m (RIGHT + 1))) (taken_from_zero (m RIGHT) (m (RIGHT + 1)) q.0 q.1) (right_frame m m (λ a e. refl))))))
      (λ t. let b : eqb (m (RIGHT + 1) / 128 % 2) 1 ≡ false = s ∙ t in
      let below = sign_none d t in
      let size = magnitude_positive d t in
      looser f _ _ _ [] (2 + 156) 168 (omega arith) (λ w h. h)
      (after f 4 fits divide_part (divide_in f.code block) 1 (view a x y n v i z c (DIVIDE_AT + 57) (lo ∷ hi ∷ []) m text answers) _ _ 156 refl
      (rw b (back_looser f _ lo hi text answers _ _ [] 156 156 (omega arith) (unsigned_law f fits block lo hi text answers m _ _ _ _
      _ _ _ _ l (magnitude d) (holds_word m LEFT l p refl) (holds_word m RIGHT (magnitude d) q (sym size)) (omega (arith, size, some)) (omega (arith, size, below)))
      (λ w h. h.parts)))))
      (sign_case (is_negative d))

-- ---- both are words with signs, and their sizes are divided
module _ (f : Setup) (fits : Fits f 4) (block : Holds block_part f.code) (lo hi : ℕ) (text answers : List ℕ) (m : ℕ → ℕ) (p : IsWord m LEFT)
    (q : IsWord m RIGHT) (some : 1 ≤ word_in m RIGHT) where
  abbrev Sizes : (ℕ → ℕ) → Type 0
  Sizes = Parts is_argument m (magnitude (word_in m LEFT) / magnitude (word_in m RIGHT)) (magnitude (word_in m LEFT) % magnitude (word_in m RIGHT))

  -- LEFT was negated, or was not negative
  sized : (a x y : ℕ) (n v i z c : Bool) (w : ℕ → ℕ) → IsWord w LEFT → word_in w LEFT ≡ magnitude (word_in m LEFT) → IsWord w RIGHT
      → word_in w RIGHT ≡ word_in m RIGHT → Frame m w
      → Comes f (view a x y n v i z c (DIVIDE_AT + 57) (lo ∷ hi ∷ []) w text answers) (Back lo hi text answers Sizes) [] 168
  sized a x y n v i z c w wl le wr re h =
      back_looser f _ lo hi text answers _ _ [] 168 168 (omega arith)
      (by f fits block lo hi text answers w wl wr (subst (λ r. 1 ≤ r) (sym re) some) a x y n v i z c)
      (λ u g. record {
        left = subst (WordAt u LEFT) (ap₂ (λ l r. l / magnitude r) le re) g.left;
        rest = subst (WordAt u RESULT) (ap₂ (λ l r. l % magnitude r) le re) g.rest;
        others = frame_then m w u h g.others;
      })

  sizes : (a x y : ℕ) (n v i z c : Bool) → Comes f (view a x y n v i z c (DIVIDE_AT + 50) (lo ∷ hi ∷ []) m text answers) (Back lo hi text answers Sizes) [] 180
  sizes a x y n v i z c =
      let l = word_in m LEFT in
      let wide : l < 65536 = omega (arith, p) in
      let s = sign_of (m LEFT) (m (LEFT + 1)) p.0 p.1 in
      ⊎_elim
      (λ t. let b : eqb (m (LEFT + 1) / 128 % 2) 1 ≡ true = s ∙ t in
      after f 4 fits divide_part (divide_in f.code block) 1 (view a x y n v i z c (DIVIDE_AT + 50) (lo ∷ hi ∷ []) m text answers) _ _ (10 + 168) refl
      (rw b (after f 4 fits divide_part (divide_in f.code block) 9 (view _ _ _ _ _ _ _ _ (DIVIDE_AT + 54) (lo ∷ hi ∷ []) m text answers) _ _ 168 refl
      (sized _ _ _ _ _ _ _ _ (negated_left m) (bytes_negated (m LEFT) (m (LEFT + 1))) (taken_from_zero (m LEFT) (m (LEFT + 1)) p.0 p.1 ∙ negated_size l wide t)
      q refl (left_frame m m (λ a e. refl))))))
      (λ t. let b : eqb (m (LEFT + 1) / 128 % 2) 1 ≡ false = s ∙ t in
      looser f _ _ _ [] (2 + 168) 180 (omega arith) (λ w h. h)
      (after f 4 fits divide_part (divide_in f.code block) 1 (view a x y n v i z c (DIVIDE_AT + 50) (lo ∷ hi ∷ []) m text answers) _ _ 168 refl
      (rw b (sized _ _ _ _ _ _ _ _ m p (sym (magnitude_positive l t)) q refl (λ a e. refl)))))
      (sign_case (is_negative l))

-- the signs of two words differ, as bit 7 of their high bytes' exclusive or tells
signs_differ : (k l h j : ℕ) → k < 256 → l < 256 → h < 256 → j < 256 → eqb (bit_xor h j / 128 % 2) 1 ≡ differ (is_negative (k + 256 * h)) (is_negative (l + 256 * j))
signs_differ k l h j p0 p1 q r =
    let x : bit_xor h j / 128 % 2 ≡ (h / 128 % 2 + j / 128 % 2) % 2 = bit_at_xor h j 7 in
    ap (λ n. eqb n 1) x ∙ sum_of (h / 128 % 2) (j / 128 % 2) (omega arith) (omega arith) ∙ ap₂ differ (sign_of k h p0 q) (sign_of l j p1 r)
  where
    sum_of : (a b : ℕ) → a < 2 → b < 2 → eqb ((a + b) % 2) 1 ≡ differ (eqb a 1) (eqb b 1)
    sum_of zero zero s t = refl
    sum_of zero (suc zero) s t = refl
    sum_of (suc zero) zero s t = refl
    sum_of (suc zero) (suc zero) s t = refl
    sum_of zero (suc (suc b)) s t = absurd (omega (arith, t))
    sum_of (suc zero) (suc (suc b)) s t = absurd (omega (arith, t))
    sum_of (suc (suc a)) b s t = absurd (omega (arith, s))

-- the quotient's sign, and its size below 32,769
size_fits : (l d : ℕ) → l < 65536 → magnitude l / magnitude d ≤ 32768
size_fits l d wide = let s = div-le_self (magnitude l) (magnitude d) in ⊎_elim
    (λ t. let e = magnitude_negative l t in let b = sign_small l t in omega (arith, s, e, b))
    (λ t. let e = magnitude_positive l t in let b = sign_none l t in omega (arith, s, e, b)) (sign_case (is_negative l))

-- ---- LEFT and RIGHT are words with signs
module _ (f : Setup) (fits : Fits f 6) (block : Holds block_part f.code) (lo hi : ℕ) (text answers : List ℕ) (m : ℕ → ℕ) (p : IsWord m LEFT)
    (q : IsWord m RIGHT) (some : 1 ≤ word_in m RIGHT) where
  abbrev Goal : (ℕ → ℕ) → Type 0
  Goal = Parts is_argument m (quotient (word_in m LEFT) (word_in m RIGHT)) (magnitude (word_in m LEFT) % magnitude (word_in m RIGHT))

  -- the signs tell whether the sizes' quotient is negated
  by_signs : (a x y : ℕ) (v i z c b : Bool) → differ (is_negative (word_in m LEFT)) (is_negative (word_in m RIGHT)) ≡ b
      → Comes f (view a x y b v i z c (DIVIDE_AT + 24) (lo ∷ hi ∷ []) m text answers) (Back lo hi text answers Goal) [] 191
  by_signs a x y v i z c false t =
      let l = word_in m LEFT in
      let d = word_in m RIGHT in
      let small = size_fits l d (omega (arith, p)) in
      looser f _ _ _ [] (1 + 180) 191 (omega arith) (λ w h. h)
      (after f 6 fits divide_part (divide_in f.code block) 0 (view a x y false v i z c (DIVIDE_AT + 24) (lo ∷ hi ∷ []) m text answers) _ _ 180 refl
      (back_looser f _ lo hi text answers _ _ [] 180 180 (omega arith) (sizes f (omega (arith, fits)) block lo hi text answers m p q some _ _ _ _ _ _ _ _)
      (λ w h. record {
        left = subst (WordAt w LEFT) (sym (ap (λ b. with_sign b (magnitude l / magnitude d)) t ∙ (let e : word (magnitude l / magnitude d) ≡ magnitude l / magnitude d = omega (arith, small) in e))) h.left;
        rest = h.rest;
        others = h.others;
      })))
  by_signs a x y v i z c true t =
      let l = word_in m LEFT in
      let d = word_in m RIGHT in
      let small = size_fits l d (omega (arith, p)) in
      after f 6 fits divide_part (divide_in f.code block) 1 (view a x y true v i z c (DIVIDE_AT + 24) (lo ∷ hi ∷ []) m text answers) _ _ (180 + 9) refl
      (calls f (lo ∷ hi ∷ []) a x y true v i z c (DIVIDE_AT + 50) ((DIVIDE_AT + 28) % 256) ((DIVIDE_AT + 28) / 256) m text answers _ _ [] [] 180 9
      (sizes (under f (lo ∷ hi ∷ [])) (omega (arith, fits)) block ((DIVIDE_AT + 28) % 256) ((DIVIDE_AT + 28) / 256) text answers m p q some a x y true v i z c)
      (λ a x y n v i z c u g. subst (λ q0. Comes f (view a x y n v i z c negate_left_at (lo ∷ hi ∷ []) u text answers)
      (Back lo hi text answers (Parts is_argument m q0 (magnitude l % magnitude d))) [] 9)
      (sym (ap (λ b. with_sign b (magnitude l / magnitude d)) t ∙ (let e : with_sign true (magnitude l / magnitude d) ≡ negated (magnitude l / magnitude d) = omega (arith, small) in e)))
      (negate_left f (omega (arith, fits)) block lo hi text answers a x y n v i z c u _ (divided_negated m u (magnitude l / magnitude d) (magnitude l % magnitude d) g))))

  signed : (a x y : ℕ) (n v i z c : Bool) → Comes f (view a x y n v i z c (DIVIDE_AT + 14) (lo ∷ hi ∷ []) m text answers) (Back lo hi text answers Goal) [] 196
  signed a x y n v i z c =
      let b : eqb (bit_or (m RIGHT) (m (RIGHT + 1))) 0 ≡ false = ne_eqb _ _ (λ e. omega (arith, some, e, le_or_l (m RIGHT) (m (RIGHT + 1)), le_or_r (m RIGHT) (m (RIGHT + 1)))) in
      let s = signs_differ (m LEFT) (m RIGHT) (m (LEFT + 1)) (m (RIGHT + 1)) p.0 q.0 p.1 q.1 in
      after f 6 fits divide_part (divide_in f.code block) 2 (view a x y n v i z c (DIVIDE_AT + 14) (lo ∷ hi ∷ []) m text answers) _ _ (2 + 191) refl
      (rw b (after f 6 fits divide_part (divide_in f.code block) 1 (view _ _ _ _ _ _ _ _ (DIVIDE_AT + 20) (lo ∷ hi ∷ []) m text answers) _ _ 191 refl
      (by_signs _ _ _ _ _ _ _ _ (sym s))))

  -- RIGHT is 1 to 127, and LEFT's high byte below it: both are positive
  frequent : (a x y : ℕ) (n v i z c : Bool) → m RIGHT < 128 → m (RIGHT + 1) ≡ 0 → m (LEFT + 1) < m RIGHT → a ≡ m (LEFT + 1) → x ≡ 0
      → Comes f (view a x y n v i z c (DIVIDE_AT + 99) (lo ∷ hi ∷ []) m text answers) (Back lo hi text answers Goal) [] 50
  frequent a x y n v i z c few top less ea ex =
      let l = word_in m LEFT in
      let d = word_in m RIGHT in
      let small : l ≤ 32768 = omega (arith, p, few, less) in
      let tl : is_negative l ≡ false = lt-leb 32768 l (omega (arith, p, few, less)) in
      let td : is_negative d ≡ false = lt-leb 32768 d (omega (arith, few, top)) in
      back_looser f _ lo hi text answers _ _ [] 50 50 (omega arith)
      (subst (λ a. Comes f (view a x y n v i z c (DIVIDE_AT + 99) (lo ∷ hi ∷ []) m text answers) (Back lo hi text answers (Parted m (l / d) (l % d))) [] 50) (sym ea)
      (subst (λ x. Comes f (view (m (LEFT + 1)) x y n v i z c (DIVIDE_AT + 99) (lo ∷ hi ∷ []) m text answers) (Back lo hi text answers (Parted m (l / d) (l % d))) [] 50) (sym ex)
      (by_low_byte f (omega (arith, fits)) block lo hi text answers m top few y n v i z c p less)))
      (λ w h. record {
        left = subst (WordAt w LEFT) (sym (quotient_positive l d tl ∙ with_sign_positive d l small td)) h.parts.left;
        rest = subst (WordAt w RESULT) (ap (λ r. l % r) (sym (magnitude_positive d td)) ∙ ap (λ r. r % magnitude d) (sym (magnitude_positive l tl))) h.parts.rest;
        others = h.parts.others;
      })

  divide : (a x y : ℕ) (n v i z c : Bool) → Comes f (view a x y n v i z c DIVIDE_AT (lo ∷ hi ∷ []) m text answers) (Back lo hi text answers Goal) [] 203
  divide a x y n v i z c =
      ⊎_elim
      (λ few. let t : eqb (m RIGHT / 128 % 2) 1 ≡ false = ne_eqb _ _ (λ e. omega (arith, few, e)) in
      ⊎_elim
      (λ less. let k : nat_le (m RIGHT) (m (LEFT + 1)) ≡ false = lt-leb _ _ less in
      ⊎_elim
      (λ none. let u : eqb (m (RIGHT + 1)) 0 ≡ true = eq-eqb _ _ none in
      looser f _ _ _ [] (2 + (3 + (2 + 50))) 203 (omega arith) (λ w h. h)
      (after f 6 fits divide_part (divide_in f.code block) 1 (view a x y n v i z c DIVIDE_AT (lo ∷ hi ∷ []) m text answers) _ _ (3 + (2 + 50)) refl
      (rw t (after f 6 fits divide_part (divide_in f.code block) 2 (view _ _ _ _ _ _ _ _ (DIVIDE_AT + 4) (lo ∷ hi ∷ []) m text answers) _ _ (2 + 50) refl
      (rw k (after f 6 fits divide_part (divide_in f.code block) 1 (view _ _ _ _ _ _ _ _ (DIVIDE_AT + 10) (lo ∷ hi ∷ []) m text answers) _ _ 50 refl
      (rw u (frequent _ _ _ _ _ _ _ _ few none less refl none))))))))
      (λ any. let u : eqb (m (RIGHT + 1)) 0 ≡ false = ne_eqb _ _ any in
      looser f _ _ _ [] (2 + (3 + (2 + 196))) 203 (omega arith) (λ w h. h)
      (after f 6 fits divide_part (divide_in f.code block) 1 (view a x y n v i z c DIVIDE_AT (lo ∷ hi ∷ []) m text answers) _ _ (3 + (2 + 196)) refl
      (rw t (after f 6 fits divide_part (divide_in f.code block) 2 (view _ _ _ _ _ _ _ _ (DIVIDE_AT + 4) (lo ∷ hi ∷ []) m text answers) _ _ (2 + 196) refl
      (rw k (after f 6 fits divide_part (divide_in f.code block) 1 (view _ _ _ _ _ _ _ _ (DIVIDE_AT + 10) (lo ∷ hi ∷ []) m text answers) _ _ 196 refl
      (rw u (signed _ _ _ _ _ _ _ _))))))))
      (cases_eq (m (RIGHT + 1)) 0))
      (λ more. let k : nat_le (m RIGHT) (m (LEFT + 1)) ≡ true = le-leb _ _ more in
      looser f _ _ _ [] (2 + (3 + 196)) 203 (omega arith) (λ w h. h)
      (after f 6 fits divide_part (divide_in f.code block) 1 (view a x y n v i z c DIVIDE_AT (lo ∷ hi ∷ []) m text answers) _ _ (3 + 196) refl
      (rw t (after f 6 fits divide_part (divide_in f.code block) 2 (view _ _ _ _ _ _ _ _ (DIVIDE_AT + 4) (lo ∷ hi ∷ []) m text answers) _ _ 196 refl
      (rw k (signed _ _ _ _ _ _ _ _))))))
      (cases_lt (m (LEFT + 1)) (m RIGHT)))
      (λ many. let t : eqb (m RIGHT / 128 % 2) 1 ≡ true = eq-eqb _ _ (omega (arith, many, q.0)) in
      looser f _ _ _ [] (2 + 196) 203 (omega arith) (λ w h. h)
      (after f 6 fits divide_part (divide_in f.code block) 1 (view a x y n v i z c DIVIDE_AT (lo ∷ hi ∷ []) m text answers) _ _ 196 refl
      (rw t (signed _ _ _ _ _ _ _ _))))
      (cases_lt (m RIGHT) 128)

-- Divide's law, from the block's bytes
pub divide_law : DivideLaw
divide_law f fits block lo hi text answers m a x y n v i z c left right p q some =
    let start = view a x y n v i z c DIVIDE_AT (lo ∷ hi ∷ []) m text answers in
    let same = value m RIGHT right q in
    of_word (λ l. Comes f start (Back lo hi text answers (Parts is_argument m (quotient l right) (magnitude l % magnitude right))) [] 203) m LEFT left p
    (of_word (λ r. Comes f start (Back lo hi text answers (Parts is_argument m (quotient (word_in m LEFT) r) (magnitude (word_in m LEFT) % magnitude r))) [] 203) m RIGHT right q
    (divide f fits block lo hi text answers m (bytes_of m LEFT left p) (bytes_of m RIGHT right q) (omega (arith, same, some)) a x y n v i z c))

-- the law of Divide by 0, from the block's bytes
pub divide_by_zero_law : DivideByZeroLaw
divide_by_zero_law f fits block lo hi text answers m a x y n v i z c e =
    let t : eqb (m RIGHT / 128 % 2) 1 ≡ false = ap (λ r. eqb (r / 128 % 2) 1) e.low in
    let k : nat_le (m RIGHT) (m (LEFT + 1)) ≡ true = le-leb _ _ (omega (arith, e.low)) in
    let b : eqb (bit_or (m RIGHT) (m (RIGHT + 1))) 0 ≡ true = eq-eqb _ _ (ap₂ bit_or e.low e.high) in
    after f 2 fits divide_part (divide_in f.code block) 1 (view a x y n v i z c DIVIDE_AT (lo ∷ hi ∷ []) m text answers) _ _ (3 + (3 + 2)) refl
    (rw t (after f 2 fits divide_part (divide_in f.code block) 2 (view _ _ _ _ _ _ _ _ (DIVIDE_AT + 4) (lo ∷ hi ∷ []) m text answers) _ _ (3 + 2) refl
    (rw k (after f 2 fits divide_part (divide_in f.code block) 2 (view _ _ _ _ _ _ _ _ (DIVIDE_AT + 14) (lo ∷ hi ∷ []) m text answers) _ _ 2 refl
    (rw b (ending f 2 fits divide_part (divide_in f.code block) 1 (view _ _ _ _ _ _ _ _ (DIVIDE_AT + 45) (lo ∷ hi ∷ []) m text answers) _ refl
    (record { leaves = leaves_now refl refl; number = refl })))))))
