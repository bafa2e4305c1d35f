-- Division without signs by a byte below 128, inside Divide: eight rounds divide the byte at LEFT, with the rest in A. If
-- LEFT's high byte is not below RIGHT, its eight rounds come first, with that byte at LEFT and the low one in X.
use Rattle.std.proofs.Common.{◌≡◌, ℕ, zero, suc, ◌+◌, ◌-◌, ◌*◌, ◌/◌, ◌%◌, ◌<◌, ◌≤◌, Bool, true, false, List, [], ◌∷◌, ◌++◌, refl}
use Rattle.std.proofs.Common.{sym, ap, ◌∙◌, subst, ⊎_elim, arith, eqb}
use Rattle.std.specs.Prelude.{nat_le, ◌||◌, ◌==◌}
use Rattle.std.proofs.lemmas.Bool.{ne_eqb, eq-eqb, cases_lt, le-leb, lt-leb}
use Rattle.std.proofs.lemmas.Bool.Decides.{nat_tests}
use Rattle.std.proofs.lemmas.Nat.{div-mul-add}
use Rattle.std.proofs.Math.Nat.{mul-add-mod_self_right, mod-eq_of_lt}
use Rattle.tb_cpu.specs.Operands.{word_in}
use Rattle.tb_cpu.specs.Effects.{bit}
use Rattle.tb_memmap.specs.Bytes.{with_byte}
use Rattle.tb_memmap.specs.Regions.{within}
use Rattle.tb_machine_reaching.specs.View.{Setup, Holds, Fits, Comes, view, View, back_at}
use Rattle.tb_machine_reaching.proofs.Comes.{after, ending, looser}
use Rattle.tb_machine_reaching.proofs.Comes.{known}
use Rattle.tb_machine_reaching.proofs.Calls.{calling, stacked_on, under}
use Rattle.tb_runtime16.specs.Addresses.{DIVIDE_AT}
use Rattle.tb_compiled_kept.specs.Addresses.{LEFT, RIGHT, RESULT}
use Rattle.tb_runtime16.specs.Block.{block_part}
use Rattle.tb_runtime16.specs.Laws.{Back, Leaves, Parted, Changes, is_argument}
use Rattle.tb_runtime16.proofs.InMemory.{IsWord, holds_word}
use Rattle.tb_runtime16.proofs.Within.{divide_part, divide_in}
use Rattle.tb_runtime16.proofs.Words.{one_high}
use Rattle.tb_words.proofs.Powers.{pow2}
use Rattle.tb_runtime16.proofs.WideRuns.{bit_small, sum_less, sum_more}
use Rattle.tb_runtime16.proofs.Frames.{Frame, frame_put, changes_put, leaves_now}

-- the addresses that the rounds change: LEFT and RESULT
abbrev is_rounds : ℕ → Bool
is_rounds a = a == LEFT || within RESULT (RESULT + 1) a

-- a round of a turn
data Nth : Type 0 where
  first : Nth
  second : Nth
  third : Nth
  fourth : Nth

-- where a round begins, and where it ends
abbrev from : Nth → ℕ
from first = DIVIDE_AT + 103
from second = DIVIDE_AT + 112
from third = DIVIDE_AT + 121
from fourth = DIVIDE_AT + 130

abbrev to : Nth → ℕ
to first = DIVIDE_AT + 112
to second = DIVIDE_AT + 121
to third = DIVIDE_AT + 130
to fourth = DIVIDE_AT + 139

module _ (f : Setup) (fits : Fits f 2) (block : Holds block_part f.code) (lo hi : ℕ) (text answers : List ℕ) (goal : View → Type 0) where
  -- a round's shifts and its comparison
  shift : (s : Nth) (a x y : ℕ) (n v i z c : Bool) (m : ℕ → ℕ) (k : ℕ)
      → ((n z : Bool) → Comes f (view (2 * a % 256 + bit (eqb (m LEFT / 128 % 2) 1)) x y n v i z (nat_le (m RIGHT) (2 * a % 256
      + bit (eqb (m LEFT / 128 % 2) 1))) (from s + 5) (lo ∷ hi ∷ []) (with_byte m LEFT (2 * m LEFT % 256 + bit c)) text answers) goal [] k)
      → Comes f (view a x y n v i z c (from s) (lo ∷ hi ∷ []) m text answers) goal [] (3 + k)
  shift first a x y n v i z c m k next = after f 2 fits divide_part (divide_in f.code block) 2 (view a x y n v i z c (DIVIDE_AT + 103) (lo ∷ hi ∷ []) m text answers) _ _ k refl (next _ _)
  shift second a x y n v i z c m k next = after f 2 fits divide_part (divide_in f.code block) 2 (view a x y n v i z c (DIVIDE_AT + 112) (lo ∷ hi ∷ []) m text answers) _ _ k refl (next _ _)
  shift third a x y n v i z c m k next = after f 2 fits divide_part (divide_in f.code block) 2 (view a x y n v i z c (DIVIDE_AT + 121) (lo ∷ hi ∷ []) m text answers) _ _ k refl (next _ _)
  shift fourth a x y n v i z c m k next = after f 2 fits divide_part (divide_in f.code block) 2 (view a x y n v i z c (DIVIDE_AT + 130) (lo ∷ hi ∷ []) m text answers) _ _ k refl (next _ _)

  -- the divisor does not go into the rest
  stays : (s : Nth) (a x y : ℕ) (n v i z : Bool) (m : ℕ → ℕ) (k : ℕ) → Comes f (view a x y n v i z false (to s) (lo ∷ hi ∷ []) m text answers) goal [] k
      → Comes f (view a x y n v i z false (from s + 5) (lo ∷ hi ∷ []) m text answers) goal [] (1 + k)
  stays first a x y n v i z m k next = after f 2 fits divide_part (divide_in f.code block) 0 (view a x y n v i z false (DIVIDE_AT + 108) (lo ∷ hi ∷ []) m text answers) _ _ k refl next
  stays second a x y n v i z m k next = after f 2 fits divide_part (divide_in f.code block) 0 (view a x y n v i z false (DIVIDE_AT + 117) (lo ∷ hi ∷ []) m text answers) _ _ k refl next
  stays third a x y n v i z m k next = after f 2 fits divide_part (divide_in f.code block) 0 (view a x y n v i z false (DIVIDE_AT + 126) (lo ∷ hi ∷ []) m text answers) _ _ k refl next
  stays fourth a x y n v i z m k next = after f 2 fits divide_part (divide_in f.code block) 0 (view a x y n v i z false (DIVIDE_AT + 135) (lo ∷ hi ∷ []) m text answers) _ _ k refl next

  -- it goes in
  goes_in : (s : Nth) (a x y : ℕ) (n v i z : Bool) (m : ℕ → ℕ) (k : ℕ)
      → ((n v z : Bool) → Comes f (view ((a + 256 - (m RIGHT + 0)) % 256) x y n v i z (nat_le (m RIGHT + 0) a) (to s) (lo ∷ hi ∷ []) m text answers) goal [] k)
      → Comes f (view a x y n v i z true (from s + 5) (lo ∷ hi ∷ []) m text answers) goal [] (2 + k)
  goes_in first a x y n v i z m k next = after f 2 fits divide_part (divide_in f.code block) 1 (view a x y n v i z true (DIVIDE_AT + 108) (lo ∷ hi ∷ []) m text answers) _ _ k refl (next _ _ _)
  goes_in second a x y n v i z m k next = after f 2 fits divide_part (divide_in f.code block) 1 (view a x y n v i z true (DIVIDE_AT + 117) (lo ∷ hi ∷ []) m text answers) _ _ k refl (next _ _ _)
  goes_in third a x y n v i z m k next = after f 2 fits divide_part (divide_in f.code block) 1 (view a x y n v i z true (DIVIDE_AT + 126) (lo ∷ hi ∷ []) m text answers) _ _ k refl (next _ _ _)
  goes_in fourth a x y n v i z m k next = after f 2 fits divide_part (divide_in f.code block) 1 (view a x y n v i z true (DIVIDE_AT + 135) (lo ∷ hi ∷ []) m text answers) _ _ k refl (next _ _ _)

-- ---- eight rounds, with a rest below the divisor in A to begin with
module _ (f : Setup) (fits : Fits f 2) (block : Holds block_part f.code) (lo hi : ℕ) (text answers : List ℕ) (x0 : ℕ) (m0 : ℕ → ℕ) (most : m0 RIGHT < 128) (a0 : ℕ) (c0 : Bool) where
  -- after j rounds: the quotient so far is q, the rest a, and c the bit that comes in next
  record Held (j q a : ℕ) (c : Bool) (m : ℕ → ℕ) : Type 0 where
    byte : m LEFT < 256
    others : Changes is_rounds m0 m
    less : a < m0 RIGHT
    few : q < pow2 j
    sum : a * 512 + (2 * m LEFT + bit c) + q * m0 RIGHT * 512 ≡ pow2 j * (2 * (a0 * 256 + m0 LEFT) + bit c0) + q

  -- after the rounds: the byte is the quotient, and r the rest
  pub record Passed (r : ℕ) (m : ℕ → ℕ) : Type 0 where
    pub byte : m LEFT < 256
    pub low : m RESULT ≡ r
    pub high : m (RESULT + 1) ≡ 0
    pub others : Changes is_rounds m0 m
    pub less : r < m0 RIGHT
    pub total : m LEFT * m0 RIGHT + r ≡ a0 * 256 + m0 LEFT

  -- back at the caller, with the rest in A and X as it was
  pub record Rounded (w : View) : Type 0 where
    pub leaves : Leaves (back_at lo hi) [] text answers (Passed w.regs.a) w
    pub kept : w.regs.x ≡ x0

  Next : ℕ → Type 0
  Next k = (a y : ℕ) (n v i z c : Bool) (m : ℕ → ℕ) (j q : ℕ) → Held j q a c m → y ≡ suc k → j + 4 + 4 * k ≡ 8
      → Comes f (view a x0 y n v i z c (DIVIDE_AT + 103) (lo ∷ hi ∷ []) m text answers) Rounded [] (22 * k + 26)

  round : (s : Nth) (a y : ℕ) (n v i z c : Bool) (m : ℕ → ℕ) (j q k : ℕ) → Held j q a c m
      → ((a : ℕ) (n v z c : Bool) (m : ℕ → ℕ) (q : ℕ) → Held (suc j) q a c m
      → Comes f (view a x0 y n v i z c (to s) (lo ∷ hi ∷ []) m text answers) Rounded [] k)
      → Comes f (view a x0 y n v i z c (from s) (lo ∷ hi ∷ []) m text answers) Rounded [] (5 + k)
  round s a y n v i z c m j q k h next =
      let r0 = 2 * a % 256 + bit (eqb (m LEFT / 128 % 2) 1) in
      let l0 = 2 * m LEFT % 256 + bit c in
      let w = with_byte m LEFT l0 in
      let one = bit_small c in
      let carry = one_high (m LEFT) h.byte in
      let rest : r0 ≡ 2 * a + m LEFT / 128 = omega (arith, carry, h.less, most, h.byte) in
      let small : r0 < 256 = omega (arith, rest, h.less, most, h.byte) in
      let same : m RIGHT ≡ m0 RIGHT = h.others RIGHT refl in
      let byte : l0 < 256 = omega (arith, one) in
      let others : Changes is_rounds m0 w = changes_put is_rounds m0 m LEFT l0 refl h.others in
      ⊎_elim
      (λ less. let t : nat_le (m RIGHT) r0 ≡ false = lt-leb _ _ less in
      looser f _ _ _ [] (3 + (1 + k)) (5 + k) (omega arith) (λ w h. h)
      (shift f fits block lo hi text answers Rounded s a x0 y n v i z c m (1 + k) (λ n z. rw t (stays f fits block lo hi text answers Rounded s r0 x0 y n v i z w k (next r0 n v z false w (q + q)
      (record {
        byte = byte;
        others = others;
        less = omega (arith, less, same);
        few = omega (arith, h.few);
        sum = sum_less (m LEFT) a q (m0 RIGHT) (pow2 j) (2 * (a0 * 256 + m0 LEFT) + bit c0) (bit c) l0 r0 h.byte refl rest h.sum;
      }))))))
      (λ more. let t : nat_le (m RIGHT) r0 ≡ true = le-leb _ _ more in
      let t' : nat_le (m RIGHT + 0) r0 ≡ true = le-leb _ _ (omega (arith, more)) in
      let rest' : (r0 + 256 - (m RIGHT + 0)) % 256 + m0 RIGHT ≡ r0 = omega (arith, more, same, small) in
      looser f _ _ _ [] (3 + (2 + k)) (5 + k) (omega arith) (λ w h. h)
      (shift f fits block lo hi text answers Rounded s a x0 y n v i z c m (2 + k) (λ n z. rw t (goes_in f fits block lo hi text answers Rounded s r0 x0 y n v i z w k
      (λ n v z. next ((r0 + 256 - (m RIGHT + 0)) % 256) n v z (nat_le (m RIGHT + 0) r0) w (q + q + 1)
      (record {
        byte = byte;
        others = others;
        less = omega (arith, rest', rest, h.less, h.byte);
        few = omega (arith, h.few);
        sum = sum_more (m LEFT) a q (m0 RIGHT) (pow2 j) (2 * (a0 * 256 + m0 LEFT) + bit c0) (bit c) l0 _ _ h.byte refl (ap bit t') (rest' ∙ rest) h.sum;
      }))))))
      (cases_lt r0 (m RIGHT))

  -- a turn's end, and then the next turn or the last shift
  turned_last : (a y : ℕ) (n v i z c : Bool) (m : ℕ → ℕ) (q : ℕ) → Held 8 q a c m → y ≡ 1
      → Comes f (view a x0 y n v i z c (DIVIDE_AT + 139) (lo ∷ hi ∷ []) m text answers) Rounded [] 6
  turned_last a y n v i z c m q h e =
      let none : (y + 255) % 256 ≡ 0 = omega (arith, e) in
      let stop : eqb ((y + 255) % 256) 0 ≡ true = eq-eqb _ _ none in
      let one = bit_small c in
      let zero = bit_small c0 in
      let l0 = 2 * m LEFT % 256 + bit c in
      let same : l0 ≡ q = omega (arith, h.byte, one, zero, h.few, h.sum) in
      let total : q * m0 RIGHT + a ≡ a0 * 256 + m0 LEFT = omega (arith, h.byte, one, zero, h.few, h.sum) in
      after f 2 fits divide_part (divide_in f.code block) 1 (view a x0 y n v i z c (DIVIDE_AT + 139) (lo ∷ hi ∷ []) m text answers) _ _ 4 refl
      (rw stop (ending f 2 fits divide_part (divide_in f.code block) 3 (view a x0 _ _ v i _ c (DIVIDE_AT + 142) (lo ∷ hi ∷ []) m text answers) _ refl
      (record {
        leaves = leaves_now refl (record {
          byte = omega (arith, one);
          low = refl;
          high = none;
          others = changes_put is_rounds _ _ (RESULT + 1) _ refl (changes_put is_rounds _ _ RESULT _ refl (changes_put is_rounds _ _ LEFT _ refl h.others));
          less = h.less;
          total = ap (λ q. q * m0 RIGHT + a) same ∙ total;
        });
        kept = refl;
      })))

  turned_more : (k : ℕ) → Next k → (a y : ℕ) (n v i z c : Bool) (m : ℕ → ℕ) (j q : ℕ) → Held j q a c m → y ≡ suc (suc k) → j + 4 + 4 * k ≡ 8
      → Comes f (view a x0 y n v i z c (DIVIDE_AT + 139) (lo ∷ hi ∷ []) m text answers) Rounded [] (2 + (22 * k + 26))
  unfolding Next
  turned_more k go a y n v i z c m j q h e s =
      let less : (y + 255) % 256 ≡ suc k = omega (arith, e, s) in
      let more : eqb ((y + 255) % 256) 0 ≡ false = ne_eqb _ _ (λ x. omega (arith, less, x)) in
      after f 2 fits divide_part (divide_in f.code block) 1 (view a x0 y n v i z c (DIVIDE_AT + 139) (lo ∷ hi ∷ []) m text answers) _ _ (22 * k + 26) refl
      (rw more (go _ _ _ _ _ _ _ m j q h less s))

  -- the four rounds of a turn
  four : (a y : ℕ) (n v i z c : Bool) (m : ℕ → ℕ) (j q k : ℕ) → Held j q a c m
      → ((a : ℕ) (n v z c : Bool) (m : ℕ → ℕ) (q : ℕ) → Held (suc (suc (suc (suc j)))) q a c m
      → Comes f (view a x0 y n v i z c (DIVIDE_AT + 139) (lo ∷ hi ∷ []) m text answers) Rounded [] k)
      → Comes f (view a x0 y n v i z c (DIVIDE_AT + 103) (lo ∷ hi ∷ []) m text answers) Rounded [] (5 + (5 + (5 + (5 + k))))
  four a y n v i z c m j q k h next =
      round first a y n v i z c m j q (5 + (5 + (5 + k))) h (λ a n v z c m q h.
      round second a y n v i z c m (suc j) q (5 + (5 + k)) h (λ a n v z c m q h.
      round third a y n v i z c m (suc (suc j)) q (5 + k) h (λ a n v z c m q h.
      round fourth a y n v i z c m (suc (suc (suc j))) q k h next)))

  turns : (k : ℕ) → Next k
  unfolding Next
  turns zero a y n v i z c m j q h e s =
      looser f _ _ _ [] (5 + (5 + (5 + (5 + 6)))) (22 * 0 + 26) (omega arith) (λ w h. h)
      (four a y n v i z c m j q 6 h (λ a n v z c m q h.
      turned_last a y n v i z c m q (subst (λ j. Held j q a c m) (let t : suc (suc (suc (suc j))) ≡ 8 = omega (arith, s) in t) h) e))
  turns (suc k) a y n v i z c m j q h e s =
      looser f _ _ _ [] (5 + (5 + (5 + (5 + (2 + (22 * k + 26)))))) (22 * suc k + 26) (omega arith) (λ w h. h)
      (four a y n v i z c m j q (2 + (22 * k + 26)) h (λ a n v z c m q h.
      turned_more k (turns k) a y n v i z c m (suc (suc (suc (suc j)))) q h e (omega (arith, s))))

  -- eight rounds divide the byte at LEFT
  pub rounds : (y : ℕ) (n v i z : Bool) → m0 LEFT < 256 → a0 < m0 RIGHT
      → Comes f (view a0 x0 y n v i z c0 (DIVIDE_AT + 101) (lo ∷ hi ∷ []) m0 text answers) Rounded [] 49
  unfolding Next
  rounds y n v i z byte less =
      after f 2 fits divide_part (divide_in f.code block) 0 (view a0 x0 y n v i z c0 (DIVIDE_AT + 101) (lo ∷ hi ∷ []) m0 text answers) _ _ 48 refl
      (turns 1 _ _ _ _ _ _ _ _ 0 0 (record { byte = byte; others = λ a e. refl; less = less; few = omega arith; sum = omega arith }) refl refl)

-- the low byte's quotient below the high byte's
joined : (a b d : ℕ) → (a + 256 * b) * d ≡ a * d + 256 * (b * d)
joined a b d = grind arith

-- only arguments are changed by rounds
within_frame : (x : ℕ) → is_argument x ≡ false → is_rounds x ≡ false
within_frame x e = grind (arith, nat_tests)

-- ---- the whole division
module _ (f : Setup) (fits : Fits f 4) (block : Holds block_part f.code) (lo hi : ℕ) (text answers : List ℕ) (m0 : ℕ → ℕ) (top : m0 (RIGHT + 1) ≡ 0) (most : m0 RIGHT < 128) where
  abbrev Goal : View → Type 0
  Goal = Back lo hi text answers (Parted m0 (word_in m0 LEFT / word_in m0 RIGHT) (word_in m0 LEFT % word_in m0 RIGHT))

  -- LEFT is the quotient, and only LEFT and RESULT were changed
  parted : (m : ℕ → ℕ) (a : ℕ) → IsWord m LEFT → m RESULT ≡ a → m (RESULT + 1) ≡ 0 → m RIGHT ≡ m0 RIGHT → m (RIGHT + 1) ≡ m0 (RIGHT + 1) → Frame m0 m → a < m0 RIGHT
      → word_in m LEFT * m0 RIGHT + a ≡ word_in m0 LEFT
      → Parted m0 (word_in m0 LEFT / word_in m0 RIGHT) (word_in m0 LEFT % word_in m0 RIGHT) m
  parted m a p rest none low high others small total' =
      let q = word_in m LEFT in
      let d : word_in m0 RIGHT ≡ m0 RIGHT = omega (arith, top) in
      let less : a < word_in m0 RIGHT = omega (arith, small, d) in
      let total : q * word_in m0 RIGHT + a ≡ word_in m0 LEFT = ap (λ d. q * d + a) d ∙ total' in
      let rests : word_in m RESULT ≡ a = omega (arith, rest, none) in
      record {
        parts = record {
          left = holds_word m LEFT _ p (sym (div-mul-add q (word_in m0 RIGHT) a less) ∙ ap (λ n. n / word_in m0 RIGHT) total);
          rest = holds_word m RESULT _ (omega (arith, rest, small, most), omega (arith, none)) (rests
              ∙ sym (mul-add-mod_self_right q (word_in m0 RIGHT) a ∙ mod-eq_of_lt less) ∙ ap (λ n. n % word_in m0 RIGHT) total);
          others = others;
        };
        right_low = low;
        right_high = high;
      }

  -- the last rounds, over the low byte, with the high byte's quotient in its place
  low_byte : (m : ℕ → ℕ) (a x y : ℕ) (n v i z c : Bool) → IsWord m LEFT → m RIGHT ≡ m0 RIGHT → m (RIGHT + 1) ≡ m0 (RIGHT + 1) → Frame m0 m
      → a < m0 RIGHT → a * 256 + m LEFT + 256 * (m (LEFT + 1) * m0 RIGHT) ≡ word_in m0 LEFT
      → Comes f (view a x y n v i z c (DIVIDE_AT + 101) (lo ∷ hi ∷ []) m text answers) Goal [] 49
  low_byte m a x y n v i z c p low high others less total =
      looser f _ _ _ [] 49 49 (omega arith)
      (λ w g.
      let d = m0 RIGHT in
      let h = g.leaves.memory in
      let r = w.regs.a in
      let same : w.mem (LEFT + 1) ≡ m (LEFT + 1) = h.others (LEFT + 1) refl in
      let step : w.mem LEFT * m RIGHT + r ≡ a * 256 + m LEFT = h.total in
      let step' : w.mem LEFT * d + r ≡ a * 256 + m LEFT = ap (λ d. w.mem LEFT * d + r) (sym low) ∙ step in
      let small : r < m RIGHT = h.less in
      let all : (w.mem LEFT + 256 * w.mem (LEFT + 1)) * d + r ≡ word_in m0 LEFT = ap (λ p. p + r) (joined (w.mem LEFT) (w.mem (LEFT + 1)) d)
      ∙ ap (λ q. w.mem LEFT * d + 256 * (q * d) + r) same ∙ omega (arith, step', total) in
      record {
        pc = g.leaves.pc;
        stack_is = g.leaves.stack_is;
        binary = g.leaves.binary;
        same_text = g.leaves.same_text;
        same_answers = g.leaves.same_answers;
        memory = parted w.mem r (h.byte, omega (arith, same, p)) h.low h.high (h.others RIGHT refl ∙ low) (h.others (RIGHT + 1) refl ∙ high)
            (λ x e. h.others x (within_frame x e) ∙ others x e) (omega (arith, small, low)) all;
      })
      (rounds f (omega (arith, fits)) block lo hi text answers x m (omega (arith, low, most)) a c y n v i z p.0 (omega (arith, low, less)))

  -- LEFT's high byte is below RIGHT: eight rounds
  pub by_low_byte : (y : ℕ) (n v i z c : Bool) → IsWord m0 LEFT → m0 (LEFT + 1) < m0 RIGHT
      → Comes f (view (m0 (LEFT + 1)) 0 y n v i z c (DIVIDE_AT + 99) (lo ∷ hi ∷ []) m0 text answers) Goal [] 50
  by_low_byte y n v i z c p less =
      after f 4 fits divide_part (divide_in f.code block) 0 (view (m0 (LEFT + 1)) 0 y n v i z c (DIVIDE_AT + 99) (lo ∷ hi ∷ []) m0 text answers) _ _ 49 refl
      (low_byte (with_byte m0 (LEFT + 1) 0) _ _ _ _ _ _ _ _ (p.0, omega arith) refl refl (frame_put _ _ (LEFT + 1) _ refl (λ a e. refl)) less (omega arith))

  -- LEFT with its high byte at the low one's place
  abbrev lifted : ℕ → ℕ
  lifted = with_byte m0 LEFT (m0 (LEFT + 1))

  -- after the high byte's rounds, with the low byte in X
  again : (m : ℕ → ℕ) (a y : ℕ) (n v i z c : Bool) → IsWord m0 LEFT → m0 RIGHT ≤ m0 (LEFT + 1) → m LEFT < 256 → Changes is_rounds lifted m → a < m0 RIGHT
      → m LEFT * m0 RIGHT + a ≡ m0 (LEFT + 1)
      → Comes f (view a (m0 LEFT) y n v i z c (DIVIDE_AT + 91) (lo ∷ hi ∷ []) m text answers) Goal [] (4 + 49)
  again m a y n v i z c p more byte others less total =
      let some : eqb (m LEFT) 0 ≡ false = ne_eqb _ _ (λ e. omega (arith, ap (λ q. q * m0 RIGHT + a) e, total, more, less)) in
      let others0 : (x : ℕ) → is_argument x ≡ false → m x ≡ m0 x = λ x e. others x (within_frame x e) ∙ frame_put m0 m0 LEFT (m0 (LEFT + 1)) refl (λ a e. refl) x e in
      after f 4 fits divide_part (divide_in f.code block) 3 (view a (m0 LEFT) y n v i z c (DIVIDE_AT + 91) (lo ∷ hi ∷ []) m text answers) _ _ 49 refl
      (rw some (low_byte (with_byte (with_byte m LEFT (m0 LEFT)) (LEFT + 1) (m LEFT)) _ _ _ _ _ _ _ _ (p.0, byte) (others RIGHT refl) (others (RIGHT + 1) refl)
      (frame_put _ _ (LEFT + 1) _ refl (frame_put _ _ LEFT _ refl others0)) less (omega (arith, total))))

  -- else sixteen
  pub by_both_bytes : (y : ℕ) (n v i z c : Bool) → IsWord m0 LEFT → 1 ≤ m0 RIGHT → m0 RIGHT ≤ m0 (LEFT + 1)
      → Comes f (view (m0 (LEFT + 1)) 0 y n v i z c (DIVIDE_AT + 82) (lo ∷ hi ∷ []) m0 text answers) Goal [] 106
  by_both_bytes y n v i z c p some more =
      after f 4 fits divide_part (divide_in f.code block) 3 (view (m0 (LEFT + 1)) 0 y n v i z c (DIVIDE_AT + 82) (lo ∷ hi ∷ []) m0 text answers) _ _ (49 + 53) refl
      (calling f (lo ∷ hi ∷ []) (view 0 (m0 LEFT) y _ v i _ c (DIVIDE_AT + 101) ((DIVIDE_AT + 90) % 256 ∷ (DIVIDE_AT + 90) / 256 ∷ []) lifted text answers) _ Goal [] [] 49 53
      (rounds (under f (lo ∷ hi ∷ [])) (omega (arith, fits)) block ((DIVIDE_AT + 90) % 256) ((DIVIDE_AT + 90) / 256) text answers (m0 LEFT) lifted most 0 c y _ v i _ p.1 some)
      (λ w g. let h = g.leaves.memory in
      known f (stacked_on (lo ∷ hi ∷ []) w) (DIVIDE_AT + 91) (lo ∷ hi ∷ []) text answers Goal [] 53 g.leaves.pc (ap (λ s. s ++ (lo ∷ hi ∷ [])) g.leaves.stack_is)
      g.leaves.binary g.leaves.same_text g.leaves.same_answers
      (subst (λ x. Comes f (view w.regs.a x w.regs.y w.regs.flags.n w.regs.flags.v w.regs.flags.i w.regs.flags.z w.regs.flags.c (DIVIDE_AT + 91) (lo ∷ hi ∷ []) w.mem text answers) Goal [] 53) (sym g.kept)
      (again w.mem w.regs.a _ _ _ _ _ _ p more h.byte h.others h.less (omega (arith, h.total))))))
