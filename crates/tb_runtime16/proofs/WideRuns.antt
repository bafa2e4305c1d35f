-- Division without signs by 128 or more, inside Divide: eight rounds on LEFT's low byte, with the rest in A and LEFT + 1.
use Rattle.std.proofs.Common.{◌≡◌, ℕ, zero, suc, ◌+◌, ◌-◌, ◌*◌, ◌/◌, ◌%◌, ◌<◌, ◌≤◌, Bool, true, false, not, List, []}
use Rattle.std.proofs.Common.{◌∷◌, refl, sym, ap, ◌∙◌, subst, ⊎_elim, arith, eqb}
use Rattle.std.specs.Prelude.{nat_le}
use Rattle.std.proofs.lemmas.Bool.{ne_eqb, eq-eqb, cases_lt, cases_eq, le-leb, lt-leb}
use Rattle.std.proofs.lemmas.Nat.{div-mul-add}
use Rattle.std.proofs.Math.Nat.{mul-add-mod_self_right, mod-eq_of_lt}
use Rattle.tb_cpu.specs.Operands.{word_in}
use Rattle.tb_cpu.specs.Effects.{bit}
use Rattle.tb_memmap.specs.Bytes.{with_byte}
use Rattle.tb_machine_reaching.specs.View.{Setup, Holds, Fits, Comes, view, View}
use Rattle.tb_machine_reaching.proofs.Comes.{after, ending, looser}
use Rattle.tb_runtime16.specs.Addresses.{DIVIDE_AT}
use Rattle.tb_compiled_kept.specs.Addresses.{LEFT, RIGHT, RESULT}
use Rattle.tb_runtime16.specs.Block.{block_part}
use Rattle.tb_runtime16.specs.Laws.{Back, Parted}
use Rattle.tb_runtime16.proofs.InMemory.{IsWord, holds_word}
use Rattle.tb_runtime16.proofs.Within.{divide_part, divide_in}
use Rattle.tb_runtime16.proofs.Words.{small_byte, one_high, subtracted, compared}
use Rattle.tb_words.proofs.Powers.{pow2}
use Rattle.tb_runtime16.proofs.Frames.{Frame, frame_put, leaves_now}

-- doubling the first factor doubles the product
pub double : (a b : ℕ) → (a + a) * b ≡ a * b + a * b
double a b = grind arith

-- doubling the first factor and adding 1 adds the second factor too
pub double_one : (a b : ℕ) → (a + a + 1) * b ≡ a * b + a * b + b
double_one a b = grind arith

-- a bit is 0 or 1
pub bit_small : (c : Bool) → bit c < 2
bit_small true = omega arith
bit_small false = omega arith

-- the high byte's quotient above the low one's
joined : (q b d : ℕ) → (q + 256 * b) * d ≡ q * d + 256 * (b * d)
joined q b d = grind arith

-- rest, byte with the bit that comes in, and quotient of a round in which the divisor does not go in
pub sum_less : (l r q d p n c l' r' : ℕ) → l < 256 → l' ≡ 2 * l % 256 + c → r' ≡ 2 * r + l / 128 → r * 512 + (2 * l + c) + q * d * 512 ≡ p * n + q
    → r' * 512 + (2 * l' + 0) + (q + q) * d * 512 ≡ (p + p) * n + (q + q)
sum_less l r q d p n c l' r' small e e' h = omega (arith, double q d, double p n)

-- rest, byte with the bit that comes in, and quotient of a round in which the divisor goes in
pub sum_more : (l r q d p n c l' r' b : ℕ) → l < 256 → l' ≡ 2 * l % 256 + c → b ≡ 1 → r' + d ≡ 2 * r + l / 128 → r * 512 + (2 * l + c) + q * d * 512 ≡ p * n + q
    → r' * 512 + (2 * l' + b) + (q + q + 1) * d * 512 ≡ (p + p) * n + (q + q + 1)
sum_more l r q d p n c l' r' b small e one e' h = omega (arith, double_one q d, double p n)

taken_from : (r d w : ℕ) → r < 65536 → d ≤ r → w ≡ (r + (65536 - d)) % 65536 → w + d ≡ r
taken_from r d w p q e = omega arith

rest_small : (w d r l : ℕ) → w + d ≡ 2 * r + l / 128 → r < d → l < 256 → w < d
rest_small w d r l e p q = omega arith

few_less : (q p : ℕ) → q < p → q + q < p + p
few_less q p h = omega arith

few_more : (q p : ℕ) → q < p → q + q + 1 < p + p
few_more q p h = omega arith

module _ (f : Setup) (fits : Fits f 2) (block : Holds block_part f.code) (lo hi : ℕ) (text answers : List ℕ) (m0 : ℕ → ℕ) (d : IsWord m0 RIGHT)
    (most : word_in m0 RIGHT ≤ 32768) (c0 : Bool) (m1 : ℕ → ℕ) where
  -- at the first round: c0 is the quotient's high byte, and LEFT's high byte the rest that it leaves
  pub record Begun : Type 0 where
    pub left : IsWord m1 LEFT
    pub low : m1 RIGHT ≡ m0 RIGHT
    pub high : m1 (RIGHT + 1) ≡ m0 (RIGHT + 1)
    pub others : Frame m0 m1
    pub less : m1 (LEFT + 1) < word_in m0 RIGHT
    pub total : word_in m1 LEFT + 256 * (bit c0 * word_in m0 RIGHT) ≡ word_in m0 LEFT

  -- after j rounds: the low byte's quotient so far is q, and c the bit that comes in next
  record Held (j q a : ℕ) (c : Bool) (m : ℕ → ℕ) : Type 0 where
    left : IsWord m LEFT
    low : m RIGHT ≡ m0 RIGHT
    high : m (RIGHT + 1) ≡ m0 (RIGHT + 1)
    others : Frame m0 m
    less : m (LEFT + 1) + 256 * a < word_in m0 RIGHT
    few : q < pow2 j
    sum : (m (LEFT + 1) + 256 * a) * 512 + (2 * m LEFT + bit c) + q * word_in m0 RIGHT * 512 ≡ pow2 j * (2 * word_in m1 LEFT + bit c0) + q

  abbrev Goal : View → ℕ → Type 0
  Goal v n = Comes f v (Back lo hi text answers (Parted m0 (word_in m0 LEFT / word_in m0 RIGHT) (word_in m0 LEFT % word_in m0 RIGHT))) [] n

  Less : ℕ → Type 0
  Less k = (a x y : ℕ) (n v i z c : Bool) (m : ℕ → ℕ) (j q : ℕ) → Held j q a c m → x ≡ suc k → j + k ≡ 8
      → Goal (view a x y n v i z c (DIVIDE_AT + 187) (lo ∷ hi ∷ []) m text answers) (17 * k + 10)

  Next : ℕ → Type 0
  Next k = (a x y : ℕ) (n v i z c : Bool) (m : ℕ → ℕ) (j q : ℕ) → Held j q a c m → x ≡ suc k → suc j + k ≡ 8
      → Goal (view a x y n v i z c (DIVIDE_AT + 160) (lo ∷ hi ∷ []) m text answers) (17 * k + 25)

  -- the last shift, and the words into their places
  last : Begun → (a x y : ℕ) (n v i z c : Bool) (m : ℕ → ℕ) (q : ℕ) → Held 8 q a c m → x ≡ 0
      → Goal (view a x y n v i z c (DIVIDE_AT + 190) (lo ∷ hi ∷ []) m text answers) 8
  last g a x y n v i z c m q h none =
      let e = word_in m0 RIGHT in
      let r = m (LEFT + 1) + 256 * a in
      let one = bit_small c in
      let zero = bit_small c0 in
      let out = one_high (m LEFT) h.left.0 in
      let l = 2 * m LEFT % 256 + bit c in
      let u = 2 * x % 256 + bit (eqb (m LEFT / 128 % 2) 1) in
      let all : 2 * m LEFT + bit c ≡ 256 * bit c0 + q = omega (arith, h.left, one, zero, h.few, h.sum) in
      let part : q * e + r ≡ word_in m1 LEFT = omega (arith, h.left, one, zero, h.few, h.sum) in
      let low : l ≡ q = omega (arith, all, one, zero, h.few, h.left) in
      let high : u ≡ bit c0 = omega (arith, all, out, one, zero, h.few, h.left, none) in
      let small : a < 128 = omega (arith, h.less, most) in
      let total : (q + 256 * bit c0) * e + r ≡ word_in m0 LEFT = ap (λ p. p + r) (joined q (bit c0) e) ∙ omega (arith, part, g.total) in
      let w = with_byte (with_byte (with_byte (with_byte m LEFT l) (RESULT + 1) a) RESULT (m (LEFT + 1))) (LEFT + 1) u in
      ending f 2 fits divide_part (divide_in f.code block) 7 (view a x y n v i z c (DIVIDE_AT + 190) (lo ∷ hi ∷ []) m text answers) _ refl
      (leaves_now refl (record {
        parts = record {
          left = holds_word w LEFT _ (omega (arith, low, h.few), omega (arith, high, zero)) (omega (arith, low, high) ∙ sym (div-mul-add (q + 256 * bit c0) e r h.less) ∙ ap (λ n. n / e) total);
          rest = holds_word w RESULT _ (h.left.1, omega (arith, small)) (sym (mul-add-mod_self_right (q + 256 * bit c0) e r ∙ mod-eq_of_lt h.less) ∙ ap (λ n. n % e) total);
          others = frame_put _ _ (LEFT + 1) _ refl (frame_put _ _ RESULT _ refl (frame_put _ _ (RESULT + 1) _ refl (frame_put _ _ LEFT _ refl h.others)));
        };
        right_low = h.low;
        right_high = h.high;
      }))

  less_none : Begun → Less 0
  unfolding Less
  less_none g a x y n v i z c m j q h e s =
      let none : (x + 255) % 256 ≡ 0 = omega (arith, e) in
      let done : eqb ((x + 255) % 256) 0 ≡ true = eq-eqb _ _ none in
      after f 2 fits divide_part (divide_in f.code block) 1 (view a x y n v i z c (DIVIDE_AT + 187) (lo ∷ hi ∷ []) m text answers) _ _ 8 refl
      (rw done (last g _ _ _ _ _ _ _ _ m q (subst (λ j. Held j q a c m) (let t : j ≡ 8 = omega (arith, s) in t) h) none))

  less_more : (k : ℕ) → Next k → Less (suc k)
  unfolding Less Next
  less_more k go a x y n v i z c m j q h e s =
      let less : (x + 255) % 256 ≡ suc k = omega (arith, e, s) in
      let more : eqb ((x + 255) % 256) 0 ≡ false = ne_eqb _ _ (λ x. omega (arith, less, x)) in
      looser f _ _ _ [] (2 + (17 * k + 25)) (17 * suc k + 10) (omega arith) (λ w h. h)
      (after f 2 fits divide_part (divide_in f.code block) 1 (view a x y n v i z c (DIVIDE_AT + 187) (lo ∷ hi ∷ []) m text answers) _ _ (17 * k + 25) refl
      (rw more (go _ _ _ _ _ _ _ _ m j q h less (omega (arith, s)))))

  -- the divisor goes into the rest
  keep : (k : ℕ) → Less k → (a x y : ℕ) (n v i z : Bool) (m : ℕ → ℕ) (j q : ℕ)
      → Held j q ((a + 256 - (m (RIGHT + 1) + bit (not (nat_le (m RIGHT + 0) (m (LEFT + 1)))))) % 256)
      (nat_le (m (RIGHT + 1) + bit (not (nat_le (m RIGHT + 0) (m (LEFT + 1))))) a) (with_byte m (LEFT + 1) ((m (LEFT + 1) + 256 - (m RIGHT + 0)) % 256))
      → x ≡ suc k → j + k ≡ 8 → Goal (view a x y n v i z true (DIVIDE_AT + 177) (lo ∷ hi ∷ []) m text answers) (6 + (17 * k + 10))
  unfolding Less
  keep k go a x y n v i z m j q h e s =
      after f 2 fits divide_part (divide_in f.code block) 5 (view a x y n v i z true (DIVIDE_AT + 177) (lo ∷ hi ∷ []) m text answers) _ _ (17 * k + 10) refl
      (go _ _ _ _ _ _ _ _ _ j q h e s)

  turn : (k : ℕ) → Less k → Next k
  unfolding Less Next
  turn k go a x y n v i z c m j q h e s =
      let l0 = 2 * m LEFT % 256 + bit c in
      let r0 = 2 * m (LEFT + 1) % 256 + bit (eqb (m LEFT / 128 % 2) 1) in
      let r1 = 2 * a % 256 + bit (eqb (m (LEFT + 1) / 128 % 2) 1) in
      let w = with_byte (with_byte m LEFT l0) (LEFT + 1) r0 in
      let e' = word_in m0 RIGHT in
      let one = bit_small c in
      let small : a < 128 = omega (arith, h.less, most) in
      let rest : r0 + 256 * r1 ≡ 2 * (m (LEFT + 1) + 256 * a) + m LEFT / 128 = omega (
        arith,
        one_high (m LEFT) h.left.0,
        one_high (m (LEFT + 1)) h.left.1,
        h.left,
        small,
      ) in
      let small0 : r0 < 256 = omega (arith, one_high (m LEFT) h.left.0, h.left) in
      let small1 : r1 < 256 = omega (arith, one_high (m (LEFT + 1)) h.left.1, h.left, small) in
      let small2 : l0 < 256 = omega (arith, one) in
      let right : IsWord m RIGHT = (omega (arith, h.low, d), omega (arith, h.high, d)) in
      let same : word_in m RIGHT ≡ e' = omega (arith, h.low, h.high) in
      let wide : r0 + 256 * r1 < 65536 = omega (arith, small0, small1) in
      let others : Frame m0 w = frame_put _ _ (LEFT + 1) _ refl (frame_put _ _ LEFT _ refl h.others) in
      -- it does not go in
      let without : r0 + 256 * r1 < word_in m RIGHT → Held (suc j) (q + q) r1 false w = λ less. record {
        left = (small2, small0);
        low = h.low;
        high = h.high;
        others = others;
        less = subst (λ d. r0 + 256 * r1 < d) same less;
        few = few_less q (pow2 j) h.few;
        sum = sum_less (m LEFT) (m (LEFT + 1) + 256 * a) q e' (pow2 j) (2 * word_in m1 LEFT + bit c0) (bit c) l0 (r0 + 256 * r1) h.left.0 refl rest h.sum;
      } in
      -- it goes in
      let within : word_in m RIGHT ≤ r0 + 256 * r1 → Held (suc j) (q + q + 1) ((r1 + 256 - (m (RIGHT + 1) + bit (not (nat_le (m RIGHT + 0) r0)))) % 256)
      (nat_le (m (RIGHT + 1) + bit (not (nat_le (m RIGHT + 0) r0))) r1) (with_byte w (LEFT + 1) ((r0 + 256 - (m RIGHT + 0)) % 256)) = λ more.
      let t = compared r0 r1 (m RIGHT) (m (RIGHT + 1)) small0 small1 right.0 right.1 more in
      let rest' = taken_from (r0 + 256 * r1) e' _ wide (subst (λ d. d ≤ r0 + 256 * r1) same more)
      (subtracted r0 r1 (m RIGHT) (m (RIGHT + 1)) small0 small1 right.0 right.1 ∙ ap (λ d. (r0 + 256 * r1 + (65536 - d)) % 65536) same) in
      record {
        left = (small2, small_byte _);
        low = h.low;
        high = h.high;
        others = frame_put _ _ (LEFT + 1) _ refl others;
        less = rest_small _ e' (m (LEFT + 1) + 256 * a) (m LEFT) (rest' ∙ rest) h.less h.left.0;
        few = few_more q (pow2 j) h.few;
        sum = sum_more (m LEFT) (m (LEFT + 1) + 256 * a) q e' (pow2 j) (2 * word_in m1 LEFT + bit c0) (bit c) l0 _ _ h.left.0 refl (ap bit t) (rest' ∙ rest) h.sum;
      } in
      ⊎_elim
      -- the high bytes tell that it doesn't
      (λ below. let t : nat_le (m (RIGHT + 1)) r1 ≡ false = lt-leb _ _ below in
      looser f _ _ _ [] (5 + (17 * k + 10)) (17 * k + 25) (omega arith) (λ w h. h)
      (after f 2 fits divide_part (divide_in f.code block) 4 (view a x y n v i z c (DIVIDE_AT + 160) (lo ∷ hi ∷ []) m text answers) _ _ (17 * k + 10) refl
      (rw t (go r1 x y _ _ _ _ false w (suc j) (q + q) (without (omega (arith, below, small0))) e s))))
      (λ least. let t : nat_le (m (RIGHT + 1)) r1 ≡ true = le-leb _ _ least in
      ⊎_elim
      (λ equal. let tz : eqb ((r1 + 256 - m (RIGHT + 1)) % 256) 0 ≡ true = eq-eqb _ _ (omega (arith, equal, small1)) in
      ⊎_elim
      -- the high bytes are equal, and the low ones tell that it doesn't
      (λ below. let u : nat_le (m RIGHT) r0 ≡ false = lt-leb _ _ below in
      looser f _ _ _ [] (5 + (1 + (3 + (17 * k + 10)))) (17 * k + 25) (omega arith) (λ w h. h)
      (after f 2 fits divide_part (divide_in f.code block) 4 (view a x y n v i z c (DIVIDE_AT + 160) (lo ∷ hi ∷ []) m text answers) _ _ (1 + (3 + (17 * k + 10))) refl
      (rw t (after f 2 fits divide_part (divide_in f.code block) 0 (view r1 x y _ _ _ _ true (DIVIDE_AT + 169) (lo ∷ hi ∷ []) w text answers) _ _ (3 + (17 * k + 10)) refl
      (rw tz (after f 2 fits divide_part (divide_in f.code block) 2 (view r1 x y _ _ _ _ true (DIVIDE_AT + 171) (lo ∷ hi ∷ []) w text answers) _ _ (17 * k + 10) refl
      (rw u (go r1 x _ _ _ _ _ false w (suc j) (q + q) (without (omega (arith, below, equal))) e s))))))))
      (λ more. let u : nat_le (m RIGHT) r0 ≡ true = le-leb _ _ more in
      looser f _ _ _ [] (5 + (1 + (3 + (6 + (17 * k + 10))))) (17 * k + 25) (omega arith) (λ w h. h)
      (after f 2 fits divide_part (divide_in f.code block) 4 (view a x y n v i z c (DIVIDE_AT + 160) (lo ∷ hi ∷ []) m text answers) _ _ (1 + (3 + (6 + (17 * k + 10)))) refl
      (rw t (after f 2 fits divide_part (divide_in f.code block) 0 (view r1 x y _ _ _ _ true (DIVIDE_AT + 169) (lo ∷ hi ∷ []) w text answers) _ _ (3 + (6 + (17 * k + 10))) refl
      (rw tz (after f 2 fits divide_part (divide_in f.code block) 2 (view r1 x y _ _ _ _ true (DIVIDE_AT + 171) (lo ∷ hi ∷ []) w text answers) _ _ (6 + (17 * k + 10)) refl
      (rw u (keep k go r1 x _ _ _ _ _ w (suc j) (q + q + 1) (within (omega (arith, more, equal))) e s))))))))
      (cases_lt r0 (m RIGHT)))
      -- the high bytes tell that it does
      (λ apart. let tz : eqb ((r1 + 256 - m (RIGHT + 1)) % 256) 0 ≡ false = ne_eqb _ _ (λ z. apart (omega (arith, z, least, small1))) in
      looser f _ _ _ [] (5 + (1 + (6 + (17 * k + 10)))) (17 * k + 25) (omega arith) (λ w h. h)
      (after f 2 fits divide_part (divide_in f.code block) 4 (view a x y n v i z c (DIVIDE_AT + 160) (lo ∷ hi ∷ []) m text answers) _ _ (1 + (6 + (17 * k + 10))) refl
      (rw t (after f 2 fits divide_part (divide_in f.code block) 0 (view r1 x y _ _ _ _ true (DIVIDE_AT + 169) (lo ∷ hi ∷ []) w text answers) _ _ (6 + (17 * k + 10)) refl
      (rw tz (keep k go r1 x y _ _ _ _ w (suc j) (q + q + 1) (within (exceeds r0 r1 (m RIGHT) (m (RIGHT + 1)) least apart right.0)) e s))))))
      (cases_eq r1 (m (RIGHT + 1))))
      (cases_lt r1 (m (RIGHT + 1)))
    where
      exceeds : (r0 r1 k j : ℕ) → j ≤ r1 → (r1 ≡ j → ⊥) → k < 256 → k + 256 * j ≤ r0 + 256 * r1
      exceeds r0 r1 k j least apart small = omega (arith, least, apart, small)

  lesses : Begun → (k : ℕ) → Less k
  lesses g zero = less_none g
  lesses g (suc k) = less_more k (turn k (lesses g k))

  -- eight rounds divide LEFT by RIGHT
  pub wide : Begun → (a y : ℕ) (n v i z : Bool) → Goal (view a 0 y n v i z c0 (DIVIDE_AT + 157) (lo ∷ hi ∷ []) m1 text answers) 146
  unfolding Next
  wide g a y n v i z =
      after f 2 fits divide_part (divide_in f.code block) 1 (view a 0 y n v i z c0 (DIVIDE_AT + 157) (lo ∷ hi ∷ []) m1 text answers) _ _ 144 refl
      (turn 7 (lesses g 7) _ _ _ _ _ _ _ _ _ 0 0
      (record {
        left = g.left;
        low = g.low;
        high = g.high;
        others = g.others;
        less = omega (arith, g.less);
        few = omega arith;
        sum = omega arith;
      })
      refl refl)
