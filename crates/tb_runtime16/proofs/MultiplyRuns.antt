-- Multiply.
use Rattle.std.proofs.Common.{◌≡◌, ◌≢◌, ℕ, zero, suc, ◌+◌, ◌-◌, ◌*◌, ◌/◌, ◌%◌, ◌<◌, ◌≤◌, Bool, true, false, List}
use Rattle.std.proofs.Common.{[], ◌∷◌, refl, sym, ap, ◌∙◌, subst, ⊎_elim, arith, eqb}
use Rattle.std.proofs.lemmas.Bool.{ne_eqb, eq-eqb, cases_eq, cases_lt}
use Rattle.tb_cpu.specs.Operands.{word_in}
use Rattle.tb_cpu.specs.Effects.{bit}
use Rattle.tb_words.specs.Words.{word}
use Rattle.tb_memmap.specs.Bytes.{with_byte}
use Rattle.tb_machine_reaching.specs.View.{Setup, Holds, Fits, Comes, view}
use Rattle.tb_machine_reaching.proofs.Comes.{after, ending, looser}
use Rattle.tb_runtime16.specs.Addresses.{MULTIPLY_AT}
use Rattle.tb_compiled_kept.specs.Addresses.{LEFT, RIGHT, RESULT}
use Rattle.tb_runtime16.specs.Block.{block_part}
use Rattle.tb_runtime16.specs.Laws.{is_argument, Back, Gives, MultiplyLaw}
use Rattle.tb_runtime16.proofs.InMemory.{IsWord, bytes_of, holds_word, of_word}
use Rattle.tb_runtime16.proofs.Within.{multiply_part, multiply_in}
use Rattle.tb_runtime16.proofs.Words.{halved, doubled, added, turn_even, turn_odd, turn_double}
use Rattle.tb_words.proofs.Powers.{pow2}
use Rattle.tb_runtime16.proofs.Frames.{Frame, frame_put, leaves_now}

pow2_rises : (k j : ℕ) → pow2 k ≤ pow2 (k + j)
pow2_rises k zero = let e : k ≡ k + 0 = omega arith in subst (λ n. pow2 k ≤ pow2 n) e (omega arith)
pow2_rises k (suc j) =
    let e : suc (k + j) ≡ k + suc j = omega arith in
    let s : pow2 (suc (k + j)) ≡ pow2 (k + j) + pow2 (k + j) = refl in
    subst (λ n. pow2 k ≤ pow2 n) e (omega (arith, s, pow2_rises k j))

byte_bits : (k : ℕ) → k < 8 → pow2 k ≤ 128
byte_bits k h =
    let e : k + (7 - k) ≡ 7 = omega (arith, h) in
    let s : pow2 (k + (7 - k)) ≡ 128 = ap pow2 e in
    omega (arith, pow2_rises k (7 - k), s)

-- how many Go events k rounds take at most: 14 each, and two more if RIGHT's high byte is looked at
abbrev rounds : ℕ → ℕ
rounds k = 14 * k + 2 * (k - 8)

module _ (f : Setup) (fits : Fits f 2) (block : Holds block_part f.code) (lo hi : ℕ) (text answers : List ℕ) (m0 : ℕ → ℕ) where
  record Held (m : ℕ → ℕ) : Type 0 where
    p : IsWord m LEFT
    q : IsWord m RIGHT
    others : Frame m0 m

  -- after the sum, with the low byte of the result in A and the high one in Y: RIGHT has k bits left
  Skip : ℕ → Type 0
  Skip k = (a x y : ℕ) (n v i z c : Bool) (m : ℕ → ℕ) (product : ℕ) → a < 256 → y < 256 → Held m → word_in m RIGHT < pow2 k
      → product ≡ (a + 256 * y + 2 * word_in m LEFT * word_in m RIGHT) % 65536
      → Comes f (view a x y n v i z c (MULTIPLY_AT + 18) (lo ∷ hi ∷ []) m text answers) (Back lo hi text answers (Gives is_argument m0 product)) [] (rounds k + 9)

  Turn : ℕ → Type 0
  Turn k = (a x y : ℕ) (n v i z c : Bool) (m : ℕ → ℕ) (product : ℕ) → a < 256 → y < 256 → Held m → word_in m RIGHT < pow2 k + pow2 k
      → product ≡ (a + 256 * y + word_in m LEFT * word_in m RIGHT) % 65536
      → Comes f (view a x y n v i z c (MULTIPLY_AT + 3) (lo ∷ hi ∷ []) m text answers) (Back lo hi text answers (Gives is_argument m0 product)) [] (rounds k + 19)

  last : (a x y : ℕ) (n v i z c : Bool) (m : ℕ → ℕ) (product : ℕ) → a < 256 → y < 256 → Held m → product ≡ a + 256 * y
      → Comes f (view a x y n v i z c (MULTIPLY_AT + 30) (lo ∷ hi ∷ []) m text answers) (Back lo hi text answers (Gives is_argument m0 product)) [] 3
  last a x y n v i z c m product small least h e = ending f 2 fits multiply_part (multiply_in f.code block) 2 (view a x y n v i z c (MULTIPLY_AT + 30) (lo ∷ hi ∷ []) m text answers) _ refl
      (leaves_now refl (record { result = holds_word _ RESULT product (small, least) (sym e); others = frame_put _ _ (RESULT + 1) _ refl (frame_put _ _ RESULT _ refl h.others) }))

  doubled_held : (m : ℕ → ℕ) → Held m → Held (with_byte (with_byte m LEFT (2 * m LEFT % 256)) (LEFT + 1) (2 * m (LEFT + 1) % 256 + bit (eqb (m LEFT / 128 % 2) 1)))
  doubled_held m h = record {
    p = (omega arith, omega (arith, doubled (m LEFT) (m (LEFT + 1)) h.p.0 h.p.1));
    q = h.q;
    others = frame_put _ _ (LEFT + 1) _ refl (frame_put _ _ LEFT _ refl h.others);
  }

  -- RIGHT's low byte is 0: its high byte is looked at
  high_none : (a x y : ℕ) (n v i z c : Bool) (m : ℕ → ℕ) (product : ℕ) → a < 256 → y < 256 → Held m → m (RIGHT + 1) ≡ 0 → product ≡ a + 256 * y
      → Comes f (view a x y n v i z c (MULTIPLY_AT + 26) (lo ∷ hi ∷ []) m text answers) (Back lo hi text answers (Gives is_argument m0 product)) [] 5
  high_none a x y n v i z c m product small least h none e =
      let t : eqb (m (RIGHT + 1)) 0 ≡ true = eq-eqb _ _ none in
      after f 2 fits multiply_part (multiply_in f.code block) 1 (view a x y n v i z c (MULTIPLY_AT + 26) (lo ∷ hi ∷ []) m text answers) _ _ 3 refl
      (rw t (last _ _ _ _ _ _ _ _ m product small least h e))

  high_more : (k : ℕ) → Turn k → (a x y : ℕ) (n v i z c : Bool) (m : ℕ → ℕ) (product : ℕ) → a < 256 → y < 256 → Held m → m (RIGHT + 1) ≢ 0 → word_in m RIGHT
      < pow2 k + pow2 k → product ≡ (a + 256 * y + word_in m LEFT * word_in m RIGHT) % 65536
      → Comes f (view a x y n v i z c (MULTIPLY_AT + 26) (lo ∷ hi ∷ []) m text answers) (Back lo hi text answers (Gives is_argument m0 product)) [] (2 + (rounds k + 19))
  unfolding Turn
  high_more k go a x y n v i z c m product small least h some bound e =
      let t : eqb (m (RIGHT + 1)) 0 ≡ false = ne_eqb _ _ some in
      after f 2 fits multiply_part (multiply_in f.code block) 1 (view a x y n v i z c (MULTIPLY_AT + 26) (lo ∷ hi ∷ []) m text answers) _ _ (rounds k + 19) refl
      (rw t (go _ _ _ _ _ _ _ _ m product small least h bound e))

  -- LEFT is doubled, and nothing of RIGHT is left
  stops : (a x y : ℕ) (n v i z c : Bool) (m : ℕ → ℕ) (product : ℕ) → a < 256 → y < 256 → Held m → m RIGHT ≡ 0 → m (RIGHT + 1) ≡ 0
      → product ≡ (a + 256 * y + 2 * word_in m LEFT * word_in m RIGHT) % 65536
      → Comes f (view a x y n v i z c (MULTIPLY_AT + 18) (lo ∷ hi ∷ []) m text answers) (Back lo hi text answers (Gives is_argument m0 product)) [] 9
  stops a x y n v i z c m product small least h low high e =
      let t : eqb (m RIGHT) 0 ≡ true = eq-eqb _ _ low in
      let none : word_in m RIGHT ≡ 0 = omega (arith, low, high) in
      let total : a + 256 * y + 2 * word_in m LEFT * word_in m RIGHT ≡ a + 256 * y = ap (λ q. a + 256 * y + 2 * word_in m LEFT * q) none ∙ omega arith in
      after f 2 fits multiply_part (multiply_in f.code block) 3 (view a x y n v i z c (MULTIPLY_AT + 18) (lo ∷ hi ∷ []) m text answers) _ _ 5 refl
      (rw t (high_none _ _ _ _ _ _ _ _ _ product small least (doubled_held m h) high (e ∙ omega (arith, total, small, least))))

  skip_none : Skip 0
  unfolding Skip
  skip_none a x y n v i z c m product small least h bound e = stops a x y n v i z c m product small least h (omega (arith, bound)) (omega (arith, bound)) e

  -- the product with LEFT doubled
  twice : (a y : ℕ) (m : ℕ → ℕ) (product : ℕ) → Held m → product ≡ (a + 256 * y + 2 * word_in m LEFT * word_in m RIGHT) % 65536
      → product ≡ (a + 256 * y + (2 * m LEFT % 256 + 256 * (2 * m (LEFT + 1) % 256 + bit (eqb (m LEFT / 128 % 2) 1))) * word_in m RIGHT) % 65536
  twice a y m product h e = e ∙ sym (turn_double (a + 256 * y) (word_in m LEFT) (word_in m RIGHT))
      ∙ ap (λ x. (a + 256 * y + x * word_in m RIGHT) % 65536) (sym (doubled (m LEFT) (m (LEFT + 1)) h.p.0 h.p.1))

  goes_on : (k : ℕ) → Turn k → (a x y : ℕ) (n v i z c : Bool) (m : ℕ → ℕ) (product : ℕ) → a < 256 → y < 256 → Held m → m RIGHT ≢ 0 → word_in m RIGHT
      < pow2 k + pow2 k → product ≡ (a + 256 * y + 2 * word_in m LEFT * word_in m RIGHT) % 65536
      → Comes f (view a x y n v i z c (MULTIPLY_AT + 18) (lo ∷ hi ∷ []) m text answers) (Back lo hi text answers (Gives is_argument m0 product)) [] (4 + (rounds k + 19))
  unfolding Turn
  goes_on k go a x y n v i z c m product small least h some bound e =
      let t : eqb (m RIGHT) 0 ≡ false = ne_eqb _ _ some in
      after f 2 fits multiply_part (multiply_in f.code block) 3 (view a x y n v i z c (MULTIPLY_AT + 18) (lo ∷ hi ∷ []) m text answers) _ _ (rounds k + 19) refl
      (rw t (go _ _ _ _ _ _ _ _ _ product small least (doubled_held m h) bound (twice a y m product h e)))

  goes_high : (k : ℕ) → Turn k → (a x y : ℕ) (n v i z c : Bool) (m : ℕ → ℕ) (product : ℕ) → a < 256 → y < 256 → Held m → m RIGHT ≡ 0 → m (RIGHT + 1) ≢ 0
      → word_in m RIGHT < pow2 k + pow2 k → product ≡ (a + 256 * y + 2 * word_in m LEFT * word_in m RIGHT) % 65536
      → Comes f (view a x y n v i z c (MULTIPLY_AT + 18) (lo ∷ hi ∷ []) m text answers) (Back lo hi text answers (Gives is_argument m0 product)) [] (4 + (2 + (rounds k + 19)))
  goes_high k go a x y n v i z c m product small least h low some bound e =
      let t : eqb (m RIGHT) 0 ≡ true = eq-eqb _ _ low in
      after f 2 fits multiply_part (multiply_in f.code block) 3 (view a x y n v i z c (MULTIPLY_AT + 18) (lo ∷ hi ∷ []) m text answers) _ _ (2 + (rounds k + 19)) refl
      (rw t (high_more k go _ _ _ _ _ _ _ _ _ product small least (doubled_held m h) some bound (twice a y m product h e)))

  skip_more : (k : ℕ) → Turn k → Skip (suc k)
  unfolding Skip
  skip_more k go a x y n v i z c m product small least h bound e =
      ⊎_elim
      (λ low. ⊎_elim
      (λ high. looser f _ _ _ [] 9 (rounds (suc k) + 9) (omega arith) (λ w h. h) (stops a x y n v i z c m product small least h low high e))
      (λ some. ⊎_elim
      (λ few. let none : m (RIGHT + 1) ≡ 0 = omega (arith, bound, byte_bits k few) in absurd (some none))
      (λ many. looser f _ _ _ [] (4 + (2 + (rounds k + 19))) (rounds (suc k) + 9) (omega (arith, many)) (λ w h. h) (goes_high k go a x y n v i z c m product small least h low some bound e))
      (cases_lt k 8))
      (cases_eq (m (RIGHT + 1)) 0))
      (λ some. looser f _ _ _ [] (4 + (rounds k + 19)) (rounds (suc k) + 9) (omega arith) (λ w h. h) (goes_on k go a x y n v i z c m product small least h some bound e))
      (cases_eq (m RIGHT) 0)

  -- the result and LEFT
  sum : (k : ℕ) → Skip k → (a x y : ℕ) (n v i z c : Bool) (m : ℕ → ℕ) (product : ℕ) → a < 256 → y < 256 → Held m → word_in m RIGHT < pow2 k
      → product ≡ ((a + 256 * y + word_in m LEFT) % 65536 + 2 * word_in m LEFT * word_in m RIGHT) % 65536
      → Comes f (view a x y n v i z c (MULTIPLY_AT + 9) (lo ∷ hi ∷ []) m text answers) (Back lo hi text answers (Gives is_argument m0 product)) [] (7 + (rounds k + 9))
  unfolding Skip
  sum k go a x y n v i z c m product small least h bound e =
      let s = added a y (m LEFT) (m (LEFT + 1)) small least h.p.0 h.p.1 in
      after f 2 fits multiply_part (multiply_in f.code block) 6 (view a x y n v i z c (MULTIPLY_AT + 9) (lo ∷ hi ∷ []) m text answers) _ _ (rounds k + 9) refl
      (go _ _ _ _ _ _ _ _ _ product (omega arith) (omega arith) h
      bound (e ∙ ap (λ x. (x + 2 * word_in m LEFT * word_in m RIGHT) % 65536) (sym s)))

  turn : (k : ℕ) → Skip k → Turn k
  unfolding Skip Turn
  turn k go a x y n v i z c m product small least h bound e =
      let half = halved (m RIGHT) (m (RIGHT + 1)) h.q.0 h.q.1 in
      let less : m RIGHT / 2 + 128 * bit (eqb (m (RIGHT + 1) / 1 % 2) 1) + 256 * (m (RIGHT + 1) / 2) < pow2 k = omega (arith, half) in
      let shifted : Held (with_byte (with_byte m (RIGHT + 1) (m (RIGHT + 1) / 2)) RIGHT (m RIGHT / 2 + 128 * bit (eqb (m (RIGHT + 1) / 1 % 2) 1))) =
      record { p = h.p; q = (omega (arith, half, h.q.0, h.q.1), omega (arith, h.q.1)); others = frame_put _ _ RIGHT _ refl (frame_put _ _ (RIGHT + 1) _ refl h.others) } in
      ⊎_elim
      (λ odd. let b : eqb (m RIGHT / 1 % 2) 1 ≡ true = eq-eqb _ _ (omega (arith, odd)) in
      looser f _ _ _ [] (3 + (7 + (rounds k + 9))) (rounds k + 19) (omega arith) (λ w h. h)
      (after f 2 fits multiply_part (multiply_in f.code block) 2 (view a x y n v i z c (MULTIPLY_AT + 3) (lo ∷ hi ∷ []) m text answers) _ _ (7 + (rounds k + 9)) refl
      (rw b (sum k go _ _ _ _ _ _ _ _ _ product small least shifted less
      (e ∙ sym (turn_odd (a + 256 * y) (word_in m LEFT) (word_in m RIGHT) (omega arith))
      ∙ ap (λ q. ((a + 256 * y + word_in m LEFT) % 65536 + 2 * word_in m LEFT * q) % 65536) (sym half))))))
      (λ even. let b : eqb (m RIGHT / 1 % 2) 1 ≡ false = ne_eqb _ _ (λ h. even (omega (arith, h))) in
      looser f _ _ _ [] (3 + (rounds k + 9)) (rounds k + 19) (omega arith) (λ w h. h)
      (after f 2 fits multiply_part (multiply_in f.code block) 2 (view a x y n v i z c (MULTIPLY_AT + 3) (lo ∷ hi ∷ []) m text answers) _ _ (rounds k + 9) refl
      (rw b (go _ _ _ _ _ _ _ _ _ product small least shifted less
      (e ∙ sym (turn_even (a + 256 * y) (word_in m LEFT) (word_in m RIGHT) (omega arith)) ∙ ap (λ q. (a + 256 * y + 2 * word_in m LEFT * q) % 65536) (sym half))))))
      (cases_eq (m RIGHT % 2) 1)

  skips : (k : ℕ) → Skip k
  skips zero = skip_none
  skips (suc k) = skip_more k (turn k (skips k))

  whole : (a x y : ℕ) (n v i z c : Bool) → IsWord m0 LEFT → IsWord m0 RIGHT
      → Comes f (view a x y n v i z c MULTIPLY_AT (lo ∷ hi ∷ []) m0 text answers)
      (Back lo hi text answers (Gives is_argument m0 ((word_in m0 LEFT * word_in m0 RIGHT) % 65536))) [] 245
  unfolding Turn
  whole a x y n v i z c p q =
      looser f _ _ _ [] (2 + 243) 245 (omega arith) (λ w h. h)
      (after f 2 fits multiply_part (multiply_in f.code block) 1 (view a x y n v i z c MULTIPLY_AT (lo ∷ hi ∷ []) m0 text answers) _ _ 243 refl
      (turn 15 (skips 15) _ _ _ _ _ _ _ _ _ ((word_in m0 LEFT * word_in m0 RIGHT) % 65536) (omega arith) (omega arith)
      (record { p = p; q = q; others = λ a e. refl })
      (omega (arith, p, q)) (let z : 0 + 256 * 0 + word_in m0 LEFT * word_in m0 RIGHT ≡ word_in m0 LEFT * word_in m0 RIGHT = omega arith in ap (λ x. x % 65536) (sym z))))

-- Multiply's law, from the block's bytes
pub multiply_law : MultiplyLaw
multiply_law f fits block lo hi text answers m a x y n v i z c left right p q =
    let start = view a x y n v i z c MULTIPLY_AT (lo ∷ hi ∷ []) m text answers in
    of_word (λ l. Comes f start (Back lo hi text answers (Gives is_argument m (word (l * right)))) [] 245) m LEFT left p
    (of_word (λ r. Comes f start (Back lo hi text answers (Gives is_argument m (word (word_in m LEFT * r)))) [] 245) m RIGHT right q
    (whole f fits block lo hi text answers m a x y n v i z c (bytes_of m LEFT left p) (bytes_of m RIGHT right q)))
