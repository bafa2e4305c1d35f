-- Division without signs, inside Divide: by the byte at RIGHT if that is below 128, else by the word.
use Rattle.std.proofs.Common.{◌≡◌, ℕ, ◌+◌, ◌-◌, ◌/◌, ◌%◌, ◌<◌, ◌≤◌, Bool, true, false, List, [], ◌∷◌, refl, ⊎_elim, arith, eqb}
use Rattle.std.specs.Prelude.{nat_le}
use Rattle.std.proofs.lemmas.Bool.{ne_eqb, eq-eqb, le-leb, lt-leb, leb-true, leb-false, cases_eq, cases_lt}
use Rattle.tb_cpu.specs.Operands.{word_in}
use Rattle.tb_memmap.specs.Bytes.{with_byte}
use Rattle.tb_machine_reaching.specs.View.{Setup, Holds, Fits, Comes, view, View}
use Rattle.tb_machine_reaching.proofs.Comes.{after, looser}
use Rattle.tb_runtime16.specs.Addresses.{DIVIDE_AT}
use Rattle.tb_compiled_kept.specs.Addresses.{LEFT, RIGHT}
use Rattle.tb_runtime16.specs.Block.{block_part}
use Rattle.tb_runtime16.specs.Laws.{unsigned_at, Back, Parted, UnsignedLaw}
use Rattle.tb_runtime16.proofs.InMemory.{IsWord, bytes_of, of_word, value}
use Rattle.tb_runtime16.proofs.Within.{divide_part, divide_in}
use Rattle.tb_runtime16.proofs.WideRuns.{Begun, wide}
use Rattle.tb_runtime16.proofs.NarrowRuns.{by_low_byte, by_both_bytes}
use Rattle.tb_runtime16.proofs.Words.{small_byte}
use Rattle.tb_runtime16.proofs.Frames.{frame_put}

module _ (f : Setup) (fits : Fits f 4) (block : Holds block_part f.code) (lo hi : ℕ) (text answers : List ℕ) (m : ℕ → ℕ) (p : IsWord m LEFT)
    (q : IsWord m RIGHT) (some : 1 ≤ word_in m RIGHT) (most : word_in m RIGHT ≤ 32768) where
  abbrev Goal : View → ℕ → Type 0
  Goal v n = Comes f v (Back lo hi text answers (Parted m (word_in m LEFT / word_in m RIGHT) (word_in m LEFT % word_in m RIGHT))) [] n

  -- RIGHT is not below 128, and LEFT's high byte, as it is or less RIGHT, is the rest to begin with
  by_word : (a y : ℕ) (n v i z c : Bool) (m1 : ℕ → ℕ) → Begun f (omega (arith, fits)) block lo hi text answers m q most c m1
      → Goal (view a 0 y n v i z c (DIVIDE_AT + 157) (lo ∷ hi ∷ []) m1 text answers) 146
  by_word a y n v i z c m1 g = wide f (omega (arith, fits)) block lo hi text answers m q most c m1 g a y n v i z

  -- RIGHT is a byte of 128 or more
  large_right : (y : ℕ) (n v i z c : Bool) → m (RIGHT + 1) ≡ 0 → 128 ≤ m RIGHT → nat_le (m RIGHT) (m (LEFT + 1)) ≡ c
      → Goal (view (m (LEFT + 1)) 0 y n v i z c (DIVIDE_AT + 151) (lo ∷ hi ∷ []) m text answers) (3 + 146)
  large_right y n v i z false top many t =
      let less : m (LEFT + 1) < m RIGHT = leb-false (m RIGHT) (m (LEFT + 1)) t in
      looser f _ _ _ [] (1 + 146) (3 + 146) (omega arith) (λ w h. h)
      (after f 4 fits divide_part (divide_in f.code block) 0 (view (m (LEFT + 1)) 0 y n v i z false (DIVIDE_AT + 151) (lo ∷ hi ∷ []) m text answers) _ _ 146 refl
      (by_word _ _ _ _ _ _ false m
      (record { left = p; low = refl; high = refl; others = λ a e. refl; less = omega (arith, less); total = omega arith })))
  large_right y n v i z true top many t =
      let more : m RIGHT ≤ m (LEFT + 1) = leb-true (m RIGHT) (m (LEFT + 1)) t in
      let r = (m (LEFT + 1) + 256 - (m RIGHT + 0)) % 256 in
      let u : nat_le (m RIGHT + 0) (m (LEFT + 1)) ≡ true = le-leb _ _ (omega (arith, more)) in
      let rest : r + m RIGHT ≡ m (LEFT + 1) = omega (arith, more, p) in
      after f 4 fits divide_part (divide_in f.code block) 2 (view (m (LEFT + 1)) 0 y n v i z true (DIVIDE_AT + 151) (lo ∷ hi ∷ []) m text answers) _ _ 146 refl
      (rw u (by_word _ _ _ _ _ _ true (with_byte m (LEFT + 1) r)
      (record {
        left = (p.0, small_byte _);
        low = refl;
        high = refl;
        others = frame_put _ _ (LEFT + 1) _ refl (λ a e. refl);
        less = omega (arith, rest, many, p);
        total = omega (arith, rest, top);
      })))

  -- RIGHT is a byte below 128: LEFT's high byte against it
  small_right : (y : ℕ) (n v i z c : Bool) → m (RIGHT + 1) ≡ 0 → m RIGHT < 128 → nat_le (m RIGHT) (m (LEFT + 1)) ≡ c
      → Goal (view (m (LEFT + 1)) 0 y n v i z c (DIVIDE_AT + 80) (lo ∷ hi ∷ []) m text answers) (1 + 106)
  small_right y n v i z false top few t =
      looser f _ _ _ [] (1 + 50) (1 + 106) (omega arith) (λ w h. h)
      (after f 4 fits divide_part (divide_in f.code block) 0 (view (m (LEFT + 1)) 0 y n v i z false (DIVIDE_AT + 80) (lo ∷ hi ∷ []) m text answers) _ _ 50 refl
      (by_low_byte f fits block lo hi text answers m top few _ _ _ _ _ _ p (leb-false (m RIGHT) (m (LEFT + 1)) t)))
  small_right y n v i z true top few t =
      after f 4 fits divide_part (divide_in f.code block) 0 (view (m (LEFT + 1)) 0 y n v i z true (DIVIDE_AT + 80) (lo ∷ hi ∷ []) m text answers) _ _ 106 refl
      (by_both_bytes f fits block lo hi text answers m top few _ _ _ _ _ _ p (omega (arith, some, top)) (leb-true (m RIGHT) (m (LEFT + 1)) t))

  byte_right : (a y : ℕ) (n v i z c : Bool) → m (RIGHT + 1) ≡ 0 → Goal (view a 0 y n v i z c (DIVIDE_AT + 72) (lo ∷ hi ∷ []) m text answers) (4 + (3 + 146))
  byte_right a y n v i z c top =
      ⊎_elim
      (λ few. let b : eqb (m RIGHT / 128 % 2) 1 ≡ false = ne_eqb _ _ (λ e. omega (arith, few, e)) in
      looser f _ _ _ [] (4 + (1 + 106)) (4 + (3 + 146)) (omega arith) (λ w h. h)
      (after f 4 fits divide_part (divide_in f.code block) 3 (view a 0 y n v i z c (DIVIDE_AT + 72) (lo ∷ hi ∷ []) m text answers) _ _ (1 + 106) refl
      (rw b (small_right _ _ _ _ _ _ top few refl))))
      (λ many. let b : eqb (m RIGHT / 128 % 2) 1 ≡ true = eq-eqb _ _ (omega (arith, many, q.0)) in
      after f 4 fits divide_part (divide_in f.code block) 3 (view a 0 y n v i z c (DIVIDE_AT + 72) (lo ∷ hi ∷ []) m text answers) _ _ (3 + 146) refl
      (rw b (large_right _ _ _ _ _ _ top many refl)))
      (cases_lt (m RIGHT) 128)

  whole : (a x y : ℕ) (n v i z c : Bool) → Goal (view a x y n v i z c unsigned_at (lo ∷ hi ∷ []) m text answers) 156
  whole a x y n v i z c =
      ⊎_elim
      (λ none. let b : eqb ((0 + 256 - m (RIGHT + 1)) % 256) 0 ≡ true = eq-eqb _ _ (omega (arith, none)) in
      after f 4 fits divide_part (divide_in f.code block) 2 (view a x y n v i z c unsigned_at (lo ∷ hi ∷ []) m text answers) _ _ (4 + (3 + 146)) refl
      (rw b (byte_right _ _ _ _ _ _ _ none)))
      (λ any. let b : eqb ((0 + 256 - m (RIGHT + 1)) % 256) 0 ≡ false = ne_eqb _ _ (λ e. any (omega (arith, e, q.1))) in
      let t : nat_le (m (RIGHT + 1)) 0 ≡ false = lt-leb _ _ (omega (arith, any)) in
      looser f _ _ _ [] (3 + 146) 156 (omega arith) (λ w h. h)
      (after f 4 fits divide_part (divide_in f.code block) 2 (view a x y n v i z c unsigned_at (lo ∷ hi ∷ []) m text answers) _ _ 146 refl
      (rw b (rw t (by_word _ _ _ _ _ _ false m
      (record { left = p; low = refl; high = refl; others = λ a e. refl; less = omega (arith, any, p); total = omega arith }))))))
      (cases_eq (m (RIGHT + 1)) 0)

-- the law of the division without signs, from the block's bytes
pub unsigned_law : UnsignedLaw
unsigned_law f fits block lo hi text answers m a x y n v i z c left right p q some most =
    let start = view a x y n v i z c unsigned_at (lo ∷ hi ∷ []) m text answers in
    let same = value m RIGHT right q in
    of_word (λ l. Comes f start (Back lo hi text answers (Parted m (l / right) (l % right))) [] 156) m LEFT left p
    (of_word (λ r. Comes f start (Back lo hi text answers (Parted m (word_in m LEFT / r) (word_in m LEFT % r))) [] 156) m RIGHT right q
    (whole f fits block lo hi text answers m (bytes_of m LEFT left p) (bytes_of m RIGHT right q) (omega (arith, same, some)) (omega (arith, same, most)) a x y n v i z c))
