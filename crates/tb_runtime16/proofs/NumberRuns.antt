-- Number.
use Rattle.std.proofs.Common.{◌≡◌, ℕ, zero, suc, ◌+◌, ◌-◌, ◌*◌, ◌/◌, ◌%◌, ◌<◌, ◌≤◌, Bool, true, false}
use Rattle.std.proofs.Common.{if◌then◌else◌, List, [], ◌∷◌, ◌++◌, refl, sym, ap, ◌∙◌, subst, ⊎_elim, arith, eqb}
use Rattle.std.specs.Prelude.{nat_le, ◌==◌}
use Rattle.std.proofs.lemmas.Bool.{false≢true, ne_eqb, eq-eqb, le-leb, lt-leb, cases_eq, cases_lt}
use Rattle.tb_cpu.specs.Operands.{word_in}
use Rattle.tb_memmap.specs.Bytes.{with_byte}
use Rattle.tb_machine_reaching.specs.View.{Setup, View, Holds, Fits, Comes, view, back_at}
use Rattle.tb_machine_reaching.proofs.Comes.{after, looser}
use Rattle.tb_machine_reaching.proofs.Calls.{under}
use Rattle.tb_words.specs.Words.{is_negative, magnitude, negated, digits_before, digits_of}
use Rattle.tb_basic_meaning.specs.Control.{column_after}
use Rattle.tb_runtime16.specs.Addresses.{SEND_AT, NUMBER_AT}
use Rattle.tb_compiled_kept.specs.Addresses.{COLUMN, LEFT, RIGHT, RESULT}
use Rattle.tb_runtime16.specs.Block.{block_part}
use Rattle.tb_runtime16.specs.Laws.{WordAt, is_argument, nowhere, negate_left_at, unsigned_at, Back, Sent, Parted, NumberLaw}
use Rattle.tb_runtime16.proofs.InMemory.{bytes_of, holds_word, same_place, value}
use Rattle.tb_runtime16.proofs.Columns.{sent_then}
use Rattle.tb_runtime16.proofs.Within.{number_part, number_in}
use Rattle.tb_runtime16.proofs.Words.{sign_of, sign_small, sign_none, negated_size}
use Rattle.tb_runtime16.proofs.Frames.{Frame, frame_put, frame_then, skip}
use Rattle.tb_runtime16.proofs.Called.{calls, back_looser}
use Rattle.tb_runtime16.proofs.SendRuns.{plain_law}
use Rattle.tb_runtime16.proofs.DivideRuns.{Turned, turned, sign_case, negate_left}
use Rattle.tb_runtime16.proofs.UnsignedRuns.{unsigned_law}
use Rattle.tb_runtime16.proofs.DigitTexts.{digit_alone, two_digits, three_digits, of_one, of_two, of_three, by_hundred}

-- LEFT's low byte alone, where a digit's rest waits while the digit is sent
abbrev is_left : ℕ → Bool
is_left a = a == LEFT

left_argument : (a : ℕ) → is_argument a ≡ false → is_left a ≡ false
left_argument a e = ne_eqb a LEFT (λ x. false≢true (sym e ∙ ap is_argument x))

-- what changes LEFT's low byte at most changes arguments at most
sent_by_argument : (m w : ℕ → ℕ) (ds : List ℕ) → Sent is_left m ds w → Sent is_argument m ds w
sent_by_argument m w ds h = record { column = h.column; others = λ a s n. h.others a (left_argument a s) n }

-- arguments were changed, and then bytes were sent
sent_after : (m0 m w : ℕ → ℕ) (ds : List ℕ) → Frame m0 m → Sent is_argument m ds w → Sent is_argument m0 ds w
sent_after m0 m w ds k h = record { column = h.column ∙ ap (λ c. column_after c ds % 256) (k COLUMN refl); others = λ a s n. h.others a s n ∙ k a s }

-- ---- a number below 768
module _ (f : Setup) (fits : Fits f 4) (block : Holds block_part f.code) (lo hi : ℕ) (text answers : List ℕ) where
  abbrev own : List ℕ
  own = lo ∷ hi ∷ []

  abbrev Sends : (ℕ → ℕ) → List ℕ → View → Type 0
  Sends m ds = Back lo hi text answers (Sent is_left m ds)

  -- a digit is sent while the rest waits in LEFT, and then others
  digit : (l h d r x y : ℕ) (n v i z c : Bool) (m : ℕ → ℕ) (ds : List ℕ) (k : ℕ) → ((a x y : ℕ) (n v i z c : Bool) (u : ℕ → ℕ) → u LEFT ≡ r
      → Comes f (view a x y n v i z c (back_at l h) own u text answers) (Sends u ds) ds k)
      → Comes f (view (48 + d) x y n v i z c (SEND_AT + 9) (l ∷ h ∷ own) (with_byte m LEFT r) text answers) (Sends m ((48 + d) ∷ ds)) ((48 + d) ∷ ds) (3 + k)
  digit l h d r x y n v i z c m ds k next =
      calls f own (48 + d) x y n v i z c (SEND_AT + 9) l h (with_byte m LEFT r) text answers (Sent nowhere (with_byte m LEFT r) ((48 + d) ∷ []))
      (Sends m ((48 + d) ∷ ds)) ((48 + d) ∷ []) ds 3 k
      (plain_law (under f own) (omega (arith, fits)) block l h text answers (with_byte m LEFT r) (48 + d) x y n v i z c (λ e. omega (arith, e)))
      (λ a x y n v i z c u g. back_looser f _ lo hi text answers _ _ ds k k (omega arith) (next a x y n v i z c u (g.others LEFT refl (λ q. omega (arith, q))))
      (λ w s. sent_then is_left m u w ((48 + d) ∷ []) ds (record { column = g.column; others = λ p t q. g.others p refl q ∙ skip is_left m LEFT r p refl t }) s))

  -- ---- the last digit
  last : (a x y : ℕ) (n v i z c : Bool) (m : ℕ → ℕ) → a < 10
      → Comes f (view a x y n v i z c (NUMBER_AT + 88) own m text answers) (Sends m ((48 + a) ∷ [])) ((48 + a) ∷ []) 5
  last a x y n v i z c m few =
      after f 4 fits number_part (number_in f.code block) 1 (view a x y n v i z c (NUMBER_AT + 88) own m text answers) _ _ 3 refl
      (rw (digit_alone a few) (back_looser f _ lo hi text answers _ _ ((48 + a) ∷ []) 3 3 (omega arith)
      (plain_law f (omega (arith, fits)) block lo hi text answers m (48 + a) _ _ _ _ _ _ _ (λ e. omega (arith, e)))
      (λ u g. record { column = g.column; others = λ p s q. g.others p refl q })))

  -- ---- tens
  -- ten is taken from A, d times and once too often; X counts
  take_tens : (d r : ℕ) → r < 10 → (a x y : ℕ) (n v i z : Bool) (m : ℕ → ℕ) (q : View → Type 0) (t : List ℕ) (k b : ℕ) → a ≡ d * 10 + r → d < 10
      → x + suc d ≡ b → b < 256 → ((n v z : Bool) → Comes f (view (r + 246) b y n v i z false (NUMBER_AT + 78) own m text answers) q t k)
      → Comes f (view a x y n v i z true (NUMBER_AT + 73) own m text answers) q t (3 * d + (3 + k))
  take_tens zero r less a x y n v i z m q t k b e few is small next =
      let ends : nat_le 10 a ≡ false = lt-leb _ _ (omega (arith, e, less)) in
      let left : (a + 256 - 10) % 256 ≡ r + 246 = omega (arith, e, less) in
      let count : (x + 1) % 256 ≡ b = omega (arith, is, small) in
      looser f _ _ _ t (3 + k) (3 * 0 + (3 + k)) (omega arith) (λ w h. h)
      (after f 4 fits number_part (number_in f.code block) 2 (view a x y n v i z true (NUMBER_AT + 73) own m text answers) _ _ k refl
      (rw ends (rw left (rw count (next _ _ _)))))
  take_tens (suc d) r less a x y n v i z m q t k b e few is small next =
      let goes : nat_le 10 a ≡ true = le-leb _ _ (omega (arith, e)) in
      let left : (a + 256 - 10) % 256 ≡ d * 10 + r = omega (arith, e, less, few) in
      let count : (x + 1) % 256 + suc d ≡ b = omega (arith, is, small) in
      looser f _ _ _ t (3 + (3 * d + (3 + k))) (3 * suc d + (3 + k)) (omega arith) (λ w h. h)
      (after f 4 fits number_part (number_in f.code block) 2 (view a x y n v i z true (NUMBER_AT + 73) own m text answers) _ _ (3 * d + (3 + k)) refl
      (rw goes (take_tens d r less ((a + 256 - 10) % 256) ((x + 1) % 256) y _ _ _ _ m q t k b left (omega (arith, few)) count small next)))

  tens : (a x y : ℕ) (n v i z c : Bool) (m : ℕ → ℕ) → a < 100
      → Comes f (view a x y n v i z c (NUMBER_AT + 70) own m text answers) (Sends m (two_digits a)) (two_digits a) 45
  tens a x y n v i z c m few =
      let rest : (a % 10 + 246 + 10 + 0) % 256 ≡ a % 10 = omega arith in
      looser f _ _ _ (two_digits a) (2 + (3 * (a / 10) + (3 + (4 + (3 + (1 + 5)))))) 45 (omega (arith, few)) (λ w h. h)
      (after f 4 fits number_part (number_in f.code block) 1 (view a x y n v i z c (NUMBER_AT + 70) own m text answers) _ _ (3 * (a / 10) + (3 + (4 + (3 + (1 + 5))))) refl
      (take_tens (a / 10) (a % 10) (omega arith) a 47 y _ _ _ _ m _ (two_digits a) (4 + (3 + (1 + 5))) (48 + a / 10) (omega arith) (omega (arith, few)) (omega arith) (omega (arith, few))
      (λ n v z. after f 4 fits number_part (number_in f.code block) 3 (view (a % 10 + 246) (48 + a / 10) y n v i z false (NUMBER_AT + 78) own m text answers) _ _ (3 + (1 + 5)) refl
      (rw rest (digit ((NUMBER_AT + 85) % 256) ((NUMBER_AT + 85) / 256) (a / 10) (a % 10) _ _ _ _ _ _ _ m ((48 + a % 10) ∷ []) (1 + 5)
      (λ a' x y n v i z c u low. after f 4 fits number_part (number_in f.code block) 0 (view a' x y n v i z c (NUMBER_AT + 86) own u text answers) _ _ 5 refl
      (rw low (last (a % 10) _ _ _ _ _ _ _ u (omega arith)))))))))

  -- ---- hundreds
  -- a hundred is taken from the word in A and Y, d times and once too often; X counts
  take_hundreds : (d r : ℕ) → r < 100 → (a x y : ℕ) (n v i z : Bool) (m : ℕ → ℕ) (q : View → Type 0) (t : List ℕ) (k b : ℕ) → a < 256 → y < 4
      → a + 256 * y ≡ d * 100 + r → x + suc d ≡ b → b < 256
      → ((y : ℕ) (n v z : Bool) → Comes f (view (r + 156) b y n v i z false (NUMBER_AT + 60) own m text answers) q t k)
      → Comes f (view a x y n v i z true (NUMBER_AT + 52) own m text answers) q t (3 * d + 3 * y + (5 + k))
  take_hundreds zero r less a x y n v i z m q t k b byte high e is small next =
      let none : y ≡ 0 = omega (arith, e, less) in
      let ends : nat_le 100 a ≡ false = lt-leb _ _ (omega (arith, e, less)) in
      let left : (a + 256 - 100) % 256 ≡ r + 156 = omega (arith, e, none, less) in
      let count : (x + 1) % 256 ≡ b = omega (arith, is, small) in
      let below : eqb ((y + 255) % 256 / 128 % 2) 1 ≡ true = eq-eqb _ _ (omega (arith, none)) in
      looser f _ _ _ t (3 + (2 + k)) (3 * 0 + 3 * y + (5 + k)) (omega arith) (λ w h. h)
      (after f 4 fits number_part (number_in f.code block) 2 (view a x y n v i z true (NUMBER_AT + 52) own m text answers) _ _ (2 + k) refl
      (rw ends (after f 4 fits number_part (number_in f.code block) 1 (view _ _ y _ _ i _ _ (NUMBER_AT + 57) own m text answers) _ _ k refl
      (rw below (rw left (rw count (next _ _ _ _)))))))
  take_hundreds (suc d) r less a x y n v i z m q t k b byte high e is small next =
      ⊎_elim
      (λ low. let ends : nat_le 100 a ≡ false = lt-leb _ _ low in
      let one : (y + 255) % 256 ≡ y - 1 = omega (arith, high, e, low) in
      let some : 1 ≤ y = omega (arith, e, low) in
      let on : eqb ((y + 255) % 256 / 128 % 2) 1 ≡ false = ne_eqb _ _ (λ s. omega (arith, one, high, s)) in
      let left : (a + 256 - 100) % 256 + 256 * ((y + 255) % 256) ≡ d * 100 + r = omega (arith, one, some, low, e) in
      let count : (x + 1) % 256 + suc d ≡ b = omega (arith, is, small) in
      looser f _ _ _ t (3 + (2 + (1 + (3 * d + 3 * ((y + 255) % 256) + (5 + k))))) (3 * suc d + 3 * y + (5 + k)) (omega (arith, one, some)) (λ w h. h)
      (after f 4 fits number_part (number_in f.code block) 2 (view a x y n v i z true (NUMBER_AT + 52) own m text answers) _ _ (2 + (1 + (3 * d + 3 * ((y + 255) % 256) + (5 + k)))) refl
      (rw ends (after f 4 fits number_part (number_in f.code block) 1 (view _ _ y _ _ i _ _ (NUMBER_AT + 57) own m text answers) _ _ (1 + (3 * d + 3 * ((y + 255) % 256) + (5 + k))) refl
      (rw on (after f 4 fits number_part (number_in f.code block) 0 (view _ _ _ _ _ i _ _ (NUMBER_AT + 51) own m text answers) _ _ (3 * d + 3 * ((y + 255) % 256) + (5 + k)) refl
      (take_hundreds d r less ((a + 256 - 100) % 256) ((x + 1) % 256) ((y + 255) % 256) _ _ _ _ m q t k b (omega arith) (omega (arith, one, high)) left count small next)))))))
      (λ many. let goes : nat_le 100 a ≡ true = le-leb _ _ many in
      let left : (a + 256 - 100) % 256 + 256 * y ≡ d * 100 + r = omega (arith, many, byte, e) in
      let count : (x + 1) % 256 + suc d ≡ b = omega (arith, is, small) in
      looser f _ _ _ t (3 + (3 * d + 3 * y + (5 + k))) (3 * suc d + 3 * y + (5 + k)) (omega arith) (λ w h. h)
      (after f 4 fits number_part (number_in f.code block) 2 (view a x y n v i z true (NUMBER_AT + 52) own m text answers) _ _ (3 * d + 3 * y + (5 + k)) refl
      (rw goes (take_hundreds d r less ((a + 256 - 100) % 256) ((x + 1) % 256) y _ _ _ _ m q t k b (omega arith) high left count small next))))
      (cases_lt a 100)

  hundreds : (a x y : ℕ) (n v i z c : Bool) (m : ℕ → ℕ) (w : ℕ) → a < 256 → y < 4 → a + 256 * y ≡ w → w < 1000
      → Comes f (view a x y n v i z c (NUMBER_AT + 49) own m text answers) (Sends m (three_digits w)) (three_digits w) 96
  hundreds a x y n v i z c m w byte high e few =
      let d = w / 100 in
      let r = w % 100 in
      let rest : (w % 100 + 156 + 100 + 0) % 256 ≡ w % 100 = omega arith in
      looser f _ _ _ (three_digits w) (2 + (3 * d + 3 * y + (5 + (4 + (3 + (1 + 45)))))) 96 (omega (arith, few, high)) (λ w h. h)
      (after f 4 fits number_part (number_in f.code block) 1 (view a x y n v i z c (NUMBER_AT + 49) own m text answers) _ _ (3 * d + 3 * y + (5 + (4 + (3 + (1 + 45))))) refl
      (take_hundreds d r (omega arith) a 47 y _ _ _ _ m _ (three_digits w) (4 + (3 + (1 + 45))) (48 + d) byte high (omega (arith, e)) (omega arith) (omega (arith, few))
      (λ y n v z. after f 4 fits number_part (number_in f.code block) 3 (view (w % 100 + 156) (48 + w / 100) y n v i z false (NUMBER_AT + 60) own m text answers) _ _ (3 + (1 + 45)) refl
      (rw rest (digit ((NUMBER_AT + 67) % 256) ((NUMBER_AT + 67) / 256) d r _ _ _ _ _ _ _ m (two_digits r) (1 + 45)
      (λ a' x y n v i z c u low. after f 4 fits number_part (number_in f.code block) 0 (view a' x y n v i z c (NUMBER_AT + 68) own u text answers) _ _ 45 refl
      (rw low (tens r _ _ _ _ _ _ _ u (omega arith)))))))))

  -- ---- by the size of the number
  abbrev Spells : ℕ → (ℕ → ℕ) → ℕ → View → Type 0
  Spells w m k u = Comes f u (Sends m (digits_before 5 w [])) (digits_before 5 w []) k

  spelled : (w : ℕ) (m : ℕ → ℕ) (ds : List ℕ) (u : View) (k : ℕ) → ds ≡ digits_before 5 w [] → Comes f u (Sends m ds) ds k → Spells w m k u
  spelled w m ds u k e h = subst (λ ds. Comes f u (Sends m ds) ds k) e h

  -- a byte
  single : (a x y : ℕ) (n v i z c : Bool) (m : ℕ → ℕ) (w : ℕ) → a < 256 → y ≡ 0 → a ≡ w → Spells w m 100 (view a x y n v i z c (NUMBER_AT + 41) own m text answers)
  single a x y n v i z c m w byte none same =
      let told : digits_before 5 a [] ≡ digits_before 5 w [] = ap (λ w. digits_before 5 w []) same in
      ⊎_elim
      (λ one. let less : nat_le 10 a ≡ false = lt-leb _ _ one in
      spelled w m ((48 + a) ∷ []) _ 100 (of_one a one ∙ told)
      (looser f _ _ _ ((48 + a) ∷ []) (2 + 5) 100 (omega arith) (λ w h. h)
      (after f 4 fits number_part (number_in f.code block) 1 (view a x y n v i z c (NUMBER_AT + 41) own m text answers) _ _ 5 refl
      (rw less (last a x y _ _ _ _ _ m one)))))
      (λ more. let not_less : nat_le 10 a ≡ true = le-leb _ _ more in
      ⊎_elim
      (λ few. let less : nat_le 100 a ≡ false = lt-leb _ _ few in
      spelled w m (two_digits a) _ 100 (of_two a more few ∙ told)
      (looser f _ _ _ (two_digits a) (2 + (2 + 45)) 100 (omega arith) (λ w h. h)
      (after f 4 fits number_part (number_in f.code block) 1 (view a x y n v i z c (NUMBER_AT + 41) own m text answers) _ _ (2 + 45) refl
      (rw not_less (after f 4 fits number_part (number_in f.code block) 1 (view a x y _ v i _ _ (NUMBER_AT + 45) own m text answers) _ _ 45 refl
      (rw less (tens a x y _ _ _ _ _ m few)))))))
      (λ many. let not_below : nat_le 100 a ≡ true = le-leb _ _ many in
      spelled w m (three_digits a) _ 100 (of_three a many (omega (arith, byte)) ∙ told)
      (after f 4 fits number_part (number_in f.code block) 1 (view a x y n v i z c (NUMBER_AT + 41) own m text answers) _ _ (2 + 96) refl
      (rw not_less (after f 4 fits number_part (number_in f.code block) 1 (view a x y _ v i _ _ (NUMBER_AT + 45) own m text answers) _ _ 96 refl
      (rw not_below (hundreds a x y _ _ _ _ _ m a byte (omega (arith, none)) (omega (arith, none)) (omega (arith, byte))))))))
      (cases_lt a 100))
      (cases_lt a 10)

  small : (a x y : ℕ) (n v i z c : Bool) (m : ℕ → ℕ) (w : ℕ) → WordAt m LEFT w → w < 768
      → Spells w m 103 (view a x y n v i z c (NUMBER_AT + 12) own m text answers)
  small a x y n v i z c m w at few =
      let low : m LEFT < 256 = omega (arith, at.low) in
      ⊎_elim
      (λ none. let b : eqb (m (LEFT + 1)) 0 ≡ true = eq-eqb _ _ none in
      after f 4 fits number_part (number_in f.code block) 2 (view a x y n v i z c (NUMBER_AT + 12) own m text answers) _ _ 100 refl
      (rw b (single (m LEFT) x (m (LEFT + 1)) _ _ _ _ _ m w low none (omega (arith, none, at.low, at.high)))))
      (λ some. let b : eqb (m (LEFT + 1)) 0 ≡ false = ne_eqb _ _ some in
      let below : nat_le 3 (m (LEFT + 1)) ≡ false = lt-leb _ _ (omega (arith, few, at.high)) in
      let many : 100 ≤ w = omega (arith, some, at.high) in
      spelled w m (three_digits w) _ 103 (of_three w many (omega (arith, few)))
      (looser f _ _ _ (three_digits w) (3 + (2 + 96)) 103 (omega arith) (λ w h. h)
      (after f 4 fits number_part (number_in f.code block) 2 (view a x y n v i z c (NUMBER_AT + 12) own m text answers) _ _ (2 + 96) refl
      (rw b (after f 4 fits number_part (number_in f.code block) 1 (view (m LEFT) x (m (LEFT + 1)) _ v i _ c (NUMBER_AT + 18) own m text answers) _ _ 96 refl
      (rw below (hundreds (m LEFT) x (m (LEFT + 1)) _ _ _ _ _ m w low (omega (arith, few, at.high)) (omega (arith, at.low, at.high)) (omega (arith, few)))))))))
      (cases_eq (m (LEFT + 1)) 0)

-- ---- any number
module _ (f : Setup) (fits : Fits f 6) (block : Holds block_part f.code) (lo hi : ℕ) (text answers : List ℕ) where
  abbrev Tells : (ℕ → ℕ) → List ℕ → View → ℕ → Type 0
  Tells m ds u k = Comes f u (Back lo hi text answers (Sent is_argument m ds)) ds k

  -- after the division by 100: the quotient is sent, and then the rest
  divided : (a x y : ℕ) (n v i z c : Bool) (m u : ℕ → ℕ) (w : ℕ) → Frame m u → WordAt u LEFT (w / 100) → WordAt u RESULT (w % 100) → 768 ≤ w → w ≤ 32768
      → Tells m (digits_before 5 w []) (view a x y n v i z c (NUMBER_AT + 33) (lo ∷ hi ∷ []) u text answers) (1 + (103 + (2 + 45)))
  divided a x y n v i z c m u w k left right more most =
      let q = w / 100 in
      let r = w % 100 in
      let ds = digits_before 5 q [] in
      subst (λ t. Tells m t (view a x y n v i z c (NUMBER_AT + 33) (lo ∷ hi ∷ []) u text answers) (1 + (103 + (2 + 45)))) (by_hundred w (omega (arith, more)) (omega (arith, most)))
      (after f 6 fits number_part (number_in f.code block) 0 (view a x y n v i z c (NUMBER_AT + 33) (lo ∷ hi ∷ []) u text answers) _ _ (103 + (2 + 45)) refl
      (calls f (lo ∷ hi ∷ []) a x y n v i z c (NUMBER_AT + 12) ((NUMBER_AT + 35) % 256) ((NUMBER_AT + 35) / 256) u text answers (Sent is_left u ds) _ ds (two_digits r) 103 (2 + 45)
      (small (under f (lo ∷ hi ∷ [])) (omega (arith, fits)) block ((NUMBER_AT + 35) % 256) ((NUMBER_AT + 35) / 256) text answers a x y n v i z c u q left (omega (arith, most)))
      (λ a x y n v i z c t s.
      let low : t RESULT ≡ r = omega (arith, s.others RESULT refl (λ e. omega (arith, e)), right.low) in
      let plus : eqb (r / 128 % 2) 1 ≡ false = ne_eqb _ _ (λ e. omega (arith, e)) in
      after f 6 fits number_part (number_in f.code block) 1 (view a x y n v i z c (NUMBER_AT + 36) (lo ∷ hi ∷ []) t text answers) _ _ 45 refl
      (rw low (rw plus (back_looser f _ lo hi text answers _ _ (two_digits r) 45 45 (omega arith)
      (tens f (omega (arith, fits)) block lo hi text answers r _ _ _ _ _ _ _ t (omega arith))
      (λ e s'. sent_after m u e (ds ++ two_digits r) k (sent_then is_argument u t e ds (two_digits r) (sent_by_argument u t ds s) (sent_by_argument t e (two_digits r) s')))))))))

  -- 768 or more
  large : (a x y : ℕ) (n v i z c : Bool) (m : ℕ → ℕ) (w : ℕ) → WordAt m LEFT w → 768 ≤ w → w ≤ 32768
      → Tells m (digits_before 5 w []) (view a x y n v i z c (NUMBER_AT + 12) (lo ∷ hi ∷ []) m text answers) 317
  large a x y n v i z c m w at more most =
      let m1 = with_byte (with_byte m RIGHT 100) (RIGHT + 1) 0 in
      let some : eqb (m (LEFT + 1)) 0 ≡ false = ne_eqb _ _ (λ e. omega (arith, e, at.high, more)) in
      let above : nat_le 3 (m (LEFT + 1)) ≡ true = le-leb _ _ (omega (arith, at.high, more)) in
      let changed : Frame m m1 = frame_put m (with_byte m RIGHT 100) (RIGHT + 1) 0 refl (frame_put m m RIGHT 100 refl (λ a e. refl)) in
      let ds = digits_before 5 w [] in
      after f 6 fits number_part (number_in f.code block) 2 (view a x y n v i z c (NUMBER_AT + 12) (lo ∷ hi ∷ []) m text answers) _ _ (2 + (5 + (156 + (1 + (103 + (2 + 45)))))) refl
      (rw some (after f 6 fits number_part (number_in f.code block) 1 (view (m LEFT) x (m (LEFT + 1)) _ v i _ c (NUMBER_AT + 18) (lo ∷ hi ∷ []) m text answers) _ _ (5 + (156 + (1 + (103 + (2 + 45))))) refl
      (rw above (after f 6 fits number_part (number_in f.code block) 4 (view _ _ _ _ _ _ _ _ (NUMBER_AT + 22) (lo ∷ hi ∷ []) m text answers) _ _ (156 + (1 + (103 + (2 + 45)))) refl
      (calls f (lo ∷ hi ∷ []) _ _ _ _ _ _ _ _ unsigned_at ((NUMBER_AT + 32) % 256) ((NUMBER_AT + 32) / 256) m1 text answers (Parted m1 (w / 100) (w % 100)) _ [] ds 156 (1 + (103 + (2 + 45)))
      (unsigned_law (under f (lo ∷ hi ∷ [])) (omega (arith, fits)) block ((NUMBER_AT + 32) % 256) ((NUMBER_AT + 32) / 256) text answers m1 _ _ _ _ _ _ _ _ w 100 (same_place m m1 LEFT w at refl refl)
      (record { low = refl; high = refl; small = omega arith }) (omega arith) (omega arith))
      (λ a x y n v i z c u g. divided a x y n v i z c m u w (frame_then m m1 u changed g.parts.others) g.parts.left g.parts.rest more most))))))

  plain : (a x y : ℕ) (n v i z c : Bool) (m : ℕ → ℕ) (w : ℕ) → WordAt m LEFT w → w ≤ 32768
      → Tells m (digits_before 5 w []) (view a x y n v i z c (NUMBER_AT + 12) (lo ∷ hi ∷ []) m text answers) 317
  plain a x y n v i z c m w at most =
      ⊎_elim
      (λ few. back_looser f _ lo hi text answers _ _ (digits_before 5 w []) 103 317 (omega arith)
      (small f (omega (arith, fits)) block lo hi text answers a x y n v i z c m w at few)
      (λ u s. sent_by_argument m u (digits_before 5 w []) s))
      (λ more. large a x y n v i z c m w at more most)
      (cases_lt w 768)

  -- after the sign
  negative : (a x y : ℕ) (n v i z c : Bool) (m : ℕ → ℕ) (w : ℕ) → WordAt m LEFT w → is_negative w ≡ true
      → Tells m (digits_before 5 (magnitude w) []) (view a x y n v i z c (NUMBER_AT + 9) (lo ∷ hi ∷ []) m text answers) (1 + (9 + 317))
  negative a x y n v i z c m w at t =
      let ds = digits_before 5 (magnitude w) [] in
      let same : word_in m LEFT ≡ w = value m LEFT w at in
      let size : negated (word_in m LEFT) ≡ magnitude w = ap negated same ∙ negated_size w at.small t in
      let few : magnitude w ≤ 32768 = subst (λ s. s ≤ 32768) (negated_size w at.small t) (let s : negated w ≤ 32768 = omega (arith, sign_small w t, at.small) in s) in
      after f 6 fits number_part (number_in f.code block) 0 (view a x y n v i z c (NUMBER_AT + 9) (lo ∷ hi ∷ []) m text answers) _ _ (9 + 317) refl
      (calls f (lo ∷ hi ∷ []) a x y n v i z c negate_left_at ((NUMBER_AT + 11) % 256) ((NUMBER_AT + 11) / 256) m text answers _ _ [] ds 9 317
      (negate_left (under f (lo ∷ hi ∷ [])) (omega (arith, fits)) block ((NUMBER_AT + 11) % 256) ((NUMBER_AT + 11) / 256) text answers a x y n v i z c m
      (Turned m (negated (word_in m LEFT))) (turned m (bytes_of m LEFT w at)))
      (λ a x y n v i z c u g. back_looser f _ lo hi text answers _ _ ds 317 317 (omega arith)
      (plain a x y n v i z c u (magnitude w) (holds_word u LEFT (magnitude w) g.is_word (g.value ∙ size)) few)
      (λ e s. sent_after m u e ds g.others s)))

  minus : (a x y : ℕ) (n v i z c : Bool) (m : ℕ → ℕ) (w : ℕ) → WordAt m LEFT w → is_negative w ≡ true
      → Tells m (45 ∷ digits_before 5 (magnitude w) []) (view a x y n v i z c (NUMBER_AT + 4) (lo ∷ hi ∷ []) m text answers) (2 + (3 + (1 + (9 + 317))))
  minus a x y n v i z c m w at t =
      let ds = digits_before 5 (magnitude w) [] in
      after f 6 fits number_part (number_in f.code block) 1 (view a x y n v i z c (NUMBER_AT + 4) (lo ∷ hi ∷ []) m text answers) _ _ (3 + (1 + (9 + 317))) refl
      (calls f (lo ∷ hi ∷ []) 45 x y _ v i _ c (SEND_AT + 9) ((NUMBER_AT + 8) % 256) ((NUMBER_AT + 8) / 256) m text answers _ _ (45 ∷ []) ds 3 (1 + (9 + 317))
      (plain_law (under f (lo ∷ hi ∷ [])) (omega (arith, fits)) block ((NUMBER_AT + 8) % 256) ((NUMBER_AT + 8) / 256) text answers m 45 x y _ v i _ c (λ e. omega (arith, e)))
      (λ a x y n v i z c u g.
      let kept = same_place m u LEFT w at (g.others LEFT refl (λ e. omega (arith, e))) (g.others (LEFT + 1) refl (λ e. omega (arith, e))) in
      back_looser f _ lo hi text answers _ _ ds (1 + (9 + 317)) (1 + (9 + 317)) (omega arith) (negative a x y n v i z c u w kept t)
      (λ e s. sent_then is_argument m u e (45 ∷ []) ds (record { column = g.column; others = λ p s q. g.others p refl q }) s)))

-- Number's law, from the block's bytes
pub number_law : NumberLaw
number_law f fits block lo hi text answers m a x y n v i z c number p w =
    let q = bytes_of m LEFT number p in
    let same : word_in m LEFT ≡ number = value m LEFT number p in
    let s : eqb (m (LEFT + 1) / 128 % 2) 1 ≡ is_negative number = sign_of (m LEFT) (m (LEFT + 1)) q.0 q.1 ∙ ap is_negative same in
    let start = view a x y n v i z c NUMBER_AT (lo ∷ hi ∷ []) m text answers in
    let whole = λ (ds : List ℕ). Comes f start (Back lo hi text answers (Sent is_argument m ds)) ds 334 in
    ⊎_elim
    (λ t. let b : eqb (m (LEFT + 1) / 128 % 2) 1 ≡ true = s ∙ t in
    let d : digits_of number ≡ 45 ∷ digits_before 5 (magnitude number) [] = ap (λ b. if b then 45 ∷ digits_before 5 (magnitude number) [] else digits_before 5 number []) t in
    subst whole (sym d)
    (after f 6 fits number_part (number_in f.code block) 1 start _ _ (2 + (3 + (1 + (9 + 317)))) refl
    (rw b (minus f fits block lo hi text answers _ _ _ _ _ _ _ _ m number p t))))
    (λ t. let b : eqb (m (LEFT + 1) / 128 % 2) 1 ≡ false = s ∙ t in
    let d : digits_of number ≡ digits_before 5 number [] = ap (λ b. if b then 45 ∷ digits_before 5 (magnitude number) [] else digits_before 5 number []) t in
    subst whole (sym d)
    (looser f _ _ _ _ (2 + 317) 334 (omega arith) (λ w h. h)
    (after f 6 fits number_part (number_in f.code block) 1 start _ _ 317 refl
    (rw b (plain f fits block lo hi text answers _ _ _ _ _ _ _ _ m number p (omega (arith, sign_none number t)))))))
    (sign_case (is_negative number))
