-- Input.
use Rattle.std.proofs.Common.{◌≡◌, ◌≢◌, ℕ, ◌+◌, ◌-◌, ◌*◌, ◌%◌, ◌/◌, ◌<◌, ◌≤◌, Bool, true, false, ◌&&◌, ◌||◌}
use Rattle.std.proofs.Common.{List, [], ◌∷◌, ◌++◌, length, refl, sym, ap, ◌∙◌, subst, ⊎_elim, inl, inr, ◌⊎◌, arith, eqb, leb}
use Rattle.std.proofs.Common.{not, if◌then◌else◌, length-append}
use Rattle.std.proofs.lemmas.Bool.{ne_eqb, eq-eqb, cases_eq, cases_lt, lt-leb, le-leb, false≢true, and_left, and_right}
use Rattle.std.specs.Prelude.{nat_lt}
use Rattle.tb_cpu.specs.Operands.{word_in}
use Rattle.tb_words.specs.Words.{negated}
use Rattle.tb_memmap.specs.Bytes.{with_byte}
use Rattle.tb_kernal.specs.declared.rom.Service.TheVariants.{Chrin}
use Rattle.tb_machine_reaching.specs.View.{View, Setup, Holds, Fits, Comes, view, back_at}
use Rattle.tb_machine_reaching.specs.Start.{IsHome}
use Rattle.tb_machine_reaching.proofs.Comes.{looser}
use Rattle.tb_machine_reaching.proofs.Services.{serving}
use Rattle.tb_machine_reaching.proofs.Calls.{framed, under}
use Rattle.tb_basic_meaning.specs.Control.{column_after, fault_text}
use Rattle.tb_basic_meaning.specs.Input.{Reading, Nothing, Sign, Digits, Turn, Got, Bad, with_digit, number_end, signed_turn, turn}
use Rattle.tb_runtime16.specs.Addresses.{INPUT_AT, SEND_AT}
use Rattle.tb_compiled_kept.specs.Addresses.{COLUMN, LEFT, RIGHT, RESULT, HOME_S, LINE, OPEN}
use Rattle.tb_runtime16.specs.Block.{block_part}
use Rattle.tb_runtime16.specs.Ends.{Entered}
use Rattle.tb_runtime16.specs.Input.{is_changed, turn_sends, Ended, InputLaw}
use Rattle.tb_runtime16.specs.Laws.{WordAt, Changes, Sent, nowhere, negate_left_at}
use Rattle.tb_opcodes.specs.Bytes.{AreBytes}
use Rattle.tb_cpu.specs.Effects.{bit}
use Rattle.tb_runtime16.proofs.Words.{small_byte, taken_from_zero, borrow}
use Rattle.tb_runtime16.proofs.Tens.{high_twice, five_low, ten_low, ten_high, times_ten}
use Rattle.tb_runtime16.proofs.Frames.{changes_put, leaves_now}
use Rattle.tb_runtime16.proofs.InMemory.{IsWord, holds_word, same_place}
use Rattle.tb_runtime16.proofs.Within.{divide_part, divide_in, input_part, input_in}
use Rattle.tb_runtime16.proofs.Called.{after_on, calls, ending_on}
use Rattle.tb_runtime16.proofs.DivideRuns.{negated_left}
use Rattle.tb_runtime16.proofs.SendRuns.{send_law}
use Rattle.tb_runtime16.proofs.FaultRuns.{fault_law}

-- a comparison of bytes
abbrev compares_same : ℕ → ℕ → Bool
compares_same b k = eqb ((b + 256 - k) % 256) 0

other_byte : (b k : ℕ) → b < 256 → k < 256 → b ≢ k → compares_same b k ≡ false
other_byte b k p q n = ne_eqb _ _ (λ h. n (omega (arith, p, q, h)))

-- a call of Send, and then a law
saying : (f : Setup) (own : List ℕ) → Fits (under f own) 2 → Holds block_part f.code → (lo hi : ℕ) (text answers : List ℕ) (m : ℕ → ℕ) (a x y : ℕ)
    (n v i z c : Bool) → a < 256 → (q : View → Type 0) (u : List ℕ) (k : ℕ) → ((a' x y : ℕ) (n v i z c : Bool) (m' : ℕ → ℕ)
    → m' COLUMN ≡ column_after (m COLUMN) (a ∷ []) % 256 → ((p : ℕ) → p ≢ COLUMN → m' p ≡ m p)
    → Comes f (view a' x y n v i z c (back_at lo hi) own m' text answers) q u k) → Comes f (view a x y n v i z c SEND_AT (lo ∷ hi ∷ own) m text answers) q (a ∷ u) (7 + k)
saying f own fits block lo hi text answers m a x y n v i z c small q u k next =
    calls f own a x y n v i z c SEND_AT lo hi m text answers (Sent nowhere m (a ∷ [])) q (a ∷ []) u 7 k (send_law (under f own) fits block lo hi text answers m a x y n v i z c small)
    (λ a' x y n v i z c w s. next a' x y n v i z c w s.column (λ p z. s.others p refl z))

-- memory after LSR RIGHT, which tells digits from what else was seen
abbrev seen_on : (ℕ → ℕ) → ℕ → ℕ
seen_on m = with_byte m RIGHT (m RIGHT / 2)

-- memory with the word at LEFT at RESULT too
abbrev given : (ℕ → ℕ) → ℕ → ℕ
given m = with_byte (with_byte m RESULT (m LEFT)) (RESULT + 1) (m (LEFT + 1))

-- the byte that ends a number: the line stays open after a comma
abbrev end_byte : Bool → ℕ
end_byte true = 44
end_byte false = 13

-- ten times a word and a digit, without a carry from the low byte
digit_low : (t t' d w n : ℕ) → t < 256 → t' < 256 → d + t < 256 → t + 256 * t' ≡ 10 * w % 65536 → w ≡ n % 65536 → (d + t + 0) % 256 + 256 * t' ≡ (n * 10 + d) % 65536
digit_low t t' d w n p q few e h = omega arith

-- ten times a word and a digit, with a carry from the low byte
digit_carried : (t t' d w n : ℕ) → t < 256 → t' < 256 → d < 10 → 256 ≤ d + t → t + 256 * t' ≡ 10 * w % 65536 → w ≡ n % 65536
    → (d + t + 0) % 256 + 256 * ((t' + 1) % 256) ≡ (n * 10 + d) % 65536
digit_carried t t' d w n p q small many e h = omega arith

-- memory after LEFT was taken times five, with the high byte in A
abbrev fives : (ℕ → ℕ) → ℕ → ℕ
fives m =
    let l = m LEFT in
    let twice = high_twice l (m (LEFT + 1)) in
    with_byte (with_byte (with_byte m (LEFT + 1) twice) (LEFT + 1) (high_twice (2 * l % 256) twice)) LEFT (five_low l)

-- memory after the digit in A was added to ten times LEFT, but for the carry
abbrev summed : ℕ → (ℕ → ℕ) → ℕ → ℕ
summed a m =
    let l = m LEFT in
    with_byte (with_byte (with_byte (fives m) LEFT (ten_low l)) (LEFT + 1) (ten_high l (m (LEFT + 1)))) LEFT ((a + ten_low l + 0) % 256)

-- memory after the carry
abbrev carried_on : ℕ → (ℕ → ℕ) → ℕ → ℕ
carried_on a m = with_byte (summed a m) (LEFT + 1) ((ten_high (m LEFT) (m (LEFT + 1)) + 1) % 256)

-- ---- a reading, in memory
abbrev state : Reading → ℕ
state Nothing = 0
state (Sign negative) = 1
state (Digits negative n) = 2

abbrev is_minus : Reading → Bool
is_minus Nothing = false
is_minus (Sign negative) = negative
is_minus (Digits negative n) = negative

abbrev number : Reading → ℕ
number Nothing = 0
number (Sign negative) = 0
number (Digits negative n) = n

state_digit : (r : Reading) (d : ℕ) → 2 ≡ state (with_digit r d)
state_digit Nothing d = refl
state_digit (Sign negative) d = refl
state_digit (Digits negative n) d = refl

minus_digit : (r : Reading) (d : ℕ) → is_minus r ≡ is_minus (with_digit r d)
minus_digit Nothing d = refl
minus_digit (Sign negative) d = refl
minus_digit (Digits negative n) d = refl

number_digit : (r : Reading) (d : ℕ) → number (with_digit r d) ≡ number r * 10 + d
number_digit Nothing d = omega arith
number_digit (Sign negative) d = omega arith
number_digit (Digits negative n) d = refl

-- ---- a turn's next byte
turn_digit : (r : Reading) (b : ℕ) (text : List ℕ) → 48 ≤ b → b ≤ 57 → turn (with_digit r (b - 48)) text ≡ turn r (b ∷ text)
turn_digit r b text lo hi =
    let rest = λ (x y z : Bool). if x then turn r text else (if y && z then turn (with_digit r (b - 48)) text else
    (if eqb b 43 || eqb b 45 then signed_turn r (turn (Sign (eqb b 45)) text) else (if eqb b 44 then number_end r true text else
    (if eqb b 13 then number_end r false text else Bad)))) in
    sym (ap (λ x. rest x (leb 48 b) (leb b 57)) (ne_eqb b 32 (λ e. omega arith)) ∙ ap (λ x. rest false x (leb b 57)) (le-leb 48 b lo) ∙ ap (λ x. rest false true x) (le-leb b 57 hi))

turn_bad : (r : Reading) (b : ℕ) (text : List ℕ) → b ≢ 32 → b ≢ 43 → b ≢ 45 → b ≢ 44 → b ≢ 13 → (leb 48 b && leb b 57) ≡ false → Bad ≡ turn r (b ∷ text)
turn_bad r b text n32 n43 n45 n44 n13 out =
    let rest = λ (x y p q s t : Bool). if x then turn r text else (if y then turn (with_digit r (b - 48)) text else
    (if p || q then signed_turn r (turn (Sign (eqb b 45)) text) else (if s then number_end r true text else (if t then number_end r false text else Bad)))) in
    sym (ap (λ x. rest x (leb 48 b && leb b 57) (eqb b 43) (eqb b 45) (eqb b 44) (eqb b 13)) (ne_eqb b 32 n32)
    ∙ ap (λ x. rest false x (eqb b 43) (eqb b 45) (eqb b 44) (eqb b 13)) out
    ∙ ap (λ x. rest false false x (eqb b 45) (eqb b 44) (eqb b 13)) (ne_eqb b 43 n43)
    ∙ ap (λ x. rest false false false x (eqb b 44) (eqb b 13)) (ne_eqb b 45 n45)
    ∙ ap (λ x. rest false false false false x (eqb b 13)) (ne_eqb b 44 n44)
    ∙ ap (λ x. rest false false false false false x) (ne_eqb b 13 n13))

apart : (a at : ℕ) → is_changed a ≡ false → is_changed at ≡ true → eqb a at ≡ false
apart a at t h = ne_eqb a at (λ x. false≢true (sym t ∙ ap is_changed x ∙ h))

module _ (f : Setup) (room : ℕ) (most : 13 ≤ room) (fits : Fits f room) (block : Holds block_part f.code) (hlo hhi : ℕ) (above : List ℕ)
    (deep : length above + 6 ≤ room) (lo hi : ℕ) (answers : List ℕ) (m0 : ℕ → ℕ) (entered : Entered f hlo hhi m0) (line : ℕ)
    (is_line : WordAt m0 LINE line) (col : ℕ) (before : List ℕ) where
  abbrev own : List ℕ
  own = above ++ hlo ∷ hhi ∷ []

  -- room for a call, above what the caller keeps
  free : Fits (under f own) 4
  free = omega (arith, fits, deep, length-append own f.rest, length-append above (hlo ∷ hhi ∷ []))

  st : Holds input_part f.code
  st = input_in f.code block

  abbrev Goal : Turn → View → Type 0
  Goal = Ended f lo hi own m0 answers col before

  abbrev sends : Turn → List ℕ
  sends = turn_sends line

  -- RIGHT is what was seen, RIGHT + 1 the sign that was read, or 0, and LEFT the number
  record Held (r : Reading) (m : ℕ → ℕ) : Type 0 where
    seen : m RIGHT ≡ state r
    minus : compares_same (m (RIGHT + 1)) 45 ≡ is_minus r
    is_word : IsWord m LEFT
    value : word_in m LEFT ≡ number r % 65536
    line_open : m OPEN ≡ 1
    column : m COLUMN ≡ column_after col before % 256
    others : Changes is_changed m0 m

  -- fault 6
  bad : (a x y : ℕ) (n v i z c : Bool) (m : ℕ → ℕ) (text : List ℕ) → Changes is_changed m0 m
      → Comes f (view a x y n v i z c (INPUT_AT + 107) (lo ∷ hi ∷ own) m text answers) (IsHome f) (fault_text 6 line) (84 + 334)
  bad a x y n v i z c m text k =
      let here : Entered f hlo hhi m = record { homed = entered.homed; kept = ap (λ s. s + 2) (k HOME_S refl) ∙ entered.kept } in
      looser f _ _ _ (fault_text 6 line) (2 + (82 + 334)) (84 + 334) (omega arith) (λ w h. h)
      (after_on f own 4 free input_part st 1 (view a x y n v i z c (INPUT_AT + 107) (lo ∷ hi ∷ []) m text answers) _ _ (82 + 334) refl
      (fault_law f room most fits block hlo hhi (lo ∷ hi ∷ above) (omega (arith, deep)) text answers m here line
      (same_place m0 m LINE line is_line (k LINE refl) (k (LINE + 1) refl)) 6 _ _ _ _ _ _ _ (omega arith)))

  -- ---- the end
  record Read (value : ℕ) (m : ℕ → ℕ) : Type 0 where
    is_word : IsWord m LEFT
    value_is : word_in m LEFT ≡ value
    line_open : m OPEN ≡ 1
    column : m COLUMN ≡ column_after col before % 256
    others : Changes is_changed m0 m

  -- the number is at LEFT, and the byte that ended it in Y
  finish : (value : ℕ) (stays : Bool) (a x y : ℕ) (n v i z c : Bool) (m : ℕ → ℕ) (text : List ℕ) → Read value m → y ≡ end_byte stays
      → Comes f (view a x y n v i z c (INPUT_AT + 126) (lo ∷ hi ∷ own) m text answers) (Goal (Got value stays text)) (sends (Got value stays text)) 16
  finish value true a x y n v i z c m text h e =
      subst (λ y. Comes f (view a x y n v i z c (INPUT_AT + 126) (lo ∷ hi ∷ own) m text answers) (Goal (Got value true text)) [] 16) (sym e)
      (looser f _ _ _ [] 7 16 (omega arith) (λ w h. h)
      (ending_on f own 4 free input_part st 6 (view a x 44 n v i z c (INPUT_AT + 126) (lo ∷ hi ∷ []) m text answers) _ refl
      (leaves_now refl (record {
        gives = record { result = holds_word (given m) RESULT value h.is_word h.value_is; others = changes_put _ _ _ (RESULT + 1) _ refl (changes_put _ _ _ RESULT _ refl h.others) };
        line_open = h.line_open;
        column_is = h.column;
      }))))
  finish value false a x y n v i z c m text h e =
      subst (λ y. Comes f (view a x y n v i z c (INPUT_AT + 126) (lo ∷ hi ∷ own) m text answers) (Goal (Got value false text)) (13 ∷ []) 16) (sym e)
      (after_on f own 4 free input_part st 8 (view a x 13 n v i z c (INPUT_AT + 126) (lo ∷ hi ∷ []) m text answers) _ _ 7 refl
      (looser f _ _ _ (13 ∷ []) 7 7 (omega arith) (λ w g. subst (Goal (Got value false text)) g.2
      (record {
        pc = g.1.pc;
        stack_is = ap (λ l. l ++ own) g.1.stack_is;
        binary = g.1.binary;
        same_text = g.1.same_text;
        same_answers = g.1.same_answers;
        memory = record {
          gives = record {
            result = same_place (given m) g.0.mem RESULT value (holds_word (given m) RESULT value h.is_word h.value_is)
                (g.1.memory.others RESULT refl (λ e. omega (arith, e))) (g.1.memory.others (RESULT + 1) refl (λ e. omega (arith, e)));
            others = λ a t. g.1.memory.others a refl (λ x. false≢true (sym t ∙ ap is_changed x)) ∙ changes_put _ _ _ OPEN _ refl (changes_put _ _ _ (RESULT + 1) _ refl (changes_put _ _ _ RESULT _ refl h.others)) a t;
          };
          line_open = g.1.memory.others OPEN refl (λ e. omega (arith, e)) ∙ (let shut : (m OPEN + 255) % 256 ≡ 0 = omega (arith, h.line_open) in shut);
          column_is = g.1.memory.column;
        };
      }))
      (framed f own (view 13 _ _ _ _ _ _ _ SEND_AT (lo ∷ hi ∷ []) (with_byte (given m) OPEN ((m OPEN + 255) % 256)) text answers) _ (13 ∷ []) 7
      (send_law (under f own) (omega (arith, free)) block lo hi text answers _ _ _ _ _ _ _ _ _ (omega arith)))))

  -- a minus was read: LEFT is negated
  opposite : (value : ℕ) (stays : Bool) (a x y : ℕ) (n v i z c : Bool) (m : ℕ → ℕ) (text : List ℕ) → Read value m → y ≡ end_byte stays
      → Comes f (view a x y n v i z c (INPUT_AT + 123) (lo ∷ hi ∷ own) m text answers) (Goal (Got (negated value) stays text)) (sends (Got (negated value) stays text)) (10 + 16)
  opposite value stays a x y n v i z c m text h e =
      after_on f own 4 free input_part st 0 (view a x y n v i z c (INPUT_AT + 123) (lo ∷ hi ∷ []) m text answers) _ _ (9 + 16) refl
      (after_on f own 4 free divide_part (divide_in f.code block) 8 (view a x y n v i z c negate_left_at ((INPUT_AT + 125) % 256 ∷ (INPUT_AT + 125) / 256 ∷ lo ∷ hi ∷ []) m text answers) _ _ 16 refl
      (finish (negated value) stays _ _ _ _ _ _ _ _ (negated_left m) text
      (record {
        is_word = (small_byte _, small_byte _);
        value_is = taken_from_zero (m LEFT) (m (LEFT + 1)) h.is_word.0 h.is_word.1 ∙ ap negated h.value_is;
        line_open = h.line_open;
        column = h.column;
        others = changes_put _ _ _ (LEFT + 1) _ refl (changes_put _ _ _ LEFT _ refl h.others);
      }) e))

  -- the number ends
  done : (r : Reading) (stays : Bool) (a x y : ℕ) (n v i z c : Bool) (m : ℕ → ℕ) (text : List ℕ) → Held r m → a ≡ end_byte stays
      → Comes f (view a x y n v i z c (INPUT_AT + 112) (lo ∷ hi ∷ own) m text answers) (Goal (number_end r stays text)) (sends (number_end r stays text)) (87 + 334)
  done Nothing stays a x y n v i z c m text h e =
      let t : eqb (m RIGHT / 2) 0 ≡ true = eq-eqb _ _ (omega (arith, h.seen)) in
      looser f _ _ _ (fault_text 6 line) (3 + (84 + 334)) (87 + 334) (omega arith) (λ w h. h)
      (after_on f own 4 free input_part st 2 (view a x y n v i z c (INPUT_AT + 112) (lo ∷ hi ∷ []) m text answers) _ _ (84 + 334) refl
      (rw t (bad _ _ _ _ _ _ _ _ (seen_on m) text (changes_put _ _ _ RIGHT _ refl h.others))))
  done (Sign negative) stays a x y n v i z c m text h e =
      let t : eqb (m RIGHT / 2) 0 ≡ true = eq-eqb _ _ (omega (arith, h.seen)) in
      looser f _ _ _ (fault_text 6 line) (3 + (84 + 334)) (87 + 334) (omega arith) (λ w h. h)
      (after_on f own 4 free input_part st 2 (view a x y n v i z c (INPUT_AT + 112) (lo ∷ hi ∷ []) m text answers) _ _ (84 + 334) refl
      (rw t (bad _ _ _ _ _ _ _ _ (seen_on m) text (changes_put _ _ _ RIGHT _ refl h.others))))
  done (Digits false k) stays a x y n v i z c m text h e =
      let t : eqb (m RIGHT / 2) 0 ≡ false = ne_eqb _ _ (λ e. omega (arith, h.seen, e)) in
      looser f _ _ _ (sends (Got (k % 65536) stays text)) (3 + (3 + 16)) (87 + 334) (omega arith) (λ w h. h)
      (after_on f own 4 free input_part st 2 (view a x y n v i z c (INPUT_AT + 112) (lo ∷ hi ∷ []) m text answers) _ _ (3 + 16) refl
      (rw t (after_on f own 4 free input_part st 2 (view _ _ _ _ _ _ _ _ (INPUT_AT + 117) (lo ∷ hi ∷ []) (seen_on m) text answers) _ _ 16 refl
      (rw h.minus (finish (k % 65536) stays _ _ _ _ _ _ _ _ (seen_on m) text
      (record { is_word = h.is_word; value_is = h.value; line_open = h.line_open; column = h.column; others = changes_put _ _ _ RIGHT _ refl h.others }) e)))))
  done (Digits true k) stays a x y n v i z c m text h e =
      let t : eqb (m RIGHT / 2) 0 ≡ false = ne_eqb _ _ (λ e. omega (arith, h.seen, e)) in
      looser f _ _ _ (sends (Got ((65536 - k % 65536) % 65536) stays text)) (3 + (3 + (10 + 16))) (87 + 334) (omega arith) (λ w h. h)
      (after_on f own 4 free input_part st 2 (view a x y n v i z c (INPUT_AT + 112) (lo ∷ hi ∷ []) m text answers) _ _ (3 + (10 + 16)) refl
      (rw t (after_on f own 4 free input_part st 2 (view _ _ _ _ _ _ _ _ (INPUT_AT + 117) (lo ∷ hi ∷ []) (seen_on m) text answers) _ _ (10 + 16) refl
      (rw h.minus (opposite (k % 65536) stays _ _ _ _ _ _ _ _ (seen_on m) text
      (record { is_word = h.is_word; value_is = h.value; line_open = h.line_open; column = h.column; others = changes_put _ _ _ RIGHT _ refl h.others }) e)))))

  -- ---- a turn goes on
  Reads : List ℕ → Type 0
  Reads text = (r : Reading) (a x y : ℕ) (n v i z c : Bool) (m : ℕ → ℕ) → Held r m → AreBytes text
      → Comes f (view a x y n v i z c (INPUT_AT + 28) (lo ∷ hi ∷ own) m text answers) (Goal (turn r text)) (sends (turn r text)) (45 * length text + (102 + 334))

  -- a sign
  at_sign : (r : Reading) (negative : Bool) (a x y : ℕ) (n v i z c : Bool) (m : ℕ → ℕ) (text : List ℕ) → Reads text → Held r m
      → compares_same a 45 ≡ negative → AreBytes text → Comes f (view a x y n v i z c (INPUT_AT + 97) (lo ∷ hi ∷ own) m text answers)
      (Goal (signed_turn r (turn (Sign negative) text))) (sends (signed_turn r (turn (Sign negative) text))) (45 * length text + (109 + 334))
  unfolding Reads
  at_sign Nothing negative a x y n v i z c m text go h e bs =
      let t : eqb (m RIGHT) 0 ≡ true = eq-eqb _ _ h.seen in
      let counted : eqb ((m RIGHT + 1) % 256) 0 ≡ false = ne_eqb _ _ (λ e. omega (arith, h.seen, e)) in
      looser f _ _ _ (sends (turn (Sign negative) text)) (2 + (3 + (45 * length text + (102 + 334)))) (45 * length text + (109 + 334)) (omega arith) (λ w h. h)
      (after_on f own 4 free input_part st 1 (view a x y n v i z c (INPUT_AT + 97) (lo ∷ hi ∷ []) m text answers) _ _ (3 + (45 * length text + (102 + 334))) refl
      (rw t (after_on f own 4 free input_part st 2 (view _ _ _ _ _ _ _ _ (INPUT_AT + 101) (lo ∷ hi ∷ []) m text answers) _ _ (45 * length text + (102 + 334)) refl
      (rw counted (go (Sign negative) _ _ _ _ _ _ _ _ _
      (record {
        seen = omega (arith, h.seen);
        minus = e;
        is_word = h.is_word;
        value = h.value;
        line_open = h.line_open;
        column = h.column;
        others = changes_put _ _ _ RIGHT _ refl (changes_put _ _ _ (RIGHT + 1) _ refl h.others);
      }) bs)))))
  at_sign (Sign before) negative a x y n v i z c m text go h e bs =
      let t : eqb (m RIGHT) 0 ≡ false = ne_eqb _ _ (λ e. omega (arith, h.seen, e)) in
      looser f _ _ _ (fault_text 6 line) (2 + (84 + 334)) (45 * length text + (109 + 334)) (omega arith) (λ w h. h)
      (after_on f own 4 free input_part st 1 (view a x y n v i z c (INPUT_AT + 97) (lo ∷ hi ∷ []) m text answers) _ _ (84 + 334) refl
      (rw t (bad _ _ _ _ _ _ _ _ m text h.others)))
  at_sign (Digits before k) negative a x y n v i z c m text go h e bs =
      let t : eqb (m RIGHT) 0 ≡ false = ne_eqb _ _ (λ e. omega (arith, h.seen, e)) in
      looser f _ _ _ (fault_text 6 line) (2 + (84 + 334)) (45 * length text + (109 + 334)) (omega arith) (λ w h. h)
      (after_on f own 4 free input_part st 1 (view a x y n v i z c (INPUT_AT + 97) (lo ∷ hi ∷ []) m text answers) _ _ (84 + 334) refl
      (rw t (bad _ _ _ _ _ _ _ _ m text h.others)))

  -- a digit's end: what was seen is noted
  after_digit : (r : Reading) (d : ℕ) (a x y : ℕ) (n v i z c : Bool) (m : ℕ → ℕ) (text : List ℕ) → Reads text → Held (with_digit r d) (with_byte m RIGHT 2)
      → AreBytes text → Comes f (view a x y n v i z c (INPUT_AT + 91) (lo ∷ hi ∷ own) m text answers) (Goal (turn (with_digit r d) text))
      (sends (turn (with_digit r d) text)) (3 + (45 * length text + (102 + 334)))
  unfolding Reads
  after_digit r d a x y n v i z c m text go h bs =
      after_on f own 4 free input_part st 2 (view a x y n v i z c (INPUT_AT + 91) (lo ∷ hi ∷ []) m text answers) _ _ (45 * length text + (102 + 334)) refl
      (go (with_digit r d) _ _ _ _ _ _ _ _ _ h bs)

  -- only addresses that Input changes were changed
  summed_others : (a : ℕ) (m : ℕ → ℕ) → Changes is_changed m0 m → Changes is_changed m0 (summed a m)
  summed_others a m h p t =
      let e1 : eqb p (LEFT + 1) ≡ false = apart p (LEFT + 1) t refl in
      let e2 : eqb p LEFT ≡ false = apart p LEFT t refl in
      rw e1 (rw e2 (h p t))

  -- a digit, which A holds
  at_digit : (r : Reading) (d : ℕ) (a x y : ℕ) (n v i z c : Bool) (m : ℕ → ℕ) (text : List ℕ) → Reads text → Held r m → a ≡ d → d < 10
      → AreBytes text → Comes f (view a x y n v i z c (INPUT_AT + 57) (lo ∷ hi ∷ own) m text answers) (Goal (turn (with_digit r d) text))
      (sends (turn (with_digit r d) text)) (27 + (45 * length text + (102 + 334)))
  at_digit r d a x y n v i z c m text go h e small bs =
      let l = m LEFT in
      let k = m (LEFT + 1) in
      let ten = times_ten l k h.is_word.0 h.is_word.1 in
      let named : (number r * 10 + a) % 65536 ≡ number (with_digit r d) % 65536 = ap (λ a. (number r * 10 + a) % 65536) e ∙ ap (λ k. k % 65536) (sym (number_digit r d)) in
      ⊎_elim
      (λ few. let t : nat_lt 255 (a + ten_low l + 0) ≡ false = lt-leb 256 (a + ten_low l + 0) (omega (arith, few)) in
      looser f _ _ _ (sends (turn (with_digit r d) text)) (12 + (8 + (3 + (45 * length text + (102 + 334))))) (27 + (45 * length text + (102 + 334))) (omega arith) (λ w h. h)
      (after_on f own 4 free input_part st 11 (view a x y n v i z c (INPUT_AT + 57) (lo ∷ hi ∷ []) m text answers) _ _ (8 + (3 + (45 * length text + (102 + 334)))) refl
      (after_on f own 4 free input_part st 7 (view _ _ _ _ _ _ _ _ (INPUT_AT + 76) (lo ∷ hi ∷ []) (fives m) text answers) _ _ (3 + (45 * length text + (102 + 334))) refl
      (rw t (after_digit r d _ _ _ _ _ _ _ _ (summed a m) text go
      (record {
        seen = state_digit r d;
        minus = h.minus ∙ minus_digit r d;
        is_word = (small_byte _, ten.1);
        value = digit_low (ten_low l) (ten_high l k) a (l + 256 * k) (number r) ten.0 ten.1 few ten.2 h.value ∙ named;
        line_open = h.line_open;
        column = h.column;
        others = changes_put _ _ (summed a m) RIGHT 2 refl (summed_others a m h.others);
      }) bs)))))
      (λ many. let t : nat_lt 255 (a + ten_low l + 0) ≡ true = le-leb 256 (a + ten_low l + 0) (omega (arith, many)) in
      looser f _ _ _ (sends (turn (with_digit r d) text)) (12 + (8 + (1 + (3 + (45 * length text + (102 + 334)))))) (27 + (45 * length text + (102 + 334))) (omega arith) (λ w h. h)
      (after_on f own 4 free input_part st 11 (view a x y n v i z c (INPUT_AT + 57) (lo ∷ hi ∷ []) m text answers) _ _ (8 + (1 + (3 + (45 * length text + (102 + 334))))) refl
      (after_on f own 4 free input_part st 7 (view _ _ _ _ _ _ _ _ (INPUT_AT + 76) (lo ∷ hi ∷ []) (fives m) text answers) _ _ (1 + (3 + (45 * length text + (102 + 334)))) refl
      (rw t (after_on f own 4 free input_part st 0 (view _ _ _ _ _ _ _ _ (INPUT_AT + 89) (lo ∷ hi ∷ []) (summed a m) text answers) _ _ (3 + (45 * length text + (102 + 334))) refl
      (after_digit r d _ _ _ _ _ _ _ _ (carried_on a m) text go
      (record {
        seen = state_digit r d;
        minus = h.minus ∙ minus_digit r d;
        is_word = (small_byte _, small_byte _);
        value = digit_carried (ten_low l) (ten_high l k) a (l + 256 * k) (number r) ten.0 ten.1 (omega (arith, e, small)) many ten.2 h.value ∙ named;
        line_open = h.line_open;
        column = h.column;
        others = changes_put _ _ (carried_on a m) RIGHT 2 refl (changes_put _ _ (summed a m) (LEFT + 1) _ refl (summed_others a m h.others));
      }) bs))))))
      (cases_lt (a + ten_low l) 256)

  -- ---- a byte was read
  abbrev Byte : ℕ → List ℕ → Reading → Type 0
  Byte b text r = (x y : ℕ) (n v i z c : Bool) (m : ℕ → ℕ) → Held r m → AreBytes text
      → Comes f (view b x y n v i z c (INPUT_AT + 31) (lo ∷ hi ∷ own) m text answers) (Goal (turn r (b ∷ text))) (sends (turn r (b ∷ text))) (45 * length text + (145 + 334))

  space : (text : List ℕ) → Reads text → (r : Reading) → Byte 32 text r
  unfolding Reads
  space text go r x y n v i z c m h bs =
      looser f _ _ _ (sends (turn r text)) (2 + (45 * length text + (102 + 334))) (45 * length text + (145 + 334)) (omega arith) (λ w h. h)
      (after_on f own 4 free input_part st 1 (view 32 x y n v i z c (INPUT_AT + 31) (lo ∷ hi ∷ []) m text answers) _ _ (45 * length text + (102 + 334)) refl
      (go r _ _ _ _ _ _ _ _ _ h bs))

  plus : (text : List ℕ) → Reads text → (r : Reading) → Byte 43 text r
  plus text go r x y n v i z c m h bs =
      looser f _ _ _ (sends (signed_turn r (turn (Sign false) text))) (4 + (45 * length text + (109 + 334))) (45 * length text + (145 + 334)) (omega arith) (λ w h. h)
      (after_on f own 4 free input_part st 3 (view 43 x y n v i z c (INPUT_AT + 31) (lo ∷ hi ∷ []) m text answers) _ _ (45 * length text + (109 + 334)) refl
      (at_sign r false _ _ _ _ _ _ _ _ _ text go h refl bs))

  minus : (text : List ℕ) → Reads text → (r : Reading) → Byte 45 text r
  minus text go r x y n v i z c m h bs =
      looser f _ _ _ (sends (signed_turn r (turn (Sign true) text))) (6 + (45 * length text + (109 + 334))) (45 * length text + (145 + 334)) (omega arith) (λ w h. h)
      (after_on f own 4 free input_part st 5 (view 45 x y n v i z c (INPUT_AT + 31) (lo ∷ hi ∷ []) m text answers) _ _ (45 * length text + (109 + 334)) refl
      (at_sign r true _ _ _ _ _ _ _ _ _ text go h refl bs))

  comma : (text : List ℕ) (r : Reading) → Byte 44 text r
  comma text r x y n v i z c m h bs =
      looser f _ _ _ (sends (number_end r true text)) (8 + (87 + 334)) (45 * length text + (145 + 334)) (omega arith) (λ w h. h)
      (after_on f own 4 free input_part st 7 (view 44 x y n v i z c (INPUT_AT + 31) (lo ∷ hi ∷ []) m text answers) _ _ (87 + 334) refl
      (done r true _ _ _ _ _ _ _ _ _ text h refl))

  return : (text : List ℕ) (r : Reading) → Byte 13 text r
  return text r x y n v i z c m h bs =
      looser f _ _ _ (sends (number_end r false text)) (10 + (87 + 334)) (45 * length text + (145 + 334)) (omega arith) (λ w h. h)
      (after_on f own 4 free input_part st 9 (view 13 x y n v i z c (INPUT_AT + 31) (lo ∷ hi ∷ []) m text answers) _ _ (87 + 334) refl
      (done r false _ _ _ _ _ _ _ _ _ text h refl))

  -- a byte that may be a digit
  digit : (text : List ℕ) → Reads text → (r : Reading) (b : ℕ) → 48 ≤ b → b ≤ 57 → (x y : ℕ) (n v i z : Bool) (m : ℕ → ℕ) → Held r m → AreBytes text
      → Comes f (view b x y n v i z (leb 13 b) (INPUT_AT + 51) (lo ∷ hi ∷ own) m text answers) (Goal (turn r (b ∷ text))) (sends (turn r (b ∷ text)))
      (3 + (27 + (45 * length text + (102 + 334))))
  digit text go r b from to x y n v i z m h bs =
      let set : leb 13 b ≡ true = le-leb 13 b (omega (arith, from)) in
      let d : (b + 256 - 48) % 256 ≡ b - 48 = omega arith in
      let t : leb 10 ((b + 256 - 48) % 256) ≡ false = lt-leb 10 _ (omega arith) in
      subst (λ u. Comes f (view b x y n v i z (leb 13 b) (INPUT_AT + 51) (lo ∷ hi ∷ own) m text answers) (Goal u) (sends u) (3 + (27 + (45 * length text + (102 + 334))))) (turn_digit r b text from to)
      (rw set (after_on f own 4 free input_part st 2 (view b x y n v i z true (INPUT_AT + 51) (lo ∷ hi ∷ []) m text answers) _ _ (27 + (45 * length text + (102 + 334))) refl
      (rw t (at_digit r (b - 48) _ _ _ _ _ _ _ _ _ text go h d (omega arith) bs))))

  -- a byte less 48, or 49 if it is below 13
  abbrev less_text : ℕ → ℕ
  less_text b = (b + 256 - (48 + bit (not (leb 13 b)))) % 256

  stray : (text : List ℕ) (r : Reading) (b : ℕ) → leb 10 (less_text b) ≡ true
      → (x y : ℕ) (n v i z : Bool) (m : ℕ → ℕ) → Held r m → Comes f (view b x y n v i z (leb 13 b) (INPUT_AT + 51) (lo ∷ hi ∷ own) m text answers)
      (IsHome f) (fault_text 6 line) (3 + (84 + 334))
  stray text r b t x y n v i z m h =
      after_on f own 4 free input_part st 2 (view b x y n v i z (leb 13 b) (INPUT_AT + 51) (lo ∷ hi ∷ []) m text answers) _ _ (84 + 334) refl
      (rw t (bad _ _ _ _ _ _ _ _ _ text h.others))

  -- past the five tests
  past : (text : List ℕ) (b : ℕ) (u : Turn) (k : ℕ) → b < 256 → b ≢ 32 → b ≢ 43 → b ≢ 45 → b ≢ 44 → b ≢ 13 → (x y : ℕ) (n v i z c : Bool) (m : ℕ → ℕ)
      → ((n z : Bool) → Comes f (view b x y n v i z (leb 13 b) (INPUT_AT + 51) (lo ∷ hi ∷ own) m text answers) (Goal u) (sends u) k)
      → Comes f (view b x y n v i z c (INPUT_AT + 31) (lo ∷ hi ∷ own) m text answers) (Goal u) (sends u) (2 + (2 + (2 + (2 + (2 + k)))))
  past text b u k small n32 n43 n45 n44 n13 x y n v i z c m next =
      let t32 : compares_same b 32 ≡ false = other_byte b 32 small (omega arith) n32 in
      let t43 : compares_same b 43 ≡ false = other_byte b 43 small (omega arith) n43 in
      let t45 : compares_same b 45 ≡ false = other_byte b 45 small (omega arith) n45 in
      let t44 : compares_same b 44 ≡ false = other_byte b 44 small (omega arith) n44 in
      let t13 : compares_same b 13 ≡ false = other_byte b 13 small (omega arith) n13 in
      after_on f own 4 free input_part st 1 (view b x y n v i z c (INPUT_AT + 31) (lo ∷ hi ∷ []) m text answers) _ _ (2 + (2 + (2 + (2 + k)))) refl
      (rw t32 (after_on f own 4 free input_part st 1 (view _ _ _ _ _ _ _ _ (INPUT_AT + 35) (lo ∷ hi ∷ []) m text answers) _ _ (2 + (2 + (2 + k))) refl
      (rw t43 (after_on f own 4 free input_part st 1 (view _ _ _ _ _ _ _ _ (INPUT_AT + 39) (lo ∷ hi ∷ []) m text answers) _ _ (2 + (2 + k)) refl
      (rw t45 (after_on f own 4 free input_part st 1 (view _ _ _ _ _ _ _ _ (INPUT_AT + 43) (lo ∷ hi ∷ []) m text answers) _ _ (2 + k) refl
      (rw t44 (after_on f own 4 free input_part st 1 (view _ _ _ _ _ _ _ _ (INPUT_AT + 47) (lo ∷ hi ∷ []) m text answers) _ _ k refl
      (rw t13 (next _ _))))))))))

  not_digit : (b : ℕ) → b < 256 → (b < 48) ⊎ (57 < b) → ((leb 48 b && leb b 57) ≡ false) × (leb 10 (less_text b) ≡ true)
  not_digit b small out =
      let below = borrow 13 b (omega arith) small in
      ⊎_elim (λ h. (and_left _ _ (lt-leb 48 b h), le-leb 10 _ (omega (arith, below, h)))) (λ h. (and_right _ _ (lt-leb b 57 h), le-leb 10 _ (omega (arith, below, h, small)))) out

  other_stray : (text : List ℕ) (r : Reading) (b : ℕ) → b < 256 → b ≢ 32 → b ≢ 43 → b ≢ 45 → b ≢ 44 → b ≢ 13 → (b < 48) ⊎ (57 < b) → Byte b text r
  other_stray text r b small n32 n43 n45 n44 n13 out x y n v i z c m h bs =
      let p = not_digit b small out in
      subst (λ u. Comes f (view b x y n v i z c (INPUT_AT + 31) (lo ∷ hi ∷ own) m text answers) (Goal u) (sends u) (45 * length text + (145 + 334))) (turn_bad r b text n32 n43 n45 n44 n13 p.0)
      (looser f _ _ _ (sends Bad) (2 + (2 + (2 + (2 + (2 + (3 + (84 + 334))))))) (45 * length text + (145 + 334)) (omega arith) (λ w h. h)
      (past text b Bad (3 + (84 + 334)) small n32 n43 n45 n44 n13 x y n v i z c m (λ n z. stray text r b p.1 x y n v i z m h)))

  other_digit : (text : List ℕ) → Reads text → (r : Reading) (b : ℕ) → b ≢ 32 → b ≢ 43 → b ≢ 45 → b ≢ 44 → b ≢ 13 → 48 ≤ b → b ≤ 57 → Byte b text r
  other_digit text go r b n32 n43 n45 n44 n13 from to x y n v i z c m h bs =
      looser f _ _ _ (sends (turn r (b ∷ text))) (2 + (2 + (2 + (2 + (2 + (3 + (27 + (45 * length text + (102 + 334))))))))) (45 * length text + (145 + 334)) (omega arith) (λ w h. h)
      (past text b (turn r (b ∷ text)) (3 + (27 + (45 * length text + (102 + 334)))) (omega (arith, to)) n32 n43 n45 n44 n13 x y n v i z c m
      (λ n z. digit text go r b from to x y n v i z m h bs))

  any : (text : List ℕ) → Reads text → (r : Reading) (b : ℕ) → b < 256 → Byte b text r
  any text go r b small =
      ⊎_elim (λ e. subst (λ b. Byte b text r) (sym e) (space text go r))
      (λ n32. ⊎_elim (λ e. subst (λ b. Byte b text r) (sym e) (plus text go r))
      (λ n43. ⊎_elim (λ e. subst (λ b. Byte b text r) (sym e) (minus text go r))
      (λ n45. ⊎_elim (λ e. subst (λ b. Byte b text r) (sym e) (comma text r))
      (λ n44. ⊎_elim (λ e. subst (λ b. Byte b text r) (sym e) (return text r))
      (λ n13. ⊎_elim (λ low. other_stray text r b small n32 n43 n45 n44 n13 (inl low))
      (λ from. ⊎_elim (λ to. other_digit text go r b n32 n43 n45 n44 n13 from (omega arith)) (λ high. other_stray text r b small n32 n43 n45 n44 n13 (inr high)) (cases_lt b 58))
      (cases_lt b 48)) (cases_eq b 13)) (cases_eq b 44)) (cases_eq b 45)) (cases_eq b 43)) (cases_eq b 32)

  reads_all : (text : List ℕ) → Reads text
  unfolding Reads
  reads_all [] r a x y n v i z c m h bs =
      looser f _ _ _ [] 1 (45 * 0 + (102 + 334)) (omega arith) (λ w h. h)
      (ending_on f own 4 free input_part st 0 (view a x y n v i z c (INPUT_AT + 28) (lo ∷ hi ∷ []) m [] answers) _ refl (record { pc = refl; text = refl }, (omega arith)))
  reads_all (b ∷ text) r a x y n v i z c m h bs =
      looser f _ _ _ (sends (turn r (b ∷ text))) (1 + (1 + (45 * length text + (145 + 334)))) (45 * length (b ∷ text) + (102 + 334)) (omega arith) (λ w h. h)
      (after_on f own 4 free input_part st 0 (view a x y n v i z c (INPUT_AT + 28) (lo ∷ hi ∷ []) m (b ∷ text) answers) _ _ (1 + (45 * length text + (145 + 334))) refl
      (serving f room fits Chrin _ _ _ _ _ (sends (turn r (b ∷ text))) (45 * length text + (145 + 334))
      (le-leb _ _ (omega (arith, deep, length-append above (hlo ∷ hhi ∷ [])))) refl refl refl (λ j.
      any text (reads_all text) r b bs.0 j.x j.y j.n j.v j.i j.z j.c m h bs.1)))

  start : (a x y : ℕ) (n v i z c : Bool) (m : ℕ → ℕ) (text : List ℕ) → AreBytes text → m OPEN ≡ 1 → m COLUMN ≡ column_after col before % 256
      → Changes is_changed m0 m → Comes f (view a x y n v i z c (INPUT_AT + 18) (lo ∷ hi ∷ own) m text answers) (Goal (turn Nothing text))
      (sends (turn Nothing text)) (5 + (45 * length text + (102 + 334)))
  unfolding Reads
  start a x y n v i z c m text bs o e k =
      after_on f own 4 free input_part st 4 (view a x y n v i z c (INPUT_AT + 18) (lo ∷ hi ∷ []) m text answers) _ _ (45 * length text + (102 + 334)) refl
      (reads_all text Nothing _ _ _ _ _ _ _ _ _
      (record {
        seen = refl;
        minus = refl;
        is_word = (small_byte 0, small_byte 0);
        value = refl;
        line_open = o;
        column = e;
        others = changes_put _ _ _ (RIGHT + 1) _ refl (changes_put _ _ _ RIGHT _ refl (changes_put _ _ _ (LEFT + 1) _ refl (changes_put _ _ _ LEFT _ refl k)));
      }) bs)

-- Input's law, from the block's bytes
pub input_law : InputLaw
input_law f room most fits block hlo hhi above deep lo hi text answers m e line is_line bs true o col column a x y n v i z c =
    let own = above ++ hlo ∷ hhi ∷ [] in
    let free : Fits (under f own) 4 = omega (arith, fits, deep, length-append own f.rest, length-append above (hlo ∷ hhi ∷ [])) in
    let t : eqb (m OPEN) 0 ≡ false = ne_eqb _ _ (λ e. omega (arith, o, e)) in
    looser f _ _ _ (turn_sends line (turn Nothing text)) (2 + (5 + (45 * length text + (102 + 334)))) (45 * length text + (129 + 334)) (omega arith) (λ w h. h)
    (after_on f own 4 free input_part (input_in f.code block) 1 (view a x y n v i z c INPUT_AT (lo ∷ hi ∷ []) m text answers) _ _ (5 + (45 * length text + (102 + 334))) refl
    (rw t (start f room most fits block hlo hhi above deep lo hi answers m e line is_line col [] _ _ _ _ _ _ _ _ m text bs o column (λ a t. refl))))
input_law f room most fits block hlo hhi above deep lo hi text answers m e line is_line bs false o col column a x y n v i z c =
    let own = above ++ hlo ∷ hhi ∷ [] in
    let size = length-append above (hlo ∷ hhi ∷ []) in
    let free : Fits (under f own) 4 = omega (arith, fits, deep, length-append own f.rest, size) in
    let inside : Fits (under f (lo ∷ hi ∷ own)) 2 = omega (arith, fits, deep, length-append own f.rest, size) in
    let st = input_in f.code block in
    let t : eqb (m OPEN) 0 ≡ true = eq-eqb _ _ o in
    let rest = 1 + (5 + (45 * length text + (102 + 334))) in
    let last = turn_sends line (turn Nothing text) in
    looser f _ _ _ (63 ∷ 32 ∷ last) (2 + (2 + (7 + (2 + (7 + rest))))) (45 * length text + (129 + 334)) (omega arith) (λ w h. h)
    (after_on f own 4 free input_part st 1 (view a x y n v i z c INPUT_AT (lo ∷ hi ∷ []) m text answers) _ _ (2 + (7 + (2 + (7 + rest)))) refl
    (rw t (after_on f own 4 free input_part st 1 (view _ _ _ _ _ _ _ _ (INPUT_AT + 5) (lo ∷ hi ∷ []) m text answers) _ _ (7 + (2 + (7 + rest))) refl
    (saying f (lo ∷ hi ∷ own) inside block ((INPUT_AT + 9) % 256) ((INPUT_AT + 9) / 256) text answers m 63 _ _ _ _ _ _ _ (omega arith) _
    (32 ∷ last) (2 + (7 + rest)) (λ a x y n v i z c m1 c1 k1.
    after_on f own 4 free input_part st 1 (view a x y n v i z c (INPUT_AT + 10) (lo ∷ hi ∷ []) m1 text answers) _ _ (7 + rest) refl
    (saying f (lo ∷ hi ∷ own) inside block ((INPUT_AT + 14) % 256) ((INPUT_AT + 14) / 256) text answers m1 32 _ _ _ _ _ _ _ (omega arith) _ last rest (λ a x y n v i z c m2 c2 k2.
    after_on f own 4 free input_part st 0 (view a x y n v i z c (INPUT_AT + 15) (lo ∷ hi ∷ []) m2 text answers) _ _ (5 + (45 * length text + (102 + 334))) refl
    (start f room most fits block hlo hhi above deep lo hi answers m e line is_line col (63 ∷ 32 ∷ []) _ _ _ _ _ _ _ _ _ text bs (omega (arith, o, k1 OPEN (λ e. omega (arith, e)), k2 OPEN (λ e. omega (arith, e)))) (omega (arith, column, c1, c2))
    (changes_put _ _ _ OPEN _ refl (λ a t. let away : a ≢ COLUMN = λ x. false≢true (sym t ∙ ap is_changed x) in k2 a away ∙ k1 a away))))))))))
