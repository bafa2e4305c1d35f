-- Fault.
use Rattle.std.proofs.Common.{◌≡◌, ℕ, ◌+◌, ◌*◌, ◌%◌, ◌/◌, ◌<◌, Bool, List, [], ◌∷◌, ◌++◌, refl, sym, ap, ap₂, ◌∙◌}
use Rattle.std.proofs.Common.{subst, arith, eqb, le-leb, Some, length-append}
use Rattle.tb_cpu.specs.Operands.{word_in}
use Rattle.tb_memmap.specs.Bytes.{with_byte}
use Rattle.tb_machine_reaching.specs.View.{Setup, Holds, Fits, Comes, view, back_at}
use Rattle.tb_machine_reaching.proofs.Acting.{the, run_view}
use Rattle.tb_machine_reaching.specs.Start.{IsHome}
use Rattle.tb_machine_reaching.proofs.Comes.{after, ending, looser, through}
use Rattle.tb_machine_reaching.proofs.Calls.{calling, under, stacked_on}
use Rattle.tb_machine_reaching.proofs.StackPointer.{putting_s}
use Rattle.tb_words.specs.Words.{digits_of}
use Rattle.tb_basic_meaning.specs.Control.{fault_text}
use Rattle.tb_runtime16.specs.Addresses.{SEND_AT, FAULT_LINE_AT, FAULT_AT, NUMBER_AT}
use Rattle.tb_compiled_kept.specs.Addresses.{COLUMN, LINE, BYTE, LEFT}
use Rattle.tb_runtime16.specs.Block.{block_part}
use Rattle.tb_runtime16.specs.Ends.{FaultLaw, FaultLineLaw}
use Rattle.tb_runtime16.specs.Laws.{Sent, nowhere}
use Rattle.tb_runtime16.proofs.InMemory.{bytes_of, holds_word, of_word}
use Rattle.tb_runtime16.proofs.Within.{fault_line_part, fault_line_in, fault_part, fault_in}
use Rattle.tb_runtime16.proofs.Called.{after_on, calls}
use Rattle.tb_runtime16.proofs.SendRuns.{send_law}
use Rattle.tb_runtime16.proofs.NumberRuns.{number_law}

module _ (f : Setup) (fits : Fits f 13) (block : Holds block_part f.code) (hlo hhi : ℕ) (home : f.home ≡ back_at hlo hhi) (text answers : List ℕ)
    (l h d : ℕ) (is_word : (l < 256) × (h < 256)) (d_small : d < 256) where
  abbrev own : List ℕ
  own = hlo ∷ hhi ∷ []

  record Kept (m : ℕ → ℕ) : Type 0 where
    low : m LINE ≡ l
    high : m (LINE + 1) ≡ h
    byte : m BYTE ≡ d

  -- from an address, with only the start's return on the stack
  From : ℕ → List ℕ → ℕ → Type 0
  From pc out k = (a x y : ℕ) (n v i z c : Bool) (m : ℕ → ℕ) → Kept m → Comes f (view a x y n v i z c pc own m text answers) (IsHome f) out k

  -- from an address after the first byte was sent
  Later : ℕ → List ℕ → ℕ → Type 0
  Later pc out k = (a x y : ℕ) (n v i z c : Bool) (m : ℕ → ℕ) → Kept m → m COLUMN < 256 → Comes f (view a x y n v i z c pc own m text answers) (IsHome f) out k

  later : (pc : ℕ) (out : List ℕ) (k : ℕ) → From pc out k → Later pc out k
  unfolding From Later
  later pc out k h a x y n v i z c m kept small = h a x y n v i z c m kept

  last : (a x y : ℕ) (n v i z c : Bool) (m : ℕ → ℕ) → Comes f (view a x y n v i z c (FAULT_AT + 0x3B) own m text answers) (IsHome f) (13 ∷ []) 9
  last a x y n v i z c m =
      after f 13 fits fault_part (fault_in f.code block) 1 (view a x y n v i z c (FAULT_AT + 0x3B) own m text answers) _ _ 7 refl
      (looser f _ _ _ (13 ∷ []) 7 7 (omega arith) (λ w h. record { pc = h.pc ∙ sym home; stack = h.stack_is; binary = h.binary })
      (send_law f (omega (arith, fits)) block hlo hhi text answers _ _ _ _ _ _ _ _ _ (omega arith)))

  tell : Later (FAULT_AT + 0x2E) (digits_of (l + 256 * h) ++ 13 ∷ []) (5 + (334 + 9))
  unfolding Later
  tell a x y n v i z c m k small =
      let line : m LINE + 256 * m (LINE + 1) ≡ l + 256 * h = ap₂ (λ a b. a + 256 * b) k.low k.high in
      subst (λ w. Comes f (view a x y n v i z c (FAULT_AT + 0x2E) own m text answers) (IsHome f) (digits_of w ++ 13 ∷ []) (5 + (334 + 9))) line
      (after f 13 fits fault_part (fault_in f.code block) 4 (view a x y n v i z c (FAULT_AT + 0x2E) own m text answers) _ _ (334 + 9) refl
      (calls f own _ _ _ _ _ _ _ _ NUMBER_AT ((FAULT_AT + 0x3A) % 256) ((FAULT_AT + 0x3A) / 256) _ text answers _ (IsHome f) (digits_of (m LINE + 256 * m (LINE + 1))) (13 ∷ []) 334 9
      (number_law (under f own) (omega (arith, fits)) block ((FAULT_AT + 0x3A) % 256) ((FAULT_AT + 0x3A) / 256) text answers _ _ _ _ _ _ _ _ _
      (m LINE + 256 * m (LINE + 1)) (holds_word _ LEFT _ (omega (arith, k.low, is_word.0), omega (arith, k.high, is_word.1)) refl) small)
      (λ a x y n v i z c w g. last a x y n v i z c w)))

  -- LDA, JSR SEND
  say : (pc b lo hi : ℕ) (out : List ℕ) (k : ℕ) → b < 256 → ((a x y : ℕ) (n v i z c : Bool) (m : ℕ → ℕ) → Kept m
      → run_view fault_part 13 2 (view a x y n v i z c pc own m text answers) ≡ Some (view b x y (eqb (b / 128 % 2) 1) v i (eqb b 0) c SEND_AT
      (lo ∷ hi ∷ own) m text answers)) → Later (back_at lo hi) out k → From pc (b ∷ out) (2 + (7 + k))
  unfolding From Later
  say pc b lo hi out k b_small run next a x y n v i z c m kept =
      through f 13 fits fault_part (fault_in f.code block) 1 _ _ (IsHome f) (b ∷ out) (7 + k) (run a x y n v i z c m kept)
      (calls f own b x y _ v i _ c SEND_AT lo hi m text answers (Sent nowhere m (b ∷ [])) (IsHome f) (b ∷ []) out 7 k
      (send_law (under f own) (omega (arith, fits)) block lo hi text answers m b x y _ v i _ c b_small)
      (λ a x y n v i z c m' s. next a x y n v i z c m'
      (record {
        low = s.others LINE refl (λ e. omega (arith, e)) ∙ kept.low;
        high = s.others (LINE + 1) refl (λ e. omega (arith, e)) ∙ kept.high;
        byte = s.others BYTE refl (λ e. omega (arith, e)) ∙ kept.byte;
      }) (omega (arith, s.column))))

  text_sent : From (FAULT_AT + 0xA) (13 ∷ 33 ∷ d ∷ 32 ∷ 65 ∷ 84 ∷ 32 ∷ (digits_of (l + 256 * h) ++ 13 ∷ []))
      (2 + (7 + (2 + (7 + (2 + (7 + (2 + (7 + (2 + (7 + (2 + (7 + (2 + (7 + (5 + (334 + 9))))))))))))))))
  text_sent =
      say (FAULT_AT + 0xA) 13 ((FAULT_AT + 0xE) % 256) ((FAULT_AT + 0xE) / 256) _
      (2 + (7 + (2 + (7 + (2 + (7 + (2 + (7 + (2 + (7 + (2 + (7 + (5 + (334 + 9)))))))))))))) (omega arith) (λ a x y n v i z c m k. refl)
      (later _ _ _ (say (FAULT_AT + 0xF) 33 ((FAULT_AT + 0x13) % 256) ((FAULT_AT + 0x13) / 256) _
      (2 + (7 + (2 + (7 + (2 + (7 + (2 + (7 + (2 + (7 + (5 + (334 + 9)))))))))))) (omega arith) (λ a x y n v i z c m k. refl)
      (later _ _ _ (say (FAULT_AT + 0x14) d ((FAULT_AT + 0x19) % 256) ((FAULT_AT + 0x19) / 256) _
      (2 + (7 + (2 + (7 + (2 + (7 + (2 + (7 + (5 + (334 + 9)))))))))) d_small
      (λ a x y n v i z c m k. ap (λ b. Some (view b x y (eqb (b / 128 % 2) 1) v i (eqb b 0) c SEND_AT ((FAULT_AT + 0x19) % 256
      ∷ (FAULT_AT + 0x19) / 256 ∷ own) m text answers)) k.byte)
      (later _ _ _ (say (FAULT_AT + 0x1A) 32 ((FAULT_AT + 0x1E) % 256) ((FAULT_AT + 0x1E) / 256) _ (2 + (7 + (2 + (7 + (2 + (7 + (5 + (334 + 9)))))))) (omega arith) (λ a x y n v i z c m k. refl)
      (later _ _ _ (say (FAULT_AT + 0x1F) 65 ((FAULT_AT + 0x23) % 256) ((FAULT_AT + 0x23) / 256) _ (2 + (7 + (2 + (7 + (5 + (334 + 9)))))) (omega arith) (λ a x y n v i z c m k. refl)
      (later _ _ _ (say (FAULT_AT + 0x24) 84 ((FAULT_AT + 0x28) % 256) ((FAULT_AT + 0x28) / 256) _ (2 + (7 + (5 + (334 + 9)))) (omega arith) (λ a x y n v i z c m k. refl)
      (later _ _ _ (say (FAULT_AT + 0x29) 32 ((FAULT_AT + 0x2D) % 256) ((FAULT_AT + 0x2D) / 256) _ (5 + (334 + 9)) (omega arith) (λ a x y n v i z c m k. refl) tell))))))))))))

-- Fault's law, from the block's bytes
pub fault_law : FaultLaw
unfolding From
fault_law f room most fits block hlo hhi above deep text answers m e line is_line k x y n v i z c small =
    let own = above ++ hlo ∷ hhi ∷ [] in
    let start = view k x y n v i z c FAULT_AT [] m text answers in
    let next = the start (run_view fault_part 0 4 start) in
    let rest = 2 + (7 + (2 + (7 + (2 + (7 + (2 + (7 + (2 + (7 + (2 + (7 + (2 + (7 + (5 + (334 + 9))))))))))))))) in
    of_word (λ j. Comes f (view k x y n v i z c FAULT_AT own m text answers) (IsHome f) (fault_text k j) 416) m LINE line is_line
    (looser f _ _ _ (fault_text k (word_in m LINE)) (4 + (1 + rest)) 416 (omega arith) (λ w h. h)
    (calling f own start (λ w. w ≡ next) (IsHome f) [] (fault_text k (word_in m LINE)) 4 (1 + rest)
    (ending (under f own) 0 (omega (arith, fits, deep, length-append own f.rest, length-append above (hlo ∷ hhi ∷ []))) fault_part (fault_in f.code block) 3 start (λ w. w ≡ next) refl refl)
    (λ w same. subst (λ w. Comes f (stacked_on own w) (IsHome f) (fault_text k (word_in m LINE)) (1 + rest)) (sym same)
    (putting_s f room fits (stacked_on own next) above (hlo ∷ hhi ∷ []) (IsHome f) (fault_text k (word_in m LINE)) rest
    (fault_in f.code block _ _ refl) (le-leb _ _ (omega (arith, deep, length-append above (hlo ∷ hhi ∷ [])))) refl (omega (arith, e.kept, e.homed.above))
    (text_sent f (omega (arith, most, fits)) block hlo hhi e.homed.home text answers (m LINE) (m (LINE + 1)) (48 + k) (bytes_of m LINE line is_line)
    (omega (arith, small)) _ _ _ _ _ _ _ _ _ (record { low = refl; high = refl; byte = omega (arith, small) }))))))

-- the law of Fault's entry with a line, from the block's bytes
pub fault_line_law : FaultLineLaw
fault_line_law f room most fits block hlo hhi above deep text answers m e k x y n v i z c small low high =
    let own = above ++ hlo ∷ hhi ∷ [] in
    after_on f own 0 (omega (arith, fits, deep, length-append own f.rest, length-append above (hlo ∷ hhi ∷ []))) fault_line_part
    (fault_line_in f.code block) 1 (view k x y n v i z c FAULT_LINE_AT [] m text answers) (IsHome f) (fault_text k (x + 256 * y)) 416 refl
    (fault_law f room most fits block hlo hhi above deep text answers (with_byte (with_byte m LINE x) (LINE + 1) y)
    (record { homed = e.homed; kept = e.kept }) (x + 256 * y) (holds_word _ LINE (x + 256 * y) (low, high) refl) k x y n v i z c small)
