-- Push and Pop.
use Rattle.std.proofs.Common.{◌≡◌, ◌≢◌, ℕ, suc, ◌+◌, ◌*◌, ◌/◌, ◌%◌, ◌<◌, ◌≤◌, Bool, true, false, List, [], ◌∷◌}
use Rattle.std.proofs.Common.{length, refl, ap, ◌∙◌, ⊎_elim, arith, eqb}
use Rattle.std.specs.Prelude.{Ok, nat_le}
use Rattle.std.proofs.lemmas.Bool.{ne_eqb, eq-eqb, cases_eq, le-leb, lt-leb}
use Rattle.std.proofs.lemmas.Bool.Decides.{nat_tests}
use Rattle.tb_cpu.specs.Operands.{word_in}
use Rattle.tb_memmap.specs.Bytes.{with_byte}
use Rattle.tb_opcodes.specs.declared.Mnemonic.TheVariants.{Lda, Ldy, Sta}
use Rattle.tb_opcodes.specs.declared.Mode.TheVariants.{AbsoluteX}
use Rattle.tb_machine_reaching.specs.View.{View, Setup, Holds, Fits, Comes, Bytes, view, is_data}
use Rattle.tb_machine_reaching.proofs.Instr.{ins}
use Rattle.tb_machine_reaching.proofs.Memory.{put_other, put_same}
use Rattle.tb_machine_reaching.proofs.Comes.{after, ending, looser}
use Rattle.tb_machine_reaching.proofs.Placed.{placing, takes_at, stores_at, reads_data}
use Rattle.tb_basic_meaning.specs.Control.{deepest}
use Rattle.tb_runtime16.specs.Addresses.{PUSH_AT, POP_AT}
use Rattle.tb_compiled_kept.specs.Addresses.{LEFT, RESULT, NOTES, RETURN_LOW, RETURN_HIGH}
use Rattle.tb_runtime16.specs.Block.{block_part}
use Rattle.tb_runtime16.specs.Laws.{Changes, Back, Faults}
use Rattle.tb_runtime16.specs.Returns.{ReturnAt, AreReturns, ReturnList, push_changes, pop_changes, Pushed, Popped, PushLaw, PushFullLaw, PopLaw, PopNoneLaw}
use Rattle.tb_runtime16.proofs.InMemory.{IsWord, bytes_of, holds_word, of_word, value}
use Rattle.tb_runtime16.proofs.Within.{returns_part, returns_in}
use Rattle.tb_runtime16.proofs.Frames.{changes_put, leaves_now}

-- ---- the list in memory
return_same : (m k : ℕ → ℕ) (j return_address : ℕ) → k (RETURN_LOW + j) ≡ m (RETURN_LOW + j) → k (RETURN_HIGH + j) ≡ m (RETURN_HIGH + j)
    → ReturnAt m j return_address → ReturnAt k j return_address
return_same m k j return_address e d h = record { low = e ∙ h.low; high = d ∙ h.high; small = h.small }

-- memory that agrees on a list's low and high bytes has the list too
returns_same : (m k : ℕ → ℕ) (ns : List ℕ) → ((j : ℕ) → j < length ns → (k (RETURN_LOW + j) ≡ m (RETURN_LOW + j)) × (k (RETURN_HIGH + j) ≡ m (RETURN_HIGH + j)))
    → AreReturns m ns → AreReturns k ns
returns_same m k [] e h = tt
returns_same m k (n ∷ ns) e h =
    let here = e (length ns) (omega arith) in
    (return_same m k (length ns) n here.0 here.1 h.0, returns_same m k ns (λ j p. e j (omega (arith, p))) h.1)

data_place : (a : ℕ) → 0xc000 ≤ a → a ≤ 0xCFFF → is_data a ≡ true
data_place a p q = grind (arith, nat_tests)

low_place : (a : ℕ) → RETURN_LOW ≤ a → a ≤ RETURN_LOW + 499 → push_changes a ≡ true
low_place a p q = grind (arith, nat_tests)

high_place : (a : ℕ) → RETURN_HIGH ≤ a → a ≤ RETURN_HIGH + 499 → push_changes a ≡ true
high_place a p q = grind (arith, nat_tests)

-- a count goes up, with and without a carry
up_carry : (l h k : ℕ) → l < 256 → l + 256 * h ≡ k → k < deepest → (l + 1) % 256 ≡ 0 → ((l + 1) % 256 < 256) × ((h + 1) % 256 < 256)
    × ((l + 1) % 256 + 256 * ((h + 1) % 256) ≡ suc k)
up_carry l h k p q r e = (omega arith, omega arith, omega arith)

up_plain : (l h k : ℕ) → l < 256 → l + 256 * h ≡ k → k < deepest → (l + 1) % 256 ≢ 0 → ((l + 1) % 256 < 256) × (h < 256) × ((l + 1) % 256 + 256 * h ≡ suc k)
up_plain l h k p q r e = (omega arith, omega arith, omega arith)

-- the word in two bytes of a return
return_word : (low high return_address : ℕ) → low ≡ return_address % 256 → high ≡ return_address / 256 → return_address < 65536 → (low < 256)
    × (high < 256) × (low + 256 * high ≡ return_address)
return_word low high return_address l h s = (omega arith, omega (arith, h, s), omega (arith, l, h))

module _ (f : Setup) (fits : Fits f 2) (block : Holds block_part f.code) (lo hi : ℕ) (text answers : List ℕ) (m0 : ℕ → ℕ) where
  -- ---- Push
  -- the return's bytes are stored, and NOTES goes up: with a carry
  count_over : (a x y : ℕ) (n v i z c : Bool) (m : ℕ → ℕ) (return_address : ℕ) (ns : List ℕ) → m NOTES < 256 → m NOTES + 256 * m (NOTES + 1) ≡ length ns
      → length ns < deepest → AreReturns m (return_address ∷ ns) → Changes push_changes m0 m → (m NOTES + 1) % 256 ≡ 0
      → Comes f (view a x y n v i z c (PUSH_AT + 0x12) (lo ∷ hi ∷ []) m text answers) (Back lo hi text answers (Pushed m0 (return_address ∷ ns))) [] 4
  count_over a x y n v i z c m return_address ns low is small h r over =
      let m1 = with_byte m NOTES ((m NOTES + 1) % 256) in
      let m2 = with_byte m1 (NOTES + 1) ((m1 (NOTES + 1) + 1) % 256) in
      let same : (a : ℕ) → RETURN_LOW ≤ a → m2 a ≡ m a = λ a p. put_other m1 (NOTES + 1) _ a (λ e. omega (arith, e, p)) ∙ put_other m NOTES _ a (λ e. omega (arith, e, p)) in
      let u = up_carry (m NOTES) (m (NOTES + 1)) (length ns) low is small over in
      let t : eqb ((m NOTES + 1) % 256) 0 ≡ true = eq-eqb _ _ over in
      after f 2 fits returns_part (returns_in f.code block) 1 (view a x y n v i z c (PUSH_AT + 0x12) (lo ∷ hi ∷ []) m text answers) _ _ 2 refl
      (rw t (ending f 2 fits returns_part (returns_in f.code block) 1 (view _ _ _ _ _ _ _ _ (PUSH_AT + 0x17) (lo ∷ hi ∷ []) m1 text answers) _ refl
      (leaves_now refl (record {
        returns = record {
          count = holds_word _ NOTES _ (u.0, u.1) u.2;
          few = omega (arith, small);
          held = returns_same m m2 (return_address ∷ ns) (λ j p. (same _ (omega arith), same _ (omega arith))) h;
        };
        others = changes_put _ _ _ (NOTES + 1) _ refl
            (changes_put _ _ _ NOTES _ refl r);
      }))))

  -- and without one
  count_plain : (a x y : ℕ) (n v i z c : Bool) (m : ℕ → ℕ) (return_address : ℕ) (ns : List ℕ) → m NOTES < 256 → m NOTES + 256 * m (NOTES + 1) ≡ length ns
      → length ns < deepest → AreReturns m (return_address ∷ ns) → Changes push_changes m0 m → (m NOTES + 1) % 256 ≢ 0
      → Comes f (view a x y n v i z c (PUSH_AT + 0x12) (lo ∷ hi ∷ []) m text answers) (Back lo hi text answers (Pushed m0 (return_address ∷ ns))) [] 3
  count_plain a x y n v i z c m return_address ns low is small h r under =
      let m1 = with_byte m NOTES ((m NOTES + 1) % 256) in
      let same : (a : ℕ) → RETURN_LOW ≤ a → m1 a ≡ m a = λ a p. put_other m NOTES _ a (λ e. omega (arith, e, p)) in
      let u = up_plain (m NOTES) (m (NOTES + 1)) (length ns) low is small under in
      let t : eqb ((m NOTES + 1) % 256) 0 ≡ false = ne_eqb _ _ under in
      after f 2 fits returns_part (returns_in f.code block) 1 (view a x y n v i z c (PUSH_AT + 0x12) (lo ∷ hi ∷ []) m text answers) _ _ 1 refl
      (rw t (ending f 2 fits returns_part (returns_in f.code block) 0 (view _ _ _ _ _ _ _ _ (PUSH_AT + 0x1A) (lo ∷ hi ∷ []) m1 text answers) _ refl
      (leaves_now refl (record {
        returns = record {
          count = holds_word _ NOTES _ (u.0, u.1) u.2;
          few = omega (arith, small);
          held = returns_same m m1 (return_address ∷ ns) (λ j p. (same _ (omega arith), same _ (omega arith))) h;
        };
        others = changes_put _ _ _ NOTES _ refl r;
      }))))

  count : (a x y : ℕ) (n v i z c : Bool) (m : ℕ → ℕ) (return_address : ℕ) (ns : List ℕ) → m NOTES < 256 → m NOTES + 256 * m (NOTES + 1) ≡ length ns
      → length ns < deepest → AreReturns m (return_address ∷ ns) → Changes push_changes m0 m
      → Comes f (view a x y n v i z c (PUSH_AT + 0x12) (lo ∷ hi ∷ []) m text answers) (Back lo hi text answers (Pushed m0 (return_address ∷ ns))) [] 4
  count a x y n v i z c m return_address ns low is small h r =
      ⊎_elim
      (λ over. count_over a x y n v i z c m return_address ns low is small h r over)
      (λ under. looser f _ _ _ [] 3 4 (omega arith) (λ w h. h) (count_plain a x y n v i z c m return_address ns low is small h r under))
      (cases_eq ((m NOTES + 1) % 256) 0)

  -- an instruction at an address of the list, by X
  module _ (o pc at a x y : ℕ) (n v i z c : Bool) (m : ℕ → ℕ) (q : View → Type 0) (k : ℕ) (there : (o + x) % 65536 ≡ at) (from : 0xc000 ≤ at) (to : at ≤ 0xCFFF) where
    abbrev here : View
    here = view a x y n v i z c pc (lo ∷ hi ∷ []) m text answers

    -- STA o,X
    storing : Bytes f.code pc (0x9D ∷ o % 256 ∷ o / 256 ∷ [])
        → Comes f (view a x y n v i z c ((pc + 3) % 65536) (lo ∷ hi ∷ []) (with_byte m at a) text answers) q [] k → Comes f here q [] (1 + k)
    storing stands next = placing f 2 fits (ins 0x9D o) here _ q [] k refl stands (stores_at f.code 2 (ins 0x9D o) here Sta AbsoluteX at refl refl
        refl refl (ap (λ a. Ok a) there) a (data_place at from to) refl) next

    -- LDA o,X and LDY o,X
    to_a : Bytes f.code pc (0xBD ∷ o % 256 ∷ o / 256 ∷ []) → Comes f (view (m at) x y (eqb (m at / 128 % 2) 1) v i (eqb (m at) 0) c ((pc + 3) % 65536)
        (lo ∷ hi ∷ []) m text answers) q [] k → Comes f here q [] (1 + k)
    to_a stands next = placing f 2 fits (ins 0xBD o) here _ q [] k refl stands (takes_at f.code 2 (ins 0xBD o) here Lda AbsoluteX at refl refl refl
        refl (ap (λ a. Ok a) there) (m at) _ (reads_data f.code m at (data_place at from to)) refl) next

    to_y : Bytes f.code pc (0xBC ∷ o % 256 ∷ o / 256 ∷ []) → Comes f (view a x (m at) (eqb (m at / 128 % 2) 1) v i (eqb (m at) 0) c ((pc + 3) % 65536)
        (lo ∷ hi ∷ []) m text answers) q [] k → Comes f here q [] (1 + k)
    to_y stands next = placing f 2 fits (ins 0xBC o) here _ q [] k refl stands (takes_at f.code 2 (ins 0xBC o) here Ldy AbsoluteX at refl refl refl
        refl (ap (λ a. Ok a) there) (m at) _ (reads_data f.code m at (data_place at from to)) refl) next

  module _ (ns : List ℕ) (left : IsWord m0 LEFT) (h : ReturnList m0 ns) (small : length ns < deepest) where
    -- the addresses of a new return's bytes, and memory with the first of them and with both
    abbrev low_at : ℕ
    low_at = RETURN_LOW + length ns

    abbrev high_at : ℕ
    high_at = RETURN_HIGH + length ns

    abbrev with_low : ℕ → ℕ
    with_low = with_byte m0 low_at (m0 LEFT)

    abbrev with_return : ℕ → ℕ
    with_return = with_byte with_low high_at (m0 (LEFT + 1))

    counted_is : m0 NOTES + 256 * m0 (NOTES + 1) ≡ length ns
    counted_is = value m0 NOTES _ h.count

    high_stays : with_low (LEFT + 1) ≡ m0 (LEFT + 1)
    high_stays = put_other m0 low_at (m0 LEFT) (LEFT + 1) (λ e. omega arith)

    -- memory with a new return
    record Stands : Type 0 where
      low : with_return NOTES < 256
      is : with_return NOTES + 256 * with_return (NOTES + 1) ≡ length ns
      kept : with_return (NOTES + 1) ≡ m0 (NOTES + 1)
      held : AreReturns with_return (word_in m0 LEFT ∷ ns)
      others : Changes push_changes m0 with_return

    stands : Stands
    stands =
        let apart : (a : ℕ) → a ≢ low_at → a ≢ high_at → with_return a ≡ m0 a = λ a s t. put_other with_low high_at (m0 (LEFT + 1)) a t ∙ put_other m0 low_at (m0 LEFT) a s in
        let n0 : with_return NOTES ≡ m0 NOTES = apart NOTES (λ e. omega arith) (λ e. omega arith) in
        let n1 : with_return (NOTES + 1) ≡ m0 (NOTES + 1) = apart (NOTES + 1) (λ e. omega arith) (λ e. omega arith) in
        let b0 : with_return low_at ≡ m0 LEFT = put_other with_low high_at (m0 (LEFT + 1)) low_at (λ e. omega (arith, e)) ∙ put_same m0 low_at (m0 LEFT) low_at refl in
        let b1 : with_return high_at ≡ m0 (LEFT + 1) = put_same with_low high_at (m0 (LEFT + 1)) high_at refl in
        let w = bytes_of m0 NOTES _ h.count in
        let e = counted_is in
        record {
          low = omega (arith, n0, w.0);
          is = omega (arith, n0, n1, e);
          kept = n1;
          held = (
            record { low = omega (arith, b0, left.0); high = omega (arith, b1, left.0, left.1); small = omega (arith, left.0, left.1) },
            returns_same m0 with_return ns (λ k l. (
              apart (RETURN_LOW + k) (λ e. omega (arith, e, l)) (λ e. omega (arith, e, l, small)),
              apart (RETURN_HIGH + k) (λ e. omega (arith, e, l, small)) (λ e. omega (arith, e, l)),
            )) h.held,
          );
          others = changes_put push_changes m0 with_low high_at _ (high_place high_at (omega arith) (omega (arith, small)))
              (changes_put push_changes m0 m0 low_at _ (low_place low_at (omega arith) (omega (arith, small))) (λ a e. refl));
        }

    -- LEFT's bytes into the list: on its first page
    store_near : (a y : ℕ) (n v i z c : Bool) → m0 (NOTES + 1) ≡ 0
        → Comes f (view a (m0 NOTES) y n v i z c (PUSH_AT + 0x08) (lo ∷ hi ∷ []) m0 text answers) (Back lo hi text answers (Pushed m0 (word_in m0 LEFT ∷ ns))) [] 8
    store_near a y n v i z c zero =
        let e = counted_is in
        after f 2 fits returns_part (returns_in f.code block) 0 (view a (m0 NOTES) y n v i z c (PUSH_AT + 0x08) (lo ∷ hi ∷ []) m0 text answers) _ _ 7 refl
        (storing RETURN_LOW (PUSH_AT + 0x0A) low_at (m0 LEFT) _ _ _ _ _ _ _ m0 _ 6 (omega (arith, e, zero, small)) (omega arith) (omega (arith, small))
        (returns_in f.code block _ _ refl, (returns_in f.code block _ _ refl, (returns_in f.code block _ _ refl, tt)))
        (after f 2 fits returns_part (returns_in f.code block) 0 (view (m0 LEFT) (m0 NOTES) y _ v i _ c (PUSH_AT + 0x0D) (lo ∷ hi ∷ []) with_low text answers) _ _ 5 refl
        (rw high_stays (storing RETURN_HIGH (PUSH_AT + 0x0F) high_at (m0 (LEFT + 1)) _ _ _ _ _ _ _ with_low _ 4 (omega (arith, e, zero, small))
        (omega arith) (omega (arith, small)) (returns_in f.code block _ _ refl, (returns_in f.code block _ _ refl, (returns_in f.code block _ _ refl, tt)))
        (count _ _ _ _ _ _ _ _ with_return (word_in m0 LEFT) ns stands.low stands.is small stands.held stands.others)))))

    -- or on its second page
    store_far : (a y : ℕ) (n v i z : Bool) → m0 (NOTES + 1) ≡ 1
        → Comes f (view a (m0 NOTES) y n v i z false (PUSH_AT + 0x1F) (lo ∷ hi ∷ []) m0 text answers) (Back lo hi text answers (Pushed m0 (word_in m0 LEFT ∷ ns))) [] 8
    store_far a y n v i z one =
        let e = counted_is in
        let s = stands in
        after f 2 fits returns_part (returns_in f.code block) 0 (view a (m0 NOTES) y n v i z false (PUSH_AT + 0x1F) (lo ∷ hi ∷ []) m0 text answers) _ _ 7 refl
        (storing (RETURN_LOW + 256) (PUSH_AT + 0x21) low_at (m0 LEFT) _ _ _ _ _ _ _ m0 _ 6 (omega (arith, e, one, small)) (omega arith)
        (omega (arith, small)) (returns_in f.code block _ _ refl, (returns_in f.code block _ _ refl, (returns_in f.code block _ _ refl, tt)))
        (after f 2 fits returns_part (returns_in f.code block) 0 (view (m0 LEFT) (m0 NOTES) y _ v i _ false (PUSH_AT + 0x24) (lo ∷ hi ∷ []) with_low text answers) _ _ 5 refl
        (rw high_stays (storing (RETURN_HIGH + 256) (PUSH_AT + 0x26) high_at (m0 (LEFT + 1)) _ _ _ _ _ _ _ with_low _ 4 (omega (arith, e, one, small))
        (omega arith) (omega (arith, small)) (returns_in f.code block _ _ refl, (returns_in f.code block _ _ refl, (returns_in f.code block _ _ refl, tt)))
        (after f 2 fits returns_part (returns_in f.code block) 0 (view (m0 (LEFT + 1)) (m0 NOTES) y _ v i _ false (PUSH_AT + 0x29) (lo ∷ hi ∷ []) with_return text answers) _ _ 3 refl
        (count_plain _ _ _ _ _ _ _ _ with_return (word_in m0 LEFT) ns s.low s.is small s.held s.others (λ full. omega (arith, full, s.is, s.low, s.kept, one, e, small))))))))

    push_whole : (a x y : ℕ) (n v i z c : Bool) → Comes f (view a x y n v i z c PUSH_AT (lo ∷ hi ∷ []) m0 text answers) (Back lo hi text answers (Pushed m0 (word_in m0 LEFT ∷ ns))) [] 13
    push_whole a x y n v i z c =
        let e = counted_is in
        ⊎_elim
        (λ near. let t : eqb (m0 (NOTES + 1)) 0 ≡ true = eq-eqb _ _ near in
        looser f _ _ _ [] (3 + 8) 13 (omega arith) (λ w h. h)
        (after f 2 fits returns_part (returns_in f.code block) 2 (view a x y n v i z c PUSH_AT (lo ∷ hi ∷ []) m0 text answers) _ _ 8 refl
        (rw t (store_near _ _ _ _ _ _ _ near))))
        (λ far. let t : eqb (m0 (NOTES + 1)) 0 ≡ false = ne_eqb _ _ far in
        let one : m0 (NOTES + 1) ≡ 1 = omega (arith, far, e, small) in
        let room : nat_le 244 (m0 NOTES) ≡ false = lt-leb 244 (m0 NOTES) (omega (arith, one, e, small)) in
        after f 2 fits returns_part (returns_in f.code block) 2 (view a x y n v i z c PUSH_AT (lo ∷ hi ∷ []) m0 text answers) _ _ (2 + 8) refl
        (rw t (after f 2 fits returns_part (returns_in f.code block) 1 (view _ (m0 NOTES) y _ v i _ c (PUSH_AT + 0x1B) (lo ∷ hi ∷ []) m0 text answers) _ _ 8 refl
        (rw room (store_far _ _ _ _ _ _ one)))))
        (cases_eq (m0 (NOTES + 1)) 0)

  push_full : (a x y : ℕ) (n v i z c : Bool) (ns : List ℕ) → ReturnList m0 ns → length ns ≡ deepest
      → Comes f (view a x y n v i z c PUSH_AT (lo ∷ hi ∷ []) m0 text answers) (Faults lo hi text answers 4 (λ w. w ≡ m0)) [] 7
  push_full a x y n v i z c ns h full =
      let w = bytes_of m0 NOTES _ h.count in
      let e = value m0 NOTES _ h.count in
      let t : eqb (m0 (NOTES + 1)) 0 ≡ false = ne_eqb _ _ (λ q. omega (arith, q, w.0, e, full)) in
      let room : nat_le 244 (m0 NOTES) ≡ true = le-leb 244 (m0 NOTES) (omega (arith, w.0, e, full)) in
      after f 2 fits returns_part (returns_in f.code block) 2 (view a x y n v i z c PUSH_AT (lo ∷ hi ∷ []) m0 text answers) _ _ (2 + 2) refl
      (rw t (after f 2 fits returns_part (returns_in f.code block) 1 (view _ (m0 NOTES) y _ v i _ c (PUSH_AT + 0x1B) (lo ∷ hi ∷ []) m0 text answers) _ _ 2 refl
      (rw room (ending f 2 fits returns_part (returns_in f.code block) 1 (view _ _ _ _ _ _ _ _ (PUSH_AT + 0x2B) (lo ∷ hi ∷ []) m0 text answers) _ refl
      (record { leaves = leaves_now refl refl; number = refl })))))

  -- ---- Pop
  -- memory without the newest return
  abbrev counted : (ℕ → ℕ) → ℕ → ℕ
  counted m = with_byte m NOTES ((m NOTES + 255) % 256)

  -- the return's bytes into RESULT
  record Fetched (m : ℕ → ℕ) (return_address : ℕ) (ns : List ℕ) : Type 0 where
    word : (counted m (RETURN_LOW + length ns) < 256) × (counted m (RETURN_HIGH + length ns) < 256)
        × (counted m (RETURN_LOW + length ns) + 256 * counted m (RETURN_HIGH + length ns) ≡ return_address)
    held : (m' : ℕ → ℕ) → ((a : ℕ) → RETURN_LOW ≤ a → m' a ≡ counted m a) → AreReturns m' ns

  fetched : (m : ℕ → ℕ) (return_address : ℕ) (ns : List ℕ) → AreReturns m (return_address ∷ ns) → Fetched m return_address ns
  fetched m return_address ns h =
      let same : (a : ℕ) → RETURN_LOW ≤ a → counted m a ≡ m a = λ a p. put_other m NOTES _ a (λ e. omega (arith, e, p)) in
      record {
        word = return_word _ _ return_address (same _ (omega arith) ∙ h.0.low) (same _ (omega arith) ∙ h.0.high) h.0.small;
        held = λ m' e. returns_same m m' ns (λ j p. (e _ (omega arith) ∙ same _ (omega arith), e _ (omega arith) ∙ same _ (omega arith))) h.1;
      }

  -- RESULT takes A and Y
  give : (a x y : ℕ) (n v i z c : Bool) (m : ℕ → ℕ) (return_address : ℕ) (ns : List ℕ) → (a < 256) × (y < 256) × (a + 256 * y ≡ return_address) → m NOTES < 256
      → m (NOTES + 1) < 256 → m NOTES + 256 * m (NOTES + 1) ≡ length ns → length ns < deepest → ((m' : ℕ → ℕ) → ((a : ℕ) → RETURN_LOW ≤ a → m' a ≡ m a)
      → AreReturns m' ns) → Changes pop_changes m0 m → Comes f (view a x y n v i z c (PUSH_AT + 0x4C) (lo ∷ hi ∷ []) m text answers)
      (Back lo hi text answers (Popped m0 return_address ns)) [] 3
  give a x y n v i z c m return_address ns word low top is small held r =
      let m1 = with_byte m RESULT a in
      let m2 = with_byte m1 (RESULT + 1) y in
      ending f 2 fits returns_part (returns_in f.code block) 2 (view a x y n v i z c (PUSH_AT + 0x4C) (lo ∷ hi ∷ []) m text answers) _ refl
      (leaves_now refl (record {
        gives = record { result = holds_word m2 RESULT return_address (word.0, word.1) word.2; others = changes_put _ _ _ (RESULT + 1) _ refl (changes_put _ _ _ RESULT _ refl r) };
        returns = record {
          count = holds_word m2 NOTES (length ns) (low, top) is;
          few = omega (arith, small);
          held = held m2 (λ a p. put_other m1 (RESULT + 1) y a (λ e. omega (arith, e, p)) ∙ put_other m RESULT _ a (λ e. omega (arith, e, p)));
        };
      }))

  module _ (m : ℕ → ℕ) (return_address : ℕ) (ns : List ℕ) (is : (m NOTES + 255) % 256 + 256 * m (NOTES + 1) ≡ length ns) (small : length ns < deepest)
      (h : AreReturns m (return_address ∷ ns)) (r : Changes pop_changes m0 m) where
    -- the addresses of the newest return's bytes
    abbrev low_from : ℕ
    low_from = RETURN_LOW + length ns

    abbrev high_from : ℕ
    high_from = RETURN_HIGH + length ns

    gives : m (NOTES + 1) < 256 → (n v i z c : Bool) → Comes f (view (counted m low_from) ((m NOTES + 255) % 256) (counted m high_from) n v i z c
        (PUSH_AT + 0x4C) (lo ∷ hi ∷ []) (counted m) text answers) (Back lo hi text answers (Popped m0 return_address ns)) [] 3
    gives top n v i z c = let g = fetched m return_address ns h in give _ _ _ n v i z c (counted m) return_address ns g.word
        (omega arith) top is small g.held (changes_put pop_changes m0 m NOTES _ refl r)

    -- the newest return, on the first page
    take_near : (a y : ℕ) (n v i z c : Bool) → m (NOTES + 1) ≡ 0
        → Comes f (view a (m NOTES) y n v i z c (PUSH_AT + 0x3D) (lo ∷ hi ∷ []) m text answers) (Back lo hi text answers (Popped m0 return_address ns)) [] 9
    take_near a y n v i z c near =
        let t : eqb (m (NOTES + 1)) 0 ≡ true = eq-eqb _ _ near in
        after f 2 fits returns_part (returns_in f.code block) 3 (view a (m NOTES) y n v i z c (PUSH_AT + 0x3D) (lo ∷ hi ∷ []) m text answers) _ _ (1 + (1 + 3)) refl
        (rw t (to_y RETURN_HIGH (PUSH_AT + 0x46) high_from _ _ _ _ _ _ _ _ (counted m) _ (1 + 3) (omega (arith, is, near, small)) (omega arith)
        (omega (arith, small)) (returns_in f.code block _ _ refl, (returns_in f.code block _ _ refl, (returns_in f.code block _ _ refl, tt)))
        (to_a RETURN_LOW (PUSH_AT + 0x49) low_from _ _ _ _ _ _ _ _ (counted m) _ 3 (omega (arith, is, near, small)) (omega arith) (omega (arith, small))
        (returns_in f.code block _ _ refl, (returns_in f.code block _ _ refl, (returns_in f.code block _ _ refl, tt)))
        (gives (omega (arith, near)) _ _ _ _ _))))

    -- or on the second page
    take_far : (a y : ℕ) (n v i z c : Bool) → m (NOTES + 1) ≡ 1
        → Comes f (view a (m NOTES) y n v i z c (PUSH_AT + 0x3D) (lo ∷ hi ∷ []) m text answers) (Back lo hi text answers (Popped m0 return_address ns)) [] 10
    take_far a y n v i z c far =
        let t : eqb (m (NOTES + 1)) 0 ≡ false = ne_eqb _ _ (λ e. omega (arith, e, far)) in
        after f 2 fits returns_part (returns_in f.code block) 3 (view a (m NOTES) y n v i z c (PUSH_AT + 0x3D) (lo ∷ hi ∷ []) m text answers) _ _ (1 + (1 + (1 + 3))) refl
        (rw t (to_y (RETURN_HIGH + 256) (PUSH_AT + 0x53) high_from _ _ _ _ _ _ _ _ (counted m) _ (1 + (1 + 3)) (omega (arith, is, far, small))
        (omega arith) (omega (arith, small)) (returns_in f.code block _ _ refl, (returns_in f.code block _ _ refl, (returns_in f.code block _ _ refl, tt)))
        (to_a (RETURN_LOW + 256) (PUSH_AT + 0x56) low_from _ _ _ _ _ _ _ _ (counted m) _ (1 + 3) (omega (arith, is, far, small)) (omega arith)
        (omega (arith, small)) (returns_in f.code block _ _ refl, (returns_in f.code block _ _ refl, (returns_in f.code block _ _ refl, tt)))
        (after f 2 fits returns_part (returns_in f.code block) 0 (view _ _ _ _ _ _ _ _ (PUSH_AT + 0x59) (lo ∷ hi ∷ []) (counted m) text answers) _ _ 3 refl
        (gives (omega (arith, far)) _ _ _ _ _)))))

  pop_whole : (a x y : ℕ) (n v i z c : Bool) (return_address : ℕ) (ns : List ℕ) → ReturnList m0 (return_address ∷ ns)
      → Comes f (view a x y n v i z c POP_AT (lo ∷ hi ∷ []) m0 text answers) (Back lo hi text answers (Popped m0 return_address ns)) [] 14
  pop_whole a x y n v i z c return_address ns h =
      let w = bytes_of m0 NOTES _ h.count in
      let e = value m0 NOTES _ h.count in
      let few = h.few in
      ⊎_elim
      (λ none. let t : eqb (m0 NOTES) 0 ≡ true = eq-eqb _ _ none in
      let s : eqb (m0 (NOTES + 1)) 0 ≡ false = ne_eqb _ _ (λ x. omega arith) in
      after f 2 fits returns_part (returns_in f.code block) 1 (view a x y n v i z c POP_AT (lo ∷ hi ∷ []) m0 text answers) _ _ (2 + (1 + 9)) refl
      (rw t (after f 2 fits returns_part (returns_in f.code block) 1 (view _ (m0 NOTES) _ _ _ _ _ _ (PUSH_AT + 0x35) (lo ∷ hi ∷ []) m0 text answers) _ _ (1 + 9) refl
      (rw s (after f 2 fits returns_part (returns_in f.code block) 0 (view _ (m0 NOTES) _ _ _ _ _ _ (PUSH_AT + 0x3A) (lo ∷ hi ∷ []) m0 text answers) _ _ 9 refl
      (take_near (with_byte m0 (NOTES + 1) ((m0 (NOTES + 1) + 255) % 256)) return_address ns (omega arith) (omega arith)
      (returns_same m0 _ (return_address ∷ ns) (λ j p. (put_other m0 (NOTES + 1) _ _ (λ e. omega arith), put_other m0 (NOTES + 1) _ _ (λ e. omega arith)))
      h.held) (changes_put _ _ _ (NOTES + 1) _ refl (λ a e. refl)) _ _ _ _ _ _ _ (omega arith)))))))
      (λ some. let t : eqb (m0 NOTES) 0 ≡ false = ne_eqb _ _ some in
      looser f _ _ _ [] (2 + 10) 14 (omega arith) (λ w h. h)
      (after f 2 fits returns_part (returns_in f.code block) 1 (view a x y n v i z c POP_AT (lo ∷ hi ∷ []) m0 text answers) _ _ 10 refl
      (rw t (⊎_elim
      (λ near. looser f _ _ _ [] 9 10 (omega arith) (λ w h. h) (take_near m0 return_address ns (omega arith) (omega arith) h.held (λ a e. refl) _ _ _ _ _ _ _ near))
      (λ far. take_far m0 return_address ns (omega arith) (omega arith) h.held (λ a e. refl) _ _ _ _ _ _ _ (omega arith))
      (cases_eq (m0 (NOTES + 1)) 0)))))
      (cases_eq (m0 NOTES) 0)

  pop_none : (a x y : ℕ) (n v i z c : Bool) → ReturnList m0 [] → Comes f (view a x y n v i z c POP_AT (lo ∷ hi ∷ []) m0 text answers) (Faults lo hi text answers 5 (λ w. w ≡ m0)) [] 6
  pop_none a x y n v i z c h =
      let e = value m0 NOTES _ h.count in
      let t : eqb (m0 NOTES) 0 ≡ true = eq-eqb _ _ (omega arith) in
      let s : eqb (m0 (NOTES + 1)) 0 ≡ true = eq-eqb _ _ (omega arith) in
      after f 2 fits returns_part (returns_in f.code block) 1 (view a x y n v i z c POP_AT (lo ∷ hi ∷ []) m0 text answers) _ _ (2 + 2) refl
      (rw t (after f 2 fits returns_part (returns_in f.code block) 1 (view _ (m0 NOTES) _ _ _ _ _ _ (PUSH_AT + 0x35) (lo ∷ hi ∷ []) m0 text answers) _ _ 2 refl
      (rw s (ending f 2 fits returns_part (returns_in f.code block) 1 (view _ _ _ _ _ _ _ _ (PUSH_AT + 0x5C) (lo ∷ hi ∷ []) m0 text answers) _ refl
      (record { leaves = leaves_now refl refl; number = refl })))))

-- Push's law, from the block's bytes
pub push_law : PushLaw
push_law f fits block lo hi text answers m a x y n v i z c return_address returns left h small =
    of_word (λ j. Comes f (view a x y n v i z c PUSH_AT (lo ∷ hi ∷ []) m text answers) (Back lo hi text answers (Pushed m (j ∷ returns))) [] 13) m LEFT return_address left
    (push_whole f fits block lo hi text answers m returns (bytes_of m LEFT return_address left) h small a x y n v i z c)

-- the law of Push on a full list, from the block's bytes
pub push_full_law : PushFullLaw
push_full_law f fits block lo hi text answers m a x y n v i z c returns h full = push_full f fits block lo hi text answers m a x y n v i z c returns h full

-- Pop's law, from the block's bytes
pub pop_law : PopLaw
pop_law f fits block lo hi text answers m a x y n v i z c return_address returns h = pop_whole f fits block lo hi text answers m a x y n v i z c return_address returns h

-- the law of Pop of an empty list, from the block's bytes
pub pop_none_law : PopNoneLaw
pop_none_law f fits block lo hi text answers m a x y n v i z c h = pop_none f fits block lo hi text answers m a x y n v i z c h
