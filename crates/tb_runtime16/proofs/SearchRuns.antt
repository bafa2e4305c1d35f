-- Search.
use Rattle.std.proofs.Common.{◌≡◌, ◌≢◌, ℕ, zero, suc, ◌+◌, ◌-◌, ◌*◌, ◌/◌, ◌%◌, ◌<◌, ◌≤◌, Bool, true, false, not}
use Rattle.std.proofs.Common.{List, [], ◌∷◌, ◌++◌, length, refl, sym, ap, ◌∙◌, subst, ⊎_elim, arith, if◌then◌else◌, eqb, Option, Some}
use Rattle.std.proofs.Common.{None, length-append}
use Rattle.std.specs.Prelude.{nat_le}
use Rattle.std.proofs.lemmas.Bool.{ne_eqb, eq-eqb, cases_eq, cases_lt, le-leb, lt-leb}
use Rattle.tb_cpu.specs.Operands.{word_in}
use Rattle.tb_cpu.specs.Effects.{bit}
use Rattle.tb_memmap.specs.Bytes.{with_byte}
use Rattle.tb_machine_reaching.specs.View.{Setup, Holds, Fits, Comes, view, is_data, Bytes}
use Rattle.tb_machine_reaching.proofs.Memory.{program_not_data}
use Rattle.tb_machine_reaching.proofs.Start.{in_program}
use Rattle.tb_machine_reaching.proofs.Comes.{after, ending, looser}
use Rattle.tb_runtime16.specs.Addresses.{SEARCH_AT}
use Rattle.tb_compiled_kept.specs.Addresses.{POINTER, WANTED, RESULT, TABLE, COUNT, SCRATCH}
use Rattle.tb_runtime16.specs.Block.{block_part}
use Rattle.tb_runtime16.specs.Laws.{Changes}
use Rattle.tb_runtime16.specs.Search.{Line, table_bytes, numbers_in, AllWords, address_of, search_changes, Searched, SearchLaw}
use Rattle.tb_runtime16.proofs.InMemory.{IsWord, bytes_of, value}
use Rattle.tb_runtime16.proofs.Within.{search_part, search_in}
use Rattle.tb_runtime16.proofs.Words.{halved}
use Rattle.tb_words.proofs.Powers.{pow2}
use Rattle.tb_runtime16.proofs.Frames.{changes_put, leaves_now}
use Rattle.tb_runtime16.proofs.Pointed.{carry_at_least, carry_below}
use Rattle.tb_runtime16.proofs.Through.{loading, comparing, subtracting, times_four, summed, difference}
use Rattle.tb_runtime16.proofs.Tables.{AreRising, are_rising, cut, entry_bytes, bytes_front, bytes_back, rising_front, rising_back, words_front, words_back, other_line, address_front, address_back}

other_byte : (b k : ℕ) → b < 256 → k < 256 → b ≢ k → eqb ((b + 256 - k) % 256) 0 ≡ false
other_byte b k p q n = ne_eqb _ _ (λ h. n (omega (arith, p, q, h)))

program_place : (at : ℕ) → 0x0800 ≤ at → at < 0xa000 → is_data at ≡ false
program_place at p q = program_not_data at (in_program at p q)

-- two words with the same bytes
same_bytes : (n l h : ℕ) → n % 256 ≡ l → n / 256 ≡ h → n ≡ l + 256 * h
same_bytes n l h p q = omega arith

module _ (f : Setup) (fits : Fits f 2) (block : Holds block_part f.code) (lo hi : ℕ) (text answers : List ℕ) (m0 : ℕ → ℕ) (left : IsWord m0 WANTED) (r : Option ℕ) where
  -- entries of the table, from the address at on, in which the look-up has the same answer
  record Piece (es : List Line) (at : ℕ) : Type 0 where
    shown : Bytes f.code at (table_bytes es)
    from : 0x0800 ≤ at
    to : at + 4 * length es ≤ 0xa000
    rising : AreRising (numbers_in es)
    words : AllWords es
    same : address_of (word_in m0 WANTED) es ≡ r

  -- the bytes at TABLE and COUNT give the address of the entries and their number
  record Told (t0 t1 c0 c1 : ℕ) (es : List Line) (at : ℕ) : Type 0 where
    table : t0 + 256 * t1 ≡ at
    table_word : (t0 < 256) × (t1 < 256)
    size : c0 + 256 * c1 ≡ length es
    size_word : (c0 < 256) × (c1 < 256)

  -- these bytes are in memory
  record Range (m : ℕ → ℕ) (es : List Line) (at : ℕ) : Type 0 where
    told : Told (m TABLE) (m (TABLE + 1)) (m COUNT) (m (COUNT + 1)) es at
    part : Piece es at
    others : Changes search_changes m0 m

  -- or memory gives few entries, by how far they are from the table's address
  record Short (m : ℕ → ℕ) (es : List Line) (at : ℕ) : Type 0 where
    place : m TABLE + 256 * m (TABLE + 1) + m POINTER ≡ at
    near : m POINTER + 4 * length es ≤ 252
    size : m COUNT ≡ length es
    part : Piece es at
    others : Changes search_changes m0 m

  -- WANTED is kept
  record Wanted (m : ℕ → ℕ) : Type 0 where
    low : m WANTED ≡ m0 WANTED
    high : m (WANTED + 1) ≡ m0 (WANTED + 1)
    low_small : m WANTED < 256
    high_small : m (WANTED + 1) < 256

  wanted : (m : ℕ → ℕ) → Changes search_changes m0 m → Wanted m
  wanted m others =
      let low : m WANTED ≡ m0 WANTED = others WANTED refl in
      let high : m (WANTED + 1) ≡ m0 (WANTED + 1) = others (WANTED + 1) refl in
      record { low = low; high = high; low_small = omega (arith, left.0); high_small = omega (arith, left.1) }

  -- an entry in the middle: its address, and its number
  record Middle (front : List Line) (e : Line) (at : ℕ) : Type 0 where
    start : 0x0800 ≤ at + 4 * length front
    end : at + 4 * length front + 4 ≤ 0xa000
    low : f.code (at + 4 * length front) ≡ Some (e.0 % 256)
    high : f.code (at + 4 * length front + 1) ≡ Some (e.0 / 256)
    number : e.0 < 65536

  middle : (front : List Line) (e : Line) (back : List Line) (at : ℕ) → Piece (front ++ (e ∷ back)) at → Middle front e at
  middle front e back at h =
      let to = h.to in
      let from = h.from in
      let whole = length-append front (e ∷ back) in
      let shown = entry_bytes f.code (at + 4 * length front) e back (omega (arith, whole)) (bytes_back f.code at front (e ∷ back) (omega (arith, whole)) h.shown) in
      record { start = omega arith; end = omega (arith, whole); low = shown.0; high = shown.1; number = (words_back front (e ∷ back) h.words).0 }

  -- the entries before one in the middle
  front_part : (front : List Line) (e : Line) (back : List Line) (at : ℕ) → Piece (front ++ (e ∷ back)) at → word_in m0 WANTED < e.0 → Piece front at
  front_part front e back at h less =
      let to = h.to in
      record {
        shown = bytes_front f.code at front (e ∷ back) h.shown;
        from = h.from;
        to = omega (arith, length-append front (e ∷ back));
        rising = rising_front front (e ∷ back) h.rising;
        words = words_front front (e ∷ back) h.words;
        same = sym (address_front (word_in m0 WANTED) front e back h.rising less) ∙ h.same;
      }

  -- the entries from the one in the middle on
  back_part : (front : List Line) (e : Line) (back : List Line) (at : ℕ) → Piece (front ++ (e ∷ back)) at → e.0 ≤ word_in m0 WANTED → Piece (e ∷ back) (at + 4 * length front)
  back_part front e back at h least =
      let to = h.to in
      let from = h.from in
      record {
        shown = bytes_back f.code at front (e ∷ back) (omega (arith, length-append front (e ∷ back))) h.shown;
        from = omega arith;
        to = omega (arith, length-append front (e ∷ back));
        rising = rising_back front (e ∷ back) h.rising;
        words = words_back front (e ∷ back) h.words;
        same = sym (address_back (word_in m0 WANTED) front e back h.rising least) ∙ h.same;
      }

  -- ---- the last entry
  none : (a x y : ℕ) (n v i z c : Bool) (m : ℕ → ℕ) → Changes search_changes m0 m → None ≡ r
      → Comes f (view a x y n v i z c (SEARCH_AT + 0xB5) (lo ∷ hi ∷ []) m text answers) (Searched lo hi m0 text answers r) [] 2
  none a x y n v i z c m k e = subst (λ o. Comes f (view a x y n v i z c (SEARCH_AT + 0xB5) (lo ∷ hi ∷ []) m text answers) (Searched lo hi m0 text answers o) [] 2) e
      (ending f 2 fits search_part (search_in f.code block) 1 (view a x y n v i z c (SEARCH_AT + 0xB5) (lo ∷ hi ∷ []) m text answers) _ refl
      (record { leaves = leaves_now refl k; number = refl }))

  found : (a x y : ℕ) (n v i z c : Bool) (m : ℕ → ℕ) (e : Line) (at : ℕ) → Short m (e ∷ []) at → y ≡ m POINTER + 1 → Some e.1 ≡ r
      → Comes f (view a x y n v i z c (SEARCH_AT + 0xA8) (lo ∷ hi ∷ []) m text answers) (Searched lo hi m0 text answers r) [] 7
  found a x y n v i z c m e at h index s =
      let to = h.part.to in
      let from = h.part.from in
      let small = h.part.words.1 in
      let place = h.place in
      let near = h.near in
      let y1 = (y + 1) % 256 in
      let y2 = (y1 + 1) % 256 in
      let b = entry_bytes f.code at e [] (omega arith) h.part.shown in
      let p2 : (m TABLE + 256 * m (TABLE + 1) + y1) % 65536 ≡ at + 2 = omega arith in
      let p3 : (m TABLE + 256 * m (TABLE + 1) + y2) % 65536 ≡ at + 3 = omega arith in
      let m1 = with_byte m RESULT (e.1 % 256) in
      subst (λ o. Comes f (view a x y n v i z c (SEARCH_AT + 0xA8) (lo ∷ hi ∷ []) m text answers) (Searched lo hi m0 text answers o) [] 7) s
      (after f 2 fits search_part (search_in f.code block) 0 (view a x y n v i z c (SEARCH_AT + 0xA8) (lo ∷ hi ∷ []) m text answers) _ _ 6 refl
      (loading f 2 fits TABLE (SEARCH_AT + 0xA9) (at + 2) (e.1 % 256) _ _ y1 _ _ _ _ _ _ m text answers _ _ 5 (
        search_in f.code block _ _ refl,
        (search_in f.code block _ _ refl, tt),
      ) refl refl refl p2 (program_place (at + 2) (omega arith) (omega arith)) b.2
      (after f 2 fits search_part (search_in f.code block) 1 (view (e.1 % 256) x y1 _ v i _ c (SEARCH_AT + 0xAB) (lo ∷ hi ∷ []) m text answers) _ _ 3 refl
      (loading f 2 fits TABLE (SEARCH_AT + 0xAF) (at + 3) (e.1 / 256) _ _ y2 _ _ _ _ _ _ m1 text answers _ _ 2 (
        search_in f.code block _ _ refl,
        (search_in f.code block _ _ refl, tt),
      ) refl refl refl p3 (program_place (at + 3) (omega arith) (omega arith)) b.3
      (ending f 2 fits search_part (search_in f.code block) 1 (view (e.1 / 256) x y2 _ v i _ c (SEARCH_AT + 0xB1) (lo ∷ hi ∷ []) m1 text answers) _ refl
      (leaves_now refl (record { result = record { low = refl; high = refl; small = small }; others = changes_put _ _ _ (RESULT + 1) _ refl (changes_put _ _ _ RESULT _ refl h.others) })))))))

  last_high : (a x y : ℕ) (n v i z c : Bool) (m : ℕ → ℕ) (e : Line) (at : ℕ) → Short m (e ∷ []) at → y ≡ m POINTER → e.0 % 256 ≡ m WANTED
      → Comes f (view a x y n v i z c (SEARCH_AT + 0xA0) (lo ∷ hi ∷ []) m text answers) (Searched lo hi m0 text answers r) [] 11
  last_high a x y n v i z c m e at h index low =
      let to = h.part.to in
      let from = h.part.from in
      let place = h.place in
      let near = h.near in
      let y1 = (y + 1) % 256 in
      let asked = wanted m h.others in
      let p1 : (m TABLE + 256 * m (TABLE + 1) + y1) % 65536 ≡ at + 1 = omega arith in
      let next : y1 ≡ m POINTER + 1 = omega arith in
      let load = λ (N : ℕ). λ (k : (n z : Bool) → Comes f (view (e.0 / 256) x y1 n v i z c (SEARCH_AT + 0xA3) (lo ∷ hi ∷ []) m text answers) (Searched lo hi m0 text answers r) [] N).
      after f 2 fits search_part (search_in f.code block) 0 (view a x y n v i z c (SEARCH_AT + 0xA0) (lo ∷ hi ∷ []) m text answers) _ _ (1 + N) refl
      (loading f 2 fits TABLE (SEARCH_AT + 0xA1) (at + 1) (e.0 / 256) _ _ y1 _ _ _ _ _ _ m text answers _ _ N (
        search_in f.code block _ _ refl,
        (search_in f.code block _ _ refl, tt),
      ) refl refl refl p1 (program_place (at + 1) (omega arith) (omega arith))
      (entry_bytes f.code at e [] (omega arith) h.part.shown).1 (k _ _)) in
      ⊎_elim
      (λ yes. let t : eqb ((e.0 / 256 + 256 - m (WANTED + 1)) % 256) 0 ≡ true = eq-eqb _ _ (omega (arith, yes)) in
      let num : e.0 ≡ word_in m0 WANTED = same_bytes e.0 (m0 WANTED) (m0 (WANTED + 1)) (low ∙ asked.low) (yes ∙ asked.high) in
      load (2 + 7) (λ n z. after f 2 fits search_part (search_in f.code block) 1 (view (e.0 / 256) x y1 n v i z c (SEARCH_AT + 0xA3) (lo ∷ hi ∷ []) m text answers) _ _ 7 refl
      (rw t (found _ _ _ _ _ _ _ _ m e at h next (ap (λ b. if b then Some e.1 else None) (sym (eq-eqb e.0 (word_in m0 WANTED) num)) ∙ h.part.same)))))
      (λ differs. let t : eqb ((e.0 / 256 + 256 - m (WANTED + 1)) % 256) 0 ≡ false = other_byte (e.0 / 256) (m (WANTED + 1)) (omega (arith, h.part.words.0)) asked.high_small differs in
      looser f _ _ _ [] (1 + (1 + (2 + 2))) 11 (omega arith) (λ w h. h)
      (load (2 + 2) (λ n z. after f 2 fits search_part (search_in f.code block) 1 (view (e.0 / 256) x y1 n v i z c (SEARCH_AT + 0xA3) (lo ∷ hi ∷ []) m text answers) _ _ 2 refl
      (rw t (none _ _ _ _ _ _ _ _ m h.others
      (sym (other_line (word_in m0 WANTED) e [] (λ x. differs (high_byte e.0 (m0 WANTED) (m0 (WANTED + 1)) left.0 left.1 x ∙ sym asked.high))) ∙ h.part.same))))))
      (cases_eq (e.0 / 256) (m (WANTED + 1)))
    where
      high_byte : (n l h : ℕ) → l < 256 → h < 256 → n ≡ l + 256 * h → n / 256 ≡ h
      high_byte n l h p q e = omega arith

  last : (a x y : ℕ) (n v i z c : Bool) (m : ℕ → ℕ) (es : List Line) (at : ℕ) → length es ≡ 1 → Short m es at
      → Comes f (view a x y n v i z c (SEARCH_AT + 0x97) (lo ∷ hi ∷ []) m text answers) (Searched lo hi m0 text answers r) [] 15
  last a x y n v i z c m [] at one h = absurd (let none : ⊥ = omega arith in none)
  last a x y n v i z c m (e ∷ d ∷ es) at one h = absurd (let none : ⊥ = omega arith in none)
  last a x y n v i z c m (e ∷ []) at one h =
      let to = h.part.to in
      let from = h.part.from in
      let place = h.place in
      let near = h.near in
      let asked = wanted m h.others in
      let p0 : (m TABLE + 256 * m (TABLE + 1) + m POINTER) % 65536 ≡ at = omega arith in
      let load = λ (N : ℕ). λ (k : (n z : Bool)
      → Comes f (view (e.0 % 256) x (m POINTER) n v i z c (SEARCH_AT + 0x9B) (lo ∷ hi ∷ []) m text answers) (Searched lo hi m0 text answers r) [] N).
      after f 2 fits search_part (search_in f.code block) 0 (view a x y n v i z c (SEARCH_AT + 0x97) (lo ∷ hi ∷ []) m text answers) _ _ (1 + N) refl
      (loading f 2 fits TABLE (SEARCH_AT + 0x99) at (e.0 % 256) _ _ (m POINTER) _ _ _ _ _ _ m text answers _ _ N (
        search_in f.code block _ _ refl,
        (search_in f.code block _ _ refl, tt),
      ) refl refl refl p0 (program_place at (omega arith) (omega arith)) h.part.shown.0 (k _ _)) in
      ⊎_elim
      (λ yes. let t : eqb ((e.0 % 256 + 256 - m WANTED) % 256) 0 ≡ true = eq-eqb _ _ (omega (arith, yes)) in
      load (2 + 11) (λ n z. after f 2 fits search_part (search_in f.code block) 1 (view (e.0 % 256) x (m POINTER) n v i z c (SEARCH_AT + 0x9B) (lo ∷ hi ∷ []) m text answers) _ _ 11 refl
      (rw t (last_high _ _ _ _ _ _ _ _ m e at h refl yes))))
      (λ differs. let t : eqb ((e.0 % 256 + 256 - m WANTED) % 256) 0 ≡ false = other_byte (e.0 % 256) (m WANTED) (omega arith) asked.low_small differs in
      looser f _ _ _ [] (1 + (1 + (2 + 2))) 15 (omega arith) (λ w h. h)
      (load (2 + 2) (λ n z. after f 2 fits search_part (search_in f.code block) 1 (view (e.0 % 256) x (m POINTER) n v i z c (SEARCH_AT + 0x9B) (lo ∷ hi ∷ []) m text answers) _ _ 2 refl
      (rw t (none _ _ _ _ _ _ _ _ m h.others
      (sym (other_line (word_in m0 WANTED) e [] (λ x. differs (low_byte e.0 (m0 WANTED) (m0 (WANTED + 1)) left.0 left.1 x ∙ sym asked.low))) ∙ h.part.same))))))
      (cases_eq (e.0 % 256) (m WANTED))
    where
      low_byte : (n l h : ℕ) → l < 256 → h < 256 → n ≡ l + 256 * h → n % 256 ≡ l
      low_byte n l h p q e = omega arith

  -- ---- few entries: how many there are is in A too
  Halve : ℕ → Type 0
  Halve k = (a x y : ℕ) (n v i z c : Bool) (m : ℕ → ℕ) (es : List Line) (at : ℕ) → Short m es at → a ≡ length es → 1 ≤ length es → length es ≤ pow2 k
      → Comes f (view a x y n v i z c (SEARCH_AT + 0x6B) (lo ∷ hi ∷ []) m text answers) (Searched lo hi m0 text answers r) [] (21 * k + 17)

  -- the entries before the one in the middle
  halve_front : (k : ℕ) → Halve k → (a x y : ℕ) (n v i z c : Bool) (m : ℕ → ℕ) (front : List Line) (e : Line) (back : List Line) (at : ℕ)
      → Short m (front ++ (e ∷ back)) at → x ≡ length front → 1 ≤ length front → length front ≤ pow2 k → word_in m0 WANTED < e.0
      → Comes f (view a x y n v i z c (SEARCH_AT + 0x91) (lo ∷ hi ∷ []) m text answers) (Searched lo hi m0 text answers r) [] (3 + (21 * k + 17))
  unfolding Halve
  halve_front k go a x y n v i z c m front e back at h size some few less =
      let near = h.near in
      let t : eqb x 0 ≡ false = ne_eqb _ _ (λ e. omega (arith, e, size, some)) in
      after f 2 fits search_part (search_in f.code block) 2 (view a x y n v i z c (SEARCH_AT + 0x91) (lo ∷ hi ∷ []) m text answers) _ _ (21 * k + 17) refl
      (rw t (go _ _ _ _ _ _ _ _ (with_byte m COUNT x) front at
      (record {
        place = h.place;
        near = omega (arith, length-append front (e ∷ back));
        size = size;
        part = front_part front e back at h.part less;
        others = changes_put _ _ _ COUNT _ refl h.others;
      }) size some few))

  -- the entries from the one in the middle on
  halve_back : (k : ℕ) → Halve k → (a x y : ℕ) (n v i z : Bool) (m : ℕ → ℕ) (front : List Line) (e : Line) (back : List Line) (at : ℕ)
      → Short m (front ++ (e ∷ back)) at → x ≡ length front → y ≡ m POINTER + 4 * length front + 1 → suc (length back) ≤ pow2 k
      → e.0 ≤ word_in m0 WANTED → Comes f (view a x y n v i z true (SEARCH_AT + 0x82) (lo ∷ hi ∷ []) m text answers) (Searched lo hi m0 text answers r) [] (7 + (21 * k + 17))
  unfolding Halve
  halve_back k go a x y n v i z m front e back at h size index few least =
      let near = h.near in
      let place = h.place in
      let whole = length-append front (e ∷ back) in
      let count = h.size in
      let y0 = (y + 255) % 256 in
      let left_over = (m COUNT + 256 - (x + 0)) % 256 in
      let rest : left_over ≡ suc (length back) = omega (arith, whole, count, size, near) in
      let t : nat_le (x + 0) (m COUNT) ≡ true = le-leb _ _ (omega (arith, whole, count, size)) in
      after f 2 fits search_part (search_in f.code block) 6 (view a x y n v i z true (SEARCH_AT + 0x82) (lo ∷ hi ∷ []) m text answers) _ _ (21 * k + 17) refl
      (rw t (go _ _ _ _ _ _ _ _ (with_byte (with_byte (with_byte m POINTER y0) (POINTER + 1) x) COUNT left_over) (e ∷ back) (at + 4 * length front)
      (record {
        place = omega (arith, place, index, near, whole);
        near = omega (arith, index, near, whole);
        size = rest;
        part = back_part front e back at h.part least;
        others = changes_put _ _ _ COUNT _ refl (changes_put _ _ _ (POINTER + 1) _ refl (changes_put _ _ _ POINTER _ refl h.others));
      }) rest (omega arith) few))

  -- WANTED against the number of the entry in the middle
  halve_by : (k : ℕ) → Halve k → (a x y : ℕ) (n v i z c : Bool) (m : ℕ → ℕ) (front : List Line) (e : Line) (back : List Line) (at : ℕ)
      → Short m (front ++ (e ∷ back)) at → x ≡ length front → y ≡ m POINTER + 4 * length front → 1 ≤ length front → length front ≤ pow2 k
      → suc (length back) ≤ pow2 k → Comes f (view a x y n v i z c (SEARCH_AT + 0x75) (lo ∷ hi ∷ []) m text answers) (Searched lo hi m0 text answers r) [] (6 + (7 + (21 * k + 17)))
  halve_by k go a x y n v i z c m front e back at h size index some few_front few_back =
      let to = h.part.to in
      let from = h.part.from in
      let near = h.near in
      let place = h.place in
      let whole = length-append front (e ∷ back) in
      let here = at + 4 * length front in
      let one = middle front e back at h.part in
      let asked = wanted m h.others in
      let y1 = (y + 1) % 256 in
      let p0 : (m TABLE + 256 * m (TABLE + 1) + y) % 65536 ≡ here = omega (arith, one.end, whole) in
      let p1 : (m TABLE + 256 * m (TABLE + 1) + y1) % 65536 ≡ here + 1 = omega (arith, one.end, whole) in
      let next_index : y1 ≡ m POINTER + 4 * length front + 1 = omega (arith, whole) in
      let go_on = λ (N : ℕ). λ (next : (a : ℕ) (n v z : Bool)
      → Comes f (view a x y1 n v i z (nat_le (e.0 / 256 + bit (not (nat_le (e.0 % 256) (m WANTED)))) (m (WANTED + 1))) (SEARCH_AT + 0x80)
      (lo ∷ hi ∷ []) m text answers) (Searched lo hi m0 text answers r) [] N).
      after f 2 fits search_part (search_in f.code block) 0 (view a x y n v i z c (SEARCH_AT + 0x75) (lo ∷ hi ∷ []) m text answers) _ _ (1 + (2 + (1 + N))) refl
      (comparing f 2 fits TABLE (SEARCH_AT + 0x78) here (e.0 % 256) (m WANTED) x y _ _ _ _ _ _ m text answers _ _ (2 + (1 + N))
      (search_in f.code block _ _ refl, (search_in f.code block _ _ refl, tt)) refl refl refl p0 (program_place here one.start (omega arith)) one.low (λ n z.
      after f 2 fits search_part (search_in f.code block) 1 (view (m WANTED) x y n v i z _ (SEARCH_AT + 0x7A) (lo ∷ hi ∷ []) m text answers) _ _ (1 + N) refl
      (subtracting f 2 fits TABLE (SEARCH_AT + 0x7E) (here + 1) (e.0 / 256) (m (WANTED + 1)) x y1 _ _ _ _ _ _ m text answers _ _ N
      (search_in f.code block _ _ refl, (search_in f.code block _ _ refl, tt)) refl refl refl p1 (program_place (here + 1) (omega arith) (omega arith)) one.high next))) in
      ⊎_elim
      (λ less. let t = carry_below (m WANTED) (m (WANTED + 1)) (e.0 % 256) (e.0 / 256) asked.low_small asked.high_small (omega arith) (omega arith) (omega arith) in
      looser f _ _ _ [] (1 + (1 + (2 + (1 + (1 + (3 + (21 * k + 17))))))) (6 + (7 + (21 * k + 17))) (omega arith) (λ w h. h)
      (go_on (1 + (3 + (21 * k + 17))) (λ a n v z. after f 2 fits search_part (search_in f.code block) 0
      (view a x y1 n v i z (nat_le (e.0 / 256 + bit (not (nat_le (e.0 % 256) (m WANTED)))) (m (WANTED + 1))) (SEARCH_AT + 0x80)
      (lo ∷ hi ∷ []) m text answers) _ _ (3 + (21 * k + 17)) refl
      (rw t (halve_front k go _ _ _ _ _ _ _ _ m front e back at h size some few_front less)))))
      (λ least. let t = carry_at_least (m WANTED) (m (WANTED + 1)) (e.0 % 256) (e.0 / 256) asked.low_small asked.high_small (omega arith) (omega arith) (omega arith) in
      looser f _ _ _ [] (1 + (1 + (2 + (1 + (1 + (7 + (21 * k + 17))))))) (6 + (7 + (21 * k + 17))) (omega arith) (λ w h. h)
      (go_on (1 + (7 + (21 * k + 17))) (λ a n v z. after f 2 fits search_part (search_in f.code block) 0
      (view a x y1 n v i z (nat_le (e.0 / 256 + bit (not (nat_le (e.0 % 256) (m WANTED)))) (m (WANTED + 1))) (SEARCH_AT + 0x80)
      (lo ∷ hi ∷ []) m text answers) _ _ (7 + (21 * k + 17)) refl
      (rw t (halve_back k go _ _ _ _ _ _ _ m front e back at h size next_index few_back least)))))
      (cases_lt (word_in m0 WANTED) e.0)

  halve_at : (k : ℕ) → Halve k → (a x y : ℕ) (n v i z c : Bool) (m : ℕ → ℕ) (es : List Line) (at half : ℕ) → Short m es at → half ≡ length es / 2
      → a ≡ half → 1 ≤ half → length es ≤ pow2 k + pow2 k → Comes f (view a x y n v i z c (SEARCH_AT + 0x6E) (lo ∷ hi ∷ []) m text answers)
      (Searched lo hi m0 text answers r) [] (6 + (6 + (7 + (21 * k + 17))))
  halve_at k go a x y n v i z c m es at half h middle is some few =
      let part = cut es half (omega arith) in
      let total : length es ≡ length part.front + suc (length part.back) = ap length part.whole ∙ length-append part.front (part.here ∷ part.back) in
      let size = part.size in
      let near = h.near in
      after f 2 fits search_part (search_in f.code block) 5 (view a x y n v i z c (SEARCH_AT + 0x6E) (lo ∷ hi ∷ []) m text answers) _ _ (6 + (7 + (21 * k + 17))) refl
      (halve_by k go _ _ _ _ _ _ _ _ m part.front part.here part.back at (subst (λ l. Short m l at) part.whole h) (omega (arith, is, size))
      (omega (arith, is, size, near, middle)) (omega (arith, size, some)) (omega (arith, size, middle, few)) (omega (arith, size, middle, few, total)))

  halves_all : (k : ℕ) → Halve k
  unfolding Halve
  halves_all zero a x y n v i z c m es at h is some few =
      let t : eqb (a / 2) 0 ≡ true = eq-eqb _ _ (omega arith) in
      looser f _ _ _ [] (2 + 15) (21 * zero + 17) (omega arith) (λ w h. h)
      (after f 2 fits search_part (search_in f.code block) 1 (view a x y n v i z c (SEARCH_AT + 0x6B) (lo ∷ hi ∷ []) m text answers) _ _ 15 refl
      (rw t (last _ _ _ _ _ _ _ _ m es at (omega arith) h)))
  halves_all (suc k) a x y n v i z c m es at h is some few =
      ⊎_elim
      (λ none. let t : eqb (a / 2) 0 ≡ true = eq-eqb _ _ none in
      looser f _ _ _ [] (2 + 15) (21 * suc k + 17) (omega arith) (λ w h. h)
      (after f 2 fits search_part (search_in f.code block) 1 (view a x y n v i z c (SEARCH_AT + 0x6B) (lo ∷ hi ∷ []) m text answers) _ _ 15 refl
      (rw t (last _ _ _ _ _ _ _ _ m es at (omega (arith, none, is, some)) h))))
      (λ more. let t : eqb (a / 2) 0 ≡ false = ne_eqb _ _ more in
      looser f _ _ _ [] (2 + (6 + (6 + (7 + (21 * k + 17))))) (21 * suc k + 17) (omega arith) (λ w h. h)
      (after f 2 fits search_part (search_in f.code block) 1 (view a x y n v i z c (SEARCH_AT + 0x6B) (lo ∷ hi ∷ []) m text answers) _ _ (6 + (6 + (7 + (21 * k + 17)))) refl
      (rw t (halve_at k (halves_all k) _ _ _ _ _ _ _ _ m es at (length es / 2) h refl (omega (arith, is)) (omega (arith, more, is)) few))))
      (cases_eq (a / 2) 0)

  -- ---- any number of entries: below 64 they are few
  Probe : ℕ → Type 0
  Probe k = (a x y : ℕ) (n v i z c : Bool) (m : ℕ → ℕ) (es : List Line) (at : ℕ) → Range m es at → 1 ≤ length es → length es ≤ 32 * pow2 k
      → Comes f (view a x y n v i z c SEARCH_AT (lo ∷ hi ∷ []) m text answers) (Searched lo hi m0 text answers r) [] (40 * k + 150)

  few : (a x y : ℕ) (n v i z c : Bool) (m : ℕ → ℕ) (es : List Line) (at : ℕ) → Range m es at → 1 ≤ length es → length es < 64
      → Comes f (view a x y n v i z c SEARCH_AT (lo ∷ hi ∷ []) m text answers) (Searched lo hi m0 text answers r) [] 150
  unfolding Halve
  few a x y n v i z c m es at h some small =
      let size = h.told.size in
      let table = h.told.table in
      let t : eqb (m (COUNT + 1)) 0 ≡ true = eq-eqb _ _ (omega (arith, size)) in
      let u : nat_le 64 (m COUNT) ≡ false = lt-leb 64 (m COUNT) (omega (arith, size)) in
      after f 2 fits search_part (search_in f.code block) 1 (view a x y n v i z c SEARCH_AT (lo ∷ hi ∷ []) m text answers) _ _ (3 + (2 + 143)) refl
      (rw t (after f 2 fits search_part (search_in f.code block) 2 (view _ _ _ _ _ _ _ _ (SEARCH_AT + 0x05) (lo ∷ hi ∷ []) m text answers) _ _ (2 + 143) refl
      (rw u (after f 2 fits search_part (search_in f.code block) 1 (view (m COUNT) _ _ _ _ _ _ _ (SEARCH_AT + 0x67) (lo ∷ hi ∷ []) m text answers) _ _ 143 refl
      (halves_all 6 _ _ _ _ _ _ _ _ (with_byte m POINTER 0) es at
      (record {
        place = omega (arith, table);
        near = omega (arith, small);
        size = omega (arith, size);
        part = h.part;
        others = changes_put _ _ _ POINTER _ refl h.others;
      }) (omega (arith, size)) some (omega (arith, small)))))))

  -- ---- the part below the entry
  lower : (k : ℕ) → Probe k → (a x y : ℕ) (n v i z c : Bool) (m : ℕ → ℕ) (front : List Line) (e : Line) (back : List Line) (at : ℕ)
      → Range m (front ++ (e ∷ back)) at → IsWord m SCRATCH → m SCRATCH + 256 * m (SCRATCH + 1) ≡ length front → 1 ≤ length front → length front
      ≤ 32 * pow2 k → word_in m0 WANTED < e.0 → Comes f (view a x y n v i z c (SEARCH_AT + 0x58) (lo ∷ hi ∷ []) m text answers)
      (Searched lo hi m0 text answers r) [] (5 + (40 * k + 150))
  unfolding Probe
  lower k go a x y n v i z c m front e back at h w size some few less =
      after f 2 fits search_part (search_in f.code block) 4 (view a x y n v i z c (SEARCH_AT + 0x58) (lo ∷ hi ∷ []) m text answers) _ _ (40 * k + 150) refl
      (go _ _ _ _ _ _ _ _ _ front at
      (record {
        told = record { table = h.told.table; table_word = h.told.table_word; size = size; size_word = w };
        part = front_part front e back at h.part less;
        others = changes_put _ _ _ (COUNT + 1) _ refl (changes_put _ _ _ COUNT _ refl h.others);
      }) some few)

  -- ---- the part from the entry on
  upper : (k : ℕ) → Probe k → (a x y : ℕ) (n v i z : Bool) (m : ℕ → ℕ) (front : List Line) (e : Line) (back : List Line) (at : ℕ)
      → Range m (front ++ (e ∷ back)) at → IsWord m SCRATCH → m SCRATCH + 256 * m (SCRATCH + 1) ≡ length front → IsWord m POINTER
      → m POINTER + 256 * m (POINTER + 1) ≡ at + 4 * length front → suc (length back) ≤ 32 * pow2 k → e.0 ≤ word_in m0 WANTED
      → Comes f (view a x y n v i z true (SEARCH_AT + 0x3C) (lo ∷ hi ∷ []) m text answers) (Searched lo hi m0 text answers r) [] (11 + (40 * k + 150))
  unfolding Probe
  upper k go a x y n v i z m front e back at h w size p place few least =
      let whole = length-append front (e ∷ back) in
      let count = h.told.size in
      let d = difference (m COUNT) (m (COUNT + 1)) (m SCRATCH) (m (SCRATCH + 1)) (length (front ++ (e ∷ back))) (length front)
      (suc (length back)) h.told.size_word.0 h.told.size_word.1 w.0 w.1 h.told.size size (omega (arith, whole)) in
      let t = carry_at_least (m COUNT) (m (COUNT + 1)) (m SCRATCH + 0) (m (SCRATCH + 1)) h.told.size_word.0 h.told.size_word.1 (omega (arith, w.0)) w.1 (omega (arith, count, size, whole)) in
      after f 2 fits search_part (search_in f.code block) 10 (view a x y n v i z true (SEARCH_AT + 0x3C) (lo ∷ hi ∷ []) m text answers) _ _ (40 * k + 150) refl
      (rw t (go _ _ _ _ _ _ _ _ _ (e ∷ back) (at + 4 * length front)
      (record {
        told = record { table = place; table_word = p; size = d.2; size_word = (d.0, d.1) };
        part = back_part front e back at h.part least;
        others = changes_put _ _ _ (COUNT + 1) _ refl (changes_put _ _ _ COUNT _ refl (changes_put _ _ _ (TABLE + 1) _ refl (changes_put _ _ _ TABLE _ refl h.others)));
      }) (omega arith) few))

  -- ---- WANTED against the entry's number
  compare : (k : ℕ) → Probe k → (a x y : ℕ) (n v i z c : Bool) (m : ℕ → ℕ) (front : List Line) (e : Line) (back : List Line) (at : ℕ)
      → Range m (front ++ (e ∷ back)) at → IsWord m SCRATCH → m SCRATCH + 256 * m (SCRATCH + 1) ≡ length front → IsWord m POINTER
      → m POINTER + 256 * m (POINTER + 1) ≡ at + 4 * length front → 1 ≤ length front → length front ≤ 32 * pow2 k → suc (length back) ≤ 32 * pow2 k
      → Comes f (view a x y n v i z c (SEARCH_AT + 0x2D) (lo ∷ hi ∷ []) m text answers) (Searched lo hi m0 text answers r) [] (7 + (11 + (40 * k + 150)))
  compare k go a x y n v i z c m front e back at h w size p place some few_front few_back =
      let to = h.part.to in
      let from = h.part.from in
      let whole = length-append front (e ∷ back) in
      let here = at + 4 * length front in
      let one = middle front e back at h.part in
      let asked = wanted m h.others in
      let p0 : (m POINTER + 256 * m (POINTER + 1) + 0) % 65536 ≡ here = omega arith in
      let p1 : (m POINTER + 256 * m (POINTER + 1) + 1) % 65536 ≡ here + 1 = omega arith in
      let go_on = λ (N : ℕ). λ (next : (a : ℕ) (n v z : Bool)
      → Comes f (view a x 1 n v i z (nat_le (e.0 / 256 + bit (not (nat_le (e.0 % 256) (m WANTED)))) (m (WANTED + 1))) (SEARCH_AT + 0x3A)
      (lo ∷ hi ∷ []) m text answers) (Searched lo hi m0 text answers r) [] N).
      after f 2 fits search_part (search_in f.code block) 1 (view a x y n v i z c (SEARCH_AT + 0x2D) (lo ∷ hi ∷ []) m text answers) _ _ (1 + (2 + (1 + N))) refl
      (comparing f 2 fits POINTER (SEARCH_AT + 0x32) here (e.0 % 256) (m WANTED) x 0 _ _ _ _ _ _ m text answers _ _ (2 + (1 + N))
      (search_in f.code block _ _ refl, (search_in f.code block _ _ refl, tt)) refl refl refl p0 (program_place here one.start (omega arith)) one.low (λ n z.
      after f 2 fits search_part (search_in f.code block) 1 (view (m WANTED) x 0 n v i z _ (SEARCH_AT + 0x34) (lo ∷ hi ∷ []) m text answers) _ _ (1 + N) refl
      (subtracting f 2 fits POINTER (SEARCH_AT + 0x38) (here + 1) (e.0 / 256) (m (WANTED + 1)) x 1 _ _ _ _ _ _ m text answers _ _ N
      (search_in f.code block _ _ refl, (search_in f.code block _ _ refl, tt)) refl refl refl p1 (program_place (here + 1) (omega arith) (omega arith)) one.high next))) in
      ⊎_elim
      (λ less. let t = carry_below (m WANTED) (m (WANTED + 1)) (e.0 % 256) (e.0 / 256) asked.low_small asked.high_small (omega arith) (omega arith) (omega arith) in
      looser f _ _ _ [] (2 + (1 + (2 + (1 + (1 + (5 + (40 * k + 150))))))) (7 + (11 + (40 * k + 150))) (omega arith) (λ w h. h)
      (go_on (1 + (5 + (40 * k + 150))) (λ a n v z. after f 2 fits search_part (search_in f.code block) 0
      (view a x 1 n v i z (nat_le (e.0 / 256 + bit (not (nat_le (e.0 % 256) (m WANTED)))) (m (WANTED + 1))) (SEARCH_AT + 0x3A)
      (lo ∷ hi ∷ []) m text answers) _ _ (5 + (40 * k + 150)) refl
      (rw t (lower k go _ _ _ _ _ _ _ _ m front e back at h w size some few_front less)))))
      (λ least. let t = carry_at_least (m WANTED) (m (WANTED + 1)) (e.0 % 256) (e.0 / 256) asked.low_small asked.high_small (omega arith) (omega arith) (omega arith) in
      looser f _ _ _ [] (2 + (1 + (2 + (1 + (1 + (11 + (40 * k + 150))))))) (7 + (11 + (40 * k + 150))) (omega arith) (λ w h. h)
      (go_on (1 + (11 + (40 * k + 150))) (λ a n v z. after f 2 fits search_part (search_in f.code block) 0
      (view a x 1 n v i z (nat_le (e.0 / 256 + bit (not (nat_le (e.0 % 256) (m WANTED)))) (m (WANTED + 1))) (SEARCH_AT + 0x3A)
      (lo ∷ hi ∷ []) m text answers) _ _ (11 + (40 * k + 150)) refl
      (rw t (upper k go _ _ _ _ _ _ _ m front e back at h w size p place few_back least)))))
      (cases_lt (word_in m0 WANTED) e.0)

  -- ---- the entry in the middle
  -- POINTER, from four times SCRATCH in A and POINTER + 1
  add : (k : ℕ) → Probe k → (a x y : ℕ) (n v i z c : Bool) (m : ℕ → ℕ) (front : List Line) (e : Line) (back : List Line) (at : ℕ)
      → Range m (front ++ (e ∷ back)) at → IsWord m SCRATCH → m SCRATCH + 256 * m (SCRATCH + 1) ≡ length front → a < 256 → m (POINTER + 1) < 256
      → a + 256 * m (POINTER + 1) ≡ 4 * length front → 1 ≤ length front → length front ≤ 32 * pow2 k → suc (length back) ≤ 32 * pow2 k
      → Comes f (view a x y n v i z c (SEARCH_AT + 0x22) (lo ∷ hi ∷ []) m text answers) (Searched lo hi m0 text answers r) [] (6 + (7 + (11 + (40 * k + 150))))
  add k go a x y n v i z c m front e back at h w size low high four some few_front few_back =
      let to = h.part.to in
      let sum = summed a (m (POINTER + 1)) (m TABLE) (m (TABLE + 1)) (4 * length front) at low high h.told.table_word.0 h.told.table_word.1 four
      h.told.table (omega (arith, length-append front (e ∷ back))) in
      after f 2 fits search_part (search_in f.code block) 5 (view a x y n v i z c (SEARCH_AT + 0x22) (lo ∷ hi ∷ []) m text answers) _ _ (7 + (11 + (40 * k + 150))) refl
      (compare k go _ _ _ _ _ _ _ _ _ front e back at
      (record {
        told = h.told;
        part = h.part;
        others = changes_put _ _ _ (POINTER + 1) _ refl (changes_put _ _ _ POINTER _ refl h.others);
      }) w size (sum.0, sum.1) sum.2 some few_front few_back)

  quadruple : (k : ℕ) → Probe k → (x y : ℕ) (n v i z c : Bool) (m : ℕ → ℕ) (front : List Line) (e : Line) (back : List Line) (at : ℕ)
      → Range m (front ++ (e ∷ back)) at → IsWord m SCRATCH → m SCRATCH + 256 * m (SCRATCH + 1) ≡ length front → m (POINTER + 1) ≡ m (SCRATCH + 1)
      → 1 ≤ length front → length front ≤ 32 * pow2 k → suc (length back) ≤ 32 * pow2 k
      → Comes f (view (m SCRATCH) x y n v i z c (SEARCH_AT + 0x1C) (lo ∷ hi ∷ []) m text answers) (Searched lo hi m0 text answers r) [] (4 + (6 + (7 + (11 + (40 * k + 150)))))
  quadruple k go x y n v i z c m front e back at h w size copy some few_front few_back =
      let to = h.part.to in
      let total = length-append front (e ∷ back) in
      let high : m (POINTER + 1) < 256 = omega (arith, w.1, copy) in
      let four = times_four (m SCRATCH) (m (POINTER + 1)) (length front) w.0 high (omega (arith, size, copy)) (omega (arith, total)) in
      after f 2 fits search_part (search_in f.code block) 3 (view (m SCRATCH) x y n v i z c (SEARCH_AT + 0x1C) (lo ∷ hi ∷ []) m text answers) _ _ (6 + (7 + (11 + (40 * k + 150)))) refl
      (add k go _ _ _ _ _ _ _ _ _ front e back at
      (record {
        told = h.told;
        part = h.part;
        others = changes_put _ _ _ (POINTER + 1) _ refl (changes_put _ _ _ (POINTER + 1) _ refl h.others);
      }) w size four.0 four.1 four.2 some few_front few_back)

  split : (k : ℕ) → Probe k → (x y : ℕ) (n v i z c : Bool) (m : ℕ → ℕ) (es : List Line) (at half : ℕ) → Range m es at → IsWord m SCRATCH
      → m SCRATCH + 256 * m (SCRATCH + 1) ≡ half → m (POINTER + 1) ≡ m (SCRATCH + 1) → half ≡ length es / 2 → 1 ≤ half
      → length es ≤ 32 * (pow2 k + pow2 k) → Comes f (view (m SCRATCH) x y n v i z c (SEARCH_AT + 0x1C) (lo ∷ hi ∷ []) m text answers)
      (Searched lo hi m0 text answers r) [] (4 + (6 + (7 + (11 + (40 * k + 150)))))
  split k go x y n v i z c m es at half h w size copy middle some few =
      let part = cut es half (omega arith) in
      let length_front = part.size in
      let total : length es ≡ length part.front + suc (length part.back) = ap length part.whole ∙ length-append part.front (part.here ∷ part.back) in
      quadruple k go x y n v i z c m part.front part.here part.back at (subst (λ l. Range m l at) part.whole h) w (size ∙ sym length_front) copy
      (omega arith) (omega (arith, few)) (omega (arith, few, total))

  -- SCRATCH
  abbrev halves : (ℕ → ℕ) → ℕ → ℕ
  halves m = with_byte (with_byte (with_byte m (SCRATCH + 1) (m (COUNT + 1) / 2)) (POINTER + 1) (m (COUNT + 1) / 2)) SCRATCH (m COUNT / 2 + 128 * bit (eqb (m (COUNT + 1) / 1 % 2) 1))

  wide : (k : ℕ) → Probe k → (a x y : ℕ) (n v i z c : Bool) (m : ℕ → ℕ) (es : List Line) (at : ℕ) → Range m es at → 64 ≤ length es
      → length es ≤ 32 * (pow2 k + pow2 k) → Comes f (view a x y n v i z c (SEARCH_AT + 0x0C) (lo ∷ hi ∷ []) m text answers)
      (Searched lo hi m0 text answers r) [] (7 + (4 + (6 + (7 + (11 + (40 * k + 150))))))
  wide k go a x y n v i z c m es at h many few =
      let half = halved (m COUNT) (m (COUNT + 1)) h.told.size_word.0 h.told.size_word.1 in
      let size = h.told.size in
      let small = h.told.size_word in
      after f 2 fits search_part (search_in f.code block) 6 (view a x y n v i z c (SEARCH_AT + 0x0C) (lo ∷ hi ∷ []) m text answers) _ _ (4 + (6 + (7 + (11 + (40 * k + 150))))) refl
      (split k go _ _ _ _ _ _ _ (halves m) es at (length es / 2)
      (record {
        told = h.told;
        part = h.part;
        others = changes_put _ _ _ SCRATCH _ refl (changes_put _ _ _ (POINTER + 1) _ refl (changes_put _ _ _ (SCRATCH + 1) _ refl h.others));
      }) (omega (arith, half, small.0, small.1), omega (arith, small.1)) (half ∙ ap (λ n. n / 2) size) refl refl (omega (arith, many)) few)

  -- to the wide search
  many : (N : ℕ) → (a x y : ℕ) (n v i z c : Bool) (m : ℕ → ℕ) (es : List Line) (at : ℕ) → Range m es at → 64 ≤ length es
      → ((a x y : ℕ) (n v i z c : Bool) → Comes f (view a x y n v i z c (SEARCH_AT + 0x0C) (lo ∷ hi ∷ []) m text answers)
      (Searched lo hi m0 text answers r) [] N) → Comes f (view a x y n v i z c SEARCH_AT (lo ∷ hi ∷ []) m text answers) (Searched lo hi m0 text answers r) [] (5 + N)
  many N a x y n v i z c m es at h some next =
      let size = h.told.size in
      ⊎_elim
      (λ low. let t : eqb (m (COUNT + 1)) 0 ≡ true = eq-eqb _ _ low in
      let u : nat_le 64 (m COUNT) ≡ true = le-leb 64 (m COUNT) (omega (arith, size, low, some)) in
      looser f _ _ _ [] (2 + (3 + N)) (5 + N) (omega arith) (λ w h. h)
      (after f 2 fits search_part (search_in f.code block) 1 (view a x y n v i z c SEARCH_AT (lo ∷ hi ∷ []) m text answers) _ _ (3 + N) refl
      (rw t (after f 2 fits search_part (search_in f.code block) 2 (view _ _ _ _ _ _ _ _ (SEARCH_AT + 0x05) (lo ∷ hi ∷ []) m text answers) _ _ N refl
      (rw u (next _ _ _ _ _ _ _ _))))))
      (λ high. let t : eqb (m (COUNT + 1)) 0 ≡ false = ne_eqb _ _ high in
      looser f _ _ _ [] (2 + N) (5 + N) (omega arith) (λ w h. h)
      (after f 2 fits search_part (search_in f.code block) 1 (view a x y n v i z c SEARCH_AT (lo ∷ hi ∷ []) m text answers) _ _ N refl
      (rw t (next _ _ _ _ _ _ _ _))))
      (cases_eq (m (COUNT + 1)) 0)

  -- ---- all probes
  probes : (k : ℕ) → Probe k
  unfolding Probe
  probes zero a x y n v i z c m es at h some most =
      looser f _ _ _ [] 150 (40 * zero + 150) (omega arith) (λ w h. h) (few a x y n v i z c m es at h some (omega (arith, most)))
  probes (suc k) a x y n v i z c m es at h some most =
      ⊎_elim
      (λ small. looser f _ _ _ [] 150 (40 * suc k + 150) (omega arith) (λ w h. h) (few a x y n v i z c m es at h some small))
      (λ large. looser f _ _ _ [] (5 + (7 + (4 + (6 + (7 + (11 + (40 * k + 150))))))) (40 * suc k + 150) (omega arith) (λ w h. h)
      (many (7 + (4 + (6 + (7 + (11 + (40 * k + 150)))))) a x y n v i z c m es at h large
      (λ a x y n v i z c. wide k (probes k) a x y n v i z c m es at h large most)))
      (cases_lt (length es) 64)

  whole : (a x y : ℕ) (n v i z c : Bool) (es : List Line) → IsWord m0 TABLE → IsWord m0 COUNT → Bytes f.code (word_in m0 TABLE) (table_bytes es)
      → 0x0800 ≤ word_in m0 TABLE → word_in m0 TABLE + 4 * length es ≤ 0xa000 → word_in m0 COUNT ≡ length es → 1 ≤ length es
      → AreRising (numbers_in es) → AllWords es → address_of (word_in m0 WANTED) es ≡ r
      → Comes f (view a x y n v i z c SEARCH_AT (lo ∷ hi ∷ []) m0 text answers) (Searched lo hi m0 text answers r) [] 510
  unfolding Probe
  whole a x y n v i z c es table size shown from to count some rising words same =
      probes 9 a x y n v i z c m0 es (word_in m0 TABLE)
      (record {
        told = record { table = refl; table_word = table; size = count; size_word = size };
        part = record { shown = shown; from = from; to = to; rising = rising; words = words; same = same };
        others = λ a e. refl;
      }) some (omega arith)

-- Search's law, from the block's bytes
pub search_law : SearchLaw
search_law f fits block lo hi text answers m a x y n v i z c number table lines wanted at count shown from to some rising words =
    let place = value m TABLE table at in
    whole f fits block lo hi text answers m (bytes_of m WANTED number wanted) (address_of number lines) a x y n v i z c lines (bytes_of m TABLE table at) (bytes_of m COUNT (length lines) count)
    (subst (λ p. Bytes f.code p (table_bytes lines)) (sym place) shown) (omega (arith, place, from)) (omega (arith, place, to))
    (value m COUNT (length lines) count) some (are_rising 0 (numbers_in lines) rising) words (ap (λ n. address_of n lines) (value m WANTED number wanted))
