-- The laws of all routines in one form, from the block's bytes.
use Rattle.std.proofs.Common.{◌≡◌, ℕ, ◌+◌, ◌*◌, ◌/◌, ◌%◌, ◌<◌, ◌≤◌, Bool, true, false, ◌||◌, List, [], ◌∷◌}
use Rattle.std.proofs.Common.{◌++◌, length, refl, sym, ap, ◌∙◌, subst, ⊎_elim, inl, inr, ◌⊎◌, Option, Some, None, arith, append-nil}
use Rattle.std.specs.Prelude.{nat_eq, nat_le, ◌==◌, if◌then◌else◌}
use Rattle.std.proofs.lemmas.Bool.{eq-eqb, cases_eq, or_cases, eqb-true, leb-true}
use Rattle.std.proofs.lemmas.Bool.Decides.{nat_tests}
use Rattle.tb_cpu.specs.Effects.{bit}
use Rattle.tb_kernal.specs.Machine.{first_or_zero}
use Rattle.tb_words.specs.Words.{digits_of}
use Rattle.tb_basic_meaning.specs.Control.{fault_text, zone, column_after, deepest}
use Rattle.tb_basic_meaning.specs.Input.{Turn, Got, Bad, Dry, Nothing, turn}
use Rattle.tb_basic_syntax.specs.Source.{Rises}
use Rattle.tb_compiled_kept.specs.Addresses.{COLUMN, OPEN, HOME_S, SEED, LINE, NOTES, TABLE, WANTED, COUNT}
use Rattle.tb_runtime16.specs.Addresses.{RANDOM_AT, INPUT_AT, SEARCH_AT, FAULT_LINE_AT}
use Rattle.tb_machine_reaching.specs.View.{View, Setup, Holds, Fits, Comes, view, back_at}
use Rattle.tb_machine_reaching.specs.Start.{IsHome, IsWaiting}
use Rattle.tb_machine_reaching.proofs.Comes.{looser}
use Rattle.tb_machine_reaching.proofs.Calls.{under}
use Rattle.tb_runtime16.specs.Block.{block_part}
use Rattle.tb_runtime16.specs.Laws.{Leaves, Back, Drawn, seed_of}
use Rattle.tb_opcodes.specs.Bytes.{AreBytes}
use Rattle.tb_runtime16.specs.Input as asking
use Rattle.tb_runtime16.specs.Input.{prompt, Taken}
use Rattle.tb_runtime16.specs.Returns.{AreReturns, ReturnList}
use Rattle.tb_runtime16.specs.Search.{address_of, Searched}
use Rattle.tb_runtime16.specs.Routines.{WordAt, SeedAt, stored, first, Entered, line_end, Tabled, entries, limit_by, Routines, AllLaws}
use Rattle.tb_runtime16.proofs.Gathered.{from_here, from_a, from_line, beside, unchanged, faulting, entries_length, entries_numbers, found, not_found}
use Rattle.tb_runtime16.proofs.StatePlaces.{unless_scratch, not_argument, not_pointer}
use Rattle.tb_runtime16.proofs.SendRuns.{send_law}
use Rattle.tb_runtime16.proofs.TextRuns.{text_law}
use Rattle.tb_runtime16.proofs.ZoneRuns.{zone_law}
use Rattle.tb_runtime16.proofs.MultiplyRuns.{multiply_law}
use Rattle.tb_runtime16.proofs.DivideRuns.{divide_law, divide_by_zero_law}
use Rattle.tb_runtime16.proofs.NumberRuns.{number_law}
use Rattle.tb_runtime16.proofs.RandomRuns.{random_law, random_range_law}
use Rattle.tb_runtime16.proofs.InputRuns.{input_law}
use Rattle.tb_runtime16.proofs.ReturnsRuns.{push_law, push_full_law, pop_law, pop_none_law}
use Rattle.tb_runtime16.proofs.SearchRuns.{search_law}
use Rattle.tb_runtime16.proofs.FaultRuns.{fault_law, fault_line_law}
use Rattle.tb_runtime16.proofs.PollRuns.{poll_law}

-- ---- the return list
return_addresses : (m : ℕ → ℕ) (ns : List ℕ) → WordAt m NOTES (length ns) → AreReturns m ns → length ns ≤ deepest → ReturnList m ns
return_addresses m ns w h few = record { count = w; few = few; held = h }

-- ---- INPUT
-- a byte that is not below 1
not_zero : (a : ℕ) → (nat_eq a 0 || nat_le 32768 a) ≡ false → (1 ≤ a) × (a < 32768)
not_zero a h = (grind (arith, nat_tests), grind (arith, nat_tests))

bad_range : (a : ℕ) → (nat_eq a 0 || nat_le 32768 a) ≡ true → (a ≡ 0) ⊎ (32768 ≤ a)
bad_range a h = ⊎_elim (λ e. inl (eqb-true a 0 e)) (λ e. inr (leb-true 32768 a e)) (or_cases _ _ h)

zero_or : (b : ℕ) → (b ≡ 0) ⊎ (1 ≤ b)
zero_or b = ⊎_elim (λ e. inl e) (λ e. inr (omega arith)) (cases_eq b 0)

first_small : (answers : List ℕ) → AreBytes answers → first_or_zero answers < 256
first_small [] h = omega arith
first_small (a ∷ rest) h = h.0

-- the RND state before a call
seed_at : (m : ℕ → ℕ) (option seed : ℕ) → SeedAt m option seed → (old : ℕ) × WordAt m SEED old × (seed_of m option old ≡ seed)
seed_at m option seed (stored is at) = (seed, at, ap (λ n. if n == 0 then option else seed) is)
seed_at m option seed (first is same small old at) = (old, at, ap (λ n. if n == 0 then option else old) is ∙ sym same)

ends_with : (o stays : Bool) (v : ℕ) (left : List ℕ) (line : ℕ) → prompt o ++ asking.turn_sends line (Got v stays left) ≡ prompt o ++ line_end stays
ends_with true true v left line = refl
ends_with true false v left line = refl
ends_with false true v left line = refl
ends_with false false v left line = refl

module _ (table seed_option : ℕ) (numbers : List ℕ) (start : ℕ → ℕ) (f : Setup) (lo hi keys : ℕ) (fits : Fits f 16) (block : Holds block_part f.code)
    (laid : Tabled f.code table numbers start) where
  abbrev own : List ℕ
  own = lo ∷ hi ∷ []

  searches : (l h : ℕ) (m : ℕ → ℕ) (text answers : List ℕ) (n : ℕ) (o : Option ℕ) → WordAt m WANTED n → WordAt m TABLE table
      → WordAt m COUNT (length numbers) → address_of n (entries start numbers) ≡ o → (x y z : ℕ) (b v i c d : Bool)
      → Comes (under f own) (view x y z b v i c d SEARCH_AT (l ∷ h ∷ []) m text answers) (Searched l h m text answers o) [] 510
  searches l h m text answers n o left at count is x y z b v i c d =
      let size = entries_length start numbers in
      subst (λ o. Comes (under f own) (view x y z b v i c d SEARCH_AT (l ∷ h ∷ []) m text answers) (Searched l h m text answers o) [] 510) is
      (search_law (under f own) (omega (arith, fits)) block l h text answers m x y z b v i c d n table (entries start numbers) left at (subst (WordAt m COUNT) (sym size) count)
      laid.shown laid.from (omega (arith, size, laid.to)) (omega (arith, size, laid.some)) (subst (Rises 0 65536) (sym (entries_numbers start numbers)) laid.rising) laid.words)

  asks : (l h : ℕ) (m : ℕ → ℕ) (text answers : List ℕ) (o : Bool) (j : ℕ) (t : Turn) → m OPEN ≡ bit o → m COLUMN < 256 → AreBytes text
      → WordAt m LINE j → Entered f lo hi m → turn Nothing text ≡ t → (x y z : ℕ) (n b i c d : Bool)
      → Comes f (view x y z n b i c d INPUT_AT (l ∷ h ∷ own) m text answers) (asking.Ended f l h own m answers (m COLUMN) (prompt o) t)
      (prompt o ++ asking.turn_sends j t) (45 * length text + 463)
  asks l h m text answers o j t is_open column small line e is x y z n b i c d =
      subst (λ t. Comes f (view x y z n b i c d INPUT_AT (l ∷ h ∷ own) m text answers) (asking.Ended f l h own m answers (m COLUMN) (prompt o) t)
      (prompt o ++ asking.turn_sends j t) (45 * length text + 463)) is
      (input_law f 16 (let most : 13 ≤ 16 = omega arith in most) fits block lo hi [] (let deep : 6 ≤ 16 = omega arith in deep) l h text answers m e j
      line small o is_open (m COLUMN) (let r : m COLUMN ≡ m COLUMN % 256 = omega (arith, column) in r) x y z n b i c d)

  -- back at the caller, from INPUT
  taken : (l h : ℕ) (m : ℕ → ℕ) (answers : List ℕ) (stays : Bool) (v : ℕ) (left : List ℕ) (o : Bool) (w : View)
      → asking.Ended f l h own m answers (m COLUMN) (prompt o) (Got v stays left) w → Leaves (back_at l h) own left answers
      (Taken m (column_after (m COLUMN) (prompt o ++ line_end stays) % 256) v stays) w
  taken l h m answers true v left o w k = subst (λ t. Leaves (back_at l h) own left answers (Taken m (column_after (m COLUMN) t % 256) v true) w) (sym (append-nil (prompt o))) k
  taken l h m answers false v left true w k = k
  taken l h m answers false v left false w k = k

  routines : Routines table seed_option numbers start f lo hi keys (limit_by keys)
  routines = record {
    multiply = λ l h m text answers a b left right.
        from_here f _ _ m text answers _ [] (limit_by keys) (λ x y z n v i c d.
        beside f own _ _ _ _ _ _ [] 245 (limit_by keys) (omega arith)
        (multiply_law (under f own) (omega (arith, fits)) block l h text answers m x y z n v i c d a b left right)
        (λ w k. k));
    divide = λ l h m text answers a b left right some.
        from_here f _ _ m text answers _ [] (limit_by keys) (λ x y z n v i c d.
        beside f own _ _ _ _ _ _ [] 203 (limit_by keys) (omega arith)
        (divide_law (under f own) (omega (arith, fits)) block l h text answers m x y z n v i c d a b left right (⊎_elim (λ e. absurd (some e)) (λ e. e) (zero_or b)))
        (λ w k. k));
    divide_by_zero = λ l h m text answers a j left right line e.
        from_here f _ _ m text answers _ (fault_text 2 j) (limit_by keys) (λ x y z n v i c d.
        faulting f lo hi fits block l h 2 (let s : 2 < 10 = omega arith in s) m text answers j line e _ _ 10 (limit_by keys) (omega arith)
        (divide_by_zero_law (under f own) (omega (arith, fits)) block l h text answers m x y z n v i c d right)
        (unchanged m));
    number = λ l h m text answers a left column.
        from_here f _ _ m text answers _ (digits_of a) (limit_by keys) (λ x y z n v i c d.
        beside f own _ _ _ _ _ _ (digits_of a) 334 (limit_by keys) (omega arith)
        (number_law (under f own) (omega (arith, fits)) block l h text answers m x y z n v i c d a left column)
        (λ w k. record { column = k.column; others = λ p o q. k.others p (not_argument p (unless_scratch p o)) q }));
    text = λ l h m text answers at bytes pointer count shown small from to few column.
        from_here f _ _ m text answers _ bytes (limit_by keys) (λ x y z n v i c d.
        beside f own _ _ _ _ _ _ bytes (15 * length bytes + 3) (limit_by keys) (omega (arith, few))
        (text_law (under f own) (omega (arith, fits)) block l h text answers m x y z n v i c d at bytes (record {
          pointer = pointer;
          shown = shown;
          from = from;
          to = to;
          count = count;
          few = few;
          bytes_small = small;
        }))
        (λ w k. let s = k.column_small column in record { column = omega (arith, k.column, s); others = λ p o q. let r = not_pointer p (unless_scratch p o) in k.others p q r.0 r.1 r.2 }));
    zone = λ l h m text answers column.
        from_here f _ _ m text answers _ (zone (m COLUMN)) (limit_by keys) (λ x y z n v i c d.
        beside f own _ _ _ _ _ _ (zone (m COLUMN)) 65 (limit_by keys) (omega arith)
        (zone_law (under f own) (omega (arith, fits)) block l h text answers m x y z n v i c d column)
        (λ w k. record { column = k.column; others = λ p o q. k.others p refl q }));
    send = λ l h m text answers b small.
        from_a f _ b _ m text answers _ (b ∷ []) (limit_by keys) (λ y z n v i c d.
        beside f own _ _ _ _ _ _ (b ∷ []) 7 (limit_by keys) (omega arith)
        (send_law (under f own) (omega (arith, fits)) block l h text answers m b y z n v i c d small)
        (λ w k. record { column = k.column; others = λ p o q. k.others p refl q }));
    search = λ l h m text answers n left at count is.
        from_here f _ _ m text answers _ [] (limit_by keys) (λ x y z b v i c d.
        beside f own _ _ _ _ _ _ [] 510 (limit_by keys) (omega arith)
        (searches l h m text answers n (Some (start n)) left at count (found start numbers n is) x y z b v i c d)
        (λ w k. k));
    search_fails = λ l h m text answers n j left at count none line e.
        from_here f _ _ m text answers _ (fault_text 1 j) (limit_by keys) (λ x y z b v i c d.
        faulting f lo hi fits block l h 1 (let s : 1 < 10 = omega arith in s) m text answers j line e _ _ 510 (limit_by keys) (omega arith)
        (searches l h m text answers n None left at count (not_found start numbers n none) x y z b v i c d)
        (λ w k. record { line = k LINE refl; line_high = k (LINE + 1) refl; home_s = k HOME_S refl }));
    fault = λ k small m text answers n line e.
        from_a f _ k _ m text answers _ (fault_text k n) (limit_by keys) (λ y z b v i c d.
        looser f _ _ _ (fault_text k n) 416 (limit_by keys) (omega arith) (λ w h. h)
        (fault_law f 16 (let most : 13 ≤ 16 = omega arith in most) fits block lo hi [] (let deep : 2 ≤ 16 = omega arith in deep) text answers m e n line k y z b v i c d small));
    fault_line = λ k small m text answers n few e.
        from_line f _ k n _ m text answers _ (fault_text k n) (limit_by keys) (λ b v i c d.
        looser f _ _ _ (fault_text k n) 418 (limit_by keys) (omega arith) (λ w h. h)
        (subst (λ j. Comes f (view k (n % 256) (n / 256) b v i c d FAULT_LINE_AT own m text answers) (IsHome f) (fault_text k j) 418) (let s : n % 256 + 256 * (n / 256) ≡ n = omega arith in s)
        (fault_line_law f 16 (let most : 13 ≤ 16 = omega arith in most) fits block lo hi [] (let deep : 2 ≤ 16 = omega arith in
        deep) text answers m e k (n % 256) (n / 256) b v i c d small (omega arith) (omega (arith, few)))));
    pop = λ l h m text answers return_address returns count is few.
        from_here f _ _ m text answers _ [] (limit_by keys) (λ x y z n v i c d.
        beside f own _ _ _ _ _ _ [] 14 (limit_by keys) (omega arith)
        (pop_law (under f own) (omega (arith, fits)) block l h text answers m x y z n v i c d return_address returns (return_addresses m (return_address ∷ returns) count is few))
        (λ w k. k));
    pop_fails = λ l h m text answers j count line e.
        from_here f _ _ m text answers _ (fault_text 5 j) (limit_by keys) (λ x y z n v i c d.
        faulting f lo hi fits block l h 5 (let s : 5 < 10 = omega arith in s) m text answers j line e _ _ 6 (limit_by keys) (omega arith)
        (pop_none_law (under f own) (omega (arith, fits)) block l h text answers m x y z n v i c d (return_addresses m [] count tt (let s : 0 ≤ deepest = omega arith in s)))
        (unchanged m));
    random = λ l h m text answers a seed right left stored_at range.
        let g = not_zero a range in
        let now = seed_at m seed_option seed stored_at in
        from_here f _ _ m text answers _ [] (limit_by keys) (λ x y z n v i c d.
        beside f own _ _ _ _ _ _ [] 242 (limit_by keys) (omega arith)
        (subst (λ s. Comes (under f own) (view x y z n v i c d RANDOM_AT (l ∷ h ∷ []) m text answers) (Back l h text answers (Drawn m a s)) [] 242) now.2
        (random_law (under f own) (omega (arith, fits)) block l h text answers m x y z n v i c d a seed_option now.0 right left now.1 g.0 g.1))
        (λ w k. k));
    random_fails = λ l h m text answers a j right range line e.
        from_here f _ _ m text answers _ (fault_text 3 j) (limit_by keys) (λ x y z n v i c d.
        faulting f lo hi fits block l h 3 (let s : 3 < 10 = omega arith in s) m text answers j line e _ _ 6 (limit_by keys) (omega arith)
        (random_range_law (under f own) (omega (arith, fits)) block l h text answers m x y z n v i c d a right (bad_range a range))
        (unchanged m));
    push = λ l h m text answers return_address returns left count is few.
        from_here f _ _ m text answers _ [] (limit_by keys) (λ x y z n v i c d.
        beside f own _ _ _ _ _ _ [] 13 (limit_by keys) (omega arith)
        (push_law (under f own) (omega (arith, fits)) block l h text answers m x y z n v i c d return_address returns left (return_addresses m returns count is (omega (arith, few))) few)
        (λ w k. k));
    push_fails = λ l h m text answers returns j count is full line e.
        from_here f _ _ m text answers _ (fault_text 4 j) (limit_by keys) (λ x y z n v i c d.
        faulting f lo hi fits block l h 4 (let s : 4 < 10 = omega arith in s) m text answers j line e _ _ 7 (limit_by keys) (omega arith)
        (push_full_law (under f own) (omega (arith, fits)) block l h text answers m x y z n v i c d returns (return_addresses m returns count is (omega (arith, full))) full)
        (unchanged m));
    input = λ l h m text answers o stays v left j is_open column small few line e got.
        from_here f _ _ m text answers _ (prompt o ++ line_end stays) (limit_by keys) (λ x y z n b i c d.
        looser f _ _ _ (prompt o ++ line_end stays) (45 * length text + 463) (limit_by keys) (omega (arith, few)) (λ w k. taken l h m answers stays v left o w k)
        (subst (λ s. Comes f (view x y z n b i c d INPUT_AT (l ∷ h ∷ own) m text answers) (asking.Ended f l h own m answers (m COLUMN) (prompt o)
        (Got v stays left)) s (45 * length text + 463)) (ends_with o stays v left j)
        (asks l h m text answers o j (Got v stays left) is_open column small line e got x y z n b i c d)));
    input_fails = λ l h m text answers o j is_open column small few got line e.
        from_here f _ _ m text answers _ (prompt o ++ fault_text 6 j) (limit_by keys) (λ x y z n b i c d.
        looser f _ _ _ (prompt o ++ fault_text 6 j) (45 * length text + 463) (limit_by keys) (omega (arith, few)) (λ w k. k)
        (asks l h m text answers o j Bad is_open column small line e got x y z n b i c d));
    input_waits = λ l h m text answers o j is_open column small few got line e.
        from_here f _ _ m text answers _ (prompt o) (limit_by keys) (λ x y z n b i c d.
        looser f _ _ _ (prompt o) (45 * length text + 463) (limit_by keys) (omega (arith, few)) (λ w k. record { waits = k.0; deep = omega (arith, k.1) })
        (subst (λ s. Comes f (view x y z n b i c d INPUT_AT (l ∷ h ∷ own) m text answers) (λ w. IsWaiting w × (length w.stack ≤ 6)) s (45 * length text + 463)) (append-nil (prompt o))
        (asks l h m text answers o j Dry is_open column small line e got x y z n b i c d)));
    poll = λ l h m text answers j small other line e.
        from_here f _ _ m text answers _ [] (limit_by keys) (λ x y z n v i c d.
        looser f _ _ _ [] 5 (limit_by keys) (omega arith) (λ w k. k)
        ((poll_law f 16 (let most : 13 ≤ 16 = omega arith in most) fits block lo hi [] (let deep : 6 ≤ 16 = omega arith in deep) l h text answers m e
        j line (first_small answers small) x y z n v i c d).0 (λ q. let bad : true ≡ false = sym (eq-eqb (first_or_zero answers) 3 q) ∙ other in cc)));
    poll_breaks = λ l h m text answers j small stop line e.
        from_here f _ _ m text answers _ (fault_text 0 j) (limit_by keys) (λ x y z n v i c d.
        looser f _ _ _ (fault_text 0 j) 422 (limit_by keys) (omega arith) (λ w k. k)
        ((poll_law f 16 (let most : 13 ≤ 16 = omega arith in most) fits block lo hi [] (let deep : 6 ≤ 16 = omega arith in deep) l h text answers m e
        j line (first_small answers small) x y z n v i c d).1 (eqb-true (first_or_zero answers) 3 stop)));
  }

-- all routines in the form that the lines' code needs
pub all_laws : AllLaws
all_laws = routines
