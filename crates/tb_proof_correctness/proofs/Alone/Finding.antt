-- The laws of jumps to a line whose number is a word.
use Rattle.std.proofs.Common.{◌≡◌, ℕ, suc, ◌+◌, ◌*◌, ◌/◌, ◌%◌, ◌<◌, ◌≤◌, Bool, true, false, List, [], ◌∷◌, length, refl, sym, ap, ◌∙◌, subst, arith, true≢false}
use Rattle.std.specs.Prelude.{nat_lt}
use Rattle.std.proofs.lemmas.Bool.{ltb-true, ltb-false}
use Rattle.std.proofs.lemmas.List.{length-map}
use Rattle.tb_basic_meaning.specs.Control.{At, State, deepest, fault_text, has_line, next_after}
use Rattle.tb_lower.specs.Slots.{Instr, Slots, SlotCode, Whole}
use Rattle.tb_machine_reaching.proofs.Comes.{chained, looser}
use Rattle.tb_machine_reaching.specs.Start.{IsHome}
use Rattle.tb_machine_reaching.specs.View.{Comes, Fits, View}
use Rattle.tb_runtime16.specs.Routines.{Here, Moves, WordAt}
use Rattle.tb_compiled_kept.specs.Addresses.{COUNT, HOME_S, LEFT, LINE, NOTES, RESULT, TABLE, WANTED}
use Rattle.tb_runtime16.specs.Addresses.{PUSH_AT, SEARCH_AT}
use Rattle.tb_runtime16.proofs.StatePlaces.{not_pushed, not_searched}
use Rattle.tb_proof_simulation.specs.Layout.{place_address}
use Rattle.tb_proof_simulation.proofs.Frames.{state_pushed, word_away, word_kept, word_put}
use Rattle.tb_proof_simulation.proofs.Mirrors.{return_addresses}
use Rattle.tb_proof_simulation.proofs.Pieces.{calls, jumps, jumps_through, points, put_word, sets}
use Rattle.tb_proof_simulation.proofs.Resolved.{Code, Lies, Piece, call, find_code, jump_through, looked_up, pointed, size, next_at}
use Rattle.tb_proof_simulation.proofs.Returning.{back_here, behind_call, homed_kept}
use Rattle.tb_compiler_selection.specs.declared.liveness.Live.{Live}
use Rattle.tb_compiler_selection.specs.Groups.{AsLine, AsSubroutine, Operand, Usage, Use, use_of}
use Rattle.tb_compiler_selection.specs.Liveness.{live}
use Rattle.tb_proof_correctness.proofs.Relation.Frames.{state_placed}
use Rattle.tb_proof_correctness.proofs.Relation.GroupInvariants.{Kept, arrived, kept_lined, kept_put, kept_scratch, lined, lines, numbered}
use Rattle.tb_proof_correctness.proofs.Relation.Matching.{Matches}
use Rattle.tb_compiler_templates.specs.declared.sources.Source.{Source}
use Rattle.tb_compiler_templates.specs.Sources.{source_of}
use Rattle.tb_compiler_program.specs.Search.{compares}
use Rattle.tb_compiler_program.proofs.Taken.{few_compared}
use Rattle.tb_proof_correctness.proofs.Alone.Comparing.{asks, compares_all}
use Rattle.tb_proof_correctness.proofs.CodeBytes.GroupCode.{GroupsLaid, brought, high, low, searched}
use Rattle.tb_proof_correctness.proofs.Slots.OneWord.{spread_use, use_fits, use_reads, word_asked}
use Rattle.tb_proof_correctness.proofs.Relation.Operands.{OperandFits, operand_before, operand_held}
use Rattle.tb_proof_correctness.proofs.Relation.Ready.{Ready}
use Rattle.tb_proof_correctness.proofs.Slots.SlotSide.{fetched, fetched_length, with_fetched}
use Rattle.tb_proof_correctness.proofs.Pieces.Sources.{value}
use Rattle.tb_proof_correctness.proofs.Pieces.Sums.{brings}
use Rattle.tb_proof_correctness.proofs.Relation.Surroundings.{Serves, Surroundings}

module _ (around : Surroundings) (fits : Fits around.f 16) (limit : ℕ) (rs : Serves around limit) (wide : 300 ≤ limit) (code : SlotCode)
    (laid : GroupsLaid around.ly around.f.code around.f.whole code) (n : ℕ) (is : List Instr) (s : State) (r : Slots) (w : View) where
  open around use {ly, f, lo, hi}

  abbrev own : List ℕ
  own = lo ∷ hi ∷ []

  abbrev at : ℕ
  at = w.regs.pc + 10

  -- numbers of few lines are compared
  few_lines : compares code ≡ true → length ly.numbers < 64
  few_lines e = let f = few_compared code e in let s = ap length laid.numbered in omega (arith, f, s)

  -- how many Go events a search takes at most that finds no line
  abbrev most_lost : ℕ
  most_lost = 16 + 4 * 63 + limit

  -- ---- a use that searches for a line first
  module _ (how : Usage) (a : Operand) (others : List Piece) (h : Ready around n (Use how a) (spread_use how a is) is s r w) (lies : Lies f.code w.regs.pc (searched ly n (source_of 0 a) others)) where
    abbrev wish : ℕ
    wish = fetched s r 0 a

    abbrev src : Source
    src = source_of 0 a

    abbrev asked : Live
    asked = live (spread_use how a is)

    fit : OperandFits a
    fit = use_fits how a h.ranged

    -- where the search is called
    abbrev call_at : ℕ
    call_at = at + size (brought src WANTED)

    -- memory with the line's number, the number that is sought, the table and its count
    abbrev one : ℕ → ℕ
    one = lined h

    abbrev two : ℕ → ℕ
    two = put_word one WANTED (value one (low src)) (value one (high src))

    abbrev three : ℕ → ℕ
    three = put_word two TABLE (ly.table % 256) (ly.table / 256)

    abbrev sought : ℕ → ℕ
    sought = put_word three COUNT (length ly.numbers % 256) (length ly.numbers / 256)

    kept_one : Kept around asked s r one
    kept_one = kept_lined h

    kept_sought : Kept around asked s r sought
    kept_sought =
        kept_put around asked s r three COUNT (length ly.numbers % 256) (length ly.numbers / 256) h.some_read refl refl
        (kept_put around asked s r two TABLE (ly.table % 256) (ly.table / 256) h.some_read refl refl
        (kept_put around asked s r one WANTED _ _ h.some_read refl refl kept_one))

    number : WordAt sought LINE n
    number =
        word_away three COUNT _ _ LINE n (λ e. omega (arith, e)) (λ e. omega (arith, e)) (λ e. omega (arith, e))
        (word_away two TABLE _ _ LINE n (λ e. omega (arith, e)) (λ e. omega (arith, e)) (λ e. omega (arith, e))
        (word_away one WANTED _ _ LINE n (λ e. omega (arith, e)) (λ e. omega (arith, e)) (λ e. omega (arith, e)) (numbered h)))

    abbrev back_low : ℕ
    back_low = (call_at + 2) % 256

    abbrev back_high : ℕ
    back_high = (call_at + 2) / 256

    abbrev bs : List ℕ
    bs = back_low ∷ back_high ∷ own

    -- up to the search
    searches : (q : View → Type 0) (t : List ℕ) (k : ℕ) → Moves f (Here ly.find bs two w.text w.answers) q t k → Comes f w q t (4 + (4 + (1 + k)))
    searches q t k next =
        lines fits h lies.0 lies.1 q t (4 + (1 + k)) (λ u e.
        chained f u _ q [] t 4 (1 + k) (brings f 16 fits at own one w.text w.answers refl src WANTED lies.2.0
        (operand_before 0 a WANTED (omega arith) (omega arith) fit) (refl, refl) lies.2.1 u e) (λ u e.
        chained f u _ q [] t 1 k (calls f 16 fits call_at own two w.text w.answers refl ly.find refl lies.2.2.0 lies.2.2.1 u e) next))

    -- from the search in the line table to the routine that does it
    looks : (place : ℕ) → Lies f.code place (looked_up ly) → (q : View → Type 0) (t : List ℕ) (k : ℕ) → Moves f (Here SEARCH_AT bs sought w.text w.answers) q t k
        → Moves f (Here place bs two w.text w.answers) q t (9 + k)
    looks place there q t k next u e =
        looser f u q q t (4 + (4 + (1 + k))) (9 + k) (omega arith) (λ v z. z)
        (chained f u _ q [] t 4 (4 + (1 + k)) (points f 16 fits place bs two w.text w.answers refl ly.table TABLE there.0 (refl, refl) there.1 u e) (λ u e.
        chained f u _ q [] t 4 (1 + k) (sets f 16 fits (place + 8) bs three w.text w.answers refl (length ly.numbers) COUNT there.2.0 (refl, refl) there.2.1 u e) (λ u e.
        chained f u _ q [] t 1 k (jumps f 16 fits (place + 8 + 10) bs sought w.text w.answers refl SEARCH_AT there.2.2.1 u e) next)))

    wished : WordAt two WANTED wish
    wished =
        let v = operand_held ly s asked r one 0 a kept_one.state kept_one.read fit (word_asked 0 a (use_of how) is (use_reads how is)) in
        word_put one WANTED _ _ _ v.low_byte v.high_byte v.small

    wanted : WordAt sought WANTED wish
    wanted =
        word_away three COUNT _ _ WANTED _ (λ e. omega (arith, e)) (λ e. omega (arith, e)) (λ e. omega (arith, e))
        (word_away two TABLE _ _ WANTED _ (λ e. omega (arith, e)) (λ e. omega (arith, e)) (λ e. omega (arith, e)) wished)

    in_table : WordAt sought TABLE ly.table
    in_table = word_away three COUNT _ _ TABLE _ (λ e. omega (arith, e)) (λ e. omega (arith, e)) (λ e. omega (arith, e))
        (word_put two TABLE (ly.table % 256) (ly.table / 256) _ refl refl laid.table_small)

    counted : WordAt sought COUNT (length ly.numbers)
    counted = word_put three COUNT (length ly.numbers % 256) (length ly.numbers / 256) _ refl refl laid.count_small

    -- memory with the line's address, if a comparison found it
    abbrev given : ℕ → ℕ
    given = put_word two RESULT (ly.start wish % 256) (ly.start wish / 256)

    kept_given : Kept around asked s r given
    kept_given =
        kept_put around asked s r two RESULT _ _ h.some_read refl refl
        (kept_put around asked s r one WANTED _ _ h.some_read refl refl kept_one)

    -- the line's number is set in it
    lined_given : WordAt given LINE n
    lined_given =
        word_away two RESULT _ _ LINE n (λ e. omega (arith, e)) (λ e. omega (arith, e)) (λ e. omega (arith, e))
        (word_away one WANTED _ _ LINE n (λ e. omega (arith, e)) (λ e. omega (arith, e)) (λ e. omega (arith, e)) (numbered h))

    found_there : WordAt given RESULT (ly.start wish)
    found_there = word_put two RESULT _ _ _ refl refl (laid.places (At wish))

    -- after the search, with the line's address
    abbrev Then : (View → Type 0) → List ℕ → ℕ → Type 0
    Then q t k =
        (u : View) → Kept around asked s r u.mem → WordAt u.mem LINE n → WordAt u.mem RESULT (ly.start wish) → Here (call_at + 3) own u.mem w.text w.answers u → Comes f u q t k

    -- the search finds a line that there is, by whether numbers are compared
    finds_by : has_line ly.numbers wish ≡ true → (q : View → Type 0) (t : List ℕ) (k : ℕ) → Then q t k
        → (c : Bool) → compares code ≡ c → Lies f.code ly.find (find_code c ly) → Moves f (Here ly.find bs two w.text w.answers) q t (9 + (limit + k))
    finds_by found q t k next false none there u e =
        looks ly.find there q t (limit + k) (λ u e.
        chained f u _ q [] t limit k (rs.search back_low back_high sought w.text w.answers wish wanted in_table counted found u e) (λ u g.
        next u (kept_scratch around asked s r sought u.mem h.some_read (λ p z. g.memory.others p (not_searched p z)) kept_sought)
        (word_kept sought u.mem LINE n (g.memory.others LINE refl) (g.memory.others (LINE + 1) refl) number)
        g.memory.result
        (back_here _ _ w.text w.answers _ u g (behind_call call_at lies.2.2.0)))) u e
    finds_by found q t k next true some there u e =
        let few = few_lines some in
        looser f u q q t (2 + (4 * length ly.numbers + (5 + k))) (9 + (limit + k)) (omega (arith, few, wide)) (λ v z. z)
        (chained f u _ q [] t 2 (4 * length ly.numbers + (5 + k)) (asks f fits back_low back_high lo hi two w.text w.answers wish ly.find there.0 wished there.1 u e)
        (compares_all f fits back_low back_high lo hi two w.text w.answers ly wish wished.small ly.numbers 0 laid.rising (ly.find + 6) (looked_up ly) there.2 q t k
        (λ yes v g. next v (subst (Kept around asked s r) (sym g.mem) kept_given) (subst (λ m. WordAt m LINE n) (sym g.mem) lined_given)
        (subst (λ m. WordAt m RESULT (ly.start wish)) (sym g.mem) found_there)
        (record { pc = g.pc ∙ behind_call call_at lies.2.2.0; stack = g.stack; binary = g.binary; mem = refl; text = g.text; answers = g.answers }))
        (λ no. absurd (true≢false (sym found ∙ no)))))

    finds : has_line ly.numbers wish ≡ true → (q : View → Type 0) (t : List ℕ) (k : ℕ) → Then q t k
        → Comes f w q t (4 + (4 + (1 + (9 + (limit + k)))))
    finds found q t k next = searches q t (9 + (limit + k)) (finds_by found q t k next (compares code) refl laid.find)

    -- it faults if there is no such line
    loses_by : has_line ly.numbers wish ≡ false → (c : Bool) → compares code ≡ c → Lies f.code ly.find (find_code c ly)
        → Moves f (Here ly.find bs two w.text w.answers) (IsHome f) (fault_text 1 n) most_lost
    loses_by lost false none there u e = looser f u _ _ (fault_text 1 n) (9 + limit) most_lost (omega arith) (λ v z. z) (fails ly.find there u e)
      where
        fails : (place : ℕ) → Lies f.code place (looked_up ly) → Moves f (Here place bs two w.text w.answers) (IsHome f) (fault_text 1 n) (9 + limit)
        fails place there = looks place there (IsHome f) (fault_text 1 n) limit (rs.search_fails back_low back_high sought w.text w.answers wish n wanted in_table counted lost number kept_sought.homed)
    loses_by lost true some there u e =
        let few = few_lines some in
        looser f u _ _ (fault_text 1 n) (2 + (4 * length ly.numbers + (5 + (9 + limit)))) most_lost (omega (arith, few)) (λ v z. z)
        (chained f u _ _ [] (fault_text 1 n) 2 (4 * length ly.numbers + (5 + (9 + limit))) (asks f fits back_low back_high lo hi two w.text w.answers wish ly.find there.0 wished there.1 u e)
        (compares_all f fits back_low back_high lo hi two w.text w.answers ly wish wished.small ly.numbers 0 laid.rising (ly.find + 6) (looked_up ly) there.2 (IsHome f)
        (fault_text 1 n) (9 + limit) (λ yes. absurd (true≢false (sym yes ∙ lost)))
        (λ no place there. looks place there (IsHome f) (fault_text 1 n) limit
        (rs.search_fails back_low back_high sought w.text w.answers wish n wanted in_table counted lost number kept_sought.homed))))

    lost_line : has_line ly.numbers wish ≡ false → Comes f w (IsHome f) (fault_text 1 n) (4 + (4 + (1 + most_lost)))
    lost_line lost = searches (IsHome f) (fault_text 1 n) most_lost (loses_by lost (compares code) refl laid.find)

  module _ (a : Operand) where
    abbrev place : ℕ
    place = fetched s r 0 a

    -- the slots after it
    abbrev slots : Slots
    slots = with_fetched s r 0 a

    all_slots : length r.words ≡ 16 → length slots.words ≡ 16
    all_slots e = fetched_length s r 0 a ∙ e

    -- the address after the search
    abbrev found_at : ℕ
    found_at = at + size (brought (source_of 0 a) WANTED) + 3

    module _ (h : Ready around n (Use AsLine a) (spread_use AsLine a is) is s r w) where
      -- GOTO a computed line that there is
      pub jump_found : has_line ly.numbers place ≡ true → Comes f w (Matches around (record { state = record s { place = At place }; rest = Whole; slots = slots })) [] (19 + limit)
      jump_found found =
          looser f w _ _ [] (4 + (4 + (1 + (9 + (limit + 1))))) (19 + limit) (omega arith) (λ u x. x)
          (finds AsLine a (Code jump_through ∷ []) h h.lies found _ [] 1 (λ u c l result e.
          looser f u _ _ [] 1 1 (omega arith)
          (arrived around (record s { place = At place }) slots (ly.start place) u.mem w.text w.answers refl
          (state_placed ly (At place) s u.mem c.state) (all_slots h.read.all_words) c.homed h.text h.answers h.short)
          (jumps_through f 16 fits found_at own u.mem w.text w.answers refl (ly.start place) result h.lies.2.2.2.1 u e)))

      -- GOTO a computed line that there is not is fault 1
      pub jump_fails : has_line ly.numbers place ≡ false → Comes f w (IsHome f) (fault_text 1 n) (34 + (limit + limit))
      jump_fails lost = looser f w _ _ (fault_text 1 n) (4 + (4 + (1 + most_lost))) (34 + (limit + limit)) (omega (arith, wide)) (λ u x. x) (lost_line AsLine a (Code jump_through ∷ []) h h.lies lost)

    module _ (h : Ready around n (Use AsSubroutine a) (spread_use AsSubroutine a is) is s r w) where
      -- the template after the search
      abbrev behind : List Piece
      behind = Code (pointed (next_at ly n) LEFT) ∷ Code (call PUSH_AT) ∷ Code jump_through ∷ []

      abbrev calls_for : Live
      calls_for = live (spread_use AsSubroutine a is)

      abbrev returning : View → ℕ → ℕ
      returning u = put_word u.mem LEFT (next_at ly n % 256) (next_at ly n / 256)

      -- up to Push, if the line was found
      calls_push : has_line ly.numbers place ≡ true → (q : View → Type 0) (t : List ℕ) (b : ℕ)
          → ((u : View) → WordAt (returning u) RESULT (ly.start place) → WordAt (returning u) LINE n → Kept around calls_for s r (returning u)
          → Moves f (Here PUSH_AT ((found_at + 8 + 2) % 256 ∷ (found_at + 8 + 2) / 256 ∷ own) (returning u) w.text w.answers) q t b)
          → Comes f w q t (4 + (4 + (1 + (9 + (limit + (4 + (1 + b)))))))
      calls_push found q t b next =
          let lies = h.lies.2.2.2 in
          finds AsSubroutine a behind h h.lies found q t (4 + (1 + b)) (λ u c l result e.
          chained f u _ q [] t 4 (1 + b) (points f 16 fits found_at own u.mem w.text w.answers refl (next_at ly n) LEFT lies.0 (refl, refl) lies.1 u e) (λ v e.
          chained f v _ q [] t 1 b (calls f 16 fits (found_at + 8) own (returning u) w.text w.answers refl PUSH_AT refl lies.2.0 lies.2.1 v e)
          (next u
          (word_away u.mem LEFT _ _ RESULT _ (λ e. omega (arith, e)) (λ e. omega (arith, e)) (λ e. omega (arith, e)) result)
          (word_away u.mem LEFT _ _ LINE n (λ e. omega (arith, e)) (λ e. omega (arith, e)) (λ e. omega (arith, e)) l)
          (kept_put around calls_for s r u.mem LEFT _ _ h.some_read refl refl c))))

      -- GOSUB to a computed line that there is, with room on the return list
      pub call_found : has_line ly.numbers place ≡ true → nat_lt (length s.returns) deepest ≡ true
          → Comes f w (Matches around (record {
            state = record s { place = At place; returns = next_after ly.numbers n ∷ s.returns };
            rest = Whole;
            slots = slots;
          })) [] (34 + (limit + limit))
      call_found found free =
          let few : length s.returns < deepest = omega (arith, ltb-true _ _ free) in
          let same : length (return_addresses ly s.returns) ≡ length s.returns = length-map s.returns (place_address ly) in
          looser f w _ _ [] (4 + (4 + (1 + (9 + (limit + (4 + (1 + (limit + 1)))))))) (34 + (limit + limit)) (omega arith) (λ u x. x)
          (calls_push found _ [] (limit + 1) (λ u result l c v e.
          chained f v _ _ [] [] limit 1 (rs.push _ _ (returning u) w.text w.answers (next_at ly n) (return_addresses ly s.returns)
          (word_put u.mem LEFT _ _ _ refl refl (laid.places (next_after ly.numbers n))) (subst (λ k. WordAt (returning u) NOTES k)
          (sym same) c.state.count) c.state.returns (omega (arith, few, same)) v e) (λ x g.
          looser f x _ _ [] 1 1 (omega arith)
          (arrived around (record s { place = At place; returns = next_after ly.numbers n ∷ s.returns }) slots (ly.start place) x.mem w.text w.answers refl
          (state_pushed ly s (returning u) x.mem c.state (At place) (next_after ly.numbers n) few
          (subst (λ k. WordAt x.mem NOTES (suc k)) same g.memory.returns.count) g.memory.returns.held
          (λ p from to z y. g.memory.others p (not_pushed p from to z y))) (all_slots h.read.all_words)
          (homed_kept (returning u) x.mem (g.memory.others HOME_S refl) c.homed)
          h.text h.answers h.short)
          (jumps_through f 16 fits (found_at + 8 + 3) own x.mem w.text w.answers refl (ly.start place) (word_kept (returning u) x.mem RESULT _
          (g.memory.others RESULT refl) (g.memory.others (RESULT + 1) refl) result) h.lies.2.2.2.2.2.1 x
          (back_here _ _ w.text w.answers _ x g (behind_call (found_at + 8) h.lies.2.2.2.2.0))))))

      -- GOSUB to a computed line with a full return list is fault 4
      pub call_full : has_line ly.numbers place ≡ true → nat_lt (length s.returns) deepest ≡ false → Comes f w (IsHome f) (fault_text 4 n) (34 + (limit + limit))
      call_full found full =
          let t = fault_text 4 n in
          looser f w _ _ t (4 + (4 + (1 + (9 + (limit + (4 + (1 + limit))))))) (34 + (limit + limit)) (omega arith) (λ u x. x)
          (calls_push found _ t limit (λ u result l c. rs.push_fails _ _ (returning u) w.text w.answers (return_addresses ly s.returns) n
          (subst (λ k. WordAt (returning u) NOTES k) (sym (length-map s.returns (place_address ly))) c.state.count) c.state.returns
          (omega (arith, ltb-false _ _ full, c.state.few, length-map s.returns (place_address ly))) l c.homed))

      -- GOSUB to a computed line that there is not is fault 1
      pub call_fails : has_line ly.numbers place ≡ false → Comes f w (IsHome f) (fault_text 1 n) (34 + (limit + limit))
      call_fails lost = looser f w _ _ (fault_text 1 n) (4 + (4 + (1 + most_lost))) (34 + (limit + limit)) (omega (arith, wide)) (λ u x. x) (lost_line AsSubroutine a behind h h.lies lost)
