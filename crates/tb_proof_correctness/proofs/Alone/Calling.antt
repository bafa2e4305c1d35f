-- The laws of GOSUB to a constant line and of RETURN: in line if the count of returns fits in its low byte, and else
-- by the routines.
use Rattle.std.proofs.Common.{◌≡◌, ◌≢◌, ◌⊎◌, inl, inr, ℕ, suc, ◌+◌, ◌/◌, ◌%◌, ◌≤◌, ◌<◌, Bool, true, false, List, []}
use Rattle.std.proofs.Common.{◌∷◌, length, refl, sym, ◌∙◌, subst, arith, eqb, ⊎_elim}
use Rattle.std.specs.Prelude.{nat_lt}
use Rattle.std.proofs.lemmas.Bool.{cases_eq, eq-eqb, ne_eqb, ltb-true, ltb-false}
use Rattle.std.proofs.lemmas.List.{length-map}
use Rattle.tb_basic_meaning.specs.Control.{At, Place, State, deepest, fault_text, has_line, next_after}
use Rattle.tb_lower.specs.Slots.{Instr, CallTo, Return, Slots, SlotCode, Whole}
use Rattle.tb_machine_reaching.proofs.Comes.{chained, looser}
use Rattle.tb_machine_reaching.specs.Start.{IsHome}
use Rattle.tb_machine_reaching.specs.View.{Comes, Fits, View}
use Rattle.tb_runtime16.specs.Routines.{Here, Moves, AreReturns, WordAt}
use Rattle.tb_compiled_kept.specs.Addresses.{HOME_S, LEFT, LINE, NOTES}
use Rattle.tb_runtime16.specs.Addresses.{POP_AT, PUSH_AT}
use Rattle.tb_runtime16.proofs.StatePlaces.{not_popped, not_pushed}
use Rattle.tb_proof_simulation.specs.Layout.{place_address}
use Rattle.tb_proof_simulation.proofs.Frames.{state_popped, state_pushed, word_away, word_put}
use Rattle.tb_proof_simulation.proofs.Mirrors.{Flagged, return_addresses}
use Rattle.tb_proof_simulation.proofs.Pieces.{calls, jumps, jumps_by_left, jumps_through, points, put_word, sets}
use Rattle.tb_proof_simulation.proofs.Resolved.{Lies, highest_code, next_at}
use Rattle.tb_proof_simulation.proofs.Returning.{back_here, apart, behind_call, homed_kept}
use Rattle.tb_compiler_selection.specs.Groups.{Single}
use Rattle.tb_compiler_selection.specs.Liveness.{live}
use Rattle.tb_proof_correctness.proofs.Pieces.Branches.{branch_behind, branches}
use Rattle.tb_proof_correctness.proofs.CodeBytes.GroupCode.{BranchReaches, CallReaches, GroupsLaid, Way, Zero, call_code, called_code, counted_at, going_code, low_code}
use Rattle.tb_proof_correctness.proofs.CodeBytes.GroupCode.{held_at, noting_code, popping_at, popping_code, pushing_at, pushing_code, raising_code, some_at, taking_code}
use Rattle.tb_proof_correctness.proofs.CodeBytes.GroupCode.{way_size}
use Rattle.tb_proof_correctness.proofs.Alone.Faults.{faults_at}
use Rattle.tb_proof_correctness.proofs.Relation.GroupInvariants.{Kept, arrived, kept_lined, kept_put, lined, numbered}
use Rattle.tb_proof_correctness.proofs.Relation.Matching.{Matches}
use Rattle.tb_proof_correctness.proofs.Alone.Returning.{Added, Indexed, added, asks, carried, counted, dropped, index_small, raises, some, some_small, stores_return, taken, takes_return, with_return}
use Rattle.tb_proof_correctness.proofs.Relation.Ready.{Ready, here}
use Rattle.tb_proof_correctness.proofs.Relation.Surroundings.{Serves, Surroundings}

module _ (around : Surroundings) (fits : Fits around.f 16) (limit : ℕ) (rs : Serves around limit) (code : SlotCode)
    (laid : GroupsLaid around.ly around.f.code around.f.whole code) (n : ℕ) (is : List Instr) (s : State) (r : Slots) (w : View) where
  open around use {ly, f, lo, hi}

  abbrev own : List ℕ
  own = lo ∷ hi ∷ []

  abbrev start : ℕ
  start = w.regs.pc

  -- the returns, and the high byte of their count
  abbrev returns : List ℕ
  returns = return_addresses ly s.returns

  abbrev page : ℕ
  page = w.mem (NOTES + 1)

  same_length : length returns ≡ length s.returns
  same_length = length-map s.returns (place_address ly)

  -- ---- GOSUB
  module _ (t : ℕ) (h : Ready around n (Single (CallTo t)) (CallTo t ∷ is) is s r w) where
    call_lies : (b : Bool) → has_line ly.numbers t ≡ b → Lies f.code start (call_code ly n start h.first h.second b t)
    call_lies b e = subst (λ b. Lies f.code start (call_code ly n start h.first h.second b t)) e h.lies

    -- there is no such line
    pub call_to_fails : has_line ly.numbers t ≡ false → Comes f w (IsHome f) (fault_text 1 n) (4 + limit)
    call_to_fails lost = faults_at around fits limit rs n 1 h.small (omega arith) start w.mem w.text w.answers (call_lies false lost) h.homed w (here h)

    module _ (found : has_line ly.numbers t ≡ true) where
      abbrev first : Way
      first = h.first

      abbrev second : Way
      second = h.second

      abbrev return_address : ℕ
      return_address = next_at ly n

      return_small : return_address < 65536
      return_small = laid.places (next_after ly.numbers n)

      -- where the return is stored, the carry is tested, the line is gone to, and the routine is called
      abbrev storing : ℕ
      storing = start + 3 + way_size first

      abbrev asking : ℕ
      asking = counted_at first start

      abbrev going : ℕ
      going = held_at first second start

      abbrev pushing : ℕ
      pushing = pushing_at first second start

      lies : Lies f.code start (called_code ly n start first second t)
      lies = call_lies true found

      reach : BranchReaches first (start + 3) pushing × BranchReaches second asking going
      reach = subst (CallReaches first second start) found h.reach

      noting : Lies f.code storing (noting_code ly n start first second t)
      noting = (branch_behind f (start + 3) first Zero false pushing (noting_code ly n start first second t) lies.2).1

      raising : (asking + way_size second ≤ highest_code) × Lies f.code (asking + way_size second) (raising_code ly n t)
      raising = branch_behind f asking second Zero false going (raising_code ly n t) noting.2

      onward : Lies f.code going (going_code ly n t)
      onward = raising.1.2

      -- the state after it
      abbrev called : State
      called = record s { place = At t; returns = next_after ly.numbers n ∷ s.returns }

      abbrev Ends : View → Type 0
      Ends u = Matches around (record { state = called; rest = Whole; slots = r }) u

      -- a memory with the return, from where the line is gone to
      goes : (at : ℕ) (m : ℕ → ℕ) → length s.returns < deepest → WordAt m NOTES (suc (length s.returns)) → AreReturns m (return_address ∷ returns)
          → ((a : ℕ) → 0xC000 ≤ a → a ≤ 0xC061 → a ≢ NOTES → a ≢ NOTES + 1 → m a ≡ w.mem a) → (u : View) → Here (ly.start t) own m w.text w.answers u → Ends u
      goes at m few count held others =
          arrived around called r (ly.start t) m w.text w.answers refl
          (state_pushed ly s w.mem m h.state (At t) (next_after ly.numbers n) few count held others) h.read.all_words
          (homed_kept w.mem m (others HOME_S (omega arith) (omega arith) (λ e. omega (arith, e)) (λ e. omega (arith, e))) h.homed)
          h.text h.answers h.short

      module _ (near : page ≡ 0) where
        counts : WordAt w.mem NOTES (length returns)
        counts = subst (WordAt w.mem NOTES) (sym same_length) h.state.count

        few : w.mem NOTES < 256
        few = index_small w.mem return_address returns return_small counts h.state.returns near

        abbrev stored : ℕ → ℕ
        stored = counted f 16 fits own w.mem w.text w.answers refl storing (return_address % 256) (return_address / 256) few

        abbrev low : ℕ
        low = (with_return f 16 fits own w.mem w.text w.answers refl storing (return_address % 256) (return_address / 256) few NOTES + 1) % 256

        added_goes : (m : ℕ → ℕ) → Added w.mem return_address returns m → length s.returns < deepest → Moves f (Here going own m w.text w.answers) Ends [] 1
        added_goes m a free u e =
            looser f u _ _ [] 1 1 (omega arith)
            (goes going m free (subst (λ k. WordAt m NOTES (suc k)) same_length a.count) a.held (λ x lo hi p q. a.others x (omega (arith, hi)) p q))
            (jumps f 16 fits going own m w.text w.answers refl (ly.start t) onward.1 u e)

        by_carry : (z : Bool) → eqb low 0 ≡ z → length s.returns < deepest → Moves f (Flagged asking own stored w.text w.answers (eqb low 0)) Ends [] 4
        by_carry false e free u k =
            looser f u _ _ [] (2 + 1) 4 (omega arith) (λ v x. x)
            (chained f u _ _ [] [] 2 1 (branches f 16 fits own stored w.text w.answers refl asking second Zero false false going raising.0 reach.1 noting.2.1 u k.here (k.zero ∙ e))
            (λ v g. added_goes stored (added w.mem return_address returns return_small counts h.state.returns near e) free v g.here))
        by_carry true e free u k =
            chained f u _ _ [] [] 2 2 (branches f 16 fits own stored w.text w.answers refl asking second Zero false true going raising.0 reach.1 noting.2.1 u k.here (k.zero ∙ e)) (λ v g.
            chained f v _ _ [] [] 1 1 (raises f 16 fits own stored w.text w.answers refl (asking + way_size second) raising.1.0 raising.1.1 v g.here)
            (added_goes _ (carried w.mem return_address returns return_small counts h.state.returns near e) free))

        in_line : length s.returns < deepest → Comes f w Ends [] 13
        in_line free =
            chained f w _ _ [] [] 3 10 (asks f 16 fits own w.mem w.text w.answers refl start (NOTES + 1) pushing first false true
            (noting_code ly n start first second t) refl (eq-eqb page 0 near) reach.0 lies w (here h)) (λ u g.
            chained f u _ _ [] [] 6 4 (stores_return f 16 fits own w.mem w.text w.answers refl storing (return_address % 256)
            (return_address / 256) few noting.0 noting.1 u g.here) (by_carry (eqb low 0) refl free))

      -- ---- by the routine
      abbrev at : ℕ
      at = pushing + 10

      -- memory with the line's number, then with the address to return to
      abbrev one : ℕ → ℕ
      one = lined h

      abbrev two : ℕ → ℕ
      two = put_word one LEFT (return_address % 256) (return_address / 256)

      kept_two : Kept around (live (CallTo t ∷ is)) s r two
      kept_two = kept_put around (live (CallTo t ∷ is)) s r one LEFT (return_address % 256) (return_address / 256) h.some_read refl refl (kept_lined h)

      number : WordAt two LINE n
      number = word_away one LEFT _ _ LINE n (λ e. omega (arith, e)) (λ e. omega (arith, e)) (λ e. omega (arith, e)) (numbered h)

      routine : Lies f.code pushing (pushing_code ly n t)
      routine = onward.2

      up_to_push : page ≢ 0 → (q : View → Type 0) (l : List ℕ) (b : ℕ)
          → Moves f (Here PUSH_AT ((at + 8 + 2) % 256 ∷ (at + 8 + 2) / 256 ∷ own) two w.text w.answers) q l b → Comes f w q l (3 + (4 + (4 + (1 + b))))
      up_to_push far q l b next =
          chained f w _ q [] l 3 (4 + (4 + (1 + b))) (asks f 16 fits own w.mem w.text w.answers refl start (NOTES + 1) pushing first false false
          (noting_code ly n start first second t) refl (ne_eqb page 0 far) reach.0 lies w (here h)) (λ u g.
          chained f u _ q [] l 4 (4 + (1 + b)) (sets f 16 fits pushing own w.mem w.text w.answers refl n LINE routine.0 (refl, refl) routine.1 u g.here) (λ v e.
          chained f v _ q [] l 4 (1 + b) (points f 16 fits at own one w.text w.answers refl return_address LEFT routine.2.0 (refl, refl) routine.2.1 v e) (λ v e.
          chained f v _ q [] l 1 b (calls f 16 fits (at + 8) own two w.text w.answers refl PUSH_AT refl routine.2.2.0 routine.2.2.1 v e) next)))

      pushes : page ≢ 0 → length s.returns < deepest → Comes f w Ends [] (13 + limit)
      pushes far free =
          let c = kept_two in
          looser f w _ _ [] (3 + (4 + (4 + (1 + (limit + 1))))) (13 + limit) (omega arith) (λ u x. x)
          (up_to_push far _ [] (limit + 1) (λ v e.
          chained f v _ _ [] [] limit 1 (rs.push _ _ two w.text w.answers return_address returns (word_put one LEFT _ _ _ refl refl return_small)
          (subst (λ k. WordAt two NOTES k) (sym same_length) c.state.count) c.state.returns (omega (arith, free, same_length)) v e) (λ x g.
          looser f x _ _ [] 1 1 (omega arith)
          (arrived around called r (ly.start t) x.mem w.text w.answers refl
          (state_pushed ly s two x.mem c.state (At t) (next_after ly.numbers n) free
          (subst (λ k. WordAt x.mem NOTES (suc k)) same_length g.memory.returns.count) g.memory.returns.held
          (λ p from to z y. g.memory.others p (not_pushed p from to z y))) h.read.all_words
          (homed_kept two x.mem (g.memory.others HOME_S refl) c.homed)
          h.text h.answers h.short)
          (jumps f 16 fits (at + 8 + 3) own x.mem w.text w.answers refl (ly.start t) routine.2.2.2.1 x
          (back_here _ _ w.text w.answers _ x g (behind_call (at + 8) routine.2.2.0))))))

      -- GOSUB to a line that there is, with room on the return list
      pub call_to_found : nat_lt (length s.returns) deepest ≡ true → Comes f w Ends [] (13 + limit)
      call_to_found free =
          let room : length s.returns < deepest = omega (arith, ltb-true _ _ free) in
          ⊎_elim (λ near. looser f w _ _ [] 13 (13 + limit) (omega arith) (λ u x. x) (in_line near room)) (λ far. pushes far room) (cases_eq page 0)

      -- GOSUB with a full return list is fault 4
      pub call_to_full : nat_lt (length s.returns) deepest ≡ false → Comes f w (IsHome f) (fault_text 4 n) (12 + limit)
      call_to_full full =
          let c = kept_two in
          let all : length s.returns ≡ deepest = omega (arith, ltb-false _ _ full, c.state.few) in
          looser f w _ _ (fault_text 4 n) (3 + (4 + (4 + (1 + limit)))) (12 + limit) (omega arith) (λ u x. x)
          (up_to_push (λ z. omega (arith, z, all, h.state.count.high)) _ (fault_text 4 n) limit (rs.push_fails _ _ two w.text w.answers returns n
          (subst (λ k. WordAt two NOTES k) (sym same_length) c.state.count) c.state.returns (omega (arith, all, same_length)) number c.homed))

  -- ---- RETURN
  module _ (h : Ready around n (Single Return) (Return ∷ is) is s r w) where
    abbrev one_way : Way
    one_way = h.first

    abbrev other_way : Way
    other_way = h.second

    -- where the low byte is tested, the return is taken, and the routine is called
    abbrev low_at : ℕ
    low_at = some_at one_way start

    abbrev taking : ℕ
    taking = low_at + 3 + way_size other_way

    abbrev popping : ℕ
    popping = popping_at one_way other_way start

    low_lies : Lies f.code low_at (low_code n start one_way other_way)
    low_lies = (branch_behind f (start + 3) one_way Zero false popping (low_code n start one_way other_way) h.lies.2).1

    taking_lies : Lies f.code taking (taking_code n)
    taking_lies = (branch_behind f (low_at + 3) other_way Zero true popping (taking_code n) low_lies.2).1

    routine_lies : Lies f.code popping (popping_code n)
    routine_lies = taking_lies.2.2

    abbrev m : ℕ → ℕ
    m = lined h

    c : Kept around (live (Return ∷ is)) s r m
    c = kept_lined h

    -- the count's high byte is 0
    low_alone : page ≡ 0 → (q : View → Type 0) (l : List ℕ) (b : ℕ) → Moves f (Indexed f 16 fits own w.mem w.text w.answers refl low_at page) q l b → Comes f w q l (3 + b)
    low_alone near q l b next =
        chained f w _ q [] l 3 b (asks f 16 fits own w.mem w.text w.answers refl start (NOTES + 1) popping one_way false true
        (low_code n start one_way other_way) refl (eq-eqb page 0 near) h.reach.0 h.lies w (here h)) next

    -- up to the routine
    up_to_pop : (page ≢ 0) ⊎ (w.mem NOTES ≡ 0) → (q : View → Type 0) (l : List ℕ) (b : ℕ)
        → Moves f (Here POP_AT ((popping + 10 + 2) % 256 ∷ (popping + 10 + 2) / 256 ∷ own) m w.text w.answers) q l b → Comes f w q l (6 + (4 + (1 + b)))
    up_to_pop why q l b next = ⊎_elim by_page (λ none. ⊎_elim (by_none none) by_page (cases_eq page 0)) why
      where
        calls_pop : Moves f (Here popping own w.mem w.text w.answers) q l (4 + (1 + b))
        calls_pop u e =
            chained f u _ q [] l 4 (1 + b) (sets f 16 fits popping own w.mem w.text w.answers refl n LINE routine_lies.0 (refl, refl) routine_lies.1 u e) (λ v e.
            chained f v _ q [] l 1 b (calls f 16 fits (popping + 10) own m w.text w.answers refl POP_AT refl routine_lies.2.0 routine_lies.2.1 v e) next)

        by_page : page ≢ 0 → Comes f w q l (6 + (4 + (1 + b)))
        by_page far =
            looser f w _ _ l (3 + (4 + (1 + b))) (6 + (4 + (1 + b))) (omega arith) (λ u x. x)
            (chained f w _ q [] l 3 (4 + (1 + b)) (asks f 16 fits own w.mem w.text w.answers refl start (NOTES + 1) popping one_way false false
            (low_code n start one_way other_way) refl (ne_eqb page 0 far) h.reach.0 h.lies w (here h)) (λ u g.
            calls_pop u g.here))

        by_none : w.mem NOTES ≡ 0 → page ≡ 0 → Comes f w q l (6 + (4 + (1 + b)))
        by_none none near =
            looser f w _ _ l (3 + (3 + (4 + (1 + b)))) (6 + (4 + (1 + b))) (omega arith) (λ u x. x)
            (low_alone near q l (3 + (4 + (1 + b))) (λ u g.
            chained f u _ q [] l 3 (4 + (1 + b)) (asks f 16 fits own w.mem w.text w.answers refl low_at NOTES popping other_way true true
            (taking_code n) refl (eq-eqb (w.mem NOTES) 0 none) h.reach.1 low_lies u g.here) (λ v k.
            calls_pop v k.here)))

    module _ (p : Place) (ps : List Place) (q : s.returns ≡ p ∷ ps) where
      abbrev back : State
      back = record s { place = p; returns = ps }

      abbrev Returns : View → Type 0
      Returns u = Matches around (record { state = back; rest = Whole; slots = r }) u

      left_length : length (return_addresses ly ps) ≡ length ps
      left_length = length-map ps (place_address ly)

      pops : (page ≢ 0) ⊎ (w.mem NOTES ≡ 0) → Comes f w Returns [] (12 + limit)
      pops why =
          let few : suc (length ps) ≤ deepest = subst (λ l. length l ≤ deepest) q c.state.few in
          let held : AreReturns m (return_addresses ly (p ∷ ps)) = subst (λ l. AreReturns m (return_addresses ly l)) q c.state.returns in
          let count : WordAt m NOTES (suc (length ps)) = subst (λ l. WordAt m NOTES (length l)) q c.state.count in
          looser f w _ _ [] (6 + (4 + (1 + (limit + 1)))) (12 + limit) (omega arith) (λ u x. x)
          (up_to_pop why _ [] (limit + 1) (λ u e.
          chained f u _ _ [] [] limit 1 (rs.pop _ _ m w.text w.answers (place_address ly p) (return_addresses ly ps) (subst (λ k. WordAt m NOTES (suc k))
          (sym left_length) count) held (omega (arith, few, left_length)) u e) (λ u g.
          looser f u _ _ [] 1 1 (omega arith)
          (arrived around back r (place_address ly p) u.mem w.text w.answers refl
          (state_popped ly s m u.mem c.state p ps q (subst (λ k. WordAt u.mem NOTES k) left_length g.memory.returns.count) (λ p z y x. g.memory.gives.others p (not_popped p z y x))) h.read.all_words
          (homed_kept m u.mem (g.memory.gives.others HOME_S refl) c.homed)
          h.text h.answers h.short)
          (jumps_through f 16 fits (popping + 10 + 3) own u.mem w.text w.answers refl (place_address ly p) g.memory.gives.result routine_lies.2.2.1 u
          (back_here _ _ w.text w.answers _ u g (behind_call (popping + 10) routine_lies.2.0))))))

      takes : page ≡ 0 → Comes f w Returns [] 13
      takes near =
          let held : AreReturns w.mem (return_addresses ly (p ∷ ps)) = subst (λ l. AreReturns w.mem (return_addresses ly l)) q h.state.returns in
          let count : WordAt w.mem NOTES (suc (length ps)) = subst (λ l. WordAt w.mem NOTES (length l)) q h.state.count in
          let counts : WordAt w.mem NOTES (suc (length (return_addresses ly ps))) = subst (λ k. WordAt w.mem NOTES (suc k)) (sym left_length) count in
          let there = some w.mem (place_address ly p) (return_addresses ly ps) counts held near in
          let small = some_small w.mem (place_address ly p) (return_addresses ly ps) counts held near in
          let d = dropped w.mem (place_address ly p) (return_addresses ly ps) counts held near in
          low_alone near _ [] 10 (λ u g.
          chained f u _ _ [] [] 3 7 (asks f 16 fits own w.mem w.text w.answers refl low_at NOTES popping other_way true false (taking_code n) refl
          (ne_eqb (w.mem NOTES) 0 (λ z. omega (arith, z, there))) h.reach.1 low_lies u g.here) (λ u g.
          chained f u _ _ [] [] 6 1 (takes_return f 16 fits own w.mem w.text w.answers refl taking (w.mem NOTES) small taking_lies.0 taking_lies.1 u g) (λ u e.
          looser f u _ _ [] 1 1 (omega arith)
          (arrived around back r (place_address ly p) _ w.text w.answers refl
          (state_popped ly s w.mem _ h.state p ps q (subst (λ k. WordAt (taken f 16 fits own w.mem w.text w.answers refl taking (w.mem NOTES) small)
          NOTES k) left_length d.count) (λ a o n' n''. d.others a n' (apart a LEFT o refl) (apart a (LEFT + 1) o refl))) h.read.all_words
          (homed_kept w.mem _ (d.others HOME_S (λ e. omega (arith, e)) (λ e. omega (arith, e)) (λ e. omega (arith, e))) h.homed)
          h.text h.answers h.short)
          (jumps_by_left f 16 fits (taking + 14) own _ w.text w.answers refl (place_address ly p) d.address taking_lies.2.1 u e))))

      -- RETURN goes on at the newest return
      pub return_law : Comes f w Returns [] (13 + limit)
      return_law =
          ⊎_elim (λ near. looser f w _ _ [] 13 (13 + limit) (omega arith) (λ u x. x) (takes near))
          (λ far. looser f w _ _ [] (12 + limit) (13 + limit) (omega arith) (λ u x. x) (pops (inl far))) (cases_eq page 0)

    -- RETURN with an empty return list is fault 5
    pub return_fails : s.returns ≡ [] → Comes f w (IsHome f) (fault_text 5 n) (11 + limit)
    return_fails q =
        let count : WordAt m NOTES 0 = subst (λ l. WordAt m NOTES (length l)) q c.state.count in
        let none : WordAt w.mem NOTES 0 = subst (λ l. WordAt w.mem NOTES (length l)) q h.state.count in
        looser f w _ _ (fault_text 5 n) (6 + (4 + (1 + limit))) (11 + limit) (omega arith) (λ u x. x)
        (up_to_pop (inr none.low) _ (fault_text 5 n) limit (rs.pop_fails _ _ m w.text w.answers n count (numbered h) c.homed))
