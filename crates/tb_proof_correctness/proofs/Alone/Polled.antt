-- The law of a line's beginning: an answer is taken in line; LINE is unchanged.
use Rattle.std.proofs.Common.{◌≡◌, ℕ, ◌+◌, ◌/◌, ◌%◌, ◌≤◌, ◌<◌, cond, Bool, true, false, if◌then◌else◌, List, [], ◌∷◌}
use Rattle.std.proofs.Common.{drop, refl, sym, ap, ◌∙◌, subst, arith, eqb, Option, Some, None, inl, inr}
use Rattle.std.specs.Prelude.{nat_eq}
use Rattle.tb_basic_syntax.specs.Source.{numbers}
use Rattle.tb_kernal.specs.declared.rom.Service.TheVariants.{Getin}
use Rattle.tb_kernal.specs.Machine.{first_or_zero}
use Rattle.tb_basic_meaning.specs.Control.{Place, At, Past, State, content_at, fault_text, highest, answered}
use Rattle.tb_lower.specs.Slots.{Instr, Poll, Whole, Slots, SlotState, SlotCode, settled, staying, instr_at, instr_found}
use Rattle.tb_basic_meaning.specs.Steps.{Step, Goes, Stops, Faulted}
use Rattle.tb_machine_reaching.proofs.Barred.{Enters, opened}
use Rattle.tb_machine_reaching.proofs.Comes.{chained, looser}
use Rattle.tb_machine_reaching.proofs.Services.{served_last}
use Rattle.tb_machine_reaching.specs.Start.{IsHome}
use Rattle.tb_machine_reaching.specs.View.{Comes, Fits, View, view}
use Rattle.tb_opcodes.specs.Bytes.{AreBytes}
use Rattle.tb_kernal.specs.Numbers.{GETIN}
use Rattle.tb_runtime16.specs.Routines.{Here, Moves, WithA}
use Rattle.tb_proof_simulation.specs.Layout.{place_address}
use Rattle.tb_proof_simulation.proofs.Joins.{LawAt, sent_in}
use Rattle.tb_proof_simulation.proofs.Mirrors.{Flagged, HoldsState, Typable}
use Rattle.tb_proof_simulation.proofs.Pieces.{calls, moves_looser, moves_then, whatever}
use Rattle.tb_proof_simulation.proofs.Resolved.{Lies, highest_code}
use Rattle.tb_proof_simulation.proofs.Returning.{behind_call}
use Rattle.tb_compiler_selection.specs.Groups.{Group, Single}
use Rattle.tb_compiler_selection.specs.Select.{select, attach}
use Rattle.tb_compiler_selection.specs.GroupSteps.{steps, first, ahead, or_empty, first_group}
use Rattle.tb_compiler_selection.specs.Laws.{AreClosed}
use Rattle.tb_proof_correctness.proofs.Pieces.Sources.{Fixed, compares_byte}
use Rattle.tb_proof_correctness.proofs.Pieces.Branches.{branch_behind, branches, is_taken}
use Rattle.tb_proof_correctness.proofs.Alone.Faults.{faults_at}
use Rattle.tb_proof_correctness.proofs.CodeBytes.GroupCode.{BranchReaches, GroupsLaid, GroupsLie, LineStands, Way, Zero, broken_code, way_size}
use Rattle.tb_proof_correctness.proofs.Relation.Matching.{HoldsLive, Matches, Target}
use Rattle.tb_proof_correctness.proofs.Slots.SlotSide.{line, next}
use Rattle.tb_proof_correctness.proofs.Relation.Beginnings.{nothing_read, line_step}
use Rattle.tb_proof_correctness.proofs.Relation.Ready.{stood}
use Rattle.tb_proof_correctness.proofs.Arithmetic.Stepping.{fused_by}
use Rattle.tb_proof_correctness.proofs.Testing.Tests.{same_byte}
use Rattle.tb_proof_correctness.proofs.Relation.Surroundings.{Serves, Surroundings}

-- ---- what a poll does
select_poll : (is : List Instr) → select (Poll ∷ is) ≡ Single Poll ∷ select is
select_poll is = by (select is)
  where
    by : (gs : List Group) → attach Poll gs ≡ Single Poll ∷ gs
    by [] = refl
    by (g ∷ gs) = fused_by (Single Poll) (g ∷ gs) refl refl refl

module _ (code : SlotCode) (n : ℕ) (is : List Instr) (s : State) (r : Slots) where
  abbrev outcome : List ℕ → Step SlotState
  outcome [] = Goes (line code n is s r) []
  outcome (a ∷ l) = if nat_eq a 3 then Stops Faulted (fault_text 0 n) else Goes (line code n is (record s { answers = l }) r) []

  polls : steps code (Poll ∷ []) (line code n (Poll ∷ is) s r) ≡ outcome s.answers
  polls = by s.answers
    where
      decide : (a : ℕ) (l : List ℕ) (t : Bool)
          → next code n [] (settled n is r (staying r (if t then Stops Faulted (fault_text 0 n) else Goes (record s { answers = l }) [])))
          ≡ (if t then Stops Faulted (fault_text 0 n) else Goes (line code n is (record s { answers = l }) r) [])
      decide a l true = refl
      decide a l false = refl

      by : (l : List ℕ) → next code n [] (settled n is r (staying r (answered n l s))) ≡ outcome l
      by [] = refl
      by (a ∷ l) = decide a l (nat_eq a 3)

-- a branch that is taken if STOP was pressed leads there, one that is taken if it wasn't leads past it
leads : (away pressed : Bool) (to onward : ℕ) → cond (is_taken away pressed) to onward ≡ cond pressed (cond away to onward) (cond away onward to)
leads true true to onward = refl
leads true false to onward = refl
leads false true to onward = refl
leads false false to onward = refl

module _ (around : Surroundings) (fits : Fits around.f 16) (limit : ℕ) (rs : Serves around limit) (code : SlotCode) where
  open around use {ly, f, lo, hi, keys}

  abbrev own : List ℕ
  own = lo ∷ hi ∷ []

  -- the answer is in A
  asks : (at : ℕ) (m : ℕ → ℕ) (text answers : List ℕ) → at + 3 ≤ highest_code
      → Moves f (Here GETIN ((at + 2) % 256 ∷ (at + 2) / 256 ∷ own) m text answers) (WithA (at + 3) (first_or_zero answers) own m text (drop 1 answers)) [] 1
  asks at m text answers b = whatever f 16 fits GETIN ((at + 2) % 256 ∷ (at + 2) / 256 ∷ own) m text answers _ [] 1 (λ a x y n v i z c.
      served_last f 16 fits Getin (view a x y n v i z c GETIN ((at + 2) % 256 ∷ (at + 2) / 256 ∷ own) m text answers) ((at + 2) % 256) ((at + 2) / 256) own _ refl refl refl refl
      (λ j. record { here = record { pc = behind_call at b; stack = refl; binary = refl; mem = refl; text = refl; answers = refl }; number = refl }))

  module _ (n : ℕ) (small : n < 65536) (is : List Instr) (s : State) (r : Slots) (closed : AreClosed code) (some : content_at code n
      ≡ Some (Poll ∷ is)) (w : View) (h : Matches around (record { state = s; rest = Whole; slots = r }) w) (lies : LineStands ly f.code f.whole n (ly.start n) is) where
    abbrev at : ℕ
    at = ly.start n

    abbrev stop : ℕ
    stop = first_or_zero s.answers

    -- whether the line ends away, and so by which answer the branch is taken
    abbrev away : Bool
    away = lies.0

    abbrev way : Way
    way = lies.1

    -- its branch, what follows it, and where it leads
    abbrev near : ℕ
    near = at + 3 + 2

    abbrev onward : ℕ
    onward = near + way_size way

    abbrev to : ℕ
    to = lies.2

    -- what is done for the STOP key, and the groups
    abbrev broken_at : ℕ
    broken_at = cond away to onward

    abbrev groups_at : ℕ
    groups_at = cond away onward to

    reach : BranchReaches way near to
    reach = subst (λ p. BranchReaches way p to) (let e : at + 5 ≡ near = omega arith in e) lies.6

    same_onward : at + 5 + way_size way ≡ onward
    same_onward = omega arith

    broken : Lies f.code broken_at (broken_code n)
    broken = subst (λ p. Lies f.code (cond away to p) (broken_code n)) same_onward lies.7

    rest : GroupsLie ly f.code n groups_at (select is)
    rest = subst (λ p. GroupsLie ly f.code n (cond away p to) (select is)) same_onward lies.8

    -- after the comparison
    compared : (z : Bool) → eqb stop 3 ≡ z → stop < 256 → Moves f (WithA (at + 3) stop own w.mem s.text (drop 1 s.answers)) (Flagged near own w.mem s.text (drop 1 s.answers) z) [] 1
    compared z e lt u g = looser f u _ _ [] 1 1 (omega arith)
        (λ v k. record { here = k.here; zero = k.zero ∙ same_byte stop 3 lt (omega arith) ∙ e })
        (compares_byte f 16 fits (at + 3) own w.mem s.text (drop 1 s.answers) refl (Fixed 3) stop tt lies.5.0 lies.5.1.0 u g)

    setting : (onward ≤ highest_code) × Lies f.code onward []
    setting = branch_behind f near way Zero away to [] lies.5.2

    parts : (z : Bool) → Moves f (Flagged near own w.mem s.text (drop 1 s.answers) z) (Here (cond z broken_at groups_at) own w.mem s.text (drop 1 s.answers)) [] 2
    parts z u g = looser f u _ _ [] 2 2 (omega arith) (λ v k. subst (λ p. Here p own w.mem s.text (drop 1 s.answers) v) (leads away z to onward) k.here)
        (branches f 16 fits own w.mem s.text (drop 1 s.answers) refl near way Zero away z to setting.0 reach lies.5.2.1 u g.here g.zero)

    -- a break
    breaks : Moves f (Flagged near own w.mem s.text (drop 1 s.answers) true) (IsHome f) (fault_text 0 n) (2 + (4 + limit))
    breaks =
        moves_then f _ _ _ [] (fault_text 0 n) 2 (4 + limit) (parts true)
        (faults_at around fits limit rs n 0 small (omega arith) broken_at w.mem s.text (drop 1 s.answers) broken h.homed)

    -- no break
    goes_on : (s' : State) → s'.text ≡ s.text → drop 1 s.answers ≡ s'.answers → HoldsState ly s' w.mem → Typable keys s'.text s'.answers
        → Moves f (Flagged near own w.mem s.text (drop 1 s.answers) false) (Matches around (line code n is s' r)) [] 2
    goes_on s' et ea hs short = moves_looser f _ _ _ [] 2 2 (omega arith)
        (stood around code n small is s' r groups_at w.mem s.text (drop 1 s.answers) rest hs
        (subst (λ u. HoldsLive u r w.mem) (sym (closed n (Poll ∷ is) some)) (nothing_read r w.mem h.read.all_words)) h.homed (sym et) ea short)
        (parts false)

    abbrev Led : Step SlotState → Type 0
    Led x = Moves f (WithA (at + 3) stop own w.mem s.text (drop 1 s.answers)) (Target around x) (sent_in x) (10 + limit)

    with_answers : (l : List ℕ) → HoldsState ly (record s { answers = l }) w.mem
    with_answers l = let k = h.state in record { vars = k.vars; column = k.column; opened = k.opened; seeded = k.seeded; count = k.count; returns = k.returns; few = k.few; all_vars = k.all_vars }

    by_break : (a : ℕ) (l : List ℕ) → s.answers ≡ a ∷ l → AreBytes (a ∷ l) → (t : Bool) → nat_eq a 3 ≡ t
        → Led (if t then Stops Faulted (fault_text 0 n) else Goes (line code n is (record s { answers = l }) r) [])
    by_break a l e bytes true q u g =
        let stop_is : stop ≡ a = ap first_or_zero e in
        looser f u _ _ (fault_text 0 n) (1 + (2 + (4 + limit))) (10 + limit) (omega arith) (λ v x. x)
        (chained f u _ _ [] (fault_text 0 n) 1 (2 + (4 + limit)) (compared true (ap (λ x. eqb x 3) stop_is ∙ q) (omega (arith, stop_is, bytes.0)) u g) breaks)
    by_break a l e bytes false q u g =
        let stop_is : stop ≡ a = ap first_or_zero e in
        looser f u _ _ [] (1 + 2) (10 + limit) (omega arith) (λ v x. x)
        (chained f u _ _ [] [] 1 2 (compared false (ap (λ x. eqb x 3) stop_is ∙ q) (omega (arith, stop_is, bytes.0)) u g)
        (goes_on (record s { answers = l }) refl (ap (drop 1) e) (with_answers l) (record { short = h.short.short; text_bytes = h.short.text_bytes; answer_bytes = bytes.1 })))

    led : (l : List ℕ) → s.answers ≡ l → AreBytes l → Led (outcome code n is s r l)
    led [] e bytes u g =
        let stop_is : stop ≡ 0 = ap first_or_zero e in
        looser f u _ _ [] (1 + 2) (10 + limit) (omega arith) (λ v x. x)
        (chained f u _ _ [] [] 1 2 (compared false (ap (λ x. eqb x 3) stop_is) (omega (arith, stop_is)) u g)
        (goes_on s refl (ap (drop 1) e ∙ sym e) h.state h.short))
    led (a ∷ l) e bytes u g = by_break a l e bytes (nat_eq a 3) refl u g

    same_step : s.place ≡ At n → first_group code (record { state = s; rest = Whole; slots = r }) ≡ outcome code n is s r s.answers
    same_step here = line_step code n (Poll ∷ is) s r here some ∙ ap (λ gs. first code gs (line code n (Poll ∷ is) s r)) (select_poll is) ∙ polls code n is s r

    -- the law of the line's beginning
    pub line_law : s.place ≡ At n → Enters f w (Target around (first_group code (record { state = s; rest = Whole; slots = r })))
        (sent_in (first_group code (record { state = s; rest = Whole; slots = r }))) (34 + (limit + limit))
    line_law here =
        subst (λ x. Enters f w (Target around x) (sent_in x) (34 + (limit + limit))) (sym (same_step here))
        (record {
          rest = 1 + (10 + limit);
          few = omega arith;
          one = looser (opened f) w _ _ [] 1 1 (omega arith)
              (λ u g. chained f u _ _ [] (sent_in (outcome code n is s r s.answers)) 1 (10 + limit) (asks at w.mem s.text s.answers lies.3 u g) (led s.answers refl h.short.answer_bytes))
              (calls (opened f) 16 fits at own w.mem s.text s.answers refl GETIN refl lies.3 lies.4 w (record {
                pc = h.pc ∙ ap (place_address ly) here;
                stack = h.stack;
                binary = h.binary;
                mem = refl;
                text = h.text;
                answers = h.answers;
              }));
        })

  -- ---- any place
  module _ (closed : AreClosed code) (laid : GroupsLaid ly f.code f.whole code) (s : State) (r : Slots) (w : View) (h : Matches around (record { state = s; rest = Whole; slots = r }) w) where
    abbrev whole : SlotState
    whole = record { state = s; rest = Whole; slots = r }

    -- past the last line
    past_law : w.regs.pc ≡ ly.past → Comes f w (IsHome f) (fault_text 7 (highest ly.numbers)) (34 + (limit + limit))
    past_law at =
        let n = highest ly.numbers in
        looser f w _ _ (fault_text 7 n) (4 + limit) (34 + (limit + limit)) (omega arith) (λ u x. x)
        (faults_at around fits limit rs n 7 laid.top (omega arith) ly.past w.mem w.text w.answers laid.past h.homed w
        (record { pc = at; stack = h.stack; binary = h.binary; mem = refl; text = refl; answers = refl }))

    -- no line there: fault 7
    no_line : w.regs.pc ≡ ly.past → first_group code whole ≡ Stops Faulted (fault_text 7 (highest (numbers code)))
        → LawAt Whole f w (Target around (first_group code whole)) (sent_in (first_group code whole)) (34 + (limit + limit))
    no_line at e =
        subst (λ x. LawAt Whole f w (Target around x) (sent_in x) (34 + (limit + limit))) (sym e)
        (inl (subst (λ ns. Comes f w (IsHome f) (fault_text 7 (highest ns)) (34 + (limit + limit))) (sym laid.numbered) (past_law at)))

    at_number : (n : ℕ) → s.place ≡ At n → (o : Option (List Instr)) → content_at code n ≡ o
        → LawAt Whole f w (Target around (first_group code whole)) (sent_in (first_group code whole)) (34 + (limit + limit))
    at_number n here None e =
        no_line (h.pc ∙ ap (place_address ly) here ∙ laid.absent n e)
        (ap (λ p. first code (select (ahead code Whole p)) whole) here ∙ ap (λ o. first code (select (or_empty o)) whole) e
        ∙ ap (λ p. instr_at code Whole p s r) here ∙ ap (λ o. instr_found (numbers code) n o s r) e)
    at_number n here (Some js) e =
        let p = laid.lines n js e in
        inr (line_law n p.small p.rest s r closed (e ∙ ap (λ l. Some l) p.polled) w h p.stands here)

    by_place : (p : Place) → s.place ≡ p → LawAt Whole f w (Target around (first_group code whole)) (sent_in (first_group code whole)) (34 + (limit + limit))
    by_place (At n) here = at_number n here (content_at code n) refl
    by_place Past here =
        no_line (h.pc ∙ ap (place_address ly) here)
        (ap (λ p. first code (select (ahead code Whole p)) whole) here ∙ ap (λ p. instr_at code Whole p s r) here)

    -- the law if nothing of a line is left to be done
    pub lines_law : LawAt Whole f w (Target around (first_group code whole)) (sent_in (first_group code whole)) (34 + (limit + limit))
    lines_law = by_place s.place refl
