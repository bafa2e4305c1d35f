-- The laws of INPUT, and of a poll inside a list.
use Rattle.std.proofs.Common.{◌≡◌, ◌≢◌, ℕ, ◌+◌, ◌/◌, ◌%◌, Bool, true, false, List, [], ◌∷◌, ◌++◌, length, refl, sym, ap, ◌∙◌, subst, arith, append-nil}
use Rattle.std.specs.Prelude.{slice_set, nat_eq, drop}
use Rattle.tb_cpu.specs.Effects.{bit}
use Rattle.tb_kernal.specs.Machine.{first_or_zero}
use Rattle.tb_basic_meaning.specs.Control.{State, column_after, fault_text}
use Rattle.tb_basic_meaning.specs.Input.{Bad, Dry, Got, Nothing, turn}
use Rattle.tb_lower.specs.Slots.{Instr, Input, Poll, Slots, SlotCode}
use Rattle.tb_machine_reaching.proofs.Comes.{chained, looser}
use Rattle.tb_machine_reaching.specs.Start.{IsHome}
use Rattle.tb_machine_reaching.specs.View.{Comes, Fits, View}
use Rattle.tb_runtime16.specs.Input.{Taken, prompt}
use Rattle.tb_opcodes.specs.Bytes.{AreBytes}
use Rattle.tb_runtime16.specs.Routines.{Here, Moves, Waiting, WordAt, is_state, line_end}
use Rattle.tb_compiled_kept.specs.Addresses.{COLUMN, HOME_S, LINE, OPEN, RESULT, var_at}
use Rattle.tb_runtime16.specs.Addresses.{INPUT_AT, POLL_AT}
use Rattle.tb_runtime16.proofs.StatePlaces.{not_asked}
use Rattle.tb_proof_simulation.proofs.Mirrors.{HoldsState}
use Rattle.tb_proof_simulation.proofs.Turns.{Leaves, turn_short}
use Rattle.tb_proof_simulation.proofs.Frames.{column_mod, low_is_state, put_away, state_asked, word_put}
use Rattle.tb_proof_simulation.proofs.Pieces.{calls, put_word, word_in_data}
use Rattle.tb_proof_simulation.proofs.Returning.{back_here, behind_call, homed_kept, moved}
use Rattle.tb_compiler_selection.specs.Groups.{IntoHome, IntoVariable, Single}
use Rattle.tb_compiler_selection.specs.Liveness.{live}
use Rattle.tb_proof_correctness.proofs.Relation.Frames.{live_same}
use Rattle.tb_proof_correctness.proofs.Relation.Landing.{Elsewhere, home_kept, state_landed}
use Rattle.tb_proof_correctness.proofs.Relation.GroupInvariants.{Kept, kept_lined, kept_scratch, lined, lines, numbered}
use Rattle.tb_proof_correctness.proofs.Relation.Matching.{Matches}
use Rattle.tb_proof_correctness.proofs.Relation.Ready.{Ready, stood}
use Rattle.tb_proof_correctness.proofs.Slots.SlotSide.{line}
use Rattle.tb_proof_correctness.proofs.Pieces.Sums.{copies}
use Rattle.tb_proof_correctness.proofs.Relation.Surroundings.{Serves, Surroundings}

module _ (around : Surroundings) (fits : Fits around.f 16) (limit : ℕ) (rs : Serves around limit) (code : SlotCode) (n : ℕ) (is : List Instr) (s : State) (r : Slots) (w : View) where
  open around use {ly, f, lo, hi}

  abbrev own : List ℕ
  own = lo ∷ hi ∷ []

  abbrev at : ℕ
  at = w.regs.pc + 10

  module _ (x : ℕ) (h : Ready around n (Single (Input x)) (Input x ∷ is) is s r w) (o : Bool) (opened : s.open_line ≡ o) where
    abbrev m : ℕ → ℕ
    m = lined h

    c : Kept around (live is) s r m
    c = kept_lined h

    number : WordAt m LINE n
    number = numbered h

    -- the state after a number was read, without and with it
    abbrev read_state : Bool → List ℕ → State
    read_state stays left = record s { open_line = stays; column = column_after s.column (prompt o ++ line_end stays); text = left }

    abbrev given_state : Bool → ℕ → List ℕ → State
    given_state stays v left = record s { vars = slice_set s.vars x v; open_line = stays; column = column_after s.column (prompt o ++ line_end stays); text = left }

    asks : (q : View → Type 0) (t : List ℕ) (b : ℕ) → Moves f (Here INPUT_AT ((at + 2) % 256 ∷ (at + 2) / 256 ∷ own) m s.text w.answers) q t b → Comes f w q t (4 + (1 + b))
    asks q t b next =
        let lies = h.lies.2 in
        lines fits h h.lies.0 h.lies.1 q t (1 + b) (λ u e.
        chained f u _ q [] t 1 b (calls f 16 fits at own m s.text w.answers refl INPUT_AT refl lies.0 lies.1 u (record {
          pc = e.pc;
          stack = e.stack;
          binary = e.binary;
          mem = e.mem;
          text = e.text ∙ h.text;
          answers = e.answers;
        })) next)

    is_open : m OPEN ≡ bit o
    is_open = c.state.opened ∙ ap bit opened

    asked_kept : (stays : Bool) (left : List ℕ) (v : ℕ) (m' : ℕ → ℕ) → Taken m (column_after (m COLUMN) (prompt o ++ line_end stays) % 256) v stays m'
        → Kept around (live is) (read_state stays left) r m'
    asked_kept stays left v m' g =
        let others : (p : ℕ) → is_state p ≡ true → p ≢ OPEN → p ≢ COLUMN → m' p ≡ m p = λ p z x y. g.gives.others p (not_asked p z x y) in
        record {
          state = state_asked ly s m m' c.state stays (column_after s.column (prompt o ++ line_end stays)) left g.line_open (g.column_is
              ∙ ap (λ k. column_after k (prompt o ++ line_end stays) % 256) c.state.column ∙ column_mod s.column (prompt o ++ line_end stays)) others;
          read = live_same (live is) r m m' h.few_behind (λ a lo hi. others a (low_is_state a (omega (arith, lo)) hi) (λ e. omega (arith, e, lo)) (λ e. omega (arith, e, lo))) c.read;
          homed = homed_kept m m' (g.gives.others HOME_S refl) c.homed;
        }

    -- INPUT reads a number into its variable
    pub input_law : (stays : Bool) (v : ℕ) (left : List ℕ) → turn Nothing s.text ≡ Got v stays left
        → Comes f w (Matches around (line code n is (given_state stays v left) r)) (prompt o ++ line_end stays) (9 + limit)
    input_law stays v left got =
        let fit = h.ranged.0 in
        let lies = h.lies.2 in
        let t = prompt o ++ line_end stays in
        let shorter : Leaves (length s.text) (Got v stays left) = subst (Leaves (length s.text)) got (turn_short s.text Nothing h.short.text_bytes).few in
        looser f w _ _ t (4 + (1 + (limit + 4))) (9 + limit) (omega arith) (λ u x. x)
        (asks _ t (limit + 4) (λ u e.
        subst (λ l. Comes f u (Matches around (line code n is (given_state stays v left) r)) l (limit + 4)) (append-nil t)
        (chained f u _ _ t [] limit 4 (rs.input _ _ m s.text w.answers o stays v left n is_open (omega (arith, c.state.column)) h.short.text_bytes h.short.short number c.homed got u e) (λ u g.
        let k = asked_kept stays left v u.mem g.memory in
        let result = g.memory.gives.result in
        let m' = put_word u.mem (var_at x) (u.mem RESULT) (u.mem (RESULT + 1)) in
        let there : WordAt m' (var_at x) v = word_put u.mem (var_at x) _ _ v result.low result.high result.small in
        let away : Elsewhere u.mem m' (var_at x) = λ p y z. put_away u.mem (var_at x) _ _ p y z in
        looser f u _ _ [] 4 4 (omega arith)
        (λ y e. stood around code n h.small is (given_state stays v left) r (w.regs.pc + 25) m' left w.answers h.rest
        (state_landed ly (read_state stays left) u.mem m' (IntoHome (IntoVariable x)) v fit k.state there away)
        (live_same (live is) r u.mem m' h.few_behind (λ a lo hi. away a (λ e. omega (arith, e, lo, fit)) (λ e. omega (arith, e, lo, fit))) k.read)
        (homed_kept u.mem m' (home_kept (IntoHome (IntoVariable x)) fit u.mem m' away) k.homed)
        refl h.answers (record { short = omega (arith, shorter.0, h.short.short); text_bytes = shorter.1; answer_bytes = h.short.answer_bytes }) y
        (moved _ (w.regs.pc + 25) own _ left w.answers y e (omega arith)))
        (copies f 16 fits (at + 3) own u.mem left w.answers refl RESULT (var_at x) lies.2.0 (refl, refl) (word_in_data (var_at x) (omega arith)
        (omega (arith, fit))) (λ e. omega (arith, e, fit)) lies.2.1 u
        (back_here _ _ left w.answers _ u g (behind_call at lies.0)))))))

    -- INPUT of a bad byte is fault 6
    pub input_fails : turn Nothing s.text ≡ Bad → Comes f w (IsHome f) (prompt o ++ fault_text 6 n) (9 + limit)
    input_fails bad =
        let t = prompt o ++ fault_text 6 n in
        looser f w _ _ t (4 + (1 + limit)) (9 + limit) (omega arith) (λ u x. x)
        (asks _ t limit (rs.input_fails _ _ m s.text w.answers o n is_open (omega (arith, c.state.column)) h.short.text_bytes h.short.short bad number c.homed))

    -- INPUT waits if the text ends before a number
    pub input_waits : turn Nothing s.text ≡ Dry → Comes f w Waiting (prompt o) (9 + limit)
    input_waits dry =
        looser f w _ _ (prompt o) (4 + (1 + limit)) (9 + limit) (omega arith) (λ u x. x)
        (asks _ (prompt o) limit (rs.input_waits _ _ m s.text w.answers o n is_open (omega (arith, c.state.column)) h.short.text_bytes h.short.short dry number c.homed))

  module _ (h : Ready around n (Single Poll) (Poll ∷ is) is s r w) where
    abbrev polled : ℕ → ℕ
    polled = lined h

    kept_polled : Kept around (live is) s r polled
    kept_polled = kept_lined h

    answered_state : (left : List ℕ) (m : ℕ → ℕ) → HoldsState ly s m → HoldsState ly (record s { answers = left }) m
    answered_state left m hs = record { vars = hs.vars; column = hs.column; opened = hs.opened; seeded = hs.seeded; count = hs.count; returns = hs.returns; few = hs.few; all_vars = hs.all_vars }

    -- a poll takes an answer and goes on
    pub poll_law : (left : List ℕ) → drop 1 s.answers ≡ left → AreBytes left → nat_eq (first_or_zero s.answers) 3 ≡ false
        → Comes f w (Matches around (line code n is (record s { answers = left }) r)) [] (5 + limit)
    poll_law left q small other =
        let lies = h.lies.2 in
        looser f w _ _ [] (4 + (1 + limit)) (5 + limit) (omega arith) (λ u x. x)
        (lines fits h h.lies.0 h.lies.1 _ [] (1 + limit) (λ u e.
        chained f u _ _ [] [] 1 limit (calls f 16 fits at own polled w.text w.answers refl POLL_AT refl lies.0 lies.1 u e) (λ u e.
        looser f u _ _ [] limit limit (omega arith)
        (λ v g.
        let k = kept_scratch around (live is) s r polled v.mem h.few_behind (λ a z. ap (λ k. k a) g.memory) kept_polled in
        stood around code n h.small is (record s { answers = left }) r (w.regs.pc + 13) v.mem w.text (drop 1 w.answers) h.rest
        (answered_state left v.mem k.state) k.read k.homed h.text (ap (drop 1) h.answers ∙ q)
        (record { short = h.short.short; text_bytes = h.short.text_bytes; answer_bytes = small }) v
        (back_here _ (w.regs.pc + 13) w.text (drop 1 w.answers) _ v g (behind_call at lies.0 ∙ (let e : at + 3 ≡ w.regs.pc + 13 = omega arith in e))))
        (rs.poll _ _ polled w.text w.answers n (subst AreBytes (sym h.answers) h.short.answer_bytes) (ap (λ l. nat_eq (first_or_zero l) 3) h.answers ∙ other) (numbered h) kept_polled.homed u e))))

    -- a poll whose answer is 3 is fault 0
    pub poll_breaks : nat_eq (first_or_zero s.answers) 3 ≡ true → Comes f w (IsHome f) (fault_text 0 n) (5 + limit)
    poll_breaks three =
        let lies = h.lies.2 in
        looser f w _ _ (fault_text 0 n) (4 + (1 + limit)) (5 + limit) (omega arith) (λ u x. x)
        (lines fits h h.lies.0 h.lies.1 _ (fault_text 0 n) (1 + limit) (λ u e.
        chained f u _ _ [] (fault_text 0 n) 1 limit (calls f 16 fits at own polled w.text w.answers refl POLL_AT refl lies.0 lies.1 u e)
        (rs.poll_breaks _ _ polled w.text w.answers n (subst AreBytes (sym h.answers) h.short.answer_bytes)
        (ap (λ l. nat_eq (first_or_zero l) 3) h.answers ∙ three) (numbered h) kept_polled.homed)))
