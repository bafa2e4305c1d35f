-- What holds while the code of a group runs, and after it; and that an instruction alone is one step.
use Rattle.std.proofs.Common.{◌≡◌, ℕ, ◌+◌, ◌/◌, ◌%◌, ◌≤◌, ◌<◌, Bool, true, false, List, [], ◌∷◌, length, refl, sym, ap}
use Rattle.std.proofs.Common.{◌∙◌, subst, arith, append-nil, not, ◌≢◌}
use Rattle.tb_basic_meaning.specs.Control.{State, column_after}
use Rattle.tb_lower.specs.Slots.{Instr, Rest, Whole, Left, Slots, SlotCode, SlotState, slot_step, with_word}
use Rattle.tb_basic_meaning.specs.Steps.{Step, Goes, Stops, and_then}
use Rattle.tb_machine_reaching.proofs.Comes.{chained, looser}
use Rattle.tb_machine_reaching.proofs.Instr.{Stands}
use Rattle.tb_machine_reaching.specs.View.{Comes, Fits, View}
use Rattle.tb_runtime16.specs.Laws.{Sent}
use Rattle.tb_opcodes.specs.Bytes.{AreBytes}
use Rattle.tb_runtime16.specs.Routines.{Entered, Here, Moves, WordAt, is_state, is_scratch}
use Rattle.tb_compiled_kept.specs.Addresses.{COLUMN, HOME_S, LINE}
use Rattle.tb_proof_simulation.specs.Layout.{place_address}
use Rattle.tb_proof_simulation.proofs.Frames.{low_is_state, put_away, state_told, word_put}
use Rattle.tb_proof_simulation.proofs.Mirrors.{HoldsState, Typable}
use Rattle.tb_proof_simulation.proofs.Pieces.{put_word, sets}
use Rattle.tb_proof_simulation.proofs.Resolved.{Lies, Piece, constant, highest_code, pieces_size}
use Rattle.tb_proof_simulation.proofs.Returning.{homed_kept}
use Rattle.tb_compiler_selection.specs.declared.liveness.Live.{Live}
use Rattle.tb_compiler_selection.specs.Groups.{Destination, Group, slot_of}
use Rattle.tb_compiler_selection.specs.Liveness.{live}
use Rattle.tb_compiler_selection.specs.Select.{select}
use Rattle.tb_compiler_selection.specs.GroupSteps.{inside, steps}
use Rattle.tb_proof_correctness.proofs.Relation.Beginnings.{nothing_read}
use Rattle.tb_compiler_templates.specs.Sources.{destination_at}
use Rattle.tb_proof_correctness.proofs.CodeBytes.GroupCode.{GroupsLie, lined_code}
use Rattle.tb_proof_correctness.proofs.Relation.Matching.{HoldsLive, Matches}
use Rattle.tb_proof_correctness.proofs.Slots.SlotSide.{Lasting, landed, line, slots_landed}
use Rattle.tb_proof_correctness.proofs.Relation.Landing.{DestFits, Elsewhere, home_kept, read_landed, read_lined, scratch_put, state_landed, state_lined, state_scratch}
use Rattle.tb_proof_correctness.proofs.Relation.Frames.{live_same}
use Rattle.tb_proof_correctness.proofs.Relation.Ready.{Ready, here, landed_answers, landed_text, stood}
use Rattle.tb_proof_correctness.proofs.Relation.Surroundings.{Surroundings}

-- its steps are one step
pub one_step : (code : SlotCode) (i : Instr) (c : SlotState) → steps code (i ∷ []) c ≡ slot_step code c
one_step code i c = by (slot_step code c)
  where
    on : (r : Rest) (c : SlotState) (t : List ℕ) → and_then (Goes c t) (λ d. inside (steps code []) r c) ≡ Goes c t
    on Whole c t = ap (λ l. Goes c l) (append-nil t)
    on (Left n is) c t = ap (λ l. Goes c l) (append-nil t)

    by : (x : Step SlotState) → and_then x (λ c. inside (steps code []) c.rest c) ≡ x
    by (Stops e t) = refl
    by (Goes c t) = on c.rest c t

module _ (around : Surroundings) where
  open around use {ly, f, lo, hi, keys}

  -- what holds while its code runs: the state, what is live, and the way home
  pub record Kept (u : Live) (s : State) (r : Slots) (m : ℕ → ℕ) : Type 0 where
    pub state : HoldsState ly s m
    pub read : HoldsLive u r m
    pub homed : Entered f lo hi m

  -- a memory with the same state keeps this
  pub kept_scratch : (u : Live) (s : State) (r : Slots) (m m' : ℕ → ℕ) → u.slots ≤ 16 → ((a : ℕ) → is_state a ≡ true → m' a ≡ m a) → Kept u s r m → Kept u s r m'
  kept_scratch u s r m m' few e c = record {
    state = state_scratch ly s m m' c.state e;
    read = live_same u r m m' few (λ a lo hi. e a (low_is_state a (omega (arith, lo)) hi)) c.read;
    homed = homed_kept m m' (e HOME_S (low_is_state HOME_S (omega arith) (omega arith))) c.homed;
  }

  -- a word of scratch that is written keeps this
  pub kept_put : (u : Live) (s : State) (r : Slots) (m : ℕ → ℕ) (p l h : ℕ) → u.slots ≤ 16 → is_state p ≡ false → is_state (p + 1) ≡ false
      → Kept u s r m → Kept u s r (put_word m p l h)
  kept_put u s r m p l h few k k' c = kept_scratch u s r m (put_word m p l h) few (scratch_put m p l h k k') c

  -- bytes were sent
  pub kept_told : (u : Live) (s : State) (r : Slots) (m : ℕ → ℕ) (t : List ℕ) (m' : ℕ → ℕ) → u.slots ≤ 16 → Sent is_scratch m t m' → Kept u s r m
      → Kept u (record s { column = column_after s.column t }) r m'
  kept_told u s r m t m' few g c =
      let others : (p : ℕ) → is_state p ≡ true → p ≢ COLUMN → m' p ≡ m p = λ p o q. g.others p (ap not o) q in
      record {
        state = state_told ly s m m' c.state t g.column others;
        read = live_same u r m m' few (λ a lo hi. others a (low_is_state a (omega (arith, lo)) hi) (λ e. omega (arith, e, lo))) c.read;
        homed = homed_kept m m' (others HOME_S refl (λ e. omega (arith, e))) c.homed;
      }

  -- the relation when the line was left
  pub arrived : (s : State) (r : Slots) (at : ℕ) (m : ℕ → ℕ) (t answers : List ℕ) → at ≡ place_address ly s.place → HoldsState ly s m → length r.words ≡ 16
      → Entered f lo hi m → t ≡ s.text → answers ≡ s.answers → Typable keys s.text s.answers → (w : View) → Here at (lo ∷ hi ∷ []) m t answers w
      → Matches around (record { state = s; rest = Whole; slots = r }) w
  arrived s r at m t answers there hs all en text got short w e = record {
    pc = e.pc ∙ there;
    stack = e.stack;
    binary = e.binary;
    text = e.text ∙ text;
    answers = e.answers ∙ got;
    state = subst (HoldsState ly s) (sym e.mem) hs;
    read = nothing_read r w.mem all;
    homed = subst (Entered f lo hi) (sym e.mem) en;
    short = short;
  }

  module _ (code : SlotCode) where
    -- a word was written to where it goes, over a memory that still held everything
    pub word_lands : (n : ℕ) → n < 65536 → (u : Live) (d : Destination) (is : List Instr) (s : State) (r q : Slots) (v l h at : ℕ) (m : ℕ → ℕ)
        (t answers : List ℕ) → l ≡ v % 256 → h ≡ v / 256 → v < 65536 → DestFits d → Lasting u d is r q → GroupsLie ly f.code n at (select is)
        → Kept u s r m → t ≡ s.text → answers ≡ s.answers → Typable keys s.text s.answers → (w : View)
        → Here at (lo ∷ hi ∷ []) (put_word m (destination_at d) l h) t answers w → Matches around (line code n is (landed d v s) (slots_landed d v (with_word q (slot_of d) v))) w
    word_lands n number u d is s r q v l h at m t answers el eh small fit last rl c text got short w e =
        let m' = put_word m (destination_at d) l h in
        let there : WordAt m' (destination_at d) v = word_put m (destination_at d) l h v el eh small in
        let away : Elsewhere m m' (destination_at d) = λ p x y. put_away m (destination_at d) l h p x y in
        let same = landed_text d v s in
        let left = landed_answers d v s in
        stood around code n number is (landed d v s) (slots_landed d v (with_word q (slot_of d) v)) at m' t answers rl
        (state_landed ly s m m' d v fit c.state there away)
        (read_landed u d is r q m m' v fit last c.read there away)
        (homed_kept m m' (home_kept d fit m m' away) c.homed)
        (text ∙ sym same) (got ∙ sym left)
        (record {
          short = subst (λ t. length t ≤ keys) (sym same) short.short;
          text_bytes = subst AreBytes (sym same) short.text_bytes;
          answer_bytes =
              subst AreBytes (sym left) short.answer_bytes;
        })
        w e

-- from the beginning of a group
module _ {around : Surroundings} {n : ℕ} {g : Group} {js is : List Instr} {s : State} {r : Slots} {w : View} (h : Ready around n g js is s r w) where
  open around use {ly, f}

  -- all holds at the group's beginning
  pub kept : Kept around (live js) s r w.mem
  kept = record { state = h.state; read = h.read; homed = h.homed }

  -- memory with the line's number
  abbrev pub lined : ℕ → ℕ
  lined = put_word w.mem LINE (n % 256) (n / 256)

  -- memory with the line's number has that number
  pub numbered : WordAt lined LINE n
  numbered = word_put w.mem LINE (n % 256) (n / 256) n refl refl h.small

  -- all holds once the line's number is set
  pub kept_lined : Kept around (live js) s r lined
  kept_lined = record {
    state = state_lined ly s w.mem (n % 256) (n / 256) h.state;
    read = read_lined (live js) r w.mem (n % 256) (n / 256) h.read;
    homed = homed_kept w.mem lined (put_away w.mem LINE (n % 256) (n / 256) HOME_S (λ q. omega (arith, q)) (λ q. omega (arith, q))) h.homed;
  }

  -- or without it, if nothing can fault
  abbrev pub lined_by : Bool → ℕ → ℕ
  lined_by true = lined
  lined_by false = w.mem

  abbrev pub behind_line : Bool → ℕ
  behind_line true = w.regs.pc + 10
  behind_line false = w.regs.pc

  -- all holds with or without the line's number
  pub kept_by : (t : Bool) → Kept around (live js) s r (lined_by t)
  kept_by true = kept_lined
  kept_by false = kept

  -- where it goes on after that, with which memory, and what is kept there
  pub record GoingOn : Type 0 where
    pub at : ℕ
    pub m : ℕ → ℕ
    pub c : Kept around (live js) s r m

  abbrev pub going_on : Bool → GoingOn
  going_on t = record { at = behind_line t; m = lined_by t; c = kept_by t }

  -- what faults has its line's number
  pub number_set : (t : Bool) → (t ≡ false → ⊥) → WordAt (lined_by t) LINE n
  number_set true some = numbered
  number_set false some = absurd (some refl)

  -- the end of the code is the same with or without the line's number
  pub end_by : (t : Bool) (ps : List Piece) → behind_line t + pieces_size ps ≡ w.regs.pc + pieces_size (lined_code t n ps)
  end_by true ps = omega arith
  end_by false ps = refl

  -- the pieces after the line's number are there
  pub lies_by : (t : Bool) (ps : List Piece) → Lies f.code w.regs.pc (lined_code t n ps) → Lies f.code (behind_line t) ps
  lies_by true ps lies = lies.2
  lies_by false ps lies = lies

  -- the groups after the pieces are there
  pub rest_by : (t : Bool) (ps : List Piece) → GroupsLie ly f.code n (w.regs.pc + pieces_size (lined_code t n ps)) (select is) → GroupsLie ly f.code n (behind_line t + pieces_size ps) (select is)
  rest_by true ps rest = subst (λ p. GroupsLie ly f.code n p (select is)) (let e : w.regs.pc + (10 + pieces_size ps) ≡ w.regs.pc + 10 + pieces_size ps = omega arith in e) rest
  rest_by false ps rest = rest

module _ {around : Surroundings} (fits : Fits around.f 16) {n : ℕ} {g : Group} {js is : List Instr} {s : State} {r : Slots} {w : View} (h : Ready around n g js is s r w) where
  open around use {f, lo, hi}

  -- the line's number is set first
  pub lines : w.regs.pc + 10 ≤ highest_code → Stands f.code w.regs.pc (constant n LINE) → (q : View → Type 0) (t : List ℕ) (k : ℕ)
      → Moves f (Here (w.regs.pc + 10) (lo ∷ hi ∷ []) (lined h) w.text w.answers) q t k → Comes f w q t (4 + k)
  lines room lies q t k next = chained f w _ q [] t 4 k (sets f 16 fits w.regs.pc (lo ∷ hi ∷ []) w.mem w.text w.answers refl n LINE room (refl, refl) lies w (here h)) next

  -- from a group's beginning to its pieces, with the line's number set if it may fault
  pub lines_by : (t : Bool) (ps : List Piece) → Lies f.code w.regs.pc (lined_code t n ps) → (q : View → Type 0) (l : List ℕ) (k : ℕ)
      → Moves f (Here (behind_line h t) (lo ∷ hi ∷ []) (lined_by h t) w.text w.answers) q l k → Comes f w q l (4 + k)
  lines_by true ps lies q l k next = lines lies.0 lies.1 q l k next
  lines_by false ps lies q l k next = looser f w q q l k (4 + k) (omega arith) (λ u x. x) (next w (here h))
