-- The law of a move: a word to a variable, or held.
use Rattle.std.proofs.Common.{◌≡◌, ℕ, ◌+◌, ◌≤◌, ◌<◌, true, List, [], ◌∷◌, ◌++◌, length, refl, sym, ap, ◌∙◌, subst, arith, append_assoc}
use Rattle.std.specs.Prelude.{slice_index}
use Rattle.std.proofs.lemmas.Bool.{leb-true}
use Rattle.tb_basic_meaning.specs.Control.{State}
use Rattle.tb_lower.specs.Ranges.{AreInRange}
use Rattle.tb_lower.specs.Slots.{Instr, Store, Slots, SlotCode}
use Rattle.tb_basic_meaning.specs.Steps.{Goes}
use Rattle.tb_machine_reaching.proofs.Comes.{looser}
use Rattle.tb_machine_reaching.specs.View.{Comes, Fits, View}
use Rattle.tb_opcodes.specs.Bytes.{AreBytes}
use Rattle.tb_runtime16.specs.Routines.{WordAt}
use Rattle.tb_compiled_kept.specs.Addresses.{HELD}
use Rattle.tb_compiler_templates.specs.Templates.{slot_at}
use Rattle.tb_proof_simulation.proofs.Frames.{put_away, word_kept, word_put}
use Rattle.tb_proof_simulation.proofs.Joins.{sent_in}
use Rattle.tb_proof_simulation.proofs.Pieces.{put_word}
use Rattle.tb_proof_simulation.proofs.Resolved.{size}
use Rattle.tb_proof_simulation.proofs.Returning.{homed_kept}
use Rattle.tb_compiler_selection.specs.Groups.{Operand, Constant, Variable, InSlot, Home, IntoVariable, IntoHeld, IntoHome, Move, fetch, keep, expand}
use Rattle.tb_compiler_selection.specs.Liveness.{live}
use Rattle.tb_compiler_selection.specs.Select.{omits_only_dead, select}
use Rattle.tb_compiler_selection.specs.GroupSteps.{steps}
use Rattle.tb_proof_correctness.proofs.Pieces.Sources.{value}
use Rattle.tb_compiler_templates.specs.Sources.{source_of, home_at}
use Rattle.tb_proof_correctness.proofs.CodeBytes.GroupCode.{GroupsLie, low, high, brought}
use Rattle.tb_proof_correctness.proofs.Relation.Matching.{HoldsLive, Target}
use Rattle.tb_proof_correctness.proofs.Slots.SlotSide.{line, fetches, keeps, fetched, with_fetched, fetched_same, fetched_held, fetched_length, fetch_held, landed, slots_landed, StandsIn}
use Rattle.tb_proof_correctness.proofs.Relation.Landing.{DestFits, Elsewhere, home_kept, state_landed}
use Rattle.tb_proof_correctness.proofs.Relation.Operands.{OperandFits, operand_held, operand_grounded, dest_in_data, range_fetch}
use Rattle.tb_proof_correctness.proofs.Pieces.Sums.{brings}
use Rattle.tb_proof_correctness.proofs.Relation.Ready.{Ready, here, stood, landed_answers, landed_text}
use Rattle.tb_proof_correctness.proofs.Relation.Surroundings.{Surroundings}

-- the list with its parts bracketed to the right
abbrev pub spread_move : Operand → Home → List Instr → List Instr
spread_move a home is = fetch 0 a ++ keep home ∷ is

-- the group's instructions, bracketed to the right
pub spread_move_is : (a : Operand) (home : Home) (is : List Instr) → expand (Move a home) ++ is ≡ spread_move a home is
spread_move_is a home is = append_assoc (fetch 0 a) (keep home ∷ []) is

-- the slots after it
abbrev pub moved : State → Slots → Operand → Home → Slots
moved s r a home = slots_landed (IntoHome home) (fetched s r 0 a) (with_fetched s r 0 a)

-- what its steps do
move_goes : (code : SlotCode) (n : ℕ) (a : Operand) (home : Home) (is : List Instr) (s : State) (r : Slots) → length r.words ≡ 16
    → steps code (expand (Move a home)) (line code n (spread_move a home is) s r) ≡ Goes (line code n is (landed (IntoHome home) (fetched s r 0 a) s) (moved s r a home)) []
move_goes code n a home is s r all =
    fetches code n 0 a (keep home ∷ []) (keep home ∷ is) s r
    ∙ keeps code n (IntoHome home) is s (with_fetched s r 0 a)
    ∙ ap (λ v. Goes (line code n is (landed (IntoHome home) v s) (slots_landed (IntoHome home) v (with_fetched s r 0 a))) []) (fetched_same s r 0 a (omega (arith, all)))

asked : (a : Operand) (home : Home) (is : List Instr) → StandsIn a 0 (live (spread_move a home is))
asked (Constant w) home is = tt
asked (Variable x) home is = tt
asked InSlot (IntoVariable x) is = omega arith
asked InSlot IntoHeld is = omega arith

home_fits : (a : Operand) (home : Home) → AreInRange 256 (expand (Move a home)) → OperandFits a × DestFits (IntoHome home)
home_fits a home h = let p = range_fetch 0 a (keep home ∷ []) h in (p.0, by home p.1)
  where
    by : (home : Home) → AreInRange 256 (keep home ∷ []) → DestFits (IntoHome home)
    by (IntoVariable x) r = r.0
    by IntoHeld r = tt

moved_length : (s : State) (r : Slots) (a : Operand) (home : Home) → length (moved s r a home).words ≡ length r.words
moved_length s r a (IntoVariable x) = fetched_length s r 0 a
moved_length s r a IntoHeld = fetched_length s r 0 a

-- a slot that is read after it was read before it, and is the same
slot_kept : (a : Operand) (home : Home) (is : List Instr) (s : State) (r : Slots) (m : ℕ → ℕ) (k : ℕ) → omits_only_dead (Move a home) (live is) ≡ true
    → HoldsLive (live (spread_move a home is)) r m → k < (live is).slots → WordAt m (slot_at k) (slice_index (moved s r a home).words k)
slot_kept (Constant w) home is s r m k f h lt = absurd (omega (arith, lt, leb-true _ _ f))
slot_kept (Variable x) home is s r m k f h lt = absurd (omega (arith, lt, leb-true _ _ f))
slot_kept InSlot (IntoVariable x) is s r m k f h lt = h.words k (omega (arith, lt))
slot_kept InSlot IntoHeld is s r m k f h lt = h.words k (omega (arith, lt))

slot_apart : (home : Home) → DestFits (IntoHome home) → (k : ℕ) → k < 16 → (m m' : ℕ → ℕ) (v : ℕ) → Elsewhere m m' (home_at home)
    → WordAt m (slot_at k) v → WordAt m' (slot_at k) v
slot_apart (IntoVariable x) fit k lt m m' v e w = word_kept m m' (slot_at k) v (e _ (λ q. omega (arith, q, fit)) (λ q. omega (arith, q, fit)))
    (e _ (λ q. omega (arith, q, fit)) (λ q. omega (arith, q, fit))) w
slot_apart IntoHeld fit k lt m m' v e w = word_kept m m' (slot_at k) v (e _ (λ q. omega (arith, q, lt)) (λ q. omega (arith, q, lt))) (e _ (λ q. omega (arith, q, lt)) (λ q. omega (arith, q, lt))) w

held_kept : (a : Operand) (home : Home) (is : List Instr) (s : State) (r : Slots) (m m' : ℕ → ℕ) → DestFits (IntoHome home)
    → HoldsLive (live (spread_move a home is)) r m → WordAt m' (home_at home) (fetched s r 0 a) → Elsewhere m m' (home_at home) → (live is).held
    ≡ true → WordAt m' HELD (moved s r a home).held
held_kept a IntoHeld is s r m m' fit h w e q = w
held_kept a (IntoVariable x) is s r m m' fit h w e q =
    subst (λ v. WordAt m' HELD v) (sym (fetched_held s r 0 a))
    (word_kept m m' HELD r.held (e HELD (λ q. omega (arith, q, fit)) (λ q. omega (arith, q, fit))) (e (HELD + 1) (λ q. omega (arith, q, fit))
    (λ q. omega (arith, q, fit))) (h.held (fetch_held 0 a (Store x ∷ is) ∙ q)))

module _ (around : Surroundings) (fits : Fits around.f 16) (code : SlotCode) (n : ℕ) (a : Operand) (home : Home) (is : List Instr) (s : State)
    (r : Slots) (w : View) (h : Ready around n (Move a home) (spread_move a home is) is s r w) where
  open around use {ly, f, lo, hi, keys}

  abbrev v : ℕ
  v = fetched s r 0 a

  fit : OperandFits a × DestFits (IntoHome home)
  fit = home_fits a home h.ranged

  abbrev after : ℕ → ℕ
  after = put_word w.mem (home_at home) (value w.mem (low (source_of 0 a))) (value w.mem (high (source_of 0 a)))

  away : Elsewhere w.mem after (home_at home)
  away p x y = put_away w.mem (home_at home) _ _ p x y

  there : WordAt after (home_at home) v
  there =
      let k = operand_held ly s _ r w.mem 0 a h.state h.read fit.0 (asked a home is) in
      word_put w.mem (home_at home) _ _ v k.low_byte k.high_byte k.small

  read_on : HoldsLive (live is) (moved s r a home) after
  read_on = record {
    words = λ k lt. slot_apart home fit.1 k (omega (arith, lt, few)) w.mem after _ away (slot_kept a home is s r w.mem k h.free h.read lt);
    held = λ q. held_kept a home is s r w.mem after fit.1 h.read there away q;
    all_words = moved_length s r a home ∙ h.read.all_words;
  }
    where
      few : (live is).slots ≤ 16
      few = h.few_behind

  -- the law of a move
  pub move_law : Comes f w (Target around (steps code (expand (Move a home)) (line code n (spread_move a home is) s r)))
      (sent_in (steps code (expand (Move a home)) (line code n (spread_move a home is) s r))) 4
  move_law =
      let text = brought (source_of 0 a) (home_at home) in
      let behind : w.regs.pc + (size text + 0) ≡ w.regs.pc + size text = omega arith in
      let texts = landed_text (IntoHome home) v s in
      let answers = landed_answers (IntoHome home) v s in
      subst (λ x. Comes f w (Target around x) (sent_in x) 4) (sym (move_goes code n a home is s r h.read.all_words))
      (looser f w _ _ [] 4 4 (omega arith)
      (stood around code n h.small is (landed (IntoHome home) v s) (moved s r a home) (w.regs.pc + size text) after w.text w.answers (subst (λ p. GroupsLie ly f.code n p (select is)) behind h.rest)
      (state_landed ly s w.mem after (IntoHome home) v fit.1 h.state there away) read_on
      (homed_kept w.mem after (home_kept (IntoHome home) fit.1 w.mem after away) h.homed)
      (h.text ∙ sym texts) (h.answers ∙ sym answers)
      (record {
        short = subst (λ t. length t ≤ keys) (sym texts) h.short.short;
        text_bytes = subst AreBytes (sym texts) h.short.text_bytes;
        answer_bytes = subst AreBytes (sym answers) h.short.answer_bytes;
      }))
      (brings f 16 fits w.regs.pc (lo ∷ hi ∷ []) w.mem w.text w.answers refl (source_of 0 a) (home_at home) h.lies.0
      (operand_grounded 0 a (IntoHome home) (omega arith) fit.0) (dest_in_data (IntoHome home) fit.1) h.lies.1 w (here h)))
