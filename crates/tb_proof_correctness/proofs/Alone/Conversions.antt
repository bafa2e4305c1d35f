-- The laws of conversions: 0 minus a word, and RND, which may fault.
use Rattle.std.proofs.Common.{◌≡◌, ◌≢◌, ℕ, ◌+◌, ◌-◌, ◌/◌, ◌%◌, ◌<◌, Bool, true, false, true≢false, ◌||◌, List, []}
use Rattle.std.proofs.Common.{◌∷◌, ◌++◌, refl, sym, ap, ◌∙◌, subst, arith}
use Rattle.std.specs.Prelude.{nat_eq, nat_le}
use Rattle.tb_words.specs.Words.{negated, seed_after, word}
use Rattle.tb_basic_meaning.specs.Control.{State, fault_text}
use Rattle.tb_lower.specs.Slots.{Instr, Slots, SlotCode}
use Rattle.tb_machine_reaching.proofs.Comes.{looser}
use Rattle.tb_machine_reaching.specs.View.{Comes, Fits, View}
use Rattle.tb_runtime16.specs.Laws.{Drawn}
use Rattle.tb_runtime16.specs.Routines.{is_state}
use Rattle.tb_compiler_templates.specs.GroupTemplates.{may_have_none}
use Rattle.tb_compiled_kept.specs.Addresses.{HOME_S, RESULT, RIGHT, SEED, SEEDED}
use Rattle.tb_runtime16.specs.Addresses.{RANDOM_AT}
use Rattle.tb_runtime16.proofs.StatePlaces.{not_argument, not_scratch, not_seed}
use Rattle.tb_proof_simulation.proofs.Frames.{low_is_state, state_drawn}
use Rattle.tb_proof_simulation.proofs.Joins.{sent_in}
use Rattle.tb_proof_simulation.proofs.Resolved.{Lies, Piece, pieces_size, size}
use Rattle.tb_proof_simulation.proofs.Returning.{back_here, homed_kept}
use Rattle.tb_compiler_selection.specs.Groups.{Operand, Constant, Variable, InSlot, Destination, Conversion, Negated, Drawn as IsDrawn, Convert, convert, expand, kept, slot_of}
use Rattle.tb_compiler_selection.specs.Liveness.{live}
use Rattle.tb_compiler_selection.specs.Select.{select}
use Rattle.tb_compiler_selection.specs.GroupSteps.{steps}
use Rattle.tb_proof_correctness.proofs.Arithmetic.Calculations.{subtracted_word}
use Rattle.tb_compiler_templates.specs.declared.sources.Source.{Source}
use Rattle.tb_compiler_templates.specs.declared.sources.Source.TheVariants.{FixedWord}
use Rattle.tb_compiler_templates.specs.Sources.{destination_at, source_of}
use Rattle.tb_proof_correctness.proofs.CodeBytes.GroupCode.{GroupsLie, routine, taken}
use Rattle.tb_proof_correctness.proofs.Relation.Frames.{live_same}
use Rattle.tb_proof_correctness.proofs.Alone.Handed.{asks, gives, result_gives}
use Rattle.tb_proof_correctness.proofs.Relation.GroupInvariants.{Kept, going_on, kept as kept_first, lies_by, lines_by, number_set, rest_by, word_lands}
use Rattle.tb_proof_correctness.proofs.Relation.Matching.{Target}
use Rattle.tb_proof_correctness.proofs.Slots.OneWord.{ConvertFits, convert_fits, convert_lasting, convert_reads, draw_fails, draw_goes, negate_goes, spread_convert, word_asked}
use Rattle.tb_proof_correctness.proofs.Relation.Operands.{SourceHolds, dest_in_data, operand_apart, operand_grounded, operand_held}
use Rattle.tb_proof_correctness.proofs.Relation.Ready.{Ready, here}
use Rattle.tb_proof_correctness.proofs.Slots.SlotSide.{StandsIn, fetched, line, with_fetched}
use Rattle.tb_proof_correctness.proofs.Pieces.Sums.{differs}
use Rattle.tb_proof_correctness.proofs.Relation.Surroundings.{Serves, Surroundings}

module _ (around : Surroundings) (fits : Fits around.f 16) (code : SlotCode) (n : ℕ) (a : Operand) (d : Destination) (is : List Instr) (s : State) (r : Slots) (w : View) where
  open around use {ly, f, lo, hi}

  abbrev k : ℕ
  k = slot_of d

  abbrev x : ℕ
  x = fetched s r k a

  abbrev src : Source
  src = source_of k a

  abbrev Begins : Conversion → Type 0
  Begins what = Ready around n (Convert what a d) (spread_convert what a d is) is s r w

  -- where the slot steps lead
  abbrev pub ConvertLeads : Conversion → ℕ → Type 0
  ConvertLeads what k = Comes f w (Target around (steps code (expand (Convert what a d)) (line code n (spread_convert what a d is) s r)))
      (sent_in (steps code (expand (Convert what a d)) (line code n (spread_convert what a d is) s r))) k

  asked : (what : Conversion) → StandsIn a k (live (spread_convert what a d is))
  asked what = word_asked k a (convert what k) (kept d ++ is) (convert_reads what k (kept d ++ is))

  -- the law of a negation
  pub negate_law : Begins Negated → ConvertLeads Negated 7
  negate_law h =
      let fit = convert_fits Negated a d h.ranged in
      let held = operand_held ly s _ r w.mem k a h.state h.read fit.word (asked Negated) in
      let difference = subtracted_word 0 0 _ _ 0 x refl refl held.low_byte held.high_byte (omega arith) held.small in
      let same : 0 + (65536 - x) ≡ 65536 - x = omega arith in
      let text = taken (FixedWord 0) src (destination_at d) in
      let behind : w.regs.pc + (size text + 0) ≡ w.regs.pc + size text = omega arith in
      subst (λ x. Comes f w (Target around x) (sent_in x) 7) (sym (negate_goes code n a d is s r h.read.all_words fit.slot))
      (looser f w _ _ [] 7 7 (omega arith)
      (word_lands around code n h.small (live (spread_convert Negated a d is)) d is s r (with_fetched s r k a) (negated x) _ _
      (w.regs.pc + size text) w.mem w.text w.answers (difference.0 ∙ ap (λ y. word y % 256) same) (difference.1 ∙ ap (λ y. word y / 256) same)
      (omega arith) fit.dest (convert_lasting Negated a d is s r h.free) (subst (λ p. GroupsLie ly f.code n p (select is)) behind h.rest)
      (kept_first h) h.text h.answers h.short)
      (differs f 16 fits w.regs.pc (lo ∷ hi ∷ []) w.mem w.text w.answers refl (FixedWord 0) src (destination_at d) h.lies.0 tt
      (operand_grounded k a d fit.slot fit.word) (dest_in_data d fit.dest) h.lies.1 w (here h)))

  -- ---- RND
  module _ (limit : ℕ) (rs : Serves around limit) (seed_small : ly.seed < 65536) (h : Begins IsDrawn) where
    abbrev js : List Instr
    js = spread_convert IsDrawn a d is

    -- whether it may fault; after the line's number, if it may
    abbrev risky : Bool
    risky = may_have_none src

    abbrev code_of : List Piece
    code_of = routine RANDOM_AT RESULT (FixedWord ly.seed) src (destination_at d)

    open going_on h risky use {at, m, c}

    lies : Lies f.code at code_of
    lies = lies_by h risky code_of h.lies

    fit : ConvertFits a d
    fit = convert_fits IsDrawn a d h.ranged

    option_holds : SourceHolds m (FixedWord ly.seed) ly.seed
    option_holds = record { low_byte = refl; high_byte = refl; small = seed_small }

    bound_holds : (m' : ℕ → ℕ) → Kept around (live js) s r m' → SourceHolds m' src x
    bound_holds m' q = operand_held ly s (live js) r m' k a q.state q.read fit.word (asked IsDrawn)

    rest : GroupsLie ly f.code n (at + pieces_size (routine RANDOM_AT RESULT (FixedWord ly.seed) src (destination_at d))) (select is)
    rest = rest_by h risky code_of h.rest

    -- the state after it
    abbrev drawn : State
    drawn = record s { seed = seed_after s.seed }

    drawn_kept : (bound : ℕ) (m' m'' : ℕ → ℕ) → Kept around (live js) s r m' → Drawn m' bound s.seed m'' → Kept around (live js) drawn r m''
    drawn_kept bound m' m'' q g =
        let others : (p : ℕ) → is_state p ≡ true → p ≢ SEEDED → p ≢ SEED → p ≢ SEED + 1 → m'' p ≡ m' p = λ p o x y z. g.others p (not_argument p o)
        (not_scratch p o) (not_seed p x y z) in
        record {
          state = state_drawn ly s m' m'' q.state (seed_after s.seed) g.seeded g.seed_at others;
          read = live_same (live js) r m' m'' h.some_read (λ a lo hi. others a (low_is_state a (omega (arith, lo)) hi) (λ e. omega (arith, e, lo))
              (λ e. omega (arith, e, lo)) (λ e. omega (arith, e, lo))) q.read;
          homed = homed_kept m' m'' (g.others HOME_S refl refl refl) q.homed;
        }

    -- the law of RND with a good bound
    pub draw_law : (nat_eq x 0 || nat_le 32768 x) ≡ false → ConvertLeads IsDrawn (17 + limit)
    draw_law good =
        subst (λ x. Comes f w (Target around x) (sent_in x) (17 + limit)) (sym (draw_goes code n a d is s r h.read.all_words fit.slot good))
        (looser f w _ _ [] (4 + (13 + limit)) (17 + limit) (omega arith) (λ u z. z)
        (lines_by fits h risky code_of h.lies _ [] (13 + limit)
        (gives fits h RANDOM_AT RESULT at (FixedWord ly.seed) src d m c lies ly.seed x
        tt (operand_apart k a RIGHT (omega arith) fit.slot fit.word) option_holds bound_holds
        code drawn (with_fetched s r k a) (seed_after s.seed % x) limit result_gives fit.dest (convert_lasting IsDrawn a d is s r h.free) rest h.text h.answers h.short
        (λ l k' m' g u e. looser f u _ _ [] limit limit (omega arith)
        (λ u q. record {
          here = back_here _ _ w.text w.answers _ u q refl;
          result = q.memory.result;
          kept = drawn_kept x m' u.mem g.kept q.memory;
        })
        (rs.random l k' m' w.text w.answers x s.seed g.right g.left g.kept.state.seeded good u e)))))

    -- a constant from 1 to 32,767 is known
    never : (k : ℕ) (a : Operand) → may_have_none (source_of k a) ≡ false → (nat_eq (fetched s r k a) 0 || nat_le 32768 (fetched s r k a)) ≡ false
    never k (Constant v) e = e
    never k (Variable x) e = absurd (true≢false e)
    never k InSlot e = absurd (true≢false e)

    -- RND with a bad bound is fault 3
    pub draw_fails_law : (nat_eq x 0 || nat_le 32768 x) ≡ true → ConvertLeads IsDrawn (17 + limit)
    draw_fails_law bad =
        subst (λ x. Comes f w (Target around x) (sent_in x) (17 + limit)) (sym (draw_fails code n a d is s r h.read.all_words fit.slot bad))
        (looser f w _ _ (fault_text 3 n) (4 + (9 + limit)) (17 + limit) (omega arith) (λ u z. z)
        (lines_by fits h risky code_of h.lies _ (fault_text 3 n) (9 + limit)
        (asks fits h RANDOM_AT RESULT at (FixedWord ly.seed) src d m c lies ly.seed x
        tt (operand_apart k a RIGHT (omega arith) fit.slot fit.word) option_holds bound_holds
        _ (fault_text 3 n) limit (λ m' g. rs.random_fails _ _ m' w.text w.answers x n g.right bad (g.line (number_set h risky (λ e. true≢false (sym bad ∙ never k a e)))) g.kept.homed))))
