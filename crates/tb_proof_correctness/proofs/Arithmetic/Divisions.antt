-- The laws of a division, which may fault: it sets the line's number just before its call.
use Rattle.std.proofs.Common.{◌≡◌, ◌≢◌, ℕ, ◌+◌, if◌then◌else◌, List, [], refl, sym, ap, subst, arith, Some, None, ◌∙◌, Bool, false, true≢false}
use Rattle.std.proofs.lemmas.Bool.{eq-eqb}
use Rattle.tb_words.specs.Words.{quotient}
use Rattle.tb_basic_syntax.specs.declared.expressions.Operator.TheVariants as op
use Rattle.tb_basic_meaning.specs.Control.{State, fault_text}
use Rattle.tb_lower.specs.Slots.{Instr, Slots, SlotCode}
use Rattle.tb_basic_meaning.specs.Values.{apply}
use Rattle.tb_machine_reaching.proofs.Comes.{looser}
use Rattle.tb_machine_reaching.specs.View.{Comes, Fits, View}
use Rattle.tb_runtime16.specs.Routines.{WordAt}
use Rattle.tb_runtime16.specs.Addresses.{DIVIDE_AT}
use Rattle.tb_compiled_kept.specs.Addresses.{LEFT, RIGHT}
use Rattle.tb_runtime16.proofs.StatePlaces.{not_argument}
use Rattle.tb_proof_simulation.proofs.Joins.{sent_in}
use Rattle.tb_proof_simulation.proofs.Resolved.{Lies, pieces_size, Piece}
use Rattle.tb_compiler_templates.specs.GroupTemplates.{may_be_zero}
use Rattle.tb_proof_simulation.proofs.Returning.{back_here}
use Rattle.tb_compiler_selection.specs.Groups.{Operand, Constant, Variable, InSlot, Destination, Calculate, slot_of}
use Rattle.tb_compiler_selection.specs.Liveness.{live}
use Rattle.tb_compiler_selection.specs.Select.{select}
use Rattle.tb_compiler_templates.specs.Sources.{destination_at, source_of}
use Rattle.tb_proof_correctness.proofs.CodeBytes.GroupCode.{GroupsLie, lined_code, routine}
use Rattle.tb_proof_correctness.proofs.Alone.Handed.{asks, left_gives}
use Rattle.tb_proof_correctness.proofs.Relation.GroupInvariants.{going_on, kept_scratch, lies_by, lines_by, number_set, rest_by}
use Rattle.tb_proof_correctness.proofs.Relation.Matching.{Target}
use Rattle.tb_proof_correctness.proofs.Relation.Ready.{Ready}
use Rattle.tb_proof_correctness.proofs.Slots.SlotSide.{calculate_fails, fetched, spread}
use Rattle.tb_proof_correctness.proofs.Relation.Surroundings.{Serves, Surroundings}
use Rattle.tb_proof_correctness.proofs.Arithmetic.Calculated.{Leads, calculation, fit, leads_on, left_apart, left_holds, on_two, quotient_is, right_apart, right_holds}

module _ {around : Surroundings} (fits : Fits around.f 16) (limit : ℕ) (rs : Serves around limit) (code : SlotCode) {n : ℕ} {a b : Operand}
    {d : Destination} {is : List Instr} {s : State} {r : Slots} {w : View} (h : Ready around n (Calculate op.Divide a b d) (spread op.Divide a b d is) is s r w)
    (there : Lies around.f.code w.regs.pc (lined_code (may_be_zero (source_of (slot_of d + 1) b)) n (routine DIVIDE_AT LEFT (source_of (slot_of d) a)
    (source_of (slot_of d + 1) b) (destination_at d))))
    (rest : GroupsLie around.ly around.f.code n (w.regs.pc + pieces_size (lined_code (may_be_zero (source_of (slot_of d + 1) b)) n
    (routine DIVIDE_AT LEFT (source_of (slot_of d) a) (source_of (slot_of d + 1) b) (destination_at d)))) (select is)) where
  open around use {ly, f}
  open calculation a b d s r use {k, x, y, left, right, to}

  -- whether it may fault; after the line's number, if it may
  abbrev risky : Bool
  risky = may_be_zero right

  abbrev code_of : List Piece
  code_of = routine DIVIDE_AT LEFT left right to

  open going_on h risky use {at, m, c}

  lies : Lies f.code at code_of
  lies = lies_by h risky code_of there

  none_is : y ≡ 0 → apply op.Divide x y ≡ None
  none_is zero = ap (λ t. if t then None else Some (quotient x y)) (eq-eqb y 0 zero)

  -- the law of a division
  pub divide_law : y ≢ 0 → Leads h code (17 + limit)
  divide_law some =
      leads_on h code (quotient x y) (17 + limit) (quotient_is x y some)
      (looser f w _ _ [] (4 + (13 + limit)) (17 + limit) (omega arith) (λ u z. z)
      (lines_by fits h risky code_of there _ [] (13 + limit)
      (on_two h code fits DIVIDE_AT LEFT at m c lies (quotient x y) limit left_gives (rest_by h risky code_of rest)
      (λ l g m k u e. looser f u _ _ [] limit limit (omega arith)
      (λ u q. record {
        here = back_here _ _ w.text w.answers _ u q refl;
        result = q.memory.left;
        kept = kept_scratch around (live (spread op.Divide a b d is)) s r m u.mem h.some_read (λ p o. q.memory.others p (not_argument p o)) k.kept;
      })
      (rs.divide l g m w.text w.answers x y k.left k.right some u e)))))

  -- a constant that is not 0 is known
  never : (k : ℕ) (b : Operand) → may_be_zero (source_of k b) ≡ false → fetched s r k b ≢ 0
  never k (Constant v) e = λ zero. absurd (true≢false (sym (eq-eqb _ _ zero) ∙ e))
  never k (Variable x) e = absurd (true≢false e)
  never k InSlot e = absurd (true≢false e)

  -- a division by 0 is fault 2
  pub divide_fails : y ≡ 0 → Leads h code (17 + limit)
  divide_fails zero =
      subst (λ x. Comes f w (Target around x) (sent_in x) (17 + limit)) (sym (calculate_fails code n op.Divide a b d is s r h.read.all_words (fit h).slot (none_is zero)))
      (looser f w _ _ (fault_text 2 n) (4 + (9 + limit)) (17 + limit) (omega arith) (λ u z. z)
      (lines_by fits h risky code_of there _ (fault_text 2 n) (9 + limit)
      (asks fits h DIVIDE_AT LEFT at left right d m c lies x y (left_apart h) (right_apart h RIGHT (omega arith)) (left_holds h m c) (right_holds h)
      _ (fault_text 2 n) limit (λ m' g. rs.divide_by_zero _ _ m' w.text w.answers x n g.left (subst (WordAt m' RIGHT) zero g.right)
      (g.line (number_set h risky (λ e. never (k + 1) b e zero))) g.kept.homed))))
