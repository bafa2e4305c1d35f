-- The law of a product, which can't fault: LINE is unchanged.
use Rattle.std.proofs.Common.{ℕ, ◌+◌, ◌*◌, List, [], refl, arith}
use Rattle.tb_words.specs.Words.{word}
use Rattle.tb_basic_syntax.specs.declared.expressions.Operator.TheVariants as op
use Rattle.tb_basic_meaning.specs.Control.{State}
use Rattle.tb_lower.specs.Slots.{Instr, Slots, SlotCode}
use Rattle.tb_machine_reaching.proofs.Comes.{looser}
use Rattle.tb_machine_reaching.specs.View.{Fits, View}
use Rattle.tb_runtime16.specs.Addresses.{MULTIPLY_AT}
use Rattle.tb_compiled_kept.specs.Addresses.{RESULT}
use Rattle.tb_runtime16.proofs.StatePlaces.{not_argument}
use Rattle.tb_proof_simulation.proofs.Resolved.{Lies, pieces_size}
use Rattle.tb_proof_simulation.proofs.Returning.{back_here}
use Rattle.tb_compiler_selection.specs.Groups.{Operand, Destination, Calculate}
use Rattle.tb_compiler_selection.specs.Liveness.{live}
use Rattle.tb_compiler_selection.specs.Select.{select}
use Rattle.tb_proof_correctness.proofs.CodeBytes.GroupCode.{GroupsLie, routine}
use Rattle.tb_proof_correctness.proofs.Alone.Handed.{result_gives}
use Rattle.tb_proof_correctness.proofs.Relation.GroupInvariants.{kept, kept_scratch}
use Rattle.tb_proof_correctness.proofs.Relation.Ready.{Ready, here}
use Rattle.tb_proof_correctness.proofs.Slots.SlotSide.{spread}
use Rattle.tb_proof_correctness.proofs.Relation.Surroundings.{Serves, Surroundings}
use Rattle.tb_proof_correctness.proofs.Arithmetic.Calculated.{Leads, calculation, leads_on, on_two}

module _ {around : Surroundings} (fits : Fits around.f 16) (limit : ℕ) (rs : Serves around limit) (code : SlotCode) {n : ℕ} {a b : Operand}
    {d : Destination} {is : List Instr} {s : State} {r : Slots} {w : View} (h : Ready around n (Calculate op.Multiply a b d) (spread op.Multiply a b d is) is s r w) where
  open around use {ly, f}
  open calculation a b d s r use {x, y, left, right, to}

  -- the law of a product by the routine
  pub multiply_law : Lies f.code w.regs.pc (routine MULTIPLY_AT RESULT left right to)
      → GroupsLie ly f.code n (w.regs.pc + pieces_size (routine MULTIPLY_AT RESULT left right to)) (select is) → Leads h code (13 + limit)
  multiply_law lies rest =
      leads_on h code (word (x * y)) (13 + limit) refl
      (on_two h code fits MULTIPLY_AT RESULT w.regs.pc w.mem (kept h) lies (word (x * y)) limit result_gives rest
      (λ l g m k u e. looser f u _ _ [] limit limit (omega arith)
      (λ u q. record {
        here = back_here _ _ w.text w.answers _ u q refl;
        result = q.memory.result;
        kept = kept_scratch around (live (spread op.Multiply a b d is)) s r m u.mem h.some_read (λ p o. q.memory.others p (not_argument p o)) k.kept;
      })
      (rs.multiply l g m w.text w.answers x y k.left k.right u e))
      w (here h))
