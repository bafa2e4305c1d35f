-- Where a test that fails leads: the beginning of the next line.
use Rattle.std.proofs.Common.{◌≡◌, ℕ, List, [], ◌∷◌, refl, sym, ap, ◌∙◌, subst, arith}
use Rattle.tb_basic_syntax.specs.Source.{numbers}
use Rattle.tb_basic_meaning.specs.Control.{State, next_after}
use Rattle.tb_lower.specs.Slots.{Whole, Slots, SlotCode}
use Rattle.tb_machine_reaching.specs.View.{View}
use Rattle.tb_runtime16.specs.Routines.{Entered, Here}
use Rattle.tb_proof_simulation.specs.Layout.{place_address}
use Rattle.tb_proof_simulation.proofs.Mirrors.{HoldsState, Typable}
use Rattle.tb_compiler_selection.specs.Groups.{Tested, HeldBefore, HeldNow}
use Rattle.tb_compiler_selection.specs.Liveness.{nothing_live}
use Rattle.tb_compiler_templates.specs.Sources.{tested_source}
use Rattle.tb_proof_simulation.proofs.Resolved.{next_at}
use Rattle.tb_proof_correctness.proofs.Relation.Matching.{HoldsLive, Matches}
use Rattle.tb_proof_correctness.proofs.Slots.TestSide.{TestedFits}
use Rattle.tb_proof_correctness.proofs.Relation.Operands.{operand_apart}
use Rattle.tb_proof_correctness.proofs.Pieces.Sums.{Grounded}
use Rattle.tb_proof_correctness.proofs.Relation.Surroundings.{Surroundings}

-- the left word's bytes are among the data
pub tested_apart : (a : Tested) → TestedFits a → Grounded (tested_source a) 0
tested_apart HeldBefore fit = ((refl, refl), λ e. omega (arith, e))
tested_apart (HeldNow a) fit = operand_apart 0 a 0 (omega arith) (omega arith) fit

module _ (around : Surroundings) (code : SlotCode) (same_numbers : numbers code ≡ around.ly.numbers) (n : ℕ) (s : State) (r : Slots) where
  open around use {ly, f, lo, hi, keys}

  -- at the next line's address, with the state unchanged, the relation holds for the next line
  pub left_at : (m : ℕ → ℕ) (t answers : List ℕ) → HoldsState ly s m → HoldsLive nothing_live r m → Entered f lo hi m → t ≡ s.text
      → answers ≡ s.answers → Typable keys s.text s.answers → (w : View) → Here (next_at ly n) (lo ∷ hi ∷ []) m t answers w
      → Matches around (record { state = record s { place = next_after (numbers code) n }; rest = Whole; slots = r }) w
  left_at m t answers hs hr en text got short w e = record {
    pc = e.pc ∙ ap (λ ns. place_address ly (next_after ns n)) (sym same_numbers);
    stack = e.stack;
    binary = e.binary;
    text = e.text ∙ text;
    answers = e.answers ∙ got;
    state = subst (HoldsState ly (record s { place = next_after (numbers code) n })) (sym e.mem) (record {
      vars = hs.vars;
      column = hs.column;
      opened = hs.opened;
      seeded = hs.seeded;
      count = hs.count;
      returns = hs.returns;
      few = hs.few;
      all_vars = hs.all_vars;
    });
    read = subst (HoldsLive nothing_live r) (sym e.mem) hr;
    homed = subst (Entered f lo hi) (sym e.mem) en;
    short = short;
  }
