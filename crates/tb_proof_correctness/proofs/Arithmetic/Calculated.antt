-- What the law of every calculation is built on: its words, where they are, and its result where it goes.
use Rattle.std.proofs.Common.{◌≡◌, ℕ, [], List, None, Some, ap, arith, subst, sym, ◌%◌, ◌+◌, ◌/◌, ◌<◌, ◌∷◌, ◌≢◌, ◌≤◌}
use Rattle.tb_basic_syntax.specs.declared.expressions.Operator.TheVariants as op
use Rattle.std.proofs.lemmas.Bool.{ne_eqb}
use Rattle.std.specs.Prelude.{if◌then◌else◌}
use Rattle.tb_proof_correctness.proofs.CodeBytes.GroupCode.{GroupsLie, routine}
use Rattle.tb_proof_correctness.proofs.Alone.Handed.{Given, Gives, Handed, gives}
use Rattle.tb_proof_correctness.proofs.Relation.GroupInvariants.{Kept, word_lands}
use Rattle.tb_proof_correctness.proofs.Relation.Matching.{Matches, Target}
use Rattle.tb_proof_correctness.proofs.Relation.Operands.{CalcFits, SourceHolds, calc_fits, operand_apart, operand_held}
use Rattle.tb_proof_correctness.proofs.Relation.Ready.{Ready}
use Rattle.tb_proof_correctness.proofs.Slots.SlotSide.{calculate_goes, calculate_lasting, calculated, fetched, landed, left_asked, line, right_asked, spread, with_fetched}
use Rattle.tb_proof_correctness.proofs.Pieces.Sums.{Grounded}
use Rattle.tb_proof_correctness.proofs.Relation.Surroundings.{Surroundings}
use Rattle.tb_proof_simulation.proofs.Joins.{sent_in}
use Rattle.tb_proof_simulation.proofs.Pieces.{put_word}
use Rattle.tb_proof_simulation.proofs.Resolved.{Lies, pieces_size}
use Rattle.tb_basic_meaning.specs.Control.{State}
use Rattle.tb_lower.specs.Slots.{Instr, SlotCode, Slots}
use Rattle.tb_basic_meaning.specs.Values.{apply}
use Rattle.tb_machine_reaching.specs.View.{Comes, Fits, View, back_at}
use Rattle.tb_compiled_kept.specs.Addresses.{LEFT, RIGHT}
use Rattle.tb_runtime16.specs.Routines.{Here, Moves}
use Rattle.tb_compiler_selection.specs.GroupSteps.{steps}
use Rattle.tb_compiler_selection.specs.Groups.{Calculate, Destination, Operand, expand, slot_of}
use Rattle.tb_compiler_selection.specs.Liveness.{live}
use Rattle.tb_compiler_selection.specs.Select.{select}
use Rattle.tb_basic_syntax.specs.declared.expressions.Operator.{Operator}
use Rattle.tb_compiler_templates.specs.Sources.{destination_at, source_of}
use Rattle.tb_compiler_templates.specs.declared.sources.Source.{Source}
use Rattle.tb_words.specs.Words.{quotient}

-- the slot, the words and the sources of a calculation, and where its result goes
pub record Calculation : Type 0 where
  pub k : ℕ
  pub x : ℕ
  pub y : ℕ
  pub left : Source
  pub right : Source
  pub to : ℕ

abbrev pub calculation : Operand → Operand → Destination → State → Slots → Calculation
calculation a b d s r = record {
  k = slot_of d;
  x = fetched s r (slot_of d) a;
  y = fetched s r (slot_of d + 1) b;
  left = source_of (slot_of d) a;
  right = source_of (slot_of d + 1) b;
  to = destination_at d;
}

-- what a division gives, if it gives a word
pub quotient_is : (x y : ℕ) → y ≢ 0 → apply op.Divide x y ≡ Some (quotient x y)
quotient_is x y some = ap (λ t. if t then None else Some (quotient x y)) (ne_eqb y 0 some)

module _ {around : Surroundings} {n : ℕ} {op : Operator} {a b : Operand} {d : Destination} {is : List Instr} {s : State} {r : Slots} {w : View}
    (h : Ready around n (Calculate op a b d) (spread op a b d is) is s r w) where
  open around use {ly, f, lo, hi}
  open calculation a b d s r use {k, x, y, left, right, to}

  -- the operands and the destination of a calculation are in range
  pub fit : CalcFits a b d
  fit = calc_fits op a b d h.ranged

  -- its words are where its sources say, and apart from what the routines take
  pub left_holds : (m : ℕ → ℕ) → Kept around (live (spread op a b d is)) s r m → SourceHolds m left x
  left_holds m c = operand_held ly s (live (spread op a b d is)) r m k a c.state c.read fit.left (left_asked op a b d is)

  -- its right word is where its source says
  pub right_holds : (m : ℕ → ℕ) → Kept around (live (spread op a b d is)) s r m → SourceHolds m right y
  right_holds m c = operand_held ly s (live (spread op a b d is)) r m (k + 1) b c.state c.read fit.right (right_asked op a b d is)

  -- its left source is apart from LEFT
  pub left_apart : Grounded left LEFT
  left_apart = operand_apart k a LEFT (omega arith) (omega (arith, fit.slot)) fit.left

  -- its right source is apart from each address below the data
  pub right_apart : (p : ℕ) → p ≤ 0xC000 → Grounded right p
  right_apart p e = operand_apart (k + 1) b p e fit.slot fit.right

  module _ (code : SlotCode) where
    -- where the slot steps lead
    abbrev pub Leads : ℕ → Type 0
    Leads j = Comes f w (Target around (steps code (expand (Calculate op a b d)) (line code n (spread op a b d is) s r)))
        (sent_in (steps code (expand (Calculate op a b d)) (line code n (spread op a b d is) s r))) j

    -- the law of a calculation with a result
    pub leads_on : (v j : ℕ) → apply op x y ≡ Some v → Comes f w (Matches around (line code n is (landed d v s) (calculated s r a b d v))) [] j → Leads j
    leads_on v j e c = subst (λ z. Comes f w (Target around z) (sent_in z) j) (sym (calculate_goes code n op a b d is s r h.read.all_words fit.slot v e)) c

    -- the result was written to where it goes
    pub result_lands : (v l g at : ℕ) (m : ℕ → ℕ) → l ≡ v % 256 → g ≡ v / 256 → v < 65536 → GroupsLie ly f.code n at (select is)
        → Kept around (live (spread op a b d is)) s r m → (u : View) → Here at (lo ∷ hi ∷ []) (put_word m to l g) w.text w.answers u
        → Matches around (line code n is (landed d v s) (calculated s r a b d v)) u
    result_lands v l g at m low high small rest c = word_lands around code n h.small (live (spread op a b d is)) d is s r
        (with_fetched s (with_fetched s r k a) (k + 1) b) v l g at m w.text w.answers low high small fit.dest
        (calculate_lasting op a b d is s r h.free) rest c h.text h.answers h.short

    -- a routine gets both words, and its answer goes to the destination
    pub on_two : (fits : Fits f 16) (entry from at : ℕ) (m : ℕ → ℕ) → Kept around (live (spread op a b d is)) s r m
        → Lies f.code at (routine entry from left right to) → (v limit : ℕ) → Gives from → GroupsLie ly f.code n (at + pieces_size (routine entry from left right to)) (select is)
        → ((l g : ℕ) (m' : ℕ → ℕ) → Handed fits h m x y m' → Moves f (Here entry (l ∷ g ∷ lo ∷ hi ∷ []) m' w.text w.answers) (Given fits h from (back_at l g) s v) [] limit)
        → Moves f (Here at (lo ∷ hi ∷ []) m w.text w.answers) (Matches around (line code n is (landed d v s) (calculated s r a b d v))) [] (13 + limit)
    on_two fits entry from at m c lies v limit g rest does =
        gives fits h entry from at left right d m c lies x y left_apart (right_apart RIGHT (omega arith)) (left_holds m c) right_holds
        code s (with_fetched s (with_fetched s r k a) (k + 1) b) v limit g fit.dest (calculate_lasting op a b d is s r h.free) rest h.text h.answers h.short does
