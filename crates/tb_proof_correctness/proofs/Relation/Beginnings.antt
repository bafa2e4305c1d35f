-- The weaker relation when a line begins: from the old one, with nothing known about the slots, and on into the line.
use Rattle.std.proofs.Common.{◌≡◌, ℕ, List, [], ◌∷◌, length, sym, ap, ◌∙◌, subst, arith, Some}
use Rattle.tb_basic_meaning.specs.Steps.{and_then}
use Rattle.tb_basic_meaning.specs.Control.{At, State, content_at}
use Rattle.tb_lower.specs.Slots.{Instr, SlotCode, Whole, Slots, SlotState, slot_step, instr_at, instr_found}
use Rattle.tb_basic_syntax.specs.Source.{numbers}
use Rattle.tb_machine_reaching.specs.View.{View}
use Rattle.tb_proof_simulation.proofs.Mirrors.{Opens}
use Rattle.tb_compiler_selection.specs.Groups.{Group, expand}
use Rattle.tb_compiler_selection.specs.Liveness.{nothing_live}
use Rattle.tb_compiler_selection.specs.Select.{select}
use Rattle.tb_compiler_selection.specs.GroupSteps.{inside, steps, ahead, or_empty, first, first_group}
use Rattle.tb_compiler_selection.proofs.GroupRuns.{expand_some}
use Rattle.tb_proof_correctness.proofs.Relation.Matching.{HoldsLive, Matches}
use Rattle.tb_proof_correctness.proofs.Slots.SlotSide.{line}
use Rattle.tb_proof_correctness.proofs.Relation.Surroundings.{Surroundings}

-- if nothing is read, nothing has to be in memory
pub nothing_read : (r : Slots) (m : ℕ → ℕ) → length r.words ≡ 16 → HoldsLive nothing_live r m
nothing_read r m all = record { words = λ k lt. absurd (omega (arith, lt)); held = λ q. absurd (let no : ⊥ = cc in no); all_words = all }

module _ (around : Surroundings) where
  open around use {ly, f, lo, hi, keys}

  -- the start of a run is related
  pub from_opened : (s : State) (r : Slots) (w : View) → length r.words ≡ 16 → Opens ly f lo hi keys s w → Matches around (record { state = s; rest = Whole; slots = r }) w
  from_opened s r w all h = record {
    pc = h.pc;
    stack = h.stack;
    binary = h.binary;
    text = h.text;
    answers = h.answers;
    state = h.holds;
    read = nothing_read r w.mem all;
    homed = h.homed;
    short = h.short;
  }

-- and its step is that of the list's first group
module _ (code : SlotCode) (n : ℕ) (is : List Instr) (s : State) (r : Slots) (here : s.place ≡ At n) (some : content_at code n ≡ Some is) where
  abbrev at_line : SlotState
  at_line = record { state = s; rest = Whole; slots = r }

  one_step : slot_step code at_line ≡ slot_step code (line code n is s r)
  one_step = ap (λ p. instr_at code Whole p s r) here ∙ ap (λ o. instr_found (numbers code) n o s r) some

  same_steps : (i : Instr) (js : List Instr) → steps code (i ∷ js) at_line ≡ steps code (i ∷ js) (line code n is s r)
  same_steps i js = ap (λ x. and_then x (λ c. inside (steps code js) c.rest c)) one_step

  same_first : (gs : List Group) → first code gs at_line ≡ first code gs (line code n is s r)
  same_first [] = one_step
  same_first (g ∷ gs) = by (expand_some g)
    where
      by : (i : Instr) × (js : List Instr) × (expand g ≡ i ∷ js) → steps code (expand g) at_line ≡ steps code (expand g) (line code n is s r)
      by e = subst (λ l. steps code l at_line ≡ steps code l (line code n is s r)) (sym e.2) (same_steps e.0 e.1)

  -- the step of a whole line is that of its first group
  pub line_step : first_group code at_line ≡ first_group code (line code n is s r)
  line_step = ap (λ p. first code (select (ahead code Whole p)) at_line) here ∙ ap (λ o. first code (select (or_empty o)) at_line) some ∙ same_first (select is)
