-- The laws of uses of a word: as a number that is sent, or as the number of a line for GOTO or GOSUB.
use Rattle.std.proofs.Common.{◌≡◌, ℕ, ◌+◌, ◌≤◌, Bool, true, false, if◌then◌else◌, List, [], ◌∷◌, length, refl, sym, subst, arith}
use Rattle.std.specs.Prelude.{nat_lt}
use Rattle.tb_words.specs.Words.{digits_of}
use Rattle.tb_basic_meaning.specs.Control.{At, State, deepest, fault, has_line, next_after}
use Rattle.tb_lower.specs.Slots.{Instr, Slots, SlotCode, leaving, settled}
use Rattle.tb_basic_meaning.specs.Steps.{Goes}
use Rattle.tb_machine_reaching.proofs.Comes.{looser}
use Rattle.tb_machine_reaching.specs.View.{Fits, View}
use Rattle.tb_compiler_selection.specs.Groups.{AsLine, AsNumber, AsSubroutine, Operand, Usage, Use, expand}
use Rattle.tb_compiler_selection.specs.GroupSteps.{steps}
use Rattle.tb_proof_correctness.proofs.Alone.SingleLaws.{Leads}
use Rattle.tb_proof_correctness.proofs.CodeBytes.GroupCode.{GroupsLaid}
use Rattle.tb_proof_correctness.proofs.Alone.Finding.{call_fails, call_found, call_full, jump_fails, jump_found}
use Rattle.tb_proof_correctness.proofs.Slots.OneWord.{spread_use, use_steps, used}
use Rattle.tb_proof_correctness.proofs.Relation.Ready.{Ready}
use Rattle.tb_proof_correctness.proofs.Alone.Sending.{number_law}
use Rattle.tb_proof_correctness.proofs.Slots.SlotSide.{fetched, line, with_fetched}
use Rattle.tb_proof_correctness.proofs.Relation.Surroundings.{Serves, Surroundings}

module _ (around : Surroundings) (fits : Fits around.f 16) (limit : ℕ) (rs : Serves around limit) (wide : 300 ≤ limit) (code : SlotCode)
    (laid : GroupsLaid around.ly around.f.code around.f.whole code) (n : ℕ) (a : Operand) (is : List Instr) (s : State) (r : Slots) (w : View) where
  open around use {ly, f}

  abbrev most : ℕ
  most = 34 + (limit + limit)

  abbrev Begins : Usage → Type 0
  Begins how = Ready around n (Use how a) (spread_use how a is) is s r w

  -- the word, and the slots after it
  abbrev x : ℕ
  x = fetched s r 0 a

  abbrev slots : Slots
  slots = with_fetched s r 0 a

  by_line : Begins AsLine → (t : Bool) → has_line ly.numbers x ≡ t → Leads around fits limit rs code laid w
      (settled n is slots (leaving (if t then Goes (record s { place = At x }) [] else fault 1 n)))
  by_line h true e = looser f w _ _ [] (19 + limit) most (omega arith) (λ u x. x) (jump_found around fits limit rs wide code laid n is s r w a h e)
  by_line h false e = jump_fails around fits limit rs wide code laid n is s r w a h e

  by_room : Begins AsSubroutine → (t u : Bool) → has_line ly.numbers x ≡ t → nat_lt (length s.returns) deepest ≡ u
      → Leads around fits limit rs code laid w
      (settled n is slots (leaving (if t then (if u then Goes (record s { place = At x; returns = next_after ly.numbers n ∷ s.returns }) [] else fault 4 n) else fault 1 n)))
  by_room h false u e e' = call_fails around fits limit rs wide code laid n is s r w a h e
  by_room h true false e e' = call_full around fits limit rs wide code laid n is s r w a h e e'
  by_room h true true e e' = call_found around fits limit rs wide code laid n is s r w a h e e'

  does : (how : Usage) → Begins how → Leads around fits limit rs code laid w (settled n is slots (used ly.numbers n how x s slots))
  does AsNumber h = looser f w _ _ (digits_of x) (5 + limit) most (omega arith) (λ u x. x) (number_law around fits limit rs code n is s r w a h)
  does AsLine h = by_line h (has_line ly.numbers x) refl
  does AsSubroutine h = by_room h (has_line ly.numbers x) (nat_lt (length s.returns) deepest) refl refl

  -- the law of each use of a word
  pub use_law : (how : Usage) → Begins how → Leads around fits limit rs code laid w (steps code (expand (Use how a)) (line code n (spread_use how a is) s r))
  use_law how h =
      subst (λ x. Leads around fits limit rs code laid w x) (sym (use_steps code n how a is s r h.read.all_words))
      (subst (λ ns. Leads around fits limit rs code laid w (settled n is slots (used ns n how x s slots))) (sym laid.numbered) (does how h))
