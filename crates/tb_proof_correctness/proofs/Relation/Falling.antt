-- After the last group of a line the next line begins, and the step of that group goes on into it.
use Rattle.std.proofs.Common.{◌≡◌, ℕ, [], ◌∷◌, refl, sym, ap, ◌∙◌, subst, append-nil}
use Rattle.tb_basic_meaning.specs.Control.{State, next_after}
use Rattle.tb_lower.specs.Slots.{Rest, Whole, Left, Slots, SlotCode, SlotState}
use Rattle.tb_basic_meaning.specs.Steps.{Step, Goes, Stops, Ended, Faulted, Waits, and_then, after_sending}
use Rattle.tb_machine_reaching.specs.View.{View}
use Rattle.tb_basic_syntax.specs.Source.{numbers}
use Rattle.tb_proof_simulation.specs.Layout.{place_address}
use Rattle.tb_proof_simulation.proofs.Joins.{LawAt, sent_in, law_looser}
use Rattle.tb_proof_simulation.proofs.Mirrors.{Leads}
use Rattle.tb_compiler_selection.specs.GroupSteps.{fallen}
use Rattle.tb_proof_correctness.proofs.Relation.Matching.{Matches, Target}
use Rattle.tb_proof_correctness.proofs.Slots.SlotSide.{line}
use Rattle.tb_proof_correctness.proofs.Relation.Surroundings.{Surroundings}

-- a line of which nothing was done yet, or of which something is left
abbrev pub IsSome : Rest → Type 0
IsSome Whole = Unit {0}
IsSome (Left n []) = ⊥
IsSome (Left n (i ∷ is)) = Unit {0}

module _ (around : Surroundings) where
  open around use {ly, f}

  -- the relation between two steps
  abbrev pub Between : SlotState → View → Type 0
  Between c w = Matches around c w × IsSome c.rest

  module _ (code : SlotCode) (same_numbers : numbers code ≡ ly.numbers) where
    -- when all of a line is done, the relation is the one at the next line's beginning
    next_begins : (n : ℕ) (s : State) (r : Slots) (w : View) → Matches around (line code n [] s r) w
        → Matches around (record { state = record s { place = next_after (numbers code) n }; rest = Whole; slots = r }) w
    next_begins n s r w h =
        let k = h.state in
        record {
          pc = h.pc.0 ∙ ap (λ ns. place_address ly (next_after ns n)) (sym same_numbers);
          stack = h.stack;
          binary = h.binary;
          text = h.text;
          answers = h.answers;
          state = record { vars = k.vars; column = k.column; opened = k.opened; seeded = k.seeded; count = k.count; returns = k.returns; few = k.few; all_vars = k.all_vars };
          read = h.read;
          homed = h.homed;
          short = h.short;
        }

    abbrev on : Step SlotState → Step SlotState
    on x = and_then x (λ d. fallen code d.rest d)

    falls : (x : Step SlotState) (w : View) → Target around x w → Leads f Between (on x) w
    falls (Stops Ended t) w h = h
    falls (Stops Faulted t) w h = h
    falls (Stops Waits t) w h = h
    falls (Goes d t) w h = by d.rest d.state d.slots h
      where
        by : (q : Rest) (s : State) (r : Slots) → Matches around (record { state = s; rest = q; slots = r }) w
            → Leads f Between (after_sending t (fallen code q (record { state = s; rest = q; slots = r }))) w
        by Whole s r h = (h, tt)
        by (Left n (i ∷ is)) s r h = (h, tt)
        by (Left n []) s r h = (next_begins n s r w h, tt)

    sends_no_more : (x : Step SlotState) → sent_in (on x) ≡ sent_in x
    sends_no_more (Stops e t) = refl
    sends_no_more (Goes d t) = by d.rest d.state d.slots
      where
        by : (q : Rest) (s : State) (r : Slots) → sent_in (after_sending t (fallen code q (record { state = s; rest = q; slots = r }))) ≡ t
        by Whole s r = append-nil t
        by (Left n (i ∷ is)) s r = append-nil t
        by (Left n []) s r = append-nil t

    -- a law of a group, and the fall into the next line, which takes no event
    pub falls_on : (q : Rest) (x : Step SlotState) (w : View) (k : ℕ) → LawAt q f w (Target around x) (sent_in x) k → LawAt q f w (Leads f Between (on x)) (sent_in (on x)) k
    falls_on q x w k law = subst (λ t. LawAt q f w (Leads f Between (on x)) t k) (sym (sends_no_more x)) (law_looser q f w (Target around x) (Leads f Between (on x)) (sent_in x) k (falls x) law)
