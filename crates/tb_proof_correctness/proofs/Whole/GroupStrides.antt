-- Groups are steps of slot instructions: each run by groups is one by instructions, and comes wherever that run is
-- outside a list.
use Rattle.std.proofs.Common.{◌≡◌, ℕ, zero, suc, ◌+◌, List, Option, Some, None, refl, sym, ap, ◌∙◌, subst}
use Rattle.tb_basic_syntax.specs.Source.{numbers}
use Rattle.tb_basic_meaning.specs.Control.{Place, At, Past, State, content_at, highest, fault_text}
use Rattle.tb_lower.specs.Slots.{Instr, Rest, Whole, Left, Slots, SlotCode, SlotState, slot_step, instr_at, instr_found, begins, begins_in}
use Rattle.tb_basic_meaning.specs.Steps.{Goes, Stops, Faulted, Run, GoesOn, Over, and_then, advance, advance_by}
use Rattle.tb_proof_simulation.proofs.Strides.{IsOutside, IsStride, found_line, lines_at, passed}
use Rattle.tb_compiler_selection.specs.GroupSteps.{InsideRest, IsInside, ahead, fallen, first, first_group, group_step, groups_begin, or_empty}
use Rattle.tb_compiler_selection.specs.Select.{select}
use Rattle.tb_compiler_selection.proofs.GroupRuns.{reached, found}

module _ (code : SlotCode) where
  -- if there is no line, no group goes on
  module _ (s : State) (r : Slots) (d : SlotState) (t : List ℕ) (e : group_step code (record { state = s; rest = Whole; slots = r }) ≡ Goes d t) where
    abbrev whole : SlotState
    whole = record { state = s; rest = Whole; slots = r }

    none_goes : (n : ℕ) → s.place ≡ At n → content_at code n ≡ None → ⊥
    none_goes n here none =
        let stops : first_group code whole ≡ Stops Faulted (fault_text 7 (highest (numbers code))) =
        ap (λ p. first code (select (ahead code Whole p)) whole) here ∙ ap (λ o. first code (select (or_empty o)) whole) none
        ∙ ap (λ p. instr_at code Whole p s r) here ∙ ap (λ o. instr_found (numbers code) n o s r) none in
        let no : Stops Faulted (fault_text 7 (highest (numbers code))) ≡ Goes d t = sym (ap (λ x. and_then x (λ c. fallen code c.rest c)) stops) ∙ e in
        cc

    whole_begins : (p : Place) → s.place ≡ p → begins Whole p ≡ lines_at code Whole p
    whole_begins Past here = refl
    whole_begins (At n) here = by (content_at code n) refl
      where
        by : (o : Option (List Instr)) → content_at code n ≡ o → 1 ≡ found_line o
        by (Some is) q = refl
        by None q = absurd (none_goes n here q)

  goes_begins : (q : Rest) (s : State) (r : Slots) (d : SlotState) (t : List ℕ) → group_step code (record { state = s; rest = q; slots = r })
      ≡ Goes d t → begins q s.place ≡ lines_at code q s.place
  goes_begins (Left n is) s r d t e = refl
  goes_begins Whole s r d t e = whole_begins s r d t e s.place refl

  same_passed : (j : ℕ) (r : Run SlotState) → passed (group_step code) j r ≡ groups_begin code j r
  same_passed zero r = refl
  same_passed (suc j) r = ap (λ n. begins_in r + n) (same_passed j (advance (group_step code) r))

  not_inside : (r : Run SlotState) → IsOutside r → IsInside r → ⊥
  not_inside (GoesOn c out) e i = subst InsideRest e i
  not_inside (Over why out) e i = i

  -- a group is such a step
  pub group_stride : IsStride code (group_step code)
  group_stride = record {
    begins_line = λ c d t e. goes_begins c.rest c.state c.slots d t e;
    reached = λ j r. let h = reached code j r in record { count = h.count; same = h.same; begun = same_passed j r ∙ h.begun };
    found = λ k r out. let h = found code k r (not_inside (advance_by (slot_step code) k r) out) in record { count = h.count; few = h.few; same = h.same; begun = same_passed h.count r ∙ h.begun };
  }
