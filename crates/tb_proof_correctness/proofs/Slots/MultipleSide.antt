-- What the slot instructions of a variable's quotient times its divisor do, in slot j.
use Rattle.std.proofs.Common.{◌≡◌, ◌≢◌, ℕ, ◌+◌, ◌*◌, ◌<◌, if◌then◌else◌, List, ◌∷◌, ◌++◌, length, refl, ap, ◌∙◌, arith, Some, None, length-set}
use Rattle.std.specs.Prelude.{slice_index}
use Rattle.std.proofs.lemmas.Bool.{eq-eqb, ne_eqb}
use Rattle.tb_words.specs.Words.{quotient, word}
use Rattle.tb_basic_syntax.specs.declared.expressions.Operator.TheVariants as op
use Rattle.tb_basic_meaning.specs.Control.{State, fault_text}
use Rattle.tb_lower.specs.Slots.{Instr, Compute, Load, Slots, SlotCode, into, with_word}
use Rattle.tb_basic_meaning.specs.Steps.{Stops, Faulted}
use Rattle.tb_basic_meaning.specs.Values.{apply, given}
use Rattle.tb_compiler_selection.specs.Groups.{Operand, Constant, Variable, InSlot, fetch, multiple}
use Rattle.tb_compiler_selection.specs.GroupSteps.{steps}
use Rattle.tb_proof_correctness.proofs.Slots.SlotSide.{acts, fetched, fetched_behind, fetched_held, fetched_length, fetched_other, fetched_same, fetches, line, other_slot, same_slot, stops, with_fetched}

module _ (code : SlotCode) (n j v : ℕ) (d : Operand) (s : State) (r : Slots) (all : length r.words ≡ 16) (room : j + 1 < 16) where
  abbrev pub dividend : ℕ
  dividend = slice_index s.vars v

  abbrev pub divisor : ℕ
  divisor = fetched s r (j + 1) d

  abbrev pub product : ℕ
  product = word (quotient dividend divisor * divisor)

  -- the slots after the first fetches, the quotient, the second fetch and the product
  abbrev both : Slots
  both = with_fetched s (with_word r j dividend) (j + 1) d

  abbrev divided : Slots
  divided = with_word both j (quotient dividend divisor)

  abbrev again : Slots
  again = with_fetched s divided (j + 1) d

  abbrev pub multiplied : Slots
  multiplied = with_word again j product

  both_length : length both.words ≡ 16
  both_length = fetched_length s (with_word r j dividend) (j + 1) d ∙ length-set r.words j dividend ∙ all

  again_length : length again.words ≡ 16
  again_length = fetched_length s divided (j + 1) d ∙ length-set both.words j (quotient dividend divisor) ∙ both_length

  -- there are still 16 slots
  pub multiplied_length : length multiplied.words ≡ 16
  multiplied_length = length-set again.words j product ∙ again_length

  left_is : slice_index both.words j ≡ dividend
  left_is = fetched_other s (with_word r j dividend) (j + 1) j d (λ e. omega (arith, e)) ∙ same_slot r j dividend (omega (arith, all, room))

  right_is : slice_index both.words (j + 1) ≡ divisor
  right_is =
      fetched_same s (with_word r j dividend) (j + 1) d (omega (arith, room, both_length, fetched_length s (with_word r j dividend) (j + 1) d))
      ∙ fetched_behind s r j (j + 1) (Variable v) d (λ e. omega (arith, e))

  quotient_stands : slice_index again.words j ≡ quotient dividend divisor
  quotient_stands = fetched_other s divided (j + 1) j d (λ e. omega (arith, e)) ∙ same_slot both j (quotient dividend divisor) (omega (arith, room, both_length))

  divisor_stands : slice_index again.words (j + 1) ≡ divisor
  divisor_stands = fetched_same s divided (j + 1) d (omega (arith, room, again_length, fetched_length s divided (j + 1) d)) ∙ by d right_is
    where
      by : (d : Operand) → slice_index (with_fetched s (with_word r j dividend) (j + 1) d).words (j + 1) ≡ fetched s r (j + 1) d
          → fetched s (with_word (with_fetched s (with_word r j dividend) (j + 1) d) j (quotient dividend (fetched s r (j + 1) d))) (j + 1) d ≡ fetched s r (j + 1) d
      by (Constant w) e = refl
      by (Variable x) e = refl
      by InSlot e = other_slot (with_word r j dividend) j (j + 1) (quotient dividend (slice_index r.words (j + 1))) (λ q. omega (arith, q)) ∙ e

  -- the product is in slot j
  pub product_stands : slice_index multiplied.words j ≡ product
  product_stands = same_slot again j product (omega (arith, room, again_length))

  -- a slot other than these two is unchanged, and so is the held word
  pub others_stand : (i : ℕ) → i ≢ j → i ≢ j + 1 → slice_index multiplied.words i ≡ slice_index r.words i
  others_stand i ne ne' =
      other_slot again j i product ne
      ∙ fetched_other s divided (j + 1) i d ne'
      ∙ other_slot both j i (quotient dividend divisor) ne
      ∙ fetched_other s (with_word r j dividend) (j + 1) i d ne'
      ∙ other_slot r j i dividend ne

  -- the held word is unchanged
  pub held_stands : multiplied.held ≡ r.held
  held_stands = fetched_held s divided (j + 1) d ∙ fetched_held s (with_word r j dividend) (j + 1) d

  -- up to the quotient, with some instructions after it and some after these
  quotient_next : (js back : List Instr) → steps code (Load j v ∷ (fetch (j + 1) d ++ Compute op.Divide j ∷ js))
      (line code n (Load j v ∷ (fetch (j + 1) d ++ Compute op.Divide j ∷ back)) s r) ≡ steps code (Compute op.Divide j ∷ js) (line code n (Compute op.Divide j ∷ back) s both)
  quotient_next js back =
      fetches code n j (Variable v) (fetch (j + 1) d ++ Compute op.Divide j ∷ js) (fetch (j + 1) d ++ Compute op.Divide j ∷ back) s r
      ∙ fetches code n (j + 1) d (Compute op.Divide j ∷ js) (Compute op.Divide j ∷ back) s (with_word r j dividend)

  -- up to the product
  pub multiple_next : (js back : List Instr) → divisor ≢ 0 → steps code (multiple j v d js) (line code n (multiple j v d back) s r) ≡ steps code js (line code n back s multiplied)
  multiple_next js back some =
      let divides : apply op.Divide (slice_index both.words j) (slice_index both.words (j + 1)) ≡ Some (quotient dividend divisor) =
      (λ i. apply op.Divide (left_is i) (right_is i)) ∙ ap (λ t. if t then None else Some (quotient dividend divisor)) (ne_eqb divisor 0 some) in
      let multiplies : apply op.Multiply (slice_index again.words j) (slice_index again.words (j + 1)) ≡ Some product =
      (λ i. apply op.Multiply (quotient_stands i) (divisor_stands i)) in
      quotient_next (fetch (j + 1) d ++ Compute op.Multiply j ∷ js) (fetch (j + 1) d ++ Compute op.Multiply j ∷ back)
      ∙ acts code n (Compute op.Divide j) (fetch (j + 1) d ++ Compute op.Multiply j ∷ js) (fetch (j + 1) d ++ Compute op.Multiply j ∷ back) s s both
      divided (ap (λ o. into n j (given o s.seed) s both) divides)
      ∙ fetches code n (j + 1) d (Compute op.Multiply j ∷ js) (Compute op.Multiply j ∷ back) s divided
      ∙ acts code n (Compute op.Multiply j) js back s s again multiplied (ap (λ o. into n j (given o s.seed) s again) multiplies)

  -- a divisor 0 is a fault
  pub multiple_fails : (js back : List Instr) → divisor ≡ 0 → steps code (multiple j v d js) (line code n (multiple j v d back) s r) ≡ Stops Faulted (fault_text 2 n)
  multiple_fails js back zero =
      let divides : apply op.Divide (slice_index both.words j) (slice_index both.words (j + 1)) ≡ None =
      (λ i. apply op.Divide (left_is i) (right_is i)) ∙ ap (λ t. if t then None else Some (quotient dividend divisor)) (eq-eqb divisor 0 zero) in
      quotient_next (fetch (j + 1) d ++ Compute op.Multiply j ∷ js) (fetch (j + 1) d ++ Compute op.Multiply j ∷ back)
      ∙ stops code n (Compute op.Divide j) (fetch (j + 1) d ++ Compute op.Multiply j ∷ js) (fetch (j + 1) d ++ Compute op.Multiply j ∷ back) s both
      (fault_text 2 n) (ap (λ o. into n j (given o s.seed) s both) divides)
