-- The slot code of a statement, run to its end, does what the statement does.
use Rattle.std.proofs.Common.{◌≡◌, ℕ, ◌≤◌, Bool, true, false, if◌then◌else◌, List, [], ◌∷◌, ◌++◌, length, Option, Some, None}
use Rattle.std.proofs.Common.{slice_index, refl, sym, ap, ap₂, ◌∙◌, append_assoc, arith}
use Rattle.tb_words.specs.Words.{digits_of, holds}
use Rattle.tb_basic_syntax.specs.Source.{Expression, Item, Text, Value, Zone, Statement, Let, Print, If, Goto, Gosub, Remark}
use Rattle.tb_basic_syntax.specs.Source as source
use Rattle.tb_basic_meaning.specs.Steps.{Step, Goes, Stops, after_sending, and_then}
use Rattle.tb_basic_meaning.specs.Control.{State, poll, fall, send, zone, go_to, go_sub, go_back}
use Rattle.tb_basic_meaning.specs.Input.{input}
use Rattle.tb_basic_meaning.specs.Values.{Valued, Gives, Fails, constant}
use Rattle.tb_basic_meaning.specs.Meaning.{with_value, valued, print_item, print_items, inputs, stored, does}
use Rattle.tb_basic_meaning.specs.Need.{need, item_need, items_need, statement_need}
use Rattle.tb_lower.specs.Slots.{Instr, Store, SendNumber, SendNewline, Hold, LeaveUnless, Jump, Call, JumpTo, CallTo, Slots, Stays, staying, leaving}
use Rattle.tb_lower.specs.Lowered.{target_code, list_code, value_code, item_code, items_code, inputs_code, statement_code}
use Rattle.tb_basic_meaning.proofs.Constants.{constant_value}
use Rattle.tb_basic_meaning.proofs.Runs.{after_nothing, then_assoc}
use Rattle.tb_lower.proofs.Values.{stay_then, perform, value_runs}

valued_then_step : (n : ℕ) (w : Valued) (s : State) (f : ℕ → State → Step State) (g : State → Step State)
    → with_value n w s (λ v s'. and_then (f v s') g) ≡ and_then (with_value n w s f) g
valued_then_step n (Gives v seed) s f g = refl
valued_then_step n (Fails k) s f g = refl

staying_runs : (w : Slots) (x : Step State) (f : State → Slots → Step State) → stay_then (staying w x) f ≡ and_then x (λ s. f s w)
staying_runs w (Goes s t) f = refl
staying_runs w (Stops e t) f = refl

leaving_ends : (x : Step State) (f : State → Slots → Step State) → stay_then (leaving x) f ≡ x
leaving_ends (Goes s t) f = refl
leaving_ends (Stops e t) f = refl

then_same : (x : Step State) (f g : State → Step State) → ((s : State) → f s ≡ g s) → and_then x f ≡ and_then x g
then_same (Goes s t) f g h = ap (after_sending t) (h s)
then_same (Stops e t) f g h = refl

module _ (ns : List ℕ) (n : ℕ) where
  -- what the rest of a line does, from any slots of this number
  abbrev pub Does : ℕ → List Instr → (State → Step State) → Type 0
  Does size is go = (s : State) (w : Slots) → length w.words ≡ size → perform ns n is s w ≡ go s

  item_runs : (i : Item) (is : List Instr) (go : State → Step State) (size : ℕ) → item_need i ≤ size → Does size is go
      → Does size (item_code i ++ is) (λ s. and_then (print_item n i s) go)
  item_runs (Text t) is go size fits h s w len =
      staying_runs w (send t s) (perform ns n is) ∙ then_same (send t s) _ go (λ s'. h s' w len)
  item_runs (Value e) is go size fits h s w len =
      ap (λ code. perform ns n code s w) (append_assoc (value_code e 0) (SendNumber ∷ []) is)
      ∙ value_runs ns n e 0 (SendNumber ∷ is) s w (λ v s'. and_then (send (digits_of v) s') go) (omega arith)
      (λ v s' w' kept at.
      staying_runs w' (send (digits_of (slice_index w'.words 0)) s') (perform ns n is)
      ∙ then_same (send (digits_of (slice_index w'.words 0)) s') _ go (λ s''. h s'' w' (kept.size ∙ len))
      ∙ ap (λ u. and_then (send (digits_of u) s') go) at)
      ∙ valued_then_step n _ s (λ v s'. send (digits_of v) s') go
  item_runs Zone is go size fits h s w len =
      staying_runs w (send (zone s.column) s) (perform ns n is) ∙ then_same (send (zone s.column) s) _ go (λ s'. h s' w len)

  items_runs : (items : List Item) (is : List Instr) (go : State → Step State) (size : ℕ) → items_need items ≤ size → Does size is go
      → Does size (items_code items ++ is) (λ s. and_then (print_items n items s) go)
  items_runs [] is go size fits h s w len = h s w len ∙ sym (after_nothing (go s))
  items_runs (i ∷ items) is go size fits h s w len =
      ap (λ code. perform ns n code s w) (append_assoc (item_code i) (items_code items) is)
      ∙ item_runs i (items_code items ++ is) (λ s'. and_then (print_items n items s') go) size (omega arith) (items_runs items is go size (omega arith) h) s w len
      ∙ sym (then_assoc (print_item n i s) (print_items n items) go)

  inputs_runs : (xs : List ℕ) (size : ℕ) → Does size (inputs_code xs) (λ s. and_then (inputs n xs s) (fall ns n))
  inputs_runs [] size s w len = refl
  inputs_runs (x ∷ xs) size s w len =
      staying_runs w (input n x s) (perform ns n (inputs_code xs))
      ∙ then_same (input n x s) _ _ (λ s'. inputs_runs xs size s' w len)
      ∙ sym (then_assoc (input n x s) (inputs n xs) (fall ns n))

  -- the line goes on if the relation holds
  leave_runs : (b : Bool) (is : List Instr) (s : State) (w : Slots) (go : Step State) → perform ns n is s w ≡ go
      → stay_then (if b then Goes (Stays s w) [] else leaving (fall ns n s)) (perform ns n is) ≡ (if b then go else fall ns n s)
  leave_runs true is s w go h = after_nothing _ ∙ h
  leave_runs false is s w go h = refl

  -- a jump to a constant line, and one to a line that is computed
  goto_runs : (e : Expression) (x : Option ℕ) → constant e ≡ x → (size : ℕ) → need e ≤ size
      → Does size (target_code x JumpTo (value_code e 0 ++ Jump ∷ [])) (λ s. valued n e s (go_to ns n))
  goto_runs e (Some v) same size fits s w len =
      leaving_ends (go_to ns n v s) _ ∙ sym (ap (λ x. with_value n x s (go_to ns n)) (constant_value e v s.vars s.seed same))
  goto_runs e None same size fits s w len =
      value_runs ns n e 0 (Jump ∷ []) s w (go_to ns n) (omega arith)
      (λ v s' w' kept at. leaving_ends (go_to ns n (slice_index w'.words 0) s') _ ∙ ap (λ u. go_to ns n u s') at)

  gosub_runs : (e : Expression) (x : Option ℕ) → constant e ≡ x → (size : ℕ) → need e ≤ size
      → Does size (target_code x CallTo (value_code e 0 ++ Call ∷ [])) (λ s. valued n e s (go_sub ns n))
  gosub_runs e (Some v) same size fits s w len =
      leaving_ends (go_sub ns n v s) _ ∙ sym (ap (λ x. with_value n x s (go_sub ns n)) (constant_value e v s.vars s.seed same))
  gosub_runs e None same size fits s w len =
      value_runs ns n e 0 (Call ∷ []) s w (go_sub ns n) (omega arith)
      (λ v s' w' kept at. leaving_ends (go_sub ns n (slice_index w'.words 0) s') _ ∙ ap (λ u. go_sub ns n u s') at)

  -- the slot code of a statement does what the statement does
  pub statement_runs : (c : Statement) (size : ℕ) → statement_need c ≤ size → Does size (statement_code c) (does ns n c)
  statement_runs (Let x e) size fits s w len =
      value_runs ns n e 0 (Store x ∷ []) s w (λ v s'. fall ns n (stored x v s')) (omega arith)
      (λ v s' w' kept at. ap (λ u. fall ns n (stored x u s')) at)
  statement_runs (Print items true) size fits s w len =
      items_runs items (SendNewline ∷ []) (λ s'. and_then (send (13 ∷ []) s') (fall ns n)) size (omega arith) (λ s' w' len'. refl) s w len
  statement_runs (Print items false) size fits s w len =
      items_runs items [] (fall ns n) size (omega arith) (λ s' w' len'. refl) s w len
  statement_runs (source.Input xs) size fits s w len = inputs_runs xs size s w len
  statement_runs (If l rel r c) size fits s w len =
      value_runs ns n l 0 (Hold ∷ (value_code r 0 ++ (LeaveUnless rel ∷ statement_code c))) s w
      (λ a s'. valued n r s' (λ b s''. if holds rel a b then does ns n c s'' else fall ns n s'')) (omega arith)
      (λ a s' w' kept at.
      after_nothing _
      ∙ value_runs ns n r 0 (LeaveUnless rel ∷ statement_code c) s' (record w' { held = slice_index w'.words 0 })
      (λ b s''. if holds rel a b then does ns n c s'' else fall ns n s'') (omega (arith, kept.size))
      (λ b s'' w'' kept' at'.
      leave_runs (holds rel w''.held (slice_index w''.words 0)) (statement_code c) s'' w'' (does ns n c s'') (statement_runs c size (omega arith) s'' w'' (kept'.size ∙ kept.size ∙ len))
      ∙ ap₂ (λ x y. if holds rel x y then does ns n c s'' else fall ns n s'') (kept'.held ∙ at) at'))
  statement_runs (Goto e) size fits s w len = goto_runs e (constant e) refl size fits s w len
  statement_runs (Gosub e) size fits s w len = gosub_runs e (constant e) refl size fits s w len
  statement_runs source.Return size fits s w len = leaving_ends (go_back n s) _
  statement_runs source.End size fits s w len = refl
  statement_runs Remark size fits s w len = refl

  -- a line's list: an answer is taken, and then the statement is done
  pub polled_runs : (c : Statement) (size : ℕ) → statement_need c ≤ size → Does size (list_code c) (λ s. and_then (poll n s) (does ns n c))
  polled_runs c size fits s w len =
      staying_runs w (poll n s) (perform ns n (statement_code c)) ∙ then_same (poll n s) _ _ (λ s'. statement_runs c size fits s' w len)
