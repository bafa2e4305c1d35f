-- The place of a source's run, and its returns, are lines of the program.
use Rattle.std.proofs.Common.{◌≡◌, ℕ, zero, suc, Bool, true, false, ◌||◌, List, [], ◌∷◌, length, refl, ap, subst, Option, Some, None}
use Rattle.std.specs.Prelude.{if◌then◌else◌, nat_lt, nat_eq}
use Rattle.std.proofs.lemmas.Bool.{eq-eqb}
use Rattle.tb_basic_syntax.specs.Source.{Item, Text, Value, Zone, Statement, Let, Print, Input, If, Goto, Gosub, Return, End, Remark, Program, numbers}
use Rattle.tb_words.specs.Words.{holds}
use Rattle.tb_basic_meaning.specs.Steps.{Step, Goes, Stops, and_then, after_sending, Run, GoesOn, Over, joined, advance, advance_by}
use Rattle.tb_basic_meaning.specs.Control.{Place, At, Past, State, content_at, has_line, next_after, first_place, fall, fault, go_to, go_sub, return_to, deepest, answered, poll, column_after}
use Rattle.tb_basic_meaning.specs.Input as input
use Rattle.tb_basic_meaning.specs.Input.{Turn, Got, Bad, Dry, turn, Nothing, take_turn}
use Rattle.tb_basic_meaning.specs.Values.{Valued, Gives, Fails, value}
use Rattle.tb_basic_meaning.specs.Meaning.{with_value, print_item, print_items, inputs, does, does_found, does_at, line, start, source_run}
use Rattle.tb_proof_simulation.proofs.Numbers.{next_has}

module _ (ns : List ℕ) where
  -- a place has a line
  abbrev pub HasLine : Place → Type 0
  HasLine (At n) = has_line ns n ≡ true
  HasLine Past = Unit {0}

  abbrev pub AllHave : List Place → Type 0
  AllHave [] = Unit {0}
  AllHave (p ∷ ps) = HasLine p × AllHave ps

  pub record IsPlaced (s : State) : Type 0 where
    pub here : HasLine s.place
    pub returns : AllHave s.returns

  -- the state to which a step leads, if it goes on, is placed
  abbrev Leads : Step State → Type 0
  Leads (Goes s t) = IsPlaced s
  Leads (Stops why t) = Unit {0}

  record Led (x : Step State) : Type 0 where
    led : Leads x

  then_led : (x : Step State) (g : State → Step State) → Led x → ((s : State) → IsPlaced s → Led (g s)) → Led (and_then x g)
  then_led (Goes s t) g h k = after t (g s) (k s h.led)
    where
      after : (t : List ℕ) (y : Step State) → Led y → Led (after_sending t y)
      after t (Goes s u) h = record { led = h.led }
      after t (Stops why u) h = record { led = tt }
  then_led (Stops why t) g h k = record { led = tt }

  sent_led : (t : List ℕ) (y : Step State) → Led y → Led (after_sending t y)
  sent_led t (Goes s u) h = record { led = h.led }
  sent_led t (Stops why u) h = record { led = tt }

  next_led : (n : ℕ) → HasLine (next_after ns n)
  next_led n = go (next_after ns n) refl
    where
      go : (p : Place) → next_after ns n ≡ p → HasLine p
      go (At m) e = next_has ns n m e
      go Past e = tt

  fall_led : (n : ℕ) (s : State) → IsPlaced s → Led (fall ns n s)
  fall_led n s h = record { led = record { here = next_led n; returns = h.returns } }

  value_led : (n : ℕ) (v : Valued) (s : State) (g : ℕ → State → Step State) → IsPlaced s → ((v : ℕ) (s : State) → IsPlaced s → Led (g v s)) → Led (with_value n v s g)
  value_led n (Gives v seed) s g h k = k v (record s { seed = seed }) (record { here = h.here; returns = h.returns })
  value_led n (Fails k') s g h k = record { led = tt }

  if_led : (b : Bool) (x y : Step State) → Led x → Led y → Led (if b then x else y)
  if_led true x y h k = h
  if_led false x y h k = k

  to_led : (n to : ℕ) (s : State) → IsPlaced s → Led (go_to ns n to s)
  to_led n to s h = go (has_line ns to) refl
    where
      go : (t : Bool) → has_line ns to ≡ t → Led (if t then Goes (record s { place = At to }) [] else fault 1 n)
      go true e = record { led = record { here = e; returns = h.returns } }
      go false e = record { led = tt }

  sub_led : (n to : ℕ) (s : State) → IsPlaced s → Led (go_sub ns n to s)
  sub_led n to s h = go (has_line ns to) refl
    where
      go : (t : Bool) → has_line ns to ≡ t
          → Led (if t then (if nat_lt (length s.returns) deepest then Goes (record s { place = At to; returns = next_after ns n ∷ s.returns }) [] else fault 4 n) else fault 1 n)
      go true e = if_led (nat_lt (length s.returns) deepest) _ _ (record { led = record { here = e; returns = (next_led n, h.returns) } }) (record { led = tt })
      go false e = record { led = tt }

  back_led : (n : ℕ) (ps : List Place) (s : State) → AllHave ps → Led (return_to n ps s)
  back_led n [] s h = record { led = tt }
  back_led n (p ∷ ps) s h = record { led = record { here = h.0; returns = h.1 } }

  turn_led : (n x : ℕ) (t : Turn) (s : State) → IsPlaced s → Led (take_turn n x t s)
  turn_led n x (Got v true rest) s h = record { led = record { here = h.here; returns = h.returns } }
  turn_led n x (Got v false rest) s h = record { led = record { here = h.here; returns = h.returns } }
  turn_led n x Bad s h = record { led = tt }
  turn_led n x Dry s h = record { led = tt }

  input_led : (n x : ℕ) (s : State) → IsPlaced s → Led (input.input n x s)
  input_led n x s h =
      if_led s.open_line _ _ (turn_led n x (turn Nothing s.text) s h)
      (sent_led (63 ∷ 32 ∷ []) _ (turn_led n x (turn Nothing s.text) (record s { column = column_after s.column (63 ∷ 32 ∷ []) }) (record { here = h.here; returns = h.returns })))

  inputs_led : (n : ℕ) (xs : List ℕ) (s : State) → IsPlaced s → Led (inputs n xs s)
  inputs_led n [] s h = record { led = h }
  inputs_led n (x ∷ xs) s h = then_led (input.input n x s) (inputs n xs) (input_led n x s h) (inputs_led n xs)

  item_led : (n : ℕ) (i : Item) (s : State) → IsPlaced s → Led (print_item n i s)
  item_led n (Text t) s h = record { led = record { here = h.here; returns = h.returns } }
  item_led n (Value e) s h = value_led n (value e s.vars s.seed) s _ h (λ v s' h'. record { led = record { here = h'.here; returns = h'.returns } })
  item_led n Zone s h = record { led = record { here = h.here; returns = h.returns } }

  items_led : (n : ℕ) (is : List Item) (s : State) → IsPlaced s → Led (print_items n is s)
  items_led n [] s h = record { led = h }
  items_led n (i ∷ is) s h = then_led (print_item n i s) (print_items n is) (item_led n i s h) (items_led n is)

  does_led : (n : ℕ) (c : Statement) (s : State) → IsPlaced s → Led (does ns n c s)
  does_led n (Let x e) s h = value_led n (value e s.vars s.seed) s _ h (λ v s' h'. record { led = record { here = next_led n; returns = h'.returns } })
  does_led n (Print items true) s h = then_led (print_items n items s) _ (items_led n items s h) (λ s' h'. record { led = record { here = next_led n; returns = h'.returns } })
  does_led n (Print items false) s h = then_led (print_items n items s) _ (items_led n items s h) (fall_led n)
  does_led n (Input xs) s h = then_led (inputs n xs s) _ (inputs_led n xs s h) (fall_led n)
  does_led n (If l rel r c) s h =
      value_led n (value l s.vars s.seed) s _ h (λ a s' h'.
      value_led n (value r s'.vars s'.seed) s' _ h' (λ b s'' h''.
      if_led (holds rel a b) _ _ (does_led n c s'' h'') (fall_led n s'' h'')))
  does_led n (Goto e) s h = value_led n (value e s.vars s.seed) s _ h (λ v s' h'. to_led n v s' h')
  does_led n (Gosub e) s h = value_led n (value e s.vars s.seed) s _ h (λ v s' h'. sub_led n v s' h')
  does_led n Return s h = back_led n s.returns s h.returns
  does_led n End s h = record { led = tt }
  does_led n Remark s h = fall_led n s h

  poll_led : (n : ℕ) (l : List ℕ) (s : State) → IsPlaced s → Led (answered n l s)
  poll_led n [] s h = record { led = h }
  poll_led n (a ∷ l) s h = if_led (nat_eq a 3) _ _ (record { led = tt }) (record { led = record { here = h.here; returns = h.returns } })

  found_led : (n : ℕ) (o : Option Statement) (s : State) → IsPlaced s → Led (does_found ns n o s)
  found_led n (Some c) s h = then_led (poll n s) (does ns n c) (poll_led n s.answers s h) (does_led n c)
  found_led n None s h = record { led = tt }

module _ (program : Program) where
  line_led : (p : Place) (s : State) → IsPlaced (numbers program) s → Led (numbers program) (does_at program p s)
  line_led (At n) s h = found_led (numbers program) n (content_at program n) s h
  line_led Past s h = record { led = tt }

  -- a run that goes on is at a line of the program, or past the last one
  abbrev RunPlaced : Run State → Type 0
  RunPlaced (GoesOn s out) = IsPlaced (numbers program) s
  RunPlaced (Over why out) = Unit {0}

  record Ran (r : Run State) : Type 0 where
    ran : RunPlaced r

  runs : (m : ℕ) (r : Run State) → Ran r → Ran (advance_by (line program) m r)
  runs zero r h = h
  runs (suc m) r h = runs m (advance (line program) r) (once r h)
    where
      join : (out : List ℕ) (x : Step State) → Led (numbers program) x → Ran (joined out x)
      join out (Goes s t) h = record { ran = h.led }
      join out (Stops why t) h = record { ran = tt }

      once : (r : Run State) → Ran r → Ran (advance (line program) r)
      once (GoesOn s out) h = join out (does_at program s.place s) (line_led s.place s h.ran)
      once (Over why out) h = record { ran = tt }

  first_led : (ns : List ℕ) → HasLine ns (first_place ns)
  first_led [] = tt
  first_led (n ∷ ns) = ap (λ b. b || has_line ns n) (eq-eqb n n refl)

  -- a run of the source is always at a line of the program, or past the last one
  pub at_lines : (seed : ℕ) (text answers : List ℕ) (m : ℕ) (s : State) (out : List ℕ) → source_run program seed text answers m ≡ GoesOn s out → IsPlaced (numbers program) s
  at_lines seed text answers m s out e =
      (subst Ran e (runs m (GoesOn (start (numbers program) seed text answers) []) (record { ran = record { here = first_led (numbers program); returns = tt } }))).ran
