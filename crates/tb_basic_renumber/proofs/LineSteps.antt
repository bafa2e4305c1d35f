-- What a line does, step by step.
use Rattle.std.proofs.lemmas.List.{length-map}
use Rattle.std.proofs.Common.{◌≡◌, ℕ, Bool, true, false, if◌then◌else◌, List, [], ◌∷◌, length, map, Option, Some, None, option_map, slice_set, refl, sym, ap, subst, arith, nat_eq, nat_lt}
use Rattle.tb_words.specs.Words.{digits_of, holds, word}
use Rattle.tb_basic_syntax.specs.Source.{Expression, Number, Item, Text, Value, Zone, Statement, Let, Print, Input, If, Goto, Gosub, Return, End, Remark, Program, numbers}
use Rattle.tb_basic_meaning.specs.Steps.{Step, Goes, after_sending}
use Rattle.tb_basic_meaning.specs.Control.{Place, At, Past, State, deepest, has_line, content_at, next_after, highest, fault, column_after, send, zone, fall, go_to, go_sub, return_to, go_back, answered, poll, past}
use Rattle.tb_basic_meaning.specs.Input.{Turn, Got, Bad, Dry, turn, Nothing, take_turn, input}
use Rattle.tb_basic_meaning.specs.Values.{Gives, constant, value}
use Rattle.tb_basic_meaning.specs.Meaning.{with_value, valued, print_item, print_items, inputs, stored, does, does_found, does_at, line}
use Rattle.tb_basic_meaning.proofs.Constants.{constant_value}
use Rattle.tb_basic_renumber.specs.declared.jumps.JumpFault.TheVariants.{NoLine}
use Rattle.tb_basic_renumber.specs.Jumps.{target_fault, statement_fault, first_fault}
use Rattle.tb_basic_renumber.specs.Renumbered.{target_by, moved, put_through}
use Rattle.tb_basic_renumber.specs.Runs.{moved_place, moved_state}
use Rattle.tb_basic_renumber.proofs.Order.{BothRise, within, keeps_less, keeps_same}
use Rattle.tb_basic_renumber.proofs.Found.{IsPlace, next_is_place, content_is_line, no_fault, numbers_moved, line_moved, next_moved, content_moved}
use Rattle.tb_basic_renumber.proofs.Alike.{ArePlaces, IsWithin, Alike, goes, ends, waits, AreAlike, fault_alike, after_alike, then_alike, valued_alike}

-- ── what sends and reads, at any number of a line ──
module _ (f : ℕ → ℕ) (ns : List ℕ) where
  pub send_alike : (t : List ℕ) → AreAlike f ns (send t) (send t)
  send_alike t s w = goes (record s { column = column_after s.column t }) t w

  item_alike : (n : ℕ) (i : Item) → AreAlike f ns (print_item n i) (print_item (f n) i)
  item_alike n (Text t) s w = send_alike t s w
  item_alike n (Value e) s w = valued_alike f ns n e s _ _ w (λ v. send_alike (digits_of v))
  item_alike n Zone s w = send_alike (zone s.column) s w

  pub items_alike : (n : ℕ) (is : List Item) → AreAlike f ns (print_items n is) (print_items (f n) is)
  items_alike n [] s w = goes s [] w
  items_alike n (i ∷ is) s w = then_alike f ns _ _ _ _ (item_alike n i s w) (items_alike n is)

  turn_alike : (n x : ℕ) (t : Turn) → AreAlike f ns (take_turn n x t) (take_turn (f n) x t)
  turn_alike n x (Got v true rest) s w = goes (record s { vars = slice_set s.vars x v; open_line = true; text = rest }) [] w
  turn_alike n x (Got v false rest) s w = send_alike (13 ∷ []) (record s { vars = slice_set s.vars x v; open_line = false; text = rest }) w
  turn_alike n x Bad s w = fault_alike f ns 6 n
  turn_alike n x Dry s w = waits []

  input_alike : (n x : ℕ) → AreAlike f ns (input n x) (input (f n) x)
  input_alike n x s w = go s.open_line
    where
      go : (b : Bool) → Alike f ns
          (if b then take_turn n x (turn Nothing s.text) s
          else after_sending (63 ∷ 32 ∷ []) (take_turn n x (turn Nothing s.text) (record s { column = column_after s.column (63 ∷ 32 ∷ []) })))
          (if b then take_turn (f n) x (turn Nothing s.text) (moved_state f s)
          else after_sending (63 ∷ 32 ∷ []) (take_turn (f n) x (turn Nothing s.text) (record (moved_state f s) { column = column_after s.column (63 ∷ 32 ∷ []) })))
      go true = turn_alike n x (turn Nothing s.text) s w
      go false =
          after_alike f ns (63 ∷ 32 ∷ []) _ _ (turn_alike n x (turn Nothing s.text) (record s { column = column_after s.column (63 ∷ 32 ∷ []) }) w)

  pub inputs_alike : (n : ℕ) (xs : List ℕ) → AreAlike f ns (inputs n xs) (inputs (f n) xs)
  inputs_alike n [] s w = goes s [] w
  inputs_alike n (x ∷ xs) s w = then_alike f ns _ _ _ _ (input_alike n x s w) (inputs_alike n xs)

  return_alike : (n : ℕ) (ps : List Place) → ArePlaces ns ps → AreAlike f ns (return_to n ps) (return_to (f n) (map (moved_place f) ps))
  return_alike n [] are s w = fault_alike f ns 5 n
  return_alike n (p ∷ ps) are s w = goes (record s { place = p; returns = ps }) [] are

  pub back_alike : (n : ℕ) → AreAlike f ns (go_back n) (go_back (f n))
  back_alike n s w = return_alike n s.returns w.1 s w

  answered_alike : (n : ℕ) (polled : List ℕ) → AreAlike f ns (answered n polled) (answered (f n) polled)
  answered_alike n [] s w = goes s [] w
  answered_alike n (a ∷ rest) s w = go (nat_eq a 3)
    where
      go : (b : Bool) → Alike f ns (if b then fault 0 n else Goes (record s { answers = rest }) [])
          (if b then fault 0 (f n) else Goes (record (moved_state f s) { answers = rest }) [])
      go true = fault_alike f ns 0 n
      go false = goes (record s { answers = rest }) [] w

  pub poll_alike : (n : ℕ) → AreAlike f ns (poll n) (poll (f n))
  poll_alike n s w = answered_alike n s.answers s w

-- ── what goes to another line ──
module _ (f : ℕ → ℕ) (ns : List ℕ) (rise : BothRise f 1 1 ns) where
  -- the next line's new number
  next_same : (n : ℕ) → has_line ns n ≡ true → next_after (map f ns) (f n) ≡ moved_place f (next_after ns n)
  next_same n is = next_moved f ns n (λ m h. keeps_less f 1 1 ns n m rise is h)

  pub fall_alike : (n : ℕ) → has_line ns n ≡ true → AreAlike f ns (fall ns n) (fall (map f ns) (f n))
  fall_alike n is s w =
      subst (λ (p : Place). Alike f ns (fall ns n s) (Goes (record (moved_state f s) { place = p }) [])) (sym (next_same n is))
      (goes (record s { place = next_after ns n }) [] (next_is_place ns n, w.1))

  to_alike : (n t : ℕ) → has_line ns t ≡ true → AreAlike f ns (go_to ns n t) (go_to (map f ns) (f n) (f t))
  to_alike n t is s w = go (has_line ns t) (has_line (map f ns) (f t)) is (line_moved f ns t is)
    where
      go : (a b : Bool) → a ≡ true → b ≡ true
          → Alike f ns (if a then Goes (record s { place = At t }) [] else fault 1 n) (if b then Goes (record (moved_state f s) { place = At (f t) }) [] else fault 1 (f n))
      go true true e e' = goes (record s { place = At t }) [] (is, w.1)
      go true false e e' = absurd cc
      go false b e e' = absurd cc

  sub_alike : (n t : ℕ) → has_line ns n ≡ true → has_line ns t ≡ true → AreAlike f ns (go_sub ns n t) (go_sub (map f ns) (f n) (f t))
  sub_alike n t at is s w =
      go (has_line ns t) (has_line (map f ns) (f t)) (nat_lt (length s.returns) deepest) (nat_lt (length (map (moved_place f) s.returns)) deepest) is (line_moved f ns t is)
      (ap (λ k. nat_lt k deepest) (length-map s.returns (moved_place f)))
    where
      noted : Alike f ns (Goes (record s { place = At t; returns = next_after ns n ∷ s.returns }) [])
          (Goes (record (moved_state f s) { place = At (f t); returns = next_after (map f ns) (f n) ∷ map (moved_place f) s.returns }) [])
      noted =
          subst (λ (p : Place). Alike f ns (Goes (record s { place = At t; returns = next_after ns n ∷ s.returns }) [])
          (Goes (record (moved_state f s) { place = At (f t); returns = p ∷ map (moved_place f) s.returns }) [])) (sym (next_same n at))
          (goes (record s { place = At t; returns = next_after ns n ∷ s.returns }) [] (is, (next_is_place ns n, w.1)))

      go : (a b c d : Bool) → a ≡ true → b ≡ true → d ≡ c
          → Alike f ns (if a then (if c then Goes (record s { place = At t; returns = next_after ns n ∷ s.returns }) [] else fault 4 n) else fault 1 n)
          (if b then (if d then Goes (record (moved_state f s) { place = At (f t); returns = next_after (map f ns) (f n) ∷ map (moved_place f) s.returns }) [] else fault 4 (f n)) else fault 1 (f n))
      go true true true true e e' e'' = noted
      go true true false false e e' e'' = fault_alike f ns 4 n
      go true true true false e e' e'' = absurd cc
      go true true false true e e' e'' = absurd cc
      go true false c d e e' e'' = absurd cc
      go false b c d e e' e'' = absurd cc

  -- a target without a fault is constant, and a line's number
  target_is_line : (t : ℕ) → target_fault ns (Some t) ≡ None → has_line ns t ≡ true
  target_is_line t h = go (has_line ns t) refl h
    where
      go : (b : Bool) → has_line ns t ≡ b → (if b then None else Some (NoLine t)) ≡ None → has_line ns t ≡ true
      go true e h = e
      go false e h = absurd cc

  new_value : (t : ℕ) (vars : List ℕ) (seed : ℕ) → has_line ns t ≡ true → value (Number (f t)) vars seed ≡ Gives (f t) seed
  new_value t vars seed is = let low = (within f 1 1 ns t rise is).2 in let same : word (f t) ≡ f t = omega (arith, low) in ap (λ v. Gives v seed) same

  -- a jump by a constant, whatever is done at the line
  jump_alike : (n : ℕ) (e : Expression) (x : Option ℕ) (s : State) (g h : ℕ → State → Step State) → constant e ≡ x → target_fault ns x ≡ None → IsWithin ns s
      → ((t : ℕ) → has_line ns t ≡ true → AreAlike f ns (g t) (h (f t))) → Alike f ns (valued n e s g) (valued (f n) (target_by f e x) (moved_state f s) h)
  jump_alike n e None s g h same none w next = absurd cc
  jump_alike n e (Some t) s g h same none w next =
      let is = target_is_line t none in
      subst (λ v. Alike f ns (with_value n v s g) (valued (f n) (Number (f t)) (moved_state f s) h)) (sym (constant_value e t s.vars s.seed same))
      (subst (λ v. Alike f ns (g t s) (with_value (f n) v (moved_state f s) h)) (sym (new_value t s.vars s.seed is)) (next t is s w))

  -- ── a statement ──
  chosen_alike : (n : ℕ) (c : Statement) → has_line ns n ≡ true → AreAlike f ns (does ns n c) (does (map f ns) (f n) (moved f c)) → (b : Bool)
      → AreAlike f ns (λ s. if b then does ns n c s else fall ns n s) (λ s. if b then does (map f ns) (f n) (moved f c) s else fall (map f ns) (f n) s)
  chosen_alike n c at same true s w = same s w
  chosen_alike n c at same false s w = fall_alike n at s w

  pub does_alike : (n : ℕ) (c : Statement) → has_line ns n ≡ true → statement_fault ns c ≡ None → AreAlike f ns (does ns n c) (does (map f ns) (f n) (moved f c))
  does_alike n (Let x e) at none s w = valued_alike f ns n e s _ _ w (λ v s' w'. fall_alike n at (stored x v s') w')
  does_alike n (Print items true) at none s w =
      then_alike f ns _ _ _ _ (items_alike f ns n items s w)
      (λ s' w'. then_alike f ns (send (13 ∷ []) s') (send (13 ∷ []) (moved_state f s')) (fall ns n) (fall (map f ns) (f n)) (send_alike f ns (13 ∷ []) s' w') (fall_alike n at))
  does_alike n (Print items false) at none s w = then_alike f ns _ _ _ _ (items_alike f ns n items s w) (fall_alike n at)
  does_alike n (Input xs) at none s w = then_alike f ns _ _ _ _ (inputs_alike f ns n xs s w) (fall_alike n at)
  does_alike n (If l rel r c) at none s w =
      valued_alike f ns n l s _ _ w
      (λ a s' w'. valued_alike f ns n r s' _ _ w' (λ b s'' w''. chosen_alike n c at (does_alike n c at none) (holds rel a b) s'' w''))
  does_alike n (Goto e) at none s w = jump_alike n e (constant e) s (go_to ns n) (go_to (map f ns) (f n)) refl none w (λ t is. to_alike n t is)
  does_alike n (Gosub e) at none s w = jump_alike n e (constant e) s (go_sub ns n) (go_sub (map f ns) (f n)) refl none w (λ t is. sub_alike n t at is)
  does_alike n Return at none s w = back_alike f ns n s w
  does_alike n End at none s w = ends []
  does_alike n Remark at none s w = fall_alike n at s w

-- ── a line ──
module _ (f : ℕ → ℕ) (program : Program) (rise : BothRise f 1 1 (numbers program)) (sound : first_fault (numbers program) program ≡ None)
    (last : highest (map f (numbers program)) ≡ f (highest (numbers program))) where
  past_alike : Alike f (numbers program) (past (numbers program)) (past (map f (numbers program)))
  past_alike =
      subst (λ k. Alike f (numbers program) (past (numbers program)) (fault 7 k)) (sym last) (fault_alike f (numbers program) 7 (highest (numbers program)))

  found_alike : (n : ℕ) (x : Option Statement) → content_at program n ≡ x
      → AreAlike f (numbers program) (does_found (numbers program) n x) (does_found (map f (numbers program)) (f n) (option_map (moved f) x))
  found_alike n None same s w = past_alike
  found_alike n (Some c) same s w =
      then_alike f (numbers program) _ _ _ _ (poll_alike f (numbers program) n s w)
      (does_alike f (numbers program) rise n c (content_is_line program n c same) (no_fault (numbers program) program n c sound same))

  at_alike : (p : Place) → IsPlace (numbers program) p
      → AreAlike f (numbers program) (does_at program p) (does_at (put_through f program) (moved_place f p))
  at_alike Past is s w = subst (λ ms. Alike f (numbers program) (past (numbers program)) (past ms)) (sym (numbers_moved f program)) past_alike
  at_alike (At n) is s w =
      subst (λ ms. Alike f (numbers program) (does_found (numbers program) n (content_at program n) s) (does_found ms (f n) (content_at (put_through f program) (f n)) (moved_state f s)))
      (sym (numbers_moved f program))
      (subst (λ x. Alike f (numbers program) (does_found (numbers program) n (content_at program n) s) (does_found (map f (numbers program)) (f n) x (moved_state f s)))
      (sym (content_moved f program n (λ m h. keeps_same f 1 1 (numbers program) m n rise h is)))
      (found_alike n (content_at program n) refl s w))

  -- a line of the program and one of the renumbered program do the same
  pub line_alike : AreAlike f (numbers program) (line program) (line (put_through f program))
  line_alike s w = at_alike s.place w.0 s w
