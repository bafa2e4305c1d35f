-- The slot code of an expression puts its value into the slot.
use Rattle.std.proofs.Common.{◌≡◌, ℕ, ◌+◌, ◌≤◌, ◌<◌, ◌≢◌, List, [], ◌∷◌, ◌++◌, length, Option, Some, None, slice_index}
use Rattle.std.proofs.Common.{refl, sym, ap, ap₂, ◌∙◌, append_assoc, arith, length-set, get_or-set_same, get_or-set_other}
use Rattle.tb_words.specs.Words.{word, negated}
use Rattle.tb_basic_syntax.specs.Source.{Expression, Number, Variable, Binary}
use Rattle.tb_basic_syntax.specs.Source as source
use Rattle.tb_basic_syntax.specs.declared.expressions.Operator.{Operator}
use Rattle.tb_basic_meaning.specs.Steps.{Step, Goes, Stops, after_sending}
use Rattle.tb_basic_meaning.specs.Control.{State, fall}
use Rattle.tb_basic_meaning.specs.Values.{Valued, Gives, Fails, valued_then, apply, given, random, value, constant}
use Rattle.tb_basic_meaning.specs.Meaning.{with_value, valued}
use Rattle.tb_basic_meaning.specs.Need.{need}
use Rattle.tb_lower.specs.Slots.{Instr, Compute, Slots, After, Stays, Leaves, with_word, into, act}
use Rattle.tb_lower.specs.Slots as slots
use Rattle.tb_lower.specs.Lowered.{or_constant, value_code}
use Rattle.tb_basic_meaning.proofs.Constants.{constant_value, constant_word}
use Rattle.tb_basic_meaning.proofs.Runs.{after_nothing}

-- on with what is next, if an instruction stays in the line
abbrev pub stay_then : Step After → (State → Slots → Step State) → Step State
stay_then (Goes (Stays s words) t) f = after_sending t (f s words)
stay_then (Goes (Leaves s) t) f = Goes s t
stay_then (Stops e t) f = Stops e t

-- a list of instructions to its end
abbrev pub perform : List ℕ → ℕ → List Instr → State → Slots → Step State
perform ns n [] s words = fall ns n s
perform ns n (i ∷ is) s words = stay_then (act ns n i s words) (perform ns n is)

-- only slots from k on were changed
pub record Kept (k : ℕ) (old new : Slots) : Type 0 where
  pub size : length new.words ≡ length old.words
  pub held : new.held ≡ old.held
  pub below : (j : ℕ) → j < k → slice_index new.words j ≡ slice_index old.words j

put_kept : (k v : ℕ) (w : Slots) → Kept k w (with_word w k v)
put_kept k v w = record {
  size = length-set w.words k v;
  held = refl;
  below = λ j lt. let ne : j ≢ k = omega arith in get_or-set_other w.words k j v 0 ne;
}

put_at : (k v : ℕ) (w : Slots) → k < length w.words → slice_index (with_word w k v).words k ≡ v
put_at k v w lt = get_or-set_same w.words k v 0 lt

kept_trans : (k j : ℕ) (a b c : Slots) → k ≤ j → Kept k a b → Kept j b c → Kept k a c
kept_trans k j a b c le p q = record {
  size = q.size ∙ p.size;
  held = q.held ∙ p.held;
  below = λ i lt. q.below i (omega arith) ∙ p.below i lt;
}

-- an expression needs at least one slot
pub need_pos : (e : Expression) → 1 ≤ need e
need_pos (Number m) = omega arith
need_pos (Variable x) = omega arith
need_pos (source.Negate e) = need_pos e
need_pos (Binary op l r) = omega (arith, need_pos l)
need_pos (source.Random e) = need_pos e

negate_valued : (n : ℕ) (w : Valued) (s : State) (go : ℕ → State → Step State) → with_value n w s (λ v s'. go (negated v) s')
    ≡ with_value n (valued_then w (λ v seed. Gives (negated v) seed)) s go
negate_valued n (Gives v seed) s go = refl
negate_valued n (Fails k) s go = refl

random_valued : (n : ℕ) (w : Valued) (s : State) (go : ℕ → State → Step State) → with_value n w s (λ v s'. with_value n (random v s'.seed) s' go)
    ≡ with_value n (valued_then w random) s go
random_valued n (Gives v seed) s go = again (random v seed)
  where
    again : (w : Valued) → with_value n w (record s { seed = seed }) go ≡ with_value n w s go
    again (Gives v' seed') = refl
    again (Fails k) = refl
random_valued n (Fails k) s go = refl

reseeded : (n seed : ℕ) (w : Valued) (s : State) (go : ℕ → State → Step State) → with_value n w (record s { seed = seed }) go ≡ with_value n w s go
reseeded n seed (Gives v seed') s go = refl
reseeded n seed (Fails k) s go = refl

-- both operands, and then the operator
binary_right : (n : ℕ) (op : Operator) (a seed : ℕ) (w : Valued) (s : State) (go : ℕ → State → Step State) → with_value n w (record s { seed = seed })
    (λ b s'. with_value n (given (apply op a b) s'.seed) s' go) ≡ with_value n (valued_then w (λ b seed'. given (apply op a b) seed')) s go
binary_right n op a seed (Gives b seed') s go = reseeded n seed' (given (apply op a b) seed') s go
binary_right n op a seed (Fails k) s go = refl

binary_valued : (n : ℕ) (op : Operator) (r : Expression) (w : Valued) (s : State) (go : ℕ → State → Step State)
    → with_value n w s (λ a s'. valued n r s' (λ b s''. with_value n (given (apply op a b) s''.seed) s'' go))
    ≡ with_value n (valued_then w (λ a seed. valued_then (value r s.vars seed) (λ b seed'. given (apply op a b) seed'))) s go
binary_valued n op r (Gives a seed) s go = binary_right n op a seed (value r s.vars seed) s go
binary_valued n op r (Fails k) s go = refl

module _ (ns : List ℕ) (n : ℕ) where
  -- a value into slot k, and then the rest
  into_runs : (k : ℕ) (is : List Instr) (s : State) (w : Slots) (x : Valued) (go : ℕ → State → Step State)
      → ((v : ℕ) (s' : State) → perform ns n is s' (with_word w k v) ≡ go v s') → stay_then (into n k x s w) (perform ns n is) ≡ with_value n x s go
  into_runs k is s w (Gives v seed) go h = after_nothing _ ∙ h v (record s { seed = seed })
  into_runs k is s w (Fails f) go h = refl

  -- a constant into slot k, or code that does the same
  constant_runs : (e : Expression) (x : Option ℕ) (code : List Instr) (k : ℕ) (is : List Instr) (s : State) (w : Slots) (go : ℕ → State → Step State)
      → constant e ≡ x → k + need e ≤ length w.words → ((v : ℕ) (s' : State) (w' : Slots) → Kept k w w' → slice_index w'.words k ≡ v
      → perform ns n is s' w' ≡ go v s') → perform ns n (code ++ is) s w ≡ valued n e s go → perform ns n (or_constant x k code ++ is) s w ≡ valued n e s go
  constant_runs e (Some v) code k is s w go same fits h runs =
      after_nothing _ ∙ h (word v) s (with_word w k (word v)) (put_kept k _ w) (put_at k _ w (omega (arith, need_pos e)))
      ∙ ap (λ u. go u s) (constant_word e v same) ∙ sym (ap (λ x. with_value n x s go) (constant_value e v s.vars s.seed same))
  constant_runs e None code k is s w go same fits h runs = runs

  -- the code of an expression puts its value into slot k, or faults as the expression does
  pub value_runs : (e : Expression) (k : ℕ) (is : List Instr) (s : State) (w : Slots) (go : ℕ → State → Step State) → k + need e ≤ length w.words
      → ((v : ℕ) (s' : State) (w' : Slots) → Kept k w w' → slice_index w'.words k ≡ v → perform ns n is s' w' ≡ go v s') → perform ns n (value_code e k ++ is) s w ≡ valued n e s go
  value_runs (Number m) k is s w go fits h =
      after_nothing _ ∙ h (word (word m)) s (with_word w k (word (word m))) (put_kept k _ w) (put_at k _ w (omega arith))
      ∙ ap (λ u. go u s) (constant_word (Number m) (word m) refl)
  value_runs (Variable x) k is s w go fits h =
      let v = slice_index s.vars x in
      after_nothing _ ∙ h v s (with_word w k v) (put_kept k v w) (put_at k v w (omega arith))
  value_runs (source.Negate e) k is s w go fits h =
      constant_runs (source.Negate e) (constant (source.Negate e)) (value_code e k ++ slots.Negate k ∷ []) k is s w go refl fits h
      (ap (λ code. perform ns n code s w) (append_assoc (value_code e k) (slots.Negate k ∷ []) is)
      ∙ value_runs e k (slots.Negate k ∷ is) s w (λ v s'. go (negated v) s') fits
      (λ v s' w' kept at.
      let v' = negated (slice_index w'.words k) in
      after_nothing _ ∙ h v' s' (with_word w' k v') (kept_trans k k w w' _ (omega arith) kept (put_kept k v' w')) (put_at k v' w' (omega (arith, kept.size, need_pos e)))
      ∙ ap (λ u. go (negated u) s') at)
      ∙ negate_valued n (value e s.vars s.seed) s go)
  value_runs (source.Random e) k is s w go fits h =
      ap (λ code. perform ns n code s w) (append_assoc (value_code e k) (slots.Random k ∷ []) is)
      ∙ value_runs e k (slots.Random k ∷ is) s w (λ v s'. with_value n (random v s'.seed) s' go) fits
      (λ v s' w' kept at.
      into_runs k is s' w' (random (slice_index w'.words k) s'.seed) go
      (λ v' s''. h v' s'' (with_word w' k v') (kept_trans k k w w' _ (omega arith) kept (put_kept k v' w')) (put_at k v' w' (omega (arith, kept.size, need_pos e))))
      ∙ ap (λ u. with_value n (random u s'.seed) s' go) at)
      ∙ random_valued n (value e s.vars s.seed) s go
  value_runs (Binary op l r) k is s w go fits h =
      constant_runs (Binary op l r) (constant (Binary op l r)) (value_code l k ++ (value_code r (k + 1) ++ Compute op k ∷ [])) k is s w go refl fits h
      (ap (λ code. perform ns n code s w) (append_assoc (value_code l k) (value_code r (k + 1) ++ Compute op k ∷ []) is)
      ∙ value_runs l k ((value_code r (k + 1) ++ Compute op k ∷ []) ++ is) s w (λ a s'. valued n r s' (λ b s''. with_value n (given (apply op a b) s''.seed) s'' go)) (omega arith)
      (λ a s' w' kept at.
      ap (λ code. perform ns n code s' w') (append_assoc (value_code r (k + 1)) (Compute op k ∷ []) is)
      ∙ value_runs r (k + 1) (Compute op k ∷ is) s' w' (λ b s''. with_value n (given (apply op a b) s''.seed) s'' go) (omega (arith, kept.size))
      (λ b s'' w'' kept' at'.
      let left : slice_index w''.words k ≡ a = kept'.below k (omega arith) ∙ at in
      into_runs k is s'' w'' (given (apply op (slice_index w''.words k) (slice_index w''.words (k + 1))) s''.seed) go
      (λ v s3. h v s3 (with_word w'' k v) (kept_trans k k w w'' _ (omega arith) (kept_trans k (k + 1) w w' w'' (omega arith) kept kept')
      (put_kept k v w'')) (put_at k v w'' (omega (arith, kept.size, kept'.size))))
      ∙ ap₂ (λ x y. with_value n (given (apply op x y) s''.seed) s'' go) left at'))
      ∙ binary_valued n op r (value l s.vars s.seed) s go)
