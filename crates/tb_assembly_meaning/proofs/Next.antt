-- The next of a list in a loop.
use Rattle.std.proofs.Common.{◌≡◌, ℕ, ◌+◌, ◌<◌, List, [], ◌∷◌, ◌++◌, length, drop, map, get_or, sym, ap, ◌∙◌, add-one, drop-cons, append_assoc, add_assoc, Result, Ok, Err, refl}
use Rattle.std.specs.Prelude.{ℤ}
use Rattle.std.proofs.lemmas.List.{drop-map}
use Rattle.tb_assembly_text.specs.declared.lists.Datum.{Datum}
use Rattle.tb_assembly_text.specs.declared.expressions.Step.{Step}
use Rattle.tb_assembly_text.specs.Expressions.{mark_of, marks_of}
use Rattle.tb_assembly_text.specs.Lists.{content_of}
use Rattle.tb_assembly_text.specs.Statements.{Said}
use Rattle.tb_assembly_meaning.specs.declared.faults.MeaningFault.{MeaningFault}
use Rattle.tb_assembly_meaning.specs.declared.faults.MeaningError.{MeaningError}
use Rattle.tb_assembly_meaning.specs.declared.faults.MeaningError.TheVariants.{Bad, NoMemory}
use Rattle.tb_assembly_meaning.specs.declared.spots.Spot.{Spot}
use Rattle.tb_assembly_meaning.specs.Names.{Env}
use Rattle.tb_assembly_meaning.specs.Values.{run, stepped, then_steps}
use Rattle.tb_assembly_meaning.specs.Items.{before, Lays}
use Rattle.tb_assembly_meaning.specs.Answers.{AnswersBy, Steps}
use Rattle.tb_assembly_meaning.specs.Places.{Reached, Lying, after_spot, and_then, content_size, data_size, reached_from, spot_of, spots_from}

-- what is left at a place of a list is the one there, and what is left behind it
pub next : {X Y : Type 0} (f : X → Y) (xs : List X) (i : ℕ) (x : X) → i < length xs → x ≡ get_or xs i x → drop i (map f xs) ≡ f x ∷ drop (i + 1) (map f xs)
next f xs i x below is =
    drop-map f i xs ∙ ap (map f) (drop-cons xs i x below) ∙ ap (λ n. f (get_or xs i x) ∷ map f (drop n xs)) (sym (add-one i))
    ∙ ap (λ ts. f (get_or xs i x) ∷ ts) (sym (drop-map f (i + 1) xs)) ∙ ap (λ y. f y ∷ drop (i + 1) (map f xs)) (sym is)

-- the size of data grows by that of the next datum
pub size_on : (xs : List Datum) (i : ℕ) (x : Datum) (size whole : ℕ) → i < length xs → x ≡ get_or xs i x → size + data_size (drop i (map content_of xs)) ≡ whole
    → size + content_size (content_of x) + data_size (drop (i + 1) (map content_of xs)) ≡ whole
size_on xs i x size whole below is so_far =
    add_assoc size (content_size (content_of x)) (data_size (drop (i + 1) (map content_of xs)))
    ∙ ap (λ cs. size + data_size cs) (sym (next content_of xs i x below is)) ∙ so_far

module _ (env : Env) (at : ℤ) (xs : List Step) (i : ℕ) (x : Step) (below : i < length xs) (is : x ≡ get_or xs i x) (st : List ℤ)
    (whole : Result (List ℤ) MeaningFault) (so_far : run env at (drop i (marks_of xs)) st ≡ whole) where
  by_step : (r : Result (List ℤ) MeaningFault) → stepped env at (mark_of x) st ≡ r → then_steps r (run env at (drop (i + 1) (marks_of xs))) ≡ whole
  by_step r e =
      sym (ap (λ q. then_steps q (run env at (drop (i + 1) (marks_of xs)))) e) ∙ sym (ap (λ ms. run env at ms st) (next mark_of xs i x below is)) ∙ so_far

  -- a step goes on
  pub step_goes : (new : List ℤ) → stepped env at (mark_of x) st ≡ Ok new → run env at (drop (i + 1) (marks_of xs)) new ≡ whole
  step_goes new e = by_step (Ok new) e

  -- a step that is refused is the fault of all
  pub step_fails : (U : Type 0) (e : MeaningError) (new : List ℤ) → Steps {U = U} (stepped env at (mark_of x) st) (Err e) new → Steps {U = U} whole (Err e) new
  step_fails U (Bad f) new p = sym (by_step (Err f) p)
  step_fails U NoMemory new p = tt

-- steps that are refused in one way of saying it
pub steps_at : (U : Type 0) (r s : Result (List ℤ) MeaningFault) → r ≡ s → (e : MeaningError) (new : List ℤ) → Steps {U = U} r (Err e) new → Steps {U = U} s (Err e) new
steps_at U r s same (Bad f) new p = sym same ∙ p
steps_at U r s same NoMemory new p = tt

grown : (a r : Result (List ℕ) MeaningFault) (old new : List ℕ) → and_then a (λ bs. Ok (old ++ bs)) ≡ Ok new
    → and_then r (λ bs. Ok (new ++ bs)) ≡ and_then (before a r) (λ bs. Ok (old ++ bs))
grown (Ok xs) (Ok ys) old new e = ap Ok (ap (λ t. t ++ ys) (let same : new ≡ old ++ xs = cc in same) ∙ append_assoc old xs ys)
grown (Ok xs) (Err f) old new e = refl
grown (Err g) r old new e = cc

module _ {X C : Type 0} (view : X → C) (each : C → Result (List ℕ) MeaningFault) (all : List C → Result (List ℕ) MeaningFault)
    (joins : (c : C) (cs : List C) → all (c ∷ cs) ≡ before (each c) (all cs)) (xs : List X) (i : ℕ) (x : X) (below : i < length xs) (is : x ≡ get_or xs i x)
    (old : List ℕ) (whole : Result (List ℕ) MeaningFault) (so_far : and_then (all (drop i (map view xs))) (λ bs. Ok (old ++ bs)) ≡ whole) where
  here : and_then (before (each (view x)) (all (drop (i + 1) (map view xs)))) (λ bs. Ok (old ++ bs)) ≡ whole
  here =
      sym (ap (λ r. and_then r (λ bs. Ok (old ++ bs))) (ap all (next view xs i x below is) ∙ joins (view x) (drop (i + 1) (map view xs)))) ∙ so_far

  -- bytes that are laid go on
  pub bytes_go : (new : List ℕ) → and_then (each (view x)) (λ bs. Ok (old ++ bs)) ≡ Ok new → and_then (all (drop (i + 1) (map view xs))) (λ bs. Ok (new ++ bs)) ≡ whole
  bytes_go new e = grown (each (view x)) (all (drop (i + 1) (map view xs))) old new e ∙ here

  -- bytes that are refused are the fault of all
  pub bytes_fail : (f : MeaningFault) → each (view x) ≡ Err f → whole ≡ Err f
  bytes_fail f e = sym here ∙ ap (λ a. and_then (before a (all (drop (i + 1) (map view xs)))) (λ bs. Ok (old ++ bs))) e

  -- bytes that are refused are the fault of all, unless memory was wanting
  pub bytes_fails : (U A : Type 0) (shown : A → List ℕ) (e : MeaningError) (new : List ℕ) → Lays {U = U} (each (view x)) old (Err e) new → AnswersBy {A = A} shown whole (Err e)
  bytes_fails U A shown (Bad f) new p = bytes_fail f p
  bytes_fails U A shown NoMemory new p = tt

-- statements with one more
pub place_on : (old new : List Lying) (r s' : Reached) (s : Said) (p : Result Spot MeaningFault) (rest : List Said) (whole : List Lying) → new ≡ old ++ (s, p) ∷ []
    → p ≡ spot_of r s → s' ≡ after_spot r p s → old ++ spots_from r (s ∷ rest) ≡ whole → new ++ spots_from s' rest ≡ whole
place_on old new r s' s p rest whole added spot after so_far =
    (λ j. added j ++ spots_from (after j) rest)
    ∙ (λ j. (old ++ (s, spot j) ∷ []) ++ spots_from (after_spot r (spot j) s) rest)
    ∙ append_assoc old ((s, spot_of r s) ∷ []) (spots_from (after_spot r (spot_of r s) s) rest)
    ∙ so_far

-- what is reached with one statement more
pub reach_on : (r s' : Reached) (s : Said) (p : Result Spot MeaningFault) (rest : List Said) (whole : Reached)
    → p ≡ spot_of r s → s' ≡ after_spot r p s → reached_from r (s ∷ rest) ≡ whole → reached_from s' rest ≡ whole
reach_on r s' s p rest whole spot after so_far = ap (λ q. reached_from q rest) (after ∙ ap (λ q. after_spot r q s) spot) ∙ so_far

-- a list with more behind it
pub append_on : {A : Type 0} (old new more rest whole : List A) → new ≡ old ++ more → old ++ (more ++ rest) ≡ whole → new ++ rest ≡ whole
append_on old new more rest whole e so_far = ap (λ t. t ++ rest) e ∙ append_assoc old more rest ∙ so_far
