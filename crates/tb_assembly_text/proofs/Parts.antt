-- Lists that are read part by part.
use Rattle.std.proofs.Common.{◌≡◌, List, [], ◌∷◌, ◌++◌, sym, ap, ◌∙◌, append_assoc, Result, Ok, Err, refl}
use Rattle.tb_assembly_text.specs.declared.faults.Fault.{Fault}
use Rattle.tb_assembly_text.specs.Lists.{Segment, with_first, each}
use Rattle.tb_assembly_text.specs.Statements.{reading}

first_before : {A : Type 0} (xs : List A) (x : A) (r : Result (List A) Fault)
    → reading (λ more. xs ++ more) (with_first (Ok x) r) ≡ reading (λ more. (xs ++ x ∷ []) ++ more) r
first_before xs x (Ok ys) = ap Ok (sym (append_assoc xs (x ∷ []) ys))
first_before xs x (Err f) = refl

module _ {A : Type 0} (f : Segment → Result A Fault) (xs : List A) (s : Segment) (ss all : List Segment) (whole : Result (List A) Fault)
    (first : all ≡ s ∷ ss) (so_far : reading (λ more. xs ++ more) (each f all) ≡ whole) where
  by_first : (r : Result A Fault) → f s ≡ r → reading (λ more. xs ++ more) (with_first r (each f ss)) ≡ whole
  by_first r e = sym (ap (λ q. reading (λ more. xs ++ more) (with_first q (each f ss))) e) ∙ sym (ap (λ l. reading (λ more. xs ++ more) (each f l)) first) ∙ so_far

  -- a part that is read joins those before it
  pub part_read : (x : A) (ys : List A) → f s ≡ Ok x → ys ≡ xs ++ x ∷ [] → reading (λ more. ys ++ more) (each f ss) ≡ whole
  part_read x ys e added = ap (λ l. reading (λ more. l ++ more) (each f ss)) added ∙ sym (first_before xs x (each f ss)) ∙ by_first (Ok x) e

  -- a part that is refused is the fault of all
  pub part_refused : (g : Fault) → f s ≡ Err g → whole ≡ Err g
  part_refused g e = sym (by_first (Err g) e)
