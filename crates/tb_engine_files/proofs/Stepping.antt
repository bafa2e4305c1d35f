-- Steps that are done one after the other.
use Rattle.std.proofs.Common.{◌≡◌, ℕ, List, [], ◌∷◌, ◌++◌, Bool, true, false, subst}
use Rattle.tb_engine_files.specs.Putting.{Step, Writes, Dresses, Renames, Ran, Taking, moved, unmoved}
use Rattle.tb_engine_files.specs.declared.putting.PutNames.{PutNames}

-- steps, and then others
pub ran_more : {F : Type 0} (does : F → Step → F → Type 0) (f g h : F) (ss ts : List Step) → Ran does f ss g → Ran does g ts h → Ran does f (ss ++ ts) h
ran_more does f g h [] ts same more = subst (λ x. Ran does x ts h) same more
ran_more does f g h (s ∷ ss) ts (middle, did, rest) more = (middle, did, ran_more does middle g h ss ts rest more)

-- a step of which it is known whether it was done
pub known : {F : Type 0} (does : F → Step → F → Type 0) (step : Bool → Step) (f g : F) (done is : Bool) → done ≡ is → does f (step done) g → does f (step is) g
known does step f g done is e d = subst (λ b. does f (step b) g) e d

-- the new file was renamed, or not
pub taken : (n : PutNames) (bytes : List ℕ) (done : Bool)
    → Taking n bytes (Writes n.beside.now bytes true ∷ Dresses n.file.now n.beside.now true ∷ Renames n.beside.now n.file.now done ∷ []) done
taken n bytes true = moved
taken n bytes false = unmoved
