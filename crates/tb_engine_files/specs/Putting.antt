-- How a text takes a file's place: the steps that are done, and what they make of the files of a folder.
use Rattle.std.specs.Prelude.{◌≡◌, ◌≢◌, ◌⊎◌, ℕ, List, [], ◌∷◌, ◌++◌, Bool, true, false, Option, Some, None, Result, Ok, Err}
use Rattle.tb_engine_files.specs.declared.putting.PutNames.{PutNames}
use Rattle.tb_engine_files.specs.declared.putting.Unput.{Unput}
use Rattle.tb_engine_files.specs.declared.putting.Unput.TheVariants.{AsBefore, Kept}

-- a step with these files, and whether it was done
pub data Step : Type 0 where
  Creates : List ℕ → Bool → Step
  Writes : List ℕ → List ℕ → Bool → Step
  Copies : List ℕ → List ℕ → Bool → Step
  Dresses : List ℕ → List ℕ → Bool → Step
  Renames : List ℕ → List ℕ → Bool → Step
  Removes : List ℕ → Bool → Step

-- from one state of the folder to another exactly these steps were done, in this order
abbrev pub Ran : {F : Type 0} → (F → Step → F → Type 0) → F → List Step → F → Type 0
Ran does f [] g = g ≡ f
Ran does f (s ∷ ss) g = (h : _) × does f s h × Ran does h ss g

-- the new file is filled and takes the old one's place, or that breaks off
pub data Taking (n : PutNames) (bytes : List ℕ) : List Step → Bool → Type 0 where
  unfilled : Taking n bytes (Writes n.beside.now bytes false ∷ []) false
  undressed : Taking n bytes (Writes n.beside.now bytes true ∷ Dresses n.file.now n.beside.now false ∷ []) false
  unmoved : Taking n bytes (Writes n.beside.now bytes true ∷ Dresses n.file.now n.beside.now true ∷ Renames n.beside.now n.file.now false ∷ []) false
  moved : Taking n bytes (Writes n.beside.now bytes true ∷ Dresses n.file.now n.beside.now true ∷ Renames n.beside.now n.file.now true ∷ []) true

-- a new file is made and takes the old one's place; or it is not made, or is taken away again, if it can be
pub data Making (n : PutNames) (bytes : List ℕ) : List Step → Bool → Type 0 where
  unmade : Making n bytes (Creates n.beside.now false ∷ []) false
  undone : (ss : List Step) (gone : Bool) → Taking n bytes ss false → Making n bytes (Creates n.beside.now true ∷ (ss ++ (Removes n.beside.now gone ∷ []))) false
  made : (ss : List Step) → Taking n bytes ss true → Making n bytes (Creates n.beside.now true ∷ ss) true

-- how it ends: the text is in the file's place, the file is as it was, or what it held is in the file in which it is kept
pub data End : Type 0 where
  Put : End
  Unchanged : End
  Copied : End

-- the file, of which there is a copy, is written over; or that breaks off, and the copy is put back, if it can be
pub data Writing (n : PutNames) (bytes : List ℕ) : List Step → End → Type 0 where
  written : (gone : Bool) → Writing n bytes (Writes n.file.now bytes true ∷ Removes n.kept.now gone ∷ []) Put
  put_back : (gone : Bool) → Writing n bytes (Writes n.file.now bytes false ∷ Copies n.kept.now n.file.now true ∷ Removes n.kept.now gone ∷ []) Unchanged
  unput : Writing n bytes (Writes n.file.now bytes false ∷ Copies n.kept.now n.file.now false ∷ []) Copied

-- the file is copied, and then written over; or there is no copy, and it stays as it was
pub data Keeping (n : PutNames) (bytes : List ℕ) : List Step → End → Type 0 where
  unkept : Keeping n bytes (Creates n.kept.now false ∷ []) Unchanged
  uncopied : (gone : Bool) → Keeping n bytes (Creates n.kept.now true ∷ Copies n.file.now n.kept.now false ∷ Removes n.kept.now gone ∷ []) Unchanged
  kept : (ss : List Step) (e : End) → Writing n bytes ss e → Keeping n bytes (Creates n.kept.now true ∷ Copies n.file.now n.kept.now true ∷ ss) e

-- a new file takes the place of the old one; where it can't, a file that is there is written over
pub data Putting (n : PutNames) (bytes : List ℕ) : Bool → List Step → End → Type 0 where
  whole : (there : Bool) (ss : List Step) → Making n bytes ss true → Putting n bytes there ss Put
  new : (ss : List Step) → Making n bytes ss false → Putting n bytes false ss Unchanged
  over : (ss ts : List Step) (e : End) → Making n bytes ss false → Keeping n bytes ts e → Putting n bytes true (ss ++ ts) e

-- all went well
abbrev pub is_done : {E : Type 0} → Result Unit E → Bool
is_done (Ok u) = true
is_done (Err e) = false

-- how it ended, by what was answered
abbrev pub end_of : {E : Type 0} → Result Unit (Unput E) → End
end_of (Ok u) = Put
end_of (Err (AsBefore e)) = Unchanged
end_of (Err (Kept e)) = Copied

-- what was done, by how it ended
abbrev pub TakesPlace : {F E : Type 0} → (F → Step → F → Type 0) → F → PutNames → List ℕ → Result Unit E → F → Type 0
TakesPlace does f n bytes result g = (ss : List Step) × Ran does f ss g × Taking n bytes ss (is_done result)

abbrev pub PutsBeside : {F E : Type 0} → (F → Step → F → Type 0) → F → PutNames → List ℕ → Result Unit E → F → Type 0
PutsBeside does f n bytes result g = (ss : List Step) × Ran does f ss g × Making n bytes ss (is_done result)

abbrev pub WritesOver : {F E : Type 0} → (F → Step → F → Type 0) → F → PutNames → List ℕ → Result Unit (Unput E) → F → Type 0
WritesOver does f n bytes result g = (ss : List Step) × Ran does f ss g × Writing n bytes ss (end_of result)

abbrev pub PutsOver : {F E : Type 0} → (F → Step → F → Type 0) → F → PutNames → List ℕ → Result Unit (Unput E) → F → Type 0
PutsOver does f n bytes result g = (ss : List Step) × Ran does f ss g × Keeping n bytes ss (end_of result)

abbrev pub Puts : {F E : Type 0} → (F → Step → F → Type 0) → F → PutNames → Bool → List ℕ → Result Unit (Unput E) → F → Type 0
Puts does f n there bytes result g = (ss : List Step) × Ran does f ss g × Putting n bytes there ss (end_of result)

-- what each file of a folder holds, if it is there
abbrev pub Holdings : Type 0
Holdings = List ℕ → Option (List ℕ)

-- all files hold what they held, but for one
abbrev pub Only : List ℕ → Holdings → Holdings → Type 0
Only p d e = (q : List ℕ) → q ≢ p → e q ≡ d q

-- what a step makes of what files hold; a write or a copy that breaks off leaves anything in its file
abbrev pub Makes : Holdings → Step → Holdings → Type 0
Makes d (Creates p true) e = (d p ≡ None) × (e p ≡ Some []) × Only p d e
Makes d (Writes p bytes true) e = (e p ≡ Some bytes) × Only p d e
Makes d (Writes p bytes false) e = Only p d e
Makes d (Copies p q true) e = (e q ≡ d p) × Only q d e
Makes d (Copies p q false) e = Only q d e
Makes d (Renames p q true) e = (e q ≡ d p) × (e p ≡ None) × ((r : List ℕ) → r ≢ p → r ≢ q → e r ≡ d r)
Makes d (Removes p true) e = (e p ≡ None) × Only p d e
Makes d (Creates p false) e = (q : List ℕ) → e q ≡ d q
Makes d (Dresses p q done) e = (q : List ℕ) → e q ≡ d q
Makes d (Renames p q false) e = (q : List ℕ) → e q ≡ d q
Makes d (Removes p false) e = (q : List ℕ) → e q ≡ d q

-- this holds now and after each step, whatever it makes, and that after the last one
abbrev pub Throughout : (Holdings → Type 0) → (Holdings → Type 0) → Holdings → List Step → Type 0
Throughout now last d [] = now d × last d
Throughout now last d (s ∷ ss) = now d × ((e : Holdings) → Makes d s e → Throughout now last e ss)

-- all other files that were there hold what they held
abbrev pub KeepsOthers : PutNames → Holdings → Holdings → Type 0
KeepsOthers n d e = (q bytes : List ℕ) → q ≢ n.file.now → d q ≡ Some bytes → e q ≡ Some bytes

-- the file holds what it held or all of the text, or what it held is kept
abbrev pub IsSafe : PutNames → List ℕ → Holdings → Holdings → Type 0
IsSafe n bytes d e = ((e n.file.now ≡ d n.file.now) ⊎ ((e n.file.now ≡ Some bytes) ⊎ (e n.kept.now ≡ d n.file.now))) × KeepsOthers n d e

-- where it is at the end
abbrev pub EndsSafe : PutNames → List ℕ → Holdings → End → Holdings → Type 0
EndsSafe n bytes d Put e = e n.file.now ≡ Some bytes
EndsSafe n bytes d Unchanged e = e n.file.now ≡ d n.file.now
EndsSafe n bytes d Copied e = e n.kept.now ≡ d n.file.now

-- however a text is put in a file's place, nothing is lost
abbrev pub NothingIsLost : Type 0
NothingIsLost = (n : PutNames) (bytes : List ℕ) (there : Bool) (ss : List Step) (end : End) → n.file.now ≢ n.beside.now → n.file.now ≢ n.kept.now
    → Putting n bytes there ss end → (d : Holdings) → Throughout (IsSafe n bytes d) (EndsSafe n bytes d end) d ss
