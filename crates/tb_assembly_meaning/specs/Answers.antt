-- What is answered.
use Rattle.std.specs.Prelude.{◌≡◌, Result, Ok, Err}
use Rattle.tb_assembly_meaning.specs.declared.faults.MeaningFault.{MeaningFault}
use Rattle.tb_assembly_meaning.specs.declared.faults.MeaningError.{MeaningError}
use Rattle.tb_assembly_meaning.specs.declared.faults.MeaningError.TheVariants.{Bad, NoMemory}

-- what is wanted, or its fault, or memory ran out
abbrev pub Answers : {A : Type 0} → Result A MeaningFault → Result A MeaningError → Type 0
Answers wanted (Ok v) = wanted ≡ Ok v
Answers wanted (Err (Bad f)) = wanted ≡ Err f
Answers wanted (Err NoMemory) = Unit {0}

-- what is wanted, by what a view shows of the answer, or its fault, or memory ran out
abbrev pub AnswersBy : {A B : Type 0} → (A → B) → Result B MeaningFault → Result A MeaningError → Type 0
AnswersBy view wanted (Ok v) = wanted ≡ Ok (view v)
AnswersBy view wanted (Err (Bad f)) = wanted ≡ Err f
AnswersBy view wanted (Err NoMemory) = Unit {0}

-- what is wanted is reached, or its fault, or memory ran out
abbrev pub Steps : {U A : Type 0} → Result A MeaningFault → Result U MeaningError → A → Type 0
Steps wanted (Ok u) new = wanted ≡ Ok new
Steps wanted (Err (Bad f)) new = wanted ≡ Err f
Steps wanted (Err NoMemory) new = Unit {0}

-- what is wanted is found, or memory ran out
abbrev pub Finds : {A : Type 0} → A → Result A MeaningError → Type 0
Finds wanted (Ok v) = v ≡ wanted
Finds wanted (Err e) = e ≡ NoMemory
