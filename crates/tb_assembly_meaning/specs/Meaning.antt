-- What statements mean.
use Rattle.std.specs.Prelude.{ℕ, ◌+◌, Option, Some, None, Result, Ok, Err, List, [], ◌∷◌, ◌++◌}
use Rattle.tb_asm.specs.Layout.{Entry}
use Rattle.tb_assembly_text.specs.Statements.{Said}
use Rattle.tb_assembly_meaning.specs.declared.faults.MeaningFault.{MeaningFault}
use Rattle.tb_assembly_meaning.specs.declared.meaning.StatementFault.{StatementFault}
use Rattle.tb_assembly_meaning.specs.Names.{Env}
use Rattle.tb_assembly_meaning.specs.Places.{Lying, spots_from, reached_from, start_at, resolved_all}
use Rattle.tb_assembly_meaning.specs.Items.{item_of}

-- the item of a statement, if it is one, or what is wrong with it: first that it lies nowhere, then what is wrong with its values
abbrev pub outcome : Env → Lying → Result (Option Entry) MeaningFault
outcome env ((c, m), Ok p) = item_of env p m
outcome env (s, Err f) = Err f

-- one or none as a list
abbrev pub listed : {A : Type 0} → Option A → List A
listed None = []
listed (Some x) = x ∷ []

-- the item of an outcome, if there is one
abbrev pub items_in : Result (Option Entry) MeaningFault → List Entry
items_in (Ok o) = listed o
items_in (Err f) = []

-- the fault of an outcome of the statement with a number, if there is one
abbrev pub faults_in : ℕ → Result (Option Entry) MeaningFault → List StatementFault
faults_in i (Ok o) = []
faults_in i (Err f) = record { index = i; fault = f } ∷ []

-- the items of statements, by what names stand for
abbrev pub items_from : Env → List Lying → List Entry
items_from env [] = []
items_from env (l ∷ ls) = items_in (outcome env l) ++ items_from env ls

-- all that is wrong with statements, of which the first has a number
abbrev pub faults_from : Env → ℕ → List Lying → List StatementFault
faults_from env i [] = []
faults_from env i (l ∷ ls) = faults_in i (outcome env l) ++ faults_from env (i + 1) ls

-- where statements lie from an address on
abbrev pub spots_of : ℕ → List Said → List Lying
spots_of at ss = spots_from (start_at at) ss

-- what names stand for: labels for their places, other names for their values when all labels are known
abbrev pub names_of : ℕ → List Said → Env
names_of at ss = resolved_all (reached_from (start_at at) ss).env (spots_of at ss)

-- where the image begins
abbrev pub base_of : ℕ → List Said → ℕ
base_of at ss = (reached_from (start_at at) ss).base

-- the items of statements
abbrev pub items_of : ℕ → List Said → List Entry
items_of at ss = items_from (names_of at ss) (spots_of at ss)

-- all that is wrong with statements
abbrev pub faults_of : ℕ → List Said → List StatementFault
faults_of at ss = faults_from (names_of at ss) 0 (spots_of at ss)
