-- The values of texts.
use Rattle.std.proofs.Common.{◌≡◌, ℤ, [], refl, ap, ◌∙◌, Result, Ok, Err}
use Rattle.tb_assembly_text.specs.Expressions.{column_at}
use Rattle.tb_assembly_meaning.specs.declared.faults.MeaningFault.{MeaningFault}
use Rattle.tb_assembly_meaning.specs.Values.{top_of}
use Rattle.tb_assembly_laws.specs.Trees.{steps_of, value_of, written}
use Rattle.tb_assembly_laws.specs.TreeLaws.{ValuesOfTrees, onto}
use Rattle.tb_assembly_laws.proofs.Reading.{reads_trees}
use Rattle.tb_assembly_laws.proofs.Running.{runs_trees}

-- the last value of a stack with one value is that one
top_onto : (r : Result ℤ MeaningFault) → top_of (onto r []) ≡ r
top_onto (Ok z) = refl
top_onto (Err e) = refl

-- the value of what is read of a tree's tokens is the tree's
pub values_of_trees : ValuesOfTrees
values_of_trees scope end env at t bound = (
  (column_at end (written t), steps_of scope t),
  reads_trees scope end t bound,
  ap top_of (runs_trees scope env at t []) ∙ top_onto (value_of scope env at t),
)
