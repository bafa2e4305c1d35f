-- The table is held against the definition at each of the 256 bytes, by computing.
use Rattle.std.proofs.Common.{◌≡◌, ℕ, ◌<◌, ◌≤◌, Bool, true, eqb, slice_index_or, refl, arith}
use Rattle.std.specs.Prelude.{nat_le}
use Rattle.std.proofs.lemmas.Bool.{eqb-true}
use Rattle.std.proofs.lemmas.Bool.Decides.{nat_tests}
use Rattle.tb_opcodes.specs.Opcodes.{decoded}
use Rattle.tb_machine_cycles.specs.declared.TheConstants.{BASE}
use Rattle.tb_machine_cycles.specs.Cycles.{base_by}
use Rattle.tb_machine_cycles.proofs.Bytes.{holds_below, holds_at}
use Rattle.tb_machine_cycles.proofs.base.Goals as goal

agrees : ℕ → Bool
agrees k = eqb (slice_index_or BASE k 0) (base_by (decoded k))

all_agree : holds_below agrees 256 ≡ true
unfolding holds_below agrees decoded
all_agree = refl

is_few : ℕ → Bool
is_few k = nat_le (slice_index_or BASE k 0) 7

all_few : holds_below is_few 256 ≡ true
unfolding holds_below is_few
all_few = refl

value_at : (b : ℕ) → b < 256 → slice_index_or BASE b 0 ≡ base_by (decoded b)
unfolding agrees
value_at b lt = eqb-true _ _ (holds_at agrees 256 all_agree b lt)

few_at : (b : ℕ) → b < 256 → slice_index_or BASE b 0 ≤ 7
unfolding is_few
few_at b lt = let h = holds_at is_few 256 all_few b lt in grind (arith, nat_tests, h)

pub returns-clause-value : goal.returns-clause-value
returns-clause-value c = value_at c.args.opcode (omega arith)

pub returns-clause-few : goal.returns-clause-few
returns-clause-few c = few_at c.args.opcode (omega arith)
