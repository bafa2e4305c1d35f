-- The table is held against the definition at each of the 256 bytes, by computing.
use Rattle.std.proofs.Common.{◌≡◌, ℕ, ◌<◌, Bool, true, false, slice_index_or, refl, arith}
use Rattle.std.specs.Prelude.{◌==◌, ◌||◌, not}
use Rattle.tb_opcodes.specs.Opcodes.{decoded}
use Rattle.tb_machine_cycles.specs.declared.TheConstants.{MOST_EXTRA}
use Rattle.tb_machine_cycles.proofs.Bytes.{holds_below, holds_at}
use Rattle.tb_machine_cycles.proofs.Fixed.{is_fixed, no_extra}
use Rattle.tb_machine_cycles.proofs.has_no_extra.Goals as goal

is_right : ℕ → Bool
is_right k = not (slice_index_or MOST_EXTRA k 0 == 0) || is_fixed (decoded k)

all_right : holds_below is_right 256 ≡ true
unfolding holds_below is_right decoded is_fixed
all_right = refl

by_none : (none fixed : Bool) → (not none || fixed) ≡ true → none ≡ true → fixed ≡ true
by_none true fixed h e = h
by_none false fixed h e = absurd (cc)

fixed_at : (b : ℕ) → b < 256 → (slice_index_or MOST_EXTRA b 0 == 0) ≡ true → is_fixed (decoded b) ≡ true
unfolding is_right
fixed_at b lt none = by_none _ _ (holds_at is_right 256 all_right b lt) none

pub returns : goal.returns
returns c = λ none r read. no_extra (decoded c.args.opcode) (fixed_at c.args.opcode (omega arith) none) r read
