-- Operands of a group: what their ranges give, and what the relation says about them.
use Rattle.std.proofs.Common.{◌≡◌, ℕ, ◌+◌, ◌/◌, ◌%◌, ◌<◌, List, ◌∷◌, ◌++◌, refl, arith, ◌≤◌}
use Rattle.tb_basic_syntax.specs.declared.expressions.Operator.{Operator}
use Rattle.tb_basic_meaning.specs.Control.{State}
use Rattle.tb_lower.specs.Ranges.{AreInRange}
use Rattle.tb_lower.specs.Slots.{Instr, Compute, Slots}
use Rattle.tb_proof_simulation.proofs.Mirrors.{HoldsState}
use Rattle.tb_proof_simulation.specs.Layout.{Layout}
use Rattle.tb_proof_simulation.proofs.Pieces.{InData, word_in_data}
use Rattle.tb_compiler_selection.specs.declared.liveness.Live.{Live}
use Rattle.tb_compiler_selection.specs.Groups.{Operand, Constant, Variable, InSlot, IntoVariable, IntoHeld, Destination, IntoSlot, IntoHome, Calculate, fetch, kept, slot_of, expand}
use Rattle.tb_proof_correctness.proofs.Pieces.Sources.{value}
use Rattle.tb_compiler_templates.specs.Templates.{slot_at}
use Rattle.tb_compiled_kept.specs.Addresses.{var_at}
use Rattle.tb_compiler_templates.specs.declared.sources.Source.{Source}
use Rattle.tb_compiler_templates.specs.Sources.{source_of, destination_at}
use Rattle.tb_proof_correctness.proofs.CodeBytes.GroupCode.{low, high}
use Rattle.tb_proof_correctness.proofs.Relation.Matching.{HoldsLive}
use Rattle.tb_proof_correctness.proofs.Slots.SlotSide.{fetched, StandsIn}
use Rattle.tb_proof_correctness.proofs.Relation.Landing.{DestFits}
use Rattle.tb_proof_correctness.proofs.Pieces.Sums.{Grounded, Away}

abbrev pub OperandFits : Operand → Type 0
OperandFits (Constant w) = Unit {0}
OperandFits (Variable x) = x < 26
OperandFits InSlot = Unit {0}

-- the range of a fetch gives that of its operand
pub range_fetch : (k : ℕ) (a : Operand) (js : List Instr) → AreInRange 256 (fetch k a ++ js) → OperandFits a × AreInRange 256 js
range_fetch k (Constant w) js h = (tt, h.1)
range_fetch k (Variable x) js h = (h.0.1, h.1)
range_fetch k InSlot js h = (tt, h)

-- what the ranges of a calculation's instructions give
pub record CalcFits (a b : Operand) (d : Destination) : Type 0 where
  pub left : OperandFits a
  pub right : OperandFits b
  pub slot : slot_of d + 1 < 16
  pub dest : DestFits d

-- where a result goes, by the range of what takes it there
pub dest_fits : (d : Destination) → slot_of d < 16 → AreInRange 256 (kept d) → DestFits d
dest_fits (IntoSlot k) lt h = lt
dest_fits (IntoHome (IntoVariable x)) lt h = h.0
dest_fits (IntoHome IntoHeld) lt h = tt

-- the ranges of a calculation give those of its operands and its destination
pub calc_fits : (op : Operator) (a b : Operand) (d : Destination) → AreInRange 256 (expand (Calculate op a b d)) → CalcFits a b d
calc_fits op a b d h =
    let l = range_fetch (slot_of d) a (fetch (slot_of d + 1) b ++ Compute op (slot_of d) ∷ kept d) h in
    let r = range_fetch (slot_of d + 1) b (Compute op (slot_of d) ∷ kept d) l.1 in
    record { left = l.0; right = r.0; slot = r.1.0; dest = dest_fits d (omega (arith, r.1.0)) r.1.1 }

-- a source has a word in a memory
pub record SourceHolds (m : ℕ → ℕ) (a : Source) (w : ℕ) : Type 0 where
  pub low_byte : value m (low a) ≡ w % 256
  pub high_byte : value m (high a) ≡ w / 256
  pub small : w < 65536

-- an operand's word is where its source says
pub operand_held : (ly : Layout) (s : State) (u : Live) (r : Slots) (m : ℕ → ℕ) (k : ℕ) (a : Operand) → HoldsState ly s m → HoldsLive u r m
    → OperandFits a → StandsIn a k u → SourceHolds m (source_of k a) (fetched s r k a)
operand_held ly s u r m k (Constant w) hs hr fit st = record { low_byte = refl; high_byte = refl; small = omega arith }
operand_held ly s u r m k (Variable x) hs hr fit st = let v = hs.vars x fit in record { low_byte = v.low; high_byte = v.high; small = v.small }
operand_held ly s u r m k InSlot hs hr fit st = let v = hr.words k st in record { low_byte = v.low; high_byte = v.high; small = v.small }

-- words are at even addresses
pub operand_grounded : (k : ℕ) (a : Operand) (d : Destination) → k < 16 → OperandFits a → Grounded (source_of k a) (destination_at d)
operand_grounded k (Constant w) d lt fit = tt
operand_grounded k (Variable x) (IntoSlot j) lt fit = (word_in_data (var_at x) (omega arith) (omega (arith, fit)), λ e. omega (arith, e))
operand_grounded k (Variable x) (IntoHome (IntoVariable y)) lt fit = (word_in_data (var_at x) (omega arith) (omega (arith, fit)), λ e. omega (arith, e))
operand_grounded k (Variable x) (IntoHome IntoHeld) lt fit = (word_in_data (var_at x) (omega arith) (omega (arith, fit)), λ e. omega (arith, e))
operand_grounded k InSlot (IntoSlot j) lt fit = (word_in_data (slot_at k) (omega arith) (omega (arith, lt)), λ e. omega (arith, e))
operand_grounded k InSlot (IntoHome (IntoVariable y)) lt fit = (word_in_data (slot_at k) (omega arith) (omega (arith, lt)), λ e. omega (arith, e))
operand_grounded k InSlot (IntoHome IntoHeld) lt fit = (word_in_data (slot_at k) (omega arith) (omega (arith, lt)), λ e. omega (arith, e))

-- a result's address is within the data
pub dest_in_data : (d : Destination) → DestFits d → InData (destination_at d)
dest_in_data (IntoSlot k) fit = word_in_data (slot_at k) (omega arith) (omega (arith, fit))
dest_in_data (IntoHome (IntoVariable x)) fit = word_in_data (var_at x) (omega arith) (omega (arith, fit))
dest_in_data (IntoHome IntoHeld) fit = (refl, refl)

-- no operand's high byte is at an address below all variables and slots
pub operand_apart : (k : ℕ) (a : Operand) (to : ℕ) → to ≤ 0xC000 → k < 16 → OperandFits a → Grounded (source_of k a) to
operand_apart k (Constant w) to e lt fit = tt
operand_apart k (Variable x) to e lt fit = (word_in_data (var_at x) (omega arith) (omega (arith, fit)), λ q. omega (arith, q, e))
operand_apart k InSlot to e lt fit = (word_in_data (slot_at k) (omega arith) (omega (arith, lt)), λ q. omega (arith, q, e))

-- and for one above them
pub operand_before : (k : ℕ) (a : Operand) (to : ℕ) → 0xC060 ≤ to → k < 16 → OperandFits a → Grounded (source_of k a) to
operand_before k (Constant w) to e lt fit = tt
operand_before k (Variable x) to e lt fit = (word_in_data (var_at x) (omega arith) (omega (arith, fit)), λ q. omega (arith, q, e, fit))
operand_before k InSlot to e lt fit = (word_in_data (slot_at k) (omega arith) (omega (arith, lt)), λ q. omega (arith, q, e, lt))

-- a result's address is above LEFT
pub dest_beyond : (d : Destination) → DestFits d → InData (destination_at d) × (0xC000 ≤ destination_at d)
dest_beyond (IntoSlot k) fit = (dest_in_data (IntoSlot k) fit, omega arith)
dest_beyond (IntoHome (IntoVariable x)) fit = (dest_in_data (IntoHome (IntoVariable x)) fit, omega arith)
dest_beyond (IntoHome IntoHeld) fit = (dest_in_data (IntoHome IntoHeld) fit, omega arith)

-- and so is an operand's
pub operand_beyond : (k : ℕ) (a : Operand) → Away (source_of k a)
operand_beyond k (Constant w) = tt
operand_beyond k (Variable x) = omega arith
operand_beyond k InSlot = omega arith
