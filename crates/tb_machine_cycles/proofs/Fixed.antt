-- Instructions that always take the cycles of their base.
use Rattle.std.proofs.Common.{◌≡◌, ℕ, Bool, true, false, refl}
use Rattle.std.specs.Prelude.{◌&&◌, not, Option, Some, None, if◌then◌else◌}
use Rattle.tb_opcodes.specs.declared.Mnemonic.{Mnemonic}
use Rattle.tb_opcodes.specs.declared.Mode.{Mode}
use Rattle.tb_opcodes.specs.declared.Mode.TheVariants.{Implied, Accumulator, Immediate, ZeroPage, ZeroPageX, ZeroPageY, IndirectX, IndirectY, Relative, Absolute, AbsoluteX, AbsoluteY, Indirect}
use Rattle.tb_cpu.specs.declared.registers.Regs.{Regs}
use Rattle.tb_cpu.specs.Operands.{Reader}
use Rattle.tb_machine_cycles.specs.Cycles.{reads_indexed, crosses_page, extra_by}

-- an instruction neither branches nor reads by an index that may lead out of a page
unfoldable pub is_fixed : Option (Mnemonic × Mode) → Bool
is_fixed None = true
is_fixed (Some (mnemonic, AbsoluteX)) = not (reads_indexed mnemonic)
is_fixed (Some (mnemonic, AbsoluteY)) = not (reads_indexed mnemonic)
is_fixed (Some (mnemonic, IndirectY)) = not (reads_indexed mnemonic)
is_fixed (Some (mnemonic, Relative)) = false
is_fixed (Some (mnemonic, _)) = true

no_index : (reads crosses : Bool) → not reads ≡ true → ◌≡◌ {A = ℕ} (if reads && crosses then 1 else 0) 0
no_index false crosses h = refl
no_index true crosses h = absurd (cc)

-- nothing comes on top of its base
pub no_extra : (byte : Option (Mnemonic × Mode)) → is_fixed byte ≡ true → (r : Regs) (read : Reader) → extra_by byte r read ≡ 0
unfolding is_fixed
no_extra None h r read = refl
no_extra (Some (mnemonic, Implied)) h r read = refl
no_extra (Some (mnemonic, Accumulator)) h r read = refl
no_extra (Some (mnemonic, Immediate)) h r read = refl
no_extra (Some (mnemonic, ZeroPage)) h r read = refl
no_extra (Some (mnemonic, ZeroPageX)) h r read = refl
no_extra (Some (mnemonic, ZeroPageY)) h r read = refl
no_extra (Some (mnemonic, IndirectX)) h r read = refl
no_extra (Some (mnemonic, IndirectY)) h r read = no_index (reads_indexed mnemonic) (crosses_page r read) h
no_extra (Some (mnemonic, Relative)) h r read = absurd (cc)
no_extra (Some (mnemonic, Absolute)) h r read = refl
no_extra (Some (mnemonic, AbsoluteX)) h r read = no_index (reads_indexed mnemonic) (crosses_page r read) h
no_extra (Some (mnemonic, AbsoluteY)) h r read = no_index (reads_indexed mnemonic) (crosses_page r read) h
no_extra (Some (mnemonic, Indirect)) h r read = refl
