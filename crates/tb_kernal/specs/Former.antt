-- What an undo holds.
use Rattle.std.specs.Prelude.{ℕ, Option}
use Rattle.tb_memmap.specs.Bytes.{Writes}
use Rattle.tb_cpu.specs.declared.registers.Regs.{Regs}
use Rattle.tb_cpu.specs.declared.wrong.Wrong.{Wrong}

-- what an event may change, as it was before
pub record Former : Type 0 where
  pub regs : Regs
  pub wrong : Option Wrong
  -- how many keys were taken, and how many bytes sent
  pub text_taken : ℕ
  pub answers_taken : ℕ
  pub sent : ℕ
  -- addresses that the event may write, with their bytes
  pub bytes : Writes
