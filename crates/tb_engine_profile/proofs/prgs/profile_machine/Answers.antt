-- The goals of `profile_machine` in src/prgs.rt.
use Rattle.std.proofs.Common.{List, ℕ, ap, ◌∙◌}
use Rattle.tb_memmap.specs.Bytes.{at}
use Rattle.tb_cpu.specs.declared.registers.Regs.{Regs}
use Rattle.tb_engines.specs.Programs.{end_of}
use Rattle.tb_engine_profile_table.specs.Addresses.{addresses_table}
use Rattle.tb_engine_profile.proofs.prgs.profile_machine.Goals as goal

pub returns : goal.returns
returns g c =
    let table = c.in_ok-table.table in
    record {
      outside = c.profile_addresses.new.outside;
      machine = c.profile_addresses.new.machine;
      table = table;
      tabled = c.in_ok-table.ensures.0;
      adds_up = c.in_ok-table.ensures.1;
      text = c.in_ok-addresses_text.ensures ∙ ap (λ (m : List ℕ). addresses_table (at m) table) c.memory.ensures;
      end = c.end_of.ensures ∙ ap (λ (r : Regs). end_of table.status r.pc) c.regs.ensures;
    }
