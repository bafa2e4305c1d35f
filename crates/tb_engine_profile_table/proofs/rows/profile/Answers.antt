-- The goals of `profile` in src/rows.rt.
use Rattle.std.proofs.Common.{◌<◌, ℕ, List, Ok, slice_index, subst}
use Rattle.tb_machine_profile.specs.Profiles.{Profiled}
use Rattle.tb_engine_profile_table.proofs.Tabling.{profiles}
use Rattle.tb_engine_profile_table.proofs.rows.profile.Goals as goal

pub returns : goal.returns
returns g c =
    let gives = g.O.Outside.gives in
    let profile = c.in_ok-profile.profile in
    profiles gives c.args.outside.now c.args.machine.now c.args.starts.now c.args.limit c.run_counted.new.outside c.run_counted.new.machine
    c.in_ok-addresses.addresses.items c.table_of.result profile c.in_ok-addresses.ensures
    (subst (λ (ps : List ℕ). (k : ℕ) → slice_index ps k < 65536) c.deref.ensures.value c.are_addresses.ensures)
    (subst (λ (ps : List ℕ). Profiled gives c.args.outside.now c.args.machine.now ps c.args.limit (Ok profile) c.run_counted.new.outside
    c.run_counted.new.machine) c.deref-2.ensures.value c.in_ok-profile.ensures)
    c.table_of.ensures
