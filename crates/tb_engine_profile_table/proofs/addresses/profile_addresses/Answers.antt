-- The goals of `profile_addresses` in src/addresses.rt.
use Rattle.std.proofs.Common.{List, map, subst}
use Rattle.tb_engine_profile_table.specs.declared.rows.Start.{Start}
use Rattle.tb_engine_profile_table.specs.Rows.{Profiles, start_pair}
use Rattle.tb_engine_profile_table.proofs.Addressing.{addresses_profiled}
use Rattle.tb_engine_profile_table.proofs.addresses.profile_addresses.Goals as goal

pub returns : goal.returns
returns g c =
    let gives = g.O.Outside.gives in
    let o = c.args.outside.now in
    let m = c.args.machine.now in
    addresses_profiled gives o m (map start_pair c.in_ok-starts.starts.items) c.args.limit c.profile.result c.profile.new.outside c.profile.new.machine
    c.in_ok-starts.ensures
    (subst (λ (ss : List Start). Profiles gives o m (map start_pair ss) c.args.limit c.profile.result c.profile.new.outside c.profile.new.machine)
    c.deref.ensures.value c.profile.ensures)
