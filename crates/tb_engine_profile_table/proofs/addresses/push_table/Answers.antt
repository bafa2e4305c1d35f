-- The goals of `push_table` in src/addresses.rt.
use Rattle.std.proofs.Common.{◌≡◌, ◌++◌, List, ap, ◌∙◌}
use Rattle.std.specs.Prelude.{codes, flat_map}
use Rattle.tb_memmap.specs.Bytes.{at}
use Rattle.tb_engine_profile_table.specs.declared.rows.Row.{Row}
use Rattle.tb_engine_profile_table.specs.Addresses.{address_row, addresses_table, whole_row}
use Rattle.tb_engine_profile_table.proofs.Appending.{four}
use Rattle.tb_engine_profile_table.proofs.addresses.push_table.Goals as goal

pub returns : goal.returns
unfolding addresses_table
returns c =
    let table = c.args.table.now in
    let row = address_row (at c.args.memory.now) table.whole.cycles in
    let head = codes " addr      times        cycles   share  instruction\n" in
    let t2 = c.push_row.new.text.items in
    let rows : c.push_rows.new.text.items ≡ t2 ++ flat_map row table.rows.items =
    c.in_ok-push_rows.ensures ∙ ap (λ (rs : List Row). t2 ++ flat_map row rs) c.deref.ensures.value in
    four c.push_whole.result c.args.text.now.items c.extend_from_slice.new.self.items t2 c.push_rows.new.text.items c.push_whole.new.text.items
    head (row table.whole.start) (flat_map row table.rows.items) (whole_row table.whole)
    c.in_ok-extend_from_slice.ensures.items c.in_ok-push_row.ensures rows c.push_whole.ensures
