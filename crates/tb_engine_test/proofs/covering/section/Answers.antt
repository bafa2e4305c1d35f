-- The goal of `section` in src/covering.rt: what stands between the fixed texts is made of what is given.
use Rattle.std.proofs.Common.{rules, ◌≡◌, string_bytes, length}
use Rattle.std.specs.Prelude.{flat_map}
use Rattle.tb_engine_profile_table.specs.Cells.{escaped}
use Rattle.tb_engine_test.specs.Covering.{covered_of, share_text, source_rows}
use Rattle.tb_engine_test.specs.Reaching.{reached_in}
use Rattle.tb_engine_test.proofs.covering.section.Goals as goal

pub returns : goal.returns
returns c =
    let name : c.as_slice.result.now ≡ flat_map escaped (string_bytes c.args.of.now.name) = search rules in
    let share : c.as_bytes-2.result.now ≡ share_text (reached_in c.args.of.now.lines.items) (length c.args.of.now.lines.items) = search rules in
    let rows : c.as_slice-2.result.now ≡ source_rows (covered_of c.args.of.now) = search rules in
    rw name at (rw share at (rw rows at c.joined.ensures))
