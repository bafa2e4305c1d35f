-- The goals of `push_parts` in src/map.rt.
use Rattle.std.proofs.Common.{◌≡◌, ◌++◌, ap, ◌∙◌}
use Rattle.std.specs.Prelude.{codes}
use Rattle.tb_basic_syntax.specs.PlainData.{lines_of}
use Rattle.tb_runtime16.specs.Addresses.{PROLOGUE_AT}
use Rattle.tb_compiled.specs.Compiled.{starts_of, table_of}
use Rattle.tb_engine_listing.specs.Map.{row_text, rows_text, line_parts, block_part, table_part}
use Rattle.tb_engine_listing.proofs.Appending.{before}
use Rattle.tb_engine_listing.proofs.map.push_parts.Goals as goal

pub returns-clause-rows : goal.returns-clause-rows
returns-clause-rows c =
    let ss = starts_of c.args.compiled.now in let tb = table_of c.args.compiled.now in let p = lines_of c.args.program.now in
    let t0 = c.args.text.now.items in let t1 = c.push_row.new.text.items in let t2 = c.push_lines.new.text.items in let t3 = c.push_row-2.new.text.items in
    let b = row_text (block_part ss tb) in let l = rows_text (line_parts ss tb p) in let t = row_text (table_part tb c.args.size) in
    let one : t1 ≡ t0 ++ b = c.in_ok-push_row.ensures ∙ ap (λ n. t0 ++ row_text (record { name = codes "block"; at = PROLOGUE_AT; bytes = n; price = 64 })) c.block_size.ensures in
    let two : t2 ≡ t1 ++ l = c.in_ok-cost.ensures.1 ∙ (λ i. t1 ++ rows_text (line_parts (c.starts-starts.ensures i) (c.table-table.ensures i) p)) in
    let three : t3 ≡ t2 ++ t =
    c.in_ok-push_row-2.ensures ∙ (λ i. t2 ++ row_text (record {
      name = codes "line_table";
      at = c.table-table.result;
      bytes = c.table_size-rest.ensures i;
      price = 0;
    })) ∙ ap (λ n. t2 ++ row_text (table_part n c.args.size)) c.table-table.ensures in
    before t0 t1 t3 b (l ++ t) one (before t1 t2 t3 l t two three)
