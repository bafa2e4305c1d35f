-- The goals of `chart` in src/map.rt.
use Rattle.std.proofs.Common.{◌≡◌, [], ◌∷◌, ◌++◌, ◌+◌, ◌-◌, length, ap, ◌∙◌}
use Rattle.std.specs.Prelude.{codes}
use Rattle.tb_basic_syntax.specs.PlainData.{lines_of}
use Rattle.tb_runtime16.specs.Addresses.{PROLOGUE_AT}
use Rattle.tb_compiled.specs.Compiled.{prg_of, starts_of, table_of, most_cost}
use Rattle.tb_basic_meaning.specs.Cost.{cost}
use Rattle.tb_engine_listing.specs.Map.{row_text, rows_text, parts, sum_part, left_part}
use Rattle.tb_engine_listing.proofs.Parts.{parts_text}
use Rattle.tb_engine_listing.proofs.map.chart.Goals as goal

pub returns : goal.returns
returns c =
    let ss = starts_of c.args.compiled.now in let tb = table_of c.args.compiled.now in let p = lines_of c.args.program.now in
    let n = length (prg_of c.args.compiled.now) - 14 in
    let size : c.saturating_sub-size.result ≡ n = c.saturating_sub-size.ensures ∙ ap (λ f. length f - 14) c.prg.ensures in
    let t1 = c.in_ok-text.text.items in let t2 = c.push_parts.new.text.items in let t3 = c.push_row.new.text.items in let t4 = c.push_row-2.new.text.items in
    let h = codes "part        addr   bytes    cost" ++ 10 ∷ [] in
    let r = rows_text (parts ss tb n p) in let s = row_text (sum_part n p) in let l = row_text (left_part n p) in
    let one : t1 ≡ h = c.in_ok-text.ensures.items in
    let two : t2 ≡ t1 ++ r = c.in_ok-cost.ensures.rows ∙ ap (λ x. t1 ++ x) (parts_text ss tb c.saturating_sub-size.result p) ∙ ap (λ m. t1 ++ rows_text (parts ss tb m p)) size in
    let three : t3 ≡ t2 ++ s = c.in_ok-push_row.ensures ∙ (λ i. t2 ++ row_text (record { name = codes "sum"; at = PROLOGUE_AT; bytes = size i; price = c.in_ok-cost.ensures.sum i })) in
    let budget : c.saturating_sub-budget.result ≡ most_cost - cost p = c.saturating_sub-budget.ensures ∙ ap (λ k. most_cost - k) c.in_ok-cost.ensures.sum in
    let four : t4 ≡ t3 ++ l =
    c.in_ok-push_row-2.ensures ∙ (λ i. t3 ++ row_text (record {
      name = codes "left";
      at = c.from.ensures i + size i;
      bytes = 0xA000 - (c.from.ensures i + size i);
      price = budget i;
    })) in
    four ∙ ap (λ x. x ++ l) (three ∙ ap (λ x. x ++ s) (two ∙ ap (λ x. x ++ r) one))
