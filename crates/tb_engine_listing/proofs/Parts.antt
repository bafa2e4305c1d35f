-- The text of a program's parts.
use Rattle.std.proofs.Common.{◌≡◌, ℕ, List, [], ◌∷◌, ◌++◌, ap, sym, ◌∙◌, append-nil}
use Rattle.std.proofs.lemmas.Grind.{flat_map-append}
use Rattle.tb_basic_syntax.specs.Source.{Program}
use Rattle.tb_engine_listing.specs.Map.{row_text, rows_text, line_parts, block_part, table_part, parts}

-- the rows of the block, the lines and the line table are the rows of the parts
pub parts_text : (starts : List (ℕ × ℕ)) (table size : ℕ) (p : Program) → row_text (block_part starts table) ++ (rows_text (line_parts starts table p)
    ++ row_text (table_part table size)) ≡ rows_text (parts starts table size p)
parts_text starts table size p =
    let lines = line_parts starts table p in
    ap (λ t. row_text (block_part starts table) ++ t)
    (ap (λ t. rows_text lines ++ t) (sym (append-nil (row_text (table_part table size)))) ∙ sym (flat_map-append row_text lines (table_part table size ∷ [])))
