-- The bytes and costs of a program's parts add up.
use Rattle.std.proofs.Common.{◌≡◌, ℕ, ◌+◌, ◌-◌, ◌≤◌, List, [], ◌∷◌, ◌++◌, drop, map, length, get_or, ap, sym, ◌∙◌, arith, sum_by}
use Rattle.std.proofs.lemmas.List.Sums.{sum_by-append, sum_by-cons}
use Rattle.tb_basic_syntax.specs.Source.{Program, numbers}
use Rattle.tb_basic_meaning.specs.Cost.{statement_cost, cost}
use Rattle.tb_runtime16.specs.Addresses.{PROLOGUE_AT}
use Rattle.tb_compiled_kept.specs.Addresses.{LINES_AT}
use Rattle.tb_compiled.specs.Compiled.{AddressesRise}
use Rattle.tb_compiled.specs.Texts.{end_before}
use Rattle.tb_compiled.specs.Parts.{first_part}
use Rattle.tb_engine_listing.specs.Map.{line_parts, block_part, table_part, parts}
use Rattle.tb_engine_listing.proofs.Laid.{AreLaid}

-- the next line, or the line table, comes after
ends_behind : (low table : ℕ) (starts : List (ℕ × ℕ)) → AddressesRise low (starts ++ (0, table) ∷ []) → low ≤ end_before table starts
ends_behind low table [] h = h.0
ends_behind low table (s ∷ starts) h = h.0

lines_bytes : (low table : ℕ) (starts : List (ℕ × ℕ)) (p : Program) → AddressesRise low (starts ++ (0, table) ∷ []) → map (λ s. s.0) starts ≡ numbers p
    → sum_by (λ q. q.bytes) (line_parts starts table p) + end_before table starts ≡ table
lines_bytes low table [] [] h e = omega arith
lines_bytes low table [] (line ∷ lines) h e = absurd (let l = ap length e in omega (arith, l))
lines_bytes low table (s ∷ starts) [] h e = absurd (let l = ap length e in omega (arith, l))
lines_bytes low table (s ∷ starts) (line ∷ lines) h e =
    let more = lines_bytes (s.1 + 1) table starts lines h.1 (ap (drop 1) e) in
    let behind = ends_behind (s.1 + 1) table starts h.1 in
    let whole : sum_by (λ q. q.bytes) (line_parts (s ∷ starts) table (line ∷ lines)) ≡ end_before table starts - s.1 + sum_by (λ q. q.bytes) (line_parts starts table lines) =
    sum_by-cons (λ q. q.bytes) (get_or (first_part (s ∷ starts) table line.number (36 + statement_cost line.content)) 0 (table_part table 0)) (line_parts starts table lines) in
    omega (arith, more, behind, whole)

lines_prices : (table : ℕ) (starts : List (ℕ × ℕ)) (p : Program) → map (λ s. s.0) starts ≡ numbers p
    → sum_by (λ q. q.price) (line_parts starts table p) ≡ sum_by (λ line. 36 + statement_cost line.content) p
lines_prices table [] [] e = omega arith
lines_prices table [] (line ∷ lines) e = absurd (let l = ap length e in omega (arith, l))
lines_prices table (s ∷ starts) [] e = absurd (let l = ap length e in omega (arith, l))
lines_prices table (s ∷ starts) (line ∷ lines) e =
    sum_by-cons (λ q. q.price) (get_or (first_part (s ∷ starts) table line.number (36 + statement_cost line.content)) 0 (table_part table 0)) (line_parts starts table lines)
    ∙ ap (λ n. 36 + statement_cost line.content + n) (lines_prices table starts lines (ap (drop 1) e)) ∙ sym (sum_by-cons (λ l. 36 + statement_cost l.content) line lines)

-- the bytes of the parts add up to the image's
pub bytes_add_up : (starts : List (ℕ × ℕ)) (table bytes : ℕ) (p : Program) → AreLaid starts table bytes → map (λ s. s.0) starts ≡ numbers p
    → sum_by (λ q. q.bytes) (parts starts table bytes p) ≡ bytes
bytes_add_up starts table bytes p h e =
    let lines = lines_bytes LINES_AT table starts p h.rising e in
    let first = ends_behind LINES_AT table starts h.rising in
    let both = sum_by-append (λ q. q.bytes) (line_parts starts table p) (table_part table bytes ∷ []) in
    let within = h.within in
    let whole : sum_by (λ q. q.bytes) (parts starts table bytes p) ≡ end_before table starts - PROLOGUE_AT + sum_by (λ q. q.bytes) (line_parts starts table p ++ table_part table bytes ∷ []) =
    sum_by-cons (λ q. q.bytes) (block_part starts table) (line_parts starts table p ++ table_part table bytes ∷ []) in
    let last : sum_by (λ q. q.bytes) (table_part table bytes ∷ []) ≡ PROLOGUE_AT + bytes - table + 0 = sum_by-cons (λ q. q.bytes) (table_part table bytes) [] in
    omega (arith, lines, first, both, within, whole, last)

-- the costs of the parts add up to the program's
pub prices_add_up : (starts : List (ℕ × ℕ)) (table bytes : ℕ) (p : Program) → map (λ s. s.0) starts ≡ numbers p → sum_by (λ q. q.price) (parts starts table bytes p) ≡ cost p
prices_add_up starts table bytes p e =
    let lines = lines_prices table starts p e in
    let both = sum_by-append (λ q. q.price) (line_parts starts table p) (table_part table bytes ∷ []) in
    let last : sum_by (λ q. q.price) (table_part table bytes ∷ []) ≡ 0 + 0 = sum_by-cons (λ q. q.price) (table_part table bytes) [] in
    let whole : sum_by (λ q. q.price) (parts starts table bytes p) ≡ 64 + sum_by (λ q. q.price) (line_parts starts table p ++ table_part table bytes ∷ []) =
    sum_by-cons (λ q. q.price) (block_part starts table) (line_parts starts table p ++ table_part table bytes ∷ []) in
    whole ∙ ap (λ n. 64 + n) (let e : sum_by (λ q. q.price) (line_parts starts table p ++ table_part table bytes ∷ [])
    ≡ sum_by (λ line. 36 + statement_cost line.content) p = omega (arith, lines, both, last) in e)
