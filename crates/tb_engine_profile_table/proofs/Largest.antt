-- The largest of some numbers.
use Rattle.std.proofs.Common.{◌≡◌, ℕ, ◌+◌, ◌<◌, List, [], ◌∷◌, ◌++◌, length, map, take, get_or, sym, ap, ◌∙◌, arith}
use Rattle.std.specs.Prelude.{max}
use Rattle.std.proofs.lemmas.List.{map-append, take_more}
use Rattle.tb_engine_profile_table.specs.Lines.{line_pair}
use Rattle.tb_engine_profile_table.specs.Page.{largest}
use Rattle.tb_engine_profile_table.specs.declared.lines.Line.{Line}
use Rattle.tb_engine_profile_table.specs.declared.rows.Row.{Row}

max_of_three : (a b c : ℕ) → max (max a b) c ≡ max a (max b c)
max_of_three a b c = omega arith

-- with one more number at the end
largest_more : (ns : List ℕ) (n : ℕ) → max (largest ns) n ≡ largest (ns ++ n ∷ [])
largest_more [] n = omega arith
largest_more (m ∷ ns) n = max_of_three m (largest ns) n ∙ ap (max m) (largest_more ns n)

-- the cycles of lines
abbrev pub cycles_in : List Line → List ℕ
cycles_in lines = map (λ (x : Row × List ℕ). x.0.cycles) (map line_pair lines)

more_cycles : (lines : List Line) (line : Line) → cycles_in (lines ++ line ∷ []) ≡ cycles_in lines ++ line.row.cycles ∷ []
more_cycles lines line =
    ap (map (λ (x : Row × List ℕ). x.0.cycles)) (map-append line_pair lines (line ∷ [])) ∙ map-append (λ (x : Row × List ℕ). x.0.cycles) (map line_pair lines) (line_pair line ∷ [])

-- the most cycles of a row, with one more line
pub largest_line : (start m r : ℕ) (lines : List Line) (i : ℕ) (d : Line) → i < length lines → m ≡ largest (start ∷ cycles_in (take i lines))
    → r ≡ max m (get_or lines i d).row.cycles → r ≡ largest (start ∷ cycles_in (take (i + 1) lines))
largest_line start m r lines i d within before is =
    is ∙ ap (λ k. max k (get_or lines i d).row.cycles) before ∙ largest_more (start ∷ cycles_in (take i lines)) (get_or lines i d).row.cycles
    ∙ ap (λ ns. largest (start ∷ ns)) (sym (more_cycles (take i lines) (get_or lines i d)))
    ∙ ap (λ ls. largest (start ∷ cycles_in ls)) (sym (take_more lines i d within))
