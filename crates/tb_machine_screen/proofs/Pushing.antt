-- The text of cells and rows, one after the other.
use Rattle.std.proofs.Common.{◌≡◌, ℕ, ◌+◌, ◌<◌, ◌≤◌, List, ◌++◌, length, drop, get_or, sym, ◌∙◌, ap}
use Rattle.std.proofs.lemmas.List.{append-nil, drop_all, drop_more}
use Rattle.tb_machine_screen.specs.declared.cells.Cell.{Cell}
use Rattle.tb_machine_screen.specs.declared.colours.CharacterSet.{CharacterSet}
use Rattle.tb_machine_screen.specs.declared.strokes.Pen.{Pen}
use Rattle.tb_machine_screen.specs.Looks.{pen_of}
use Rattle.tb_machine_screen.specs.Strokes.{spelled_all}
use Rattle.tb_machine_screen.specs.Frames.{one_cell, cell_strokes, row_strokes}
use Rattle.tb_machine_screen.proofs.Spelling.{spelled_more}

-- one more cell
pub cells_more : (text text' whole : List ℕ) (set : CharacterSet) (used used' : Pen) (cells : List Cell) (n : ℕ) (none : Cell) → n < length cells →
    text' ≡ text ++ spelled_all (one_cell set used (get_or cells n none)) → used' ≡ pen_of (get_or cells n none) →
    text ++ spelled_all (cell_strokes set used (drop n cells)) ≡ whole →
    text' ++ spelled_all (cell_strokes set used' (drop (n + 1) cells)) ≡ whole
unfolding cell_strokes
cells_more text text' whole set used used' cells n none lt new pen before =
    let cell = get_or cells n none in
    ap (λ (l : List ℕ). l ++ spelled_all (cell_strokes set used' (drop (n + 1) cells))) new
    ∙ ap (λ (p : Pen). (text ++ spelled_all (one_cell set used cell)) ++ spelled_all (cell_strokes set p (drop (n + 1) cells))) pen
    ∙ spelled_more text (one_cell set used cell) (cell_strokes set (pen_of cell) (drop (n + 1) cells))
    ∙ ap (λ (l : List Cell). text ++ spelled_all (cell_strokes set used l)) (sym (drop_more cells n none lt))
    ∙ before

-- no cell is left
pub cells_done : (text whole : List ℕ) (set : CharacterSet) (used : Pen) (cells : List Cell) (n : ℕ) → length cells ≤ n →
    text ++ spelled_all (cell_strokes set used (drop n cells)) ≡ whole → text ≡ whole
unfolding cell_strokes spelled_all
cells_done text whole set used cells n le before =
    sym (append-nil text)
    ∙ ap (λ (l : List Cell). text ++ spelled_all (cell_strokes set used l)) (sym (drop_all n cells le)) ∙ before

-- no row yet
pub rows_none : (text : List ℕ) (set : CharacterSet) (cells : List Cell) → text ≡ text ++ spelled_all (row_strokes 0 set cells)
unfolding row_strokes spelled_all
rows_none text set cells = sym (append-nil text)
