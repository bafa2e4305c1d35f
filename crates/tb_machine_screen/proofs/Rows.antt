-- What a terminal shows after the strokes of rows, and after a frame.
use Rattle.std.proofs.Common.{◌≡◌, ℕ, zero, suc, ◌+◌, ◌*◌, ◌<◌, ◌≤◌, ◌⊎◌, Some, None, List, [], ◌∷◌, ◌++◌, length, drop, get_or, refl, sym, subst, ◌∙◌, ap, arith, zero-add, inl, inr, length-take, length-drop}
use Rattle.std.proofs.lemmas.List.{get_or-take, get_or-drop}
use Rattle.std.proofs.lemmas.Bool.{cases_eq}
use Rattle.tb_machine_screen.specs.Cells.{blank}
use Rattle.tb_machine_screen.specs.Contents.{Content}
use Rattle.tb_machine_screen.specs.declared.cells.Cell.{Cell}
use Rattle.tb_machine_screen.specs.declared.strokes.Stroke.TheVariants.{Plain, Clear, MoveTo, Paint}
use Rattle.tb_machine_screen.specs.Looks.{pen_for}
use Rattle.tb_machine_screen.specs.Terminals.{Look, Terminal, space, does, after}
use Rattle.tb_machine_screen.specs.Frames.{Shows, look_of, cell_at, first_pen, one_row, cells_in, row_strokes, frame_strokes}
use Rattle.tb_machine_screen.proofs.Drawing.{after-append, drawn, DrawsAll, draws_all, drawn_keeps, drawn_shows}

-- what stands where after the first rows
unfoldable rows_drawn : ℕ → Content → (ℕ → ℕ → Look) → ℕ → ℕ → Look
rows_drawn zero s f = f
rows_drawn (suc n) s f = drawn s.set (cells_in n s.cells) n 0 (rows_drawn n s f)

record DrawsRows (t u : Terminal) (n : ℕ) (s : Content) : Type 0 where
  width : u.width ≡ t.width
  shown : u.cells ≡ rows_drawn n s t.cells

few : (n : ℕ) (cells : List Cell) → length (cells_in n cells) ≤ 40
few n cells = simp length-take (omega arith)

draws_row : (n : ℕ) (s : Content) (t : Terminal) → 40 ≤ t.width →
    DrawsAll (record t { row = n; column = 0; pen = Some first_pen }) (after (one_row n s.set (cells_in n s.cells)) t) s.set (cells_in n s.cells)
unfolding after does
draws_row n s t wide =
    draws_all s.set first_pen (cells_in n s.cells) (record t { row = n; column = 0; pen = Some first_pen }) refl
    (omega (arith, wide, few n s.cells))

draws_rows : (n : ℕ) (s : Content) (t : Terminal) → 40 ≤ t.width → DrawsRows t (after (row_strokes n s.set s.cells) t) n s
unfolding row_strokes rows_drawn after
draws_rows zero s t wide = record { width = refl; shown = refl }
draws_rows (suc n) s t wide =
    let u = after (row_strokes n s.set s.cells) t in
    let above = draws_rows n s t wide in
    let row = draws_row n s u (rw above.width wide) in
    subst (λ (w : Terminal). DrawsRows t w (suc n) s)
    (sym (after-append (row_strokes n s.set s.cells) (one_row n s.set (cells_in n s.cells)) t))
    (record {
      width = row.width ∙ above.width;
      shown = row.shown ∙ ap (λ (f : ℕ → ℕ → Look). drawn s.set (cells_in n s.cells) n 0 f) above.shown;
    })

-- the cell in a row and a column, among those of the row
cell_in : (s : Content) (n c : ℕ) (d : Cell) → c < 40 → get_or (cells_in n s.cells) c d ≡ get_or s.cells (n * 40 + c) d
cell_in s n c d lt = get_or-take 40 (drop (n * 40) s.cells) c d lt ∙ get_or-drop (n * 40) s.cells c d

all_there : (s : Content) (n : ℕ) → length s.cells ≡ 1000 → n < 25 → length (cells_in n s.cells) ≡ 40
all_there s n all lt = simp (length-take, length-drop) (omega (arith, all, lt))

rows_show : (n : ℕ) (s : Content) (f : ℕ → ℕ → Look) → length s.cells ≡ 1000 → n ≤ 25 → (r c : ℕ) → r < n → c < 40 →
    rows_drawn n s f r c ≡ look_of s.set (cell_at s r c)
unfolding rows_drawn
rows_show zero s f all le r c below lt = absurd (omega (arith, below))
rows_show (suc n) s f all le r c below lt =
    elim (cases_eq r n) [
      | inl is ↦
          rw is
          (ap (λ (k : ℕ). drawn s.set (cells_in n s.cells) n 0 (rows_drawn n s f) n k) (sym (zero-add c))
          ∙ drawn_shows s.set (cells_in n s.cells) n 0 (rows_drawn n s f) c (blank s.colour) (omega (arith, all_there s n all (omega arith), lt))
          ∙ ap (λ cell. look_of s.set cell) (cell_in s n c (blank s.colour) lt))
      | inr other ↦
          drawn_keeps s.set (cells_in n s.cells) n 0 (rows_drawn n s f) r c (λ e le. absurd (other e))
          ∙ rows_show n s f all (omega arith) r c (omega (arith, other, below)) lt
    ]

rows_keep : (n : ℕ) (s : Content) (f : ℕ → ℕ → Look) (r c : ℕ) → (n ≤ r) ⊎ (40 ≤ c) → rows_drawn n s f r c ≡ f r c
unfolding rows_drawn
rows_keep zero s f r c out = refl
rows_keep (suc n) s f r c (inl low) =
    drawn_keeps s.set (cells_in n s.cells) n 0 (rows_drawn n s f) r c (λ e le. absurd (omega (arith, low, e)))
    ∙ rows_keep n s f r c (inl (omega (arith, low)))
rows_keep (suc n) s f r c (inr right) =
    drawn_keeps s.set (cells_in n s.cells) n 0 (rows_drawn n s f) r c (λ e le. omega (arith, right, few n s.cells))
    ∙ rows_keep n s f r c (inr right)

-- the law of frames
pub frame_shows : (s : Content) (t : Terminal) → length s.cells ≡ 1000 → 40 ≤ t.width → Shows s (after (frame_strokes s) t)
unfolding frame_strokes after does
frame_shows s t all wide =
    let cleared : Terminal = record t { pen = None; cells = λ row column. space None } in
    let rows = draws_rows 25 s cleared wide in
    let shown = after (row_strokes 25 s.set s.cells) cleared in
    let last = MoveTo s.row s.column ∷ Paint (pen_for s.colour s.reverse) ∷ [] in
    let whole : after (frame_strokes s) t ≡ after last shown =
    after-append ((Plain ∷ Clear ∷ []) ++ row_strokes 25 s.set s.cells) last t
    ∙ ap (λ (w : Terminal). after last w) (after-append (Plain ∷ Clear ∷ []) (row_strokes 25 s.set s.cells) t) in
    subst (λ (w : Terminal). Shows s w) (sym whole)
    (record {
      cells = λ row column below left.
          ap (λ (f : ℕ → ℕ → Look). f row column) rows.shown
          ∙ rows_show 25 s cleared.cells all (omega arith) row column below left;
      besides = λ row column out.
          ap (λ (f : ℕ → ℕ → Look). f row column) rows.shown ∙ rows_keep 25 s cleared.cells row column out;
      row = refl;
      column = refl;
      pen = refl;
    })
