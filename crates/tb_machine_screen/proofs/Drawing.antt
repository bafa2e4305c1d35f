-- What a terminal shows after the strokes of cells in a row.
use Rattle.std.proofs.Common.{◌≡◌, ℕ, zero, suc, ◌+◌, ◌<◌, ◌≤◌, Bool, true, false, ◌&&◌, cond, Option, Some, List, [], ◌∷◌, ◌++◌, length, get_or, eqb, refl, sym, subst, ◌∙◌, ap, arith, add-zero, eq-eqb}
use Rattle.std.specs.Bool.{beq}
use Rattle.std.proofs.lemmas.Bool.{eqb-true, and_parts, and_from}
use Rattle.std.proofs.lemmas.Bool.Decides.{nat_tests}
use Rattle.tb_machine_screen.specs.declared.cells.Cell.{Cell}
use Rattle.tb_machine_screen.specs.declared.colours.CharacterSet.{CharacterSet}
use Rattle.tb_machine_screen.specs.declared.strokes.Pen.{Pen}
use Rattle.tb_machine_screen.specs.declared.strokes.Stroke.{Stroke}
use Rattle.tb_machine_screen.specs.declared.strokes.Stroke.TheVariants.{Paint, Put}
use Rattle.tb_machine_screen.specs.Looks.{glyph_of, pen_of}
use Rattle.tb_machine_screen.specs.Terminals.{Look, Terminal, wrapped, put, does, after}
use Rattle.tb_machine_screen.specs.Frames.{look_of, same_pen, taken_up, one_cell, cell_strokes}

-- strokes one after the other
pub after-append : (xs ys : List Stroke) (t : Terminal) → after (xs ++ ys) t ≡ after ys (after xs t)
unfolding after
after-append [] ys t = refl
after-append (x ∷ xs) ys t = after-append xs ys (does x t)

same_bool : (a b : Bool) → beq a b ≡ true → a ≡ b
same_bool true true h = refl
same_bool true false h = absurd (cc)
same_bool false true h = absurd (cc)
same_bool false false h = refl

abbrev pen_with : ℕ → Bool → Pen
pen_with fore reverse = record { fore = fore; reverse = reverse }

-- the test of pens tells
same : (p q : Pen) → same_pen p q ≡ true → p ≡ q
same p q h =
    let (f, r) = and_parts (eqb p.fore q.fore) (beq p.reverse q.reverse) h in
    let fore : p.fore ≡ q.fore = eqb-true p.fore q.fore f in
    let reverse : p.reverse ≡ q.reverse = same_bool p.reverse q.reverse r in
    ap (λ (x : ℕ). pen_with x p.reverse) fore ∙ ap (λ (x : Bool). pen_with q.fore x) reverse

-- what stays where a pen is taken up, and the pen after it
pub record TakesUp (t u : Terminal) (pen : Pen) : Type 0 where
  pub pen_is : u.pen ≡ Some pen
  pub row : u.row ≡ t.row
  pub column : u.column ≡ t.column
  pub width : u.width ≡ t.width
  pub cells : u.cells ≡ t.cells

takes_up_if : (b : Bool) (used pen : Pen) (t : Terminal) → same_pen used pen ≡ b → t.pen ≡ Some used →
    TakesUp t (after (cond b [] (Paint pen ∷ [])) t) pen
unfolding after does
takes_up_if true used pen t e is =
    record { pen_is = is ∙ ap (λ (p : Pen). Some p) (same used pen e); row = refl; column = refl; width = refl; cells = refl }
takes_up_if false used pen t e is =
    record { pen_is = refl; row = refl; column = refl; width = refl; cells = refl }

takes_up : (used pen : Pen) (t : Terminal) → t.pen ≡ Some used → TakesUp t (after (taken_up used pen) t) pen
unfolding taken_up
takes_up used pen t is = takes_up_if (same_pen used pen) used pen t refl is

-- one cell's look at a place
abbrev pub at_place : ℕ → ℕ → Look → (ℕ → ℕ → Look) → ℕ → ℕ → Look
at_place row column look f = λ r c. cond (eqb r row && eqb c column) look (f r c)

other_if : (b : Bool) (row column : ℕ) (look other : Look) (r c : ℕ) → (eqb r row && eqb c column) ≡ b → (r ≡ row → c ≡ column → ⊥) →
    cond b look other ≡ other
other_if true row column look other r c e differ =
    let (p, q) = and_parts (eqb r row) (eqb c column) e in
    absurd (differ (eqb-true r row p) (eqb-true c column q))
other_if false row column look other r c e differ = refl

pub at_other : (row column : ℕ) (look : Look) (f : ℕ → ℕ → Look) (r c : ℕ) → (r ≡ row → c ≡ column → ⊥) → at_place row column look f r c ≡ f r c
at_other row column look f r c differ = other_if (eqb r row && eqb c column) row column look (f r c) r c refl differ

pub at_itself : (row column : ℕ) (look : Look) (f : ℕ → ℕ → Look) (c : ℕ) → c ≡ column → at_place row column look f row c ≡ look
at_itself row column look f c is =
    let e : (eqb row row && eqb c column) ≡ true = and_from (eqb row row) (eqb c column) (eq-eqb row row refl) (eq-eqb c column is) in
    ap (λ (b : Bool). cond b look (f row c)) e

abbrev look_with : ℕ → Option Pen → Look
look_with character pen = record { character = character; pen = pen }

-- what a cell changes
pub record Draws (t u : Terminal) (set : CharacterSet) (cell : Cell) : Type 0 where
  pub pen_is : u.pen ≡ Some (pen_of cell)
  pub row : u.row ≡ t.row
  pub column : u.column ≡ t.column + 1
  pub width : u.width ≡ t.width
  pub cells : u.cells ≡ at_place t.row t.column (look_of set cell) t.cells

within : (v : Terminal) → eqb v.column v.width ≡ false → wrapped v ≡ v
unfolding wrapped
within v differ = ap (λ (b : Bool). cond b (record v { row = v.row + 1; column = 0 }) v) differ

not_equal : (a b : ℕ) → a < b → eqb a b ≡ false
not_equal a b lt = grind (arith, nat_tests)

-- a character that is put
puts : (set : CharacterSet) (cell : Cell) (t v : Terminal) → TakesUp t v (pen_of cell) →
    Draws t (put (glyph_of cell.code set) v) set cell
unfolding put
puts set cell t v up =
    record {
      pen_is = up.pen_is;
      row = up.row;
      column = ap (λ n. n + 1) up.column;
      width = up.width;
      cells =
          ap (λ (p : Option Pen). at_place v.row v.column (look_with (glyph_of cell.code set) p) v.cells) up.pen_is
          ∙ ap (λ (n : ℕ). at_place n v.column (look_of set cell) v.cells) up.row
          ∙ ap (λ (n : ℕ). at_place t.row n (look_of set cell) v.cells) up.column
          ∙ ap (λ (f : ℕ → ℕ → Look). at_place t.row t.column (look_of set cell) f) up.cells;
    }

put_stroke : (character : ℕ) (v : Terminal) → after (Put character ∷ []) v ≡ put character (wrapped v)
unfolding after does
put_stroke character v = refl

draws : (set : CharacterSet) (used : Pen) (cell : Cell) (t : Terminal) → t.pen ≡ Some used → t.column < t.width →
    Draws t (after (one_cell set used cell) t) set cell
draws set used cell t is lt =
    let v = after (taken_up used (pen_of cell)) t in
    let up : TakesUp t v (pen_of cell) = takes_up used (pen_of cell) t is in
    let differ : eqb v.column v.width ≡ false = not_equal v.column v.width (omega (arith, lt, up.column, up.width)) in
    let whole : after (one_cell set used cell) t ≡ put (glyph_of cell.code set) v =
    after-append (taken_up used (pen_of cell)) (Put (glyph_of cell.code set) ∷ []) t
    ∙ put_stroke (glyph_of cell.code set) v ∙ ap (λ (w : Terminal). put (glyph_of cell.code set) w) (within v differ) in
    subst (λ (w : Terminal). Draws t w set cell) (sym whole) (puts set cell t v up)

-- what stands where after cells in a row from a column on
unfoldable pub drawn : CharacterSet → List Cell → ℕ → ℕ → (ℕ → ℕ → Look) → ℕ → ℕ → Look
drawn set [] row column f = f
drawn set (cell ∷ cells) row column f = drawn set cells row (column + 1) (at_place row column (look_of set cell) f)

-- what the strokes of cells change
pub record DrawsAll (t u : Terminal) (set : CharacterSet) (cells : List Cell) : Type 0 where
  pub row : u.row ≡ t.row
  pub width : u.width ≡ t.width
  pub shown : u.cells ≡ drawn set cells t.row t.column t.cells

pub draws_all : (set : CharacterSet) (used : Pen) (cells : List Cell) (t : Terminal) → t.pen ≡ Some used → t.column + length cells ≤ t.width →
    DrawsAll t (after (cell_strokes set used cells) t) set cells
unfolding after cell_strokes drawn
draws_all set used [] t is fits = record { row = refl; width = refl; shown = refl }
draws_all set used (cell ∷ cells) t is fits =
    let u = after (one_cell set used cell) t in
    let one : Draws t u set cell = draws set used cell t is (omega (arith, fits)) in
    let left : u.column + length cells ≤ u.width = omega (arith, fits, one.column, one.width) in
    let rest = draws_all set (pen_of cell) cells u one.pen_is left in
    subst (λ (w : Terminal). DrawsAll t w set (cell ∷ cells))
    (sym (after-append (one_cell set used cell) (cell_strokes set (pen_of cell) cells) t))
    (record {
      row = rest.row ∙ one.row;
      width = rest.width ∙ one.width;
      shown =
          rest.shown ∙ ap (λ (n : ℕ). drawn set cells n u.column u.cells) one.row
          ∙ ap (λ (n : ℕ). drawn set cells t.row n u.cells) one.column
          ∙ ap (λ (f : ℕ → ℕ → Look). drawn set cells t.row (t.column + 1) f) one.cells;
    })

-- other places stay
pub drawn_keeps : (set : CharacterSet) (cells : List Cell) (row column : ℕ) (f : ℕ → ℕ → Look) (r c : ℕ) →
    (r ≡ row → column ≤ c → column + length cells ≤ c) → drawn set cells row column f r c ≡ f r c
unfolding drawn
drawn_keeps set [] row column f r c h = refl
drawn_keeps set (cell ∷ cells) row column f r c h =
    drawn_keeps set cells row (column + 1) (at_place row column (look_of set cell) f) r c (λ e le. let all : column + suc (length cells) ≤ c = h e (omega (arith, le)) in omega (arith, all))
    ∙ at_other row column (look_of set cell) f r c (λ e is. let all : column + suc (length cells) ≤ c = h e (omega (arith, is)) in omega (arith, all, is))

-- each cell is at its place
pub drawn_shows : (set : CharacterSet) (cells : List Cell) (row column : ℕ) (f : ℕ → ℕ → Look) (k : ℕ) (d : Cell) → k < length cells →
    drawn set cells row column f row (column + k) ≡ look_of set (get_or cells k d)
unfolding drawn
drawn_shows set [] row column f k d lt = absurd (omega (arith, lt))
drawn_shows set (cell ∷ cells) row column f zero d lt =
    drawn_keeps set cells row (column + 1) (at_place row column (look_of set cell) f) row (column + zero) (λ e le. absurd (omega (arith, le)))
    ∙ at_itself row column (look_of set cell) f (column + zero) (add-zero column)
drawn_shows set (cell ∷ cells) row column f (suc k) d lt =
    let on : column + suc k ≡ (column + 1) + k = omega arith in
    rw on (drawn_shows set cells row (column + 1) (at_place row column (look_of set cell) f) k d (omega (arith, lt)))
