-- The rows of a listing with names, one after another.
use Rattle.std.proofs.Common.{◌≡◌, ℕ, ◌+◌, ◌<◌, ◌≤◌, List, [], ◌∷◌, ◌++◌, length, drop, take, get_or, map, sym, ap, ◌∙◌, append_assoc, append-nil}
use Rattle.std.proofs.lemmas.List.{drop_all, drop-map, drop_more, take-map}
use Rattle.tb_basic_source.specs.Lines.{last_of}
use Rattle.tb_engine_listing.specs.declared.marks.Mark.{Mark}
use Rattle.tb_engine_listing.specs.declared.pieces.Piece.{Piece}
use Rattle.tb_engine_listing.specs.Comments.{comment_row, label_row}
use Rattle.tb_engine_listing.specs.Pieces.{Plan, row_of}
use Rattle.tb_engine_listing.specs.Rows.{count_before, lines_text, pieces_text, label_text, row_content, row_text}

-- one more piece: its label and its row
pub piece_more : (p : Plan) (marks : List Mark) (pieces : List Piece) (i : ℕ) (d : Piece) (now mid new whole : List ℕ) → i < length pieces
    → mid ≡ now ++ label_text p marks (get_or pieces i d).at
    → new ≡ mid ++ row_text (32 ∷ 32 ∷ []) (row_content p marks (row_of (get_or pieces i d)))
    → now ++ pieces_text p marks (map row_of (drop i pieces)) ≡ whole → new ++ pieces_text p marks (map row_of (drop (i + 1) pieces)) ≡ whole
piece_more p marks pieces i d now mid new whole l e f h =
    let x = get_or pieces i d in
    let label = label_text p marks x.at in
    let row = row_text (32 ∷ 32 ∷ []) (row_content p marks (row_of x)) in
    let rest = pieces_text p marks (map row_of (drop (i + 1) pieces)) in
    ap (λ t. t ++ rest) (f ∙ ap (λ t. t ++ row) e ∙ append_assoc now label row) ∙ append_assoc now (label ++ row) rest
    ∙ ap (λ xs. now ++ pieces_text p marks (map row_of xs)) (sym (drop_more pieces i d l)) ∙ h

-- no more pieces
pub pieces_all : (p : Plan) (marks : List Mark) (pieces : List Piece) (i : ℕ) (now whole : List ℕ) → length pieces ≤ i
    → now ++ pieces_text p marks (map row_of (drop i pieces)) ≡ whole → now ≡ whole
pieces_all p marks pieces i now whole l h =
    sym (append-nil now) ∙ ap (λ xs. now ++ pieces_text p marks (map row_of xs)) (sym (drop_all i pieces l)) ∙ h

-- one more line: the pieces before it, its comment and its label
pub line_more : {L : Type 0} (g : L → ℕ × ℕ) (p : Plan) (marks : List Mark) (sources : List (ℕ × List ℕ)) (starts : List L) (i : ℕ) (d : L)
    (rest before behind : List Piece) (now mid next new line whole : List ℕ) (n : ℕ) → i < length starts
    → n ≡ count_before (g (get_or starts i d)).1 (map row_of rest) → before ≡ take n rest → behind ≡ drop n rest
    → mid ≡ now ++ pieces_text p marks (map row_of before) → next ≡ mid ++ comment_row line → new ≡ next ++ label_row (g (get_or starts i d)).0
    → line ≡ last_of [] (g (get_or starts i d)).0 sources
    → now ++ lines_text p marks sources (map g (drop i starts)) (map row_of rest) ≡ whole
    → new ++ lines_text p marks sources (map g (drop (i + 1) starts)) (map row_of behind) ≡ whole
line_more g p marks sources starts i d rest before behind now mid next new line whole n l counted of_before of_behind e f h is w =
    let s = g (get_or starts i d) in
    let rows = map row_of rest in
    let c = count_before s.1 rows in
    let a = pieces_text p marks (take c rows) in
    let text = comment_row (last_of [] s.0 sources) in
    let name = label_row s.0 in
    let more = lines_text p marks sources (map g (drop (i + 1) starts)) (drop c rows) in
    let front : map row_of before ≡ take c rows = ap (map row_of) (of_before ∙ ap (λ k. take k rest) counted) ∙ sym (take-map row_of c rest) in
    let back : map row_of behind ≡ drop c rows = ap (map row_of) (of_behind ∙ ap (λ k. drop k rest) counted) ∙ sym (drop-map row_of c rest) in
    let all : new ≡ ((now ++ a) ++ text) ++ name =
    h ∙ ap (λ t. t ++ name) (f ∙ ap (λ t. t ++ comment_row line) (e ∙ ap (λ rs. now ++ pieces_text p marks rs) front) ∙ ap (λ t. (now ++ a) ++ comment_row t) is) in
    ap (λ rs. new ++ lines_text p marks sources (map g (drop (i + 1) starts)) rs) back ∙ ap (λ t. t ++ more) all
    ∙ grouped now a text name more ∙ ap (λ xs. now ++ lines_text p marks sources (map g xs) rows) (sym (drop_more starts i d l)) ∙ w
  where
    grouped : (t x y z u : List ℕ) → (((t ++ x) ++ y) ++ z) ++ u ≡ t ++ ((x ++ (y ++ z)) ++ u)
    grouped t x y z u = simp append_assoc

-- no more lines: the pieces that are left
pub lines_all : {L : Type 0} (g : L → ℕ × ℕ) (p : Plan) (marks : List Mark) (sources : List (ℕ × List ℕ)) (starts : List L) (i : ℕ)
    (rest : List Piece) (now new whole : List ℕ) → length starts ≤ i → new ≡ now ++ pieces_text p marks (map row_of rest)
    → now ++ lines_text p marks sources (map g (drop i starts)) (map row_of rest) ≡ whole → new ≡ whole
lines_all g p marks sources starts i rest now new whole l e h =
    e ∙ ap (λ xs. now ++ lines_text p marks sources (map g xs) (map row_of rest)) (sym (drop_all i starts l)) ∙ h
