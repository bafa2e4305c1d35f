-- The pieces of an image, one after another.
use Rattle.std.proofs.Common.{◌≡◌, ℕ, zero, suc, ◌<◌, ◌≤◌, List, [], ◌∷◌, ◌++◌, length, drop, map, ap, subst, sym, ◌∙◌, refl, arith, append_assoc, append-nil, length-drop}
use Rattle.std.proofs.lemmas.List.{map-append}
use Rattle.tb_runtime16.specs.Addresses.{PROLOGUE_AT}
use Rattle.tb_engine_listing.specs.declared.pieces.Piece.{Piece}
use Rattle.tb_engine_listing.specs.declared.pieces.Span.{Span}
use Rattle.tb_engine_listing.specs.Bytes.{forth}
use Rattle.tb_engine_listing.specs.Pieces.{Plan, Row, first_row, no_text, row_of, rows_from, rows_of, text_here}

-- the pieces so far, and those of what is left, are all of them; the number bounds how many are left
pub record Swept (p : Plan) (done : List Row) (text : Span) (at : ℕ) (rest : List ℕ) : Type 0 where
  pub most : ℕ
  pub within : length rest ≤ most
  pub whole : done ++ rows_from most p text at rest ≡ rows_of p

-- none so far
pub swept_none : (p : Plan) → Swept p [] no_text PROLOGUE_AT p.image
swept_none p = record { most = length p.image; within = omega arith; whole = refl }

-- one more
pub swept_more : (p : Plan) (done : List Row) (text : Span) (at : ℕ) (rest : List ℕ) (row : Row) → 0 < length rest → Swept p done text at rest
    → row ≡ first_row p (text_here text at rest) at rest → 0 < length row.bytes
    → Swept p (done ++ row ∷ []) (text_here text at rest) (forth at (length row.bytes)) (drop (length row.bytes) rest)
swept_more p done text at [] row some h e l = absurd (omega arith)
swept_more p done text at (b ∷ bs) row some h e l = by h.most h.within h.whole
  where
    found : Span
    found = text_here text at (b ∷ bs)

    by : (k : ℕ) → length (b ∷ bs) ≤ k → done ++ rows_from k p text at (b ∷ bs) ≡ rows_of p
        → Swept p (done ++ row ∷ []) found (forth at (length row.bytes)) (drop (length row.bytes) (b ∷ bs))
    by zero within whole = absurd (omega arith)
    by (suc k) within whole = record {
      most = k;
      within = let e = length-drop (length row.bytes) (b ∷ bs) in omega arith;
      whole = subst (λ r. (done ++ r ∷ []) ++ rows_from k p found (forth at (length r.bytes)) (drop (length r.bytes) (b ∷ bs)) ≡ rows_of p) (sym e)
          (append_assoc done (first_row p found at (b ∷ bs) ∷ []) _ ∙ whole);
    }

-- all of them
pub swept_all : (p : Plan) (done : List Row) (text : Span) (at : ℕ) (rest : List ℕ) → Swept p done text at rest → length rest ≡ 0 → done ≡ rows_of p
swept_all p done text at (b ∷ bs) h e = absurd (omega arith)
swept_all p done text at [] h e = by h.most h.whole
  where
    by : (k : ℕ) → done ++ rows_from k p text at [] ≡ rows_of p → done ≡ rows_of p
    by zero whole = sym (append-nil done) ∙ whole
    by (suc k) whole = sym (append-nil done) ∙ whole

-- one more, as the code takes it
pub swept_step : (p : Plan) (pieces news : List Piece) (piece : Piece) (text found : Span) (at after : ℕ) (rest behind : List ℕ) → 0 < length rest
    → Swept p (map row_of pieces) text at rest → found ≡ text_here text at rest → row_of piece ≡ first_row p found at rest → 0 < length piece.bytes.now
    → news ≡ pieces ++ piece ∷ [] → after ≡ forth at (length piece.bytes.now) → behind ≡ drop (length piece.bytes.now) rest
    → Swept p (map row_of news) found after behind
swept_step p pieces news piece text found at after rest behind some h is row l n a b =
    let all : map row_of news ≡ map row_of pieces ++ row_of piece ∷ [] = ap (map row_of) n ∙ map-append row_of pieces (piece ∷ []) in
    let next = swept_more p (map row_of pieces) text at rest (row_of piece) some h (row ∙ ap (λ f. first_row p f at rest) is) l in
    subst (λ rows. Swept p rows found after behind) (sym all)
    (subst (λ f. Swept p (map row_of pieces ++ row_of piece ∷ []) f after behind) (sym is)
    (subst (λ x. Swept p (map row_of pieces ++ row_of piece ∷ []) (text_here text at rest) x behind) (sym a)
    (subst (λ x. Swept p (map row_of pieces ++ row_of piece ∷ []) (text_here text at rest) (forth at (length piece.bytes.now)) x) (sym b) next)))
