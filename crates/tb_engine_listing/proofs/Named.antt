-- Places that are named one after another.
use Rattle.std.specs.Prelude.{MatchBool}
use Rattle.std.proofs.Common.{◌≡◌, ℕ, ◌+◌, ◌<◌, Bool, true, false, List, [], ◌∷◌, ◌++◌, inl, inr, length, drop, get_or, map, subst, sym, ◌∙◌}
use Rattle.std.proofs.lemmas.List.{drop_more}
use Rattle.tb_asm.specs.declared.names.Name.{Name}
use Rattle.tb_basic_source.specs.Lines.{numbered}
use Rattle.tb_engine_listing.specs.Comments.{comment_on, comments, heading_on, headings}
use Rattle.tb_engine_listing.proofs.Commented.{comments_of}
use Rattle.tb_engine_listing.specs.Pieces.{Plan}
use Rattle.tb_engine_listing.specs.Places.{AreNamed, IsNamed, IsReadable, Names, Shows, ShowsPlan, places_of}
use Rattle.tb_engine_listing.specs.Rows.{named_text}

-- the places of two lists are named
pub named_both : (labels : List (Name × ℕ)) (ps qs : List (List ℕ × ℕ)) → AreNamed labels ps → AreNamed labels qs → AreNamed labels (ps ++ qs)
named_both labels [] qs h k = k
named_both labels (p ∷ ps) qs h k = (h.0, named_both labels ps qs h.1 k)

-- one more of the places that are still to come is named
pub named_more : {A : Type 0} (labels : List (Name × ℕ)) (f : A → List ℕ × ℕ) (xs : List A) (i : ℕ) (d : A) (all : List (List ℕ × ℕ)) → i < length xs
    → (AreNamed labels (map f (drop i xs)) → AreNamed labels all) → IsNamed labels (f (get_or xs i d))
    → AreNamed labels (map f (drop (i + 1) xs)) → AreNamed labels all
named_more labels f xs i d all l h is rest = h (subst (λ ys. AreNamed labels (map f ys)) (sym (drop_more xs i d l)) (is, rest))

-- the first of the places that are still to come is named, and so are the others
pub named_first : {A : Type 0} (labels : List (Name × ℕ)) (f : A → List ℕ × ℕ) (xs : List A) (i : ℕ) (d : A) → i < length xs
    → AreNamed labels (map f (drop i xs)) → IsNamed labels (f (get_or xs i d)) × AreNamed labels (map f (drop (i + 1) xs))
named_first labels f xs i d l h = subst (λ ys. AreNamed labels (map f ys)) (drop_more xs i d l) h

-- the places of the first of two lists are named
pub named_front : (labels : List (Name × ℕ)) (ps qs : List (List ℕ × ℕ)) → AreNamed labels (ps ++ qs) → AreNamed labels ps
named_front labels [] qs h = tt
named_front labels (p ∷ ps) qs h = (h.0, named_front labels ps qs h.1)

-- the places of the second one are
pub named_back : (labels : List (Name × ℕ)) (ps qs : List (List ℕ × ℕ)) → AreNamed labels (ps ++ qs) → AreNamed labels qs
named_back labels [] qs h = h
named_back labels (p ∷ ps) qs h = named_back labels ps qs h.1

-- what is shown in place of the text with names
pub program_shown : (source : List ℕ) (p : Plan) (text shown : List ℕ) → text ≡ named_text source p → headings text ≡ map (heading_on (numbered source)) p.starts
    → Shows p text shown → ShowsPlan source p shown
program_shown source p text shown is headed (inl (same, readable)) =
    inl (record {
      names = subst (Names p.image (places_of p)) (sym same) readable.1;
      lines = subst (λ t. comments t ≡ map (comment_on (numbered source)) p.starts) (sym same) (comments_of text (numbered source) p.starts headed);
      headed = subst (λ t. headings t ≡ map (heading_on (numbered source)) p.starts) (sym same) headed;
      rows = same ∙ is;
    })
program_shown source p text shown is headed (inr (bare, none)) = inr (bare, subst (λ t. ¬ (IsReadable p t)) is none)

-- what a test that is true says, and one that is false
pub on_true : (b : Bool) (P Q : Type 0) → MatchBool b P Q → b ≡ true → P
on_true b P Q h e = subst (λ x. MatchBool x P Q) e h

pub on_false : (b : Bool) (P Q : Type 0) → MatchBool b P Q → b ≡ false → Q
on_false b P Q h e = subst (λ x. MatchBool x P Q) e h

-- the places of a list are not all named if one that is still to come is not
pub not_named : {A : Type 0} (labels : List (Name × ℕ)) (f : A → List ℕ × ℕ) (xs : List A) (i : ℕ) (d : A) (name : List ℕ) (at : ℕ) (all : List (List ℕ × ℕ))
    → i < length xs → (AreNamed labels all → AreNamed labels (map f (drop i xs))) → name ≡ (f (get_or xs i d)).0 → at ≡ (f (get_or xs i d)).1
    → ¬ (IsNamed labels (name, at)) → ¬ (AreNamed labels all)
not_named labels f xs i d name at all l left n a other h =
    let yes = (named_first labels f xs i d l (left h)).0 in
    other (subst (λ m. IsNamed labels (m, at)) (sym n) (subst (λ b. IsNamed labels ((f (get_or xs i d)).0, b)) (sym a) yes))

-- the places of all parts, by whether those of the lines are named
pub with_lines : (labels : List (Name × ℕ)) (block lines table : List (List ℕ × ℕ)) (has : Bool) → AreNamed labels block → AreNamed labels table
    → MatchBool has (AreNamed labels lines) (¬ (AreNamed labels lines))
    → MatchBool has (AreNamed labels (block ++ (lines ++ table))) (¬ (AreNamed labels (block ++ (lines ++ table))))
with_lines labels block lines table true b t h = named_both labels block (lines ++ table) b (named_both labels lines table h t)
with_lines labels block lines table false b t h = λ all. h (named_front labels lines table (named_back labels block (lines ++ table) all))
