-- What rows do to the headings of a text.
use Rattle.std.proofs.Common.{◌≡◌, ℕ, Bool, true, false, List, [], ◌∷◌, ◌++◌, map, take, ap, sym, ◌∙◌, refl, arith, append_assoc}
use Rattle.std.proofs.Common.{append-nil, subst, get_or, length, ◌<◌, ◌+◌, if◌then◌else◌, ◌&&◌, eqb, ◌==◌}
use Rattle.std.proofs.lemmas.Bool.Decides.{nat_tests}
use Rattle.std.specs.List.{filter}
use Rattle.std.specs.Fmt.{decimal}
use Rattle.std.specs.Prelude.{Result, Ok, Err, OnOk, codes}
use Rattle.std.proofs.lemmas.List.{map-append, take_more}
use Rattle.tb_asm.specs.Text.{split_lines, begins_with_10, put}
use Rattle.tb_basic_source.specs.Lines.{last_of}
use Rattle.tb_basic_source.specs.ShownBytes.{shown}
use Rattle.tb_engine_listing.specs.Comments.{is_comment, comments, comment, comment_on, comment_row, first_line, headings_in, headings, heading_on, label_line, label_row}
use Rattle.tb_engine_listing.specs.Comments.{HasHeadings, KeepsHeadings}

-- nothing that is shown ends a line
no_end : (b : ℕ) → eqb (shown b) 10 ≡ false
no_end b = grind (arith, nat_tests)

no_return : (b : ℕ) → eqb (shown b) 13 ≡ false
no_return b = grind (arith, nat_tests)

-- what is shown up to an end is a line
shown_line : (bs more : List ℕ) → split_lines (map shown bs ++ 10 ∷ more) ≡ map shown bs ∷ split_lines more
shown_line [] more = refl
shown_line (b ∷ bs) more =
    let rest = map shown bs ++ 10 ∷ more in
    by (eqb (shown b) 10) (eqb (shown b) 13) (no_end b) (no_return b) (shown_line bs more)
  where
    by : (e r : Bool) → e ≡ false → r ≡ false → split_lines (map shown bs ++ 10 ∷ more) ≡ map shown bs ∷ split_lines more
        → (if e then [] ∷ split_lines (map shown bs ++ 10 ∷ more) else
        if r && begins_with_10 (map shown bs ++ 10 ∷ more) then split_lines (map shown bs ++ 10 ∷ more) else
        put (shown b) (split_lines (map shown bs ++ 10 ∷ more))) ≡ (shown b ∷ map shown bs) ∷ split_lines more
    by e r no_ten no_thirteen h = rw (no_ten, no_thirteen, h) refl

-- a line that is not a comment, and one that is before one that is not
kept : (line : List ℕ) (lines : List (List ℕ)) → is_comment line ≡ false → headings_in (line ∷ lines) ≡ headings_in lines
kept line lines plain = rw plain refl

taken : (line next : List ℕ) (lines : List (List ℕ)) → is_comment line ≡ true → is_comment next ≡ false → headings_in (line ∷ next ∷ lines) ≡ (line, next) ∷ headings_in lines
taken line next lines is plain = rw (is, plain) refl

-- a row at the end of a text, before more
on : (text bs more : List ℕ) → (text ++ (map shown bs ++ 10 ∷ [])) ++ more ≡ text ++ (map shown bs ++ 10 ∷ more)
on text bs more = append_assoc text (map shown bs ++ 10 ∷ []) more ∙ ap (λ t. text ++ t) (append_assoc (map shown bs) (10 ∷ []) more)

-- a row that is not a comment keeps the headings
pub row_kept : (text bs : List ℕ) (hs : List (List ℕ × List ℕ)) → is_comment (map shown bs) ≡ false → HasHeadings text hs
    → HasHeadings (text ++ (map shown bs ++ 10 ∷ [])) hs
row_kept text bs hs plain h more =
    ap headings (on text bs more) ∙ h (map shown bs ++ 10 ∷ more)
    ∙ ap (λ c. hs ++ c) (ap headings_in (shown_line bs more) ∙ kept (map shown bs) (split_lines more) plain)

-- a row that is a comment and one that is not are a heading more
pub rows_taken : (text bs ls : List ℕ) (hs : List (List ℕ × List ℕ)) → is_comment (map shown bs) ≡ true → is_comment (map shown ls) ≡ false → HasHeadings text hs
    → HasHeadings ((text ++ (map shown bs ++ 10 ∷ [])) ++ (map shown ls ++ 10 ∷ [])) (hs ++ (map shown bs, map shown ls) ∷ [])
rows_taken text bs ls hs is plain h more =
    ap headings (on (text ++ (map shown bs ++ 10 ∷ [])) ls more ∙ on text bs (map shown ls ++ 10 ∷ more)) ∙ h (map shown bs ++ 10 ∷ (map shown ls ++ 10 ∷ more))
    ∙ ap (λ c. hs ++ c) (ap headings_in (shown_line bs (map shown ls ++ 10 ∷ more) ∙ ap (λ ts. map shown bs ∷ ts) (shown_line ls more))
    ∙ taken (map shown bs) (map shown ls) (split_lines more) is plain)
    ∙ sym (append_assoc hs ((map shown bs, map shown ls) ∷ []) (headings more))

-- a row of two parts is what is shown of both
joined : (text front row : List ℕ) → text ++ (map shown front ++ map shown row ++ 10 ∷ []) ≡ text ++ (map shown (front ++ row) ++ 10 ∷ [])
joined text front row = ap (λ t. text ++ (t ++ 10 ∷ [])) (sym (map-append shown front row))

-- a row that is not a comment
pub row_keeps : {U E : Type 0} (r : Result U E) (old new front row : List ℕ) → is_comment (map shown (front ++ row)) ≡ false
    → OnOk r (new ≡ old ++ (map shown front ++ map shown row ++ 10 ∷ [])) → OnOk r (KeepsHeadings old new)
row_keeps (Ok u) old new front row plain e =
    λ hs h. subst (λ t. HasHeadings t hs) (sym (e ∙ joined old front row)) (row_kept old (front ++ row) hs plain h)
row_keeps (Err u) old new front row plain e = tt

-- a name with a colon is not a comment
not_shown : (b : ℕ) → (b == 59) ≡ false → (shown b == 59) ≡ false
not_shown b h = grind (arith, nat_tests, h)

-- a label's row is not a comment
pub label_plain : (name : List ℕ) → is_comment name ≡ false → is_comment (map shown (name ++ 58 ∷ [])) ≡ false
label_plain [] h = refl
label_plain (b ∷ name) h = not_shown b h

-- a comment and the label of its line are a heading more
headed : (old mid new line : List ℕ) (number : ℕ) (hs : List (List ℕ × List ℕ)) → mid ≡ old ++ comment_row line → new ≡ mid ++ label_row number
    → HasHeadings old hs → HasHeadings new (hs ++ (comment line, label_line number) ∷ [])
headed old mid new line number hs e f h =
    let name = codes "line" ++ decimal number in
    let label : label_line number ≡ map shown (name ++ 58 ∷ []) = sym (map-append shown name (58 ∷ [])) in
    subst (λ t. HasHeadings t (hs ++ (comment line, label_line number) ∷ [])) (sym (f ∙ ap (λ t. t ++ label_row number) e))
    (subst (λ l. HasHeadings ((old ++ comment_row line) ++ (l ++ 10 ∷ [])) (hs ++ (comment line, l) ∷ [])) (sym label)
    (rows_taken old (59 ∷ 32 ∷ take 120 line) (name ++ 58 ∷ []) hs refl refl h))

-- one more line
line_more : {A B C : Type 0} (f : B → C) (g : A → B) (xs : List A) (i : ℕ) (d : A) → i < length xs
    → map f (map g (take i xs)) ++ f (g (get_or xs i d)) ∷ [] ≡ map f (map g (take (i + 1) xs))
line_more f g xs i d l =
    sym (ap (λ t. map f (map g t)) (take_more xs i d l) ∙ ap (map f) (map-append g (take i xs) (get_or xs i d ∷ [])) ∙ map-append f (map g (take i xs)) (g (get_or xs i d) ∷ []))

-- a comment and the label of the next line are its heading
pub headed_more : {A : Type 0} (lines : List (ℕ × List ℕ)) (g : A → ℕ × ℕ) (xs : List A) (i : ℕ) (d : A) (old mid new line : List ℕ) → i < length xs
    → line ≡ last_of [] (g (get_or xs i d)).0 lines → mid ≡ old ++ comment_row line → new ≡ mid ++ label_row (g (get_or xs i d)).0
    → HasHeadings old (map (heading_on lines) (map g (take i xs))) → HasHeadings new (map (heading_on lines) (map g (take (i + 1) xs)))
headed_more lines g xs i d old mid new line l is e f h =
    let so_far = map (heading_on lines) (map g (take i xs)) in
    let number = (g (get_or xs i d)).0 in
    subst (HasHeadings new) (ap (λ t. so_far ++ (comment t, label_line number) ∷ []) is ∙ line_more (heading_on lines) g xs i d l)
    (headed old mid new line number so_far e f h)

-- the headings of a text are those that were collected
pub in_all : (text : List ℕ) (hs : List (List ℕ × List ℕ)) → HasHeadings text hs → headings text ≡ hs
in_all text hs h = sym (ap headings (append-nil text)) ∙ h [] ∙ append-nil hs

-- the comments among lines are those of their headings
comments_in : (lines : List (List ℕ)) → filter is_comment lines ≡ map (λ h. h.0) (headings_in lines)
comments_in [] = refl
comments_in (line ∷ lines) = by (is_comment line) (comments_in lines)
  where
    by : (b : Bool) → filter is_comment lines ≡ map (λ h. h.0) (headings_in lines)
        → (if b then line ∷ filter is_comment lines else filter is_comment lines)
        ≡ map (λ h. h.0) (if b then (line, first_line lines) ∷ headings_in lines else headings_in lines)
    by true e = ap (λ ls. line ∷ ls) e
    by false e = e

-- the comments of a text whose headings are those of lines are these lines
pub comments_of : (text : List ℕ) (lines : List (ℕ × List ℕ)) (starts : List (ℕ × ℕ)) → headings text ≡ map (heading_on lines) starts
    → comments text ≡ map (comment_on lines) starts
comments_of text lines starts e = comments_in (split_lines text) ∙ ap (map (λ h. h.0)) e ∙ firsts starts
  where
    firsts : (starts : List (ℕ × ℕ)) → map (λ h. h.0) (map (heading_on lines) starts) ≡ map (comment_on lines) starts
    firsts [] = refl
    firsts (s ∷ starts) = ap (λ ls. comment_on lines s ∷ ls) (firsts starts)
