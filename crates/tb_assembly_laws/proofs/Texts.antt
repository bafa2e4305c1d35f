-- Texts, line by line.
use Rattle.std.proofs.Common.{◌≡◌, ℕ, ◌+◌, ◌-◌, Bool, true, false, not, ◌&&◌, List, [], ◌∷◌, ◌++◌, map, length, Option, Some, None, Result, Ok, Err, refl, sym, ap, subst, ◌∙◌, eqb, if◌then◌else◌, append_assoc, ◌⊎◌, inl, inr, true≢false}
use Rattle.std.specs.List.{slice_get}
use Rattle.std.proofs.lemmas.Bool.{or_parts}
use Rattle.std.proofs.lemmas.List.{append-nil, map-append}
use Rattle.std.proofs.lemmas.Option.{slice_get-map}
use Rattle.tb_basic_text.specs.Lines.{longer, lines_from, lines_of_file}
use Rattle.tb_asm.specs.Layout.{Entry}
use Rattle.tb_asm.specs.Text.{begins_with_10, put, split_lines, with_line, text_items, items_of_text, line_items}
use Rattle.tb_assembly_text.specs.Tokens.{tokens_of}
use Rattle.tb_assembly_files.specs.declared.faults.Place.{Place}
use Rattle.tb_assembly_files.specs.Numbers.{DEEPEST}
use Rattle.tb_assembly_files.specs.Libraries.{Source}
use Rattle.tb_assembly_files.specs.Expansion.{Read, Course, then_read, Including, include_in, last_include, with_said, by_include, scope_by, by_line, line_read, place_of, lines_read, including, nothing_read}
use Rattle.tb_asm.specs.Assembled.{refusal}
use Rattle.tb_assembly_laws.specs.Items.{has_lone_return, all_shortened, Means}
use Rattle.tb_assembly_laws.specs.Laws.{with_text, IsRead, LinesAgree, ImagesAgree, ShortenedAgree}
use Rattle.tb_assembly_laws.proofs.Lines.{Stated, named_here, instructed, laid, word_laid, entry, said, AreStated, stated_append, line_read as line_said}
use Rattle.tb_assembly_laws.proofs.Making.{means}
use Rattle.tb_assembly_laws.proofs.Shortening.{shorten, all_short, unshortened}

-- ── both cut a text into the same lines ──
-- lines are equal to others, or they have one empty line more at the end
abbrev Ends : List (List ℕ) → List (List ℕ) → Type 0
Ends xs ys = (xs ≡ ys) ⊎ (xs ≡ ys ++ [] ∷ [])

put_longer : (b : ℕ) (ys : List (List ℕ)) → put b ys ≡ longer b ys
put_longer b [] = refl
put_longer b (l ∷ ls) = refl

ends_longer : (b : ℕ) (xs ys : List (List ℕ)) → Ends xs ys → Ends (put b xs) (longer b ys)
ends_longer b xs ys (inl e) = inl (ap (put b) e ∙ put_longer b ys)
ends_longer b xs [] (inr e) = inl (ap (put b) e)
ends_longer b xs (l ∷ ls) (inr e) = inr (ap (put b) e)

ends_more : (xs ys : List (List ℕ)) → Ends xs ys → Ends ([] ∷ xs) ([] ∷ ys)
ends_more xs ys (inl e) = inl (ap (λ t. [] ∷ t) e)
ends_more xs ys (inr e) = inr (ap (λ t. [] ∷ t) e)

-- a line that ends at a byte 10
ends_here : (b : ℕ) (bs : List ℕ) → eqb b 10 ≡ true → lines_from false (b ∷ bs) ≡ [] ∷ lines_from false bs
unfolding lines_from
ends_here b bs e = ap (λ x. if x then [] ∷ lines_from false bs else if eqb b 13 then [] ∷ lines_from true bs else longer b (lines_from false bs)) e

-- at a byte 13
ends_return : (b : ℕ) (bs : List ℕ) → eqb b 10 ≡ false → eqb b 13 ≡ true → lines_from false (b ∷ bs) ≡ [] ∷ lines_from true bs
unfolding lines_from
ends_return b bs e f = λ i. if e i then [] ∷ lines_from false bs else if f i then [] ∷ lines_from true bs else longer b (lines_from false bs)

-- and at no other
goes_on : (b : ℕ) (bs : List ℕ) → eqb b 10 ≡ false → eqb b 13 ≡ false → lines_from false (b ∷ bs) ≡ longer b (lines_from false bs)
unfolding lines_from
goes_on b bs e f = λ i. if e i then [] ∷ lines_from false bs else if f i then [] ∷ lines_from true bs else longer b (lines_from false bs)

-- a byte 10 after a byte 13 belongs to it
ends_both : (b : ℕ) (bs : List ℕ) → eqb b 10 ≡ true → lines_from true (b ∷ bs) ≡ lines_from false bs
unfolding lines_from
ends_both b bs e = ap (λ x. if x then lines_from false bs else if eqb b 13 then [] ∷ lines_from true bs else longer b (lines_from false bs)) e

no_lines : lines_from false [] ≡ []
unfolding lines_from
no_lines = refl

-- a text without a byte 13 alone is cut into the same lines
abbrev SameLines : List ℕ → Type 0
SameLines text = Ends (split_lines text) (lines_of_file text) × (begins_with_10 text ≡ true → Ends (split_lines text) ([] ∷ lines_from true text))

ends_to : (xs ys zs : List (List ℕ)) → Ends xs ys → ys ≡ zs → Ends xs zs
ends_to xs ys zs h e = subst (Ends xs) e h

same_lines : (text : List ℕ) → has_lone_return text ≡ false → SameLines text
same_lines [] h = (inr (ap (λ ys. ys ++ [] ∷ []) (sym no_lines)), λ e. absurd (true≢false (sym e)))
same_lines (b ∷ bs) h =
    let parts = or_parts (eqb b 13 && not (begins_with_10 bs)) (has_lone_return bs) h in
    let on = same_lines bs parts.1 in
    (by (eqb b 10) (eqb b 13) refl refl parts.0 on, λ e. ten e on.0)
  where
    split_at : (s t : Bool) → eqb b 10 ≡ s → (eqb b 13 && begins_with_10 bs) ≡ t
        → split_lines (b ∷ bs) ≡ (if s then [] ∷ split_lines bs else if t then split_lines bs else put b (split_lines bs))
    split_at s t e f = λ i. if e i then [] ∷ split_lines bs else if f i then split_lines bs else put b (split_lines bs)

    ten : eqb b 10 ≡ true → Ends (split_lines bs) (lines_of_file bs) → Ends (split_lines (b ∷ bs)) ([] ∷ lines_from true (b ∷ bs))
    ten e on = subst (λ xs. Ends xs ([] ∷ lines_from true (b ∷ bs))) (sym (split_at true (eqb b 13 && begins_with_10 bs) e refl))
        (ends_to ([] ∷ split_lines bs) ([] ∷ lines_of_file bs) ([] ∷ lines_from true (b ∷ bs)) (ends_more (split_lines bs) (lines_of_file bs) on) (ap (λ t. [] ∷ t) (sym (ends_both b bs e))))

    paired : (t : Bool) → begins_with_10 bs ≡ t → not t ≡ false → begins_with_10 bs ≡ true
    paired true e k = e
    paired false e k = absurd (true≢false k)

    by : (s t : Bool) → eqb b 10 ≡ s → eqb b 13 ≡ t → (eqb b 13 && not (begins_with_10 bs)) ≡ false → SameLines bs → Ends (split_lines (b ∷ bs)) (lines_of_file (b ∷ bs))
    by true t e f k on =
        subst (λ xs. Ends xs (lines_of_file (b ∷ bs))) (sym (split_at true (eqb b 13 && begins_with_10 bs) e refl))
        (ends_to ([] ∷ split_lines bs) ([] ∷ lines_of_file bs) (lines_of_file (b ∷ bs)) (ends_more (split_lines bs) (lines_of_file bs) on.0) (sym (ends_here b bs e)))
    by false true e f k on =
        let pair : begins_with_10 bs ≡ true = paired (begins_with_10 bs) refl (sym (ap (λ x. x && not (begins_with_10 bs)) f) ∙ k) in
        let both : (eqb b 13 && begins_with_10 bs) ≡ true = λ i. f i && pair i in
        subst (λ xs. Ends xs (lines_of_file (b ∷ bs))) (sym (split_at false true e both))
        (ends_to (split_lines bs) ([] ∷ lines_from true bs) (lines_of_file (b ∷ bs)) (on.1 pair) (sym (ends_return b bs e f)))
    by false false e f k on =
        let neither : (eqb b 13 && begins_with_10 bs) ≡ false = ap (λ x. x && begins_with_10 bs) f in
        subst (λ xs. Ends xs (lines_of_file (b ∷ bs))) (sym (split_at false false e neither))
        (ends_to (put b (split_lines bs)) (longer b (lines_of_file bs)) (lines_of_file (b ∷ bs)) (ends_longer b (split_lines bs) (lines_of_file bs) on.0) (sym (goes_on b bs e f)))

-- an empty line more has no items
last_empty : (i : ℕ) (ys : List (List ℕ)) → text_items i (ys ++ [] ∷ []) ≡ text_items i ys
last_empty i [] = refl
last_empty i (l ∷ ls) = ap (with_line (line_items l) i) (last_empty (i + 1) ls)

ends_items : (i : ℕ) (xs ys : List (List ℕ)) → Ends xs ys → text_items i xs ≡ text_items i ys
ends_items i xs ys (inl e) = ap (text_items i) e
ends_items i xs ys (inr e) = ap (text_items i) e ∙ last_empty i ys

-- ── what is read ──
not_included : (s : Stated) → include_in (Some (said s)) ≡ None
not_included (named_here c w) = refl
not_included (instructed c m g) = refl
not_included (laid c ps) = refl
not_included (word_laid c d a) = refl

-- such statements include nothing
none_included : (ss : List Stated) → last_include (map said ss) ≡ None
none_included ss = ap include_in (slice_get-map said ss (length (map said ss) - 1)) ∙ by (slice_get ss (length (map said ss) - 1))
  where
    by : (o : Option Stated) → include_in (Rattle.std.specs.Prelude.option_map said o) ≡ None
    by None = refl
    by (Some s) = not_included s

-- lines are read, and these statements are put after the others
abbrev Reads : Course → List Entry → Read → Type 0
Reads course es r = (s : Read) × (ss : List Stated) × (es ≡ map entry ss) × AreStated ss × (course ≡ Ok s) × (s.bad ≡ r.bad) × (s.said ≡ r.said ++ map said ss)

module _ (inc : Including) (file : ℕ) where
  one_line : (place : Place) (line : List ℕ) (es : List Entry) (r : Read) → line_items line ≡ Some es → Reads (line_read inc place line r) es r
  one_line place line es r h =
      let (ss, same, are, sound) = line_said r.scope line es h in
      let counted : Read = record (r) { lines = r.lines + 1 } in
      let scoped : Read = record (counted) { scope = scope_by r.scope (tokens_of line) } in (
        with_said scoped place (map said ss),
        ss,
        same,
        sound,
        ap (λ x. by_line inc place line x counted) are ∙ ap (λ o. by_include inc place (map said ss) o scoped) (none_included ss),
        refl,
        refl,
      )

  all_lines : (ls : List (List ℕ)) (i n : ℕ) (es : List Entry) (r : Read) → text_items i ls ≡ Ok es → Reads (lines_read inc file n ls r) es r
  all_lines [] i n es r h = (r, [], (let e : [] ≡ es = cc in sym e), tt, refl, refl, sym (append-nil r.said))
  all_lines (l ∷ ls) i n es r h = by (line_items l) (text_items (i + 1) ls) refl refl h (all_lines ls (i + 1) (n + 1))
    where
      by : (o : Option (List Entry)) (q : Result (List Entry) ℕ) → line_items l ≡ o → text_items (i + 1) ls ≡ q → with_line o i q ≡ Ok es
          → ((es : List Entry) (r : Read) → text_items (i + 1) ls ≡ Ok es → Reads (lines_read inc file (n + 1) ls r) es r) → Reads (lines_read inc file n (l ∷ ls) r) es r
      by None q k j g on = absurd (let e : ⊥ = cc in e)
      by (Some xs) (Err e) k j g on = absurd (let e : ⊥ = cc in e)
      by (Some xs) (Ok more) k j g on =
          let (s, ss, same, sound, are, bad, all) = one_line (place_of file n) l xs r k in
          let (t, ts, same_too, sound_too, are_too, bad_too, all_too) = on more s j in
          let whole : xs ++ more ≡ es = cc in (
            t,
            ss ++ ts,
            sym whole ∙ (λ z. same z ++ same_too z) ∙ sym (map-append entry ss ts),
            stated_append ss ts sound sound_too,
            ap (λ x. then_read x (lines_read inc file (n + 1) ls)) are ∙ are_too,
            bad_too ∙ bad,
            all_too ∙ ap (λ x. x ++ map said ts) all ∙ append_assoc r.said (map said ss) (map said ts) ∙ ap (λ x. r.said ++ x) (sym (map-append said ss ts)),
          )

-- a text that `tbc asm` reads
text_done : (path text : List ℕ) (lib : List Source) (es : List Entry) → items_of_text text ≡ Ok es → has_lone_return text ≡ false
    → (r : Read) × (ss : List Stated) × IsRead (with_text path text lib) r × (es ≡ map entry ss) × AreStated ss × (r.said ≡ map said ss)
text_done path text lib es h lone =
    let items : text_items 1 (lines_of_file text) ≡ Ok es = sym (ends_items 1 (split_lines text) (lines_of_file text) (same_lines text lone).0) ∙ h in
    let (r, ss, same, sound, are, bad, all) = all_lines (including DEEPEST (with_text path text lib) (0 ∷ [])) 0 (lines_of_file text) 1 1 es nothing_read items in
    (r, ss, (ap Some are, bad), same, sound, all)

-- the laws
pub lines_agree : LinesAgree
lines_agree path text lib es h lone = let (r, ss, read, same, sound, all) = text_done path text lib es h lone in (r, read)

pub shortened_agree : ShortenedAgree
shortened_agree at path text lib es low h lone free =
    let (r, ss, read, same, sound, all) = text_done path text lib es h lone in
    let (items, words, known, long) = all_short ss [] at sound in
    let ts = shorten [] at ss in
    let whole : map entry ts ≡ all_shortened [] at es = items ∙ ap (all_shortened [] at) (sym same) in
    let mean = means at ts low known (subst (λ x. refusal at x ≡ None) (sym whole) free) long in
    (r, read, subst (λ x. Means at x r.said) whole (subst (Means at (map entry ts)) (words ∙ sym all) mean))

pub images_agree : ImagesAgree
images_agree at path text lib es low h lone free long =
    let same : all_shortened [] at es ≡ es = unshortened es [] at long in
    let (r, read, mean) = shortened_agree at path text lib es low h lone (subst (λ x. refusal at x ≡ None) (sym same) free) in
    (r, read, subst (λ x. Means at x r.said) same mean)
