-- The lines of a hunk, where the code takes slices of lines.
use Rattle.std.proofs.Common.{◌≡◌, ◌≤◌, ◌+◌, ◌-◌, ℕ, List, length, map, take, drop, sym, ap, ◌∙◌, arith}
use Rattle.std.proofs.lemmas.List.{drop-map, drop-take, take-map}
use Rattle.tb_engine_transcripts.specs.Differing.{alike_lines, hunk, hunk_at, lines_hunk}
use Rattle.tb_engine_transcripts.proofs.Pieces.{rest_of}

-- the lines from one place to another
between : {A : Type 0} (f : A → List ℕ) (lines : List A) (alike first : ℕ) → first ≤ alike
    → map f (take (alike - first) (drop first lines)) ≡ drop first (take alike (map f lines))
between f lines alike first le =
    let sum : first + (alike - first) ≡ alike = omega arith in
    ap (λ l. map f l) (sym (drop-take first (alike - first) lines) ∙ ap (λ n. drop first (take n lines)) sum)
    ∙ sym (drop-map f first (take alike lines)) ∙ ap (λ l. drop first l) (sym (take-map f alike lines))

-- the first lines of a rest
first_of_rest : {A : Type 0} (f : A → List ℕ) (lines : List A) (alike : ℕ)
    → take 4 (map f (take (length lines - alike) (drop alike lines))) ≡ take 4 (drop alike (map f lines))
first_of_rest f lines alike = ap (λ l. take 4 (map f l)) (rest_of lines alike) ∙ ap (λ l. take 4 l) (sym (drop-map f alike lines))

-- the hunk of slices is that of the definition
pub hunk_of_slices : {A : Type 0} (f : A → List ℕ) (above : ℕ × ℕ) (wanted ran : List A) (alike first : ℕ) (shown shown_ran : List (List ℕ))
    → alike ≡ alike_lines (map f wanted) (map f ran) → first ≡ alike - 3
    → shown ≡ take 4 (map f (take (length wanted - alike) (drop alike wanted)))
    → shown_ran ≡ take 4 (map f (take (length ran - alike) (drop alike ran)))
    → hunk (above.0 + first, above.1 + first) (map f (take (alike - first) (drop first wanted))) shown shown_ran ≡ lines_hunk above (map f wanted) (map f ran)
hunk_of_slices f above wanted ran alike first shown shown_ran is few wanted_few ran_few =
    let context = between f wanted alike first (omega arith) in
    let at_alike = hunk_at above (map f wanted) (map f ran) in
    rw (context, wanted_few ∙ first_of_rest f wanted alike, ran_few ∙ first_of_rest f ran alike, few) (ap at_alike is)
