-- Rounds of settling, and why they come to an end.
use Rattle.std.proofs.Common.{◌≡◌, ℕ, ◌+◌, ◌<◌, ◌≤◌, Bool, true, false, ◌&&◌, ◌||◌, List, [], ◌∷◌, map, length, refl, sym, ap, subst, ◌∙◌, arith, true≢false, if◌then◌else◌}
use Rattle.std.specs.List.{list_any}
use Rattle.std.proofs.lemmas.Bool.{and_parts}
use Rattle.std.proofs.lemmas.List.{length-map}
use Rattle.tb_assembly_text.specs.declared.operands.Index.TheVariants.{Without, X, Y}
use Rattle.tb_assembly_text.specs.Operands.{nothing, accumulator, immediate, direct_by, indirect, by_x, by_y}
use Rattle.tb_assembly_text.specs.Statements.{labels, assigns, begins, instructs, lays, lays_words, fills, aligns, includes, Said}
use Rattle.tb_assembly_meaning.specs.Names.{Env}
use Rattle.tb_assembly_meaning.specs.Places.{Lying, Reached, after_spot, spot_of, spots_from, start_at}
use Rattle.tb_assembly_meaning.specs.Meaning.{names_of, outcome, spots_of}
use Rattle.tb_assembly_meaning.specs.Settling.{by_marks, falls_short, is_far, lengthened, may_lengthen, next_by, round, some_far}

-- 1 for a statement that may become long, else 0
abbrev pub short_at : Said → ℕ
short_at s = if may_lengthen s then 1 else 0

-- how many statements may become long
abbrev pub shorts : List Said → ℕ
shorts [] = 0
shorts (s ∷ ss) = short_at s + shorts ss

-- a statement that became long, or is none that may, may not become long
long_stays : (s : Said) → may_lengthen (lengthened s) ≡ false
long_stays (c, labels n) = refl
long_stays (c, assigns n e) = refl
long_stays (c, begins e) = refl
long_stays (c, lays cs) = refl
long_stays (c, lays_words es) = refl
long_stays (c, fills n v) = refl
long_stays (c, aligns n) = refl
long_stays (c, includes p) = refl
long_stays (c, instructs m nothing) = refl
long_stays (c, instructs m accumulator) = refl
long_stays (c, instructs m (immediate e)) = refl
long_stays (c, instructs m (direct_by w e Without)) = refl
long_stays (c, instructs m (direct_by w e X)) = refl
long_stays (c, instructs m (direct_by w e Y)) = refl
long_stays (c, instructs m (indirect e)) = refl
long_stays (c, instructs m (by_x e)) = refl
long_stays (c, instructs m (by_y e)) = refl

long_counts : (s : Said) → short_at (lengthened s) ≡ 0
long_counts s = ap (λ b. if b then 1 else 0) (long_stays s)

-- the places of statements are those of the statements
said_back : (r : Reached) (ss : List Said) → map (λ l. l.0) (spots_from r ss) ≡ ss
said_back r [] = refl
said_back r (s ∷ ss) = ap (λ ts. s ∷ ts) (said_back (after_spot r (spot_of r s) s) ss)

marked_by : (env : Env) (ls : List Lying) → by_marks (map (is_far env) ls) (map (λ l. l.0) ls) ≡ map (λ l. next_by (is_far env l) l.0) ls
marked_by env [] = refl
marked_by env (l ∷ ls) = ap (λ ts. next_by (is_far env l) l.0 ∷ ts) (marked_by env ls)

-- statements that become long by the marks of a round are those after the round
pub round_by : (at : ℕ) (ss : List Said) → by_marks (map (is_far (names_of at ss)) (spots_of at ss)) ss ≡ round at ss
round_by at ss = ap (by_marks (map (is_far (names_of at ss)) (spots_of at ss))) (sym (said_back (start_at at) ss)) ∙ marked_by (names_of at ss) (spots_of at ss)

any_marked : (env : Env) (ls : List Lying) → list_any (λ b. b) (map (is_far env) ls) ≡ list_any (is_far env) ls
any_marked env [] = refl
any_marked env (l ∷ ls) = ap (λ b. is_far env l || b) (any_marked env ls)

-- there is a mark if a branch does not reach
pub some_by : (at : ℕ) (ss : List Said) → list_any (λ b. b) (map (is_far (names_of at ss)) (spots_of at ss)) ≡ some_far at ss
some_by at ss = any_marked (names_of at ss) (spots_of at ss)

-- there is a mark for each statement
pub as_many : (at : ℕ) (ss : List Said) → length (map (is_far (names_of at ss)) (spots_of at ss)) ≡ length ss
as_many at ss =
    length-map (spots_of at ss) (is_far (names_of at ss)) ∙ sym (length-map (spots_of at ss) (λ l. l.0)) ∙ ap length (said_back (start_at at) ss)

no_more : (far : Bool) (s : Said) → short_at (next_by far s) ≤ short_at s
no_more false s = omega arith
no_more true s = let e = long_counts s in omega arith

one_less : (s : Said) (short : Bool) → (may_lengthen s && short) ≡ true → short_at (lengthened s) + 1 ≡ short_at s
one_less s short is =
    let may : may_lengthen s ≡ true = (and_parts (may_lengthen s) short is).0 in
    let e = long_counts s in
    let one : short_at s ≡ 1 = ap (λ b. if b then 1 else 0) may in
    omega arith

fewer_or_same : (env : Env) (ls : List Lying) → shorts (map (λ l. next_by (is_far env l) l.0) ls) ≤ shorts (map (λ l. l.0) ls)
fewer_or_same env [] = omega arith
fewer_or_same env (l ∷ ls) = let h = no_more (is_far env l) l.0 in let t = fewer_or_same env ls in omega arith

fewer_by : (env : Env) (l : Lying) (ls : List Lying) (far : Bool) → is_far env l ≡ far
    → (list_any (is_far env) ls ≡ true → shorts (map (λ l. next_by (is_far env l) l.0) ls) < shorts (map (λ l. l.0) ls))
    → (far || list_any (is_far env) ls) ≡ true
    → short_at (next_by far l.0) + shorts (map (λ l. next_by (is_far env l) l.0) ls) < short_at l.0 + shorts (map (λ l. l.0) ls)
fewer_by env l ls true e rest any =
    let one = one_less l.0 (falls_short (outcome env l)) e in
    let t = fewer_or_same env ls in omega arith
fewer_by env l ls false e rest any = let t = rest any in omega arith

fewer : (env : Env) (ls : List Lying) → list_any (is_far env) ls ≡ true → shorts (map (λ l. next_by (is_far env l) l.0) ls) < shorts (map (λ l. l.0) ls)
fewer env [] any = absurd (true≢false (sym any))
fewer env (l ∷ ls) any = fewer_by env l ls (is_far env l) refl (fewer env ls) any

-- after a round in which a branch does not reach, fewer statements may become long
pub fewer_after : (at : ℕ) (ss : List Said) → some_far at ss ≡ true → shorts (round at ss) < shorts ss
fewer_after at ss any = subst (λ ts. shorts (round at ss) < shorts ts) (said_back (start_at at) ss) (fewer (names_of at ss) (spots_of at ss) any)
