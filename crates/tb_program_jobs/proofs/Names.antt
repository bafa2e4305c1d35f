-- A name with a number behind a dot at its end: that dot is its last one.
use Rattle.std.proofs.Common.{◌≡◌, ◌≢◌, ℕ, ◌+◌, ◌<◌, ◌≤◌, Bool, true, false, not, ◌&&◌, ◌==◌, List, [], ◌∷◌, ◌++◌, length, drop, refl, sym, ap, ◌∙◌, arith}
use Rattle.std.proofs.Math.Seq.{drop-append_seam}
use Rattle.std.proofs.lemmas.List.{append_assoc, length-append, take-append-drop}
use Rattle.std.proofs.lemmas.List.Folds.{list_all-append}
use Rattle.std.specs.Char.{is_ascii_digit}
use Rattle.std.specs.List.{list_all}
use Rattle.std.specs.Str.Pattern.{LacksTextAt, RFindsText, SplitsAroundMatch}
use Rattle.tb_program_jobs.specs.Transcripts.{is_number}

-- no dot is in a text
abbrev pub HasNoDot : List ℕ → Type 0
HasNoDot text = (before behind : List ℕ) → text ≢ before ++ 46 ∷ behind

-- what is false beside anything is false
and_false : (b : Bool) → (b && false) ≡ false
and_false true = refl
and_false false = refl

-- a text with a dot is no number
dotted : (before behind : List ℕ) → is_number (before ++ 46 ∷ behind) ≡ false
dotted before behind =
    let digits : list_all is_ascii_digit (before ++ 46 ∷ behind) ≡ false =
    list_all-append is_ascii_digit before (46 ∷ behind) ∙ and_false (list_all is_ascii_digit before) in
    ap (λ b. not (length (before ++ 46 ∷ behind) == 0) && b) digits ∙ and_false (not (length (before ++ 46 ∷ behind) == 0))

-- where one split has no dot behind it, and no number, none has a number
pub none : (front back other number : List ℕ) → HasNoDot back → is_number back ≡ false → front ++ 46 ∷ back ≡ other ++ 46 ∷ number
    → is_number number ≡ false
none [] back [] number plain is e = let same : number ≡ back = cc in ap is_number same ∙ is
none [] back (o ∷ os) number plain is e = absurd (plain os number (cc))
none (f ∷ fs) back [] number plain is e = let same : number ≡ fs ++ 46 ∷ back = cc in ap is_number same ∙ dotted fs back
none (f ∷ fs) back (o ∷ os) number plain is e = none fs back os number plain is (cc)

-- behind the last dot of a name there is none
pub plain : (name front back : List ℕ)
    → ((k : ℕ) → length front < k → k ≤ length name → LacksTextAt (46 ∷ []) name k) → name ≡ front ++ 46 ∷ back → HasNoDot back
plain name front back lacks is xs ys e =
    let whole : name ≡ (front ++ 46 ∷ xs) ++ 46 ∷ ys = is ∙ ap (λ b. front ++ 46 ∷ b) e ∙ sym (append_assoc front (46 ∷ xs) (46 ∷ ys)) in
    let size : length (front ++ 46 ∷ xs) ≡ length front + length (46 ∷ xs) = length-append front (46 ∷ xs) in
    let all : length name ≡ length (front ++ 46 ∷ xs) + length (46 ∷ ys) = ap length whole ∙ length-append (front ++ 46 ∷ xs) (46 ∷ ys) in
    lacks (length (front ++ 46 ∷ xs)) (omega (arith, size)) (omega (arith, all)) ys
    (ap (drop (length (front ++ 46 ∷ xs))) whole ∙ drop-append_seam (front ++ 46 ∷ xs) (46 ∷ ys))

-- a name without a dot has no number behind one
pub dotless : (name : List ℕ) → ((k : ℕ) → k ≤ length name → LacksTextAt (46 ∷ []) name k) → (other number : List ℕ)
    → name ≡ other ++ 46 ∷ number → is_number number ≡ false
dotless name lacks other number e =
    let all : length name ≡ length other + length (46 ∷ number) = ap length e ∙ length-append other (46 ∷ number) in
    absurd (lacks (length other) (omega (arith, all)) number (ap (drop (length other)) e ∙ drop-append_seam other (46 ∷ number)))

-- a name whose last dot has no number behind it has none behind any
pub last : (name front back : List ℕ) → SplitsAroundMatch (RFindsText (46 ∷ [])) name front back → is_number back ≡ false
    → (other number : List ℕ) → name ≡ other ++ 46 ∷ number → is_number number ≡ false
last name front back (i, j, found, before, behind, order, size, rest) is other number e =
    let whole : name ≡ front ++ 46 ∷ back =
    sym (take-append-drop i name) ∙ ap (λ f. f ++ drop i name) (sym before)
    ∙ ap (λ d. front ++ d) (found.1.split ∙ ap (λ b. 46 ∷ b) (sym behind)) in
    none front back other number (plain name front back (λ k less. found.0 k (omega (arith, less, size))) whole) is (sym whole ∙ e)
