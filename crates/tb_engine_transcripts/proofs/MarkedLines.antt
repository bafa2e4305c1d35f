-- Lines that were sent are read as they were, and as nothing else.
use Rattle.std.proofs.Common.{◌≡◌, ◌≢◌, ◌∙◌, ◌||◌, ℕ, Bool, true, false, List, [], ◌∷◌, Option, Some, None, refl, sym, ap}
use Rattle.std.specs.Option.{is_some}
use Rattle.std.specs.Str.{bytes_eq}
use Rattle.std.proofs.lemmas.Bool.{false_from_ne_true, or_parts}
use Rattle.std.proofs.lemmas.Slice.Eq.{bytes_eq-Decides}
use Rattle.tb_engine_transcripts.specs.Marks.{behind}
use Rattle.tb_engine_transcripts.specs.Reading.{unescaped}
use Rattle.tb_engine_transcripts.specs.Writing.{marked, needs_escape}
use Rattle.tb_engine_transcripts.specs.declared.marks.TheConstants.{ESCAPE, OPTION, TYPED}

-- what is not there is none
none_of : {A : Type 0} (o : Option A) → is_some o ≡ false → o ≡ None
none_of None e = refl
none_of (Some a) e = absurd cc

-- a line that needs no escape begins with no mark
unmarked : (p : List ℕ) → needs_escape p ≡ false → (behind OPTION.now p ≡ None) × (behind TYPED.now p ≡ None) × (behind ESCAPE.now p ≡ None)
unmarked p e =
    let both = or_parts (is_some (behind OPTION.now p) || is_some (behind TYPED.now p)) (is_some (behind ESCAPE.now p)) e in
    let first = or_parts (is_some (behind OPTION.now p)) (is_some (behind TYPED.now p)) both.0 in
    (none_of (behind OPTION.now p) first.0, none_of (behind TYPED.now p) first.1, none_of (behind ESCAPE.now p) both.1)

-- what is read of a line that was sent
abbrev pub IsSent : List ℕ → List ℕ → Type 0
IsSent p line =
    (behind OPTION.now line ≡ None) × (behind TYPED.now line ≡ None) × (unescaped line ≡ p) × (bytes_eq line ESCAPE.now ≡ false)

-- an escaped line
escaped_is_sent : (p : List ℕ) → p ≢ [] → IsSent p (92 ∷ p)
escaped_is_sent p some = (
  refl,
  refl,
  refl,
  false_from_ne_true (bytes_eq (92 ∷ p) ESCAPE.now) (λ e. some (tail_of ((bytes_eq-Decides (92 ∷ p) ESCAPE.now).0 e))),
)
  where
    tail_of : 92 ∷ p ≡ 92 ∷ [] → p ≡ []
    tail_of e = cc

-- a line without a mark
plain_is_sent : (p : List ℕ) → needs_escape p ≡ false → IsSent p p
plain_is_sent p e =
    let none = unmarked p e in (
      none.0,
      none.1,
      rw none.2 refl,
      false_from_ne_true (bytes_eq p ESCAPE.now) (λ same. never ((bytes_eq-Decides p ESCAPE.now).0 same) none.2),
    )
  where
    never : p ≡ ESCAPE.now → behind ESCAPE.now p ≡ None → ⊥
    never is none = let some : Some [] ≡ None = sym (ap (behind ESCAPE.now) is) ∙ none in cc

-- a line that needs an escape is not empty
some_marked : (p : List ℕ) → needs_escape p ≡ true → p ≢ []
some_marked [] e none = absurd cc
some_marked (b ∷ p) e none = cc

-- a line as it is written is read as the line that was sent
pub marked_is_sent : (p : List ℕ) → IsSent p (marked p)
marked_is_sent p = by (needs_escape p) refl
  where
    by : (needs : Bool) → needs_escape p ≡ needs → IsSent p (marked p)
    by true e = rw e (escaped_is_sent p (some_marked p e))
    by false e = rw e (plain_is_sent p e)
