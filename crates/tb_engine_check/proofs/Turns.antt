-- Sources that were told of, one after the other.
use Rattle.std.proofs.Common.{◌≡◌, ℕ, ◌+◌, ◌<◌, Bool, true, false, List, [], ◌∷◌, ◌++◌, Option, Result, Ok, Err, take, map, length, get_or, refl, sym, ap, subst, ◌∙◌, Global, String}
use Rattle.std.specs.Prelude.{flat_map, string_bytes, ◌||◌, if◌then◌else◌}
use Rattle.std.specs.List.{list_any}
use Rattle.std.specs.Io.KnownBytes.{Appends}
use Rattle.std.proofs.KnownBytes.{Appends-nil, Appends-trans}
use Rattle.std.proofs.lemmas.List.{append-nil, get_or-map, map-append, take_more}
use Rattle.std.proofs.lemmas.List.Folds.{list_any-append}
use Rattle.std.proofs.lemmas.Grind.{flat_map-append}
use Rattle.tb_engine_streams.specs.declared.stream.InputError.{InputError}
use Rattle.tb_engine_findings.specs.declared.settings.CheckSettings.{CheckSettings}
use Rattle.tb_engine_check.specs.Checks.{Look, Saw, Missed, Turn, Looks, IsLook, Told, said, said_of, is_refusal, is_miss, marks_of, marked, seen_of, ending, Tells, ChecksNext, Checks}
use Rattle.tb_engine_streams.specs.Streams.{AppendsPrefix}
use Rattle.tb_engine_check.specs.declared.engine.Marks.{Marks}
use Rattle.tb_engine_check.specs.declared.engine.Seen.{Seen}
use Rattle.tb_engine_check.specs.declared.engine.Seen.TheVariants as seen
use Rattle.tb_engine_check.specs.Outcomes.{CheckOutcome}
use Rattle.tb_engine_streams.specs.declared.outcome.Outcome.TheVariants.{Ended, Refused, ReadFault, WriteFault, NoMemory}
use Rattle.tb_compiled.specs.Promise.{Own}

-- the turn of a source
abbrev pub turn_of : List ℕ → Look → Turn
turn_of name look = record { name = name; look = look }

-- what came of sources
abbrev pub marks : Bool → Bool → Marks
marks refused unread = record { is_refused = refused; is_unread = unread }

module _ {S : Type 0} (own : Own) (reads : S → List ℕ → Result (List ℕ) InputError → S → Type 0) (settings : CheckSettings) where
  -- one more source was looked at
  looks_more : (s t u : S) (turns : List Turn) (turn : Turn) → Looks own reads settings s turns t → IsLook own reads settings t turn.name turn.look u
      → Looks own reads settings s (turns ++ turn ∷ []) u
  looks_more s t u [] turn same last = (u, subst (λ t. IsLook own reads settings t turn.name turn.look u) same last, refl)
  looks_more s t u (first ∷ turns) turn (r, one, others) last = (r, one, looks_more r t u turns turn others last)

  -- no source was told of yet
  told_none : (s : S) (names : List (List ℕ)) (old : Option (List ℕ)) → Told own reads settings s (take 0 names) old s old
  told_none s names old = record { turns = []; named = refl; looks = refl; wrote = Appends-nil old }

  -- one more source was told of
  told_more : (s t u : S) (names : List (List ℕ)) (i : ℕ) (old mid new : Option (List ℕ)) (name : List ℕ) (look : Look)
      → i < length names → name ≡ get_or names i [] → (told : Told own reads settings s (take i names) old t mid)
      → IsLook own reads settings t name look u → Appends mid new (said_of name look)
      → Told own reads settings s (take (i + 1) names) old u new
  told_more s t u names i old mid new name look within is told last wrote =
      record {
        turns = told.turns ++ turn_of name look ∷ [];
        named = map-append (λ t. t.name) told.turns (turn_of name look ∷ []) ∙ ap (λ l. l ++ name ∷ []) told.named
            ∙ ap (λ n. take i names ++ n ∷ []) is ∙ sym (take_more names i [] within);
        looks = looks_more s t u told.turns (turn_of name look) told.looks last;
        wrote = subst (Appends old new)
            (ap (λ l. flat_map said told.turns ++ l) (sym (append-nil (said_of name look))) ∙ sym (flat_map-append said told.turns (turn_of name look ∷ [])))
            (Appends-trans old mid new (flat_map said told.turns) (said_of name look) told.wrote wrote);
      }

  -- a source was read, and told of as far as its writer took it
  pub next_told : (s t : S) (name source read : List ℕ) (answer : Result Seen CheckOutcome) (old new : Option (List ℕ)) → source ≡ read
      → reads s name (Ok read) t → Tells own settings name source answer old new → ChecksNext own reads settings s name old answer t new
  next_told s t name source read (Ok answer) old new same gave (found, fits, are, tells, wrote, is) =
      (Saw source found fits, (subst (λ x. reads s name (Ok x) t) (sym same) gave, are, tells), wrote, is)
  next_told s t name source read (Err WriteFault) old new same gave (found, fits, are, tells, wrote) =
      (Saw source found fits, (subst (λ x. reads s name (Ok x) t) (sym same) gave, are, tells), wrote)
  next_told s t name source read (Err NoMemory) old new same gave kept = (Ok read, gave, kept)
  next_told s t name source read (Err (Ended end)) old new same gave none = absurd none
  next_told s t name source read (Err (Refused never)) old new same gave none = absurd none
  next_told s t name source read (Err ReadFault) old new same gave none = absurd none

  -- a check that stops at a source
  pub stopped : (s t u : S) (names : List (List ℕ)) (i : ℕ) (old mid new : Option (List ℕ)) (name : List ℕ) (e : CheckOutcome)
      → name ≡ get_or names i [] → Told own reads settings s (take i names) old t mid
      → ChecksNext own reads settings t name mid (Err e) u new → Checks own reads settings s names old e u new
  stopped s t u names i old mid new name WriteFault is told (look, looks, wrote) =
      (i, t, mid, told, look, subst (λ n. IsLook own reads settings t n look u) is looks, subst (λ n. AppendsPrefix mid new (said_of n look)) is wrote)
  stopped s t u names i old mid new name NoMemory is told (given, gave, kept) =
      (i, t, subst (Told own reads settings s (take i names) old t) (sym kept) told, given, subst (λ n. reads t n given u) is gave)
  stopped s t u names i old mid new name (Ended end) is told none = absurd none
  stopped s t u names i old mid new name (Refused never) is told none = absurd none
  stopped s t u names i old mid new name ReadFault is told none = absurd none

  -- a check whose sources were all told of
  pub ended : (refused unread : Bool) (s t : S) (names : List (List ℕ)) (old new : Option (List ℕ)) (told : Told own reads settings s names old t new)
      → marks refused unread ≡ marks_of told.turns → Checks own reads settings s names old (ending (marks refused unread)) t new
  ended refused true s t names old new told is = (told, ap ending is)
  ended true false s t names old new told is = (told, ap ending is)
  ended false false s t names old new told is = (told, ap ending is)

-- one that is not compiled, or one that could not be read
or_false : (b : Bool) → (b || false) ≡ b
or_false true = refl
or_false false = refl

or_true : (b : Bool) → (b || true) ≡ true
or_true true = refl
or_true false = refl

-- with a source that was read
seen_more : (refused unread b : Bool) → marked (marks refused unread) (if b then seen.Refused else seen.Accepted) ≡ marks (refused || b) unread
seen_more true unread true = refl
seen_more true unread false = refl
seen_more false unread true = refl
seen_more false unread false = refl

-- what came of all sources, with one more
marks_more : (turns : List Turn) (name : List ℕ) (look : Look) → marked (marks_of turns) (seen_of look) ≡ marks_of (turns ++ turn_of name look ∷ [])
marks_more turns name (Saw source found fits) =
    let refused = list_any (λ t. is_refusal t.look) turns in
    let unread = list_any (λ t. is_miss t.look) turns in
    let look = Saw source found fits in
    let turn = turn_of name look in
    seen_more refused unread (is_refusal look)
    ∙ ap (λ b. marks b unread) (ap (λ b. refused || b) (sym (or_false (is_refusal look))) ∙ sym (list_any-append (λ t. is_refusal t.look) turns (turn ∷ [])))
    ∙ ap (λ b. marks (list_any (λ t. is_refusal t.look) (turns ++ turn ∷ [])) b) (sym (or_false unread) ∙ sym (list_any-append (λ t. is_miss t.look) turns (turn ∷ [])))
marks_more turns name Missed =
    let refused = list_any (λ t. is_refusal t.look) turns in
    let unread = list_any (λ t. is_miss t.look) turns in
    let turn = turn_of name Missed in
    ap (λ b. marks b true) (sym (or_false refused) ∙ sym (list_any-append (λ t. is_refusal t.look) turns (turn ∷ [])))
    ∙ ap (λ b. marks (list_any (λ t. is_refusal t.look) (turns ++ turn ∷ [])) b) (sym (or_true unread) ∙ sym (list_any-append (λ t. is_miss t.look) turns (turn ∷ [])))

module _ {S : Type 0} (own : Own) (reads : S → List ℕ → Result (List ℕ) InputError → S → Type 0) (settings : CheckSettings) where
  -- sources were told of, and this is what came of them
  abbrev pub Stands : S → List (List ℕ) → Option (List ℕ) → S → Option (List ℕ) → Marks → Type 0
  Stands s names old t new m = (told : Told own reads settings s names old t new) × (m ≡ marks_of told.turns)

  -- before the first source
  pub stands_first : (s : S) (names : List (List ℕ)) (old : Option (List ℕ)) → Stands s (take 0 names) old s old (marks false false)
  unfolding told_none
  stands_first s names old = (told_none own reads settings s names old, refl)

  -- with one more source
  pub stands_more : (s t u : S) (names : List (List ℕ)) (i : ℕ) (old mid new : Option (List ℕ)) (name : List ℕ) (answer : Seen) (m n : Marks)
      → i < length names → name ≡ get_or names i [] → Stands s (take i names) old t mid m
      → ChecksNext own reads settings t name mid (Ok answer) u new → n ≡ marked m answer
      → Stands s (take (i + 1) names) old u new n
  unfolding told_more
  stands_more s t u names i old mid new name answer m n within is (told, are) (look, looks, wrote, seen) with_it = (
    told_more own reads settings s t u names i old mid new name look within is told looks wrote,
    with_it ∙ ap (λ m. marked m answer) are ∙ ap (marked (marks_of told.turns)) seen ∙ marks_more told.turns name look,
  )

  -- after the last source
  pub stands_last : (s t : S) (names : List (List ℕ)) (i : ℕ) (old new : Option (List ℕ)) (m : Marks) (e : CheckOutcome) → take i names ≡ names
      → Stands s (take i names) old t new m → e ≡ ending m → Checks own reads settings s names old e t new
  stands_last s t names i old new m e all stands is =
      let (told, are) = subst (λ l. Stands s l old t new m) all stands in
      subst (λ e. Checks own reads settings s names old e t new) (sym is) (ended own reads settings m.is_refused m.is_unread s t names old new told are)

-- the name of the source whose turn it is
pub named_at : (names : List (String Global)) (i : ℕ) (name : String Global) (text : List ℕ) → i < length names → name ≡ get_or names i name
    → text ≡ string_bytes name → text ≡ get_or (map string_bytes names) i []
named_at names i name text within is text_is = text_is ∙ ap string_bytes is ∙ sym (get_or-map string_bytes names i name [] within)
