-- Checkpoints keep their distance, and the newest of them is near.
use Rattle.std.proofs.Common.{◌≡◌, ℕ, zero, suc, ◌+◌, ◌-◌, ◌<◌, ◌≤◌, Bool, List, [], ◌∷◌, ◌++◌, length, take, slice_index_or}
use Rattle.std.proofs.Common.{refl, sym, ap, ◌∙◌, subst, inl, inr, arith}
use Rattle.std.proofs.lemmas.Bool.{cases_lt}
use Rattle.std.proofs.lemmas.List.{get_or_default, get_or-take, length-append, length-take, length-take-le}
use Rattle.std.proofs.lemmas.List.Edits.{remove-append_left}
use Rattle.std.proofs.lemmas.List.Elements.{All-take}
use Rattle.std.proofs.lemmas.List.Quantifiers.{all_pairs_push, all_pairs_remove}
use Rattle.tb_debug.specs.Begins.{EndsAt, IsNear, NoneBegins}
use Rattle.tb_debug.specs.Debuggers.{StandsOn}
use Rattle.tb_debug.specs.Runs.{Point, IsCheckpoint, IsFirst, IsOfRun, IsTyped, AreCheckpoints, AreSpaced, AreTyped, StaysOnRun, WithoutOne}
use Rattle.tb_debug.specs.Runs.{most_checkpoints, newest_events, spacing}
use Rattle.tb_debug.specs.declared.history.Checkpoint.{Checkpoint}
use Rattle.tb_debug.specs.declared.history.History.{History}
use Rattle.tb_debug.specs.declared.moment.Moment.{Moment}
use Rattle.tb_debug.specs.declared.moment.Reached.{Reached}
use Rattle.tb_debug.specs.declared.moment.Reached.TheVariants.{Line, Within, Ended, Limit}
use Rattle.tb_debug.specs.declared.debuggee.Debuggee.{Debuggee}
use Rattle.tb_debug.proofs.Keeping.{kept_later}

-- how many events come before one of these checkpoints
abbrev events_at : List Checkpoint → ℕ → Checkpoint → ℕ
events_at ks i d = (slice_index_or ks i d).moment.events

-- one checkpoint comes at least the spacing after another
abbrev Spaced : Checkpoint → Checkpoint → Type 0
Spaced k l = k.moment.events + spacing ≤ l.moment.events

-- ---- the newest

-- the newest checkpoint is the last of them all
newest_is : (first : Checkpoint) (ks : List Checkpoint) (d : Checkpoint) → events_at (first ∷ ks) (length ks) d ≡ newest_events first ks
newest_is first [] d = refl
newest_is first (k ∷ ks) d =
    let last : length (k ∷ ks) - 1 ≡ length ks = omega arith in
    ap (λ x. x.moment.events) (get_or_default (k ∷ ks) (length ks) d first (omega arith))
    ∙ ap (λ i. events_at (k ∷ ks) i first) (sym last)

-- none is later than the newest
none_later : (first : Checkpoint) (ks : List Checkpoint) (i : ℕ) (d : Checkpoint) → AreSpaced (first ∷ ks) → i < length (first ∷ ks)
    → events_at (first ∷ ks) i d ≤ newest_events first ks
none_later first ks i d spaced inside =
    let last = newest_is first ks d in
    elim (cases_lt i (length ks)) [
      | inl before ↦ let apart = spaced i (length ks) d before (omega arith) in omega (arith, apart, last)
      | inr there ↦
          let e : i ≡ length ks = omega (arith, there, inside) in
          let same = ap (λ j. events_at (first ∷ ks) j d) e in
          omega (arith, same, last)
    ]

-- ---- a checkpoint more

-- one alone has no neighbour
pub spaced_first : (k : Checkpoint) → AreSpaced (k ∷ [])
spaced_first k i j d before inside = absurd (omega (arith, before, inside))

spaced_more : (first : Checkpoint) (ks : List Checkpoint) (k : Checkpoint) → newest_events first ks + spacing ≤ k.moment.events → AreSpaced (first ∷ ks)
    → AreSpaced (first ∷ (ks ++ k ∷ []))
spaced_more first ks k due spaced =
    all_pairs_push Spaced (first ∷ ks) k spaced (λ i d inside. let few = none_later first ks i d spaced inside in omega (arith, few, due))

-- checkpoints with one more keep their distance, whether another is left out or not
pub spaced_kept : (first : Checkpoint) (old left : List Checkpoint) (k : Checkpoint) → (length old + 1 < most_checkpoints → left ≡ old)
    → (most_checkpoints ≤ length old + 1 → WithoutOne old left) → newest_events first old + spacing ≤ k.moment.events → AreSpaced (first ∷ old)
    → AreSpaced (first ∷ (left ++ k ∷ []))
spaced_kept first old left k all one due spaced =
    let more = spaced_more first old k due spaced in
    elim (cases_lt (length old + 1) most_checkpoints) [
      | inl few ↦ subst (λ ks. AreSpaced (first ∷ (ks ++ k ∷ []))) (sym (all few)) more
      | inr many ↦
          let w = one many in
          let inside : suc w.index < length (first ∷ (old ++ k ∷ [])) = omega (arith, w.inside, length-append old (k ∷ [])) in
          subst (λ ks. AreSpaced (first ∷ (ks ++ k ∷ []))) (sym w.others)
          (subst (λ ks. AreSpaced (first ∷ ks)) (remove-append_left old (k ∷ []) w.index w.inside)
          (all_pairs_remove Spaced (first ∷ (old ++ k ∷ [])) (suc w.index) inside more))
    ]

-- ---- back to a checkpoint

-- those up to a checkpoint keep their distance
pub spaced_taken : (first : Checkpoint) (ks : List Checkpoint) (n : ℕ) → AreSpaced (first ∷ ks) → AreSpaced (first ∷ take n ks)
spaced_taken first ks n spaced i j d before inside =
    let all = first ∷ ks in
    let many = length-take (suc n) all in
    let one = ap (λ x. x.moment.events) (get_or-take (suc n) all i d (omega (arith, before, inside, many))) in
    let other = ap (λ x. x.moment.events) (get_or-take (suc n) all j d (omega (arith, inside, many))) in
    let apart = spaced i j d before (omega (arith, inside, many)) in
    omega (arith, one, other, apart)

-- the newest of those up to a checkpoint is that checkpoint
pub newest_taken : (first : Checkpoint) (ks : List Checkpoint) (index : ℕ) (k : Checkpoint) → index < length ks + 1 → (index ≡ 0 → k ≡ first)
    → ((n : ℕ) (d : Checkpoint) → index ≡ n + 1 → k ≡ slice_index_or ks n d) → newest_events first (take index ks) ≡ k.moment.events
newest_taken first ks zero k inside none some = sym (ap (λ x. x.moment.events) (none refl))
newest_taken first ks (suc n) k inside none some =
    let last : length (take (suc n) ks) - 1 ≡ n = omega (arith, length-take-le (suc n) ks (omega (arith, inside))) in
    ap (λ j. events_at (take (suc n) ks) j first) last
    ∙ ap (λ x. x.moment.events) (get_or-take (suc n) ks n first (omega arith))
    ∙ sym (ap (λ x. x.moment.events) (some n first (omega arith)))

-- and all of them come no later
pub kept_taken : (marks : List Bool) (start : Point) (first : Checkpoint) (ks : List Checkpoint) (index n m : ℕ) → AreSpaced (first ∷ ks)
    → newest_events first (take index ks) ≡ m → AreCheckpoints marks start n ks → AreCheckpoints marks start m (take index ks)
kept_taken marks start first ks index n m spaced newest all i d inside =
    let whole = All-take (λ k. IsCheckpoint marks start k × (k.moment.events ≤ n)) index ks all in
    let few = none_later first (take index ks) (suc i) d (spaced_taken first ks index spaced) (omega (arith, inside)) in
    ((whole i d inside).0, omega (arith, few, newest))

-- ---- the newest is near

-- a way on that ends at no line has begun none
pub near_on : (marks : List Bool) (start : Point) (newest limit : ℕ) (m n : Moment) (reached : Reached) → ((reached ≡ Line) → ⊥)
    → EndsAt marks start limit m reached n → IsNear marks start newest m.events → IsNear marks start newest n.events
near_on marks start newest limit m n reached other ends near k inside comes =
    elim (cases_lt m.events k) [
      | inl behind ↦ let never = sym comes ∙ none reached other ends k behind (omega (arith, inside)) in absurd (cc)
      | inr before ↦ near k before comes
    ]
  where
    none : (reached : Reached) → ((reached ≡ Line) → ⊥) → EndsAt marks start limit m reached n → NoneBegins marks start m.events (suc n.events)
    none Line other ends = absurd (other refl)
    none Within other ends = absurd ends
    none (Ended why) other ends = ends.0
    none Limit other ends = ends.0

-- a way on after which a checkpoint was kept, if one was due
pub kept_on : (debuggee : Debuggee) (start : Point) (marks : List Bool) (old new : History) (m n : Moment) → StaysOnRun marks m n → new.first ≡ old.first
    → ((marks : List Bool) (start : Point) → IsOfRun marks start n → AreCheckpoints marks start n.events old.later.items
    → AreCheckpoints marks start n.events new.later.items) → (length old.later.items < most_checkpoints → length new.later.items < most_checkpoints)
    → (AreSpaced (old.first ∷ old.later.items) → AreSpaced (new.first ∷ new.later.items)) → n.events < newest_events new.first new.later.items + spacing
    → StandsOn debuggee start marks old m → StandsOn debuggee start marks new n
kept_on debuggee start marks old new m n on same later few spaced near h =
    let now = on.on start h.of_run in
    record {
      marked = h.marked;
      of_run = now;
      of_first = subst (IsFirst marks start) (sym same) h.of_first;
      of_past = later marks start now (kept_later marks start m.events n.events old.later.items on.later h.of_past);
      few = few h.few;
      spaced = spaced h.spaced;
      near = λ k inside comes. omega (arith, inside, near);
    }

-- ---- typing

typed_events : (more : List ℕ) (f g : Checkpoint) (ks ls : List Checkpoint) (i : ℕ) (d : Checkpoint) → IsTyped more f.moment g.moment → AreTyped more ks ls
    → i < length (f ∷ ks) → events_at (g ∷ ls) i d ≡ events_at (f ∷ ks) i d
typed_events more f g ks ls zero d first later inside = first.events
typed_events more f g ks ls (suc i) d first later inside = (later.each i d (omega (arith, inside))).events

-- checkpoints that are typed to keep their distance
pub spaced_typed : (more : List ℕ) (f g : Checkpoint) (ks ls : List Checkpoint) → IsTyped more f.moment g.moment → AreTyped more ks ls → AreSpaced (f ∷ ks)
    → AreSpaced (g ∷ ls)
spaced_typed more f g ks ls first later spaced i j d before inside =
    let many = later.many in
    let one = typed_events more f g ks ls i d first later (omega (arith, before, inside, many)) in
    let other = typed_events more f g ks ls j d first later (omega (arith, inside, many)) in
    let apart = spaced i j d before (omega (arith, inside, many)) in
    omega (arith, one, other, apart)

-- and the newest stays where it is
pub newest_typed : (more : List ℕ) (f g : Checkpoint) (ks ls : List Checkpoint) → IsTyped more f.moment g.moment → AreTyped more ks ls
    → newest_events g ls ≡ newest_events f ks
newest_typed more f g ks ls first later =
    sym (newest_is g ls g) ∙ ap (λ n. events_at (g ∷ ls) n g) later.many ∙ typed_events more f g ks ls (length ks) g first later (omega arith)
    ∙ newest_is f ks g
