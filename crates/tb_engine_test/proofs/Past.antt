-- A machine that goes on until more is sent than a place allows.
use Rattle.std.proofs.Common.{zero, suc, true, map, min, take, ◌≡◌, ◌⊎◌, ◌≤◌, ◌+◌, ℕ, Ok, List, [], ◌∷◌, ◌++◌, length, refl, ap, ◌∙◌, arith, length-append}
use Rattle.tb_kernal.specs.declared.events.Event.{Event}
use Rattle.tb_kernal.specs.declared.status.Status.{Status}
use Rattle.tb_kernal.specs.declared.status.Status.TheVariants.{Running, Waits, Returned, Wrong}
use Rattle.tb_kernal.specs.Machine.{Content, is_running, state_of, status}
use Rattle.tb_kernal.specs.Runs.{Answered, Gave, RanOver}
use Rattle.tb_kernal.proofs.Giving.{gave_all}
use Rattle.tb_engines.specs.Writing.{sent_since}
use Rattle.tb_engines.proofs.Stretched.{run_adds, run_longer, since_on}
use Rattle.tb_kernal.specs.Typing.{with_more}
use Rattle.tb_engine_play.specs.Lines.{keys_of_text}
use Rattle.tb_engine_profile_table.specs.declared.rows.Row.{Row}
use Rattle.tb_engine_streams.specs.HostForm.{shown_as}
use Rattle.tb_engine_test.specs.Places.{TypedTo}
use Rattle.tb_engine_test.specs.Talks.{Goes}
use Rattle.tb_engine_test.specs.declared.talk.Manner.{Manner}

-- ---- lines that are typed

-- whatever is typed from here on, it was typed behind the lines before
abbrev pub TypesOn : {O : Type 0} → (O → Content → Event → O → Type 0) → O → Content → Manner → List (List ℕ) → O → Content → List (List ℕ) → Type 0
TypesOn {O} gives o m manner lines q k rest =
    (p : O) (n : Content) → TypedTo gives q k manner rest p n → TypedTo gives o m manner lines p n

-- one more line was typed
pub types_more : {O : Type 0} (gives : O → Content → Event → O → Type 0) (o : O) (m : Content) (manner : Manner) (lines : List (List ℕ)) (q : O) (k : Content)
    (line : List ℕ) (rest : List (List ℕ)) (t : Status) (sent : List ℕ) (rows : List Row) (r : O) (w typed : Content)
    → TypesOn gives o m manner lines q k (line ∷ rest) → Goes gives q k manner t sent rows r w → state_of typed ≡ with_more (keys_of_text line) (state_of w)
    → TypesOn gives o m manner lines r typed rest
types_more gives o m manner lines q k line rest t sent rows r w typed before goes more p n after = before p n (t, sent, rows, r, w, typed, goes, more, after)

-- ---- single events

-- so many events were given, what they sent leaves so much room, and so it was before the last one
pub record Passes {O : Type 0} (gives : O → Content → Event → O → Type 0) (o : O) (m : Content) (manner : Manner) (room : ℕ) (q : O) (k : Content) (left count : ℕ) : Type 0 where
  pub events : List Event
  pub counted : length events ≡ count
  pub gave : Gave gives o m events q k
  pub longer : length m.sent ≤ length k.sent
  pub shown : length (shown_as manner.notation (sent_since m k)) + left ≡ room
  pub first : (events ≡ []) ⊎
      ((earlier : List Event) × (r : O) × (j : Content) × Gave gives o m earlier r j × (length earlier + 1 ≡ length events)
      × (length (shown_as manner.notation (sent_since m j)) ≤ room))

-- a run of one event that begins running took it
one_taken : {O : Type 0} (gives : O → Content → Event → O → Type 0) (q : O) (k : Content) (es : List Event) (t : Status) (p : O) (n : Content)
    → length es ≤ 1 → Gave gives q k es p n → Answered (Ok t) n (length es) 1 → status (state_of k) ≡ Running → length es ≡ 1
one_taken gives q k [] t p n few gave (is, full) running = full (is ∙ ap status gave.1 ∙ running)
one_taken gives q k (e ∷ []) t p n few gave answer running = refl
one_taken gives q k (e ∷ f ∷ es) t p n few gave answer running = absurd (omega (arith, few))

-- one event more
pub past_more : {O : Type 0} (gives : O → Content → Event → O → Type 0) (o : O) (m : Content) (manner : Manner) (room : ℕ) (q : O) (k : Content) (left count : ℕ) (t : Status) (p : O) (n : Content)
    → Passes gives o m manner room q k left count → status (state_of k) ≡ Running → RanOver gives q k 1 (Ok t) p n
    → (events : List Event) × (length events ≡ count + 1) × Gave gives o m events p n × (length m.sent ≤ length n.sent)
    × (length (shown_as manner.notation (sent_since m n)) + left ≡ room + length (shown_as manner.notation (sent_since k n)))
    × ((earlier : List Event) × (r : O) × (j : Content) × Gave gives o m earlier r j × (length earlier + 1 ≡ length events)
    × (length (shown_as manner.notation (sent_since m j)) ≤ room))
past_more gives o m manner room q k left count t p n before running ran =
    let one = one_taken gives q k ran.events t p n ran.few ran.gave ran.answer running in
    let all = gave_all gives before.events ran.events o m q k p n before.gave ran.gave in
    let long = length-append before.events ran.events in
    let counted = before.counted in
    let grown = run_longer gives q k 1 (Ok t) p n ran in
    let longer = before.longer in
    let texts = since_on manner.notation m k.sent n.sent (sent_since k n) longer (run_adds gives q k 1 (Ok t) p n ran) in
    let sizes = ap length texts ∙ length-append (shown_as manner.notation (sent_since m k)) (shown_as manner.notation (sent_since k n)) in
    let shown = before.shown in
    let many : length (before.events ++ ran.events) ≡ count + 1 = omega (arith, one, long, counted) in (
      before.events ++ ran.events,
      many,
      all,
      omega (arith, grown, longer),
      omega (arith, sizes, shown),
      (before.events, q, k, before.gave, omega (arith, many, counted), omega (arith, shown)),
    )

-- a machine that runs has the status of that name
pub runs : (t : Status) → is_running t ≡ true → t ≡ Running
runs Running h = refl
runs Waits h = absurd (cc)
runs Returned h = absurd (cc)
runs (Wrong w) h = absurd (cc)

-- the first lines of a list, as many as there are
pub typed_before : {A B : Type 0} (f : A → B) (xs : List A) (turn : ℕ) → map f (take (min turn (length xs)) xs) ≡ take turn (map f xs)
typed_before f xs zero = let none : min zero (length xs) ≡ zero = omega arith in ap (λ k. map f (take k xs)) none
typed_before f [] (suc turn) = let none : min (suc turn) 0 ≡ 0 = omega arith in ap (λ k. map f (take k [])) none
typed_before f (x ∷ xs) (suc turn) =
    let on : min (suc turn) (length (x ∷ xs)) ≡ suc (min turn (length xs)) = omega arith in
    ap (λ k. map f (take k (x ∷ xs))) on ∙ ap (λ rest. f x ∷ rest) (typed_before f xs turn)
