-- Stretches of a run, and what is written of them.
use Rattle.std.proofs.Common.{◌≡◌, ◌⊎◌, inl, inr, ℕ, ◌+◌, ◌-◌, ◌*◌, ◌<◌, ◌≤◌, Bool, true, false, List, [], ◌∷◌, ◌++◌, Option, length, take, drop, refl, ap, sym, ◌∙◌, subst, arith}
use Rattle.std.proofs.Common.{length-append, append_assoc, append-nil, nat_le}
use Rattle.std.proofs.lemmas.Bool.Decides.{nat_tests}
use Rattle.std.proofs.Math.Seq.{take-append-add, drop-append_seam, drop-append-add, drop-length}
use Rattle.std.proofs.lemmas.List.{take-append-drop, drop-append-le, length-drop}
use Rattle.std.proofs.lemmas.List.Concat.{flat_map-append}
use Rattle.std.proofs.KnownBytes.{Appends-trans, Appends-nil}
use Rattle.std.specs.Prelude.{Result, Ok, Err}
use Rattle.std.specs.Io.KnownBytes.{Appends}
use Rattle.std.specs.declared.alloc.AllocError.{AllocError}
use Rattle.tb_kernal.specs.declared.events.Event.{Event}
use Rattle.tb_kernal.specs.declared.status.Status.{Status}
use Rattle.tb_kernal.specs.declared.status.Status.TheVariants.{Running}
use Rattle.tb_kernal.specs.Machine.{Content, state_of, status, is_lawful}
use Rattle.tb_kernal.specs.Runs.{Answered, Gave, KeepsRoom, RanOver, run}
use Rattle.tb_kernal.specs.Sending.{KnowsLast, last_of, with_earlier}
use Rattle.tb_kernal.proofs.Giving.{gave_room}
use Rattle.tb_kernal.proofs.Sending.{ran_alike, run_sends}
use Rattle.tb_basic_text.specs.declared.notation.Notation.{Notation}
use Rattle.tb_engine_streams.specs.HostForm.{shown_as, shown_byte}
use Rattle.tb_engine_streams.specs.Streams.{AppendsPrefix}
use Rattle.tb_engine_streams.specs.Uses.{Use}
use Rattle.tb_engine_streams.proofs.Written.{cut}
use Rattle.tb_kernal.specs.Hearing.{Began, STRETCH, Telling}
use Rattle.tb_kernal.proofs.Stretches.{Taken, begins}
use Rattle.tb_engines.specs.Writing.{IsWritten, RanStretch, WritesMore, kept_sent, sent_since}

module _ {O : Type 0} (gives : O → Content → Event → O → Type 0) where
  -- what was sent after a run is what was sent before it, and then what was sent in it
  pub run_adds : (o : O) (m : Content) (limit : ℕ) (r : Result Status AllocError) (p : O) (n : Content) → RanOver gives o m limit r p n
      → n.sent ≡ m.sent ++ sent_since m n
  run_adds o m limit r p n ran =
      let more = run_sends ran.events (state_of m) in
      let whole : n.sent ≡ m.sent ++ more.fresh = ap (λ s. s.sent) ran.ran ∙ more.comes in
      let fresh : sent_since m n ≡ more.fresh = ap (drop (length m.sent)) whole ∙ drop-append_seam m.sent more.fresh in
      whole ∙ ap (λ l. m.sent ++ l) (sym fresh)

  -- a run makes what was sent no shorter
  pub run_longer : (o : O) (m : Content) (limit : ℕ) (r : Result Status AllocError) (p : O) (n : Content) → RanOver gives o m limit r p n
      → length m.sent ≤ length n.sent
  run_longer o m limit r p n ran =
      let e = ap length (run_adds o m limit r p n ran) ∙ length-append m.sent (sent_since m n) in omega (arith, e)

  -- a run of as many events as there is room for is never refused for memory
  pub has_room : (o : O) (m : Content) (limit : ℕ) (e : AllocError) (p : O) (n : Content) → RanOver gives o m limit (Err e) p n
      → KeepsRoom m n → limit ≤ m.room → ⊥
  has_room o m limit e p n ran kept enough =
      let more = run_sends ran.events (state_of m) in
      let whole = ap (λ s. length s.sent) ran.ran ∙ ap length more.comes ∙ length-append m.sent more.fresh in
      let few = more.few in
      let none = ran.answer.1 in
      let fewer = ran.answer.2 in
      omega (arith, whole, few, none, fewer, kept, enough)

  -- a run leads to any machine in the same state
  pub ran_to : (o : O) (m : Content) (limit : ℕ) (t : Status) (p : O) (n k : Content) → RanOver gives o m limit (Ok t) p n → state_of k ≡ state_of n
      → RanOver gives o m limit (Ok t) p k
  ran_to o m limit t p n k ran same =
      record {
        events = ran.events;
        few = ran.few;
        gave = gave_room gives ran.events o m p n k ran.gave same;
        ran = same ∙ ran.ran;
        lawful = ran.lawful;
        answer = subst (λ s. (t ≡ status s) × (t ≡ Running → length ran.events ≡ limit)) (sym same) ran.answer;
      }

-- what was sent of a machine that had forgotten a part
known_on : (enough : Bool) (earlier before whole : List ℕ) → nat_le kept_sent (length whole) ≡ enough → length before ≤ length whole
    → KnowsLast kept_sent earlier before → KnowsLast kept_sent (earlier ++ take (length whole - kept_sent) whole) (last_of kept_sent whole)
known_on true earlier before whole test longer known =
    let enough : kept_sent ≤ length whole = grind (arith, nat_tests) in
    let left = length-drop (length whole - kept_sent) whole in
    inr (omega (arith, enough, left))
known_on false earlier before whole test longer (inl none) =
    let short : length whole < kept_sent = grind (arith, nat_tests) in
    let nothing : length whole - kept_sent ≡ 0 = omega (arith, short) in
    inl (ap (λ n. earlier ++ take n whole) nothing ∙ append-nil earlier ∙ none)
known_on false earlier before whole test longer (inr many) =
    let short : length whole < kept_sent = grind (arith, nat_tests) in
    let never : ⊥ = omega (arith, short, longer, many) in absurd never

-- what is known of what was sent after a stretch whose end is kept
pub knows : (earlier before whole : List ℕ) → length before ≤ length whole → KnowsLast kept_sent earlier before
    → KnowsLast kept_sent (earlier ++ take (length whole - kept_sent) whole) (last_of kept_sent whole)
knows earlier before whole = known_on (nat_le kept_sent (length whole)) earlier before whole refl

-- what is forgotten and what is kept are all that was sent
pub rejoined : (earlier whole : List ℕ) → (earlier ++ take (length whole - kept_sent) whole) ++ last_of kept_sent whole ≡ earlier ++ whole
rejoined earlier whole =
    append_assoc earlier (take (length whole - kept_sent) whole) (last_of kept_sent whole)
    ∙ ap (λ l. earlier ++ l) (take-append-drop (length whole - kept_sent) whole)

-- ---- what is written

-- a stream's use
abbrev pub used : Option (List ℕ) → Option (List ℕ) → ℕ → ℕ → Use
used old new old_failures new_failures = record { old = old; new = new; old_failures = old_failures; new_failures = new_failures }

-- what was written before and what is written of one more text
pub written_on : (was is : Bool) (a b c : Option (List ℕ)) (f g h : ℕ) (text more : List ℕ) → IsWritten was (used a b f g) text
    → WritesMore was is (used b c g h) more → IsWritten is (used a c f h) (text ++ more)
written_on true true a b c f g h text more (before, sound) (since, still) = (Appends-trans a b c _ _ before since, still ∙ sound)
written_on true false a b c f g h text more (before, sound) ((k, since), failed) = (
  (length text + k, subst (Appends a c) (sym (take-append-add text more k)) (Appends-trans a b c _ _ before since)),
  λ same. failed (same ∙ sym sound),
)
written_on false true a b c f g h text more before after = let no : true ≡ false = after.0 in absurd (cc)
written_on false false a b c f g h text more ((k, before), failed) after =
    let (j, cut_off) = cut k text more in (
      (j, subst (Appends a c) (sym cut_off) (subst (λ x. Appends a x (take k text)) (sym after.1) before)),
      λ sound. failed (sym after.2 ∙ sound),
    )

-- what was sent since a run's beginning, and what was sent in a stretch after it
pub since_on : (notation : Notation) (m : Content) (before after : List ℕ) (fresh : List ℕ) → length m.sent ≤ length before → after ≡ before ++ fresh
    → shown_as notation (drop (length m.sent) after) ≡ shown_as notation (drop (length m.sent) before) ++ shown_as notation fresh
since_on notation m before after fresh longer is =
    ap (λ l. shown_as notation (drop (length m.sent) l)) is ∙ ap (shown_as notation) (drop-append-le (length m.sent) before fresh longer)
    ∙ flat_map-append (shown_byte notation) (drop (length m.sent) before) fresh

-- ---- a stretch after others

module _ {O W : Type 0} (gives : O → Content → Event → O → Type 0) (hears : W → Telling → W → Type 0)
    (law : (o : O) (m : Content) (e : Event) (p : O) → gives o m e p → is_lawful (state_of m) e ≡ true)
    (blind : (o : O) (m : Content) (e : Event) (p : O) (sent : List ℕ) → gives o m e p → gives o (record m { sent = sent }) e p) where
  -- what holds between two stretches: how far the run is, what is known of what was sent and what is written of it
  pub record Between (o : O) (m : Content) (w : W) (limit left : ℕ) (p : O) (n : Content) (v : W) (notation : Notation) (is : Bool) (writer : Use) : Type 0 where
    pub earlier : List ℕ
    pub taken : Taken gives hears law o m w limit left p (with_earlier earlier n) v
    pub known : KnowsLast kept_sent earlier n.sent
    pub wrote : IsWritten is writer (shown_as notation (sent_since m (with_earlier earlier n)))
    pub longer : length m.sent ≤ length (with_earlier earlier n).sent
    pub room : STRETCH ≤ n.room
    pub spare : STRETCH + kept_sent ≤ n.room + length n.sent

  -- before the first stretch, with room for it
  pub begun : (o : O) (m n : Content) (w v : W) (limit : ℕ) (notation : Notation) (writer : Use) → n ≡ record m { room = n.room } → STRETCH + kept_sent ≤ n.room → hears w Began v
      → writer.new ≡ writer.old → writer.new_failures ≡ writer.old_failures → Between o m w limit limit o n v notation true writer
  begun o m n w v limit notation writer same room told kept sound =
      let sent : n.sent ≡ m.sent = ap (λ x. x.sent) same in
      let nothing : sent_since m (with_earlier [] n) ≡ [] = ap (drop (length m.sent)) sent ∙ drop-length m.sent in
      let long : length m.sent ≡ length n.sent = ap length (sym sent) in record {
        earlier = [];
        taken = begins gives hears law o m (with_earlier [] n) w v limit (ap state_of same) told;
        known = inl refl;
        wrote = (subst (λ text. Appends writer.old writer.new (shown_as notation text)) (sym nothing) (subst (λ x. Appends writer.old x []) (sym kept) (Appends-nil writer.old)), sound);
        longer = omega (arith, long);
        room = omega (arith, room);
        spare = omega (arith, room);
      }

  -- one stretch more: the run of the machine with all that it sent
  pub record Onward (o : O) (m : Content) (limit stretch : ℕ) (t : Status) (p : O) (n : Content) (q : O) (k : Content) (notation : Notation) (is : Bool) (writer : Use) (earlier : List ℕ) : Type 0 where
    pub earlier' : List ℕ
    pub ran : RanOver gives p (with_earlier earlier n) stretch (Ok t) q (with_earlier earlier' k)
    pub known : KnowsLast kept_sent earlier' k.sent
    pub wrote : IsWritten is writer (shown_as notation (sent_since m (with_earlier earlier' k)))
    pub longer : length m.sent ≤ length (with_earlier earlier' k).sent
    pub room : STRETCH ≤ k.room
    pub spare : STRETCH + kept_sent ≤ k.room + length k.sent

  pub onward : (o : O) (m : Content) (w : W) (limit left stretch : ℕ) (t : Status) (p : O) (n : Content) (v : W) (q : O) (k : Content) (notation : Notation) (was is : Bool)
      (a b c : Option (List ℕ)) (f g h : ℕ) → (between : Between o m w limit left p n v notation was (used a b f g))
      → RanStretch gives p n stretch t q k notation was is (used b c g h) → Onward o m limit stretch t p n q k notation is (used a c f h) between.earlier
  onward o m w limit left stretch t p n v q k notation was is a b c f g h between done =
      let whole = done.whole in
      let earlier = between.earlier in
      let earlier' = earlier ++ take (length whole.sent - kept_sent) whole.sent in
      let sent : k.sent ≡ last_of kept_sent whole.sent = ap (λ x. x.sent) done.rest in
      let all : earlier' ++ k.sent ≡ earlier ++ whole.sent = ap (λ l. earlier' ++ l) sent ∙ rejoined earlier whole.sent in
      let same : state_of (with_earlier earlier' k) ≡ state_of (with_earlier earlier whole) =
      ap (λ x. state_of (record x { sent = earlier' ++ k.sent })) done.rest ∙ ap (λ l. state_of (record whole { sent = l })) all in
      let lifted = ran_alike gives blind p n stretch (Ok t) q whole earlier done.ran in
      let adds : whole.sent ≡ n.sent ++ sent_since n whole = run_adds gives p n stretch (Ok t) q whole done.ran in
      let further : earlier' ++ k.sent ≡ (earlier ++ n.sent) ++ sent_since n whole =
      all ∙ ap (λ l. earlier ++ l) adds ∙ sym (append_assoc earlier n.sent (sent_since n whole)) in
      let grown : length n.sent ≤ length whole.sent = run_longer gives p n stretch (Ok t) q whole done.ran in
      let known = subst (KnowsLast kept_sent earlier') (sym sent) (knows earlier n.sent whole.sent grown between.known) in
      let texts = since_on notation m (earlier ++ n.sent) (earlier' ++ k.sent) (sent_since n whole) between.longer further in
      let few : length k.sent ≤ kept_sent = (let left = ap length sent ∙ length-drop (length whole.sent - kept_sent) whole.sent in omega (arith, left)) in
      let kept = done.room in
      let spare = between.spare in
      let more = ap length further ∙ length-append (earlier ++ n.sent) (sent_since n whole) in
      let longer = between.longer in record {
        earlier' = earlier';
        ran = ran_to gives p (with_earlier earlier n) stretch t q (with_earlier earlier whole) (with_earlier earlier' k) lifted same;
        known = known;
        wrote = subst (IsWritten is (used a c f h)) (sym texts) (written_on was is a b c f g h _ _ between.wrote done.wrote);
        longer = omega (arith, more, longer);
        room = omega (arith, kept, spare, few);
        spare = omega (arith, kept, spare);
      }
