-- One more line of a talk.
use Rattle.std.proofs.Common.{◌≡◌, ◌≢◌, ℕ, true, false, inl, inr, ◌⊎◌, ◌<◌, Err, ◌+◌, List, [], ◌∷◌, ◌++◌, Option, length}
use Rattle.std.proofs.Common.{take, refl, sym, ap, subst, ◌∙◌, append-nil, append_assoc}
use Rattle.std.proofs.KnownBytes.{Appends-trans, Appends-kept, Appends-nil}
use Rattle.std.proofs.Math.Seq.{take-append-add}
use Rattle.std.specs.Prelude.{flat_map}
use Rattle.std.specs.Io.KnownBytes.{Appends}
use Rattle.tb_kernal.specs.declared.status.Status.{Status}
use Rattle.tb_kernal.specs.declared.status.Status.TheVariants.{Running, Waits, Returned, Wrong}
use Rattle.tb_engines.specs.Outcomes.{Outcome}
use Rattle.tb_engine_streams.specs.declared.outcome.Outcome.TheVariants.{Ended, Refused, ReadFault, WriteFault, NoMemory}
use Rattle.tb_kernal.specs.Machine.{Content, state_of}
use Rattle.tb_kernal.specs.Typing.{with_more}
use Rattle.tb_engine_streams.specs.HostForm.{host_byte, host_form_of}
use Rattle.tb_engine_streams.specs.Streams.{AppendsPrefix}
use Rattle.tb_engine_streams.specs.Uses.{Use}
use Rattle.tb_engine_streams.specs.Lines.{TakesLine, TakesNothing, TakesPart}
use Rattle.tb_engine_play.specs.Lines.{most_typed, keys_of, typed_of, TakesLines, TakesSome}
use Rattle.tb_engine_play.specs.Talks.{Stretch, Talked, IsAfterLines, Comes, Stops, Plays, Leaves, WritesBeforeReading, GoesOn, Hears, is_waiting}
use Rattle.tb_engines.specs.Writing.{sent_since}
use Rattle.tb_engine_play.proofs.Sending.{stretch_sends}

-- a stream's use
abbrev used : Option (List ℕ) → Option (List ℕ) → ℕ → ℕ → Use
used old new old_failures new_failures = record { old = old; new = new; old_failures = old_failures; new_failures = new_failures }

flat_map_append : (f : ℕ → List ℕ) (xs ys : List ℕ) → flat_map f (xs ++ ys) ≡ flat_map f xs ++ flat_map f ys
flat_map_append f [] ys = refl
flat_map_append f (x ∷ xs) ys = ap (λ l. f x ++ l) (flat_map_append f xs ys) ∙ sym (append_assoc (f x) (flat_map f xs) (flat_map f ys))

-- what is typed of lines and one more line
pub typed_more : (lines : List (List ℕ)) (line : List ℕ) → typed_of (lines ++ line ∷ []) ≡ typed_of lines ++ keys_of line
typed_more [] line = append-nil (keys_of line)
typed_more (l ∷ lines) line = ap (λ x. keys_of l ++ x) (typed_more lines line) ∙ sym (append_assoc (keys_of l) (typed_of lines) (keys_of line))

talked_more : (limit : ℕ) (lines : List (List ℕ)) (m n w typed : Content) (line : List ℕ) → Talked limit m lines n → Stretch limit n Waits w
    → state_of typed ≡ with_more (keys_of line) (state_of w) → Talked limit m (lines ++ line ∷ []) typed
talked_more limit [] m n w typed line same ran more = (w, typed, subst (λ x. Stretch limit x Waits w) same ran, more, refl)
talked_more limit (l ∷ lines) m n w typed line (v, next, before, then, rest) ran more =
    (v, next, before, then, talked_more limit lines next n w typed line rest ran more)

-- taking lines of a reader and then one more line is taking them all
pub taken_more : (lines : List (List ℕ)) (line : List ℕ) (had mid left : Option (List ℕ)) → TakesLines had lines mid → TakesLine mid line left
    → TakesLines had (lines ++ line ∷ []) left
taken_more [] line had mid left same last = (left, subst (λ x. TakesLine x line left) same last, refl)
taken_more (l ∷ lines) line had mid left (next, first, rest) last = (next, first, taken_more lines line next mid left rest last)

-- what was written before and after a stretch is the host form of all that was sent
pub written_more : (limit : ℕ) (m n : Content) (t : Status) (a b c : Option (List ℕ)) → Stretch limit m t n
    → Appends a b (host_form_of m.sent) → Appends b c (host_form_of (sent_since m n)) → Appends a c (host_form_of n.sent)
written_more limit m n t a b c ran before since =
    let whole = ap host_form_of (stretch_sends limit m n t ran) ∙ flat_map_append host_byte m.sent (sent_since m n) in
    subst (Appends a c) (sym whole) (Appends-trans a b c _ _ before since)

-- what was written after a stretch is a prefix of the host form of all that was sent, if only a prefix of the stretch's
-- part was written
pub written_part : (limit : ℕ) (m n : Content) (t : Status) (a b c : Option (List ℕ)) → Stretch limit m t n
    → Appends a b (host_form_of m.sent) → AppendsPrefix b c (host_form_of (sent_since m n)) → AppendsPrefix a c (host_form_of n.sent)
written_part limit m n t a b c ran before (k, since) =
    let whole = ap host_form_of (stretch_sends limit m n t ran) ∙ flat_map_append host_byte m.sent (sent_since m n) in
    let shown = host_form_of m.sent in
    let cut = ap (take (length shown + k)) whole ∙ take-append-add shown (host_form_of (sent_since m n)) k in
    (length shown + k, subst (Appends a c) (sym cut) (Appends-trans a b c _ _ before since))

-- a talk goes on by a stretch
pub comes : (limit : ℕ) (m : Content) (lines : List (List ℕ)) (n w : Content) (t : Status) (keys writer : Use)
    → IsAfterLines limit m lines n keys writer → Stretch limit n t w → Comes limit m lines t w keys.old keys.new
comes limit m lines n w t keys writer after ran = record { typed = n; talked = after.talked; stretch = ran; taken = after.taken }

-- and by a line that is read and typed
pub after_more : (limit : ℕ) (m : Content) (lines : List (List ℕ)) (line : List ℕ) (n w typed : Content) (had mid left old now new : Option (List ℕ))
    (read read' read'' wrote wrote' wrote'' : ℕ)
    → IsAfterLines limit m lines n (used had mid read read') (used old now wrote wrote') → Stretch limit n Waits w
    → Appends now new (host_form_of (sent_since n w)) → TakesLine mid line left → state_of typed ≡ with_more (keys_of line) (state_of w)
    → IsAfterLines limit m (lines ++ line ∷ []) typed (used had left read read'') (used old new wrote wrote'')
after_more limit m lines line n w typed had mid left old now new read read' read'' wrote wrote' wrote'' after ran since took more =
    let same : typed.sent ≡ w.sent = ap (λ s. s.sent) more in
    record {
      talked = talked_more limit lines m n w typed line after.talked ran more;
      taken = taken_more lines line had mid left after.taken took;
      written = subst (λ x. Appends old new (host_form_of x)) (sym same) (written_more limit n w Waits old now new ran after.written since);
    }

-- a machine that doesn't wait reads no more lines
pub stops : (t : Status) (had left : Option (List ℕ)) → is_waiting t ≡ false → left ≡ had → Stops t had left
stops Running had left h same = same
stops Waits had left h same = absurd (cc)
stops Returned had left h same = same
stops (Wrong w) had left h same = same

-- the machine that waits has the status of its own name
pub waits : (t : Status) → is_waiting t ≡ true → t ≡ Waits
waits Running h = absurd (cc)
waits Waits h = refl
waits Returned h = absurd (cc)
waits (Wrong w) h = absurd (cc)

-- a talk that ends while the machine runs on or its output is written
pub went_wrong : (limit : ℕ) (m n w : Content) (lines : List (List ℕ)) (outcome : Outcome) (first wrote wrote' : ℕ) (typed : List ℕ)
    (old now new : Option (List ℕ)) (keys : Use) → IsAfterLines limit m lines n keys (used old now first wrote)
    → GoesOn limit n (Err outcome) w (used now new wrote wrote') → Plays limit m outcome typed keys (used old new first wrote')
went_wrong limit m n w lines WriteFault first wrote wrote' typed old now new keys after (t, ran, part, same) =
    (lines, t, w, comes limit m lines n w t keys (used old now first wrote) after ran, written_part limit n w t old now new ran after.written part)
went_wrong limit m n w lines NoMemory first wrote wrote' typed old now new keys after (kept, same) =
    inl (lines, n, record { talked = after.talked; taken = after.taken; written = Appends-kept old now new (host_form_of n.sent) after.written kept })
went_wrong limit m n w lines (Ended end) first wrote wrote' typed old now new keys after h = absurd h
went_wrong limit m n w lines (Refused e) first wrote wrote' typed old now new keys after h = absurd h
went_wrong limit m n w lines ReadFault first wrote wrote' typed old now new keys after h = absurd h

-- a talk that ends while a line is read
pub heard_wrong : (limit : ℕ) (m w n : Content) (lines : List (List ℕ)) (outcome : Outcome) (first read read' : ℕ) (typed typed' : List ℕ)
    (had mid left : Option (List ℕ)) (writer : Use) → Comes limit m lines Waits w had mid → Appends writer.old writer.new (host_form_of w.sent)
    → typed ≡ typed_of lines → read ≡ first → Hears w typed (Err outcome) n typed' (used mid left read read')
    → Plays limit m outcome typed' (used had left first read') writer
heard_wrong limit m w n lines ReadFault first read read' typed typed' had mid left writer came written same sound (line, took, why, _) =
    let P : ℕ → List ℕ → Type 0 = λ x y. (read' ≢ x) ⊎ ((most_typed < length y + length (keys_of line)) × TakesSome mid line left) in
    (lines, w, mid, line, came, took, subst (λ y. P first y) same (subst (λ x. P x typed) sound why), written)
heard_wrong limit m w n lines NoMemory first read read' typed typed' had mid left writer came written same sound (line, took, _, _) =
    inr (lines, w, mid, line, came, took, written)
heard_wrong limit m w n lines (Ended end) first read read' typed typed' had mid left writer came written same sound h = absurd h
heard_wrong limit m w n lines (Refused e) first read read' typed typed' had mid left writer came written same sound h = absurd h
heard_wrong limit m w n lines WriteFault first read read' typed typed' had mid left writer came written same sound h = absurd h

-- ---- the machine that is left

-- nothing is said of it where the machine could not run on, or what it sent was not written whole
pub left_running : (limit : ℕ) (m n w x : Content) (outcome : Outcome) (typed : List ℕ) (writer : Use)
    → GoesOn limit n (Err outcome) w writer → Leaves limit m outcome typed x
left_running limit m n w x WriteFault typed writer h = tt
left_running limit m n w x NoMemory typed writer h = tt
left_running limit m n w x (Ended end) typed writer h = absurd h
left_running limit m n w x (Refused e) typed writer h = absurd h
left_running limit m n w x ReadFault typed writer h = absurd h

-- and where a line could not be read
pub left_hearing : (limit : ℕ) (m n w x : Content) (outcome : Outcome) (before after typed : List ℕ) (keys : Use)
    → Hears n before (Err outcome) w after keys → Leaves limit m outcome typed x
left_hearing limit m n w x ReadFault before after typed keys h = tt
left_hearing limit m n w x NoMemory before after typed keys h = tt
left_hearing limit m n w x (Ended end) before after typed keys h = absurd h
left_hearing limit m n w x (Refused e) before after typed keys h = absurd h
left_hearing limit m n w x WriteFault before after typed keys h = absurd h

-- ---- written before the next line is read

-- a line of which some is taken is taken after all that was sent by then is written
pub reads_after : (limit : ℕ) (m n : Content) (lines : List (List ℕ)) (line : List ℕ) (had mid left old new : Option (List ℕ))
    → Comes limit m lines Waits n had mid → TakesPart mid line left → Appends old new (host_form_of n.sent)
    → WritesBeforeReading limit m (used had left 0 0) (used old new 0 0)
reads_after limit m n lines line had mid left old new came took written =
    inr (lines, n, mid, line, came, took, ([], subst (Appends old new) (sym (append-nil (host_form_of n.sent))) written))

-- what was written stays written if more is
pub still_written : (limit : ℕ) (m : Content) (had left old now new : Option (List ℕ)) (text : List ℕ)
    → WritesBeforeReading limit m (used had left 0 0) (used old now 0 0) → Appends now new text
    → WritesBeforeReading limit m (used had left 0 0) (used old new 0 0)
still_written limit m had left old now new text (inl same) more = inl same
still_written limit m had left old now new text (inr (lines, n, mid, line, came, took, (before, written))) more =
    inr (
      lines,
      n,
      mid,
      line,
      came,
      took,
      (before ++ text, subst (Appends old new) (append_assoc (host_form_of n.sent) before text) (Appends-trans old now new _ text written more)),
    )

-- and so if the machine could not run on, or what it sent was not written whole
pub still_written_wrong : (limit : ℕ) (m n w : Content) (outcome : Outcome) (had left old now new : Option (List ℕ)) (wrote wrote' : ℕ)
    → WritesBeforeReading limit m (used had left 0 0) (used old now 0 0)
    → GoesOn limit n (Err outcome) w (used now new wrote wrote') → WritesBeforeReading limit m (used had left 0 0) (used old new 0 0)
still_written_wrong limit m n w WriteFault had left old now new wrote wrote' first (t, ran, (k, part), same) =
    still_written limit m had left old now new (take k (host_form_of (sent_since n w))) first part
still_written_wrong limit m n w NoMemory had left old now new wrote wrote' first (kept, same) =
    still_written limit m had left old now new [] first (Appends-kept now now new [] (Appends-nil now) kept)
still_written_wrong limit m n w (Ended end) had left old now new wrote wrote' first h = absurd h
still_written_wrong limit m n w (Refused e) had left old now new wrote wrote' first h = absurd h
still_written_wrong limit m n w ReadFault had left old now new wrote wrote' first h = absurd h

-- a line that is taken whole, and one that is wanting
pub part_of_line : (line : List ℕ) (had left : Option (List ℕ)) → TakesLine had line left → TakesPart had line left
part_of_line line had left (is, inl whole) = (is, inr whole)
part_of_line line had left (is, inr (some, rest, end)) = (is, inl rest)

pub part_of_nothing : (had left : Option (List ℕ)) → TakesNothing had left → TakesPart had [] left
part_of_nothing had left (none, end) = (tt, inl none)

-- what of a line was taken that could not be typed
pub part_of_wrong : (m n : Content) (outcome : Outcome) (typed typed' : List ℕ) (keys : Use) → Hears m typed (Err outcome) n typed' keys
    → (line : List ℕ) × TakesPart keys.old line keys.new
part_of_wrong m n ReadFault typed typed' keys (line, took, why, same) = (line, took)
part_of_wrong m n NoMemory typed typed' keys (line, took, same, sound) = (line, took)
part_of_wrong m n (Ended end) typed typed' keys h = absurd h
part_of_wrong m n (Refused e) typed typed' keys h = absurd h
part_of_wrong m n WriteFault typed typed' keys h = absurd h
