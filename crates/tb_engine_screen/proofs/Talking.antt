-- One more line of a talk on the screen.
use Rattle.std.proofs.Common.{◌≡◌, ◌≢◌, ℕ, inl, inr, ◌⊎◌, ◌<◌, Err, ◌+◌, List, [], ◌∷◌, ◌++◌, Option, length}
use Rattle.std.proofs.Common.{refl, sym, ap, subst, ◌∙◌, append-nil, append_assoc}
use Rattle.std.proofs.KnownBytes.{Appends-trans, Appends-kept, Appends-nil}
use Rattle.std.proofs.Math.Seq.{take-append-add}
use Rattle.std.specs.Io.KnownBytes.{Appends}
use Rattle.tb_kernal.specs.declared.status.Status.{Status}
use Rattle.tb_kernal.specs.declared.status.Status.TheVariants.{Waits}
use Rattle.tb_kernal.specs.Machine.{Content, state_of}
use Rattle.tb_kernal.specs.Typing.{with_more}
use Rattle.tb_machine_screen.specs.Contents.{Content as Screen, first_content}
use Rattle.tb_machine_screen.specs.Frames.{frame_of}
use Rattle.tb_engines.specs.Outcomes.{Outcome}
use Rattle.tb_engine_streams.specs.declared.outcome.Outcome.TheVariants.{Ended, Refused, ReadFault, WriteFault, NoMemory}
use Rattle.tb_engine_streams.specs.Streams.{AppendsPrefix}
use Rattle.tb_engine_streams.specs.Uses.{Use}
use Rattle.tb_engine_streams.specs.Lines.{TakesLine, TakesPart}
use Rattle.tb_engine_play.specs.Lines.{most_typed, keys_of, typed_of, TakesSome}
use Rattle.tb_engine_play.specs.Talks.{Stretch}
use Rattle.tb_engine_play.proofs.Talking.{taken_more}
use Rattle.tb_engine_screen.specs.Screens.{ran, echoed}
use Rattle.tb_engine_screen.specs.Talks.{Talked, IsAfterLines, Comes, Plays, WritesBeforeReading, GoesOn, Hears}

-- a stream's use
abbrev used : Option (List ℕ) → Option (List ℕ) → ℕ → ℕ → Use
used old new old_failures new_failures = record { old = old; new = new; old_failures = old_failures; new_failures = new_failures }

-- a first line, and one more
talked_once : (limit : ℕ) (m : Content) (s : Screen) (w typed : Content) (line : List ℕ) → Stretch limit m Waits w
    → state_of typed ≡ with_more (keys_of line) (state_of w)
    → Talked limit m s (line ∷ []) typed (echoed (keys_of line) (ran m w s)) ([] ++ frame_of (ran m w s))
talked_once limit m s w typed line stretch more =
    (w, typed, [], stretch, more, sym (append-nil (frame_of (ran m w s))), (refl, refl, refl))

talked_more : (limit : ℕ) (lines : List (List ℕ)) (m n w typed : Content) (s t : Screen) (line text : List ℕ) → Talked limit m s lines n t text
    → Stretch limit n Waits w → state_of typed ≡ with_more (keys_of line) (state_of w)
    → Talked limit m s (lines ++ line ∷ []) typed (echoed (keys_of line) (ran n w t)) (text ++ frame_of (ran n w t))
talked_more limit [] m n w typed s t line text (same, still, none) stretch more =
    let P : Content → Screen → List ℕ → Type 0 =
    λ x y z. Talked limit m s (line ∷ []) typed (echoed (keys_of line) (ran x w y)) (z ++ frame_of (ran x w y)) in
    let here = talked_once limit m s w typed line (subst (λ x. Stretch limit x Waits w) same stretch) more in
    subst (P n t) (sym none) (subst (λ y. P n y []) (sym still) (subst (λ x. P x s []) (sym same) here))
talked_more limit (l ∷ lines) m n w typed s t line text (v, next, rest, first, before, frames, then) stretch more =
    let last = frame_of (ran n w t) in (
      v,
      next,
      rest ++ last,
      first,
      before,
      ap (λ x. x ++ last) frames ∙ append_assoc (frame_of (ran m v s)) rest last,
      talked_more limit lines next n w typed (echoed (keys_of l) (ran m v s)) t line rest then stretch more,
    )

-- a talk goes on by a stretch
pub comes : (limit : ℕ) (m n w : Content) (s : Screen) (lines : List (List ℕ)) (status : Status) (had left old new : Option (List ℕ))
    → (after : IsAfterLines limit m lines n s had left old new) → Stretch limit n status w
    → Comes limit m lines status w had left (after.text ++ frame_of (ran n w s))
comes limit m n w s lines status had left old new after stretch =
    record { typed = n; screen = s; before = after.text; talked = after.talked; stretch = stretch; taken = after.taken; frames = refl }

-- and by a line that is read, typed and shown
pub after_more : (limit : ℕ) (m n w typed : Content) (s t u : Screen) (lines : List (List ℕ)) (line : List ℕ) (had mid left old now new : Option (List ℕ))
    → IsAfterLines limit m lines n s had mid old now → Stretch limit n Waits w → Appends now new (frame_of (ran n w s))
    → TakesLine mid line left → state_of typed ≡ with_more (keys_of line) (state_of w) → t ≡ ran n w s → u ≡ echoed (keys_of line) t
    → IsAfterLines limit m (lines ++ line ∷ []) typed u had left old new
after_more limit m n w typed s t u lines line had mid left old now new after stretch since took more printed shown =
    let text = after.text ++ frame_of (ran n w s) in
    let same : u ≡ echoed (keys_of line) (ran n w s) = shown ∙ ap (λ x. echoed (keys_of line) x) printed in
    let talked = talked_more limit lines m n w typed _ s line after.text after.talked stretch more in
    record {
      text = text;
      talked = subst (λ x. Talked limit m first_content (lines ++ line ∷ []) typed x text) (sym same) talked;
      taken = taken_more lines line had mid left after.taken took;
      written = Appends-trans old now new _ _ after.written since;
    }

-- a text that was written, and a prefix of the next one
written_part : (text more : List ℕ) (a b c : Option (List ℕ)) → Appends a b text → AppendsPrefix b c more → AppendsPrefix a c (text ++ more)
written_part text more a b c before (k, since) =
    (length text + k, subst (Appends a c) (sym (take-append-add text more k)) (Appends-trans a b c _ _ before since))

-- a talk that ends while the machine runs on or its screen is written
pub went_wrong : (limit : ℕ) (m n w : Content) (s t : Screen) (lines : List (List ℕ)) (outcome : Outcome) (wrote wrote' : ℕ) (typed : List ℕ)
    (old now new : Option (List ℕ)) (keys : Use) → IsAfterLines limit m lines n s keys.old keys.new old now
    → GoesOn limit n s (Err outcome) w t (used now new wrote wrote') → Plays limit m outcome typed keys old new
went_wrong limit m n w s t lines WriteFault wrote wrote' typed old now new keys after (status, stretch, part, fails) = (
  lines,
  status,
  w,
  _,
  comes limit m n w s lines status keys.old keys.new old now after stretch,
  written_part after.text (frame_of (ran n w s)) old now new after.written part,
)
went_wrong limit m n w s t lines NoMemory wrote wrote' typed old now new keys after (kept, same) =
    let still = Appends-kept old now new after.text after.written kept in
    inl (lines, n, s, record { text = after.text; talked = after.talked; taken = after.taken; written = still })
went_wrong limit m n w s t lines (Ended end) wrote wrote' typed old now new keys after h = absurd h
went_wrong limit m n w s t lines (Refused e) wrote wrote' typed old now new keys after h = absurd h
went_wrong limit m n w s t lines ReadFault wrote wrote' typed old now new keys after h = absurd h

-- a talk that ends while a line is read
pub heard_wrong : (limit : ℕ) (m w n : Content) (s t : Screen) (lines : List (List ℕ)) (outcome : Outcome) (first read read' : ℕ) (typed typed' text : List ℕ)
    (had mid left old new : Option (List ℕ)) → Comes limit m lines Waits w had mid text → Appends old new text
    → typed ≡ typed_of lines → read ≡ first → Hears w s typed (Err outcome) n t typed' (used mid left read read')
    → Plays limit m outcome typed' (used had left first read') old new
heard_wrong limit m w n s t lines ReadFault first read read' typed typed' text had mid left old new came written same sound (line, took, why, _) =
    let P : ℕ → List ℕ → Type 0 = λ x y. (read' ≢ x) ⊎ ((most_typed < length y + length (keys_of line)) × TakesSome mid line left) in
    (lines, w, mid, line, text, came, took, subst (λ y. P first y) same (subst (λ x. P x typed) sound why), written)
heard_wrong limit m w n s t lines NoMemory first read read' typed typed' text had mid left old new came written same sound (line, took, _, _) =
    inr (lines, w, mid, line, text, came, took, written)
heard_wrong limit m w n s t lines (Ended end) first read read' typed typed' text had mid left old new came written same sound h = absurd h
heard_wrong limit m w n s t lines (Refused e) first read read' typed typed' text had mid left old new came written same sound h = absurd h
heard_wrong limit m w n s t lines WriteFault first read read' typed typed' text had mid left old new came written same sound h = absurd h

-- ---- written before the next line is read

-- a line of which some is taken is taken after all frames up to then are written
pub reads_after : (limit : ℕ) (m n : Content) (lines : List (List ℕ)) (line text : List ℕ) (had mid left old new : Option (List ℕ))
    → Comes limit m lines Waits n had mid text → TakesPart mid line left → Appends old new text
    → WritesBeforeReading limit m (used had left 0 0) (used old new 0 0)
reads_after limit m n lines line text had mid left old new came took written =
    inr (lines, n, mid, line, text, came, took, ([], subst (Appends old new) (sym (append-nil text)) written))

-- what was written stays written if more is
pub still_written : (limit : ℕ) (m : Content) (had left old now new : Option (List ℕ)) (more : List ℕ)
    → WritesBeforeReading limit m (used had left 0 0) (used old now 0 0) → Appends now new more
    → WritesBeforeReading limit m (used had left 0 0) (used old new 0 0)
still_written limit m had left old now new more (inl same) since = inl same
still_written limit m had left old now new more (inr (lines, n, mid, line, text, came, took, (before, written))) since =
    inr (
      lines,
      n,
      mid,
      line,
      text,
      came,
      took,
      (before ++ more, subst (Appends old new) (append_assoc text before more) (Appends-trans old now new _ more written since)),
    )

-- and so if the machine could not run on, or its screen was not written whole
pub still_written_wrong : (limit : ℕ) (m n w : Content) (s t : Screen) (outcome : Outcome) (had left old now new : Option (List ℕ)) (wrote wrote' : ℕ)
    → WritesBeforeReading limit m (used had left 0 0) (used old now 0 0)
    → GoesOn limit n s (Err outcome) w t (used now new wrote wrote') → WritesBeforeReading limit m (used had left 0 0) (used old new 0 0)
still_written_wrong limit m n w s t WriteFault had left old now new wrote wrote' first (status, stretch, (k, part), fails) =
    still_written limit m had left old now new _ first part
still_written_wrong limit m n w s t NoMemory had left old now new wrote wrote' first (kept, same) =
    still_written limit m had left old now new [] first (Appends-kept now now new [] (Appends-nil now) kept)
still_written_wrong limit m n w s t (Ended end) had left old now new wrote wrote' first h = absurd h
still_written_wrong limit m n w s t (Refused e) had left old now new wrote wrote' first h = absurd h
still_written_wrong limit m n w s t ReadFault had left old now new wrote wrote' first h = absurd h

-- what of a line was taken that could not be typed
pub part_of_wrong : (m n : Content) (s t : Screen) (outcome : Outcome) (typed typed' : List ℕ) (keys : Use)
    → Hears m s typed (Err outcome) n t typed' keys → (line : List ℕ) × TakesPart keys.old line keys.new
part_of_wrong m n s t ReadFault typed typed' keys (line, took, why, same) = (line, took)
part_of_wrong m n s t NoMemory typed typed' keys (line, took, same, sound) = (line, took)
part_of_wrong m n s t (Ended end) typed typed' keys h = absurd h
part_of_wrong m n s t (Refused e) typed typed' keys h = absurd h
part_of_wrong m n s t WriteFault typed typed' keys h = absurd h
