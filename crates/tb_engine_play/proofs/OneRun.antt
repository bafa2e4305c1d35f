-- A talk is one run on all that was typed.
use Rattle.std.proofs.Common.{◌≡◌, ◌≢◌, ℕ, zero, suc, ◌-◌, Bool, false, take, ◌<◌, true, List, [], ◌∷◌, ◌++◌, Option, Ok}
use Rattle.std.proofs.Common.{length, refl, sym, ap, subst, ◌∙◌, append-nil, append_assoc, inl, inr, arith}
use Rattle.std.specs.Prelude.{map, slice_index, ◌==◌, if◌then◌else◌}
use Rattle.std.proofs.lemmas.Bool.Decides.{nat_tests}
use Rattle.std.specs.Char.{to_ascii_uppercase}
use Rattle.tb_kernal.specs.declared.events.Event.{Event}
use Rattle.tb_kernal.specs.declared.status.Status.{Status}
use Rattle.tb_kernal.specs.declared.status.Status.TheVariants.{Running, Waits}
use Rattle.tb_kernal.specs.Machine.{Content, state_of, status, text_left}
use Rattle.tb_kernal.specs.Runs.{Gave, RanOver}
use Rattle.tb_kernal.specs.Typing.{with_more}
use Rattle.tb_kernal.specs.LawfulEvents.{quiet_is_lawful}
use Rattle.tb_kernal.proofs.Giving.{ran_over}
use Rattle.tb_kernal.proofs.Typing.{status_kept, happens_kept}
use Rattle.tb_engine_streams.specs.HostForm.{host_form_of}
use Rattle.tb_engines.specs.Outcomes.{Outcome, Product}
use Rattle.tb_engines.specs.Programs.{start, end_of, RunsContent}
use Rattle.tb_engine_streams.specs.declared.outcome.Outcome.TheVariants.{Ended, Refused, ReadFault, WriteFault, NoMemory}
use Rattle.tb_engine_streams.specs.Lines.{without_return, IsLine}
use Rattle.tb_engine_streams.specs.Uses.{Use}
use Rattle.tb_engine_play.specs.Lines.{keys_of, typed_of, TakesLines}
use Rattle.tb_engine_play.specs.Talks.{gives_quiet, Talked, Comes, Plays}
use Rattle.tb_engine_play.specs.Plays.{IsStart, RunsTyped, Shows, quietly}
use Rattle.tb_opcodes.specs.Bytes.{AreBytes}

abbrev GaveQuiet : Content → List Event → Content → Type 0
GaveQuiet m es n = Gave gives_quiet (record {}) m es (record {}) n

-- a machine with later text after what is left of its own
abbrev with_later : Content → List ℕ → Content
with_later m more = record m { all_text = text_left m ++ more; text_taken = 0 }

runs_not_waits : (t : Status) → t ≡ Running → t ≢ Waits
runs_not_waits t r w = let no : Running ≡ Waits = sym r ∙ w in absurd (cc)

-- events that are given are given also if more text comes after
gave_with_later : (es : List Event) (m n : Content) (more : List ℕ) → GaveQuiet m es n → GaveQuiet (with_later m more) es (with_later n more)
gave_with_later [] m n more (p, same) = (p, ap (with_more more) same)
gave_with_later (e ∷ es) m n more (runs, (o, ready, after, same, given, done, rest)) =
    let here = runs_not_waits _ runs in
    let there : status (state_of ready) ≢ Waits = runs_not_waits _ (ap status same ∙ runs) in (
      status_kept (state_of m) more here ∙ runs,
      (
        o,
        with_later ready more,
        with_later after more,
        ap (with_more more) same,
        given,
        ap (with_more more) done ∙ sym (happens_kept e (state_of ready) more there),
        gave_with_later es after n more rest,
      ),
    )

-- they are given to any machine in the same state
gave_from : (es : List Event) (m m' n : Content) → state_of m' ≡ state_of m → GaveQuiet m es n → GaveQuiet m' es n
gave_from [] m m' n e (p, same) = (p, same ∙ sym e)
gave_from (d ∷ es) m m' n e (runs, (o, ready, after, same, given, done, rest)) =
    (ap status e ∙ runs, (o, ready, after, same ∙ sym e, given, done, rest))

gave_append : (es fs : List Event) (m n r : Content) → GaveQuiet m es n → GaveQuiet n fs r → GaveQuiet m (es ++ fs) r
gave_append [] fs m n r (p, same) more = gave_from fs n m r (sym same) more
gave_append (e ∷ es) fs m n r (runs, (o, ready, after, same, given, done, rest)) more =
    (runs, (o, ready, after, same, given, done, gave_append es fs after n r rest more))

-- a talk whose lines are all in the text from the start
talk_gave : (limit : ℕ) (lines : List (List ℕ)) (m n : Content) → Talked limit m lines n
    → (es : List Event) × GaveQuiet (with_later m (typed_of lines)) es n
talk_gave limit [] m n same =
    ([], (refl, ap state_of same ∙ ap (λ x. record (state_of m) { text = x }) (sym (append-nil (text_left m)))))
talk_gave limit (line ∷ lines) m n (w, typed, (p, ran), more, rest) =
    let later = talk_gave limit lines typed n rest in
    let all = keys_of line ++ typed_of lines in
    let now : GaveQuiet (with_later m all) ran.events (with_later w all) = gave_with_later ran.events m w all ran.gave in
    let joined : state_of (with_later w all) ≡ state_of (with_later typed (typed_of lines)) =
    ap (λ x. record (state_of w) { text = x }) (sym (append_assoc (text_left w) (keys_of line) (typed_of lines)))
    ∙ ap (with_more (typed_of lines)) (sym more) in (
      ran.events ++ later.0,
      gave_append ran.events later.0 (with_later m all) (with_later w all) n now
          (gave_from later.0 (with_later typed (typed_of lines)) (with_later w all) n joined later.1),
    )

-- what was given is a run, which needs no higher limit
gave_runs : (es : List Event) (address : ℕ) (bytes text : List ℕ) (n : Content) → GaveQuiet (with_later (start address bytes [] []) text) es n
    → RanOver gives_quiet (record {}) (start address bytes text []) (length es) (Ok (status (state_of n))) (record {}) n
gave_runs es address bytes text n gave =
    ran_over gives_quiet (λ o m e p h. quiet_is_lawful m e h) es (record {}) (start address bytes text []) (length es) (Ok (status (state_of n))) (record {}) n
    (gave_from es (with_later (start address bytes [] []) text) (start address bytes text []) n refl gave) (omega arith) (refl, λ h. refl)

module _ (file : List ℕ) (m : Content) (begun : IsStart file m) where
  -- what a machine shows after these events
  shows : (es : List Event) (text : List ℕ) (n : Content) → AreBytes text → GaveQuiet (with_later m text) es n
      → RunsTyped file text (Ok (host_form_of n.sent, end_of (status (state_of n)) n.regs.pc))
  shows es text n bytes gave =
      let here = subst (λ x. GaveQuiet (with_later x text) es n) begun.machine gave in
      let product : Product = Ok (host_form_of n.sent, end_of (status (state_of n)) n.regs.pc) in (
        bytes,
        (
          length es,
          subst (λ c. RunsContent (quietly text [] (length es)) c product) (sym begun.content)
              (begun.in_ram, (status (state_of n), record {}, n, gave_runs es begun.address begun.bytes text n here, refl)),
        ),
      )

  talk_shows : (limit : ℕ) (lines : List (List ℕ)) (n : Content) → AreBytes (typed_of lines) → Talked limit m lines n
      → RunsTyped file (typed_of lines) (Ok (host_form_of n.sent, end_of (status (state_of n)) n.regs.pc))
  talk_shows limit lines n bytes talked = let gave = talk_gave limit lines m n talked in shows gave.0 (typed_of lines) n bytes gave.1

  come_shows : (limit : ℕ) (lines : List (List ℕ)) (t : Status) (n : Content) (had left : Option (List ℕ)) → AreBytes (typed_of lines)
      → Comes limit m lines t n had left → RunsTyped file (typed_of lines) (Ok (host_form_of n.sent, end_of t n.regs.pc))
  come_shows limit lines t n had left bytes came =
      let gave = talk_gave limit lines m came.typed came.talked in
      let (p, ran) = came.stretch in
      subst (λ x. RunsTyped file (typed_of lines) (Ok (host_form_of n.sent, end_of x n.regs.pc))) (sym ran.answer.0)
      (shows (gave.0 ++ ran.events) (typed_of lines) n bytes (gave_append gave.0 ran.events _ came.typed n gave.1 ran.gave))

-- ---- what is typed is bytes

small_capital : (b : ℕ) → b < 256 → to_ascii_uppercase b < 256
small_capital b h = grind (arith, nat_tests)

bytes_append : (xs ys : List ℕ) → AreBytes xs → AreBytes ys → AreBytes (xs ++ ys)
bytes_append [] ys h k = k
bytes_append (x ∷ xs) ys (small, h) k = (small, bytes_append xs ys h k)

capitals : (xs : List ℕ) → AreBytes xs → AreBytes (map to_ascii_uppercase xs)
capitals [] h = tt
capitals (x ∷ xs) (small, h) = (small_capital x small, capitals xs h)

first_bytes : (n : ℕ) (xs : List ℕ) → AreBytes xs → AreBytes (take n xs)
first_bytes zero xs h = tt
first_bytes (suc n) [] h = tt
first_bytes (suc n) (x ∷ xs) (small, h) = (small, first_bytes n xs h)

all_bytes : (line : List ℕ) → IsLine line → AreBytes line
all_bytes [] h = tt
all_bytes (b ∷ line) (small, other, h) = (small, all_bytes line h)

line_bytes : (line : List ℕ) → IsLine line → AreBytes (without_return line)
line_bytes line h = by_end (slice_index line (length line - 1) == 13)
  where
    by_end : (b : Bool) → AreBytes (if b then take (length line - 1) line else line)
    by_end true = first_bytes (length line - 1) line (all_bytes line h)
    by_end false = all_bytes line h

key_bytes : (line : List ℕ) → IsLine line → AreBytes (keys_of line)
key_bytes line h = bytes_append _ (13 ∷ []) (capitals (without_return line) (line_bytes line h)) (omega arith, tt)

typed_bytes : (lines : List (List ℕ)) (had left : Option (List ℕ)) → TakesLines had lines left → AreBytes (typed_of lines)
typed_bytes [] had left h = tt
typed_bytes (line ∷ lines) had left (mid, first, rest) =
    bytes_append (keys_of line) (typed_of lines) (key_bytes line first.0) (typed_bytes lines mid left rest)

-- ---- what playing wrote is what one run shows

-- what playing wrote is what one run on the typed text shows, for the contract of `play_file`
pub one_run : (limit : ℕ) (file : List ℕ) (m : Content) (outcome : Outcome) (typed : List ℕ) (keys writer : Use)
    → IsStart file m → Plays limit m outcome typed keys writer → Shows (RunsTyped file) outcome typed writer
one_run limit file m (Ended end) typed keys writer begun (lines, t, n, mid, came, stops, all, how, written) =
    let shown = come_shows file m begun limit lines t n keys.old mid (typed_bytes lines keys.old mid came.taken) came in (
      host_form_of n.sent,
      subst (λ x. RunsTyped file x (Ok (host_form_of n.sent, end))) (sym all)
          (subst (λ e. RunsTyped file (typed_of lines) (Ok (host_form_of n.sent, e))) (sym how) shown),
      written,
    )
one_run limit file m (Refused e) typed keys writer begun h = absurd h
one_run limit file m ReadFault typed keys writer begun (lines, n, mid, line, came, took, why, written) =
    (typed_of lines, host_form_of n.sent, come_shows file m begun limit lines Waits n keys.old mid (typed_bytes lines keys.old mid came.taken) came, written)
one_run limit file m WriteFault typed keys writer begun (lines, t, n, came, written) =
    (typed_of lines, host_form_of n.sent, _, come_shows file m begun limit lines t n keys.old keys.new (typed_bytes lines keys.old keys.new came.taken) came, written)
one_run limit file m NoMemory typed keys writer begun (inl (lines, n, b)) =
    inr (typed_of lines, host_form_of n.sent, _, talk_shows file m begun limit lines n (typed_bytes lines keys.old keys.new b.taken) b.talked, b.written)
one_run limit file m NoMemory typed keys writer begun (inr (lines, n, mid, line, came, took, written)) =
    inr (typed_of lines, host_form_of n.sent, _, come_shows file m begun limit lines Waits n keys.old mid (typed_bytes lines keys.old mid came.taken) came, written)
