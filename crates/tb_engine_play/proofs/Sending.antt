-- What a machine sends that may forget the beginning of it.
use Rattle.std.proofs.Common.{◌≡◌, ◌⊎◌, inl, inr, ℕ, ◌+◌, ◌≤◌, List, [], ◌++◌, length, drop, refl, sym, ap, subst, ◌∙◌, append_assoc, arith, length-append, Ok, Err}
use Rattle.std.proofs.Math.Seq.{drop-append-add}
use Rattle.std.specs.Prelude.{Bool, true, false, Result}
use Rattle.tb_kernal.specs.declared.status.Status.{Status}
use Rattle.tb_kernal.specs.Machine.{Content, state_of}
use Rattle.tb_kernal.specs.Sending.{KnowsLast, sent_before, with_earlier}
use Rattle.tb_kernal.proofs.Sending.{ran_alike}
use Rattle.tb_engine_streams.specs.HostForm.{host_form_of}
use Rattle.std.specs.Io.KnownBytes.{Appends}
use Rattle.tb_engine_streams.specs.Streams.{AppendsPrefix}
use Rattle.tb_engine_streams.specs.Uses.{Use}
use Rattle.tb_engine_streams.specs.declared.outcome.Outcome.TheVariants.{Ended, Refused, ReadFault, WriteFault, NoMemory}
use Rattle.tb_engines.specs.Outcomes.{Outcome}
use Rattle.tb_engines.specs.Writing.{kept_sent, sent_since}
use Rattle.tb_engines.proofs.Stretched.{run_adds, run_longer}
use Rattle.tb_engine_play.specs.Talks.{Goes, GoesOn, Hears, Stretch, gives_quiet}

-- what was sent after a stretch is what was sent before it, and then what it sent itself
pub stretch_sends : (limit : ℕ) (m n : Content) (t : Status) → Stretch limit m t n → n.sent ≡ m.sent ++ sent_since m n
stretch_sends limit m n t (p, ran) = run_adds gives_quiet (record {}) m limit (Ok t) p n ran

-- a stretch is the same whatever was sent before it
stretch_alike : (limit : ℕ) (m n : Content) (t : Status) (earlier : List ℕ) → Stretch limit m t n → Stretch limit (with_earlier earlier m) t (with_earlier earlier n)
stretch_alike limit m n t earlier (p, ran) = (p, ran_alike gives_quiet (λ o m e q sent h. h) (record {}) m limit (Ok t) p n earlier ran)

-- what was sent since is the same
since_alike : (m n : Content) (earlier : List ℕ) → sent_since (with_earlier earlier m) (with_earlier earlier n) ≡ sent_since m n
since_alike m n earlier =
    ap (λ k. drop k (earlier ++ n.sent)) (length-append earlier m.sent) ∙ drop-append-add earlier n.sent (length m.sent)

-- running on is the same whatever was sent before
goes_alike : (limit : ℕ) (m : Content) (r : Result Status Outcome) (n : Content) (writer : Use) (earlier : List ℕ) → GoesOn limit m r n writer
    → GoesOn limit (with_earlier earlier m) r (with_earlier earlier n) writer
goes_alike limit m (Ok t) n writer earlier (ran, wrote, sound) = (
  stretch_alike limit m n t earlier ran,
  subst (λ sent. Appends writer.old writer.new (host_form_of sent)) (sym (since_alike m n earlier)) wrote,
  sound,
)
goes_alike limit m (Err WriteFault) n writer earlier (t, ran, wrote, failed) = (
  t,
  stretch_alike limit m n t earlier ran,
  subst (λ sent. AppendsPrefix writer.old writer.new (host_form_of sent)) (sym (since_alike m n earlier)) wrote,
  failed,
)
goes_alike limit m (Err NoMemory) n writer earlier kept = kept
goes_alike limit m (Err (Ended end)) n writer earlier h = absurd h
goes_alike limit m (Err (Refused e)) n writer earlier h = absurd h
goes_alike limit m (Err ReadFault) n writer earlier h = absurd h

-- two parts that were forgotten, one after the other
both_earlier : (earlier later : List ℕ) (n : Content) → with_earlier earlier (with_earlier later n) ≡ with_earlier (earlier ++ later) n
both_earlier earlier later n = ap (λ sent. record n { sent = sent }) (sym (append_assoc earlier later n.sent))

-- a machine that had forgotten a part, and runs on: the run of the machine with all that it sent
pub goes_whole : (limit : ℕ) (m : Content) (r : Result Status Outcome) (n : Content) (writer : Use) (earlier : List ℕ) → (goes : Goes limit m r n writer)
    → GoesOn limit (with_earlier earlier m) r (with_earlier (earlier ++ goes.0) n) writer
goes_whole limit m r n writer earlier (later, known, goes) =
    subst (λ k. GoesOn limit (with_earlier earlier m) r k writer) (both_earlier earlier later n) (goes_alike limit m r (with_earlier later n) writer earlier goes)

-- what is known then of what it sent
pub knows_whole : (limit : ℕ) (m : Content) (t : Status) (n : Content) (writer : Use) (earlier : List ℕ) → KnowsLast kept_sent earlier m.sent
    → (goes : Goes limit m (Ok t) n writer) → KnowsLast kept_sent (earlier ++ goes.0) n.sent
knows_whole limit m t n writer earlier known (later, inr many, goes) = inr many
knows_whole limit m t n writer earlier (inl none) (later, inl nothing, goes) = inl (ap (λ e. e ++ later) none ∙ nothing)
knows_whole limit m t n writer earlier (inr many) (later, inl nothing, goes) =
    let (p, ran) = goes.0 in
    let longer = run_longer gives_quiet (record {}) m limit (Ok t) p (with_earlier later n) ran in
    let same : length (later ++ n.sent) ≡ length n.sent = ap (λ l. length (l ++ n.sent)) nothing in
    inr (omega (arith, longer, same, many))

-- a line is heard whatever was sent before
pub hears_alike : (m : Content) (typed : List ℕ) (r : Result Bool Outcome) (n : Content) (typed' : List ℕ) (keys : Use) (earlier : List ℕ)
    → Hears m typed r n typed' keys → Hears (with_earlier earlier m) typed r (with_earlier earlier n) typed' keys
hears_alike m typed (Ok true) n typed' keys earlier (line, took, more, kept, few, sound) = (line, took, ap (sent_before earlier) more, kept, few, sound)
hears_alike m typed (Ok false) n typed' keys earlier (none, same, kept, sound) = (none, ap (with_earlier earlier) same, kept, sound)
hears_alike m typed (Err ReadFault) n typed' keys earlier h = h
hears_alike m typed (Err NoMemory) n typed' keys earlier h = h
hears_alike m typed (Err (Ended end)) n typed' keys earlier h = absurd h
hears_alike m typed (Err (Refused e)) n typed' keys earlier h = absurd h
hears_alike m typed (Err WriteFault) n typed' keys earlier h = absurd h
