-- What is told of a run.
use Rattle.std.proofs.Common.{◌≡◌, ℕ, List, [], Bool, true, false, Option, Ok, length, drop, refl, ap, sym, subst}
use Rattle.std.specs.Io.KnownBytes.{Appends}
use Rattle.tb_kernal.specs.declared.events.Event.{Event}
use Rattle.tb_kernal.specs.declared.status.Status.{Status}
use Rattle.tb_kernal.specs.Machine.{Content, state_of, status}
use Rattle.tb_kernal.specs.Sending.{with_earlier}
use Rattle.tb_kernal.specs.Hearing.{Hearing, Telling, hearing_of}
use Rattle.tb_basic_text.specs.declared.notation.Notation.{Notation}
use Rattle.tb_engine_streams.specs.HostForm.{shown_as}
use Rattle.tb_engine_streams.specs.Streams.{AppendsPrefix, Reads}
use Rattle.tb_engine_streams.specs.Uses.{Use}
use Rattle.tb_engine_streams.specs.declared.outcome.Outcome.TheVariants.{Ended, Refused, ReadFault, WriteFault, NoMemory}
use Rattle.tb_engines.specs.Ends.{ByOutcome, LeavesRun, OfRun, RestsOfRun, TellsFile, end_place}
use Rattle.tb_engines.specs.Outcomes.{Answers, Outcome, Product}
use Rattle.tb_engines.specs.Programs.{Settings, RunsOn, StartsPrg, end_of}
use Rattle.tb_engines.specs.Writing.{IsWritten, RanWriting, sent_since}
use Rattle.tb_engines.specs.declared.outcome.End.{End}

-- what was written of one kind of product was written of any wider kind
pub answers_as : (p q : Product → Type 0) → ((x : Product) → p x → q x) → (outcome : Outcome) → (old new : Option (List ℕ))
    → Answers p outcome old new → Answers q outcome old new
answers_as p q wider (Ended end) old new (text, made, written) = (text, wider _ made, written)
answers_as p q wider (Refused e) old new (made, kept) = (wider _ made, kept)
answers_as p q wider ReadFault old new kept = kept
answers_as p q wider WriteFault old new (text, end, made, written) = (text, end, wider _ made, written)
answers_as p q wider NoMemory old new kept = kept

-- what a machine sent since it had sent nothing is all that it sent
all_sent : (m n : Content) → m.sent ≡ [] → sent_since m n ≡ n.sent
all_sent m n none = ap (λ sent. drop (length sent) n.sent) none

module _ {O W : Type 0} (gives : O → Content → Event → O → Type 0) (hears : W → Telling → W → Type 0) where
  -- where the writer took all, the run's text is written
  pub ran_whole : (o : O) (m : Content) (w : W) (limit : ℕ) (t : Status) (p : O) (n : Content) (v : W) (notation : Notation) (is : Bool) (writer : Use)
      → RanWriting gives hears o m w limit t p n v notation is writer → is ≡ true → m.sent ≡ []
      → Answers (RunsOn gives o m limit notation) (Ended (end_of t n.regs.pc)) writer.old writer.new
  ran_whole o m w limit t p n v notation is writer run all none =
      let whole = with_earlier run.earlier n in
      let wrote = subst (λ b. IsWritten b writer (shown_as notation (sent_since m whole))) all run.wrote in
      let shown = subst (λ sent. Appends writer.old writer.new (shown_as notation sent)) (all_sent m whole none) wrote.0 in
      (shown_as notation whole.sent, (t, p, whole, run.ran.ran, refl), shown)

  -- where it failed, a prefix of it is
  pub ran_faulted : (o : O) (m : Content) (w : W) (limit : ℕ) (t : Status) (p : O) (n : Content) (v : W) (notation : Notation) (is : Bool) (writer : Use)
      → RanWriting gives hears o m w limit t p n v notation is writer → is ≡ false → m.sent ≡ []
      → Answers (RunsOn gives o m limit notation) WriteFault writer.old writer.new
  ran_faulted o m w limit t p n v notation is writer run failed none =
      let whole = with_earlier run.earlier n in
      let wrote = subst (λ b. IsWritten b writer (shown_as notation (sent_since m whole))) failed run.wrote in
      let shown = subst (λ sent. AppendsPrefix writer.old writer.new (shown_as notation sent)) (all_sent m whole none) wrote.0 in
      (shown_as notation whole.sent, end_of t n.regs.pc, (t, p, whole, run.ran.ran, refl), shown)

  -- the machine that is left is the one to which the run led
  pub rests : (o : O) (m : Content) (w : W) (limit : ℕ) (t : Status) (p : O) (n : Content) (v : W) (notation : Notation) (is : Bool) (writer : Use)
      → RanWriting gives hears o m w limit t p n v notation is writer → RestsOfRun gives o limit (hearing_of hears w v) m (end_of t n.regs.pc) n
  rests o m w limit t p n v notation is writer run =
      record { earlier = run.earlier; known = run.known; ran = record { answer = t; left = p; ran = run.ran; how = refl } }

-- where the machine is after the run of a PRG file is where that run ended
pub tells_place : {O W : Type 0} (s : Settings O) (watch : Hearing W) (reader : Use) (file : List ℕ) (m n : Content) (outcome : Outcome) (place : Option ℕ)
    → Reads reader.old file → StartsPrg s.text s.answers file (Ok m) → LeavesRun s.gives s.outside s.limit watch m outcome n
    → OfRun outcome (end_place (status (state_of n)) n.regs.pc) place → ByOutcome (TellsFile s watch reader) outcome place
tells_place s watch reader file m n (Ended end) place read started left told =
    (file, read, (with_earlier left.earlier n, (m, started, left.ran), told))
tells_place s watch reader file m n WriteFault place read started (end, left) told =
    (end, (file, read, (with_earlier left.earlier n, (m, started, left.ran), told)))
tells_place s watch reader file m n (Refused e) place read started left told = absurd left
tells_place s watch reader file m n ReadFault place read started left told = absurd left
tells_place s watch reader file m n NoMemory place read started left told = subst (λ p. ByOutcome (TellsFile s watch reader) NoMemory p) (sym told) tt
