-- Runs whose output is written as it comes.
use Rattle.std.specs.Prelude.{ℕ, Bool, true, false, ◌≡◌, List, length, drop, Ok}
use Rattle.std.specs.Io.KnownBytes.{Appends}
use Rattle.tb_kernal.specs.declared.events.Event.{Event}
use Rattle.tb_kernal.specs.declared.status.Status.{Status}
use Rattle.tb_kernal.specs.Machine.{Content}
use Rattle.tb_kernal.specs.Runs.{KeepsRoom, RanOver}
use Rattle.tb_kernal.specs.Sending.{KnowsLast, last_of, with_earlier}
use Rattle.tb_kernal.specs.Hearing.{RanWatched, Telling}
use Rattle.tb_basic_text.specs.declared.notation.Notation.{Notation}
use Rattle.tb_engine_streams.specs.HostForm.{shown_as}
use Rattle.tb_engine_streams.specs.Streams.{AppendsPrefix}
use Rattle.tb_engine_streams.specs.Uses.{Use, Fails, NeverFails}

-- how many of the last bytes that were sent a machine keeps after they were written
abbrev pub kept_sent : ℕ
kept_sent = 16

-- what a machine sent in a run, without what it had sent before
abbrev pub sent_since : Content → Content → List ℕ
sent_since m n = drop (length m.sent) n.sent

-- what was written of a text: all of it, or what came before the writer failed
abbrev pub IsWritten : Bool → Use → List ℕ → Type 0
IsWritten true writer text = Appends writer.old writer.new text × NeverFails writer
IsWritten false writer text = AppendsPrefix writer.old writer.new text × Fails writer

-- what is written of one more text: nothing if the writer has failed before
abbrev pub WritesMore : Bool → Bool → Use → List ℕ → Type 0
WritesMore true is writer text = IsWritten is writer text
WritesMore false is writer text = (is ≡ false) × (writer.new ≡ writer.old) × NeverFails writer

-- a stretch of a run: at its end what was sent in it is written as a notation shows it; the last bytes of that are kept
pub record RanStretch {O : Type 0} (gives : O → Content → Event → O → Type 0) (o : O) (m : Content) (limit : ℕ) (t : Status) (p : O) (n : Content)
    (notation : Notation) (was is : Bool) (writer : Use) : Type 0 where
  pub whole : Content
  pub ran : RanOver gives o m limit (Ok t) p whole
  pub wrote : WritesMore was is writer (shown_as notation (sent_since m whole))
  pub rest : n ≡ record whole { sent = last_of kept_sent whole.sent; room = n.room }
  pub room : KeepsRoom m n

-- a whole run: what is written is what was sent in it, as a notation shows it; the machine may have forgotten the first
-- part of that
pub record RanWriting {O W : Type 0} (gives : O → Content → Event → O → Type 0) (hears : W → Telling → W → Type 0)
    (o : O) (m : Content) (w : W) (limit : ℕ) (t : Status) (p : O) (n : Content) (v : W) (notation : Notation) (is : Bool) (writer : Use) : Type 0 where
  pub earlier : List ℕ
  pub ran : RanWatched gives hears o m w limit (Ok t) p (with_earlier earlier n) v
  pub known : KnowsLast kept_sent earlier n.sent
  pub wrote : IsWritten is writer (shown_as notation (sent_since m (with_earlier earlier n)))
