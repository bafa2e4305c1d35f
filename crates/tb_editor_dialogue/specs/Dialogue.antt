-- What is read, said and written in a dialogue.
use Rattle.std.specs.Prelude.{ℕ, ◌≡◌, ◌≢◌, ◌⊎◌, List, Option, Some, None, Result, Ok, Err}
use Rattle.std.specs.Io.KnownBytes.{Appends}
use Rattle.std.specs.declared.alloc.AllocError.{AllocError}
use Rattle.std.specs.declared.alloc.Global.{Global}
use Rattle.std.specs.declared.vec.Vec.{Vec}
use Rattle.tb_engine_streams.specs.Streams.{AppendsPrefix}
use Rattle.tb_engine_streams.specs.declared.outcome.Outcome.{Outcome}
use Rattle.tb_engine_streams.specs.declared.outcome.Outcome.TheVariants.{Ended, Refused, ReadFault, WriteFault, NoMemory}
use Rattle.tb_engine_streams.specs.declared.tracked.StreamFailure.{StreamFailure}
use Rattle.tb_editor_frames.specs.Frames.{ReadsFrame}
use Rattle.tb_editor_frames.specs.declared.outcome.BadFrame.{BadFrame}
use Rattle.tb_editor_frames.specs.declared.reading.FrameError.{FrameError}
use Rattle.tb_editor_frames.specs.declared.reading.FrameError.TheVariants as frame_error
use Rattle.tb_editor_dialogue.specs.Hearing.{Hears}
use Rattle.tb_editor_dialogue.specs.declared.hearing.Heard.{Heard}
use Rattle.tb_editor_dialogue.specs.declared.talking.Turn.{Turn}

-- ── streams ──
-- what a reader still has, what a writer holds, and how often each has failed
pub record Streams : Type 0 where
  pub left : Option (List ℕ)
  pub read : ℕ
  pub written : Option (List ℕ)
  pub wrote : ℕ

abbrev pub streams : (left : Option (List ℕ)) (read : ℕ) (written : Option (List ℕ)) (wrote : ℕ) → Streams
streams left read written wrote = record { left = left; read = read; written = written; wrote = wrote }

-- a frame was read that holds this
abbrev pub IsHeard : Heard → Streams → Streams → Type 0
IsHeard h a b = Hears h a.left b.left a.read b.read

-- the writer is as it was
abbrev pub IsUnwritten : Streams → Streams → Type 0
IsUnwritten a b = (b.written ≡ a.written) × (b.wrote ≡ a.wrote)

-- frames are written, if there are any; or a prefix of them, where the writer fails
abbrev pub WritesFrames : Option (Vec ℕ Global) → Result (Unit {0}) StreamFailure → (old new : Option (List ℕ)) → (wrote wrote_after : ℕ) → Type 0
WritesFrames None (Ok done) old new wrote wrote' = (new ≡ old) × (wrote' ≡ wrote)
WritesFrames None (Err e) old new wrote wrote' = ⊥
WritesFrames (Some frames) (Ok done) old new wrote wrote' = Appends old new frames.items × (wrote' ≡ wrote)
WritesFrames (Some frames) (Err e) old new wrote wrote' = AppendsPrefix old new frames.items × (wrote' ≢ wrote)

-- the frames of a turn are written, if there are any
abbrev pub Writes : Option (Vec ℕ Global) → (old new : Option (List ℕ)) → (wrote wrote_after : ℕ) → Type 0
Writes frames old new wrote wrote' = WritesFrames frames (Ok (record {})) old new wrote wrote'

-- ── who talks ──
-- What was heard leads to: a turn whose frames are written whole, or the end. Where memory runs out nothing is written.
abbrev pub TakesHeard : {T E : Type 0} → (T → Heard → Result (Turn E) AllocError → T → Type 0) → T → Heard → Result (Unit {0}) (Outcome E BadFrame) → T
    → (old new : Option (List ℕ)) → (wrote wrote_after : ℕ) → Type 0
TakesHeard takes s h (Ok done) t old new wrote wrote' =
    (turn : Turn _) × takes s h (Ok turn) t × (turn.end ≡ None) × Writes turn.frames old new wrote wrote'
TakesHeard takes s h (Err (Ended e)) t old new wrote wrote' =
    (turn : Turn _) × takes s h (Ok turn) t × (turn.end ≡ Some e) × Writes turn.frames old new wrote wrote'
TakesHeard takes s h (Err (Refused bad)) t old new wrote wrote' = ⊥
TakesHeard takes s h (Err ReadFault) t old new wrote wrote' = ⊥
TakesHeard takes s h (Err WriteFault) t old new wrote wrote' =
    (turn : Turn _) × (e : StreamFailure) × takes s h (Ok turn) t × WritesFrames turn.frames (Err e) old new wrote wrote'
TakesHeard takes s h (Err NoMemory) t old new wrote wrote' =
    (e : AllocError) × takes s h (Err e) t × (new ≡ old) × (wrote' ≡ wrote)

-- ── the dialogue ──
-- a moment of a dialogue: who talks, and the streams
pub record Moment (T : Type 0) : Type 0 where
  pub talker : T
  pub at : Streams

abbrev pub moment : {T : Type 0} → T → Streams → Moment T
moment talker at = record { talker = talker; at = at }

-- what a frame held was heard, and taken
abbrev pub Answers : {T E : Type 0} → (T → Heard → Result (Turn E) AllocError → T → Type 0) → Moment T → Result (Unit {0}) (Outcome E BadFrame) → Moment T → Type 0
Answers takes a result b =
    (h : Heard) × IsHeard h a.at b.at × TakesHeard takes a.talker h result b.talker a.at.written b.at.written a.at.wrote b.at.wrote

-- a frame could not be read, and all else is as it was
abbrev pub Fails : {T : Type 0} → FrameError → Moment T → Moment T → Type 0
Fails e a b = ReadsFrame (Err e) a.at.left b.at.left a.at.read b.at.read × IsUnwritten a.at b.at × (b.talker ≡ a.talker)

-- the input has ended, and all else is as it was
abbrev pub IsOver : {T : Type 0} → Moment T → Moment T → Type 0
IsOver a b = ReadsFrame (Ok None) a.at.left b.at.left a.at.read b.at.read × IsUnwritten a.at b.at × (b.talker ≡ a.talker)

-- a dialogue ends: with what was heard, with the input, by a fault of a stream, or for want of memory
abbrev pub Ends : {T E : Type 0} → (T → Heard → Result (Turn E) AllocError → T → Type 0) → (T → E → Type 0) → Moment T → Outcome E BadFrame → Moment T → Type 0
Ends takes ends a (Ended e) b = Answers takes a (Err (Ended e)) b ⊎ (IsOver a b × ends a.talker e)
Ends takes ends a (Refused bad) b = Fails frame_error.Bad a b
Ends takes ends a ReadFault b = Fails frame_error.Fault a b
Ends takes ends a WriteFault b = Answers takes a (Err WriteFault) b
Ends takes ends a NoMemory b = Answers takes a (Err NoMemory) b ⊎ (IsUnwritten a.at b.at × (b.talker ≡ a.talker))

-- a frame is answered, or the dialogue ends
abbrev pub TakesFrame : {T E : Type 0} → (T → Heard → Result (Turn E) AllocError → T → Type 0) → (T → E → Type 0) → Moment T → Result (Unit {0}) (Outcome E BadFrame) → Moment T
    → Type 0
TakesFrame takes ends a (Ok done) b = Answers takes a (Ok done) b
TakesFrame takes ends a (Err outcome) b = Ends takes ends a outcome b

-- frames lead from one moment to another, each answered before the next one is read
pub data Talks {T E : Type 0} (takes : T → Heard → Result (Turn E) AllocError → T → Type 0) : Moment T → Moment T → Type 0 where
  none : (a : Moment T) → Talks takes a a
  more : (a b c : Moment T) (done : Unit {0}) → Talks takes a b → Answers takes b (Ok done) c → Talks takes a c

-- a whole dialogue: frames, and one that ends it; or as many as can be counted
abbrev pub Converses : {T E : Type 0} → (T → Heard → Result (Turn E) AllocError → T → Type 0) → (T → E → Type 0) → Moment T → Outcome E BadFrame → Moment T → Type 0
Converses takes ends a outcome z =
    ((b : Moment _) × Talks takes a b × Ends takes ends b outcome z) ⊎ (Talks takes a z × ((e : _) × ends z.talker e × (outcome ≡ Ended e)))
