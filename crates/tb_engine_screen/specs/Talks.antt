-- Talks on the screen: a machine runs, waits, has a line typed to it, and runs on; before each line its screen is shown.
use Rattle.std.specs.Prelude.{ℕ, Bool, true, false, ◌++◌, ◌≡◌, ◌⊎◌, ◌+◌, ◌<◌, ◌≤◌, List, [], ◌∷◌, length, Option, Result, Ok, Err}
use Rattle.std.specs.Io.KnownBytes.{Appends, Keeps}
use Rattle.tb_kernal.specs.declared.status.Status.{Status}
use Rattle.tb_kernal.specs.declared.status.Status.TheVariants.{Waits}
use Rattle.tb_kernal.specs.Machine.{Content, state_of}
use Rattle.tb_kernal.specs.Typing.{with_more}
use Rattle.tb_machine_screen.specs.Contents.{Content as Screen, first_content}
use Rattle.tb_machine_screen.specs.Frames.{frame_of, closing_of}
use Rattle.tb_engine_streams.specs.Streams.{AppendsPrefix}
use Rattle.tb_engine_streams.specs.Uses.{Use, Fails, NeverFails}
use Rattle.tb_engine_streams.specs.Lines.{TakesLine, TakesPart, TakesNothing}
use Rattle.tb_engines.specs.Programs.{end_of}
use Rattle.tb_engines.specs.Outcomes.{Outcome}
use Rattle.tb_engine_streams.specs.declared.outcome.Outcome.TheVariants.{Ended, Refused, ReadFault, WriteFault, NoMemory}
use Rattle.tb_engine_play.specs.Lines.{most_typed, keys_of, typed_of, TakesLines, TakesSome}
use Rattle.tb_engine_play.specs.Talks.{Stretch, Stops, Writes}
use Rattle.tb_engine_screen.specs.Screens.{ran, echoed}

-- Lines are typed one after the other, each when the machine waits after a stretch: from a machine and its screen to
-- those after the last line. The text is that of the frames at these waits.
abbrev pub Talked : ℕ → Content → Screen → List (List ℕ) → Content → Screen → List ℕ → Type 0
Talked limit m s [] n t text = (n ≡ m) × (t ≡ s) × (text ≡ [])
Talked limit m s (line ∷ lines) n t text =
    (w : Content) × (typed : Content) × (rest : List ℕ)
    × Stretch limit m Waits w × (state_of typed ≡ with_more (keys_of line) (state_of w))
    × (text ≡ frame_of (ran m w s) ++ rest)
    × Talked limit typed (echoed (keys_of line) (ran m w s)) lines n t rest

-- a talk after these lines, from a blank screen: they were taken of the reader, and its frames are written
pub record IsAfterLines (limit : ℕ) (m : Content) (lines : List (List ℕ)) (n : Content) (s : Screen) (had left old new : Option (List ℕ)) : Type 0 where
  pub text : List ℕ
  pub talked : Talked limit m first_content lines n s text
  pub taken : TakesLines had lines left
  pub written : Appends old new text

-- A talk and a stretch after it: these lines were taken of the reader, and nothing more. The text is that of all its
-- frames, and last of that after the stretch.
pub record Comes (limit : ℕ) (m : Content) (lines : List (List ℕ)) (status : Status) (n : Content) (had left : Option (List ℕ)) (text : List ℕ) : Type 0 where
  pub typed : Content
  pub screen : Screen
  pub before : List ℕ
  pub talked : Talked limit m first_content lines typed screen before
  pub stretch : Stretch limit typed status n
  pub taken : TakesLines had lines left
  pub frames : text ≡ before ++ frame_of (ran typed n screen)

-- What playing a machine came to before the terminal is left: how it ended, all that was typed, the use of the keyboard's
-- reader, and what the writer had got before and after. A line is taken only when the machine waits.
abbrev pub Plays : ℕ → Content → Outcome → List ℕ → Use → Option (List ℕ) → Option (List ℕ) → Type 0
Plays limit m (Ended end) typed keys old new =
    (lines : List (List ℕ)) × (status : Status) × (n : Content) × (mid : Option (List ℕ)) × (text : List ℕ)
    × Comes limit m lines status n keys.old mid text × Stops status mid keys.new
    × (typed ≡ typed_of lines) × (end ≡ end_of status n.regs.pc) × Appends old new text
Plays limit m (Refused e) typed keys old new = ⊥
Plays limit m ReadFault typed keys old new =
    (lines : List (List ℕ)) × (n : Content) × (mid : Option (List ℕ)) × (line : List ℕ) × (text : List ℕ)
    × Comes limit m lines Waits n keys.old mid text × TakesPart mid line keys.new
    × (Fails keys ⊎ ((most_typed < length (typed_of lines) + length (keys_of line)) × TakesSome mid line keys.new))
    × Appends old new text
Plays limit m WriteFault typed keys old new =
    (lines : List (List ℕ)) × (status : Status) × (n : Content) × (text : List ℕ)
    × Comes limit m lines status n keys.old keys.new text × AppendsPrefix old new text
Plays limit m NoMemory typed keys old new =
    ((lines : List (List ℕ)) × (n : Content) × (s : Screen) × IsAfterLines limit m lines n s keys.old keys.new old new)
    ⊎ ((lines : List (List ℕ)) × (n : Content) × (mid : Option (List ℕ)) × (line : List ℕ) × (text : List ℕ)
    × Comes limit m lines Waits n keys.old mid text × TakesPart mid line keys.new × Appends old new text)

-- Written before the next line is read, however playing ended: nothing was taken of the reader, or some of a line last,
-- for which the machine waited after the lines before it; and all frames up to that wait's are written.
abbrev pub WritesBeforeReading : ℕ → Content → Use → Use → Type 0
WritesBeforeReading limit m keys writer =
    (keys.new ≡ keys.old)
    ⊎ ((lines : List (List ℕ)) × (n : Content) × (mid : Option (List ℕ)) × (line : List ℕ) × (text : List ℕ)
    × Comes limit m lines Waits n keys.old mid text × TakesPart mid line keys.new × Writes writer text)

-- what running a stretch and showing the screen after it answers, with the machine and the screen after it
abbrev pub GoesOn : ℕ → Content → Screen → Result Status Outcome → Content → Screen → Use → Type 0
GoesOn limit m s (Ok status) n t writer =
    Stretch limit m status n × (t ≡ ran m n s) × Appends writer.old writer.new (frame_of (ran m n s)) × NeverFails writer
GoesOn limit m s (Err WriteFault) n t writer =
    (status : Status) × Stretch limit m status n × AppendsPrefix writer.old writer.new (frame_of (ran m n s)) × Fails writer
GoesOn limit m s (Err NoMemory) n t writer = Keeps writer.old writer.new × NeverFails writer
GoesOn limit m s (Err (Ended end)) n t writer = ⊥
GoesOn limit m s (Err (Refused e)) n t writer = ⊥
GoesOn limit m s (Err ReadFault) n t writer = ⊥

-- what reading a line, typing it and showing it answers: whether there was one; with the machine, the screen and the
-- typed text before and after
abbrev pub Hears : Content → Screen → List ℕ → Result Bool Outcome → Content → Screen → List ℕ → Use → Type 0
Hears m s typed (Ok true) n t typed' keys =
    (line : List ℕ) × TakesLine keys.old line keys.new × (state_of n ≡ with_more (keys_of line) (state_of m))
    × (t ≡ echoed (keys_of line) s)
    × (typed' ≡ typed ++ keys_of line) × (length typed' ≤ most_typed) × NeverFails keys
Hears m s typed (Ok false) n t typed' keys =
    TakesNothing keys.old keys.new × (n ≡ m) × (typed' ≡ typed) × NeverFails keys
Hears m s typed (Err ReadFault) n t typed' keys =
    (line : List ℕ) × TakesPart keys.old line keys.new
    × (Fails keys ⊎ ((most_typed < length typed + length (keys_of line)) × TakesSome keys.old line keys.new)) × (typed' ≡ typed)
Hears m s typed (Err NoMemory) n t typed' keys =
    (line : List ℕ) × TakesPart keys.old line keys.new × (typed' ≡ typed) × NeverFails keys
Hears m s typed (Err (Ended end)) n t typed' keys = ⊥
Hears m s typed (Err (Refused e)) n t typed' keys = ⊥
Hears m s typed (Err WriteFault) n t typed' keys = ⊥

-- ---- leaving the terminal

-- what holds after a write fault, and what otherwise
abbrev pub AfterFault : Outcome → Type 0 → Type 0 → Type 0
AfterFault WriteFault fault other = fault
AfterFault (Ended end) fault other = other
AfterFault (Refused e) fault other = other
AfterFault ReadFault fault other = other
AfterFault NoMemory fault other = other

-- the outcome after the terminal was left by a text: a write fault if only a prefix could be written, and after a write
-- fault nothing more is written
abbrev pub Leaves : Outcome → Outcome → List ℕ → Option (List ℕ) → Option (List ℕ) → Type 0
Leaves first last text old new =
    AfterFault first ((last ≡ WriteFault) × (new ≡ old))
    (((last ≡ first) × Appends old new text) ⊎ ((last ≡ WriteFault) × AppendsPrefix old new text))

-- the outcome changes only if the writer fails
abbrev pub LeaveFaults : Outcome → Outcome → Use → Type 0
LeaveFaults first last writer =
    AfterFault first ((last ≡ WriteFault) × NeverFails writer)
    (((last ≡ first) × NeverFails writer) ⊎ ((last ≡ WriteFault) × Fails writer))

-- What playing a machine on the screen came to: nothing without memory, or it was played, and then the terminal was left.
abbrev pub PlaysAndLeaves : ℕ → Content → Outcome → List ℕ → Use → Use → Type 0
PlaysAndLeaves limit m outcome typed keys writer =
    ((outcome ≡ NoMemory) × (typed ≡ []) × (keys.new ≡ keys.old) × Keeps writer.old writer.new)
    ⊎ ((first : Outcome) × (shown : Option (List ℕ))
    × Plays limit m first typed keys writer.old shown × Leaves first outcome closing_of shown writer.new)

-- a fault comes only if a stream failed, or if more was read than may be handed over; at a write fault the reader may have
-- failed before
abbrev pub PlayFaults : Outcome → Use → Use → Type 0
PlayFaults ReadFault keys writer = NeverFails writer
PlayFaults WriteFault keys writer = Fails writer
PlayFaults (Ended end) keys writer = NeverFails keys × NeverFails writer
PlayFaults (Refused e) keys writer = NeverFails keys × NeverFails writer
PlayFaults NoMemory keys writer = NeverFails keys × NeverFails writer
