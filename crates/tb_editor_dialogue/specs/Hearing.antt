-- What is heard: what frames hold.
use Rattle.std.specs.Prelude.{ℕ, ◌≡◌, List, Option, Some, None, Result, Ok, Err}
use Rattle.std.specs.Str.{IsUtf8}
use Rattle.serde_json.specs.Read.{read}
use Rattle.serde_json.specs.View.{view}
use Rattle.tb_editor_frames.specs.Frames.{ReadsFrame}
use Rattle.tb_editor_frames.specs.declared.reading.Frame.{Frame}
use Rattle.tb_editor_frames.specs.declared.reading.Frame.TheVariants as frame
use Rattle.tb_editor_frames.specs.declared.reading.FrameError.{FrameError}
use Rattle.tb_editor_frames.specs.declared.reading.FrameError.TheVariants.{Fault, Bad, NoMemory}
use Rattle.tb_editor_dialogue.specs.declared.hearing.Heard.{Heard}
use Rattle.tb_editor_dialogue.specs.declared.hearing.Heard.TheVariants as heard

-- what a content holds: its value, or that it is no JSON
abbrev pub HoldsContent : List ℕ → Heard → Type 0
HoldsContent content (heard.Value v) = read content ≡ Some (view v)
HoldsContent content heard.NoJson = IsUtf8 content → read content ≡ None
HoldsContent content heard.TooLarge = ⊥

-- what a frame holds
abbrev pub Holds : Frame → Heard → Type 0
Holds (frame.Content content) h = HoldsContent content.items h
Holds (frame.TooLong n) h = h ≡ heard.TooLarge

-- a frame was read that holds this
abbrev pub Hears : Heard → (had left : Option (List ℕ)) → (read read_after : ℕ) → Type 0
Hears h had left read read' = (f : Frame) × ReadsFrame (Ok (Some f)) had left read read' × Holds f h

-- what the next frame holds, if the input has not ended
abbrev pub NextIs : Result (Option Heard) FrameError → (had left : Option (List ℕ)) → (read read_after : ℕ) → Type 0
NextIs (Ok (Some h)) had left read read' = Hears h had left read read'
NextIs (Ok None) had left read read' = ReadsFrame (Ok None) had left read read'
NextIs (Err Bad) had left read read' = ReadsFrame (Err Bad) had left read read'
NextIs (Err Fault) had left read read' = ReadsFrame (Err Fault) had left read read'
NextIs (Err NoMemory) had left read read' = Unit {0}
