-- What is said, and the frames in which it is written.
use Rattle.std.specs.Prelude.{ℕ, ◌≡◌, ◌+◌, Bool, true, false, List, [], ◌∷◌, ◌++◌, codes, length, string_bytes, Option, Some, option_map}
use Rattle.serde_json.specs.Data.{Data}
use Rattle.serde_json.specs.View.{view}
use Rattle.tb_editor_messages.specs.Messages.{Says}
use Rattle.tb_editor_frames.specs.Frames.{frame_of}
use Rattle.tb_dap_messages.specs.Envelopes.{event_of, failure_of, success_of}
use Rattle.tb_dap_messages.specs.Refusals.{text_of}
use Rattle.tb_dap_messages.specs.declared.refusals.Refusal.{Refusal}
use Rattle.tb_dap_values.specs.Bodies.{output_body}
use Rattle.tb_dap_requests.specs.declared.said.Said.{Said}
use Rattle.tb_dap_requests.specs.declared.said.Said.TheVariants as said

-- what is said: that a request is done, with a body; that it is refused, why, and whether a user is to see it; or an event
pub data Saying : Type 0 where
  done : Option Data → Saying
  refused : List ℕ → Bool → Saying
  event : List ℕ → Option Data → Saying

-- a `Said` of the code as what is said
abbrev pub seen : Said → Saying
seen (said.Done body) = done (option_map view body)
seen (said.Refused refusal) = refused (text_of refusal) false
seen (said.Unknown why) = refused why.now false
seen (said.Unfit why) = refused (string_bytes why) true
seen (said.Event name body) = event name.now (option_map view body)

-- a text that is written in a category
abbrev pub output_of : (category text : List ℕ) → Saying
output_of category text = event (codes "output") (Some (output_body category text))

-- that a frame is no message
abbrev pub complaint_of : Refusal → Saying
complaint_of refusal = output_of (codes "stderr") (codes "tbc: " ++ (text_of refusal ++ 10 ∷ []))

-- the message of what is said to a request by its number and command, with a number of its own
abbrev pub message_of : (seq asked : ℕ) → List ℕ → Saying → Data
message_of seq asked command (done body) = success_of seq asked command body
message_of seq asked command (refused text is_shown) = failure_of seq asked command text is_shown
message_of seq asked command (event name body) = event_of seq name body

-- the frame of what is said is appended
abbrev pub AddsFrame : (seq asked : ℕ) → List ℕ → Saying → (old new : List ℕ) → Type 0
AddsFrame seq asked command s old new =
    (content : List ℕ) × Says content (message_of seq asked command s) × (new ≡ old ++ frame_of content)

-- the frames of what is said one after the other, with numbers that rise by 1
pub data AreFrames (seq asked : ℕ) (command : List ℕ) : List Saying → List ℕ → Type 0 where
  none : AreFrames seq asked command [] []
  more : (before : List Saying) (s : Saying) (old new : List ℕ) → AreFrames seq asked command before old
      → AddsFrame (seq + length before) asked command s old new → AreFrames seq asked command (before ++ s ∷ []) new
