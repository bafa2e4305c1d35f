-- What a server says in a dialogue.
use Rattle.std.specs.Prelude.{ℕ, ◌≡◌, List, Option, Some, None, Result, Ok, Err}
use Rattle.std.specs.declared.alloc.AllocError.{AllocError}
use Rattle.std.specs.declared.alloc.Global.{Global}
use Rattle.std.specs.declared.vec.Vec.{Vec}
use Rattle.serde_json.specs.Data.{null}
use Rattle.serde_json.specs.View.{view}
use Rattle.tb_editor_frames.specs.Frames.{frame_of}
use Rattle.tb_editor_messages.specs.declared.refusals.Refusal.TheVariants.{NoJson, TooLarge}
use Rattle.tb_editor_dialogue.specs.Dialogue.{Converses, Streams, moment}
use Rattle.tb_editor_dialogue.specs.declared.hearing.Heard.{Heard}
use Rattle.tb_editor_dialogue.specs.declared.hearing.Heard.TheVariants as heard
use Rattle.tb_editor_dialogue.specs.declared.talking.Turn.{Turn}
use Rattle.tb_basic_text.specs.declared.notation.Notation.{Notation}
use Rattle.tb_lsp_server.specs.Outcomes.{ServerOutcome, end_of}
use Rattle.tb_lsp_server.specs.Replies.{IsNew, Refuses, Takes}
use Rattle.tb_lsp_server.specs.declared.life.Stage.{Stage}
use Rattle.tb_lsp_server.specs.declared.outcome.Served.{Served}
use Rattle.tb_lsp_server.specs.declared.server.Reply.{Reply}
use Rattle.tb_lsp_server.specs.declared.server.Reply.TheVariants.{Nothing, Content, Exit}
use Rattle.tb_lsp_server.specs.declared.server.Server.{Server}
use Rattle.tb_compiled.specs.Promise.{Own}

-- a value that is heard is taken; what is none is refused
abbrev pub RepliesTo : Own → Heard → Server → Reply → Server → Type 0
RepliesTo own (heard.Value v) old reply new = Takes own (view v) old reply new
RepliesTo own heard.NoJson old reply new = Refuses null NoJson old reply new
RepliesTo own heard.TooLarge old reply new = Refuses null TooLarge old reply new

-- frames are these bytes
abbrev pub AreFrames : Option (Vec ℕ Global) → List ℕ → Type 0
AreFrames (Some frames) bytes = frames.items ≡ bytes
AreFrames None bytes = ⊥

-- the turn of a reply, by the server's stage then: the frame of a content is written, or the server ends
abbrev pub IsTurn : Reply → Stage → Turn Served → Type 0
IsTurn Nothing stage turn = (turn.frames ≡ None) × (turn.end ≡ None)
IsTurn (Content content) stage turn = AreFrames turn.frames (frame_of content.items) × (turn.end ≡ None)
IsTurn Exit stage turn = (turn.frames ≡ None) × (turn.end ≡ Some (end_of stage))

-- what is heard is replied to
abbrev pub Answers : Own → Server → Heard → Result (Turn Served) AllocError → Server → Type 0
Answers own old h (Ok turn) new = (reply : Reply) × RepliesTo own h old reply new × IsTurn reply new.stage turn
Answers own old h (Err e) new = Unit {0}

-- a dialogue ends with its input as the server's stage has it
abbrev pub EndsAs : Server → Served → Type 0
EndsAs s end = end ≡ end_of s.stage

-- a dialogue of a new server, which has a notation
abbrev pub ServesNew : (own : Own) (version : List ℕ) → Notation → Streams → ServerOutcome → Streams → Type 0
ServesNew own version notation first outcome last =
    (s : Server) × IsNew version notation s × ((z : Server) × Converses (Answers own) EndsAs (moment s first) outcome (moment z last))
