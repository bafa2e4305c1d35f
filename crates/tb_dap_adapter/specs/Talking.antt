-- What is said in turns, and counted.
use Rattle.std.specs.Prelude.{ℕ, ◌≡◌, ◌+◌, List, [], ◌∷◌, length, Option, Some, None, unwrap_or}
use Rattle.std.specs.declared.alloc.Global.{Global}
use Rattle.std.specs.declared.vec.Vec.{Vec}
use Rattle.serde_json.specs.Data.{Data, null}
use Rattle.tb_dap_messages.specs.declared.refusals.Refusal.{Refusal}
use Rattle.tb_dap_requests.specs.Said.{AreFrames, Saying, complaint_of}
use Rattle.tb_dap_values.specs.declared.requests.Command.{Command}
use Rattle.tb_dap_values.specs.declared.requests.Command.TheVariants as command
use Rattle.tb_editor_dialogue.specs.declared.talking.Turn.{Turn}

-- frames are of messages that say this to a request, numbered one after the other
abbrev pub Says : (asked : ℕ) → List ℕ → List Saying → Option (Vec ℕ Global) → (next next_after : ℕ) → Type 0
Says asked command said (Some frames) next next' = AreFrames next asked command said frames.items × (next' ≡ next + length said)
Says asked command said None next next' = ⊥

-- the frames of a turn say this to a request, and the dialogue ends with the turn or goes on
abbrev pub SaysAndEnds : {E : Type 0} → (asked : ℕ) → List ℕ → List Saying → Option E → Turn E → (next next_after : ℕ) → Type 0
SaysAndEnds asked command said end turn next next' = Says asked command said turn.frames next next' × (turn.end ≡ end)

-- it is said of a frame that it is no message
abbrev pub Complains : {E : Type 0} → Refusal → Turn E → (next next_after : ℕ) → Type 0
Complains why turn next next' = SaysAndEnds 0 [] (complaint_of why ∷ []) None turn next next'

-- nothing is said
abbrev pub silence : {E : Type 0} → Turn E
silence = record { frames = None; end = None }

-- the arguments of a request, or null
abbrev pub given : Option Data → Data
given arguments = unwrap_or arguments null

-- the end, if a request asks for it
abbrev pub end_by : {E : Type 0} → Option Command → E → Option E
end_by (Some command.Disconnect) end = Some end
end_by _ end = None
