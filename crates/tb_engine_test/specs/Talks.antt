-- A machine that is talked to, line by line.
use Rattle.std.specs.Prelude.{ℕ, ◌≡◌, ◌++◌, Bool, List, [], ◌∷◌, map, Option, Some, None, Ok}
use Rattle.std.specs.declared.alloc.Global.{Global}
use Rattle.std.specs.declared.vec.Vec.{Vec}
use Rattle.tb_kernal.specs.declared.events.Event.{Event}
use Rattle.tb_kernal.specs.declared.status.Status.{Status}
use Rattle.tb_kernal.specs.declared.status.Status.TheVariants.{Waits}
use Rattle.tb_kernal.specs.Machine.{Content, state_of}
use Rattle.tb_kernal.specs.Runs.{RanOver}
use Rattle.tb_kernal.specs.Typing.{with_more}
use Rattle.tb_engines.specs.Writing.{sent_since}
use Rattle.tb_engine_play.specs.Lines.{keys_of_text}
use Rattle.tb_engine_play.specs.Talks as play
use Rattle.tb_engine_profile_table.specs.Rows.{start_pair, Tabled}
use Rattle.tb_engine_profile_table.specs.declared.rows.Row.{Row}
use Rattle.tb_engine_profile_table.specs.declared.rows.Start.{Start}
use Rattle.tb_engine_profile_table.specs.declared.rows.Table.{Table}
use Rattle.tb_engine_streams.specs.HostForm.{shown_as}
use Rattle.tb_engine_transcripts.specs.declared.transcript.Turn.{Turn}
use Rattle.tb_engine_test.specs.declared.talk.Manner.{Manner}

-- whether the machine waits for a key
abbrev pub is_waiting : Status → Bool
is_waiting t = play.is_waiting t

-- the rows of a run: those of the lines that are counted, if they are
abbrev pub Rows : {O : Type 0} → (O → Content → Event → O → Type 0) → O → Content → ℕ → Option (Vec Start Global) → List Row → O → Content → Type 0
Rows gives o m limit None rows p n = rows ≡ []
Rows gives o m limit (Some starts) rows p n =
    (table : Table) × Tabled gives o m (map start_pair starts.items) limit table p n × (table.rows.items ≡ rows)

-- a run of at most the events that it may take, and its rows
pub record Takes {O : Type 0} (gives : O → Content → Event → O → Type 0) (o : O) (m : Content) (manner : Manner) (t : Status) (counted : List Row) (p : O) (n : Content) : Type 0 where
  pub ran : RanOver gives o m manner.limit (Ok t) p n
  pub rows : Rows gives o m manner.limit manner.counted counted p n

-- a stretch: a run of at most the events that it may take, all that was sent in it as it is shown, and its rows
pub record Goes {O : Type 0} (gives : O → Content → Event → O → Type 0) (o : O) (m : Content) (manner : Manner) (t : Status) (text : List ℕ) (counted : List Row) (p : O) (n : Content) : Type 0 where
  pub took : Takes gives o m manner t counted p n
  pub sent : text ≡ shown_as manner.notation (sent_since m n)

-- a line was typed to a machine that waits, and stands behind the turns with what was sent before it
abbrev pub TypesLine : Content → List Turn → List ℕ → List ℕ → Content → List Turn → Type 0
TypesLine m turns sent line n turns' =
    (turn : Turn) × (state_of n ≡ with_more (keys_of_text line) (state_of m)) × (turns' ≡ turns ++ turn ∷ [])
    × (turn.sent.items ≡ sent) × (turn.typed.items ≡ line)

-- a talk that ends while the machine waits has no line left
abbrev pub Stops : Status → List (List ℕ) → Type 0
Stops Waits lines = lines ≡ []
Stops _ lines = Unit {0}

-- A talk of these lines: before each one the machine goes on until it waits, and is typed the line then; at the end it
-- goes on until it stops, has taken all events that it may, or waits and no line is left.
abbrev pub TalksFrom : {O : Type 0} → (O → Content → Event → O → Type 0) → O → Content → Manner → List (List ℕ) → List Turn → List (Vec Row Global) → List ℕ → Status → O → Content → Type 0
TalksFrom gives o m manner lines [] (rows ∷ []) last t p n = Goes gives o m manner t last rows.items p n × Stops t lines
TalksFrom gives o m manner (line ∷ lines) (turn ∷ turns) (rows ∷ later) last t p n =
    (q : _) × (w : Content) × (typed : Content) × Goes gives o m manner Waits turn.sent.items rows.items q w
    × (turn.typed.items ≡ line) × (state_of typed ≡ with_more (keys_of_text line) (state_of w))
    × TalksFrom gives q typed manner lines turns later last t p n
TalksFrom gives o m manner lines turns rows last t p n = ⊥
