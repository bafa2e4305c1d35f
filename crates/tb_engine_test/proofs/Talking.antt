-- A talk, line by line.
use Rattle.std.proofs.Common.{Ok, Some, map, ◌≡◌, ℕ, true, false, List, [], ◌∷◌, ◌++◌, refl, sym, subst, append-nil, append_assoc}
use Rattle.std.specs.declared.alloc.Global.{Global}
use Rattle.std.specs.declared.vec.Vec.{Vec}
use Rattle.tb_kernal.specs.declared.events.Event.{Event}
use Rattle.tb_kernal.specs.declared.status.Status.{Status}
use Rattle.tb_kernal.specs.declared.status.Status.TheVariants.{Running, Waits, Returned, Wrong}
use Rattle.tb_kernal.specs.Machine.{Content, state_of}
use Rattle.tb_kernal.specs.Runs.{RanOver}
use Rattle.tb_kernal.specs.Typing.{with_more}
use Rattle.tb_engine_play.specs.Lines.{keys_of_text}
use Rattle.tb_engine_profile_table.specs.Rows.{start_pair, Tabled}
use Rattle.tb_engine_profile_table.specs.declared.rows.Row.{Row}
use Rattle.tb_engine_profile_table.specs.declared.rows.Start.{Start}
use Rattle.tb_engine_profile_table.specs.declared.rows.Table.{Table}
use Rattle.tb_engine_transcripts.specs.declared.transcript.Turn.{Turn}
use Rattle.tb_engine_test.specs.Talks.{is_waiting, Goes, Rows, Stops, Takes, TalksFrom}
use Rattle.tb_engine_test.specs.declared.talk.Manner.{Manner}

-- whatever talk goes on from here, it makes a whole talk behind these turns and rows
abbrev pub GoesOn : {O : Type 0} → (O → Content → Event → O → Type 0) → O → Content → Manner → List (List ℕ) → O → Content → List (List ℕ) → List Turn → List (Vec Row Global) → Type 0
GoesOn {O} gives o m manner lines q k rest turns rows =
    (turns' : List Turn) (later : List (Vec Row Global)) (last : List ℕ) (t : Status) (p : O) (n : Content)
    → TalksFrom gives q k manner rest turns' later last t p n → TalksFrom gives o m manner lines (turns ++ turns') (rows ++ later) last t p n

-- one more line was typed
pub one_more : {O : Type 0} (gives : O → Content → Event → O → Type 0) (o : O) (m : Content) (manner : Manner) (lines : List (List ℕ)) (q : O) (k : Content)
    (line : List ℕ) (rest : List (List ℕ)) (turns : List Turn) (rows : List (Vec Row Global)) (turn : Turn) (some : Vec Row Global) (r : O) (w typed : Content)
    → GoesOn gives o m manner lines q k (line ∷ rest) turns rows → Goes gives q k manner Waits turn.sent.items some.items r w
    → turn.typed.items ≡ line → state_of typed ≡ with_more (keys_of_text line) (state_of w)
    → GoesOn gives o m manner lines r typed rest (turns ++ turn ∷ []) (rows ++ some ∷ [])
one_more gives o m manner lines q k line rest turns rows turn some r w typed before goes same more turns' later last t p n after =
    let whole = before (turn ∷ turns') (some ∷ later) last t p n (r, w, typed, goes, same, more, after) in
    let by_rows = subst (λ y. TalksFrom gives o m manner lines (turns ++ turn ∷ turns') y last t p n) (sym (append_assoc rows (some ∷ []) later)) whole in
    subst (λ x. TalksFrom gives o m manner lines x ((rows ++ some ∷ []) ++ later) last t p n) (sym (append_assoc turns (turn ∷ []) turns')) by_rows

-- the talk ends here
pub ends_here : {O : Type 0} (gives : O → Content → Event → O → Type 0) (o : O) (m : Content) (manner : Manner) (lines : List (List ℕ)) (q : O) (k : Content)
    (rest : List (List ℕ)) (turns : List Turn) (rows : List (Vec Row Global)) (some : Vec Row Global) (sent : List ℕ) (t : Status) (p : O) (n : Content)
    → GoesOn gives o m manner lines q k rest turns rows → Goes gives q k manner t sent some.items p n → Stops t rest
    → TalksFrom gives o m manner lines turns (rows ++ some ∷ []) sent t p n
ends_here gives o m manner lines q k rest turns rows some sent t p n before goes stops =
    subst (λ x. TalksFrom gives o m manner lines x (rows ++ some ∷ []) sent t p n) (append-nil turns) (before [] (some ∷ []) sent t p n (goes, stops))

-- a machine that doesn't wait may stop before any lines
pub stops_early : (t : Status) (rest : List (List ℕ)) → is_waiting t ≡ false → Stops t rest
stops_early Running rest h = tt
stops_early Waits rest h = absurd (cc)
stops_early Returned rest h = tt
stops_early (Wrong w) rest h = tt

-- and any machine where no line is left
pub stops_last : (t : Status) → Stops t []
stops_last Running = tt
stops_last Waits = refl
stops_last Returned = tt
stops_last (Wrong w) = tt

-- the machine that waits has the status of its own name
pub waits : (t : Status) → is_waiting t ≡ true → t ≡ Waits
waits Running h = absurd (cc)
waits Waits h = refl
waits Returned h = absurd (cc)
waits (Wrong w) h = absurd (cc)

-- the rows of a run whose lines are counted
pub takes_counted : {O : Type 0} (gives : O → Content → Event → O → Type 0) (o : O) (m : Content) (manner : Manner) (starts : Vec Start Global) (table : Table) (p : O) (n : Content)
    → manner.counted ≡ Some starts → Tabled gives o m (map start_pair starts.items) manner.limit table p n
    → Takes gives o m manner table.status table.rows.items p n
takes_counted gives o m manner starts table p n is tabled =
    record {
      ran = subst (λ t. RanOver gives o m manner.limit (Ok t) p n) (sym tabled.ends) tabled.ran;
      rows = subst (λ k. Rows gives o m manner.limit k table.rows.items p n) (sym is) (table, tabled, refl);
    }
