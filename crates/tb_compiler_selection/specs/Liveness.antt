-- Liveness: which slots the rest of a list reads before it writes them, and whether it so reads the held word.
use Rattle.std.specs.Prelude.{ℕ, ◌+◌, true, false, max, if◌then◌else◌, nat_eq, List, [], ◌∷◌}
use Rattle.tb_lower.specs.Slots.{Instr, Put, Load, Store, Negate, Compute, Random, SendText, SendNumber, SendZone, SendNewline, Input, Poll, Hold, LeaveUnless, Jump, Call, JumpTo, CallTo, Return, End}
use Rattle.tb_compiler_selection.specs.declared.liveness.Live.{Live}

-- slot k is written: what it held before is not read
abbrev pub written : ℕ → Live → Live
written k r = record { slots = if nat_eq r.slots (k + 1) then k else r.slots; held = r.held }

-- the slots below k are read
abbrev pub read : ℕ → Live → Live
read k r = record { slots = max k r.slots; held = r.held }

-- what is live before an instruction, by what is live after it
abbrev pub live_before : Instr → Live → Live
live_before (Put k w) r = written k r
live_before (Load k x) r = written k r
live_before (Store x) r = read 1 r
live_before (Negate k) r = read (k + 1) r
live_before (Compute op k) r = read (k + 2) r
live_before (Random k) r = read (k + 1) r
live_before (SendText t) r = r
live_before SendNumber r = read 1 r
live_before SendZone r = r
live_before SendNewline r = r
live_before (Input x) r = r
live_before Poll r = r
live_before Hold r = record { slots = max 1 r.slots; held = false }
live_before (LeaveUnless rel) r = record { slots = max 1 r.slots; held = true }
live_before Jump r = read 1 r
live_before Call r = read 1 r
live_before (JumpTo target) r = r
live_before (CallTo target) r = r
live_before Return r = r
live_before End r = r

-- nothing is live, as after a line's list
abbrev pub nothing_live : Live
nothing_live = record { slots = 0; held = false }

-- what is live before a list
abbrev pub live : List Instr → Live
live [] = nothing_live
live (i ∷ is) = live_before i (live is)
