-- The law: a renumbered program has the runs of the program, line by line.
use Rattle.std.specs.Prelude.{◌≡◌, ℕ, List, ◌++◌, map, None}
use Rattle.tb_basic_syntax.specs.Source.{Program, numbers, Rises}
use Rattle.tb_basic_meaning.specs.Steps.{Ended, Faulted, Waits, Run, GoesOn, Over}
use Rattle.tb_basic_meaning.specs.Control.{Place, At, Past, State, fault_text}
use Rattle.tb_basic_meaning.specs.Meaning.{source_run}
use Rattle.tb_basic_renumber.specs.Jumps.{first_fault}
use Rattle.tb_basic_renumber.specs.Renumbered.{new_number, renumbered}

-- a place by the new numbers
abbrev pub moved_place : (ℕ → ℕ) → Place → Place
moved_place f (At n) = At (f n)
moved_place f Past = Past

-- a state by the new numbers: its place and the places to return to; all else is the same
abbrev pub moved_state : (ℕ → ℕ) → State → State
moved_state f s = record s { place = moved_place f s.place; returns = map (moved_place f) s.returns }

-- Two runs that are the same, but for line numbers, which the second has put through a map: in the state between lines,
-- or, where a fault ended them, in its text.
pub data Corresponds (f : ℕ → ℕ) : Run State → Run State → Type 0 where
  goes_on : (s : State) (out : List ℕ) → Corresponds f (GoesOn s out) (GoesOn (moved_state f s) out)
  ended : (out : List ℕ) → Corresponds f (Over Ended out) (Over Ended out)
  waits : (out : List ℕ) → Corresponds f (Over Waits out) (Over Waits out)
  faulted : (out : List ℕ) (k n : ℕ) → Corresponds f (Over Faulted (out ++ fault_text k n)) (Over Faulted (out ++ fault_text k (f n)))

-- two programs have such runs, for each first seed, keyboard and answers, after each number of lines
abbrev pub RunAlike : (ℕ → ℕ) → Program → Program → Type 0
RunAlike f old new = (seed : ℕ) (text answers : List ℕ) (m : ℕ) → Corresponds f (source_run old seed text answers m) (source_run new seed text answers m)

-- so do a program and itself renumbered, if all its jumps are constant and to its lines, and the new numbers are line numbers
abbrev pub RenumberedRunAlike : Type 0
RenumberedRunAlike = (first step : ℕ) (program : Program) → Rises 1 32768 (numbers program) → Rises 1 32768 (numbers (renumbered first step program))
    → first_fault (numbers program) program ≡ None → RunAlike (new_number first step (numbers program)) program (renumbered first step program)
