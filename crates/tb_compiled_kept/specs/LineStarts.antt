-- When a machine that runs a program's code begins a line, the program does.
use Rattle.std.specs.Prelude.{◌≡◌, ℕ, ◌+◌, ◌≤◌, ◌<◌, Bool, true, false, ◌||◌, nat_eq, if◌then◌else◌, List, [], ◌∷◌, ◌++◌, length, slice_index}
use Rattle.tb_words.specs.Numbers.{LETTERS}
use Rattle.tb_cpu.specs.Operands.{word_from, word_in}
use Rattle.tb_kernal.specs.declared.events.Event.{Event}
use Rattle.tb_kernal.specs.declared.events.Event.TheVariants.{Go, Interrupt}
use Rattle.tb_kernal.specs.declared.events.Clobber.{Clobber}
use Rattle.tb_kernal.specs.Machine as machine
use Rattle.tb_kernal.specs.Machine.{happens}
use Rattle.tb_kernal.specs.Runs.{run, all_lawful, goes}
use Rattle.tb_basic_syntax.specs.Source.{Program, numbers}
use Rattle.tb_basic_meaning.specs.Steps.{GoesOn}
use Rattle.tb_basic_meaning.specs.Control.{At, Past, Place, State, deepest, has_line}
use Rattle.tb_basic_meaning.specs.Meaning.{source_run}
use Rattle.tb_compiled_kept.specs.Addresses.{NOTES, RETURN_HIGH, RETURN_LOW, var_at}
use Rattle.tb_compiled_kept.specs.Keeps.{Starts}

-- whether a line begins at an address
abbrev pub is_start : (ℕ → ℕ) → List ℕ → ℕ → Bool
is_start start [] a = false
is_start start (n ∷ ns) a = nat_eq a (start n) || is_start start ns a

-- how many Go events of a list come when the machine is at a line's start
abbrev pub begun : (ℕ → ℕ) → List ℕ → List Event → machine.State → ℕ
begun start ns [] s = 0
begun start ns (Go k ∷ es) s = (if is_start start ns s.regs.pc then 1 else 0) + begun start ns es (happens s (Go k))
begun start ns (Interrupt ws ∷ es) s = begun start ns es (happens s (Interrupt ws))

-- an address represents a place of a run: for a line it is where that line begins, past the last line one where no line begins
abbrev pub StandsFor : (ℕ → ℕ) → List ℕ → Place → ℕ → Type 0
StandsFor start ns (At n) a = (has_line ns n ≡ true) × (a ≡ start n)
StandsFor start ns Past a = is_start start ns a ≡ false

-- the address that the return list holds at this index
abbrev pub return_at : (ℕ → ℕ) → ℕ → ℕ
return_at m k = word_from (m (RETURN_LOW + k)) (m (RETURN_HIGH + k))

-- the return list holds these places, the newest first
abbrev pub HoldsReturns : (ℕ → ℕ) → List ℕ → (ℕ → ℕ) → List Place → Type 0
HoldsReturns start ns m [] = Unit {0}
HoldsReturns start ns m (p ∷ ps) = StandsFor start ns p (return_at m (length ps)) × HoldsReturns start ns m ps

-- In a machine t, started as s, the source goes on at this line after m lines: just its output was sent, and its variables
-- and the places to return to are in memory. The code of a line begins where `start` says.
pub record BeginsLine (program : Program) (seed : ℕ) (start : ℕ → ℕ) (s : machine.State) (m number : ℕ) (t : machine.State) : Type 0 where
  pub state : State
  pub done : source_run program seed s.text s.answers m ≡ GoesOn state t.sent
  pub place : state.place ≡ At number
  pub vars : (x : ℕ) → x < LETTERS → word_in t.mem (var_at x) ≡ slice_index state.vars x
  pub depth : word_in t.mem NOTES ≡ length state.returns
  pub few : length state.returns ≤ deepest
  pub returns : HoldsReturns start (numbers program) t.mem state.returns

-- among some events, a Go at a line's start, m such having come before it, and fewer than `bound` Go events
pub record LineComes (program : Program) (start : ℕ → ℕ) (s : machine.State) (m bound : ℕ) (es : List Event) : Type 0 where
  pub front : List Event
  pub clobber : Clobber
  pub back : List Event
  pub split : front ++ (Go clobber ∷ back) ≡ es
  pub few : goes front < bound
  pub here : is_start start (numbers program) (run front s).regs.pc ≡ true
  pub begun_before : begun start (numbers program) front s ≡ m

-- from every start and under every lawful list: when the machine is at a line's start, m having begun before, that line is
-- the one at which the source goes on after m lines; and if the source goes on at a line after m lines, the machine
-- begins one after m within a number of Go events that depends only on the program, the first RND state, the keyboard and m
pub record MarksLines (place : ℕ) (bytes : List ℕ) (program : Program) (seed : ℕ) (start : ℕ → ℕ) : Type 0 where
  pub begins : (s : machine.State) → Starts place bytes s → (es : List Event) → all_lawful es s ≡ true → (n : ℕ) → has_line (numbers program) n ≡ true
      → (run es s).regs.pc ≡ start n → BeginsLine program seed start s (begun start (numbers program) es s) n (run es s)
  pub pace : (text answers : List ℕ) (m : ℕ) → ℕ
  pub comes : (s : machine.State) → Starts place bytes s → (m : ℕ) (state : State) (out : List ℕ) (n : ℕ) → source_run program seed s.text s.answers m
      ≡ GoesOn state out → state.place ≡ At n → (es : List Event) → all_lawful es s ≡ true → pace s.text s.answers m ≤ goes es
      → LineComes program start s m (pace s.text s.answers m) es
