-- The headline: a program's code keeps the program, whatever the ROM does.
use Rattle.std.specs.Prelude.{◌≡◌, ◌⊎◌, ◌≢◌, ℕ, ◌+◌, ◌≤◌, true, List}
use Rattle.tb_cpu.specs.declared.wrong.Wrong.{Wrong}
use Rattle.tb_kernal.specs.declared.events.Event.{Event}
use Rattle.tb_kernal.specs.declared.status.Status.TheVariants.{Running, Waits as WaitsForKey, Returned, Wrong as WentWrong}
use Rattle.tb_kernal.specs.Machine as machine
use Rattle.tb_kernal.specs.Machine.{status}
use Rattle.tb_kernal.specs.Runs.{run, all_lawful, goes}
use Rattle.tb_kernal.specs.Starts.{IsStart}
use Rattle.tb_basic_syntax.specs.Source.{Program}
use Rattle.tb_basic_meaning.specs.Steps.{End, Ended, Faulted, Waits, Run, GoesOn, Over, sent_by}
use Rattle.tb_words.specs.Prefixes.{IsPrefix}
use Rattle.tb_basic_meaning.specs.Control.{State}
use Rattle.tb_basic_meaning.specs.Meaning.{source_run}
use Rattle.tb_opcodes.specs.Bytes.{AreBytes}

-- a start of a program whose keyboard gives bytes; all else is arbitrary
pub record Starts (place : ℕ) (bytes : List ℕ) (s : machine.State) : Type 0 where
  pub start : IsStart place bytes s
  pub text : AreBytes s.text
  pub answers : AreBytes s.answers

-- the status of a machine when a run of the source ended this way
abbrev pub HasEnded : End → machine.State → Type 0
HasEnded Waits t = status t ≡ WaitsForKey
HasEnded Ended t = status t ≡ Returned
HasEnded Faulted t = status t ≡ Returned

-- a machine t, started as s: it is not wrong, S is at most 16 away from the start's, what was sent is a prefix of what
-- some number of lines sends, and it has returned or waits only if the source ended, faulted or waits with just that output
pub record IsSound (program : Program) (seed : ℕ) (s t : machine.State) : Type 0 where
  pub never_wrong : (w : Wrong) → status t ≢ WentWrong w
  pub not_below : s.regs.s ≤ t.regs.s + 16
  pub not_above : t.regs.s ≤ s.regs.s + 16
  pub lines : ℕ
  pub prefix : IsPrefix t.sent (sent_by (source_run program seed s.text s.answers lines))
  pub stopped : (status t ≡ Running) ⊎ ((why : End) × (source_run program seed s.text s.answers lines ≡ Over why t.sent) × HasEnded why t)

-- at least what the source sent was sent, and if the source stopped the machine has stopped too, having sent just that
abbrev pub HasDone : Run State → machine.State → Type 0
HasDone (GoesOn s out) t = IsPrefix out t.sent
HasDone (Over why out) t = (t.sent ≡ out) × HasEnded why t

-- from every start and under every lawful list of events: the machine is sound, and after n Go events, where n depends
-- only on the program, the first RND state, the keyboard and m, it has done what the source does in m lines
pub record Keeps (place : ℕ) (bytes : List ℕ) (program : Program) (seed : ℕ) : Type 0 where
  pub sound : (s : machine.State) → Starts place bytes s → (es : List Event) → all_lawful es s ≡ true → IsSound program seed s (run es s)
  pub pace : (text answers : List ℕ) (m : ℕ) → ℕ
  pub paced : (s : machine.State) → Starts place bytes s → (es : List Event) → all_lawful es s ≡ true → (m : ℕ) → pace s.text s.answers m ≤ goes es
      → HasDone (source_run program seed s.text s.answers m) (run es s)
