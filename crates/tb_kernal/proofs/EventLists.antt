-- What a run sends, and its lists of events.
use Rattle.std.proofs.Common.{◌≡◌, ℕ, ◌+◌, true, List, [], ◌∷◌, ◌++◌, refl, arith, Option, Some, None}
use Rattle.std.proofs.lemmas.Bool.{and_parts}
use Rattle.std.specs.Prelude.{Result, Ok, Err}
use Rattle.arrayvec.specs.ArrayVec.{ArrayVec}
use Rattle.tb_cpu.specs.declared.wrong.Wrong.{Wrong}
use Rattle.tb_cpu.specs.Instructions as cpu
use Rattle.tb_kernal.specs.declared.rom.Service.{Service}
use Rattle.tb_kernal.specs.declared.rom.Service.TheVariants.{Chrout, Chrin, Getin}
use Rattle.tb_kernal.specs.declared.events.Clobber.{Clobber}
use Rattle.tb_kernal.specs.declared.events.Event.{Event}
use Rattle.tb_kernal.specs.declared.events.Event.TheVariants.{Go, Interrupt}
use Rattle.tb_kernal.specs.declared.status.Status.{Status}
use Rattle.tb_kernal.specs.declared.status.Status.TheVariants.{Running, Waits, Returned, Wrong as WentWrong}
use Rattle.tb_kernal.specs.Rom.{service_at}
use Rattle.tb_kernal.specs.Machine.{State, status, happens, gone, gone_at, stepped, interrupted}
use Rattle.tb_kernal.specs.Runs.{run, all_lawful, goes}
use Rattle.tb_memmap.specs.Bytes.{Writes}
use Rattle.tb_words.specs.Prefixes.{IsPrefix}
use Rattle.tb_words.proofs.Prefixes.{prefix_same}

-- running two lists of events in turn is running their concatenation
pub run_append : (es fs : List Event) (s : State) → run (es ++ fs) s ≡ run fs (run es s)
run_append [] fs s = refl
run_append (e ∷ es) fs s = run_append es fs (happens s e)

-- the Go events of two lists add up
pub goes_append : (es fs : List Event) → goes (es ++ fs) ≡ goes es + goes fs
goes_append [] fs = omega arith
goes_append (Go k ∷ es) fs = omega (arith, goes_append es fs)
goes_append (Interrupt ws ∷ es) fs = goes_append es fs

-- the rest of a lawful list is lawful in the state that its front leads to
pub lawful_after : (es fs : List Event) (s : State) → all_lawful (es ++ fs) s ≡ true → all_lawful fs (run es s) ≡ true
lawful_after [] fs s h = h
lawful_after (e ∷ es) fs s h = lawful_after es fs (happens s e) (and_parts _ _ h).1

-- an interrupt sends nothing
interrupted_sent : (q : Status) (ws : Writes) (s : State) → (interrupted q ws s).sent ≡ s.sent
interrupted_sent Running ws s = refl
interrupted_sent Returned ws s = refl
interrupted_sent Waits ws s = refl
interrupted_sent (WentWrong w) ws s = refl

-- an interrupt sends nothing
pub interrupt_sends_nothing : (s : State) (ws : ArrayVec (ℕ × ℕ)) → (happens s (Interrupt ws)).sent ≡ s.sent
interrupt_sends_nothing s ws = interrupted_sent (status s) ws.items s

stepped_sent : (s : State) (x : Result cpu.State Wrong) → (stepped s x).sent ≡ s.sent
stepped_sent s (Ok t) = refl
stepped_sent s (Err w) = refl

served_sent : (o : Option Service) (k : Clobber) (s : State) → IsPrefix s.sent (gone_at o k s).sent
served_sent (Some Chrout) k s = (s.regs.a ∷ [], refl)
served_sent (Some Chrin) k s = prefix_same _ _ refl
served_sent (Some Getin) k s = prefix_same _ _ refl
served_sent None k s = prefix_same _ _ (stepped_sent s (cpu.next s.regs s.mem))

gone_sent : (q : Status) (k : Clobber) (s : State) → IsPrefix s.sent (gone q k s).sent
gone_sent Running k s = served_sent (service_at s.regs.pc) k s
gone_sent Returned k s = prefix_same _ _ refl
gone_sent Waits k s = prefix_same _ _ refl
gone_sent (WentWrong w) k s = prefix_same _ _ refl

-- one event keeps what was sent, as a prefix
pub sends_on : (e : Event) (s : State) → IsPrefix s.sent (happens s e).sent
sends_on (Go k) s = gone_sent (status s) k s
sends_on (Interrupt ws) s = prefix_same _ _ (interrupt_sends_nothing s ws)
