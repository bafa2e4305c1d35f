-- The machine runs any bytes.
use Rattle.std.proofs.Common.{◌≡◌, Bool, true, false, refl, sym, subst, ◌⊎◌, inl, inr}
use Rattle.std.specs.Prelude.{Option, Some, None, Result, Ok, Err}
use Rattle.tb_cpu.specs.declared.wrong.Wrong.{Wrong}
use Rattle.tb_cpu.specs.Instructions as cpu
use Rattle.tb_cpu.specs.Instructions.{next}
use Rattle.tb_kernal.specs.declared.rom.Service.{Service}
use Rattle.tb_kernal.specs.declared.rom.Service.TheVariants.{Chrout, Chrin, Getin}
use Rattle.tb_kernal.specs.declared.events.Clobber.{Clobber}
use Rattle.tb_kernal.specs.declared.status.Status.TheVariants.{Running}
use Rattle.tb_kernal.specs.Rom.{service_at}
use Rattle.tb_kernal.specs.Machine.{State, status_by, is_home, waits_for, stepped, gone, gone_at}
use Rattle.tb_kernal.specs.Laws.{Refused, RunsAnyBytes}

abbrev GoesOn : State → State → Type 0
GoesOn s t = (t.wrong ≡ None) ⊎ Refused s t

-- a running machine isn't home and was not refused
running_by : (home : Bool) (wrong : Option Wrong) (waits : Bool) → status_by home wrong waits ≡ Running → (home ≡ false) × (wrong ≡ None)
running_by true wrong waits h = absurd (cc)
running_by false (Some w) waits h = absurd (cc)
running_by false None true h = absurd (cc)
running_by false None false h = (refl, refl)

stepped_on : (s : State) (x : Result cpu.State Wrong) → is_home s ≡ false → s.wrong ≡ None → GoesOn s (stepped s x)
stepped_on s (Ok t) away right = inl right
stepped_on s (Err w) away right = inr (record { why = w; same = refl; stopped = rw away refl })

gone_on : (o : Option Service) (k : Clobber) (s : State) → is_home s ≡ false → s.wrong ≡ None → GoesOn s (gone_at o k s)
gone_on None k s away right = stepped_on s (next s.regs s.mem) away right
gone_on (Some Chrout) k s away right = inl right
gone_on (Some Chrin) k s away right = inl right
gone_on (Some Getin) k s away right = inl right

-- `RunsAnyBytes` holds: the law that `runs_any_bytes` hands on
pub runs_any_bytes : RunsAnyBytes
runs_any_bytes s k h =
    let facts = running_by (is_home s) s.wrong (waits_for (service_at s.regs.pc) s.text) h in
    subst (λ t. GoesOn s (gone t k s)) (sym h) (gone_on (service_at s.regs.pc) k s facts.0 facts.1)
