-- That the events of the given outsides are lawful, and do not depend on what was sent. These lemmas are here since each
-- outside cites its own for the laws of `Outside`.
use Rattle.std.proofs.Common.{ℕ, ◌≡◌, ◌-◌, ◌/◌, ◌%◌, Bool, true, false, List, [], ◌∷◌, refl, ap, arith}
use Rattle.std.proofs.lemmas.Bool.{or_right}
use Rattle.std.specs.Prelude.{◌==◌, if◌then◌else◌, Option, Some, None}
use Rattle.std.proofs.lemmas.Bool.Decides.{nat_tests}
use Rattle.tb_memmap.specs.Bytes.{Writes}
use Rattle.tb_kernal.specs.declared.rom.Service.{Service}
use Rattle.tb_kernal.specs.declared.events.Event.{Event}
use Rattle.tb_kernal.specs.declared.events.Event.TheVariants.{Go, Interrupt}
use Rattle.tb_kernal.specs.Rom.{all_writable, service_at}
use Rattle.tb_kernal.specs.Machine.{Content, state_of, status, is_stopped, is_lawful, is_lawful_go}
use Rattle.tb_kernal.specs.Runs.{quiet, is_quiet}
use Rattle.tb_kernal.specs.Outsides.{turn, rude_writes, rude_clobber, rude_event}

lawful_go : (o : Option Service) (s : ℕ) → is_lawful_go o s [] ≡ true
lawful_go None s = refl
lawful_go (Some _) s = refl

-- the writes that an event brings: those of a service, if a Go calls one, or of an interrupt
abbrev pub writes_of : Event → Writes
writes_of (Go k) = k.writes.items
writes_of (Interrupt ws) = ws.items

pub lawful_at : (o : Option Service) (s : ℕ) (ws : Writes) → all_writable s ws ≡ true → is_lawful_go o s ws ≡ true
lawful_at None s ws h = refl
lawful_at (Some _) s ws h = h

-- an event whose writes the ROM may make is lawful
pub lawful_by : (m : Content) (e : Event) → all_writable m.regs.s (writes_of e) ≡ true → is_lawful (state_of m) e ≡ true
lawful_by m (Go k) h = or_right (is_stopped (status (state_of m))) _ (lawful_at (service_at m.regs.pc) m.regs.s k.writes.items h)
lawful_by m (Interrupt ws) h = or_right (is_stopped (status (state_of m))) _ h

pub quiet_is_lawful : (m : Content) (e : Event) → is_quiet m e → is_lawful (state_of m) e ≡ true
quiet_is_lawful m e h =
    rw h (or_right (is_stopped (status (state_of m))) _ (lawful_go (service_at m.regs.pc) m.regs.s))

chosen : (b : Bool) (m : Content) (e : Event) → is_lawful (state_of m) e ≡ b → is_lawful (state_of m) (if b then e else Go (quiet m)) ≡ true
chosen true m e h = h
chosen false m e h = quiet_is_lawful m (Go (quiet m)) refl

pub turn_is_lawful : (es : List Event) (m : Content) → is_lawful (state_of m) (turn es m) ≡ true
turn_is_lawful [] m = quiet_is_lawful m (Go (quiet m)) refl
turn_is_lawful (e ∷ es) m = chosen (is_lawful (state_of m) e) m e refl

-- whether an event is lawful does not depend on what was sent
pub same_lawful : (e : Event) (m : Content) (sent : List ℕ) → is_lawful (state_of (record m { sent = sent })) e ≡ is_lawful (state_of m) e
same_lawful (Go k) m sent = refl
same_lawful (Interrupt ws) m sent = refl

-- whether a recorded event is given does not depend on what was sent
pub turn_is_blind : (es : List Event) (m : Content) (sent : List ℕ) → turn es (record m { sent = sent }) ≡ turn es m
turn_is_blind [] m sent = refl
turn_is_blind (e ∷ es) m sent = ap (λ b. if b then e else Go (quiet m)) (same_lawful e m sent)

pub rude_writable : (s v : ℕ) → all_writable s (rude_writes s v) ≡ true
rude_writable s v = grind (arith, nat_tests)

rude_by : (b : Bool) (h l : ℕ) (m : Content) →
    is_lawful (state_of m) (if b then Interrupt (record { items = rude_writes m.regs.s (255 - h) }) else Go (rude_clobber m.regs.s h l)) ≡ true
rude_by true h l m = lawful_by m (Interrupt (record { items = rude_writes m.regs.s (255 - h) })) (rude_writable m.regs.s (255 - h))
rude_by false h l m = lawful_by m (Go (rude_clobber m.regs.s h l)) (rude_writable m.regs.s h)

pub rude_is_lawful : (seed : ℕ) (m : Content) → is_lawful (state_of m) (rude_event seed m) ≡ true
rude_is_lawful seed m = rude_by (seed % 256 % 4 == 0) (seed / 256) (seed % 256) m
