-- The events that a ROM gives.
use Rattle.std.proofs.Common.{◌≡◌, ℕ, List, true, [], refl, ap, ◌∙◌}
use Rattle.tb_words.specs.Words.{seed_after}
use Rattle.tb_cpu.specs.declared.registers.Regs.{Regs}
use Rattle.tb_kernal.specs.declared.events.Event.{Event}
use Rattle.tb_kernal.specs.declared.events.Event.TheVariants.{Go}
use Rattle.tb_kernal.specs.Machine.{Content, entered, is_lawful, state_of}
use Rattle.tb_kernal.specs.Runs.{quiet}
use Rattle.tb_kernal.specs.Outsides.{rude_event}
use Rattle.tb_kernal.specs.LawfulEvents.{quiet_is_lawful, rude_is_lawful}
use Rattle.tb_debug.specs.declared.rom.Rom.{Rom}
use Rattle.tb_debug.specs.declared.rom.Rom.TheVariants.{Quiet, Rude}

-- the event that it gives to a machine
abbrev pub event_of : Rom → Content → Event
event_of Quiet m = Go (quiet m)
event_of (Rude seed) m = rude_event (seed_after seed) m

-- the event that it gives to these registers: it looks at nothing else
abbrev pub event_at : Rom → Regs → Event
event_at rom r = event_of rom (entered [] r [] [])

-- the ROM after an event
abbrev pub after : Rom → Rom
after Quiet = Quiet
after (Rude seed) = Rude (seed_after seed)

pub event_is_lawful : (b : Rom) (m : Content) → is_lawful (state_of m) (event_of b m) ≡ true
event_is_lawful Quiet m = quiet_is_lawful m (Go (quiet m)) refl
event_is_lawful (Rude seed) m = rude_is_lawful (seed_after seed) m

-- an event that it gives is lawful: the law of `Outside`
pub given_is_lawful : (b : Rom) (m : Content) (e : Event) → e ≡ event_of b m → is_lawful (state_of m) e ≡ true
given_is_lawful b m e h = ap (is_lawful (state_of m)) h ∙ event_is_lawful b m

-- what it gives does not depend on what was sent: the other law
pub event_is_blind : (b : Rom) (m : Content) (sent : List ℕ) → event_of b (record m { sent = sent }) ≡ event_of b m
event_is_blind Quiet m sent = refl
event_is_blind (Rude seed) m sent = refl
