-- What a ROM gives a machine, it gives its registers.
use Rattle.std.proofs.Common.{◌≡◌, refl, ap, ◌∙◌}
use Rattle.tb_kernal.specs.declared.events.Event.{Event}
use Rattle.tb_kernal.specs.Machine.{Content, state_of}
use Rattle.tb_debug.specs.Roms.{event_at, event_of}
use Rattle.tb_debug.specs.declared.rom.Rom.{Rom}
use Rattle.tb_debug.specs.declared.rom.Rom.TheVariants.{Quiet, Rude}

by_registers : (b : Rom) (m : Content) → event_of b m ≡ event_at b m.regs
by_registers Quiet m = refl
by_registers (Rude seed) m = refl

-- the event that it gives to a machine for which room was made
pub given_at : (b : Rom) (ready m : Content) (e : Event) → state_of ready ≡ state_of m → e ≡ event_of b ready → e ≡ event_at b m.regs
given_at b ready m e same given = given ∙ by_registers b ready ∙ ap (λ s. event_at b s.regs) same
