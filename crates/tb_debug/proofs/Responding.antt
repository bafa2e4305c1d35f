-- A command that moves the run tells its stop.
use Rattle.std.proofs.Common.{◌≡◌, ◌∙◌, ℕ, sym, ap, subst}
use Rattle.std.specs.Prelude.{Some}
use Rattle.tb_debug_commands.specs.declared.command.Command.{Command}
use Rattle.tb_debug_commands.specs.declared.command.Command.TheVariants as command
use Rattle.tb_debug.specs.Begins.{StandsBy}
use Rattle.tb_debug.specs.Kinds.{IsWalk}
use Rattle.tb_debug.specs.Leading.{Leads}
use Rattle.tb_debug.specs.Leaving.{Leaves, LeavesStops, LeavesToLine}
use Rattle.tb_debug.specs.Telling.{Tells, TellsLine, TellsStop, TellsWay, is_limit}
use Rattle.tb_debug.specs.declared.answer.Answer.{Answer}
use Rattle.tb_debug.specs.declared.debugger.Debugger.{Debugger}
use Rattle.tb_debug.specs.declared.moment.Reached.{Reached}

-- the way is told
tells_way : (limit : ℕ) (c : Command) (d m e : Debugger) (reached : Reached) (n : ℕ) (told : Answer) → Leads limit c d reached m.present
    → StandsBy d.starts reached m.present → m.shown ≡ d.shown → e ≡ record m { shown = n } → TellsStop m.shown (is_limit reached) e told
    → TellsWay limit c d e (Some told)
tells_way limit c d m e reached n told leads stands same is_stop stop =
    let there : m.present ≡ e.present = sym (ap (λ x. x.present) is_stop) in (
      reached,
      subst (Leads limit c d reached) there leads,
      subst (StandsBy d.starts reached) there stands,
      subst (λ k. TellsStop k (is_limit reached) e told) same stop,
    )

-- and so is what the command tells, which leaves breakpoints and watches
by_kind : (limit : ℕ) (c : Command) (d e : Debugger) (told : Answer) → IsWalk c d → TellsWay limit c d e (Some told) → LeavesStops d e
    → Tells limit c d e (Some told) × Leaves c d e
by_kind limit (command.Next lines) d e told walk way same = (way, same)
by_kind limit (command.Previous lines) d e told walk way same = (way, same)
by_kind limit command.Breakpoints d e told walk way same = absurd walk
by_kind limit (command.Breakpoint line) d e told walk way same = absurd walk
by_kind limit command.Continue d e told walk way same = (way, same)
by_kind limit command.Over d e told walk way same = (way, same)
by_kind limit command.Finish d e told walk way same = (way, same)
by_kind limit command.ReverseContinue d e told walk way same = (way, same)
by_kind limit (command.Watch letter) d e told walk way same = absurd walk
by_kind limit command.Faults d e told walk way same = absurd walk
by_kind limit (command.ToLine line) d e told (address, found) way same =
    (subst (λ x. TellsLine limit x (command.ToLine line) d e (Some told)) (sym found) way, subst (λ x. LeavesToLine x d e) (sym found) same)
by_kind limit (command.ToTime time) d e told walk way same = (way, same)
by_kind limit command.ListHere d e told walk way same = absurd walk
by_kind limit (command.List line) d e told walk way same = absurd walk
by_kind limit command.Variables d e told walk way same = absurd walk
by_kind limit (command.Variable letter) d e told walk way same = absurd walk
by_kind limit (command.Value text) d e told walk way same = absurd walk
by_kind limit command.Returns d e told walk way same = absurd walk
by_kind limit command.Output d e told walk way same = absurd walk
by_kind limit (command.Type text) d e told walk way same = absurd walk
by_kind limit (command.Step events) d e told walk way same = (way, same)
by_kind limit command.Registers d e told walk way same = absurd walk
by_kind limit (command.Memory at count) d e told walk way same = absurd walk
by_kind limit command.Code d e told walk way same = absurd walk
by_kind limit command.Help d e told walk way same = absurd walk
by_kind limit command.Quit d e told walk way same = absurd walk
by_kind limit command.Unknown d e told walk way same = absurd walk

-- a command that moves the run tells its stop, and leaves breakpoints and watches
pub tells_walk : (limit : ℕ) (c : Command) (d m e : Debugger) (reached : Reached) (n : ℕ) (told : Answer) → IsWalk c d → Leads limit c d reached m.present
    → StandsBy d.starts reached m.present → m.shown ≡ d.shown → m.stops ≡ d.stops → e ≡ record m { shown = n }
    → TellsStop m.shown (is_limit reached) e told → Tells limit c d e (Some told) × Leaves c d e
tells_walk limit c d m e reached n told walk leads stands same stops is_stop stop =
    by_kind limit c d e told walk (tells_way limit c d m e reached n told leads stands same is_stop stop) (ap (λ x. x.stops) is_stop ∙ stops)
