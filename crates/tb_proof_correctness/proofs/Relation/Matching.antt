-- How a view of the machine represents a state of the slot code, slots only as far as they are read.
use Rattle.std.specs.Prelude.{◌≡◌, ℕ, ◌<◌, true, false, [], ◌∷◌, length, slice_index}
use Rattle.tb_machine_reaching.specs.View.{View, Part}
use Rattle.tb_basic_meaning.specs.Steps.{Step}
use Rattle.tb_basic_meaning.specs.Control.{Place}
use Rattle.tb_lower.specs.Slots.{Rest, Whole, Left, Slots, SlotState}
use Rattle.tb_compiled_kept.specs.Addresses.{HELD}
use Rattle.tb_compiler_templates.specs.Templates.{slot_at}
use Rattle.tb_runtime16.specs.Routines.{WordAt, Entered}
use Rattle.tb_proof_simulation.specs.Layout.{Layout, place_address}
use Rattle.tb_proof_simulation.proofs.Mirrors.{HoldsState, Typable, Leads}
use Rattle.tb_compiler_selection.specs.declared.liveness.Live.{Live}
use Rattle.tb_compiler_selection.specs.Liveness.{live, nothing_live}
use Rattle.tb_compiler_selection.specs.Select.{select}
use Rattle.tb_proof_correctness.proofs.CodeBytes.GroupCode.{GroupsLie}
use Rattle.tb_proof_correctness.proofs.Relation.Surroundings.{Surroundings}

-- the memory holds the slots that are read, and the held word if it is read
pub record HoldsLive (r : Live) (slots : Slots) (m : ℕ → ℕ) : Type 0 where
  pub words : (k : ℕ) → k < r.slots → WordAt m (slot_at k) (slice_index slots.words k)
  pub held : r.held ≡ true → WordAt m HELD slots.held
  pub all_words : length slots.words ≡ 16

-- what is read from a rest on; a line's list reads nothing
abbrev pub reads_at : Rest → Live
reads_at Whole = nothing_live
reads_at (Left n is) = live is

-- the groups of the rest of a line, whose number is a word, are at PC, or PC is where the place begins
abbrev pub StandsAt : Layout → Part → ℕ → Rest → Place → Type 0
StandsAt ly code pc (Left n is) place = GroupsLie ly code n pc (select is) × (n < 65536)
StandsAt ly code pc Whole place = pc ≡ place_address ly place

pub record Matches (around : Surroundings) (c : SlotState) (w : View) : Type 0 where
  pub pc : StandsAt around.ly around.f.code w.regs.pc c.rest c.state.place
  pub stack : w.stack ≡ around.lo ∷ around.hi ∷ []
  pub binary : w.regs.flags.d ≡ false
  pub text : w.text ≡ c.state.text
  pub answers : w.answers ≡ c.state.answers
  pub state : HoldsState around.ly c.state w.mem
  pub read : HoldsLive (reads_at c.rest) c.slots w.mem
  pub homed : Entered around.f around.lo around.hi w.mem
  pub short : Typable around.keys c.state.text c.state.answers

-- where a step leads
abbrev pub Target : Surroundings → Step SlotState → View → Type 0
Target around = Leads around.f (Matches around)
