-- What is kept of the weaker relation while the code of an instruction runs.
use Rattle.std.proofs.Common.{◌≡◌, ℕ, ◌≤◌, arith}
use Rattle.tb_basic_meaning.specs.Control.{Place, State}
use Rattle.tb_lower.specs.Slots.{Slots}
use Rattle.tb_compiled_kept.specs.Addresses.{HELD}
use Rattle.tb_compiler_templates.specs.Templates.{slot_at}
use Rattle.tb_proof_simulation.specs.Layout.{Layout}
use Rattle.tb_proof_simulation.proofs.Frames.{word_kept}
use Rattle.tb_proof_simulation.proofs.Mirrors.{HoldsState}
use Rattle.tb_compiler_selection.specs.declared.liveness.Live.{Live}
use Rattle.tb_proof_correctness.proofs.Relation.Matching.{HoldsLive}

-- another place
pub state_placed : (ly : Layout) (p : Place) (s : State) (m : ℕ → ℕ) → HoldsState ly s m → HoldsState ly (record s { place = p }) m
state_placed ly p s m h = record { vars = h.vars; column = h.column; opened = h.opened; seeded = h.seeded; count = h.count; returns = h.returns; few = h.few; all_vars = h.all_vars }

-- ---- what is live
-- slots and the held word are kept
pub live_same : (u : Live) (r : Slots) (m m' : ℕ → ℕ) → u.slots ≤ 16 → ((a : ℕ) → 0xC040 ≤ a → a ≤ 0xC061 → m' a ≡ m a) → HoldsLive u r m → HoldsLive u r m'
live_same u r m m' few e h = record {
  words = λ k lt. word_kept m m' (slot_at k) _ (e _ (omega arith) (omega (arith, lt, few))) (e _ (omega arith) (omega (arith, lt, few))) (h.words k lt);
  held = λ q. word_kept m m' HELD _ (e _ (omega arith) (omega arith)) (e _ (omega arith) (omega arith)) (h.held q);
  all_words = h.all_words;
}
