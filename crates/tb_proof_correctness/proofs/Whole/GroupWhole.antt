-- The code of a program by groups keeps the program, and marks its lines.
use Rattle.std.proofs.Common.{◌≡◌, ℕ, ◌+◌, ◌≤◌, List, [], length, subst, arith, refl}
use Rattle.tb_kernal.specs.Machine as machine
use Rattle.tb_machine_reaching.specs.View.{Comes, View, part_at}
use Rattle.tb_machine_reaching.specs.Start.{view_of, home_low, home_high}
use Rattle.tb_machine_reaching.proofs.Comes.{looser}
use Rattle.tb_basic_syntax.specs.Source.{Program, numbers}
use Rattle.tb_basic_meaning.specs.Control.{first_place}
use Rattle.tb_lower.specs.Follows.{Follows}
use Rattle.tb_lower.specs.Slots.{SlotCode, SlotState, Whole}
use Rattle.tb_compiled_kept.specs.Addresses.{LINES_AT}
use Rattle.tb_compiled_kept.specs.Keeps.{Starts, Keeps}
use Rattle.tb_compiled_kept.specs.LineStarts.{MarksLines}
use Rattle.tb_proof_simulation.specs.Layout.{Layout, inner, place_address}
use Rattle.tb_runtime16.specs.Ends.{Begun}
use Rattle.tb_proof_simulation.proofs.Headline.{setup, room_so, OpeningLaw, StepLaws, headline}
use Rattle.tb_proof_simulation.proofs.LineStarts.{Known}
use Rattle.tb_proof_simulation.proofs.Marks.{all_marks}
use Rattle.tb_proof_simulation.proofs.Opening.{some_slots, opened}
use Rattle.tb_compiler_selection.specs.GroupSteps.{group_step}
use Rattle.tb_compiler_selection.specs.Laws.{AreClosed}
use Rattle.tb_proof_correctness.proofs.Relation.Beginnings.{from_opened}
use Rattle.tb_proof_correctness.proofs.CodeBytes.GroupCode.{GroupsLaid}
use Rattle.tb_proof_correctness.proofs.Whole.GroupLaws.{step_law}
use Rattle.tb_proof_correctness.proofs.Relation.Falling.{Between}
use Rattle.tb_proof_correctness.proofs.Whole.GroupStrides.{group_stride}
use Rattle.tb_proof_correctness.proofs.Whole.GroupStarts.{lines_apart}
use Rattle.tb_proof_correctness.proofs.Relation.Matching.{StandsAt}
use Rattle.tb_basic_meaning.specs.Meaning.{start}
use Rattle.tb_proof_correctness.proofs.Relation.Surroundings.{Serves, Surroundings}

module _ (place : ℕ) (bytes : List ℕ) (from : 0x0800 ≤ place) (to : place + length bytes ≤ 0xa000) (ly : Layout) (program : Program) (sc : SlotCode)
    (follows : Follows program sc) (closed : AreClosed sc) (first_at : place_address ly (first_place (numbers sc)) ≡ LINES_AT)
    (laid : GroupsLaid ly (inner ly (part_at place bytes)) (part_at place bytes) sc) where
  -- what surrounds the code, at each start
  abbrev pub around : machine.State → Surroundings
  around s = record { ly = ly; f = setup place bytes from to ly s; lo = home_low s; hi = home_high s; keys = length s.text }

  -- the routines' laws and the prologue's, there
  abbrev pub RoutineLaws : (ℕ → ℕ) → Type 0
  RoutineLaws limit = (s : machine.State) → Starts place bytes s → Serves (around s) (limit (length s.text))

  abbrev pub PrologueLaw : ℕ → Type 0
  PrologueLaw n = (s : machine.State) → Starts place bytes s → Comes (setup place bytes from to ly s) (view_of s) (Begun (setup place bytes from to ly s) s) [] n

  -- the relation between groups, at each start
  abbrev pub Related : machine.State → SlotState → View → Type 0
  Related s = Between (around s)

  -- between lines the relation gives what is known of a view
  pub known : (s : machine.State) (c : SlotState) (w : View) → Related s c w → c.rest ≡ Whole → Known ly c.state w
  known s c w m e = record {
    pc = subst (λ q. StandsAt ly (setup place bytes from to ly s).code w.regs.pc q c.state.place) e m.0.pc;
    vars = m.0.state.vars;
    count = m.0.state.count;
    held = m.0.state.returns;
    few = m.0.state.few;
  }

  module _ (limit : ℕ → ℕ) (wide : (k : ℕ) → 300 ≤ limit k) (n : ℕ) (routines : RoutineLaws limit) (prologue : PrologueLaw n) where
    -- the prologue leads to the relation at the first line
    pub opening : OpeningLaw place bytes from to ly Related sc n
    opening s h =
        let f = setup place bytes from to ly s in
        looser f (view_of s) (Begun f s) _ [] n n (omega arith)
        (λ w b. (
          some_slots,
          refl,
          (from_opened (around s) (start (numbers sc) ly.seed s.text s.answers) some_slots w refl (opened ly f sc laid.numbered first_at laid.seed_small s h.text h.answers w b), tt),
        ))
        (prologue s h)

    -- each step by groups has its law
    pub laws : StepLaws place bytes from to ly Related (group_step sc) (λ k. 34 + (limit k + limit k))
    laws s h c w m = step_law (around s) (room_so place bytes from to ly s h) (limit (length s.text)) sc laid.numbered (routines s h) (wide (length s.text)) closed laid c w m

    -- the bound is at least 1
    pub positive : (k : ℕ) → 1 ≤ 34 + (limit k + limit k)
    positive k = omega arith

    abbrev pub keeps : Keeps place bytes program ly.seed
    keeps = headline place bytes from to ly program sc follows (group_step sc) (group_stride sc) Related (λ k. 34 + (limit k + limit k)) positive n opening laws

    abbrev pub marks : MarksLines place bytes program ly.seed ly.start
    marks = all_marks place bytes from to ly program sc follows (lines_apart ly (part_at place bytes) sc laid) (group_step sc)
        (group_stride sc) Related known (λ k. 34 + (limit k + limit k)) positive n opening laws
