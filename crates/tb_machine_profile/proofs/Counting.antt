-- A tally of steps, one event later.
use Rattle.std.proofs.Common.{◌≡◌, ℕ, ◌+◌, ◌<◌, ◌≤◌, false, List, [], ◌∷◌, ◌++◌, length, length-append, refl, sym, ap, ◌∙◌, arith, subst, slice_index, slice_index_or}
use Rattle.std.specs.Prelude.{◌==◌, if◌then◌else◌}
use Rattle.std.proofs.lemmas.List.{length-set, length_push}
use Rattle.std.proofs.lemmas.List.Sums.{sum_by_push}
use Rattle.tb_memmap.specs.Bytes.{at}
use Rattle.tb_cpu.specs.declared.registers.Regs.{Regs}
use Rattle.tb_cpu.specs.Operands.{Reader, reading}
use Rattle.tb_machine_cycles.specs.Cycles.{cycles_at}
use Rattle.tb_kernal.specs.declared.events.Event.{Event}
use Rattle.tb_kernal.specs.declared.events.Event.TheVariants.{Go, Interrupt}
use Rattle.tb_kernal.specs.declared.events.Clobber.{Clobber}
use Rattle.tb_kernal.specs.Machine.{State, Content, state_of, happens, is_no_service}
use Rattle.tb_kernal.specs.Runs.{quiet as quiet_of, run, Gave, GivesQuiet, WentCounted}
use Rattle.tb_kernal.proofs.Giving.{gave_more, gave_room, gave_run}
use Rattle.tb_machine_profile.specs.Steps.{Step, begins_line, line_by, step_of, steps, cycles_of_go, service_cycles, times_of, instructions_of, cycles_of}
use Rattle.tb_machine_profile.specs.Tallies.{Counted, IsTally, last_line, with_step, after_step, CountsEvent, TookAll}
use Rattle.tb_machine_profile.proofs.Marking.{more_at}

-- a run has at most one step for each event
pub few_steps : (starts : List ℕ) (line : ℕ) (es : List Event) (s : State) → length (steps starts line es s) ≤ length es
few_steps starts line [] s = omega arith
few_steps starts line (Go k ∷ es) s = omega (arith, few_steps starts (step_of starts line s).line es (happens s (Go k)))
few_steps starts line (Interrupt ws ∷ es) s = omega (arith, few_steps starts line es (happens s (Interrupt ws)))

steps_go : (starts : List ℕ) (line : ℕ) (es : List Event) (k : Clobber) (s : State)
    → steps starts line (es ++ Go k ∷ []) s ≡ steps starts line es s ++ step_of starts (last_line line (steps starts line es s)) (run es s) ∷ []
steps_go starts line [] k s = refl
steps_go starts line (Go j ∷ es) k s =
    ap (λ ts. step_of starts line s ∷ ts) (steps_go starts (step_of starts line s).line es k (happens s (Go j)))
steps_go starts line (Interrupt ws ∷ es) k s = steps_go starts line es k (happens s (Interrupt ws))

steps_interrupt : (starts : List ℕ) (line : ℕ) (es : List Event) (e : Event) (ws : _) (s : State) → e ≡ Interrupt ws
    → steps starts line (es ++ e ∷ []) s ≡ steps starts line es s
steps_interrupt starts line [] e ws s h = rw h refl
steps_interrupt starts line (Go j ∷ es) e ws s h =
    ap (λ ts. step_of starts line s ∷ ts) (steps_interrupt starts (step_of starts line s).line es e ws (happens s (Go j)) h)
steps_interrupt starts line (Interrupt vs ∷ es) e ws s h = steps_interrupt starts line es e ws (happens s (Interrupt vs)) h

last_more : (line : ℕ) (ts : List Step) (t : Step) → last_line line (ts ++ t ∷ []) ≡ t.line
last_more line [] t = refl
last_more line (u ∷ ts) t = last_more u.line ts t

-- one more step
step_more : (starts : List ℕ) (ts : List Step) (t : Counted) (s : Step) → IsTally starts ts t
    → IsTally starts (ts ++ s ∷ []) (with_step t s.pc s.line s.cycles)
step_more starts ts t s h =
    record {
      whole = (
        h.whole.0,
        length-set t.times s.pc (slice_index t.times s.pc + 1) ∙ h.whole.1,
        length-set t.instructions s.line (slice_index t.instructions s.line + 1) ∙ h.whole.2,
        length-set t.cycles s.line (slice_index t.cycles s.line + s.cycles) ∙ h.whole.3,
      );
      begins = h.begins;
      times = λ a inside. more_at t.times s.pc a 1 (times_of ts a) (omega (arith, h.whole.1)) (h.times a inside)
          ∙ sym (sum_by_push (λ x. if x.pc == a then 1 else 0) ts s);
      instructions = λ a inside. more_at t.instructions s.line a 1 (instructions_of ts a) (omega (arith, h.whole.2)) (h.instructions a inside)
          ∙ sym (sum_by_push (λ x. if x.line == a then 1 else 0) ts s);
      cycles = λ a inside. more_at t.cycles s.line a s.cycles (cycles_of ts a) (omega (arith, h.whole.3)) (h.cycles a inside)
          ∙ sym (sum_by_push (λ x. if x.line == a then x.cycles else 0) ts s);
      line = sym (last_more 0 ts s);
      taken = ap (λ n. n + 1) h.taken ∙ sym (length_push ts s);
      spent = ap (λ n. n + s.cycles) h.spent ∙ sym (sum_by_push (λ x. x.cycles) ts s);
    }

-- one more event
pub event_more : (starts : List ℕ) (es : List Event) (first now : State) (e : Event) (t u : Counted)
    → now ≡ run es first → IsTally starts (steps starts 0 es first) t → CountsEvent e now t u
    → IsTally starts (steps starts 0 (es ++ e ∷ []) first) u
event_more starts es first now (Go k) t u same h (address, e) =
    let ts : List Step = steps starts 0 es first in
    let begins : slice_index_or t.begins now.regs.pc false ≡ begins_line starts now.regs.pc = h.begins now.regs.pc address in
    let line : line_by (slice_index_or t.begins now.regs.pc false) t.line now.regs.pc ≡ line_by (begins_line starts now.regs.pc) (last_line 0 ts) now.regs.pc =
    ap (λ b. line_by b t.line now.regs.pc) begins ∙ ap (λ l. line_by (begins_line starts now.regs.pc) l now.regs.pc) h.line in
    let s : Step = step_of starts (last_line 0 ts) now in
    let counted : u ≡ with_step t s.pc s.line s.cycles = e ∙ ap (λ l. with_step t now.regs.pc l (cycles_of_go now.regs (reading now.mem))) line in
    let there : steps starts 0 (es ++ Go k ∷ []) first ≡ ts ++ s ∷ [] =
    steps_go starts 0 es k first ∙ ap (λ m. ts ++ step_of starts (last_line 0 ts) m ∷ []) (sym same) in
    subst (λ us. IsTally starts us u) (sym there) (subst (λ v. IsTally starts (ts ++ s ∷ []) v) (sym counted) (step_more starts ts t s h))
event_more starts es first now (Interrupt ws) t u same h e =
    subst (λ us. IsTally starts us u) (sym (steps_interrupt starts 0 es (Interrupt ws) ws first refl))
    (subst (λ v. IsTally starts (steps starts 0 es first) v) (sym e) h)

-- instructions of which the tally heard
pub took_heard : {O : Type 0} (gives : O → Content → Event → O → Type 0) (o : O) (m : Content) (t : Counted) (es : List Event) (n : Content) (u : Counted)
    → GivesQuiet gives o → WentCounted cycles_at (λ v pc cycles w. (pc < 65536) × (w ≡ after_step v pc cycles)) m t es n u
    → TookAll gives o m t es n u
took_heard gives o m t [] n u quiet w = w
took_heard gives o m t (e ∷ es) n u quiet (runs, here, is, (after, heard, happened, counts, rest)) =
    let r : Regs = m.regs in
    let read : Reader = reading (at m.memory) in
    let own : cycles_at r read ≡ cycles_of_go r read = ap (λ s. if is_no_service s then cycles_at r read else service_cycles) (sym here) in
    let counted : CountsEvent (Go (quiet_of m)) (state_of m) t heard = (counts.0, counts.1 ∙ ap (after_step t r.pc) own) in (
      runs,
      (
        after,
        heard,
        subst (λ x. gives o m x o) (sym is) (quiet m),
        happened,
        subst (λ x. CountsEvent x (state_of m) t heard) (sym is) counted,
        took_heard gives o after heard es n u quiet rest,
      ),
    )

module _ {O : Type 0} (gives : O → Content → Event → O → Type 0) (first : O) (start : Content) (starts : List ℕ) where
  -- so many events were given from the start, and their steps were counted
  abbrev pub Counts : ℕ → O → Content → Counted → Type 0
  Counts many o n t =
      (es : List Event) × (length es ≡ many) × Gave gives first start es o n × IsTally starts (steps starts 0 es (state_of start)) t

  -- no more steps than events
  pub few_counted : (many : ℕ) (o : O) (n : Content) (t : Counted) → Counts many o n t → t.taken ≤ many
  few_counted many o n t (es, count, gave, tally) = omega (arith, few_steps starts 0 es (state_of start), tally.taken, count)

  -- more events
  pub took_all : (many : ℕ) (o : O) (m n : Content) (t u : Counted) (es : List Event) → Counts many o m t → TookAll gives o m t es n u
      → Counts (many + length es) o n u
  took_all many o m n t u [] (before, count, gave, tally) (same, kept) =
      (before, omega (arith, count), gave_room gives before _ _ _ _ _ gave same, subst (IsTally starts (steps starts 0 before (state_of start))) (sym kept) tally)
  took_all many o m n t u (e ∷ es) (before, count, gave, tally) (runs, (after, v, given, happened, counted, rest)) =
      let longer : length (before ++ e ∷ []) ≡ many + 1 = omega (arith, length-append before (e ∷ []), count) in
      let more = gave_more gives before _ _ _ m e _ m after gave runs refl given happened in
      let one = event_more starts before (state_of start) (state_of m) e t v (gave_run gives before _ _ _ _ gave) tally counted in
      let all = took_all (many + 1) o after n v u es (before ++ e ∷ [], longer, more, one) rest in
      let sum : many + 1 + length es ≡ many + length (e ∷ es) = omega arith in
      subst (λ k. Counts k o n u) sum all
