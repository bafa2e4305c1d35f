-- The events of a run as a list.
use Rattle.std.proofs.Common.{◌≡◌, ℕ, zero, suc, ◌+◌, ◌-◌, ◌/◌, ◌%◌, Bool, true, false, ◌&&◌, List, [], ◌∷◌, ◌++◌, refl, sym, ap, ◌∙◌, arith}
use Rattle.std.proofs.lemmas.Bool.{or_right}
use Rattle.std.specs.Prelude.{if◌then◌else◌, ◌==◌}
use Rattle.tb_kernal.specs.declared.events.Event.{Event}
use Rattle.tb_kernal.specs.declared.events.Event.TheVariants.{Go, Interrupt}
use Rattle.tb_words.specs.Words.{seed_after}
use Rattle.tb_kernal.specs.Outsides.{rude_clobber, rude_event, rude_writes}
use Rattle.tb_kernal.specs.Machine.{State, entered, happens, is_lawful, is_stopped, status}
use Rattle.tb_kernal.specs.Rom.{all_writable, service_at}
use Rattle.tb_kernal.specs.Runs.{run, all_lawful, is_own}
use Rattle.tb_kernal.specs.LawfulEvents.{rude_writable, lawful_at, writes_of}
use Rattle.tb_kernal.proofs.EventLists.{run_append}
use Rattle.tb_compiled_kept.specs.LineStarts.{is_start, begun}
use Rattle.tb_debug.specs.Roms.{event_at}
use Rattle.tb_debug.specs.Runs.{Point, is_marked, point_at}
use Rattle.tb_debug.specs.declared.rom.Rom.{Rom}
use Rattle.tb_debug.specs.declared.rom.Rom.TheVariants.{Quiet, Rude}
use Rattle.tb_debug.proofs.Running.{at_next, at_start}

-- ---- what a ROM gives is lawful

lawful_by : (s : State) (e : Event) → all_writable s.regs.s (writes_of e) ≡ true → is_lawful s e ≡ true
lawful_by s (Go k) h = or_right (is_stopped (status s)) _ (lawful_at (service_at s.regs.pc) s.regs.s k.writes.items h)
lawful_by s (Interrupt ws) h = or_right (is_stopped (status s)) _ h

writable_by : (b : Bool) (s : ℕ) (one two : Event) → all_writable s (writes_of one) ≡ true → all_writable s (writes_of two) ≡ true
    → all_writable s (writes_of (if b then one else two)) ≡ true
writable_by true s one two h k = h
writable_by false s one two h k = k

writable : (b : Rom) (s : State) → all_writable s.regs.s (writes_of (event_at b s.regs)) ≡ true
writable Quiet s = refl
writable (Rude seed) s = rude (seed_after seed)
  where
    rude : (seed : ℕ) → all_writable s.regs.s (writes_of (rude_event seed (entered [] s.regs [] []))) ≡ true
    rude seed =
        writable_by (seed % 256 % 4 == 0) s.regs.s (Interrupt (record { items = rude_writes s.regs.s (255 - seed / 256) }))
        (Go (rude_clobber s.regs.s (seed / 256) (seed % 256))) (rude_writable s.regs.s (255 - seed / 256)) (rude_writable s.regs.s (seed / 256))

-- ---- the list

module _ (marks : List Bool) (start : Point) where
  event : ℕ → Event
  event n = event_at (point_at marks start n).rom (point_at marks start n).state.regs

  -- the first n events
  pub events_to : ℕ → List Event
  events_to zero = []
  events_to (suc n) = events_to n ++ event n ∷ []

  -- the first n events lead to the point after n events
  pub run_to : (n : ℕ) → run (events_to n) start.state ≡ (point_at marks start n).state
  unfolding event events_to
  run_to zero = ap (λ p. p.state) (sym (at_start marks start))
  run_to (suc n) =
      run_append (events_to n) (event n ∷ []) start.state ∙ ap (λ s. happens s (event n)) (run_to n)
      ∙ ap (λ p. p.state) (sym (at_next marks start n))

  lawful_append : (es : List Event) (e : Event) (s : State) → all_lawful es s ≡ true → is_lawful (run es s) e ≡ true → all_lawful (es ++ e ∷ []) s ≡ true
  lawful_append [] e s h l = λ i. l i && true
  lawful_append (f ∷ es) e s h l = both (is_lawful s f) _ _ h (λ rest. lawful_append es e (happens s f) rest l)
    where
      both : (a b c : Bool) → (a && b) ≡ true → (b ≡ true → c ≡ true) → (a && c) ≡ true
      both true b c h k = k h
      both false b c h k = h

  -- the first n events are lawful: the theorem of `compile` speaks of lawful events
  pub lawful_to : (n : ℕ) → all_lawful (events_to n) start.state ≡ true
  unfolding event events_to
  lawful_to zero = refl
  lawful_to (suc n) =
      let s = (point_at marks start n).state in
      lawful_append (events_to n) (event n) start.state (lawful_to n)
      (ap (λ t. is_lawful t (event n)) (run_to n) ∙ lawful_by s (event n) (writable (point_at marks start n).rom s))

  begun_append : (first : ℕ → ℕ) (ns : List ℕ) (es : List Event) (e : Event) (s : State)
      → begun first ns (es ++ e ∷ []) s ≡ begun first ns es s + (if is_own e && is_start first ns (run es s).regs.pc then 1 else 0)
  begun_append first ns [] (Go k) s = omega arith
  begun_append first ns [] (Interrupt ws) s = refl
  begun_append first ns (Go k ∷ es) e s = let later = begun_append first ns es e (happens s (Go k)) in omega (arith, later)
  begun_append first ns (Interrupt ws ∷ es) e s = begun_append first ns es e (happens s (Interrupt ws))

  -- as many of them begin a line as the point counts
  pub begun_to : (first : ℕ → ℕ) (ns : List ℕ) → ((a : ℕ) → is_start first ns a ≡ is_marked marks a) → start.begun ≡ 0
      → (n : ℕ) → begun first ns (events_to n) start.state ≡ (point_at marks start n).begun
  unfolding event events_to
  begun_to first ns same none zero = sym none ∙ ap (λ p. p.begun) (sym (at_start marks start))
  begun_to first ns same none (suc n) =
      begun_append first ns (events_to n) (event n) start.state
      ∙ ap (λ s. begun first ns (events_to n) start.state + (if is_own (event n) && is_start first ns s.regs.pc then 1 else 0)) (run_to n)
      ∙ ap (λ b. begun first ns (events_to n) start.state + (if is_own (event n) && b then 1 else 0)) (same (point_at marks start n).state.regs.pc)
      ∙ ap (λ k. k + (if is_own (event n) && is_marked marks (point_at marks start n).state.regs.pc then 1 else 0)) (begun_to first ns same none n)
      ∙ ap (λ p. p.begun) (sym (at_next marks start n))
