-- The code keeps the program, from the laws of the prologue and of the steps.
use Rattle.std.proofs.Common.{◌≡◌, ◌≢◌, ℕ, ◌+◌, ◌-◌, ◌*◌, ◌≤◌, Bool, true, false, List, [], ◌++◌, length, sym, ap}
use Rattle.std.proofs.Common.{◌∙◌, subst, inl, inr, ⊎_elim, arith, append-nil, append_assoc, length-append, Some, None}
use Rattle.std.specs.Prelude.{if◌then◌else◌}
use Rattle.tb_cpu.specs.declared.wrong.Wrong.{Wrong}
use Rattle.tb_kernal.specs.declared.events.Event.{Event}
use Rattle.tb_kernal.specs.declared.status.Status.TheVariants.{Running, Waits as WaitsForKey, Returned, Wrong as WentWrong}
use Rattle.tb_kernal.specs.Machine as machine
use Rattle.tb_kernal.specs.Machine.{status}
use Rattle.tb_kernal.specs.Runs.{run, all_lawful, goes}
use Rattle.tb_machine_reaching.specs.Reaching.{Arrived, OnTheWay}
use Rattle.tb_machine_reaching.specs.View.{View, Setup, Part, Holds as PartHolds, At, Among, UnderWay, Comes, Fits, part_at}
use Rattle.tb_machine_reaching.specs.Start.{setup_of, view_of}
use Rattle.tb_machine_reaching.proofs.Start.{at_start, fits_start, homed_start, length_from}
use Rattle.tb_basic_syntax.specs.Source.{Program, numbers}
use Rattle.tb_basic_meaning.specs.Steps.{End, Ended, Faulted, Step, Run, GoesOn, Over, sent_by}
use Rattle.tb_words.specs.Prefixes.{IsPrefix}
use Rattle.tb_basic_meaning.specs.Steps as steps
use Rattle.tb_basic_meaning.specs.Control.{State}
use Rattle.tb_basic_meaning.specs.Meaning.{start, source_run}
use Rattle.tb_lower.specs.Follows.{Follows, longest}
use Rattle.tb_lower.specs.Slots.{SlotCode, SlotState, Slots, Whole}
use Rattle.tb_compiled_kept.specs.Keeps.{Starts, HasEnded, IsSound, HasDone, Keeps}
use Rattle.tb_proof_simulation.specs.Layout.{Layout, inner}
use Rattle.tb_compiled_kept.specs.LineStarts.{is_start}
use Rattle.tb_proof_simulation.proofs.Inductions as keeps
use Rattle.tb_proof_simulation.proofs.Inductions.{goes_back, lawful_back, run_back}
use Rattle.tb_proof_simulation.proofs.Strides.{IsStride}
use Rattle.tb_proof_simulation.proofs.Joins.{IsEnd, end_stays, R, Law, Runs, under_way_runs, reaches, fine, ended}

-- ---- the start
-- a byte that is not a line's first one is one of the program's
pub inner_within : (ly : Layout) (code : Part) → PartHolds (inner ly code) code
inner_within ly code a b e = go (is_start ly.start ly.numbers a) e
  where
    go : (t : Bool) → (if t then None else code a) ≡ Some b → code a ≡ Some b
    go true e = cc
    go false e = e

-- the state of the slot code at its start, with these slots
abbrev pub begun : SlotCode → ℕ → List ℕ → List ℕ → Slots → SlotState
begun code seed text answers slots = record { state = start (numbers code) seed text answers; rest = Whole; slots = slots }

running : (s t : machine.State) (w : Wrong) → status t ≡ Running → status t ≢ WentWrong w
running s t w h k = let no : Running ≡ WentWrong w = sym h ∙ k in cc

not_wrong_at_end : (why : End) (t : machine.State) (w : Wrong) → HasEnded why t → status t ≢ WentWrong w
not_wrong_at_end Ended t w h k = let no : Returned ≡ WentWrong w = sym h ∙ k in cc
not_wrong_at_end Faulted t w h k = let no : Returned ≡ WentWrong w = sym h ∙ k in cc
not_wrong_at_end steps.Waits t w h k = let no : WaitsForKey ≡ WentWrong w = sym h ∙ k in cc

module _ (place : ℕ) (bytes : List ℕ) (from : 0x0800 ≤ place) (to : place + length bytes ≤ 0xa000) (ly : Layout) where
  -- a start's setup: all the program's bytes, and those that are not a line's first one
  abbrev pub setup : machine.State → Setup
  setup s = setup_of (inner ly (part_at place bytes)) (part_at place bytes) s

  rest_length : (s : machine.State) → length (setup s).rest ≡ 253 - s.regs.s
  rest_length s = length_from s.mem (0x0101 + s.regs.s + 1 + 1) (253 - s.regs.s)

  module _ (s : machine.State) (h : Starts place bytes s) where
    -- a started machine looks like the view of its start
    pub begins_so : At (setup s) (view_of s) s
    begins_so = at_start place bytes from to (inner ly (part_at place bytes)) (inner_within ly (part_at place bytes)) s h.start

    -- a start has room for 16 bytes below its stack pointer
    pub room_so : Fits (setup s) 16
    room_so = let k : Fits (setup s) 18 = fits_start place bytes from to (inner ly (part_at place bytes)) (inner_within ly (part_at place bytes)) s h.start in omega (arith, k)

    -- the stack pointer and what is kept above it fill page one
    pub above_so : (setup s).home_s + length (setup s).rest ≡ 255
    above_so = (homed_start place bytes from to (inner ly (part_at place bytes)) (inner_within ly (part_at place bytes)) s h.start).above

  module _ (M : machine.State → SlotState → View → Type 0) where
    -- what the prologue leaves: the state at its start, with some slots
    abbrev pub Opened : SlotCode → machine.State → View → Type 0
    Opened sc s w = (slots : Slots) × (length slots.words ≡ 16) × M s (begun sc ly.seed s.text s.answers slots) w

    abbrev pub OpeningLaw : SlotCode → ℕ → Type 0
    OpeningLaw sc n = (s : machine.State) → Starts place bytes s → Comes (setup s) (view_of s) (Opened sc s) [] n

    -- the laws of all steps, with a bound by the keyboard's length
    abbrev pub StepLaws : (SlotState → Step SlotState) → (ℕ → ℕ) → Type 0
    StepLaws step limit = (s : machine.State) (h : Starts place bytes s) → Law (setup s) (above_so s h) (M s) step (limit (length s.text))

  module _ (program : Program) (sc : SlotCode) (follows : Follows program sc) (step : SlotState → Step SlotState) (stride : IsStride sc step)
      (M : machine.State → SlotState → View → Type 0) (limit : ℕ → ℕ) (positive : (k : ℕ) → 1 ≤ limit k) (n : ℕ) (opening : OpeningLaw M sc n) (laws : StepLaws M step limit) where
    module _ (s : machine.State) (h : Starts place bytes s) where
      abbrev f : Setup
      f = setup s

      abbrev k : ℕ
      k = length s.text

      abbrev seed : ℕ
      seed = ly.seed

      abbrev Ends : End → machine.State → Type 0
      Ends = IsEnd f (above_so s h)

      abbrev Related : SlotState → machine.State → Type 0
      Related = R f (above_so s h) (M s) step (limit k)

      is_fine : (t : machine.State) (m : ℕ) → Runs f t → IsPrefix t.sent (sent_by (source_run program seed s.text s.answers m)) → IsSound program seed s t
      is_fine t m fi p = record {
        never_wrong = λ w. running s t w fi.runs;
        not_below = omega (arith, fi.not_below);
        not_above = omega (arith, fi.not_above, rest_length s, h.start.s_to);
        lines = m;
        prefix = p;
        stopped = inl fi.runs;
      }

      home_bounds : (t : machine.State) (w : View) → At f w t → w.stack ≡ [] → (s.regs.s ≤ t.regs.s + 16) × (t.regs.s ≤ s.regs.s + 16)
      home_bounds t w at e =
          let d : t.regs.s + length f.rest ≡ 255 = ap (λ l. t.regs.s + length (l ++ f.rest)) (sym e) ∙ at.depth in
          (omega (arith, d, rest_length s, h.start.s_to), omega (arith, d, rest_length s, h.start.s_to))

      bounds : (why : End) (t : machine.State) → Ends why t → (s.regs.s ≤ t.regs.s + 16) × (t.regs.s ≤ s.regs.s + 16)
      bounds Ended t e = home_bounds t e.0 e.1 e.2.stack
      bounds Faulted t e = home_bounds t e.0 e.1 e.2.stack
      bounds steps.Waits t e = (
        omega (arith, e.1.depth, length-append e.0.stack f.rest, e.2.deep, rest_length s, h.start.s_to),
        omega (arith, e.1.depth, length-append e.0.stack f.rest, rest_length s, h.start.s_to),
      )

      is_over : (t : machine.State) (m : ℕ) (why : End) → source_run program seed s.text s.answers m ≡ Over why t.sent → Ends why t → IsSound program seed s t
      is_over t m why e end =
          let done = ended f (above_so s h) why t end in
          record {
            never_wrong = λ w. not_wrong_at_end why t w done;
            not_below = (bounds why t end).0;
            not_above = (bounds why t end).1;
            lines = m;
            prefix = ([], append-nil t.sent ∙ sym (ap sent_by e));
            stopped = inr (why, e, done);
          }

      -- in the prologue
      early : (es : List Event) → OnTheWay (UnderWay f) [] n s es → IsSound program seed s (run es s)
      early es a = is_fine (run es s) 0 (under_way_runs f (run es s) a.kept) (
        a.to_come,
        ap (λ l. l ++ a.to_come) a.sent
            ∙ append_assoc s.sent a.so_far a.to_come ∙ ap (λ l. s.sent ++ l) (sym a.whole) ∙ append-nil s.sent ∙ h.start.nothing_sent,
      )

      -- after the prologue
      module _ (es : List Event) (l : all_lawful es s ≡ true) (a : Arrived (Among f (Opened M sc s)) [] n s es) where
        silent : (run a.before s).sent ≡ []
        silent = a.sent ∙ append-nil s.sent ∙ h.start.nothing_sent

        lawful_rest : all_lawful a.after (run a.before s) ≡ true
        lawful_rest = lawful_back a.before a.after es s (sym a.split) l

        same_end : run a.after (run a.before s) ≡ run es s
        same_end = run_back a.before a.after es s (sym a.split)

        kept : (m : ℕ) × keeps.IsKept Ends (end_stays f (above_so s h)) program sc follows step stride Related (UnderWay f) (limit k) (positive k)
            (reaches f (above_so s h) (M s) step (limit k) (laws s h)) (source_run program seed s.text s.answers m) (run es s)
        kept =
            let r = keeps.kept Ends (end_stays f (above_so s h)) program sc follows step stride Related (UnderWay f) (limit k) (positive k)
            (reaches f (above_so s h) (M s) step (limit k) (laws s h)) seed s.text s.answers a.there.2.0 a.there.2.1 (run a.before s) silent
            (a.there.0, a.there.1, a.there.2.2) a.after lawful_rest in (
              r.0,
              subst (keeps.IsKept Ends (end_stays f (above_so s h)) program sc follows step stride Related (UnderWay f) (limit k) (positive k)
                  (reaches f (above_so s h) (M s) step (limit k) (laws s h)) (source_run program seed s.text s.answers r.0)) same_end r.1,
            )

        late : IsSound program seed s (run es s)
        late = ⊎_elim
            (λ p. is_fine (run es s) kept.0 (⊎_elim (λ fi. under_way_runs f (run es s) fi) (λ c. fine f (above_so s h) (M s) step (limit k) (laws s h) c.0 (run es s) c.1) p.1) p.0)
            (λ e. is_over (run es s) kept.0 e.0 e.1 e.2)
            kept.1

        passed : (m : ℕ) → n + m * (longest sc + 1) * limit k ≤ goes es → HasDone (source_run program seed s.text s.answers m) (run es s)
        passed m le =
            let more : m * (longest sc + 1) * limit k ≤ goes a.after = omega (arith, le, a.few, goes_back a.before a.after es (sym a.split)) in
            to_done (source_run program seed s.text s.answers m) (keeps.paced Ends (end_stays f (above_so s h)) program sc follows step stride Related
            (UnderWay f) (limit k) (positive k) (reaches f (above_so s h) (M s) step (limit k) (laws s h)) seed s.text s.answers a.there.2.0
            a.there.2.1 (run a.before s) silent (a.there.0, a.there.1, a.there.2.2) a.after lawful_rest m more)
          where
            to_done : (r : Run State) → keeps.HasPassed Ends (end_stays f (above_so s h)) program sc follows step stride Related (UnderWay f)
                (limit k) (positive k) (reaches f (above_so s h) (M s) step (limit k) (laws s h)) seed s.text s.answers a.there.2.0 a.there.2.1
                (run a.before s) silent (a.there.0, a.there.1, a.there.2.2) a.after lawful_rest r (run a.after (run a.before s)) → HasDone r (run es s)
            to_done (GoesOn c out) p = subst (λ t. IsPrefix out t.sent) same_end p
            to_done (Over why out) p =
                let q = subst (λ t. (t.sent ≡ out) × Ends why t) same_end p in
                (q.0, ended f (above_so s h) why (run es s) q.1)

      -- the machine is sound after every lawful list of events
      pub sound : (es : List Event) → all_lawful es s ≡ true → IsSound program seed s (run es s)
      sound es l = ⊎_elim (λ a. late es l a) (λ a. early es a) ((opening s h).reaches.leads s (begins_so s h) es l)

      -- after enough Go events the machine has done what the source does in m lines
      pub paces : (es : List Event) → all_lawful es s ≡ true → (m : ℕ) → n + m * (longest sc + 1) * limit k ≤ goes es → HasDone (source_run program seed s.text s.answers m) (run es s)
      paces es l m le = ⊎_elim (λ a. passed es l a m le) (λ a. absurd (let no : ⊥ = omega (arith, a.few, le) in no)) ((opening s h).reaches.leads s (begins_so s h) es l)

    abbrev pub headline : Keeps place bytes program ly.seed
    headline = record { sound = sound; pace = λ text answers m. n + m * (longest sc + 1) * limit (length text); paced = paces }
