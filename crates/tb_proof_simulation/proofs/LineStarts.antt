-- When the machine is at a line's start, the program is at that line.
use Rattle.std.proofs.Common.{◌≡◌, ℕ, ◌+◌, ◌*◌, ◌≤◌, ◌<◌, Bool, true, false, ◌||◌, nat_eq, slice_index, List, [], ◌∷◌}
use Rattle.std.proofs.Common.{◌++◌, length, refl, sym, ap, ◌∙◌, subst, ⊎_elim, arith, eqb, append-nil, append_assoc, Option, Some, None}
use Rattle.std.proofs.Common.{if◌then◌else◌}
use Rattle.std.proofs.lemmas.Bool.{ne_eqb, eq-eqb, eqb-true, cases_lt}
use Rattle.std.proofs.Math.Bool.{or-true}
use Rattle.tb_kernal.specs.declared.events.Event.{Event}
use Rattle.tb_kernal.specs.declared.events.Event.TheVariants.{Go, Interrupt}
use Rattle.tb_kernal.specs.declared.rom.Service.{Service}
use Rattle.tb_kernal.specs.declared.rom.Service.TheVariants.{Chrout, Chrin, Getin}
use Rattle.tb_kernal.specs.Rom.{service_at}
use Rattle.tb_kernal.specs.Machine as machine
use Rattle.tb_kernal.specs.Machine.{happens, is_lawful}
use Rattle.tb_kernal.specs.Runs.{all_lawful, goes, is_own, run}
use Rattle.tb_kernal.proofs.EventLists.{goes_append, interrupt_sends_nothing, run_append}
use Rattle.tb_machine_reaching.specs.View.{View, Setup, Part, At, Among, UnderWay, is_data, is_program, part_at}
use Rattle.tb_machine_reaching.specs.Start.{view_of}
use Rattle.tb_machine_reaching.proofs.Act.{kept_by_interrupt, pc_here}
use Rattle.tb_machine_reaching.proofs.Barred.{begins}
use Rattle.tb_basic_syntax.specs.Source.{Program, numbers}
use Rattle.tb_basic_meaning.specs.Steps.{End, Ended, Faulted, Step, GoesOn}
use Rattle.tb_basic_meaning.specs.Steps as steps
use Rattle.tb_basic_meaning.specs.Control.{Place, Past, State, content_at, has_line}
use Rattle.tb_basic_meaning.specs.Control as control
use Rattle.tb_basic_meaning.specs.Meaning.{source_run}
use Rattle.tb_lower.specs.Follows.{Follows, longest}
use Rattle.tb_lower.specs.Slots.{Instr, SlotCode, SlotState, Rest, Whole, Left}
use Rattle.tb_compiled_kept.specs.Addresses.{NOTES, var_at}
use Rattle.tb_compiled_kept.specs.Keeps.{Starts}
use Rattle.tb_proof_simulation.specs.Layout.{Layout, inner, place_address}
use Rattle.tb_compiled_kept.specs.LineStarts.{is_start}
use Rattle.tb_runtime16.specs.Routines.{AreReturns, WordAt}
use Rattle.tb_proof_simulation.proofs.Inductions as keeps
use Rattle.tb_proof_simulation.proofs.Inductions.{lawful_back, on_way, run_back, there}
use Rattle.tb_proof_simulation.proofs.Starts as lines
use Rattle.tb_proof_simulation.proofs.Starts.{count, before, between, behind}
use Rattle.tb_proof_simulation.proofs.Strides.{IsStride, found_line, lines_at}
use Rattle.tb_proof_simulation.proofs.Mirrors.{Leads, return_addresses}
use Rattle.tb_proof_simulation.proofs.Pieces.{word_in_data}
use Rattle.tb_proof_simulation.proofs.Frames.{returns_kept, word_kept}
use Rattle.tb_proof_simulation.proofs.Joins.{IsEnd, end_stays, R, LawAt, reaches, sent_in}
use Rattle.tb_proof_simulation.proofs.Headline.{setup, begins_so, above_so, Opened, OpeningLaw, StepLaws}

-- 1 if a state is at a line's start, else 0
abbrev pub starts : Layout → machine.State → ℕ
starts ly s = count 1 (is_start ly.start ly.numbers s.regs.pc)

not_above : (start : ℕ → ℕ) → ((n : ℕ) → start n < 0xA000) → (ns : List ℕ) (a : ℕ) → 0xA000 ≤ a → is_start start ns a ≡ false
not_above start below [] a h = refl
not_above start below (n ∷ ns) a h = ap (λ t. t || is_start start ns a) (ne_eqb a (start n) (λ e. omega (arith, e, below n, h))) ∙ not_above start below ns a h

service_above : (a : ℕ) (q : Service) → service_at a ≡ Some q → 0xA000 ≤ a
service_above a q some = ⊎_elim (λ lt. (let no : None ≡ Some q = sym (none lt) ∙ some in cc)) (λ le. le) (cases_lt a 0xA000)
  where
    none : a < 0xA000 → service_at a ≡ None
    none lt =
        ap (λ b. if b then Some Chrout else (if eqb a 0xFFCF then Some Chrin else (if eqb a 0xFFE4 then Some Getin else None))) (ne_eqb a 0xFFD2 (λ e. omega (arith, e, lt)))
        ∙ ap (λ b. if b then Some Chrin else (if eqb a 0xFFE4 then Some Getin else None)) (ne_eqb a 0xFFCF (λ e. omega (arith, e, lt)))
        ∙ ap (λ b. if b then Some Getin else None) (ne_eqb a 0xFFE4 (λ e. omega (arith, e, lt)))

-- the inner bytes are not a line's first ones
pub not_inner : (ly : Layout) (code : Part) (a b : ℕ) → inner ly code a ≡ Some b → is_start ly.start ly.numbers a ≡ false
not_inner ly code a b e = go (is_start ly.start ly.numbers a) e
  where
    go : (t : Bool) → (if t then None else code a) ≡ Some b → t ≡ false
    go true e = cc
    go false e = refl

-- a line of the code begins at its start
pub found_start : (start : ℕ → ℕ) (sc : SlotCode) (n : ℕ) (is : List Instr) → content_at sc n ≡ Some is → is_start start (numbers sc) (start n) ≡ true
found_start start [] n is e = cc
found_start start (l ∷ ls) n is e = go (eqb l.number n) refl (found_start start ls n is) e
  where
    go : (t : Bool) → eqb l.number n ≡ t → (content_at ls n ≡ Some is → is_start start (numbers ls) (start n) ≡ true)
        → (if t then Some l.content else content_at ls n) ≡ Some is → (nat_eq (start n) (start l.number) || is_start start (numbers ls) (start n)) ≡ true
    go true q next e = ap (λ b. b || is_start start (numbers ls) (start n)) (eq-eqb (start n) (start l.number) (ap start (sym (eqb-true l.number n q))))
    go false q next e = ap (λ b. nat_eq (start n) (start l.number) || b) (next e) ∙ or-true (nat_eq (start n) (start l.number))

-- a number among the lines' has a list
pub has_content : (lines : SlotCode) (n : ℕ) → has_line (numbers lines) n ≡ true → (is : List Instr) × (content_at lines n ≡ Some is)
has_content [] n e = cc
has_content (l ∷ ls) n e = go (nat_eq l.number n) (has_content ls n) e
  where
    go : (t : Bool) → (has_line (numbers ls) n ≡ true → (is : List Instr) × (content_at ls n ≡ Some is)) → (t || has_line (numbers ls) n) ≡ true
        → (is : List Instr) × ((if t then Some l.content else content_at ls n) ≡ Some is)
    go true later e = (l.content, refl)
    go false later e = later e

-- where the lines of a program begin: below $A000, no two at one address, and none at that of fault 7
pub record AreApart (ly : Layout) (sc : SlotCode) : Type 0 where
  pub numbered : numbers sc ≡ ly.numbers
  pub absent : (n : ℕ) → content_at sc n ≡ None → ly.start n ≡ ly.past
  pub below : (n : ℕ) → ly.start n < 0xA000
  pub past : is_start ly.start ly.numbers ly.past ≡ false
  pub distinct : (n m : ℕ) → has_line ly.numbers n ≡ true → has_line ly.numbers m ≡ true → ly.start n ≡ ly.start m → n ≡ m

-- what a view has when a run is between lines
pub record Known (ly : Layout) (s : State) (w : View) : Type 0 where
  pub pc : w.regs.pc ≡ place_address ly s.place
  pub vars : (x : ℕ) → x < 26 → WordAt w.mem (var_at x) (slice_index s.vars x)
  pub count : WordAt w.mem NOTES (length s.returns)
  pub held : AreReturns w.mem (return_addresses ly s.returns)
  pub few : length s.returns ≤ 500

module _ (place : ℕ) (bytes : List ℕ) (from : 0x0800 ≤ place) (to : place + length bytes ≤ 0xa000) (ly : Layout) (program : Program) (sc : SlotCode)
    (follows : Follows program sc) (apart : AreApart ly sc)
    (step : SlotState → Step SlotState) (stride : IsStride sc step) (M : machine.State → SlotState → View → Type 0)
    (known : (s : machine.State) (c : SlotState) (w : View) → M s c w → c.rest ≡ Whole → Known ly c.state w)
    (limit : ℕ → ℕ) (positive : (k : ℕ) → 1 ≤ limit k) (n : ℕ) (prologue : OpeningLaw place bytes from to ly M sc n) (laws : StepLaws place bytes from to ly M step limit)
    (s : machine.State) (h : Starts place bytes s) where
  abbrev f : Setup
  f = setup place bytes from to ly s

  abbrev code : Part
  code = part_at place bytes

  abbrev seed : ℕ
  seed = ly.seed

  abbrev k : ℕ
  k = length s.text

  abbrev Ends : End → machine.State → Type 0
  Ends = IsEnd f (above_so place bytes from to ly s h)

  abbrev Related : SlotState → machine.State → Type 0
  Related = R f (above_so place bytes from to ly s h) (M s) step (limit k)

  none_high : (t : machine.State) → 0xA000 ≤ t.regs.pc → starts ly t ≡ 0
  none_high t le = ap (count 1) (not_above ly.start apart.below ly.numbers t.regs.pc le)

  no_start : (t : machine.State) → UnderWay f t → starts ly t ≡ 0
  no_start t fi = ⊎_elim (λ q. none_high t (service_above t.regs.pc q.0 q.1)) (λ c. ap (count 1) (not_inner ly code t.regs.pc c.0 c.1)) fi.on_code

  no_start_at_end : (why : End) (t : machine.State) → Ends why t → starts ly t ≡ 0
  no_start_at_end Ended t e = none_high t (omega (arith, pc_here f e.0 t e.1, e.2.pc, e.1.stays.far))
  no_start_at_end Faulted t e = none_high t (omega (arith, pc_here f e.0 t e.1, e.2.pc, e.1.stays.far))
  no_start_at_end steps.Waits t e = none_high t (omega (arith, pc_here f e.0 t e.1, e.2.waits.pc))

  others_keep : (c : SlotState) (e : Event) (t : machine.State) → is_own e ≡ false → is_lawful t e ≡ true → Related c t → Related c (happens t e) × ((happens t e).sent ≡ t.sent)
  others_keep c (Go k) t not_go l r = cc
  others_keep c (Interrupt ws) t not_go l r = let a = kept_by_interrupt f r.0 t r.1 ws l in ((r.0, a, r.2), interrupt_sends_nothing t ws)

  entry : (c : SlotState) (t : machine.State) → Related c t → starts ly t ≡ lines_at sc c.rest c.state.place
  entry c t r = by c.rest refl
    where
      at_number : (m : ℕ) (o : Option (List Instr)) → content_at sc m ≡ o → r.0.regs.pc ≡ ly.start m → starts ly t ≡ found_line o
      at_number m (Some is) e p = ap (λ a. count 1 (is_start ly.start ly.numbers a)) (pc_here f r.0 t r.1 ∙ p)
          ∙ ap (λ ns. count 1 (is_start ly.start ns (ly.start m))) (sym apart.numbered) ∙ ap (count 1) (found_start ly.start sc m is e)
      at_number m None e p = ap (λ a. count 1 (is_start ly.start ly.numbers a)) (pc_here f r.0 t r.1 ∙ p ∙ apart.absent m e) ∙ ap (count 1) apart.past

      at_place : (p : Place) → r.0.regs.pc ≡ place_address ly p → starts ly t ≡ lines_at sc Whole p
      at_place Past at = ap (λ a. count 1 (is_start ly.start ly.numbers a)) (pc_here f r.0 t r.1 ∙ at) ∙ ap (count 1) apart.past
      at_place (control.At m) at = at_number m (content_at sc m) refl at

      by : (q : Rest) → c.rest ≡ q → starts ly t ≡ lines_at sc q c.state.place
      by (Left m is) e = no_start t (begins f r.0 (Leads f (M s) (step c)) (sent_in (step c)) (limit k)
          (subst (λ q. LawAt q f r.0 (Leads f (M s) (step c)) (sent_in (step c)) (limit k)) e (laws s h c r.0 r.2)) t r.1)
      by Whole e = at_place c.state.place (known s c r.0 r.2 e).pc

  -- ---- the prologue
  abbrev Entered : machine.State → Type 0
  Entered t = Among f (Opened place bytes from to ly M sc s) t

  prologue_reaches : keeps.Reaches (At f (view_of s)) Entered (UnderWay f) [] n
  prologue_reaches x a es l = ⊎_elim (λ b. there b) (λ b. on_way b) ((prologue s h).reaches.leads x a es l)

  entry_keeps : (e : Event) (t : machine.State) → is_own e ≡ false → is_lawful t e ≡ true → At f (view_of s) t → At f (view_of s) (happens t e) × ((happens t e).sent ≡ t.sent)
  entry_keeps (Go k) t not_go l a = cc
  entry_keeps (Interrupt ws) t not_go l a = (kept_by_interrupt f (view_of s) t a ws l, interrupt_sends_nothing t ws)

  entry_none : (t : machine.State) → At f (view_of s) t → starts ly t ≡ 0
  entry_none t a = no_start t (begins f (view_of s) _ _ _ (prologue s h) t a)

  counted : (es : List Event) → all_lawful es s ≡ true → lines.Counted (starts ly) (At f (view_of s)) Entered (UnderWay f) [] 0 n s es
  counted es l = lines.counted (starts ly) (At f (view_of s)) Entered (UnderWay f) [] 0 n prologue_reaches entry_keeps no_start entry_none es s (begins_so place bytes from to ly s h) l

  -- ---- the lines
  abbrev pub met : List Event → ℕ
  met es = lines.met (starts ly) es s

  -- at the start of a line, m lines having begun before: the program has done m lines and is at that one
  pub record LineBegun (m : ℕ) (t : machine.State) : Type 0 where
    pub state : State
    pub number : ℕ
    pub done : source_run program seed s.text s.answers m ≡ GoesOn state t.sent
    pub at_place : state.place ≡ control.At number
    pub pc : t.regs.pc ≡ ly.start number
    pub vars : (x : ℕ) → x < 26 → WordAt t.mem (var_at x) (slice_index state.vars x)
    pub depth : WordAt t.mem NOTES (length state.returns)
    pub held : AreReturns t.mem (return_addresses ly state.returns)
    pub few : length state.returns ≤ 500

  line_begun : (m : ℕ) (t : machine.State) → lines.AtLine Ends (end_stays f (above_so place bytes from to ly s h)) program sc follows step stride
      Related (UnderWay f) (limit k) (positive k) (reaches f (above_so place bytes from to ly s h) (M s) step (limit k) (laws s h))
      (starts ly) others_keep no_start no_start_at_end entry seed s.text s.answers m t → LineBegun m t
  line_begun m t a =
      let w = a.related.0 in
      let there = known s _ w a.related.2 refl in
      let at = a.related.1 in
      let fixed : (p : ℕ) → is_data p ≡ true → t.mem p ≡ w.mem p = λ p d. at.bytes p (ap (λ b. b || is_program p) d) in
      record {
        state = a.state;
        number = a.number;
        done = a.done;
        at_place = a.place;
        pc = pc_here f w t at ∙ there.pc ∙ ap (place_address ly) a.place;
        vars = λ x lt. word_kept w.mem t.mem (var_at x) (slice_index a.state.vars x)
            (fixed (var_at x) (word_in_data (var_at x) (omega arith) (omega (arith, lt))).0)
            (fixed (var_at x + 1) (word_in_data (var_at x) (omega arith) (omega (arith, lt))).1) (there.vars x lt);
        depth = word_kept w.mem t.mem NOTES (length a.state.returns) (fixed NOTES refl) (fixed (NOTES + 1) refl) there.count;
        held = returns_kept ly w.mem t.mem a.state.returns there.few (λ p lo hi. fixed p (word_in_data p (omega (arith, lo)) (omega (arith, hi))).0) there.held;
        few = there.few;
      }

  -- a machine at a line's start has begun as many lines before as the program has done
  pub at_line : (es : List Event) → all_lawful es s ≡ true → starts ly (run es s) ≡ 1 → LineBegun (met es) (run es s)
  at_line es l one = by (counted es l)
    where
      by : lines.Counted (starts ly) (At f (view_of s)) Entered (UnderWay f) [] 0 n s es → LineBegun (met es) (run es s)
      by (before none a same v) = absurd (let no : ⊥ = omega (arith, one, entry_none (run es s) a) in no)
      by (between w v few) = absurd (let no : ⊥ = omega (arith, one, no_start (run es s) w) in no)
      by (behind front back eq some few b all v) =
          let y = run front s in
          let join : run back y ≡ run es s = run_back front back es s eq in
          let lb = lawful_back front back es s eq l in
          let a = lines.at_line Ends (end_stays f (above_so place bytes from to ly s h)) program sc follows step stride Related (UnderWay f) (limit k)
          (positive k) (reaches f (above_so place bytes from to ly s h) (M s) step (limit k) (laws s h)) (starts ly) others_keep no_start
          no_start_at_end entry seed s.text s.answers b.2.0 b.2.1 y (all ∙ append-nil s.sent ∙ h.start.nothing_sent) (b.0, b.1, b.2.2) back lb (ap (starts ly) join ∙ one) in
          let sum : lines.met (starts ly) back y ≡ met es = omega (arith, v, ap met (sym eq), lines.met_append (starts ly) front back s) in
          subst (λ m. LineBegun m (run es s)) sum (subst (λ t. LineBegun (lines.met (starts ly) back y) t) join (line_begun (lines.met (starts ly) back y) (run back y) a))

  -- an instruction of the program's own that begins a line, m lines having begun before, within a bound
  pub record LineComes (m bound : ℕ) (es : List Event) : Type 0 where
    pub front : List Event
    pub event : Event
    pub back : List Event
    pub split : front ++ (event ∷ back) ≡ es
    pub is_own : is_own event ≡ true
    pub few : goes front < bound
    pub starts_here : starts ly (run front s) ≡ 1
    pub begun : met front ≡ m

  -- if the source goes on at a line after m lines, the machine begins it within a bound
  pub line_comes : (m : ℕ) (state : State) (out : List ℕ) (number : ℕ) (is : List Instr) → source_run program seed s.text s.answers m
      ≡ GoesOn state out → state.place ≡ control.At number → content_at sc number ≡ Some is → (es : List Event) → all_lawful es s ≡ true
      → n + (m * (longest sc + 1) * limit k + 1) ≤ goes es → LineComes m (n + (m * (longest sc + 1) * limit k + 1)) es
  line_comes m state out number is done here found es l le = by (counted es l)
    where
      by : lines.Counted (starts ly) (At f (view_of s)) Entered (UnderWay f) [] 0 n s es → LineComes m (n + (m * (longest sc + 1) * limit k + 1)) es
      by (before none a same v) = absurd (let no : ⊥ = omega (arith, none, le) in no)
      by (between w v few) = absurd (let no : ⊥ = omega (arith, few, le) in no)
      by (behind front back eq some few b all v) =
          let y = run front s in
          let lb = lawful_back front back es s eq l in
          let g = goes_append front back in
          let a = lines.line_comes Ends (end_stays f (above_so place bytes from to ly s h)) program sc follows step stride Related (UnderWay f)
          (limit k) (positive k) (reaches f (above_so place bytes from to ly s h) (M s) step (limit k) (laws s h))
          (starts ly) others_keep no_start no_start_at_end entry seed s.text s.answers b.2.0 b.2.1 y (all ∙ append-nil s.sent
          ∙ h.start.nothing_sent) (b.0, b.1, b.2.2) m state out number is done here found back lb (omega (arith, le, few, g, ap goes eq)) in
          let join : run (front ++ a.front) s ≡ run a.front y = run_append front a.front s in
          record {
            front = front ++ a.front;
            event = a.event;
            back = a.back;
            split = append_assoc front a.front (a.event ∷ a.back) ∙ ap (λ q. front ++ q) a.split ∙ eq;
            is_own = a.own;
            few = omega (arith, few, a.few, goes_append front a.front);
            starts_here = ap (starts ly) join ∙ a.starts_here;
            begun = omega (arith, v, a.begun, lines.met_append (starts ly) front a.front s);
          }
