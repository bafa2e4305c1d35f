-- The promise on line starts, from what was shown of one start.
use Rattle.std.proofs.Common.{zero-add, ◌≡◌, ℕ, ◌+◌, ◌*◌, ◌≤◌, ◌<◌, Bool, true, false, List, [], ◌∷◌, ◌++◌, Some, length, refl, sym, ap, ◌∙◌, subst, arith}
use Rattle.std.specs.Prelude.{if◌then◌else◌}
use Rattle.std.proofs.lemmas.List.{length-map}
use Rattle.tb_kernal.specs.declared.events.Event.{Event}
use Rattle.tb_kernal.specs.declared.events.Event.TheVariants.{Go, Interrupt}
use Rattle.tb_kernal.specs.Machine as machine
use Rattle.tb_kernal.specs.Machine.{happens}
use Rattle.tb_kernal.specs.Runs.{run, all_lawful, goes, is_own}
use Rattle.tb_machine_reaching.specs.View.{View}
use Rattle.tb_basic_syntax.specs.Source.{Program, numbers}
use Rattle.tb_basic_meaning.specs.Steps.{Step, GoesOn}
use Rattle.tb_basic_meaning.specs.Control.{At, Past, Place, State, content_at, has_line}
use Rattle.tb_basic_meaning.specs.Meaning.{source_run}
use Rattle.tb_lower.specs.Follows.{Follows, longest}
use Rattle.tb_lower.specs.Slots.{Instr, SlotCode, SlotState, Whole}
use Rattle.tb_compiled_kept.specs.Keeps.{Starts}
use Rattle.tb_proof_simulation.specs.Layout.{Layout, place_address}
use Rattle.tb_compiled_kept.specs.LineStarts.{is_start, begun, BeginsLine, HoldsReturns, LineComes, MarksLines, StandsFor, return_at}
use Rattle.tb_runtime16.specs.Returns.{ReturnAt, AreReturns}
use Rattle.tb_compiled_kept.specs.Addresses.{RETURN_HIGH, RETURN_LOW}
use Rattle.tb_proof_simulation.proofs.Mirrors.{return_addresses}
use Rattle.tb_runtime16.proofs.InMemory.{value}
use Rattle.tb_proof_simulation.proofs.Starts as lines
use Rattle.tb_proof_simulation.proofs.Starts.{count}
use Rattle.tb_proof_simulation.proofs.Placed.{AllHave, HasLine, at_lines}
use Rattle.tb_proof_simulation.proofs.Strides.{IsStride}
use Rattle.tb_proof_simulation.proofs.Headline.{OpeningLaw, StepLaws}
use Rattle.tb_proof_simulation.proofs.LineStarts as one
use Rattle.tb_proof_simulation.proofs.LineStarts.{AreApart, Known, starts, found_start, has_content}

-- the two ways of counting agree
same_begun : (ly : Layout) (es : List Event) (s : machine.State) → lines.met (starts ly) es s ≡ begun ly.start ly.numbers es s
same_begun ly [] s = refl
same_begun ly (Go k ∷ es) s = ap (λ n. (if is_start ly.start ly.numbers s.regs.pc then 1 else 0) + n) (same_begun ly es (happens s (Go k)))
same_begun ly (Interrupt ws ∷ es) s = zero-add (lines.met (starts ly) es (happens s (Interrupt ws))) ∙ same_begun ly es (happens s (Interrupt ws))

one_at : (b : Bool) → b ≡ true → count 1 b ≡ 1
one_at b e = ap (count 1) e

at_one : (b : Bool) → count 1 b ≡ 1 → b ≡ true
at_one true e = refl
at_one false e = absurd (let no : ⊥ = omega (arith, e) in no)

-- the places to return to, by the returns in memory
returns_held : (ly : Layout) (m : ℕ → ℕ) (ps : List Place) → is_start ly.start ly.numbers ly.past ≡ false → AllHave ly.numbers ps
    → AreReturns m (return_addresses ly ps) → HoldsReturns ly.start ly.numbers m ps
returns_held ly m [] past have held = tt
returns_held ly m (p ∷ ps) past have held = (place_held p have.0 (return_is ps held.0), returns_held ly m ps past have.1 held.1)
  where
    return_is : (ps : List Place) → ReturnAt m (length (return_addresses ly ps)) (place_address ly p) → return_at m (length ps) ≡ place_address ly p
    return_is ps h =
        let many : length (return_addresses ly ps) ≡ length ps = length-map ps (place_address ly) in
        let low = ap (λ k. m (RETURN_LOW + k)) (sym many) ∙ h.low in
        let high = ap (λ k. m (RETURN_HIGH + k)) (sym many) ∙ h.high in
        omega (arith, low, high)

    place_held : (q : Place) → HasLine ly.numbers q → return_at m (length ps) ≡ place_address ly q → StandsFor ly.start ly.numbers q (return_at m (length ps))
    place_held (At n) has is = (has, is)
    place_held Past has is = ap (is_start ly.start ly.numbers) is ∙ past

module _ (place : ℕ) (bytes : List ℕ) (from : 0x0800 ≤ place) (to : place + length bytes ≤ 0xa000) (ly : Layout) (program : Program) (sc : SlotCode)
    (follows : Follows program sc) (apart : AreApart ly sc)
    (step : SlotState → Step SlotState) (stride : IsStride sc step) (M : machine.State → SlotState → View → Type 0)
    (known : (s : machine.State) (c : SlotState) (w : View) → M s c w → c.rest ≡ Whole → Known ly c.state w)
    (limit : ℕ → ℕ) (positive : (k : ℕ) → 1 ≤ limit k) (n : ℕ) (prologue : OpeningLaw place bytes from to ly M sc n) (laws : StepLaws place bytes from to ly M step limit) where
  abbrev bound : ℕ → ℕ → ℕ
  bound k m = n + (m * (longest sc + 1) * limit k + 1)

  -- a number of the layout has a list
  lined : (number : ℕ) → has_line (numbers program) number ≡ true → (is : List Instr) × (content_at sc number ≡ Some is)
  lined number has = has_content sc number (ap (λ ns. has_line ns number) follows.same_numbers ∙ has)

  -- a machine at the address of a line's start begins that line
  pub at_line : (s : machine.State) (h : Starts place bytes s) (es : List Event) → all_lawful es s ≡ true → (number : ℕ)
      → has_line (numbers program) number ≡ true → (run es s).regs.pc ≡ ly.start number → BeginsLine program ly.seed ly.start s
      (begun ly.start (numbers program) es s) number (run es s)
  at_line s h es l number has pc =
      let list = lined number has in
      let same_numbers : ly.numbers ≡ numbers program = sym apart.numbered ∙ follows.same_numbers in
      let here : is_start ly.start ly.numbers (run es s).regs.pc ≡ true = ap (is_start ly.start ly.numbers) pc
      ∙ ap (λ ns. is_start ly.start ns (ly.start number)) (sym apart.numbered) ∙ found_start ly.start sc number list.0 list.1 in
      let y = run es s in
      let now : starts ly y ≡ 1 = one_at (is_start ly.start ly.numbers (run es s).regs.pc) here in
      let b = one.at_line place bytes from to ly program sc follows apart step stride M known limit positive n prologue laws s h es l now in
      let counted : lines.met (starts ly) es s ≡ begun ly.start (numbers program) es s = same_begun ly es s ∙ ap (λ ns. begun ly.start ns es s) same_numbers in
      let met = lines.met (starts ly) es s in
      let led = at_lines program ly.seed s.text s.answers met b.state y.sent b.done in
      let there : has_line (numbers program) b.number ≡ true = subst (HasLine (numbers program)) b.at_place led.here in
      let which : b.number ≡ number = apart.distinct b.number number (ap (λ ns. has_line ns b.number) same_numbers ∙ there)
      (ap (λ ns. has_line ns number) same_numbers ∙ has) (sym b.pc ∙ pc) in
      subst (λ m. BeginsLine program ly.seed ly.start s m number (run es s)) counted
      (record {
        state = b.state;
        done = b.done;
        place = b.at_place ∙ ap At which;
        vars = λ x lt. value y.mem _ _ (b.vars x lt);
        depth = value y.mem _ _ b.depth;
        few = b.few;
        returns = subst (λ ns. HoldsReturns ly.start ns y.mem b.state.returns) same_numbers
            (returns_held ly y.mem b.state.returns apart.past (subst (λ ns. AllHave ns b.state.returns) (sym same_numbers) led.returns) b.held);
      })

  -- if the source goes on at a line after m lines, the machine comes to it within a bound
  pub comes : (s : machine.State) (h : Starts place bytes s) (m : ℕ) (state : State) (out : List ℕ) (number : ℕ)
      → source_run program ly.seed s.text s.answers m ≡ GoesOn state out → state.place ≡ At number → (es : List Event) → all_lawful es s ≡ true
      → bound (length s.text) m ≤ goes es → LineComes program ly.start s m (bound (length s.text) m) es
  comes s h m state out number done here es l le =
      let has : has_line (numbers program) number ≡ true = subst (HasLine (numbers program)) here (at_lines program ly.seed s.text s.answers m state out done).here in
      let list = lined number has in
      let same_numbers : numbers program ≡ ly.numbers = sym follows.same_numbers ∙ apart.numbered in
      let c = one.line_comes place bytes from to ly program sc follows apart step stride M known limit positive n prologue laws s h m state out number list.0 done here list.1 es l le in
      by c.event c.is_own c.front c.back c.split c.few
      (ap (λ ns. is_start ly.start ns (run c.front s).regs.pc) same_numbers ∙ at_one (is_start ly.start ly.numbers (run c.front s).regs.pc) c.starts_here)
      (ap (λ ns. begun ly.start ns c.front s) same_numbers ∙ sym (same_begun ly c.front s) ∙ c.begun)
    where
      by : (e : Event) → is_own e ≡ true → (front back : List Event) → front ++ (e ∷ back) ≡ es → goes front < bound (length s.text) m
          → is_start ly.start (numbers program) (run front s).regs.pc ≡ true → begun ly.start (numbers program) front s ≡ m
          → LineComes program ly.start s m (bound (length s.text) m) es
      by (Go k) own front back split few at met = record { front = front; clobber = k; back = back; split = split; few = few; here = at; begun_before = met }
      by (Interrupt ws) own front back split few at met = cc

  abbrev pub all_marks : MarksLines place bytes program ly.seed ly.start
  all_marks = record { begins = at_line; pace = λ text answers m. bound (length text) m; comes = comes }
