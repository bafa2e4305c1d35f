-- A debugger at a line's beginning shows the source.
use Rattle.std.proofs.Common.{◌≡◌, ℕ, Bool, true, false, ◌||◌, List, [], ◌∷◌, Some, refl, sym, ap, ◌∙◌, subst}
use Rattle.std.specs.Prelude.{nat_eq, unwrap_or, Option, None, IfSome, if◌then◌else◌}
use Rattle.std.proofs.lemmas.Bool.{eqb-true, or_right, eq-eqb}
use Rattle.tb_kernal.specs.Machine.{State, state_of}
use Rattle.tb_kernal.specs.Runs.{run}
use Rattle.tb_compiled_kept.specs.LineStarts.{is_start, BeginsLine, begun}
use Rattle.tb_basic_meaning.specs.Control.{has_line}
use Rattle.tb_basic_syntax.specs.Source.{Program, numbers}
use Rattle.tb_compiled.specs.Compiled.{start_in, start_of, starts_of, AddressesRise}
use Rattle.tb_compiled.specs.declared.compiled.Compiled.{Compiled}
use Rattle.tb_debug.specs.declared.debuggee.Debuggee.{Debuggee}
use Rattle.tb_debug.specs.declared.debuggee.Debuggee.TheVariants.{Source, Prg}
use Rattle.tb_debug.specs.Debuggees.{begins_in, line_from, program_of, returns_from}
use Rattle.tb_debug.specs.declared.rom.Rom.{Rom}
use Rattle.tb_debug.specs.declared.debugger.Debugger.{Debugger}
use Rattle.tb_debug.specs.Runs.{begins_at, first_point, is_marked}
use Rattle.tb_debug.specs.Lines.{line_at}
use Rattle.std.specs.Int.{cast_signed, w16}
use Rattle.std.specs.Prelude.{length}
use Rattle.tb_compiled_kept.specs.Addresses.{LINES_AT}
use Rattle.tb_debug.specs.Readings.{lines_of_returns, returns_of}
use Rattle.tb_debug.specs.Sources.{Debugs, IsMadeOf, ShowsLine}
use Rattle.tb_debug.proofs.SourceState.{all_returns, placed, returns_told}
use Rattle.tb_debug.proofs.EventLists.{begun_to, events_to, lawful_to, run_to}

module _ (place : ℕ → ℕ) where
  abbrev first_in : List ℕ → ℕ → ℕ
  first_in ns n = unwrap_or (start_in (placed place ns) n) 0

  found : (ns : List ℕ) (n : ℕ) → has_line ns n ≡ true → first_in ns n ≡ place n
  found [] n e = cc
  found (m ∷ ns) n e = go (nat_eq m n) refl (found ns n) e
    where
      go : (t : Bool) → nat_eq m n ≡ t → (has_line ns n ≡ true → first_in ns n ≡ place n) → (t || has_line ns n) ≡ true
          → unwrap_or (if t then Some (place m) else start_in (placed place ns) n) 0 ≡ place n
      go true q later e = ap place (eqb-true m n q)
      go false q later e = later e

  has_itself : (n : ℕ) (rest : Bool) → (nat_eq n n || rest) ≡ true
  has_itself n rest = ap (λ b. b || rest) (eq-eqb n n refl)

  -- the two ways of saying where lines begin
  starts_same : (first : ℕ → ℕ) (ns : List ℕ) (a : ℕ) → ((n : ℕ) → has_line ns n ≡ true → first n ≡ place n)
      → is_start first ns a ≡ begins_at (placed place ns) a
  starts_same first [] a h = refl
  starts_same first (m ∷ ns) a h =
      let rest = starts_same first ns a (λ n has. h n (or_right (nat_eq m n) (has_line ns n) has)) in
      ap (λ k. nat_eq a k || is_start first ns a) (h m (has_itself m (has_line ns m))) ∙ ap (λ b. nat_eq a (place m) || b) rest

  -- a line that begins at an address is one of the program's, and begins there
  line_there : (ns : List ℕ) (a n : ℕ) → line_at (placed place ns) a ≡ Some n → (has_line ns n ≡ true) × (place n ≡ a)
  line_there [] a n e = cc
  line_there (m ∷ ns) a n e = go (nat_eq a (place m)) refl (line_there ns a n) e
    where
      go : (t : Bool) → nat_eq a (place m) ≡ t
          → (line_at (placed place ns) a ≡ Some n → (has_line ns n ≡ true) × (place n ≡ a)) → (if t then Some m else line_at (placed place ns) a) ≡ Some n
          → ((nat_eq m n || has_line ns n) ≡ true) × (place n ≡ a)
      go true q later found =
          let is : m ≡ n = cc in (
            subst (λ k. (nat_eq m k || has_line ns k) ≡ true) is (has_itself m (has_line ns m)),
            subst (λ k. place k ≡ a) is (sym (eqb-true a (place m) q)),
          )
      go false q later found = let rest = later found in (or_right (nat_eq m n) (has_line ns n) rest.0, rest.1)

-- what is said of a debuggee is said of its program

begins_as : (g : Debuggee) (c : Compiled) (a : ℕ) → program_of g ≡ Some c → begins_in g a ≡ begins_at (starts_of c) a
begins_as (Source p) c a of = let same : p.now ≡ c = cc in ap (λ x. begins_at (starts_of x) a) same
begins_as Prg c a of = absurd (cc)

line_as : (g : Debuggee) (c : Compiled) (a : ℕ) → program_of g ≡ Some c → line_from g a ≡ line_at (starts_of c) a
line_as (Source p) c a of = let same : p.now ≡ c = cc in ap (λ x. line_at (starts_of x) a) same
line_as Prg c a of = absurd (cc)

returns_as : (g : Debuggee) (c : Compiled) (m : ℕ → ℕ) → program_of g ≡ Some c → returns_from g m ≡ returns_of (starts_of c) m
returns_as (Source p) c m of = let same : p.now ≡ c = cc in ap (λ x. returns_of (starts_of x) m) same
returns_as Prg c m of = absurd (cc)

-- what is shown of memory if a line begins
shows_all : (source : Program) (seed : ℕ) (start : State) (c : Compiled) (d : Debugger) (n : ℕ) (made : IsMadeOf source seed c)
    → program_of d.debuggee ≡ Some c
    → ((k : ℕ) → has_line (numbers source) k ≡ true → start_of c k ≡ made.compiled.at k)
    → ((a : ℕ) → is_start (start_of c) (numbers source) a ≡ begins_at (starts_of c) a)
    → BeginsLine source seed (start_of c) start d.present.begun n (state_of d.present.machine) → ShowsLine source seed start c d n
shows_all source seed start c d n made of firsts same begins =
    let ns = numbers source in
    let m = (state_of d.present.machine).mem in
    let place = made.compiled.at in
    let told = made.compiled.starts in
    let rise = subst (AddressesRise LINES_AT) told made.compiled.rising in
    let here : (a : ℕ) → is_start (start_of c) ns a ≡ begins_at (placed place ns) a = λ a. same a ∙ ap (λ ss. begins_at ss a) told in
    let count = all_returns m (length begins.state.returns) begins.few begins.depth in
    record {
      begins = begins;
      variables = λ x few. ap (cast_signed w16) (begins.vars x few);
      returns = returns_as d.debuggee c m of ∙ ap (λ ss. returns_of ss m) told ∙ ap (lines_of_returns (placed place ns) m) count
          ∙ returns_told place (start_of c) ns LINES_AT rise firsts here m begins.state.returns begins.returns;
    }

-- if a debugger is at a line's beginning, the source goes on at that line
pub shows_line : (source : Program) (seed : ℕ) (start : State) (rom : Rom) (c : Compiled) (d : Debugger) (n : ℕ) → Debugs source seed start rom c d
    → line_from d.debuggee d.present.machine.regs.pc ≡ Some n → ShowsLine source seed start c d n
shows_line source seed start rom c d n h here =
    let begins_so : (a : ℕ) → is_marked d.starts a ≡ begins_at (starts_of c) a = λ a. h.on.marked a ∙ begins_as d.debuggee c a h.of in
    let told = h.made.compiled.starts in
    let ns = numbers source in
    let place = h.made.compiled.at in
    let firsts : (k : ℕ) → has_line ns k ≡ true → start_of c k ≡ place k =
    λ k has. ap (λ ss. unwrap_or (start_in ss k) 0) told ∙ found place ns k has in
    let same : (a : ℕ) → is_start (start_of c) ns a ≡ is_marked d.starts a =
    λ a. starts_same place (start_of c) ns a firsts ∙ sym (ap (λ ss. begins_at ss a) told) ∙ sym (begins_so a) in
    let first = first_point start rom in
    let es = events_to d.starts first d.present.events in
    let ran : run es start ≡ state_of d.present.machine = run_to d.starts first d.present.events ∙ sym (ap (λ p. p.state) h.on.of_run.stands) in
    let count : begun (start_of c) ns es start ≡ d.present.begun =
    begun_to d.starts first (start_of c) ns same refl d.present.events ∙ sym (ap (λ p. p.begun) h.on.of_run.stands) in
    let there = line_there place ns d.present.machine.regs.pc n (sym (ap (λ ss. line_at ss d.present.machine.regs.pc) told) ∙ sym (line_as d.debuggee c d.present.machine.regs.pc h.of) ∙ here) in
    let at : (run es start).regs.pc ≡ start_of c n = ap (λ s. s.regs.pc) ran ∙ sym there.1 ∙ sym (firsts n there.0) in
    let begins = h.made.marks.begins start h.starts es (lawful_to d.starts first d.present.events) n there.0 at in
    shows_all source seed start c d n h.made h.of firsts (λ a. same a ∙ begins_so a)
    (subst (λ m. BeginsLine source seed (start_of c) start m n (state_of d.present.machine)) count
    (subst (λ t. BeginsLine source seed (start_of c) start (begun (start_of c) ns es start) n t) ran begins))

-- if `line_here` answers a line, the source goes on at that line
pub shows_some : (source : Program) (seed : ℕ) (start : State) (rom : Rom) (c : Compiled) (d : Debugger) (o : Option ℕ) → Debugs source seed start rom c d
    → o ≡ line_from d.debuggee d.present.machine.regs.pc → IfSome o (λ line. ShowsLine source seed start c d line)
shows_some source seed start rom c d None h is = tt
shows_some source seed start rom c d (Some n) h is = shows_line source seed start rom c d n h (sym is)
