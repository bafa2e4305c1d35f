-- Running the PRG file of a source shows the source's output.
use Rattle.std.proofs.Common.{◌≡◌, ℕ, zero, suc, ◌+◌, ◌-◌, ◌<◌, ◌≤◌, Bool, true, false, List, [], ◌∷◌, ◌++◌, length, drop}
use Rattle.std.proofs.Common.{Result, Ok, Err, refl, sym, ap, subst, ◌∙◌, inl, inr, ⊎_elim, arith, length-append}
use Rattle.std.specs.Prelude.{◌&&◌, nat_le, nat_lt, replicate, slice_index, if◌then◌else◌}
use Rattle.std.proofs.lemmas.Bool.Decides.{nat_tests}
use Rattle.std.proofs.lemmas.List.{length-replicate}
use Rattle.tb_memmap.specs.Bytes.{at, loaded, with_bytes, IsOpenRange}
use Rattle.tb_memmap.specs.Regions.{BASIC_START, CODE_START, is_open}
use Rattle.tb_memmap.proofs.View.{at_zero, at_loaded, length-loaded}
use Rattle.tb_prg.specs.Prg.{header, content_of}
use Rattle.tb_kernal.specs.declared.status.Status.{Status}
use Rattle.tb_kernal.specs.declared.status.Status.TheVariants.{Running, Waits as WaitsForKey, Returned, Wrong as WentWrong}
use Rattle.tb_kernal.specs.Machine.{State, state_of, status}
use Rattle.tb_kernal.specs.Starts.{LieAt, HoldsBytes}
use Rattle.tb_basic_syntax.specs.Source.{Program}
use Rattle.tb_basic_meaning.specs.Meaning.{source_run}
use Rattle.tb_basic_meaning.specs.Steps.{End, Ended, Faulted, Waits, Over}
use Rattle.tb_parser.specs.Files.{Outcome}
use Rattle.tb_opcodes.specs.Bytes.{AreBytes}
use Rattle.tb_compiled_kept.specs.Keeps.{Starts, HasEnded, IsSound, Keeps}
use Rattle.tb_compiled.specs.declared.compiled.Compiled.{Compiled}
use Rattle.tb_compiled.specs.declared.settings.CompileSettings.{CompileSettings}
use Rattle.tb_compiled.specs.Answers.{Answered, OutcomeAnswer, SourceMakes}
use Rattle.tb_compiled.specs.Compiled.{prg_of, loaded_of}
use Rattle.tb_compiled.specs.Compiled.{IsBuiltFrom}
use Rattle.tb_basic_text.specs.declared.notation.Notation.{Notation}
use Rattle.tb_engine_streams.specs.HostForm.{shown_as}
use Rattle.tb_engines.specs.Outcomes.{Product}
use Rattle.tb_engines.specs.Delivery.{Makes}
use Rattle.tb_engines.specs.Programs.{start_memory, start, end_of, Settings, RunsAt, RunsContent, RunsPrg}
use Rattle.tb_engine_sources.specs.Output.{ShowsOutput, RunsKept, RunsSource, KeepsSource}
use Rattle.tb_engines.specs.declared.delivery.Text.{Text}
use Rattle.tb_engines.specs.declared.delivery.NoText.{NoText}
use Rattle.tb_engines.specs.declared.outcome.End.TheVariants.{Done}
use Rattle.tb_engines.proofs.Start.{home_of-start}
use Rattle.tb_compiled.specs.Promise.{Own}

-- ---- bytes

-- a list all of whose elements are below 256 is a list of bytes
pub all_bytes : (xs : List ℕ) → ((k : ℕ) → slice_index xs k < 256) → AreBytes xs
all_bytes [] h = tt
all_bytes (x ∷ xs) h = (h 0, all_bytes xs (λ k. h (suc k)))

byte_at : (xs : List ℕ) → AreBytes xs → (k : ℕ) → slice_index xs k < 256
byte_at [] h k = omega arith
byte_at (x ∷ xs) h zero = h.0
byte_at (x ∷ xs) h (suc k) = byte_at xs h.1 k

-- a file without its load address still is a list of bytes
pub bytes_behind : (xs : List ℕ) → AreBytes xs → AreBytes (drop 2 xs)
bytes_behind [] h = tt
bytes_behind (x ∷ []) h = tt
bytes_behind (x ∷ y ∷ xs) h = h.1.1

-- ---- the start

-- a memory of bytes stays one if bytes are put into it
put_bytes : (m : ℕ → ℕ) (a : ℕ) (bytes : List ℕ) → HoldsBytes m → AreBytes bytes → HoldsBytes (with_bytes m a bytes)
put_bytes m a bytes h small b = chosen (nat_le a b && nat_lt b (a + length bytes))
  where
    chosen : (t : Bool) → (if t then slice_index bytes (b - a) else m b) < 256
    chosen true = byte_at bytes small (b - a)
    chosen false = h b

abbrev return_bytes : List ℕ
return_bytes = 0xff ∷ 0xa0 ∷ []

abbrev start_reads : List ℕ → ℕ → ℕ
start_reads bytes = with_bytes (with_bytes (λ b. 0) BASIC_START bytes) 0x01f1 return_bytes

memory_reads : (bytes : List ℕ) → BASIC_START + length bytes ≤ 0xa000 → at (start_memory BASIC_START bytes) ≡ start_reads bytes
memory_reads bytes h =
    let empty : List ℕ = replicate 65536 0 in
    let zeros : length empty ≡ 65536 = length-replicate {A = ℕ} 65536 0 in
    let whole : length (loaded empty BASIC_START bytes) ≡ 65536 = length-loaded empty BASIC_START bytes (omega arith) ∙ zeros in
    at_loaded (loaded empty BASIC_START bytes) 0x01f1 return_bytes (omega arith)
    ∙ ap (λ m. with_bytes m 0x01f1 return_bytes) (at_loaded empty BASIC_START bytes (omega arith) ∙ ap (λ m. with_bytes m BASIC_START bytes) (at_zero 65536))

program_lies : (bytes : List ℕ) → LieAt BASIC_START bytes (start_reads bytes)
program_lies bytes k below =
    let behind : (nat_le 0x01f1 (BASIC_START + k) && nat_lt (BASIC_START + k) (0x01f1 + length return_bytes)) ≡ false = grind (arith, nat_tests) in
    let here : (nat_le BASIC_START (BASIC_START + k) && nat_lt (BASIC_START + k) (BASIC_START + length bytes)) ≡ true = grind (arith, nat_tests) in
    let back : BASIC_START + k - BASIC_START ≡ k = omega arith in
    rw (behind, here, back) refl

start_holds : (bytes : List ℕ) → AreBytes bytes → HoldsBytes (start_reads bytes)
start_holds bytes small =
    put_bytes (with_bytes (λ b. 0) BASIC_START bytes) 0x01f1 return_bytes (put_bytes (λ b. 0) BASIC_START bytes (λ b. omega arith) small)
    (omega arith, (omega arith, tt))

-- the start machine of a program below $A000, with a keyboard text of bytes
pub starts : (bytes text answers : List ℕ) → BASIC_START + length bytes ≤ 0xa000 → AreBytes bytes → AreBytes text → AreBytes answers
    → Starts BASIC_START bytes (state_of (start BASIC_START bytes text answers))
starts bytes text answers ends small small_text small_answers =
    let reads = memory_reads bytes ends in
    record {
      start = record {
        loaded = subst (LieAt BASIC_START bytes) (sym reads) (program_lies bytes);
        holds_bytes = subst HoldsBytes (sym reads) (start_holds bytes small);
        pc = refl;
        s_from = omega arith;
        s_to = omega arith;
        home = sym (home_of-start BASIC_START bytes (omega arith));
        home_s = refl;
        in_rom = refl;
        no_service = refl;
        nothing_refused = refl;
        nothing_sent = refl;
      };
      text = small_text;
      answers = small_answers;
    }

-- ---- the run

-- what a sound machine sent, by its status
shows : (notation : Notation) (program : Program) (seed : ℕ) (s t : State) (pc : ℕ) (stands : Status) → IsSound program seed s t → stands ≡ status t
    → ShowsOutput notation program seed s.text s.answers (end_of stands pc) (shown_as notation t.sent)
shows notation program seed s t pc Running sound e = record { lines = sound.lines; output = t.sent; prefix = sound.prefix; shown = refl }
shows notation program seed s t pc (WentWrong w) sound e = absurd (sound.never_wrong w (sym e))
shows notation program seed s t pc Returned sound e =
    ⊎_elim (λ r. let no : Returned ≡ Running = e ∙ r in cc) (λ w. returned w.0 w.1 w.2) sound.stopped
  where
    returned : (why : End) → source_run program seed s.text s.answers sound.lines ≡ Over why t.sent → HasEnded why t
        → ShowsOutput notation program seed s.text s.answers Done (shown_as notation t.sent)
    returned Ended over h = inl (record { lines = sound.lines; output = t.sent; over = over; shown = refl })
    returned Faulted over h = inr (record { lines = sound.lines; output = t.sent; over = over; shown = refl })
    returned Waits over h = let no : Returned ≡ WaitsForKey = e ∙ h in cc
shows notation program seed s t pc WaitsForKey sound e =
    ⊎_elim (λ r. let no : WaitsForKey ≡ Running = e ∙ r in cc) (λ w. waits w.0 w.1 w.2) sound.stopped
  where
    waits : (why : End) → source_run program seed s.text s.answers sound.lines ≡ Over why t.sent → HasEnded why t
        → ShowsOutput notation program seed s.text s.answers (end_of WaitsForKey pc) (shown_as notation t.sent)
    waits Ended over h = let no : WaitsForKey ≡ Returned = e ∙ h in cc
    waits Faulted over h = let no : WaitsForKey ≡ Returned = e ∙ h in cc
    waits Waits over h = record { lines = sound.lines; output = t.sent; over = over; shown = refl }

-- a program that ends below $A000 lies in RAM, so that its file is run
pub in_ram : (n : ℕ) → BASIC_START + n ≤ 0xa000 → IsOpenRange BASIC_START n
in_ram n h k below = let a : BASIC_START + k < 0xa000 = omega arith in open_so (BASIC_START + k) (omega arith) a
  where
    open_so : (a : ℕ) → BASIC_START ≤ a → a < 0xa000 → is_open a ≡ true
    open_so a from to = grind (arith, nat_tests)

module _ {O : Type 0} (s : Settings O) (settings : CompileSettings) (source file : List ℕ)
    (kept : KeepsSource settings source file) (small : AreBytes file) (small_text : AreBytes s.text) (small_answers : AreBytes s.answers) where
  abbrev bytes : List ℕ
  bytes = drop 2 file

  abbrev begun : State
  begun = state_of (start BASIC_START bytes s.text s.answers)

  begins : Starts BASIC_START bytes begun
  begins = starts bytes s.text s.answers kept.ends (bytes_behind file small) small_text small_answers

  runs_loaded : (x : Product) → RunsAt s BASIC_START bytes x → RunsKept settings s.notation s.text s.answers source x
  runs_loaded (Ok product) (opens, (t, p, n, ran, is)) =
      let sound = subst (IsSound kept.program settings.seed begun) (sym ran.ran) (kept.keeps.sound begun begins ran.events ran.lawful) in (
        kept.program,
        kept.made,
        subst (λ x. ShowsOutput s.notation kept.program settings.seed s.text s.answers x.1 x.0) (sym is)
            (shows s.notation kept.program settings.seed begun (state_of n) n.regs.pc t sound ran.answer.0),
      )
  runs_loaded (Err e) (is, closed) = absurd (closed (in_ram (length bytes) kept.ends))

  -- what comes of running the file comes of running the source
  pub runs_source : (x : Product) → RunsPrg s file x → RunsKept settings s.notation s.text s.answers source x
  runs_source x runs = runs_loaded x (subst (λ c. RunsContent s c x) kept.content runs)

-- what comes of running a file that keeps a source comes of running the source
pub kept_runs : (own : Own) (settings : CompileSettings) (text answers source : List ℕ) (x : Product) → RunsKept settings settings.notation text answers source x
    → RunsSource own settings text answers source x
kept_runs own settings text answers source (Ok shown) runs = runs
kept_runs own settings text answers source (Err e) none = absurd none

-- ---- the compiled file

abbrev IsLoaded : List ℕ → Type 0
IsLoaded file = (content_of file ≡ Ok (BASIC_START, drop 2 file)) × (BASIC_START + length (drop 2 file) ≤ 0xa000)

image_loads : (image : List ℕ) → CODE_START + length image ≤ 0xa000 → IsLoaded (header ++ image)
image_loads image h =
    let l : length (drop 2 header ++ image) ≡ 12 + length image = length-append (drop 2 header) image in
    let ends : BASIC_START + length (drop 2 header ++ image) ≤ 0xa000 = omega arith in
    let below : nat_lt 65536 (BASIC_START + length (drop 2 header ++ image)) ≡ false = grind (arith, nat_tests) in
    (rw below refl, ends)

-- the file of a compiled program is loaded at $0801
pub compiled_loads : (c : Compiled) (program : Program) → IsBuiltFrom program c → IsLoaded (prg_of c)
compiled_loads c program is = subst IsLoaded (sym is.file) (image_loads is.code is.ends)

module _ (own : Own) (settings : CompileSettings) (source : List ℕ) (c : Compiled) where
  -- and so is the one that the compiler answers
  pub file_loads : (outcome : Outcome) → OutcomeAnswer own settings outcome (Ok c) → IsLoaded (prg_of c)
  file_loads (Ok program) is = compiled_loads c program is.1.of
  file_loads (Err r) none = absurd none

  -- a compiled file keeps its source
  pub keeps_source : Answered own settings source (Ok c)
      → (program : Program) × SourceMakes settings.notation source (Ok program) × Keeps BASIC_START (loaded_of c) program settings.seed → KeepsSource settings source (prg_of c)
  keeps_source found (program, made, keeps) =
      let loads = file_loads found.outcome found.answer in
      record { program = program; made = made; content = loads.0; ends = loads.1; keeps = keeps }
