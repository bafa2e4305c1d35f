-- The start machine, and a run from it.
use Rattle.std.proofs.Common.{◌≡◌, ℕ, ◌+◌, ◌-◌, ◌<◌, ◌≤◌, List, [], ◌∷◌, ◌++◌, length, take, drop, get_or, None, Result, Ok, Err, refl}
use Rattle.std.proofs.Common.{ap, subst, ◌∙◌, arith, length-append}
use Rattle.std.proofs.lemmas.List.{length-replicate, length-take-le, get_or_append_left, get_or-append_right}
use Rattle.std.specs.Prelude.{replicate}
use Rattle.tb_memmap.specs.Bytes.{at, loaded, IsOpenRange}
use Rattle.tb_memmap.proofs.View.{length-loaded}
use Rattle.tb_cpu.specs.declared.registers.Regs.{Regs}
use Rattle.tb_kernal.specs.declared.events.Event.{Event}
use Rattle.tb_kernal.specs.declared.status.Status.{Status}
use Rattle.tb_kernal.specs.Machine.{Content, home_of, entry_refusal, entered}
use Rattle.tb_kernal.specs.Runs.{RanOver}
use Rattle.tb_engines.specs.declared.outcome.End.{End}
use Rattle.tb_prg.specs.declared.PrgError.{PrgError}
use Rattle.tb_engines.specs.declared.delivery.NoText.{NoText}
use Rattle.tb_engines.specs.declared.delivery.NoText.TheVariants.{Refused, NoMemory}
use Rattle.tb_engines.specs.declared.outcome.Refusal.TheVariants.{Prg}
use Rattle.tb_engines.specs.Delivery.{Makes}
use Rattle.tb_engines.specs.Outcomes.{Product}
use Rattle.tb_engines.specs.Programs.{start_regs, start_memory, start, end_of, Settings, Runs, RunsOn, RunsContent, StartsContent}

-- what lies at the first two addresses of a load of two bytes
loaded_two : (m : List ℕ) (a x y k : ℕ) → a + 2 ≤ length m → k < 2
    → at (loaded m a (x ∷ y ∷ [])) (a + k) ≡ get_or (x ∷ y ∷ []) k 0
unfolding at
loaded_two m a x y k h below =
    let within : a ≤ length m = omega arith in
    let front : length (take a m) ≡ a = length-take-le a m within in
    let all : length (take a m ++ x ∷ y ∷ []) ≡ a + 2 = length-append (take a m) (x ∷ y ∷ []) ∙ omega arith in
    let behind : a + k - a ≡ k = omega arith in
    get_or_append_left (take a m ++ x ∷ y ∷ []) (drop (a + 2) m) 0 (a + k) (omega arith)
    ∙ get_or-append_right (take a m) (x ∷ y ∷ []) a (a + k) 0 front (omega arith)
    ∙ rw behind refl

-- the start's memory and registers return the program to $A100
pub home_of-start : (a : ℕ) (bytes : List ℕ) → a + length bytes ≤ 65536
    → home_of (at (start_memory a bytes)) (start_regs a) ≡ 0xa100
home_of-start a bytes h =
    let empty : List ℕ = replicate 65536 0 in
    let zeros : length empty ≡ 65536 = length-replicate {A = ℕ} 65536 0 in
    let whole : length (loaded empty a bytes) ≡ 65536 = length-loaded empty a bytes (omega arith) ∙ zeros in
    let low = loaded_two (loaded empty a bytes) 0x01f1 0xff 0xa0 0 (omega arith) (omega arith) in
    let high = loaded_two (loaded empty a bytes) 0x01f1 0xff 0xa0 1 (omega arith) (omega arith) in
    rw (low, high) refl

-- the word above S, plus one, is $A100, also if memory and registers are known only to equal the start's
returns_home : (a : ℕ) (bytes m : List ℕ) (r : Regs) → a + length bytes ≤ 65536
    → m ≡ start_memory a bytes → r ≡ start_regs a → home_of (at m) r ≡ 0xa100
returns_home a bytes m r h same_memory same_regs = rw (same_memory, same_regs) (home_of-start a bytes h)

-- a machine with the start's memory and registers may be entered
pub never_refused : (a : ℕ) (bytes m : List ℕ) (r : Regs) → a + length bytes ≤ 65536
    → m ≡ start_memory a bytes → r ≡ start_regs a → entry_refusal (at m) r ≡ None
never_refused a bytes m r h same_memory same_regs =
    let home = returns_home a bytes m r h same_memory same_regs in
    let low : r.s ≡ 0xf0 = ap (λ x. x.s) same_regs in
    rw (home, low) refl

-- a machine that is entered with the start's memory and registers is the start machine
pub entered_is_start : (a : ℕ) (bytes m : List ℕ) (r : Regs) (text answers : List ℕ)
    → a + length bytes ≤ 65536 → m ≡ start_memory a bytes → r ≡ start_regs a
    → entered m r text answers ≡ start a bytes text answers
entered_is_start a bytes m r text answers h same_memory same_regs =
    let home = home_of-start a bytes h in
    rw (same_memory, same_regs, home) refl

-- ---- a PRG file

module _ {O : Type 0} (s : Settings O) where
  -- where a PRG file is not started, that is what comes of it
  pub not_started : (content : Result (ℕ × List ℕ) PrgError) (stop : NoText) → StartsContent s.text s.answers content (Err stop)
      → Makes (RunsContent s content) (Err stop)
  not_started (Ok p) (Refused e) unloadable = unloadable
  not_started (Ok p) NoMemory unloadable = tt
  not_started (Err why) (Refused e) is =
      let same : Refused e ≡ Refused (Prg why) = is in
      let inner : e ≡ Prg why = cc in
      ap (λ x. Err x) inner
  not_started (Err why) NoMemory is = tt

  -- what comes of the start machine of a PRG file comes of the file
  pub runs_content : (content : Result (ℕ × List ℕ) PrgError) (m : Content) (product : Product) → StartsContent s.text s.answers content (Ok m)
      → RunsOn s.gives s.outside m s.limit s.notation product → RunsContent s content product
  runs_content (Ok p) m (Ok shown) (in_ram, same) ran = (in_ram, subst (λ x. Runs s.gives s.outside x s.limit s.notation shown) same ran)
  runs_content (Ok p) m (Err e) started none = absurd none
  runs_content (Err why) m product none ran = absurd none
