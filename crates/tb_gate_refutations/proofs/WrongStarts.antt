-- Why a line that is said to begin in dead bytes is never begun.
use Rattle.std.proofs.Common.{◌≡◌, ℕ, zero, suc, ◌≤◌, Bool, true, false, ◌&&◌, List, [], ◌∷◌, ◌++◌, refl, sym, ap, ◌∙◌, arith}
use Rattle.std.specs.Prelude.{not}
use Rattle.std.proofs.lemmas.Bool.{and_parts, false≢true}
use Rattle.tb_memmap.specs.Regions.{BASIC_START}
use Rattle.tb_opcodes.specs.Opcodes.{decoded}
use Rattle.tb_kernal.specs.declared.events.Event.{Event}
use Rattle.tb_kernal.specs.declared.events.Event.TheVariants.{Go}
use Rattle.tb_kernal.specs.Machine.{State, status_by, waits_for, happens, gone, is_home}
use Rattle.tb_kernal.specs.Rom.{service_at}
use Rattle.tb_kernal.specs.Runs.{run, goes}
use Rattle.tb_basic_syntax.specs.Source.{numbers}
use Rattle.tb_basic_meaning.specs.Meaning as meaning
use Rattle.tb_compiled_kept.specs.LineStarts.{is_start, MarksLines}
use Rattle.tb_gate_refutations.specs.Changed.{line_table}
use Rattle.tb_gate_refutations.specs.Compiled.{ends_image}
use Rattle.tb_gate_refutations.specs.Programs.{ends}
use Rattle.tb_gate_refutations.proofs.Plain.{plain, started, starts, clearing}
use Rattle.tb_gate_refutations.proofs.Refuting.{gos, goes_gos, gos_lawful, not_true}

-- ---- a front of these events
abbrev first : List Event → Event
first [] = Go clearing
first (e ∷ es) = e

abbrev others : List Event → List Event
others [] = []
others (e ∷ es) = es

abbrev here : State → Bool
here t = is_start line_table (numbers ends) t.regs.pc

-- whether it has returned after n more Go events, and is never in the line table
abbrev misses : ℕ → State → Bool
misses zero t = not (here t) && is_home t
misses (suc n) t = not (here t) && misses n (happens t (Go clearing))

stands : (t : State) → is_home t ≡ true → happens t (Go clearing) ≡ t
stands t h = ap (λ b. gone (status_by b t.wrong (waits_for (service_at t.regs.pc) t.text)) clearing t) h

never_here : (k : ℕ) (t : State) → misses k t ≡ true → (front back : List Event) (n : ℕ) → front ++ back ≡ gos n → here (run front t) ≡ false
never_here zero t h [] back n e = not_true _ (and_parts (not (here t)) _ h).0
never_here (suc k) t h [] back n e = not_true _ (and_parts (not (here t)) _ h).0
never_here k t h (f ∷ front) back zero e = let no : f ∷ (front ++ back) ≡ [] = e in cc
never_here zero t h (f ∷ front) back (suc n) e =
    let go : f ≡ Go clearing = ap first e in
    let same : happens t f ≡ t = ap (happens t) go ∙ stands t (and_parts (not (here t)) _ h).1 in
    ap (λ u. here (run front u)) same ∙ never_here zero t h front back n (ap others e)
never_here (suc k) t h (f ∷ front) back (suc n) e =
    let go : f ≡ Go clearing = ap first e in
    ap (λ u. here (run front u)) (ap (happens t) go) ∙ never_here k (happens t (Go clearing)) (and_parts (not (here t)) _ h).1 front back n (ap others e)

missed : misses 230 (started ends_image plain) ≡ true
unfolding decoded
missed = refl

-- the source goes on at line 10 at first, but no line begins
pub start_of_names_dead_bytes : MarksLines BASIC_START ends_image ends 1 line_table → ⊥
start_of_names_dead_bytes marks =
    let n = marks.pace [] [] 0 in
    let s = started ends_image plain in
    let enough : n ≤ goes (gos n) = let e = goes_gos n in omega (arith, e) in
    let comes = marks.comes s (starts ends_image plain refl) 0 (meaning.start (numbers ends) 1 [] []) [] 10 refl refl (gos n) (gos_lawful n s) enough in
    false≢true (sym (never_here 230 s missed comes.front _ n comes.split) ∙ comes.here)
