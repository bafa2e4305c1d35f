-- What is compiled keeps its program.
use Rattle.std.proofs.Common.{Ok, ◌≡◌, ℕ, ◌+◌, ◌≤◌, ◌<◌, List, [], ◌∷◌, ◌++◌, drop, length, refl, sym, ap, ◌∙◌, subst, arith}
use Rattle.tb_memmap.specs.Regions.{BASIC_START}
use Rattle.tb_asm.specs.declared.names.Name.{Name}
use Rattle.tb_asm.specs.Layout.{size}
use Rattle.tb_lower.specs.Follows.{Follows}
use Rattle.tb_lower.specs.Lowered as lowered
use Rattle.tb_lower.specs.Slots.{SlotCode}
use Rattle.tb_basic_text.specs.declared.notation.Notation.{Notation}
use Rattle.tb_parser.specs.Files.{LinesIn, Outcome, edited, end, bad, good}
use Rattle.tb_prg.specs.Prg.{header}
use Rattle.tb_runtime16.specs.Addresses.{PROLOGUE_AT}
use Rattle.tb_basic_syntax.specs.Source.{Program, numbers}
use Rattle.tb_compiler_selection.specs.Laws.{AreClosed}
use Rattle.tb_compiler_selection.proofs.Closed.{all_closed}
use Rattle.tb_assembly_settling.specs.Settled.{IsLaid}
use Rattle.tb_compiler_program.specs.Program.{program_code}
use Rattle.tb_compiled_kept.specs.Keeps.{Keeps}
use Rattle.tb_proof_correctness.specs.Laid.{ArePolled}
use Rattle.tb_proof_correctness.proofs.Whole.Compiled.{image_keeps}
use Rattle.tb_codegen.specs.Coded.{IsListed}
use Rattle.tb_codegen.proofs.Sized.{same_numbers}
use Rattle.tb_compiled.proofs.SmallPrograms.{count_numbers}

-- each line of a program takes an answer first
pub all_polled : (p : Program) → ArePolled (lowered.program_code p)
all_polled [] = tt
all_polled (line ∷ lines) = ((lowered.statement_code line.content, refl), all_polled lines)

-- the bytes that a compiled file loads keep the program
pub file_keeps : {seed : ℕ} {p : Program} {code : SlotCode} {file image : List ℕ} {from : ℕ} {labels : List (Name × ℕ)} → seed < 65536 → 1 ≤ length p
    → code ≡ lowered.program_code p → Follows p code → (s : IsListed code) (l : IsLaid PROLOGUE_AT (program_code seed code) from image labels)
    → PROLOGUE_AT + size l.items ≤ 0xA000 → file ≡ header ++ image → Keeps BASIC_START (drop 2 file) p seed
file_keeps {seed} {p} {code} small some same follows s l ends is =
    let n : numbers code ≡ numbers p = ap numbers same ∙ same_numbers p in
    let some_numbers : 1 ≤ length (numbers code) = (let a = ap length n in let b = count_numbers p in omega (arith, a, b, some)) in
    subst (λ f. Keeps BASIC_START (drop 2 f) p seed) (sym (is ∙ ap (λ b. header ++ b) l.bytes_are))
    (image_keeps seed p code small follows s.rising s.lists (subst ArePolled (sym same) (all_polled p)) (subst AreClosed (sym same) (all_closed p))
    some_numbers s.lines l.items l.settled ends (drop 2 header) refl)

same_made : (a b : Program) → ◌≡◌ {A = Outcome} (Ok a) (Ok b) → a ≡ b
same_made a b e = cc

-- a file that makes a program has at least one line
pub made_some : {notation : Notation} (n : ℕ) (p : Program) (ls : List (List ℕ)) (o : Outcome) → LinesIn notation n p ls o → (q : Program) → o ≡ Ok q → 1 ≤ length q
made_some _ _ _ _ (end n []) q e = cc
made_some _ _ _ _ (end n (l ∷ k)) q e = subst (λ x. 1 ≤ length x) (same_made (l ∷ k) q e) (omega arith)
made_some _ _ _ _ (bad n p line lines r k) q e = cc
made_some _ _ _ _ (good n p line lines edit o k h) q e = made_some (n + 1) (edited edit p) lines o h q e
