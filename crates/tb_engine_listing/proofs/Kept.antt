-- The file of a compiled program keeps its source.
use Rattle.std.proofs.Common.{◌≡◌, ℕ, ◌<◌, ◌≤◌, List, Ok, ap, drop, length, refl, subst, sym, arith}
use Rattle.tb_memmap.specs.Regions.{BASIC_START}
use Rattle.tb_asm.proofs.Settled.{settled_reaches}
use Rattle.tb_basic_syntax.specs.Source.{numbers, Rises}
use Rattle.tb_basic_syntax.specs.PlainData.{lines_of}
use Rattle.tb_basic_syntax.specs.declared.statements.Statement.{Statement}
use Rattle.tb_lower.specs.Lowered as slots
use Rattle.tb_lower.proofs.Lists.{lowered}
use Rattle.tb_lower.proofs.Ranged.{in_range}
use Rattle.tb_parser.specs.Files.{AreStated, Outcome}
use Rattle.tb_prg.specs.Prg.{header}
use Rattle.tb_runtime16.specs.Addresses.{PROLOGUE_AT}
use Rattle.tb_compiler_selection.proofs.Closed.{all_closed}
use Rattle.tb_assembly_settling.specs.Settled.{IsSettled}
use Rattle.tb_assembly_settling.proofs.Forms.{settled_by}
use Rattle.tb_compiler_program.specs.Program.{program_code}
use Rattle.tb_compiled_kept.specs.Keeps.{Keeps}
use Rattle.tb_proof_correctness.proofs.Whole.Compiled.{image_keeps}
use Rattle.tb_compiled.specs.declared.compiled.Compiled.{Compiled}
use Rattle.tb_compiled.specs.Answers.{AnswersFor, OutcomeAnswer, SourceMakes}
use Rattle.tb_compiled.specs.declared.settings.CompileSettings.{CompileSettings}
use Rattle.tb_basic_text.specs.declared.notation.Notation.{Notation}
use Rattle.tb_codegen.specs.Compiled.{IsLinked}
use Rattle.tb_codegen.specs.Templates.{templates}
use Rattle.tb_compiled.specs.Theorem.{KeepsSourceIn}
use Rattle.tb_codegen.proofs.Kept.{all_polled, made_some}
use Rattle.tb_codegen.specs.Coded.{IsListed}
use Rattle.tb_codegen.proofs.Sized.{listed, same_numbers}
use Rattle.tb_compiled.proofs.SmallPrograms.{count_numbers}

-- the headline, of a program that meets the compiler's promise: `make` has its file by it
pub program_keeps : {notation : Notation} (seed : ℕ) (source : List ℕ) (ls : List (ℕ × Statement)) (c : Compiled) → seed < 65536 → SourceMakes notation source (Ok (lines_of ls))
    → AreStated (lines_of ls) → Rises 1 32768 (numbers (lines_of ls)) → IsLinked seed (lines_of ls) c → KeepsSourceIn notation seed source c
program_keeps seed source ls c small made stated rises is =
    let p = lines_of ls in
    let code = slots.program_code p in
    let s : IsListed code = listed p refl stated rises (in_range ls code is.shallow refl) in
    let settled : IsSettled PROLOGUE_AT (program_code seed code) is.items = settled_by PROLOGUE_AT (program_code seed code) is.items is.settled
    (settled_reaches PROLOGUE_AT (program_code seed code) is.items is.settled) in
    let some : 1 ≤ length p = made_some _ _ _ _ made p refl in
    let some_numbers : 1 ≤ length (numbers code) = (let a = ap length (same_numbers p) in let b = count_numbers p in omega (arith, a, b, some)) in (
      p,
      made,
      subst (λ f. Keeps BASIC_START (drop 2 f) p seed) (sym is.prg)
          (image_keeps seed p code small (lowered p code is.shallow refl) s.rising s.lists (all_polled p) (all_closed p) some_numbers s.lines is.items settled is.ends
          (drop 2 header) refl),
    )

-- what is made of a source in a notation is answered by the settings with that notation
pub answered_in : {notation : Notation} (settings : CompileSettings) (source : List ℕ) (c : Compiled) → settings.notation ≡ notation → AnswersFor templates settings source (Ok c)
    → (outcome : Outcome) → SourceMakes notation source outcome → OutcomeAnswer templates settings outcome (Ok c)
answered_in settings source c same answered outcome made = answered outcome (subst (λ (n : Notation). SourceMakes n source outcome) (sym same) made)
