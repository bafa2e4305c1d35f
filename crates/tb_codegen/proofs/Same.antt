-- What both calls compile is the same.
use Rattle.std.proofs.Common.{◌≡◌, ℕ, List, ◌++◌, map, Option, Some, None, Result, Ok, Err, sym, ap, ◌∙◌, arith, is_some, true≢false}
use Rattle.tb_basic_syntax.specs.Source.{Program, numbers}
use Rattle.tb_asm.specs.Layout.{Entry, size, labels_from, image_of, address_in}
use Rattle.tb_asm.specs.Settle.{kept, items_from, SettlesTo}
use Rattle.tb_lower.specs.Lowered as lowered
use Rattle.tb_basic_meaning.specs.declared.needs.LowerError.TheVariants as deep
use Rattle.tb_parser.specs.Files.{Outcome}
use Rattle.tb_prg.specs.Prg.{header}
use Rattle.tb_compiled_errors.specs.declared.refusals.CompileError.{CompileError}
use Rattle.tb_compiled_errors.specs.declared.refusals.CompileError.TheVariants.{Source, Lower, TooLarge, NoMemory}
use Rattle.tb_runtime16.specs.Addresses.{PROLOGUE_AT}
use Rattle.tb_compiler_templates.specs.declared.labels.Target.TheVariants.{Table}
use Rattle.tb_compiler_templates.specs.Labels.{label_of}
use Rattle.tb_compiler_program.specs.Program.{program_code}
use Rattle.tb_compiled.specs.declared.compiled.Compiled.{Compiled}
use Rattle.tb_codegen.specs.Templates.{templates}
use Rattle.tb_codegen.specs.Compiled.{IsLinked, starts_in}
use Rattle.tb_compiled.specs.Compiled.{IsCompiled, table_of}
use Rattle.tb_compiled.specs.Answers.{HasOutcome, OutcomeAnswer, LinesMake, ProgramAnswer, AreSame, GivesSame}
use Rattle.tb_compiled.specs.Settings.{by_cost, by_memory}
use Rattle.tb_assembly_settling.proofs.Rounds.{one_way}

same_items : (at : ℕ) (es items others : List Entry) → SettlesTo at es items → SettlesTo at es others → items ≡ others
same_items at es items others a b = a.are ∙ ap (items_from at) (one_way at (map kept es) a.forms b.forms a.settled b.settled) ∙ sym b.are

some_same : (a b : ℕ) → ◌≡◌ {A = Option ℕ} (Some a) (Some b) → a ≡ b
some_same a b e = cc

compiled_same : (seed : ℕ) (p : Program) (c d : Compiled) → IsLinked seed p c → IsLinked seed p d → AreSame c d
compiled_same seed p c d a b =
    let e = same_items PROLOGUE_AT (program_code seed (lowered.program_code p)) a.items b.items a.settled b.settled in
    record {
      prg = a.prg ∙ ap (λ items. header ++ image_of PROLOGUE_AT items) e ∙ sym b.prg;
      starts = a.starts ∙ ap (λ items. starts_in (labels_from PROLOGUE_AT items) (numbers p)) e ∙ sym b.starts;
      table = some_same (table_of c) (table_of d) (sym a.table ∙ ap (λ items. address_in (labels_from PROLOGUE_AT items) (label_of Table)) e ∙ b.table);
      warned = a.warned ∙ sym b.warned;
    }

program_same : (seed : ℕ) (p : Program) (c : Compiled) (r : Result Compiled CompileError) → IsCompiled templates seed p c → ProgramAnswer templates (by_memory seed) p r
    → GivesSame c r
program_same seed p c (Ok d) a h = compiled_same seed p c d a.made h.1.made
program_same seed p c (Err (Source e)) a h = h
program_same seed p c (Err (Lower deep.NoMemory)) a h = h
program_same seed p c (Err (Lower (deep.TooDeep n))) a h = let e : None ≡ Some n = sym a.of.shallow ∙ h in true≢false (sym (ap is_some e))
program_same seed p c (Err (TooLarge n)) a h = let e = a.taken in let ends = a.of.ends in let past = h.1.0 in absurd (omega (arith, e, ends, past))
program_same seed p c (Err NoMemory) a h = tt

-- if one answer is a compiled program, the other shows the same program or memory ran out
pub gives_same : (seed : ℕ) (source : List ℕ) (r : Result Compiled CompileError) → ((outcome : Outcome) → LinesMake source outcome → OutcomeAnswer templates (by_memory seed) outcome r)
    → (c : Compiled) → HasOutcome templates (by_cost seed) source (Ok c) → GivesSame c r
gives_same seed source r only c h = by h.outcome h.answer (only h.outcome h.made)
  where
    by : (o : Outcome) → OutcomeAnswer templates (by_cost seed) o (Ok c) → OutcomeAnswer templates (by_memory seed) o r → GivesSame c r
    by (Ok p) a b = program_same seed p c r a.1 b
    by (Err e) a b = absurd a
