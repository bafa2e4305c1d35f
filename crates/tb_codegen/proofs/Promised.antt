-- What is linked is what the door says of a compiled program, and what takes too much once it is settled is too large there.
use Rattle.std.proofs.Common.{◌≡◌, ℕ, ◌+◌, ◌-◌, ◌<◌, ◌≤◌, List, [], ◌∷◌, length, map, refl, ap, ◌∙◌, arith}
use Rattle.tb_asm.specs.declared.names.Name.{Name}
use Rattle.tb_asm.specs.Layout.{labels_from, image_of, size}
use Rattle.tb_asm.specs.Settle.{Form, Settles, items_from, kept}
use Rattle.tb_asm.proofs.Laws.{all_size}
use Rattle.tb_basic_syntax.specs.Source.{Program, numbers}
use Rattle.tb_lower.specs.Lowered as lowered
use Rattle.tb_compiled_kept.specs.Addresses.{LINES_AT}
use Rattle.tb_runtime16.specs.Addresses.{PROLOGUE_AT}
use Rattle.tb_assembly_settling.proofs.Rounds.{one_way, rounds_end}
use Rattle.tb_compiler_templates.specs.declared.labels.Target.TheVariants.{Line, Past}
use Rattle.tb_compiler_templates.specs.Labels.{label_of}
use Rattle.tb_compiler_program.specs.Program.{program_code}
use Rattle.tb_compiled.specs.Compiled.{IsCompiled}
use Rattle.tb_compiled.specs.Refusals.{TakesTooMuch, told_of}
use Rattle.tb_compiled.specs.declared.compiled.Compiled.{Compiled}
use Rattle.tb_codegen.specs.Coded.{SettlesToFit, SettlesTooLong}
use Rattle.tb_codegen.specs.Compiled.{IsLinked, stands_at, starts_in}
use Rattle.tb_codegen.specs.Templates.{takes, templates}
use Rattle.tb_codegen.proofs.Seeds.{program_alike}
use Rattle.tb_codegen.proofs.Shapes.{settles_alike}

-- settled with any first state of RND, a program's code takes as many bytes
pub settled_size : (seed : ℕ) (p : Program) (forms : List Form) → Settles PROLOGUE_AT (map kept (program_code seed (lowered.program_code p))) forms
    → size (items_from PROLOGUE_AT forms) ≡ takes p
settled_size seed p forms rounds =
    let code = lowered.program_code p in
    let base = rounds_end PROLOGUE_AT (program_code 0 code) in
    let s = settles_alike PROLOGUE_AT (program_code 0 code) (program_code seed code) base.0 (program_alike 0 seed code) base.1 in
    ap (λ fs. size (items_from PROLOGUE_AT fs)) (one_way PROLOGUE_AT (map kept (program_code seed code)) forms s.forms rounds s.rounds) ∙ s.takes

-- lines with the addresses of their labels are their numbers, each with an address
labelled : (labels : List (Name × ℕ)) (ns : List ℕ) → starts_in labels ns ≡ map (λ n. (n, stands_at labels (label_of (Line n)))) ns
labelled labels [] = refl
labelled labels (n ∷ ns) = ap (λ ss. (n, stands_at labels (label_of (Line n))) ∷ ss) (labelled labels ns)

-- what is linked is compiled
pub compiled : (seed : ℕ) (p : Program) (c : Compiled) → IsLinked seed p c → IsCompiled templates seed p c
compiled seed p c is =
    let labels = labels_from PROLOGUE_AT is.items in
    let long : length (image_of PROLOGUE_AT is.items) ≡ size is.items = all_size labels PROLOGUE_AT is.items in
    let ends = is.ends in
    record {
      of = record {
        shallow = is.shallow;
        code = image_of PROLOGUE_AT is.items;
        file = is.prg;
        ends = omega (arith, long, ends);
        at = λ n. stands_at labels (label_of (Line n));
        starts = is.starts ∙ labelled labels (numbers p);
        rising = is.rising;
        past = stands_at labels (label_of Past);
        texts = is.texts;
        warned = is.warned;
      };
      taken = long ∙ ap size is.settled.are ∙ settled_size seed p is.settled.forms is.settled.settled;
      made = is;
    }

-- a program takes too much if its settled code does
pub is_settled : (seed n : ℕ) (p : Program) → SettlesTooLong n seed (lowered.program_code p) → TakesTooMuch templates p n
is_settled seed n p h =
    let e = settled_size seed p h.forms h.rounds in
    let is = h.takes in
    let past = h.past in
    let bytes : h.bytes ≡ PROLOGUE_AT + takes p - LINES_AT = omega (arith, e, is, past) in
    (omega (arith, e, is, past), h.told ∙ ap told_of bytes)

-- and the other way round
pub settled_is : (seed n : ℕ) (p : Program) → TakesTooMuch templates p n → SettlesTooLong n seed (lowered.program_code p)
settled_is seed n p h =
    let ends = rounds_end PROLOGUE_AT (program_code seed (lowered.program_code p)) in
    let e = settled_size seed p ends.0 ends.1 in
    let past = h.0 in
    record {
      forms = ends.0;
      rounds = ends.1;
      bytes = PROLOGUE_AT + takes p - LINES_AT;
      takes = omega (arith, e, past);
      past = omega (arith, past);
      told = h.1;
    }

-- a program fits if its settled code does
pub fits_settled : (seed : ℕ) (p : Program) → SettlesToFit seed (lowered.program_code p) → PROLOGUE_AT + takes p ≤ 0xA000
fits_settled seed p h = let e = settled_size seed p h.forms h.rounds in let ends = h.ends in omega (arith, e, ends)

-- and the other way round
pub settled_fits : (seed : ℕ) (p : Program) → PROLOGUE_AT + takes p ≤ 0xA000 → SettlesToFit seed (lowered.program_code p)
settled_fits seed p h =
    let end = rounds_end PROLOGUE_AT (program_code seed (lowered.program_code p)) in
    let e = settled_size seed p end.0 end.1 in
    record { forms = end.0; rounds = end.1; ends = omega (arith, e, h) }
