-- What is compiled marks the lines of its program.
use Rattle.std.proofs.Common.{Some, ◌≡◌, ℕ, ◌+◌, ◌≤◌, ◌<◌, Bool, true, false, ◌||◌, List, [], ◌∷◌, ◌++◌, drop, length, refl, sym, ap, ◌∙◌, subst, arith}
use Rattle.std.specs.Prelude.{if◌then◌else◌, nat_eq, unwrap_or}
use Rattle.std.proofs.lemmas.Bool.{eqb-true}
use Rattle.tb_memmap.specs.Regions.{BASIC_START}
use Rattle.tb_asm.specs.declared.names.Name.{Name}
use Rattle.tb_asm.specs.Layout.{labels_from, size}
use Rattle.tb_basic_meaning.specs.Control.{has_line}
use Rattle.tb_lower.specs.Follows.{Follows}
use Rattle.tb_lower.specs.Lowered as lowered
use Rattle.tb_lower.specs.Slots.{SlotCode}
use Rattle.tb_prg.specs.Prg.{header}
use Rattle.tb_runtime16.specs.Addresses.{PROLOGUE_AT}
use Rattle.tb_basic_syntax.specs.Source.{Program, numbers}
use Rattle.tb_compiler_templates.specs.declared.labels.Target.TheVariants.{Line}
use Rattle.tb_compiler_selection.specs.Laws.{AreClosed}
use Rattle.tb_compiler_selection.proofs.Closed.{all_closed}
use Rattle.tb_assembly_settling.specs.Settled.{IsLaid}
use Rattle.tb_compiler_program.specs.Program.{program_code}
use Rattle.tb_proof_simulation.specs.Layout.{label_address}
use Rattle.tb_compiled_kept.specs.LineStarts.{MarksLines}
use Rattle.tb_proof_correctness.specs.Laid.{ArePolled}
use Rattle.tb_proof_correctness.proofs.Whole.Compiled.{image_marks}
use Rattle.tb_proof_simulation.proofs.Numbers.{start_of_line}
use Rattle.tb_compiled.specs.Compiled.{start_in}
use Rattle.tb_codegen.specs.Compiled.{starts_in}
use Rattle.tb_codegen.proofs.Kept.{all_polled}
use Rattle.tb_codegen.specs.Coded.{IsListed}
use Rattle.tb_codegen.proofs.Sized.{same_numbers}
use Rattle.tb_compiled.proofs.SmallPrograms.{count_numbers}

-- where a compiled program's lines begin
start_labelled : (labels : List (Name × ℕ)) (ns : List ℕ) (n : ℕ) → has_line ns n ≡ true → label_address labels (Line n) ≡ unwrap_or (start_in (starts_in labels ns) n) 0
start_labelled labels [] n e = cc
start_labelled labels (m ∷ ns) n e = go (nat_eq m n) refl (start_labelled labels ns n) e
  where
    go : (t : Bool) → nat_eq m n ≡ t → (has_line ns n ≡ true → label_address labels (Line n) ≡ unwrap_or (start_in (starts_in labels ns) n) 0)
        → (t || has_line ns n) ≡ true → label_address labels (Line n) ≡ unwrap_or (if t then Some (label_address labels (Line m)) else start_in (starts_in labels ns) n) 0
    go true q later e = ap (λ k. label_address labels (Line k)) (sym (eqb-true m n q))
    go false q later e = later e

-- the bytes that a compiled file loads mark the program's lines
pub file_marks : {seed : ℕ} {p : Program} {code : SlotCode} {file image : List ℕ} {from : ℕ} {labels : List (Name × ℕ)} {starts : List (ℕ × ℕ)}
    → seed < 65536 → 1 ≤ length p → code ≡ lowered.program_code p → Follows p code
    → (s : IsListed code) (l : IsLaid PROLOGUE_AT (program_code seed code) from image labels) → PROLOGUE_AT + size l.items ≤ 0xA000 → file ≡ header ++ image
    → starts ≡ starts_in labels (numbers code) → MarksLines BASIC_START (drop 2 file) p seed (λ n. unwrap_or (start_in starts n) 0)
file_marks {seed} {p} {code} {starts = starts} small some same follows s l ends is told =
    let own = labels_from PROLOGUE_AT l.items in
    let n : numbers code ≡ numbers p = ap numbers same ∙ same_numbers p in
    let some_numbers : 1 ≤ length (numbers code) = (let a = ap length n in let b = count_numbers p in omega (arith, a, b, some)) in
    subst (λ f. MarksLines BASIC_START (drop 2 f) p seed (λ n. unwrap_or (start_in starts n) 0)) (sym (is ∙ ap (λ b. header ++ b) l.bytes_are))
    (image_marks seed p code small follows s.rising s.lists (subst ArePolled (sym same) (all_polled p)) (subst AreClosed (sym same) (all_closed p))
    some_numbers s.lines l.items l.settled ends (drop 2 header) refl (λ n. unwrap_or (start_in starts n) 0)
    (λ k has. (let has_own : has_line (numbers code) k ≡ true = ap (λ ns. has_line ns k) n ∙ has in
    sym (start_of_line own (numbers code) seed k has_own) ∙ start_labelled own (numbers code) k has_own ∙ ap (λ ss. unwrap_or (start_in ss k) 0)
    (sym (told ∙ ap (λ ls. starts_in ls (numbers code)) l.labels_are)))))
