-- The first state of RND doesn't change how many bytes a program takes.
use Rattle.std.proofs.Common.{◌≡◌, ℕ, ◌+◌, Bool, true, false, List, [], ◌∷◌, ◌++◌, refl, sym, ap, ◌∙◌, map}
use Rattle.std.proofs.lemmas.List.{map-append}
use Rattle.tb_asm.specs.Layout.{Entry}
use Rattle.tb_basic_syntax.specs.Source.{Numbered, numbers}
use Rattle.tb_lower.specs.Slots.{Instr, Poll, SlotCode}
use Rattle.tb_compiler_selection.specs.Groups.{Group, Convert, Drawn}
use Rattle.tb_compiler_selection.specs.Groups.{slot_of}
use Rattle.tb_compiler_selection.specs.Select.{select}
use Rattle.tb_runtime16.specs.Addresses.{RANDOM_AT}
use Rattle.tb_compiled_kept.specs.Addresses.{RESULT}
use Rattle.tb_compiler_templates.specs.Breaks.{some_leaves, polled, behind}
use Rattle.tb_compiler_templates.specs.GroupTemplates.{group_template, handed, lined, may_have_none}
use Rattle.tb_compiler_program.specs.Search.{compares, find_code}
use Rattle.tb_compiler_program.specs.Program.{block_code, line_code, lines_code, list_code, past_code, program_code, rest_code, table_code}
use Rattle.tb_compiler_templates.specs.Sources.{destination_at, source_of}
use Rattle.tb_compiler_templates.specs.Templates.{here}
use Rattle.tb_compiler_templates.specs.declared.labels.Target.TheVariants.{Line}
use Rattle.tb_compiler_templates.specs.declared.sources.Source.{Source}
use Rattle.tb_compiler_templates.specs.declared.sources.Source.TheVariants.{FixedWord}
use Rattle.tb_codegen.proofs.Shapes.{shape}

-- lists of items of the same shapes
abbrev Alike : List Entry → List Entry → Type 0
Alike es others = map shape es ≡ map shape others

join : (es others fs gs : List Entry) → Alike es others → Alike fs gs → Alike (es ++ fs) (others ++ gs)
join es others fs gs a b = map-append shape es fs ∙ (λ i. a i ++ b i) ∙ sym (map-append shape others gs)

module _ (ns : List ℕ) (seed other : ℕ) where
  drawn : (none : Bool) (n : ℕ) (a : Source) (to : ℕ) → Alike (lined none n (handed RANDOM_AT RESULT (FixedWord seed) a to)) (lined none n (handed RANDOM_AT RESULT (FixedWord other) a to))
  drawn true n a to = refl
  drawn false n a to = refl

  -- only RND's code has the seed, as two bytes
  group : (n i : ℕ) (g : Group) → Alike (group_template ns seed n i g) (group_template ns other n i g)
  group n i (Convert Drawn a d) = drawn (may_have_none (source_of (slot_of d) a)) n (source_of (slot_of d) a) (destination_at d)
  group n i g = refl

  rest : (n i : ℕ) (gs : List Group) → Alike (rest_code ns seed n i gs) (rest_code ns other n i gs)
  rest n i [] = refl
  rest n i (g ∷ gs) =
      join (group_template ns seed n i g) (group_template ns other n i g) (rest_code ns seed n (i + 1) gs) (rest_code ns other n (i + 1) gs) (group n i g) (rest n (i + 1) gs)

  list : (n : ℕ) (is : List Instr) → Alike (list_code ns seed n is) (list_code ns other n is)
  list n (Poll ∷ is) =
      let away = some_leaves (select is) in
      let one = rest_code ns seed n 1 (select is) in
      let two = rest_code ns other n 1 (select is) in
      join (polled away n) (polled away n) (one ++ behind away n) (two ++ behind away n) refl
      (join one two (behind away n) (behind away n) (rest n 1 (select is)) refl)
  list n is = rest n 1 (select is)

  line : (l : Numbered (List Instr)) → Alike (line_code ns seed l) (line_code ns other l)
  line l = ap (λ es. shape (here (Line l.number)) ∷ es) (list l.number l.content)

  lines : (code : SlotCode) → Alike (lines_code ns seed code) (lines_code ns other code)
  lines [] = refl
  lines (l ∷ code) = join (line_code ns seed l) (line_code ns other l) (lines_code ns seed code) (lines_code ns other code) (line l) (lines code)

-- the code of a program is alike with any two
pub program_alike : (seed other : ℕ) (code : SlotCode) → Alike (program_code seed code) (program_code other code)
program_alike seed other code =
    let ns = numbers code in
    let after = past_code ns ++ (find_code (compares code) ns ++ table_code ns) in
    join block_code block_code (lines_code ns seed code ++ after) (lines_code ns other code ++ after) refl
    (join (lines_code ns seed code) (lines_code ns other code) after after (lines ns seed other code) refl)
