-- The routines and the prologue of an image do what the code of its lines needs of them.
use Rattle.std.proofs.Common.{◌≡◌, ℕ, ◌+◌, ◌*◌, ◌/◌, ◌%◌, ◌≤◌, ◌<◌, true, ◌||◌, List, [], ◌∷◌, length, refl, ap, ◌∙◌, subst, arith, Some}
use Rattle.std.specs.Prelude.{nat_eq}
use Rattle.std.proofs.lemmas.Bool.{eq-eqb, leb-true}
use Rattle.std.proofs.lemmas.Bool.Decides.{nat_tests}
use Rattle.std.proofs.Math.Bool.{or-true}
use Rattle.tb_asm.specs.declared.names.Name.{Name}
use Rattle.tb_asm.specs.Layout.{bytes_from, size}
use Rattle.tb_kernal.specs.Machine as machine
use Rattle.tb_machine_reaching.specs.View.{Part, Bytes, Comes, Holds, part_at, is_program}
use Rattle.tb_machine_reaching.specs.Start.{view_of, home_low, home_high}
use Rattle.tb_machine_reaching.proofs.Parts.{bytes_hold}
use Rattle.tb_basic_syntax.specs.Source.{numbers}
use Rattle.tb_basic_meaning.specs.Control.{has_line}
use Rattle.tb_lower.specs.Slots.{SlotCode}
use Rattle.tb_runtime16.specs.Addresses.{PROLOGUE_AT}
use Rattle.tb_compiler_program.specs.Program.{rows_code}
use Rattle.tb_runtime16.specs.Block.{block_bytes, block_part}
use Rattle.tb_runtime16.specs.Search.{table_bytes, AllWords}
use Rattle.tb_runtime16.specs.Ends.{Begun}
use Rattle.tb_runtime16.specs.Routines.{Routines, Tabled, entries, limit_by}
use Rattle.tb_runtime16.proofs.AllLaws.{all_laws}
use Rattle.tb_runtime16.proofs.PrologueRuns.{prologue_law}
use Rattle.tb_compiled_kept.specs.Keeps.{Starts}
use Rattle.tb_proof_simulation.specs.Layout.{Layout, layout_of, start_at, inner}
use Rattle.tb_proof_correctness.specs.Laid.{Laid}
use Rattle.tb_proof_simulation.proofs.Numbers.{start_of_line}
use Rattle.tb_proof_simulation.proofs.Headline.{setup, room_so, begins_so, inner_within}
use Rattle.tb_proof_correctness.proofs.Image.Laying.{block_short, block_lies, table_lies, start_small}
use Rattle.tb_proof_simulation.proofs.LineStarts.{has_content}

-- ---- the line table
rows_size : (ns : List ℕ) → size (rows_code ns) ≡ 4 * length ns
rows_size [] = refl
rows_size (n ∷ ns) = let r = rows_size ns in omega (arith, r)

rows_bytes : (labels : List (Name × ℕ)) (all : List ℕ) (seed : ℕ) (ns : List ℕ) → ((n : ℕ) → has_line ns n ≡ true → has_line all n ≡ true) → (a : ℕ)
    → bytes_from labels a (rows_code ns) ≡ table_bytes (entries (start_at labels all) ns)
rows_bytes labels all seed [] among a = refl
rows_bytes labels all seed (n ∷ ns) among a =
    let e = start_of_line labels all seed n (among n (ap (λ b. b || has_line ns n) (eq-eqb n n refl))) in
    let r = rows_bytes labels all seed ns (λ m h. among m (ap (λ b. nat_eq n m || b) h ∙ or-true (nat_eq n m))) (a + 2 + 2) in
    λ i. n % 256 ∷ n / 256 ∷ e i % 256 ∷ e i / 256 ∷ r i

all_words : (start : ℕ → ℕ) (ns : List ℕ) → ((n : ℕ) → has_line ns n ≡ true → n < 65536) → ((n : ℕ) → start n < 65536) → AllWords (entries start ns)
all_words start [] small places = tt
all_words start (n ∷ ns) small places = (
  small n (ap (λ b. b || has_line ns n) (eq-eqb n n refl)),
  places n,
  all_words start ns (λ m h. small m (ap (λ b. nat_eq n m || b) h ∙ or-true (nat_eq n m))) places,
)

first_byte : (code : Part) (at : ℕ) (start : ℕ → ℕ) (ns : List ℕ) → 1 ≤ length ns → Bytes code at (table_bytes (entries start ns)) → (b : ℕ) × (code at ≡ Some b)
first_byte code at start [] some h = absurd (let no : ⊥ = omega (arith, some) in no)
first_byte code at start (n ∷ ns) some h = (n % 256, h.0)

program_from : (a : ℕ) → is_program a ≡ true → 0x0800 ≤ a
program_from a h = grind (arith, nat_tests)

module _ (place : ℕ) (bytes : List ℕ) (from : 0x0800 ≤ place) (to : place + length bytes ≤ 0xa000) (labels : List (Name × ℕ)) (seed : ℕ)
    (sc : SlotCode) (laid : Laid labels seed (part_at place bytes) sc) where
  abbrev ns : List ℕ
  ns = numbers sc

  abbrev ly : Layout
  ly = layout_of labels ns seed

  abbrev code : Part
  code = part_at place bytes

  abbrev within : Part
  within = inner ly code

  shown : Bytes within ly.table (table_bytes (entries ly.start ns))
  shown =
      let t = table_lies labels seed code sc laid in
      subst (Bytes within ly.table) rows (subst (λ a. Bytes within ly.table (bytes_from labels a (rows_code ns))) (let e : ly.table + 0 ≡ ly.table = omega arith in e) t.bytes)
    where
      rows : bytes_from labels ly.table (rows_code ns) ≡ table_bytes (entries ly.start ns)
      rows = rows_bytes labels ns seed ns (λ n h. h) ly.table

  block_held : Holds block_part within
  block_held =
      let short : length block_bytes ≤ 1011 = leb-true (length block_bytes) 1011 (block_short labels seed code sc laid) in
      bytes_hold within PROLOGUE_AT block_bytes (omega (arith, short)) (block_lies labels seed code sc laid)

  module _ (s : machine.State) (h : Starts place bytes s) where
    tabled : Tabled within ly.table ns ly.start
    tabled =
        let first = first_byte within ly.table ly.start ns laid.some shown in
        let held = (begins_so place bytes from to ly s h).stays.whole ly.table first.0 (inner_within ly code ly.table first.0 first.1) in
        record {
          shown = shown;
          from = program_from ly.table held.0;
          to = omega (arith, laid.table.below, rows_size ns);
          some = laid.some;
          rising = laid.rising;
          words = all_words ly.start ns (λ n e. let c = has_content sc n e in (laid.lines n c.0 c.1).small) (λ n. omega (arith, start_small labels seed code sc laid n));
        }

    -- the routines of the image, from each start
    pub routines : Routines ly.table ly.seed ly.numbers ly.start (setup place bytes from to ly s) (home_low s) (home_high s) (length s.text) (limit_by (length s.text))
    routines = all_laws ly.table ly.seed ns ly.start (setup place bytes from to ly s) (home_low s) (home_high s) (length s.text) (room_so place bytes from to ly s h) block_held tabled

    -- the prologue of the image, from each start
    pub prologue : Comes (setup place bytes from to ly s) (view_of s) (Begun (setup place bytes from to ly s) s) [] 192
    prologue = prologue_law place bytes from to within (inner_within ly code) block_held s h.start
