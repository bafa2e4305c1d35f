-- A program's code can be settled and assembled, and its size.
use Rattle.std.proofs.Common.{◌≡◌, ℕ, ◌+◌, ◌*◌, ◌<◌, ◌≤◌, Bool, true, false, List, [], ◌∷◌, ◌++◌, length, refl, arith}
use Rattle.std.specs.Prelude.{◌&&◌, nat_eq, nat_le, nat_lt}
use Rattle.std.proofs.lemmas.Bool.{eqb-true, leb-true, ltb-true, and_parts}
use Rattle.tb_asm.specs.Layout.{size, labels_from}
use Rattle.tb_lower.specs.Slots.{SlotCode}
use Rattle.tb_basic_syntax.specs.Source.{numbers, Rises}
use Rattle.tb_runtime16.specs.Addresses.{PROLOGUE_AT}
use Rattle.tb_compiler_program.specs.Layout.{LabelsAt}
use Rattle.tb_compiler_program.specs.Program.{line_code, lines_code, past_code, rows_code, table_code, block_code, program_code, AreCodable}
use Rattle.tb_compiler_program.specs.Search.{all_compared, bytes_left, compares, comparisons, comparisons_size, find_code, has_computed, looked_up, too_many_lines, unpaid}
use Rattle.tb_assembly_settling.specs.Settled.{most, Suits}
use Rattle.tb_compiler_program.specs.Sizes.{lines_price, lines_room, rest_price, rest_room}
use Rattle.tb_assembly_settling.proofs.Forms.{most_append}
use Rattle.tb_compiler_program.proofs.Fitting.{list_fits}
use Rattle.tb_compiler_program.proofs.Woven.{lowest, labels_hold, distinct}
use Rattle.tb_compiler_program.proofs.Ordered.{program_woven}
use Rattle.tb_compiler_program.proofs.Accepted.{program_modes, program_moves}
use Rattle.tb_compiler_program.proofs.Reached.{program_known}

-- ── sizes ──
pub block_size : size block_code ≡ 1011
block_size = omega arith

block_most : most block_code ≡ 1011
block_most = omega arith

-- lines and their entries in the line table
pub lines_most : (ns : List ℕ) (seed : ℕ) (lines : SlotCode) → most (lines_code ns seed lines) + most (rows_code (numbers lines)) ≤ lines_room lines
lines_most ns seed [] = omega arith
lines_most ns seed (line ∷ lines) =
    let a = most_append (line_code ns seed line) (lines_code ns seed lines) in
    let b = list_fits ns seed line.number line.content in
    let c = lines_most ns seed lines in
    omega (arith, a, b, c)

all_compared_most : (ns : List ℕ) → most (all_compared ns) ≡ 19 * length ns
all_compared_most [] = refl
all_compared_most (n ∷ ns) = let a = all_compared_most ns in omega (arith, a)

-- the search in the line table, and with comparisons before it
looked_up_most : (ns : List ℕ) → most (find_code false ns) ≡ 21
looked_up_most ns = refl

compared_most : (ns : List ℕ) → most (find_code true ns) ≡ comparisons_size (length ns) + 21
compared_most ns =
    let a = most_append (comparisons true ns) (looked_up (length ns)) in let b = all_compared_most ns in
    omega (arith, a, b)

count_numbers : (lines : SlotCode) → length (numbers lines) ≡ length lines
count_numbers [] = refl
count_numbers (line ∷ lines) = let a = count_numbers lines in omega (arith, a)

-- they are compared if there are few lines, and room for it by the memory and by the cost
record Compares (code : SlotCode) : Type 0 where
  few : length code < too_many_lines
  fits : comparisons_size (length code) ≤ bytes_left code
  paid : unpaid code ≡ 0

when_compared : (code : SlotCode) → compares code ≡ true → Compares code
when_compared code h =
    let few = nat_lt (length code) too_many_lines in let fits = nat_le (comparisons_size (length code)) (bytes_left code) in let paid = nat_eq (unpaid code) 0 in
    let a = and_parts few (has_computed code && (fits && paid)) h in
    let b = and_parts fits paid (and_parts (has_computed code) (fits && paid) a.1).1 in
    record { few = ltb-true _ _ a.0; fits = leb-true _ _ b.0; paid = eqb-true _ _ b.1 }

-- numbers that are compared are those of few lines
pub few_compared : (code : SlotCode) → compares code ≡ true → length (numbers code) < too_many_lines
few_compared code h = let a = (when_compared code h).few in let b = count_numbers code in omega (arith, a, b)

-- the search and the lines take no more than this, which the lines and their cost allow without comparisons
searching_most : (code : SlotCode) (c : ℕ) → lines_room code + rest_room ≤ c → rest_price + lines_price code ≤ c → (t : Bool) → compares code ≡ t
    → most (find_code t (numbers code)) + lines_room code + 11 ≤ c
searching_most code c room paid true e =
    let w = when_compared code e in let f = w.fits in let p = w.paid in
    let m = compared_most (numbers code) in let n = count_numbers code in
    omega (arith, room, paid, f, p, m, n)
searching_most code c room paid false e = omega (arith, room)

-- a program, however many branches are replaced
pub program_most : (seed : ℕ) (code : SlotCode) (c : ℕ) → lines_room code + rest_room ≤ c → rest_price + lines_price code ≤ c → most (program_code seed code) ≤ 1011 + c
program_most seed code c room paid =
    let ns = numbers code in
    let lines = lines_code ns seed code in let past = past_code ns in let table = table_code ns in
    let search = find_code (compares code) ns in
    let a = block_most in
    let b = most_append block_code (lines ++ (past ++ (search ++ table))) in
    let d = most_append lines (past ++ (search ++ table)) in
    let e = most_append past (search ++ table) in
    let f = most_append search table in
    let g = lines_most ns seed code in
    let h = searching_most code c room paid (compares code) refl in
    omega (arith, a, b, d, e, f, g, h)

-- ── what settling needs ──
-- each label of a program gives the address of its item
pub program_labels : (seed : ℕ) (code : SlotCode) → Rises 0 65536 (numbers code) → AreCodable code
    → LabelsAt (labels_from PROLOGUE_AT (program_code seed code)) PROLOGUE_AT (program_code seed code)
program_labels seed code r c = labels_hold PROLOGUE_AT lowest 0 [] (program_code seed code) tt (program_woven seed code r c)

-- a program's code suits
pub program_suits : (seed : ℕ) (code : SlotCode) → Rises 0 65536 (numbers code) → AreCodable code → Suits PROLOGUE_AT (program_code seed code)
program_suits seed code r c =
    let es = program_code seed code in record {
      modes = program_modes seed code;
      names = distinct lowest 0 es (program_woven seed code r c);
      known = program_known (labels_from PROLOGUE_AT es) PROLOGUE_AT seed code (program_labels seed code r c);
      movable = program_moves seed code;
    }
