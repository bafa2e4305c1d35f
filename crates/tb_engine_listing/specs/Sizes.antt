-- The sizes of code by which a listing finds its way are those of the templates and of the block.
use Rattle.std.specs.Prelude.{◌≡◌, ℕ, ◌+◌, ◌*◌, true, false, List, length}
use Rattle.tb_asm.specs.Layout.{size}
use Rattle.tb_runtime16.specs.Block.{block_bytes}
use Rattle.tb_compiler_program.specs.Program.{past_code, row_code}
use Rattle.tb_compiler_program.specs.Search.{find_code, too_many_lines}
use Rattle.tb_engine_listing.specs.declared.sizes.TheConstants.{ASKED_SIZE, BLOCK_SIZE, COMPARED_SIZE, FAULT_SIZE, LOOK_UP_SIZE, ROW_SIZE, TOO_MANY_LINES, WORD}

-- what follows the lines: fault 7, the search, and the rows of the line table, each of two words
pub record AfterTheLines : Type 0 where
  pub past : (ns : List ℕ) → size (past_code ns) ≡ FAULT_SIZE
  pub look_up : (ns : List ℕ) → size (find_code false ns) ≡ LOOK_UP_SIZE
  pub compared : (ns : List ℕ) → size (find_code true ns) ≡ ASKED_SIZE + COMPARED_SIZE * length ns + LOOK_UP_SIZE
  pub few : too_many_lines ≡ TOO_MANY_LINES
  pub row : (n : ℕ) → size (row_code n) ≡ ROW_SIZE
  pub words : ROW_SIZE ≡ WORD + WORD

-- the block has as many bytes
abbrev pub BlockStands : Type 0
BlockStands = length block_bytes ≡ BLOCK_SIZE

-- all of these
abbrev pub AreSizesOfCode : Type 0
AreSizesOfCode = AfterTheLines × BlockStands
