-- What decreases when functions of src/expanding.rt call one another, and what holds in the loop over lines.
use Rattle.std.proofs.Common.{◌≡◌, ◌≤◌, ◌+◌, ◌*◌, length, map}
use Rattle.tb_basic_text.specs.Lines.{lines_of_file}
use Rattle.tb_assembly_files.specs.Libraries.{source_of}
use Rattle.tb_assembly_files.specs.Expansion.{including, lines_read, read_of}
use Rattle.tb_assembly_files.proofs.expanding.+reading.Given as goal

abbrev pub decreases-include : goal.decreases-include
decreases-include l = 4 * l.within.depth

abbrev pub decreases-take : goal.decreases-take
decreases-take l = 4 * l.within.depth + 1

abbrev pub decreases-read_one : goal.decreases-read_one
decreases-read_one l = 4 * l.within.depth + 2

abbrev pub decreases-read_file : goal.decreases-read_file
decreases-read_file l = 4 * l.within.depth + 3

abbrev pub invariant-read_file-loop-first : goal.invariant-read_file-loop-first
invariant-read_file-loop-first l =
    (lines_read (including l.within.depth (map source_of l.within.library.now) l.within.chain.now) l.file l.line (lines_of_file l.rest) (read_of l.reading)
    ≡ lines_read (including l.within.depth (map source_of l.within.library.now) l.within.chain.now) l.file 1 (lines_of_file l.fn.text) (read_of l.initial.reading))
    × (l.line + length l.rest ≤ 1 + length l.fn.text)

abbrev pub decreases-read_file-loop-first : goal.decreases-read_file-loop-first
decreases-read_file-loop-first l = length l.rest
