-- The goal of `make` of a PRG file's page in src/paging.rt: it is the page of the file's bytes.
use Rattle.tb_program_files.proofs.paging.PrgPageMaker.make.Goals as goal

pub returns : goal.returns
returns c = rw c.as_slice.ensures.value at c.prg_paged.ensures
