-- The texts of notes that know all that they say.
use Rattle.std.specs.Prelude.{ℕ, List, ◌++◌, codes}
use Rattle.std.specs.Fmt.{decimal}
use Rattle.tb_program_endings.specs.declared.notes.Note.{Note}
use Rattle.tb_program_endings.specs.declared.notes.Note.TheVariants.{Stopped, BadLabel, Fits, Seed, Passed, Source}

-- what is said of a note
abbrev pub note_text : Note → List ℕ
note_text (Stopped place) = codes "at " ++ place.now
note_text (BadLabel path line) = path.now ++ (codes ", line " ++ decimal line)
note_text (Fits bytes) = codes "its code takes " ++ (decimal bytes ++ codes " bytes: --fit compiles it")
note_text (Seed seed) = codes "the seed is " ++ (decimal seed ++ (codes "; --seed " ++ (decimal seed ++ codes " gives the same again")))
note_text (Passed path bad) =
    path.now ++ (codes ":" ++ (decimal bad.line ++ (codes ":" ++ (decimal bad.column ++ codes ": no option of a source, and passed over"))))
note_text (Source word) = codes "to run a source: tbc run " ++ word.now
