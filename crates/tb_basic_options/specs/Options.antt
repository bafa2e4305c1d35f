-- What a source asks for by its own words.
use Rattle.std.specs.Prelude.{ℕ, ◌+◌, ◌-◌, false, List, [], ◌∷◌, length, take, None, nat_le, if◌then◌else◌}
use Rattle.std.specs.Option.{option_map_or}
use Rattle.tb_basic_text.specs.Lines.{lines_of_file}
use Rattle.tb_basic_text.specs.declared.lines.TheConstants.{LONGEST_LINE}
use Rattle.tb_basic_text.specs.declared.notation.Notation.{Notation}
use Rattle.tb_basic_text.specs.declared.notation.Notation.TheVariants.{Signs}
use Rattle.tb_basic_options.specs.Remarks.{words_behind}
use Rattle.tb_basic_options.specs.Words.{ended, with_words, words_in}
use Rattle.tb_basic_options.specs.declared.options.OwnOptions.{OwnOptions}
use Rattle.tb_basic_options.specs.declared.options.TheConstants.{FIRST_LINES}
use Rattle.tb_basic_options.specs.declared.words.Reading.{Reading}

-- nothing is asked for
abbrev pub none : OwnOptions
none = record { seed = None; fit = false; petscii = false; bad = None }

-- how the words of a line are read, from its first one on
abbrev pub first : OwnOptions → ℕ → Reading
first options number = record { options = options; line = number; awaits = None }

-- with the words of a line, which begin where the mark ends
abbrev pub with_words_of : OwnOptions → ℕ → List ℕ → List ℕ → OwnOptions
with_words_of options number line words = ended (with_words (first options number) (length line - length words + 1) (words_in words))

-- with what a line asks for that is no longer than a line may be
abbrev pub with_line : OwnOptions → ℕ → List ℕ → OwnOptions
with_line options number line =
    if nat_le (length line) LONGEST_LINE then option_map_or (with_words_of options number line) (words_behind line) options else options

-- with what lines ask for, by the number of the first one
abbrev pub with_lines : OwnOptions → ℕ → List (List ℕ) → OwnOptions
with_lines options number [] = options
with_lines options number (line ∷ lines) = with_lines (with_line options number line) (number + 1) lines

-- what a source asks for by its own words, on its first lines
abbrev pub options_of : List ℕ → OwnOptions
options_of source = with_lines none 1 (take FIRST_LINES (lines_of_file source))

-- how a source's texts are read: with signs, if that is asked for or the source itself asks for it
abbrev pub notation_by : Notation → OwnOptions → Notation
notation_by asked own = if own.petscii then Signs else asked

-- how a source's texts are read: with signs, if that is asked for or the source's options ask for it
abbrev pub notation_for : Notation → List ℕ → Notation
notation_for asked source = notation_by asked (options_of source)
