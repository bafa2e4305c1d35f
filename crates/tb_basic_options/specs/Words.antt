-- The words that ask for options, one by one.
use Rattle.std.specs.Prelude.{ℕ, ◌+◌, ◌-◌, ◌*◌, List, [], ◌∷◌, length, true, Option, Some, None, nat_le, ◌==◌, ◌&&◌, if◌then◌else◌}
use Rattle.std.specs.Option.{option_map_or}
use Rattle.std.specs.Str.{bytes_eq}
use Rattle.tb_basic_options.specs.Remarks.{is_digit}
use Rattle.tb_basic_options.specs.declared.options.OwnOptions.{OwnOptions}
use Rattle.tb_basic_options.specs.declared.words.Reading.{Reading}
use Rattle.tb_basic_options.specs.declared.words.TheConstants.{FIT, MOST_SEED, PETSCII, SEED}

-- one more byte at the front of the first word
abbrev pub longer : ℕ → List (List ℕ) → List (List ℕ)
longer b [] = (b ∷ []) ∷ []
longer b (word ∷ words) = (b ∷ word) ∷ words

-- what stands between the spaces of a text, which is empty between two of them
unfoldable pub words_in : List ℕ → List (List ℕ)
words_in [] = []
words_in (b ∷ text) = if b == 32 then [] ∷ words_in text else longer b (words_in text)

-- the seed that some digits spell, and these behind them
abbrev pub seed_from : ℕ → List ℕ → Option ℕ
seed_from begun [] = Some begun
seed_from begun (b ∷ digits) =
    if is_digit b && nat_le (10 * begun + (b - 48)) MOST_SEED then seed_from (10 * begun + (b - 48)) digits else None

-- with other options
abbrev pub with_options : Reading → OwnOptions → Reading
with_options r options = record (r) { options = options }

-- with a word at a column that asks for nothing; the first one is kept
abbrev pub refusing : Reading → ℕ → Reading
refusing r column =
    option_map_or (λ bad. r) r.options.bad (with_options r (record (r.options) { bad = Some (record { line = r.line; column = column }) }))

-- with the value of the option that awaits it
abbrev pub with_seed : Reading → ℕ → Option ℕ → Reading
with_seed r column None = refusing (record (r) { awaits = None }) column
with_seed r column (Some seed) = with_options (record (r) { awaits = None }) (record (r.options) { seed = Some seed })

-- with an option
abbrev pub with_option : Reading → ℕ → List ℕ → Reading
with_option r column word =
    if bytes_eq word FIT.now then with_options r (record (r.options) { fit = true })
    else if bytes_eq word PETSCII.now then with_options r (record (r.options) { petscii = true })
    else if bytes_eq word SEED.now then record (r) { awaits = Some column }
    else refusing r column

-- with what stands between two spaces
abbrev pub with_word : Reading → ℕ → List ℕ → Reading
with_word r column [] = r
with_word r column (b ∷ word) = option_map_or (λ option. with_seed r column (seed_from 0 (b ∷ word))) r.awaits (with_option r column (b ∷ word))

-- with all words from a column on
abbrev pub with_words : Reading → ℕ → List (List ℕ) → Reading
with_words r column [] = r
with_words r column (word ∷ words) = with_words (with_word r column word) (column + length word + 1) words

-- what the words ask for; an option without its value asks for nothing
abbrev pub ended : Reading → OwnOptions
ended r = option_map_or (λ column. (refusing r column).options) r.awaits r.options
