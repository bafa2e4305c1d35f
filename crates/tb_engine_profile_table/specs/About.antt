-- What a page says of a run besides its figures.
use Rattle.std.specs.Prelude.{ℕ, Bool, List, [], ◌∷◌, ◌++◌, codes, Option, None, Some, if◌then◌else◌}
use Rattle.std.specs.Fmt.{decimal}
use Rattle.hex.specs.Hex.{encode_lower}
use Rattle.tb_engine_profile_table.specs.declared.about.About.{About}

-- what a run was given, and how it ended: its program's name, the seed of RND, whether its size alone was limited, the
-- most events, what was typed, the answers of GETIN, the seed of a rude ROM, and a text of its end
pub record Facts : Type 0 where
  pub name : List ℕ
  pub seed : ℕ
  pub fits : Bool
  pub limit : ℕ
  pub keys : List ℕ
  pub answers : List ℕ
  pub rude : Option ℕ
  pub end : List ℕ

-- what a run was given, and how it ended, by the code's own record
abbrev pub facts_in : About → Facts
facts_in a =
    record {
      name = a.name.now;
      seed = a.seed;
      fits = a.fits;
      limit = a.limit;
      keys = a.keys.now;
      answers = a.answers.now;
      rude = a.rude;
      end = a.end.now;
    }

-- yes or no
abbrev pub yes_or_no : Bool → List ℕ
yes_or_no is = if is then codes "yes" else codes "no"

-- keys as hexadecimal digits
abbrev pub keys_text : List ℕ → List ℕ
keys_text [] = codes "none"
keys_text (k ∷ keys) = encode_lower (k ∷ keys)

-- the ROM beside which a program ran
abbrev pub rom_text : Option ℕ → List ℕ
rom_text None = codes "quiet"
rom_text (Some seed) = codes "rude " ++ decimal seed
