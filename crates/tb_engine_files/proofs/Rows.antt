-- Worked rows: which files clash. Each is worked out by hand.
use Rattle.std.proofs.Common.{◌≡◌, ℕ, true, false, List, [], ◌∷◌, refl}
use Rattle.std.specs.Prelude.{codes}
use Rattle.tb_engine_files.specs.Places.{clashes}
use Rattle.std.specs.declared.alloc.Global.{Global}
use Rattle.std.specs.declared.string.String.{String}
use Rattle.tb_engine_files.specs.Names.{ends_as, is_source_name, image_ending}
use Rattle.tb_engine_files.specs.declared.places.Place.TheVariants.{File, Elsewhere}
use Rattle.tb_engine_files.specs.declared.places.Named.{Named}

module _ (end : String Global) where
  -- a path that leads to a file
  abbrev pub file : List ℕ → ℕ → ℕ → Named
  file path device number =
      record { path = record { ref_ptr = (0, 0); now = path }; place = File (record { device = device; number = number }) end }

  -- a path that leads to a device
  abbrev pub device_at : List ℕ → Named
  device_at path = record { path = record { ref_ptr = (0, 0); now = path }; place = Elsewhere }

  -- two names of one file
  pub hard_link : clashes (file (codes "a") 1 7 ∷ []) (file (codes "./b") 1 7 ∷ []) ≡ true
  hard_link = refl

  -- files with one number on two devices do not clash
  pub other_device : clashes (file (codes "a") 1 7 ∷ []) (file (codes "b") 2 7 ∷ []) ≡ false
  other_device = refl

  -- another file of the same device
  pub other_file : clashes (file (codes "a") 1 7 ∷ []) (file (codes "b") 1 8 ∷ []) ≡ false
  other_file = refl

  -- what is only read may be read twice
  pub read_twice : clashes (file (codes "a") 1 7 ∷ file (codes "b") 1 7 ∷ []) (file (codes "c") 1 8 ∷ []) ≡ false
  read_twice = refl

  -- the second file that is written is the first one
  pub written_twice : clashes [] (file (codes "a") 1 7 ∷ file (codes "b") 1 8 ∷ file (codes "in/a") 1 7 ∷ []) ≡ true
  written_twice = refl

  -- a device may be written twice, but not by one name
  pub devices : clashes [] (device_at (codes "/dev/null") ∷ device_at (codes "/dev//null") ∷ []) ≡ false
  devices = refl

  pub same_device : clashes [] (device_at (codes "/dev/null") ∷ device_at (codes "/dev/null") ∷ []) ≡ true
  same_device = refl

-- endings in either case
pub a_source : is_source_name (codes "x/Game.BaS") ≡ true
a_source = refl

pub another_source : is_source_name (codes "game.TBAS") ≡ true
another_source = refl

pub no_source : is_source_name (codes "bas") ≡ false
no_source = refl

pub an_image : ends_as (codes "games.D64") image_ending ≡ true
an_image = refl
