-- The open addresses are shared between the ROM and the program.
use Rattle.std.specs.Prelude.{ℕ, ◌≡◌, ◌<◌, ◌&&◌, ◌||◌, false}
use Rattle.tb_memmap.specs.Regions.{is_open, rom_writable, is_owned, is_rom}

-- at each stack pointer an open address is the ROM's to write or the program's, and not both; no code of the ROM is open
pub record AreShared (s a : ℕ) : Type 0 where
  pub open_is_shared : is_open a ≡ (rom_writable s a || is_owned s a)
  pub not_both : (rom_writable s a && is_owned s a) ≡ false
  pub rom_is_closed : (is_rom a && is_open a) ≡ false

-- this holds for every stack pointer and every address
abbrev pub OpenIsShared : Type 0
OpenIsShared = (s a : ℕ) → s < 256 → a < 65536 → AreShared s a
