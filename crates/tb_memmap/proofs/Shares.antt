-- Each open address is the ROM's or the program's, by the bounds of the regions.
use Rattle.std.proofs.Common.{◌≡◌, ℕ, ◌<◌, ◌&&◌, ◌||◌, arith, ap, ◌∙◌}
use Rattle.std.proofs.lemmas.Bool.Decides.{nat_tests}
use Rattle.tb_memmap.specs.Regions.{is_open, within, is_rom}
use Rattle.tb_memmap.specs.Shares.{OpenIsShared}

open_spans : (a : ℕ) → a < 65536 → is_open a ≡ (within 0x0002 0x9fff a || within 0xc000 0xcfff a)
open_spans a h = grind (arith, nat_tests)

-- `OpenIsShared` holds: the law that `open_is_shared` hands on
pub shared : OpenIsShared
shared s a p q =
    let e = open_spans a q in
    record {
      open_is_shared = e ∙ grind (arith, nat_tests);
      not_both = grind (arith, nat_tests);
      rom_is_closed = ap (λ o. is_rom a && o) e ∙ grind (arith, nat_tests);
    }
