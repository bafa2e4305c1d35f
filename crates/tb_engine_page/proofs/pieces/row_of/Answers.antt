-- The goal of `row_of` in src/pieces.rt: the number and the address are those that the pieces show.
use Rattle.std.proofs.Common.{◌≡◌, [], ◌∙◌}
use Rattle.std.specs.Fmt.{decimal}
use Rattle.tb_words.specs.Hexadecimal.{four_digits}
use Rattle.tb_engine_page.proofs.pieces.row_of.Goals as goal

pub returns : goal.returns
returns c =
    let number : c.as_slice.result.now ≡ decimal c.args.start.number = c.as_slice.ensures.value ∙ c.decimal_digits-number.ensures.items in
    let address : c.as_slice-2.result.now ≡ four_digits c.args.start.at [] = c.as_slice-2.ensures ∙ c.hex_digits-address.ensures in
    rw number at (rw address at c.joined.ensures)
