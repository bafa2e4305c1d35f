-- What holds at each turn of the loop of `read_text` in src/text.rt.
use Rattle.std.proofs.Common.{◌≡◌, ◌+◌, ◌≤◌, length, map}
use Rattle.tb_asm.specs.Layout.{entry_of}
use Rattle.tb_asm.specs.Text.{split_lines, text_items, items_of_text}
use Rattle.tb_asm.proofs.ReadLines.{items_before}
use Rattle.tb_asm.proofs.text.read_text.Given as goal

abbrev pub invariant-lines : goal.invariant-lines
invariant-lines l = (items_before (map entry_of l.items.items) (text_items l.number (split_lines l.rest)) ≡ items_of_text l.text) × (l.number + length l.rest ≤ length l.text + 1)

abbrev pub decreases-lines : goal.decreases-lines
decreases-lines l = length l.rest
