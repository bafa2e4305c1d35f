-- What holds at each turn of the loop of `push_references` in src/pieces.rt.
use Rattle.std.proofs.Common.{◌≡◌, ◌++◌, take}
use Rattle.std.specs.Prelude.{flat_map}
use Rattle.tb_engine_page.specs.Pages.{reference}
use Rattle.tb_engine_page.proofs.pieces.push_references.Given as goal

abbrev pub invariant-loop-character : goal.invariant-loop-character
invariant-loop-character l = l.text.items ≡ l.initial.text.items ++ flat_map reference (take l.character-index l.characters)
