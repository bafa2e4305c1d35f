-- Names are text.
use Rattle.std.proofs.Common.{◌≡◌, ◌<◌, ℕ, zero, suc, List, [], ◌∷◌, true, arith}
use Rattle.std.specs.Prelude.{slice_index}
use Rattle.std.specs.Str.{IsUtf8}
use Rattle.std.proofs.lemmas.Str.{IsUtf8-from_ascii}
use Rattle.tb_assembly_labels.specs.Lines.{are_name_bytes}

-- bytes of names are ASCII
ascii : (bs : List ℕ) → are_name_bytes bs ≡ true → (i : ℕ) → slice_index bs i < 128
ascii [] all i = grind arith
ascii (b ∷ bs) all zero = grind arith
ascii (b ∷ bs) all (suc i) = grind (arith, ascii bs)

-- so they are text
pub is_text : (bs : List ℕ) → are_name_bytes bs ≡ true → IsUtf8 bs
is_text bs all = IsUtf8-from_ascii bs (ascii bs all)
