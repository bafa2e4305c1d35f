-- The goal of `sizes_are_those_of_code` in src/sizes.rt.
use Rattle.std.proofs.Common.{◌≡◌, ℕ, ◌+◌, ◌*◌, true, List, [], ◌∷◌, length, refl, arith}
use Rattle.tb_asm.specs.Layout.{size}
use Rattle.tb_assembly_settling.proofs.Forms.{size_append}
use Rattle.tb_compiler_program.specs.Search.{all_compared, comparisons, find_code, looked_up}
use Rattle.tb_engine_listing.proofs.sizes.sizes_are_those_of_code.Goals as goal

all_compared_size : (ns : List ℕ) → size (all_compared ns) ≡ 19 * length ns
all_compared_size [] = refl
all_compared_size (n ∷ ns) = let a = all_compared_size ns in omega (arith, a)

compared_size : (ns : List ℕ) → size (find_code true ns) ≡ 6 + 19 * length ns + 21
compared_size ns = let a = size_append (comparisons true ns) (looked_up (length ns)) in let b = all_compared_size ns in omega (arith, a, b)

pub returns : goal.returns
returns c = (record { past = λ ns. refl; look_up = λ ns. refl; compared = compared_size; few = refl; row = λ n. refl; words = refl }, refl)
