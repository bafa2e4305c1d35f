-- A line that is read byte by byte.
use Rattle.std.proofs.Common.{◌≡◌, ◌≢◌, ℕ, suc, ◌<◌, ◌≤◌, List, [], ◌∷◌, ◌++◌, Option, length, take, get_or, refl, subst, arith}
use Rattle.std.proofs.KnownBytes.{Consumes-trans}
use Rattle.std.specs.Io.KnownBytes.{Consumes}
use Rattle.tb_engine_streams.specs.Lines.{IsLine}

-- a read of one byte
one_read : (buf : List ℕ) (n : ℕ) → length buf ≡ 1 → n ≢ 0 → n ≤ length buf → take n buf ≡ get_or buf 0 0 ∷ []
one_read [] n one some few = let no : 0 ≡ 1 = one in absurd (omega (arith, no))
one_read (x ∷ []) n one some few = let n_one : n ≡ 1 = omega (arith, some, few) in rw n_one refl
one_read (x ∷ y ∷ xs) n one some few = let no : suc (suc (length xs)) ≡ 1 = one in absurd (omega (arith, no))

-- a line with one more byte, other than 10, is a line
pub line_more : (line : List ℕ) (b : ℕ) → IsLine line → b < 256 → b ≢ 10 → IsLine (line ++ b ∷ [])
line_more [] b h small other = (small, other, tt)
line_more (x ∷ line) b (x_small, x_other, h) small other = (x_small, x_other, line_more line b h small other)

-- one more byte was taken
pub takes_byte : (a b c : Option (List ℕ)) (line buf : List ℕ) (n : ℕ) → length buf ≡ 1 → n ≢ 0 → n ≤ length buf
    → Consumes a b line → Consumes b c (take n buf) → Consumes a c (line ++ get_or buf 0 0 ∷ [])
takes_byte a b c line buf n one some few before now =
    Consumes-trans a b c _ _ before (subst (Consumes b c) (one_read buf n one some few) now)
