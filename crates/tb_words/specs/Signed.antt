-- The signed law: words as whole numbers from -32768 to 32767, modulo 65,536.
use Rattle.std.specs.Prelude.{◌≡◌, ◌<◌, ◌⊎◌, ℤ, pos, ◌+ℤ◌, ◌*ℤ◌, ◌<ℤ◌, ◌≤ℤ◌}
use Rattle.std.specs.Int.{int_wrap}
use mir.Syntax.{w16}
use Rattle.std.specs.Int.RustNames.{unsigned_abs}
use Rattle.tb_words.specs.declared.Rel.{Rel}
use Rattle.tb_words.specs.declared.Rel.TheVariants.{Eq, Lt, Gt, Le, Ge, Ne}

-- the number from -32768 to 32767 that differs from a whole number by a multiple of 65,536
abbrev pub wrapped : ℤ → ℤ
wrapped z = int_wrap w16 z

-- both are above zero, or both below
abbrev pub HaveOneSign : ℤ → ℤ → Type 0
HaveOneSign a b = ((pos 0 <ℤ a) × (pos 0 <ℤ b)) ⊎ ((a <ℤ pos 0) × (b <ℤ pos 0))

-- q and r are the quotient and the remainder of n by d, truncated toward zero
pub record IsDivision (n d q r : ℤ) : Type 0 where
  pub whole : n ≡ q *ℤ d +ℤ r
  pub smaller : unsigned_abs r < unsigned_abs d
  pub sign : (r ≡ pos 0) ⊎ HaveOneSign r n

-- what a relation says of two signed words
abbrev pub Holds : Rel → ℤ → ℤ → Type 0
Holds Eq a b = a ≡ b
Holds Lt a b = a <ℤ b
Holds Gt a b = b <ℤ a
Holds Le a b = a ≤ℤ b
Holds Ge a b = b ≤ℤ a
Holds Ne a b = a ≡ b → ⊥
