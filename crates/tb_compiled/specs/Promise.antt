-- What a compiler says of its own.
use Rattle.std.specs.Prelude.{ℕ}
use Rattle.tb_basic_syntax.specs.Source.{Program}
use Rattle.tb_compiled.specs.declared.compiled.Compiled.{Compiled}

-- What is said of a program that was made with a first state of RND, as which bytes it has; and how many bytes a program's
-- code, with its block and line table, takes, whatever the first state of RND.
pub record Own : Type 1 where
  pub makes : ℕ → Program → Compiled → Type 0
  pub takes : Program → ℕ
