-- The statement of a line of a program.
use Rattle.std.proofs.Common.{◌≡◌, ℕ, true, List, ◌∷◌, Some, refl, ap, sym, ◌∙◌, arith}
use Rattle.std.specs.Prelude.{nat_eq}
use Rattle.std.proofs.lemmas.Bool.Decides.{nat_tests}
use Rattle.tb_basic_syntax.specs.declared.statements.Statement.{Statement}
use Rattle.tb_basic_syntax.specs.PlainData.{lines_of, statement_of}
use Rattle.tb_basic_syntax.specs.Source.{Program}
use Rattle.tb_basic_meaning.specs.Control.{content_at}

-- the search for a line's statement ends at its number
pub found_here : (p : Program) (n m : ℕ) (c : Statement) (lines rest : List (ℕ × Statement)) → lines ≡ (m, c) ∷ rest → m ≡ n
    → content_at (lines_of lines) n ≡ content_at p n → content_at p n ≡ Some (statement_of c)
found_here p n m c lines rest e same h =
    let t : nat_eq m n ≡ true = grind (arith, nat_tests) in sym h ∙ ap (λ ls. content_at (lines_of ls) n) e ∙ rw t refl
