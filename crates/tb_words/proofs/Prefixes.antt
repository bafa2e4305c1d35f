-- Laws of prefixes.
use Rattle.std.proofs.Common.{◌≡◌, ℕ, List, [], ◌++◌, sym, ap, ◌∙◌, append_assoc, append-nil}
use Rattle.tb_words.specs.Prefixes.{IsPrefix}

-- a text is a prefix of itself
pub prefix_same : (xs ys : List ℕ) → ys ≡ xs → IsPrefix xs ys
prefix_same xs ys e = ([], append-nil xs ∙ sym e)

-- a prefix of a prefix is a prefix
pub prefix_trans : (xs ys zs : List ℕ) → IsPrefix xs ys → IsPrefix ys zs → IsPrefix xs zs
prefix_trans xs ys zs p q = (p.0 ++ q.0, sym (append_assoc xs p.0 q.0) ∙ ap (λ l. l ++ q.0) p.1 ∙ q.1)
