-- What several pieces append, one after another.
use Rattle.std.proofs.Common.{◌≡◌, List, ◌++◌, append_assoc, ap, ◌∙◌}
use Rattle.std.proofs.Common.{ℕ, Bool, true, false, [], subst}
use Rattle.std.proofs.lemmas.List.{append-nil}
use Rattle.tb_asm.specs.Layout.{Entry}
use Rattle.tb_compiled_kept.specs.Addresses.{LINE}
use Rattle.tb_compiler_templates.specs.Templates.{constant}
use Rattle.tb_compiler_templates.specs.GroupTemplates.{lined}

-- two pieces
pub two : {A : Type 0} (o m n a b : List A) → m ≡ o ++ a → n ≡ m ++ b → n ≡ o ++ (a ++ b)
two o m n a b p q = q ∙ ap (λ x. x ++ b) p ∙ append_assoc o a b

-- three pieces
pub three : {A : Type 0} (o m n r a b c : List A) → m ≡ o ++ a → n ≡ m ++ b → r ≡ n ++ c → r ≡ o ++ (a ++ (b ++ c))
three o m n r a b c p q s = two o m r a (b ++ c) p (two m n r b c q s)

-- four pieces
pub four : {A : Type 0} (o m n r s a b c d : List A) → m ≡ o ++ a → n ≡ m ++ b → r ≡ n ++ c → s ≡ r ++ d → s ≡ o ++ (a ++ (b ++ (c ++ d)))
four o m n r s a b c d p q t u = two o m s a (b ++ (c ++ d)) p (three m n r s b c d q t u)

-- the line's number, or nothing, before a piece
pub after_line : (o m n a : List Entry) (u t : Bool) (k : ℕ) → u ≡ t → m ≡ o ++ lined u k [] → n ≡ m ++ a → n ≡ o ++ lined t k a
after_line o m n a u t k e p q = subst (λ t. n ≡ o ++ lined t k a) e (by u p)
  where
    by : (u : Bool) → m ≡ o ++ lined u k [] → n ≡ o ++ lined u k a
    by true p = two o m n (constant k LINE) a p q
    by false p = q ∙ ap (λ x. x ++ a) (p ∙ append-nil o)
