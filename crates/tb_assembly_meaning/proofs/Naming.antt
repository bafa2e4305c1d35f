-- A name more among names.
use Rattle.std.proofs.Common.{◌≡◌, ℕ, Bool, true, false, List, [], ◌∷◌, refl, sym, ap, ◌∙◌, Option, Some, cond}
use Rattle.std.specs.Prelude.{ℤ}
use Rattle.std.specs.List.{AllZip}
use Rattle.std.specs.Cmp.Lexicographic.{same_text as texts_same}
use Rattle.indexmap.specs.IndexMap.{insert_entry}
use Rattle.tb_asm.specs.Mnemonics.{same_text}
use Rattle.tb_assembly_text.specs.declared.names.Name.{Name}
use Rattle.tb_assembly_meaning.specs.Names.{named, with_name}

-- two texts that agree byte by byte are the same
pub all_same : (xs ys : List ℕ) → AllZip (λ x y. y ≡ x) xs ys → ys ≡ xs
all_same [] [] h = refl
all_same [] (y ∷ ys) h = absurd h
all_same (x ∷ xs) [] h = absurd h
all_same (x ∷ xs) (y ∷ ys) h = λ i. h.0 i ∷ all_same xs ys h.1 i

twice : {A : Type 0} (b : Bool) (x y z : A) → cond b x z ≡ cond b x (cond b y z)
twice true x y z = refl
twice false x y z = refl

exclusive : {A : Type 0} (p q : Bool) (x y z r : A) → (p ≡ true → q ≡ true → ⊥) → r ≡ cond p x z → cond q y r ≡ cond p x (cond q y z)
exclusive true true x y z r never h = absurd (never refl refl)
exclusive true false x y z r never h = h
exclusive false true x y z r never h = refl
exclusive false false x y z r never h = h

module _ (eq : Name → Name → Bool) (is : (a b : Name) → eq a b ≡ same_text a.letters.items b.letters.items) (w : List ℕ) (k : Name) (v : Option ℤ) where
  step : (e : Name × Option ℤ) (es rest : List (Name × Option ℤ)) (b : Bool) → eq k e.0 ≡ b
      → named rest w ≡ cond (same_text w k.letters.items) (Some v) (named es w)
      → named (cond b ((e.0, v) ∷ es) (e ∷ rest)) w ≡ cond (same_text w k.letters.items) (Some v) (named (e ∷ es) w)
  step e es rest true h ih =
      let same : k.letters.items ≡ e.0.letters.items = texts_same k.letters.items e.0.letters.items (sym h ∙ is k e.0) in
      twice (same_text w e.0.letters.items) (Some v) (Some e.1) (named es w)
      ∙ sym (ap (λ t. cond (same_text w t) (Some v) (cond (same_text w e.0.letters.items) (Some e.1) (named es w))) same)
  step e es rest false h ih =
      exclusive (same_text w k.letters.items) (same_text w e.0.letters.items) (Some v) (Some e.1) (named es w) (named rest w)
      (λ p q.
      let same : w ≡ k.letters.items = texts_same w k.letters.items (sym p) in
      let both : same_text w e.0.letters.items ≡ same_text k.letters.items e.0.letters.items = ap (λ u. same_text u e.0.letters.items) same in
      let agree : true ≡ false = sym q ∙ both ∙ sym (is k e.0) ∙ h in
      cc)
      ih

  -- what a name stands for among names with one more
  pub named_insert : (es : List (Name × Option ℤ)) → named (insert_entry eq es k v) w ≡ cond (same_text w k.letters.items) (Some v) (named es w)
  named_insert [] = refl
  named_insert (e ∷ es) = step e es (insert_entry eq es k v) (eq k e.0) refl (named_insert es)

-- what names stand for after one more is put among them
pub inserted : (eq : Name → Name → Bool) → ((a b : Name) → eq a b ≡ same_text a.letters.items b.letters.items) → (old new : List (Name × Option ℤ)) (k : Name) (v : Option ℤ)
    → new ≡ insert_entry eq old k v → named new ≡ with_name (named old) k.letters.items v
inserted eq is old new k v e = λ j u. (ap (λ es. named es u) e ∙ named_insert eq is u k v old) j
