-- Items that settle are refused only if memory runs out, or for their length.
use Rattle.std.proofs.Common.{◌≡◌, ℕ, ◌+◌, ◌<◌, ◌⊎◌, inl, inr, Bool, true, false, List, refl, subst, arith, map}
use Rattle.std.specs.Prelude.{ltb}
use Rattle.std.proofs.lemmas.Bool.{ltb-true, ltb-false}
use Rattle.tb_asm.specs.declared.errors.AsmErrorKind.{AsmErrorKind}
use Rattle.tb_asm.specs.declared.errors.AsmErrorKind.TheVariants.{NoMemory}
use Rattle.tb_asm.specs.Layout.{Entry}
use Rattle.tb_asm.specs.Settle.{Form, Settles, kept}
use Rattle.tb_assembly_settling.specs.Settled.{MayRefuse, Suits, EndsFrom}
use Rattle.tb_assembly_settling.proofs.Forms.{forms_size, items_size}
use Rattle.tb_assembly_settling.proofs.Rounds.{rounds_end, one_way}
use Rattle.tb_assembly_settling.proofs.Accepted.{memory_short}

-- items that suit are refused if memory runs out, or since they end past 65,535 once they are settled
pub refused_for : (at : ℕ) (es : List Entry) → Suits at es → (k : AsmErrorKind) (i : ℕ) → MayRefuse at es k i → (k ≡ NoMemory) ⊎ EndsFrom 65536 at es
refused_for at es s k i h = let r = rounds_end at es in by r.0 r.1 (ltb (at + forms_size r.0) 65536) refl
  where
    ends : (forms : List Form) → Settles at (map kept es) forms → at + forms_size forms < 65536 → (gs : List Form) → Settles at (map kept es) gs → at + forms_size gs < 65536
    ends forms rounds small gs r = subst (λ fs. at + forms_size fs < 65536) (one_way at (map kept es) forms gs rounds r) small

    by : (forms : List Form) → Settles at (map kept es) forms → (b : Bool) → ltb (at + forms_size forms) 65536 ≡ b → (k ≡ NoMemory) ⊎ EndsFrom 65536 at es
    by forms rounds true q = inl (memory_short at es s (ends forms rounds (ltb-true (at + forms_size forms) 65536 q)) k i h)
    by forms rounds false q = inr (record { forms = forms; rounds = rounds; beyond = let a = ltb-false (at + forms_size forms) 65536 q in let b = items_size at forms in omega (arith, a, b) })
