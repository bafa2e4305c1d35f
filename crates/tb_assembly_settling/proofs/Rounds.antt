-- Rounds of settling end, and in one way.
use Rattle.std.proofs.Common.{◌≡◌, ℕ, ◌≤◌, zero, suc, length, replicate, Bool, true, false, List, [], ◌∷◌, refl, sym, ap, ◌∙◌, subst, arith}
use Rattle.std.proofs.Common.{true≢false, map}
use Rattle.tb_asm.specs.Layout.{Entry, size_of, size}
use Rattle.tb_asm.specs.Settle.{Form, Settles, done, more, some_far, round, round_labels, kept, long, form_size}
use Rattle.tb_asm.specs.Marks.{forms_of, marks_from}
use Rattle.tb_asm.proofs.Rounds.{forms_widen, forms_far, no_marks, shorts, fewer}
use Rattle.tb_assembly_settling.specs.Settled.{IsFormOf, AreFormsOf}
use Rattle.tb_assembly_settling.proofs.Forms.{forms_size, is_branch}

-- rounds end: each marks one more item
rounds_from : (at : ℕ) (es : List Entry) (n : ℕ) (bs : List Bool) → shorts bs ≤ n → (forms : List Form) × Settles at (forms_of es bs) forms
rounds_from at es zero bs few = by (some_far at (forms_of es bs)) refl
  where
    by : (far : Bool) → some_far at (forms_of es bs) ≡ far → (forms : List Form) × Settles at (forms_of es bs) forms
    by false near = (forms_of es bs, done (forms_of es bs) near)
    by true far = let a = fewer (round_labels at (forms_of es bs)) at es bs (sym (forms_far (round_labels at (forms_of es bs)) at es bs) ∙ far) in absurd (omega (arith, a, few))
rounds_from at es (suc n) bs few = by (some_far at (forms_of es bs)) refl (λ l. rounds_from at es n (marks_from (round_labels at (forms_of es bs)) at es bs) l)
  where
    by : (far : Bool) → some_far at (forms_of es bs) ≡ far
        → (shorts (marks_from (round_labels at (forms_of es bs)) at es bs) ≤ n → (forms : List Form) × Settles at (forms_of es (marks_from (round_labels at (forms_of es bs)) at es bs)) forms)
        → (forms : List Form) × Settles at (forms_of es bs) forms
    by false near later = (forms_of es bs, done (forms_of es bs) near)
    by true far later =
        let labels = round_labels at (forms_of es bs) in
        let a = fewer labels at es bs (sym (forms_far labels at es bs) ∙ far) in
        let rest = later (omega (arith, a, few)) in
        (rest.0, more (forms_of es bs) rest.0 far (subst (λ fs. Settles at fs rest.0) (sym (forms_widen labels at es bs)) rest.1))

-- settling ends with some forms
pub rounds_end : (at : ℕ) (es : List Entry) → (forms : List Form) × Settles at (map kept es) forms
rounds_end at es =
    let none = replicate (length es) false in
    subst (λ fs. (forms : List Form) × Settles at fs forms) (no_marks es) (rounds_from at es (shorts none) none (omega arith))

-- and it ends in one way
pub one_way : (at : ℕ) (fs gs hs : List Form) → Settles at fs gs → Settles at fs hs → gs ≡ hs
one_way at fs gs hs (done _ near) (done _ near') = refl
one_way at fs gs hs (done _ near) (more _ _ far rest) = absurd (true≢false (sym far ∙ near))
one_way at fs gs hs (more _ _ far rest) (done _ near) = absurd (true≢false (sym far ∙ near))
one_way at fs gs hs (more _ _ far rest) (more _ _ far' rest') = one_way at (round at fs) gs hs rest rest'

-- ---- sizes
item_least : (e : Entry) (f : Form) → IsFormOf e f → size_of e ≤ form_size f
item_least e (kept k) h = let same : size_of k ≡ size_of e = ap size_of h in omega (arith, same)
item_least e (long n l) h = let two : size_of e ≡ 2 = ap size_of (is_branch e n l h) in omega (arith, two)

-- forms of items are at least as long as the items
pub forms_least : (es : List Entry) (fs : List Form) → AreFormsOf es fs → size es ≤ forms_size fs
forms_least [] [] h = omega arith
forms_least [] (f ∷ fs) h = absurd h
forms_least (e ∷ es) [] h = absurd h
forms_least (e ∷ es) (f ∷ fs) h = let a = item_least e f h.0 in let b = forms_least es fs h.1 in omega (arith, a, b)
