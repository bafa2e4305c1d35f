-- What a group omits is dead after it, and the groups after one are those of the rest.
use Rattle.std.proofs.Common.{◌≡◌, Bool, true, false, List, [], ◌∷◌, refl, sym, ap, ◌∙◌, arith, Option, Some, None}
use Rattle.std.specs.Prelude.{◌&&◌, nat_le, not}
use Rattle.std.proofs.lemmas.Bool.{and_parts, leb-true}
use Rattle.tb_lower.specs.Slots.{Instr, Put}
use Rattle.tb_compiler_selection.specs.declared.liveness.Live.{Live}
use Rattle.tb_compiler_selection.specs.Groups.{Group, expand_all}
use Rattle.tb_compiler_selection.specs.Liveness.{live, nothing_live}
use Rattle.tb_compiler_selection.specs.Select.{allowed, alone, attach, four_as_one, fused, instead, may_stand, merged, omits_only_dead, provided, select, three_as_one, tried}
use Rattle.tb_compiler_selection.specs.Laws.{AreChosen}
use Rattle.tb_compiler_selection.proofs.Bracketed.{brackets}

-- an instruction alone omits nothing
pub alone_free : (i : Instr) (r : Live) → omits_only_dead (alone i) r ≡ true
alone_free (Put k w) r = refl
alone_free _ r = refl

-- and it may be before any groups
alone_stands : (i : Instr) (gs : List Group) → may_stand (alone i) gs ≡ true
alone_stands (Put k w) gs = refl
alone_stands _ gs = refl

-- one group in place of some
instead_chosen : (o : Option Group) (gs others : List Group) → select (expand_all gs) ≡ gs → AreChosen gs → AreChosen others → AreChosen (instead (allowed o gs) gs others)
instead_chosen None gs others again h k = k
instead_chosen (Some m) gs others again h k = by (omits_only_dead m (live (expand_all gs)) && may_stand m gs) refl
  where
    by : (t : Bool) → (omits_only_dead m (live (expand_all gs)) && may_stand m gs) ≡ t → AreChosen (instead (provided t m) gs others)
    by true e = let p = and_parts (omits_only_dead m (live (expand_all gs))) (may_stand m gs) e in (p.0, again, p.1, h)
    by false e = k

fused_chosen : (a : Group) (gs : List Group) → AreChosen (a ∷ gs) → AreChosen (fused a gs)
fused_chosen a [] h = h
fused_chosen a (b ∷ []) h = h
fused_chosen a (b ∷ c ∷ []) h = instead_chosen (three_as_one a b c) [] (a ∷ b ∷ c ∷ []) refl tt h
fused_chosen a (b ∷ c ∷ e ∷ gs) h =
    let last = h.3.3.3 in
    instead_chosen (three_as_one a b c) (e ∷ gs) _ h.3.3.1 last (instead_chosen (four_as_one a b c e) gs (a ∷ b ∷ c ∷ e ∷ gs) last.1 last.3 h)

-- if no slot is read and the held word is not, nothing is live
pub nothing_read : (r : Live) → (nat_le r.slots 0 && not r.held) ≡ true → nothing_live ≡ r
nothing_read r h =
    let p = and_parts (nat_le r.slots 0) (not r.held) h in
    let none : 0 ≡ r.slots = omega (arith, leb-true r.slots 0 p.0) in
    ap (λ k. record { slots = k; held = false }) none ∙ ap (λ t. record { slots = r.slots; held = t }) (is_false r.held p.1)
  where
    is_false : (t : Bool) → not t ≡ true → false ≡ t
    is_false true e = e
    is_false false e = refl

attach_chosen : (i : Instr) (is : List Instr) (gs : List Group) → select is ≡ gs → AreChosen gs → AreChosen (attach i gs)
attach_chosen i is [] e h = (alone_free i _, refl, alone_stands i [], tt)
attach_chosen i is (g ∷ gs) e h = by (merged i g)
  where
    again : select (expand_all (g ∷ gs)) ≡ g ∷ gs
    again = ap (λ l. select (expand_all l)) (sym e) ∙ ap select (brackets is) ∙ e

    single : AreChosen (fused (alone i) (g ∷ gs))
    single = fused_chosen (alone i) (g ∷ gs) (alone_free i _, again, alone_stands i (g ∷ gs), h)

    by_free : (m : Group) (t : Bool) → (omits_only_dead m (live (expand_all gs)) && may_stand m gs) ≡ t → AreChosen (tried (provided t m) i g gs)
    by_free m true q = let p = and_parts (omits_only_dead m (live (expand_all gs))) (may_stand m gs) q in fused_chosen m gs (p.0, h.1, p.1, h.3)
    by_free m false q = single

    by : (o : Option Group) → AreChosen (tried (allowed o gs) i g gs)
    by None = single
    by (Some m) = by_free m (omits_only_dead m (live (expand_all gs)) && may_stand m gs) refl

-- the groups of every list are chosen
pub chosen : (is : List Instr) → AreChosen (select is)
chosen [] = tt
chosen (i ∷ is) = attach_chosen i is (select is) refl (chosen is)
