-- Groups as they are found, from the end of a list backwards.
use Rattle.std.proofs.Common.{◌≡◌, List, [], ◌∷◌, ◌++◌, refl, sym, ap, ◌∙◌, map, length, reverse, take, append_assoc, Option, Some, subst}
use Rattle.std.proofs.lemmas.List.{map-append, reverse-append, take_at}
use Rattle.tb_lower.specs.Slots.{Instr}
use Rattle.tb_compiler_selection.specs.declared.liveness.Live.{Live}
use Rattle.tb_compiler_selection.specs.Groups.{Group, expand_all}
use Rattle.tb_compiler_selection.specs.Liveness.{live, live_before}
use Rattle.tb_compiler_selection.specs.Laws.{AreLive, Shortens}
use Rattle.tb_compiler_selection.specs.Select.{allowed, attach, four_as_one, fused, instead, select, three_as_one}
use Rattle.tb_compiler_selection.specs.declared.selecting.Placed.{Placed}
use Rattle.tb_compiler_selection.specs.PlainData.{group_of, groups_in, in_order, placed_of}
use Rattle.tb_compiler_selection.proofs.Bracketed.{attach_is}

-- further instructions before groups
abbrev pub onto : List Instr → List Group → List Group
onto [] gs = gs
onto (i ∷ is) gs = attach i (onto is gs)

onto_last : (is : List Instr) (i : Instr) (gs : List Group) → onto (is ++ i ∷ []) gs ≡ onto is (attach i gs)
onto_last [] i gs = refl
onto_last (j ∷ is) i gs = ap (attach j) (onto_last is i gs)

-- a whole list before no groups is the selection
pub onto_none : (is : List Instr) → onto is [] ≡ select is
onto_none [] = refl
onto_none (i ∷ is) = ap (attach i) (onto_none is)

live_attached : (i : Instr) (gs : List Group) → live (expand_all (attach i gs)) ≡ live_before i (live (expand_all gs))
live_attached i gs = ap live (attach_is i gs)

-- the map of a list with a last element
pub map_last : {A B : Type 0} → (f : A → B) (xs front : List A) (x : A) → xs ≡ front ++ x ∷ [] → map f xs ≡ map f front ++ f x ∷ []
map_last f xs front x e = ap (map f) e ∙ map-append f front (x ∷ [])

-- one turn of the selection: the last instruction of the front is attached
pub stepped : (is front : List Instr) (i : Instr) (gs gs' : List Group) (l : List Group) → is ≡ front ++ i ∷ [] → gs' ≡ attach i gs → onto is gs ≡ l → onto front gs' ≡ l
stepped is front i gs gs' l e q h = ap (onto front) q ∙ sym (onto_last front i gs) ∙ ap (λ is. onto is gs) (sym e) ∙ h

-- what is live before an instruction, once it is attached
pub attached_live : (i : Instr) (gs gs' : List Group) (all r : Live) → all ≡ live (expand_all gs) → r ≡ live_before i all → gs' ≡ attach i gs → r ≡ live (expand_all gs')
attached_live i gs gs' all r e q a = q ∙ ap (live_before i) e ∙ sym (live_attached i gs) ∙ ap (λ l. live (expand_all l)) (sym a)

-- ── groups with the last one first ──
-- the one pushed last is the first
pub one_more : (ps qs : List Placed) (p : Placed) → qs ≡ ps ++ p ∷ [] → in_order qs ≡ placed_of p ∷ in_order ps
one_more ps qs p e = ap in_order e ∙ ap reverse (map-append placed_of ps (p ∷ [])) ∙ reverse-append (map placed_of ps) (placed_of p ∷ [])

-- those before the last ones
pub front_is : (ps qs back : List Placed) → qs ≡ ps ++ back → take (length ps) qs ≡ ps
front_is ps qs back e = ap (take (length ps)) e ∙ take_at ps back (length ps) refl

-- ── a group and the first of those after it ──
abbrev pub group_in : Placed → Group
group_in p = group_of p.group

-- what follows a group, and what becomes of both
fused_one : (a m : Group) (b c : Group) (gs : List Group) → allowed (three_as_one a b c) gs ≡ Some m → fused a (b ∷ c ∷ gs) ≡ m ∷ gs
fused_one a m b c [] q = ap (λ o. instead o [] (a ∷ b ∷ c ∷ [])) q
fused_one a m b c (e ∷ gs) q = ap (λ o. instead o (e ∷ gs) (instead (allowed (four_as_one a b c e) gs) gs (a ∷ b ∷ c ∷ e ∷ gs))) q

module _ (a : Group) (groups : List Placed) where
  abbrev gs : List Group
  gs = groups_in (in_order groups)

  module _ (some : List Placed) (second : Placed) (is : groups ≡ some ++ second ∷ []) where
    abbrev b : Group
    b = group_in second

    by_second : in_order groups ≡ placed_of second ∷ in_order some
    by_second = one_more some groups second is

    module _ (rest : List Placed) (third : Placed) (some_is : some ≡ rest ++ third ∷ []) where
      abbrev c : Group
      c = group_in third

      by_third : in_order groups ≡ placed_of second ∷ placed_of third ∷ in_order rest
      by_third = by_second ∙ ap (λ l. placed_of second ∷ l) (one_more rest some third some_is)

      -- what is live after the third group is known from all of them
      pub live_behind : AreLive (in_order groups) → AreLive (placed_of third ∷ in_order rest)
      live_behind h = (subst AreLive by_third h).1

      kept : take (length rest) groups ≡ rest
      kept = front_is rest groups (third ∷ second ∷ []) (is ∙ ap (λ l. l ++ second ∷ []) some_is ∙ append_assoc rest (third ∷ []) (second ∷ []))

      -- one group for the first three
      pub three_joined : (whole : Placed) (o : Option Group) → AreLive (in_order groups) → o ≡ three_as_one a b c
          → ◌≡◌ {A = Option Group} (Some (group_in whole)) (allowed o (groups_in (in_order rest))) → whole.behind ≡ third.behind
          → Shortens a groups (take (length rest) groups) whole
      three_joined whole o h q found same = record {
        fuses = ap (λ l. fused a (groups_in l)) by_third ∙ fused_one a (group_in whole) b c (groups_in (in_order rest))
            (ap (λ o. allowed o (groups_in (in_order rest))) (sym q) ∙ sym found) ∙ ap (λ ps. group_in whole ∷ groups_in (in_order ps)) (sym kept);
        live = subst (λ ps. AreLive (placed_of whole ∷ in_order ps)) (sym kept) (same ∙ (live_behind h).0, (live_behind h).1);
      }
