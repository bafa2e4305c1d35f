-- Two functions that say where lines begin, and agree on the program's own lines.
use Rattle.std.proofs.Common.{◌≡◌, ℕ, ◌+◌, true, ◌||◌, List, [], ◌∷◌, length, refl, sym, ap, ◌∙◌, subst}
use Rattle.std.specs.Prelude.{if◌then◌else◌, nat_eq}
use Rattle.std.proofs.lemmas.Bool.{eq-eqb}
use Rattle.std.proofs.Math.Bool.{or-true}
use Rattle.tb_kernal.specs.declared.events.Event.{Event}
use Rattle.tb_kernal.specs.declared.events.Event.TheVariants.{Go, Interrupt}
use Rattle.tb_kernal.specs.Machine as machine
use Rattle.tb_kernal.specs.Machine.{happens}
use Rattle.tb_kernal.specs.Runs.{run}
use Rattle.tb_basic_meaning.specs.Control.{At, Past, Place, has_line}
use Rattle.tb_basic_syntax.specs.Source.{Program, numbers}
use Rattle.tb_compiled_kept.specs.LineStarts.{is_start, begun, BeginsLine, HoldsReturns, MarksLines, StandsFor, return_at}

module _ (start other : ℕ → ℕ) where
  abbrev pub Agree : List ℕ → Type 0
  Agree ns = (n : ℕ) → has_line ns n ≡ true → start n ≡ other n

  same_is_start : (ns : List ℕ) → Agree ns → (a : ℕ) → is_start start ns a ≡ is_start other ns a
  same_is_start [] h a = refl
  same_is_start (n ∷ ns) h a =
      let first : start n ≡ other n = h n (ap (λ b. b || has_line ns n) (eq-eqb n n refl)) in
      let rest : is_start start ns a ≡ is_start other ns a = same_is_start ns (λ m e. h m (ap (λ b. nat_eq n m || b) e ∙ or-true (nat_eq n m))) a in
      λ i. nat_eq a (first i) || rest i

  same_begun : (ns : List ℕ) → Agree ns → (es : List Event) (s : machine.State) → begun start ns es s ≡ begun other ns es s
  same_begun ns h [] s = refl
  same_begun ns h (Go k ∷ es) s =
      let here = same_is_start ns h s.regs.pc in
      let rest = same_begun ns h es (happens s (Go k)) in
      λ i. (if here i then 1 else 0) + rest i
  same_begun ns h (Interrupt ws ∷ es) s = same_begun ns h es (happens s (Interrupt ws))

  -- the address of a place is the same by either
  stands_for : (ns : List ℕ) → Agree ns → (p : Place) (a : ℕ) → StandsFor start ns p a → StandsFor other ns p a
  stands_for ns h (At n) a there = (there.0, there.1 ∙ h n there.0)
  stands_for ns h Past a none = sym (same_is_start ns h a) ∙ none

  returns_held : (ns : List ℕ) → Agree ns → (m : ℕ → ℕ) (ps : List Place) → HoldsReturns start ns m ps → HoldsReturns other ns m ps
  returns_held ns h m [] held = tt
  returns_held ns h m (p ∷ ps) held = (stands_for ns h p (return_at m (length ps)) held.0, returns_held ns h m ps held.1)

  begins_so : (p : Program) (seed : ℕ) (s : machine.State) (m n : ℕ) (t : machine.State) → Agree (numbers p)
      → BeginsLine p seed start s m n t → BeginsLine p seed other s m n t
  begins_so p seed s m n t h b = record {
    state = b.state;
    done = b.done;
    place = b.place;
    vars = b.vars;
    depth = b.depth;
    few = b.few;
    returns = returns_held (numbers p) h t.mem b.state.returns b.returns;
  }

  -- the promise on line starts for one function gives that for the other
  pub told_so : (place : ℕ) (bytes : List ℕ) (p : Program) (seed : ℕ) → Agree (numbers p) → MarksLines place bytes p seed start → MarksLines place bytes p seed other
  told_so place bytes p seed h marks = record {
    begins = λ s b es l n has pc.
        subst (λ m. BeginsLine p seed other s m n (run es s)) (same_begun (numbers p) h es s)
        (begins_so p seed s _ n _ h (marks.begins s b es l n has (pc ∙ sym (h n has))));
    pace = marks.pace;
    comes = λ s b m state out n done at es l le.
        let c = marks.comes s b m state out n done at es l le in
        record {
          front = c.front;
          clobber = c.clobber;
          back = c.back;
          split = c.split;
          few = c.few;
          here = sym (same_is_start (numbers p) h (run c.front s).regs.pc) ∙ c.here;
          begun_before = sym (same_begun (numbers p) h c.front s) ∙ c.begun_before;
        };
  }
