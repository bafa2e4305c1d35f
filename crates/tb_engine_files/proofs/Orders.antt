-- Deeds that go on, or break off.
use Rattle.std.proofs.Common.{◌≡◌, inl, inr, ℕ, zero, suc, List, [], ◌∷◌, ◌++◌, map, take, drop, length, ◌-◌, ◌<◌, ◌≤◌, get_or, refl, subst, sym, ap, arith, Bor, Vec, Option, Result, Ok, Err, IfErr, OnOk}
use Rattle.std.proofs.lemmas.List.{take_all}
use Rattle.std.specs.declared.alloc.Global.{Global}
use Rattle.tb_engine_streams.specs.Outcomes.{Failure, ended_by}
use Rattle.tb_engine_streams.specs.declared.outcome.Outcome.{Outcome}
use Rattle.tb_engine_streams.specs.declared.outcome.Outcome.TheVariants.{Ended, Refused, ReadFault, WriteFault, NoMemory}
use Rattle.tb_engine_files.specs.Deeds.{BreaksOff, Deed, Did, FailsToRead, Holds, IsNoFault, Makes, MakesNothing, Product, ReadsAll, ReadsSome, Saves, TakesAll, Transfers, all_read, read_with, saved}
use Rattle.tb_engine_files.specs.declared.system.Trouble.{Trouble}

-- a maker that makes nothing answers no fault
pub no_fault : {E R : Type 0} (makes : Product E R → Type 0) (failure : Failure R) → Makes makes (Err failure) → IsNoFault failure
no_fault makes (Ended never) made = tt
no_fault makes (Refused e) made = tt
no_fault makes ReadFault none = none
no_fault makes WriteFault none = none
no_fault makes NoMemory made = tt

-- the first one of a list, and all others
pub first_of : {A : Type 0} (xs : List A) (d : A) → 1 ≤ length xs → xs ≡ get_or xs 0 d ∷ take (length xs - 1) (drop 1 xs)
first_of [] d some = absurd (omega (arith, some))
first_of (x ∷ xs) d some = ap (λ ys. x ∷ ys) (sym (take_all (length (x ∷ xs) - 1) xs (omega arith)))

module _ {F : Type 0} (does : F → Deed → F → Type 0) where
  -- deeds were done, and then others
  pub did_then : (f h g : F) (ds es : List Deed) → Did does f ds h → Did does h es g → Did does f (ds ++ es) g
  did_then f h g [] es same did = subst (λ x. Did does x es g) same did
  did_then f h g (d ∷ ds) es (m, first, others) did = (m, first, did_then m h g ds es others did)

  -- deeds were done, and then others broke off
  pub breaks_then : (why : Trouble) (f h g : F) (ds es : List Deed) → Did does f ds h → BreaksOff does why h es g → BreaksOff does why f (ds ++ es) g
  breaks_then why f h g [] es same breaks = subst (λ x. BreaksOff does why x es g) same breaks
  breaks_then why f h g (d ∷ ds) es (m, first, others) breaks = inr (m, first, breaks_then why m h g ds es others breaks)

  -- deeds broke off before others were done
  pub breaks_front : (why : Trouble) (f g : F) (ds es : List Deed) → BreaksOff does why f ds g → BreaksOff does why f (ds ++ es) g
  breaks_front why f g [] es none = absurd none
  breaks_front why f g (d ∷ ds) es (inl here) = inl here
  breaks_front why f g (d ∷ ds) es (inr (m, first, breaks)) = inr (m, first, breaks_front why m g ds es breaks)

  -- the first file was written, and then some others
  pub saved_more : {X : Type 0} (r : Result X Trouble) (f h g : F) (p : Bor (List ℕ)) (ps all : List (Bor (List ℕ))) (t : Vec ℕ Global) (ts each : List (Vec ℕ Global))
      → all ≡ p ∷ ps → each ≡ t ∷ ts → does f (Saves p.now t.items (Ok tt)) h
      → IfErr r (λ why. BreaksOff does why h (saved (map (λ p. p.now) ps) (map (λ t. t.items) ts)) g)
      → IfErr r (λ why. BreaksOff does why f (saved (map (λ p. p.now) all) (map (λ t. t.items) each)) g)
  saved_more (Ok u) f h g p ps all t ts each is are first breaks = tt
  saved_more (Err why) f h g p ps all t ts each is are first breaks =
      subst (λ all. BreaksOff does why f (saved (map (λ p. p.now) all) (map (λ t. t.items) each)) g) (sym is)
      (subst (λ each. BreaksOff does why f (saved (map (λ p. p.now) (p ∷ ps)) (map (λ t. t.items) each)) g) (sym are) (inr (h, first, breaks)))

  module _ (holds : F → List ℕ → Option (List ℕ) → Type 0) where
    -- one file was read whole, and not taken in
    pub one_untaken : {X R : Type 0} (r : Result X (Failure R)) (f g : F) (p : List ℕ) → Did does f (read_with 0 p) g → IfErr r IsNoFault
        → IfErr r (λ why. MakesNothing does holds f (p ∷ []) why g)
    one_untaken (Ok x) f g p did none = tt
    one_untaken (Err (Ended never)) f g p did none = elim never [ ]
    one_untaken (Err (Refused e)) f g p did none = (1, did)
    one_untaken (Err ReadFault) f g p did none = absurd none
    one_untaken (Err WriteFault) f g p did none = absurd none
    one_untaken (Err NoMemory) f g p did none = inl (1, did)

    -- what was read of one file was read of some first ones
    some_front : (f g : F) (p : List ℕ) (ps : List (List ℕ)) → ReadsSome does f (p ∷ []) g → ReadsSome does f (p ∷ ps) g
    some_front f g p ps (zero, did) = (0, did)
    some_front f g p ps (suc n, did) = (1, subst (λ qs. Did does f (all_read (p ∷ qs)) g) (take_all n [] (omega arith)) did)

    -- the first file was read or not, and no other
    pub stopped_first : {R : Type 0} (why : Failure R) (f g : F) (p : List ℕ) (ps : List (List ℕ))
        → MakesNothing does holds f (p ∷ []) why g → MakesNothing does holds f (p ∷ ps) why g
    stopped_first (Ended never) f g p ps none = none
    stopped_first (Refused e) f g p ps some = some_front f g p ps some
    stopped_first ReadFault f g p ps (inl fails) = inl fails
    stopped_first ReadFault f g p ps (inr (h, did, none)) = absurd none
    stopped_first WriteFault f g p ps none = none
    stopped_first NoMemory f g p ps (inl some) = inl (some_front f g p ps some)
    stopped_first NoMemory f g p ps (inr breaks) = inr (breaks_front _ f g (read_with 0 p) (all_read ps) breaks)

    -- so the first of all files was
    pub stopped_at : {X R : Type 0} (r : Result X (Failure R)) (why : Failure R) (f g : F) (p : Bor (List ℕ)) (ps all : List (Bor (List ℕ)))
        → r ≡ Err why → all ≡ p ∷ ps → MakesNothing does holds f (p.now ∷ []) why g
        → IfErr r (λ why. MakesNothing does holds f (map (λ p. p.now) all) why g)
    stopped_at r why f g p ps all failed is stops =
        subst (λ r. IfErr r (λ why. MakesNothing does holds f (map (λ p. p.now) all) why g)) (sym failed)
        (subst (λ all. MakesNothing does holds f (map (λ p. p.now) all) why g) (sym is) (stopped_first why f g p.now (map (λ p. p.now) ps) stops))

    -- the first file was read, and then some others
    pub stopped_more : {X R : Type 0} (r : Result X (Failure R)) (f h g : F) (p : Bor (List ℕ)) (ps all : List (Bor (List ℕ))) → all ≡ p ∷ ps
        → Did does f (read_with 0 p.now) h → IfErr r (λ why. MakesNothing does holds h (map (λ p. p.now) ps) why g)
        → IfErr r (λ why. MakesNothing does holds f (map (λ p. p.now) all) why g)
    stopped_more (Ok x) f h g p ps all is first stops = tt
    stopped_more (Err (Ended never)) f h g p ps all is first stops = stops
    stopped_more (Err (Refused e)) f h g p ps all is first (n, others) =
        subst (λ all. ReadsSome does f (map (λ p. p.now) all) g) (sym is) (suc n, did_then f h g (read_with 0 p.now) _ first others)
    stopped_more (Err ReadFault) f h g p ps all is first fails =
        subst (λ all. FailsToRead does holds f (map (λ p. p.now) all) g) (sym is) (inr (h, first, fails))
    stopped_more (Err WriteFault) f h g p ps all is first stops = stops
    stopped_more {R = R} (Err NoMemory) f h g p ps all is first (inl (n, others)) =
        subst (λ all. MakesNothing {E = R} {R = R} does holds f (map (λ p. p.now) all) NoMemory g) (sym is)
        (inl (suc n, did_then f h g (read_with 0 p.now) _ first others))
    stopped_more {R = R} (Err NoMemory) f h g p ps all is first (inr breaks) =
        subst (λ all. MakesNothing {E = R} {R = R} does holds f (map (λ p. p.now) all) NoMemory g) (sym is)
        (inr (breaks_then _ f h g (read_with 0 p.now) _ first breaks))

    -- there is nothing to take in
    pub none_taken : {W : Type 0} (takes : W → List ℕ → List ℕ → W → Type 0) (f : F) (w : W) (ps : List (Bor (List ℕ))) → length ps < 1
        → (each : List (List ℕ)) × ReadsAll does holds f (map (λ p. p.now) ps) each f × TakesAll takes w (map (λ p. p.now) ps) each w
    none_taken takes f w [] few = ([], refl, refl)
    none_taken takes f w (p ∷ ps) few = absurd (omega (arith, few))

    -- one input was read and taken in, and then all others
    pub taken_more : {W X E : Type 0} (takes : W → List ℕ → List ℕ → W → Type 0) (r : Result X E) (f h g : F) (w u v : W)
        (p : Bor (List ℕ)) (ps all : List (Bor (List ℕ))) → all ≡ p ∷ ps
        → ((bytes : List ℕ) × Holds holds f p.now bytes × Did does f (read_with 0 p.now) h × takes w p.now bytes u)
        → OnOk r ((each : List (List ℕ)) × ReadsAll does holds h (map (λ p. p.now) ps) each g × TakesAll takes u (map (λ p. p.now) ps) each v)
        → OnOk r ((each : List (List ℕ)) × ReadsAll does holds f (map (λ p. p.now) all) each g × TakesAll takes w (map (λ p. p.now) all) each v)
    taken_more takes (Ok x) f h g w u v p ps all is (bytes, had, did, taken) (each, read, others) =
        subst (λ all. (each : List (List ℕ)) × ReadsAll does holds f (map (λ p. p.now) all) each g × TakesAll takes w (map (λ p. p.now) all) each v) (sym is)
        (bytes ∷ each, (had, h, did, read), (u, taken, others))
    taken_more takes (Err e) f h g w u v p ps all is taken others = tt

    -- files that were read whole were opened and closed in their order
    read_in_order : (f g : F) (ps all : List (List ℕ)) → ReadsAll does holds f ps all g → Did does f (all_read ps) g
    read_in_order f g [] [] same = same
    read_in_order f g [] (bytes ∷ all) none = absurd none
    read_in_order f g (p ∷ ps) [] none = absurd none
    read_in_order f g (p ∷ ps) (bytes ∷ all) (had, h, did, others) =
        did_then f h g (read_with 0 p) (all_read ps) did (read_in_order h g ps all others)

    -- all files are some first ones
    pub some_read : (f g : F) (ps all : List (List ℕ)) → ReadsAll does holds f ps all g → ReadsSome does f ps g
    some_read f g ps all read =
        (length ps, subst (λ qs. Did does f (all_read qs) g) (sym (take_all (length ps) ps (omega arith))) (read_in_order f g ps all read))

    module _ {E R : Type 0} (makes : E → List (List ℕ) → List (List ℕ) → Type 0) (f : F) (inputs outputs : List (List ℕ)) where
      -- nothing was made of inputs that were read
      pub nothing_made : (failure : Failure R) (ended : Outcome E R) → ended ≡ ended_by (Err failure) → IsNoFault failure → (g : F)
          → ReadsSome does f inputs g → Transfers does holds makes f inputs outputs ended g
      nothing_made (Ended never) ended is fair g some = elim never [ ]
      nothing_made (Refused e) ended is fair g some = subst (λ o. Transfers does holds makes f inputs outputs o g) (sym is) (inl some)
      nothing_made ReadFault ended is fair g some = absurd fair
      nothing_made WriteFault ended is fair g some = absurd fair
      nothing_made NoMemory ended is fair g some = subst (λ o. Transfers does holds makes f inputs outputs o g) (sym is) (inl (inl some))

      -- nothing was made of inputs of which some were not read
      pub nothing_taken : (failure : Failure R) (ended : Outcome E R) → ended ≡ ended_by (Err failure) → (g : F)
          → MakesNothing does holds f inputs failure g → Transfers does holds makes f inputs outputs ended g
      nothing_taken (Ended never) ended is g stops = elim never [ ]
      nothing_taken (Refused e) ended is g stops = subst (λ o. Transfers does holds makes f inputs outputs o g) (sym is) (inl stops)
      nothing_taken ReadFault ended is g stops = subst (λ o. Transfers does holds makes f inputs outputs o g) (sym is) (inl stops)
      nothing_taken WriteFault ended is g none = absurd none
      nothing_taken NoMemory ended is g stops = subst (λ o. Transfers does holds makes f inputs outputs o g) (sym is) (inl stops)

-- files were read, and nothing was taken in or made
pub ruleset orders = (one_untaken, nothing_taken)
