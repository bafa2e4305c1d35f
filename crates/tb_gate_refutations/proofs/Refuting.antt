-- What shows that an image doesn't keep its program: one start, one list of events, and computed tests.
use Rattle.std.proofs.Common.{◌≡◌, ℕ, zero, suc, ◌+◌, ◌≤◌, ◌<◌, Bool, true, false, ◌&&◌, ◌||◌, Option, Some, None, List, [], ◌∷◌, ◌++◌, refl, sym, ap, ◌∙◌, subst, ⊎_elim, arith, eqb}
use Rattle.std.specs.Prelude.{not, nat_lt}
use Rattle.std.proofs.lemmas.Bool.{and_parts, eq-eqb, false≢true}
use Rattle.std.proofs.lemmas.Bool.Decides.{nat_tests}
use Rattle.tb_memmap.specs.Regions.{BASIC_START}
use Rattle.tb_cpu.specs.declared.wrong.Wrong.{Wrong}
use Rattle.tb_kernal.specs.declared.events.Event.{Event}
use Rattle.tb_kernal.specs.declared.events.Event.TheVariants.{Go}
use Rattle.tb_kernal.specs.declared.status.Status.TheVariants.{Running, Returned, Wrong as WentWrong}
use Rattle.tb_kernal.specs.Machine.{State, status, is_stopped, happens, is_lawful, is_lawful_go}
use Rattle.tb_kernal.specs.Rom.{service_at}
use Rattle.tb_kernal.specs.declared.rom.Service.{Service}
use Rattle.tb_kernal.specs.Runs.{run, all_lawful, goes}
use Rattle.tb_kernal.proofs.EventLists.{run_append, goes_append}
use Rattle.tb_basic_syntax.specs.Source.{Program, numbers}
use Rattle.tb_words.specs.Prefixes.{IsPrefix}
use Rattle.tb_basic_meaning.specs.Steps.{End, Step, Run, GoesOn, Over, advance, advance_by, sent_by}
use Rattle.tb_basic_meaning.specs.Control as control
use Rattle.tb_basic_meaning.specs.Meaning.{line, start, source_run}
use Rattle.tb_compiled_kept.specs.Keeps.{IsSound, Keeps, HasDone}
use Rattle.tb_gate_refutations.proofs.Plain.{Setting, started, starts, fit, clearing}

-- ---- tests of runs of the source

-- whether the first text is a prefix of the second
abbrev pub begins : List ℕ → List ℕ → Bool
begins [] ys = true
begins (x ∷ xs) [] = false
begins (x ∷ xs) (y ∷ ys) = eqb x y && begins xs ys

-- whether the run is over, with what was sent
abbrev pub is_over_with : List ℕ → Run control.State → Bool
is_over_with out (GoesOn s o) = false
is_over_with out (Over e o) = begins out o && begins o out

and_both : (a b : Bool) → a ≡ true → b ≡ true → (a && b) ≡ true
and_both a b h k = ap (λ t. t && b) h ∙ k

begins_itself : (xs zs : List ℕ) → begins xs (xs ++ zs) ≡ true
begins_itself [] zs = refl
begins_itself (x ∷ xs) zs = and_both (eqb x x) _ (eq-eqb x x refl) (begins_itself xs zs)

begins_prefix : (xs ys : List ℕ) → IsPrefix xs ys → begins xs ys ≡ true
begins_prefix xs ys p = subst (λ l. begins xs l ≡ true) p.1 (begins_itself xs p.0)

same_both : (xs : List ℕ) → begins xs xs && begins xs xs ≡ true
same_both [] = refl
same_both (x ∷ xs) =
    let h : begins (x ∷ xs) (x ∷ xs) ≡ true = and_both (eqb x x) _ (eq-eqb x x refl) (and_parts _ _ (same_both xs)).0 in
    and_both (begins (x ∷ xs) (x ∷ xs)) _ h h

-- a run that is over stays so
over : {S : Type 0} → (step : S → Step S) (m : ℕ) (e : End) (out : List ℕ) → advance_by step m (Over e out) ≡ Over e out
over step zero e out = refl
over step (suc m) e out = over step m e out

-- a test that is not true is false
pub not_true : (b : Bool) → not b ≡ true → b ≡ false
not_true true h = sym h
not_true false h = refl

-- whether a run is over after n more steps, and a test fails for it now and after each of them
abbrev pub fails : {S : Type 0} → (Run S → Bool) → (S → Step S) → ℕ → Run S → Bool
fails test step zero (GoesOn s out) = false
fails test step zero (Over e out) = not (test (Over e out))
fails test step (suc n) r = not (test r) && fails test step n (advance step r)

-- such a test fails after any number of steps
pub fails_ever : {S : Type 0} → (test : Run S → Bool) (step : S → Step S) (n m : ℕ) (r : Run S) → fails test step n r ≡ true → test (advance_by step m r) ≡ false
fails_ever test step zero m (GoesOn s out) h = absurd (false≢true h)
fails_ever test step zero m (Over e out) h = ap test (over step m e out) ∙ not_true _ h
fails_ever test step (suc n) zero r h = not_true _ (and_parts (not (test r)) _ h).0
fails_ever test step (suc n) (suc m) r h = fails_ever test step n m (advance step r) (and_parts (not (test r)) _ h).1

-- ---- this many Go events
abbrev pub gos : ℕ → List Event
gos zero = []
gos (suc n) = Go clearing ∷ gos n

-- and so many times that many
abbrev rounds : ℕ → ℕ → List Event
rounds p zero = []
rounds p (suc n) = gos p ++ rounds p n

-- so many they are
pub goes_gos : (n : ℕ) → goes (gos n) ≡ n
goes_gos zero = refl
goes_gos (suc n) = let e = goes_gos n in omega arith

or_true : (a b : Bool) → b ≡ true → (a || b) ≡ true
or_true true b h = refl
or_true false b h = h

go_lawful : (service : Option Service) (s : ℕ) → is_lawful_go service s [] ≡ true
go_lawful None s = refl
go_lawful (Some service) s = refl

-- they write nothing, so they are lawful
pub gos_lawful : (n : ℕ) (s : State) → all_lawful (gos n) s ≡ true
gos_lawful zero s = refl
gos_lawful (suc n) s =
    and_both (is_lawful s (Go clearing)) _ (or_true (is_stopped (status s)) _ (go_lawful (service_at s.regs.pc) s.regs.s)) (gos_lawful n (happens s (Go clearing)))

goes_rounds : (p n : ℕ) → n ≤ goes (rounds (suc p) n)
goes_rounds p zero = omega arith
goes_rounds p (suc n) =
    let more = goes_rounds p n in
    omega (arith, goes_append (gos (suc p)) (rounds (suc p) n), goes_gos (suc p), more)

runs_round : (p n : ℕ) (t : State) → run (gos p) t ≡ t → run (rounds p n) t ≡ t
runs_round p zero t e = refl
runs_round p (suc n) t e = run_append (gos p) (rounds p n) t ∙ ap (run (rounds p n)) e ∙ runs_round p n t e

lawful_append : (es fs : List Event) (s : State) → all_lawful es s ≡ true → all_lawful fs (run es s) ≡ true → all_lawful (es ++ fs) s ≡ true
lawful_append [] fs s h k = k
lawful_append (e ∷ es) fs s h k =
    let p = and_parts (is_lawful s e) _ h in
    and_both (is_lawful s e) _ p.0 (lawful_append es fs (happens s e) p.1 k)

lawful_rounds : (p n : ℕ) (t : State) → run (gos p) t ≡ t → all_lawful (rounds p n) t ≡ true
lawful_rounds p zero t e = refl
lawful_rounds p (suc n) t e = lawful_append (gos p) (rounds p n) t (gos_lawful p t) (ap (all_lawful (rounds p n)) e ∙ lawful_rounds p n t e)

-- ---- the refutations
module _ (bytes : List ℕ) (program : Program) (seed : ℕ) (k : Setting) (h : fit bytes k ≡ true) (es : List Event)
    (l : all_lawful es (started bytes k) ≡ true) where
  abbrev s : State
  s = started bytes k

  -- what the source does in m lines
  abbrev does : ℕ → Run control.State
  does m = source_run program seed k.text k.answers m

  -- whether a test fails for each run of the source, which is over after n lines
  abbrev never : (Run control.State → Bool) → ℕ → Bool
  never test n = fails test (line program) n (GoesOn (start (numbers program) seed k.text k.answers) [])

  -- it sends what no number of lines sends
  pub sends_wrong : (out : List ℕ) → (run es s).sent ≡ out → (n : ℕ) → never (λ r. begins out (sent_by r)) n ≡ true → Keeps BASIC_START bytes program seed → ⊥
  sends_wrong out e n fail keeps =
      let sound = keeps.sound s (starts bytes k h) es l in
      let p = subst (λ x. IsPrefix x (sent_by (does sound.lines))) e sound.prefix in
      false≢true (sym (fails_ever (λ r. begins out (sent_by r)) (line program) n sound.lines _ fail) ∙ begins_prefix out (sent_by (does sound.lines)) p)

  -- it returns, but the source, having sent that, never stops
  returns_never : (out : List ℕ) → status (run es s) ≡ Returned → (run es s).sent ≡ out → ((m : ℕ) → is_over_with out (does m) ≡ false)
      → Keeps BASIC_START bytes program seed → ⊥
  returns_never out b e fail keeps =
      let sound = keeps.sound s (starts bytes k h) es l in
      ⊎_elim
      (λ r. let n : Returned ≡ Running = sym b ∙ r in cc)
      (λ r. let over_so = r.1 ∙ ap (λ o. Over r.0 o) e in
      false≢true (sym (fail sound.lines) ∙ ap (is_over_with out) over_so ∙ same_both out))
      sound.stopped

  -- it returns, but the source, which is over after n lines, has sent something else
  pub returns_wrong : (out : List ℕ) → status (run es s) ≡ Returned → (run es s).sent ≡ out → (n : ℕ) → never (is_over_with out) n ≡ true
      → Keeps BASIC_START bytes program seed → ⊥
  returns_wrong out b e n fail = returns_never out b e (λ m. fails_ever (is_over_with out) (line program) n m _ fail)

-- ---- the refutations after n Go events
module _ (bytes : List ℕ) (program : Program) (seed : ℕ) (k : Setting) (h : fit bytes k ≡ true) (n : ℕ) where
  abbrev ran : State
  ran = run (gos n) (started bytes k)

  abbrev source : ℕ → Run control.State
  source m = source_run program seed k.text k.answers m

  abbrev fails_within : (Run control.State → Bool) → ℕ → Bool
  fails_within test m = fails test (line program) m (GoesOn (start (numbers program) seed k.text k.answers) [])

  -- it sends what no number of lines sends
  pub sends_after : (out : List ℕ) → ran.sent ≡ out → (m : ℕ) → fails_within (λ r. begins out (sent_by r)) m ≡ true → Keeps BASIC_START bytes program seed → ⊥
  sends_after = sends_wrong bytes program seed k h (gos n) (gos_lawful n (started bytes k))

  -- it returns, but the source, having sent that, never stops
  pub returns_after_never : (out : List ℕ) → status ran ≡ Returned → ran.sent ≡ out → ((m : ℕ) → is_over_with out (source m) ≡ false)
      → Keeps BASIC_START bytes program seed → ⊥
  returns_after_never = returns_never bytes program seed k h (gos n) (gos_lawful n (started bytes k))

  -- it returns, but the source, which is over after m lines, has sent something else
  pub returns_after : (out : List ℕ) → status ran ≡ Returned → ran.sent ≡ out → (m : ℕ) → fails_within (is_over_with out) m ≡ true
      → Keeps BASIC_START bytes program seed → ⊥
  returns_after = returns_wrong bytes program seed k h (gos n) (gos_lawful n (started bytes k))

  sound : Keeps BASIC_START bytes program seed → IsSound program seed (started bytes k) ran
  sound keeps = keeps.sound (started bytes k) (starts bytes k h) (gos n) (gos_lawful n (started bytes k))

  -- the processor refuses an instruction
  pub goes_wrong_after : (w : Wrong) → status ran ≡ WentWrong w → Keeps BASIC_START bytes program seed → ⊥
  goes_wrong_after w e keeps = (sound keeps).never_wrong w e

  -- S is more than 16 below the start's
  pub drifts_after : nat_lt (ran.regs.s + 16) 0xf0 ≡ true → Keeps BASIC_START bytes program seed → ⊥
  drifts_after low keeps =
      let near : 0xf0 ≤ ran.regs.s + 16 = (sound keeps).not_below in
      let far : ran.regs.s + 16 < 0xf0 = grind (arith, nat_tests, low) in
      omega (arith, near, far)

  -- it comes round every p + 1 Go events, but hasn't done what the source does in m lines
  pub circles_after : (p : ℕ) → run (gos (suc p)) ran ≡ ran → (m : ℕ) → (HasDone (source m) ran → ⊥) → Keeps BASIC_START bytes program seed → ⊥
  circles_after p same m never keeps =
      let s : State = started bytes k in
      let more = rounds (suc p) (keeps.pace k.text k.answers m) in
      let all = lawful_append (gos n) more s (gos_lawful n s) (lawful_rounds (suc p) (keeps.pace k.text k.answers m) ran same) in
      let many = goes_rounds p (keeps.pace k.text k.answers m) in
      let enough : keeps.pace k.text k.answers m ≤ goes (gos n ++ more) = omega (arith, goes_append (gos n) more, many) in
      let done = keeps.paced s (starts bytes k h) (gos n ++ more) all m enough in
      never (subst (HasDone (source m)) (run_append (gos n) more s ∙ runs_round (suc p) (keeps.pace k.text k.answers m) ran same) done)
