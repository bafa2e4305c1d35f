-- From a routine's law to the form in which the code of the lines needs it.
use Rattle.std.proofs.Common.{◌≡◌, ℕ, suc, ◌+◌, ◌/◌, ◌%◌, ◌<◌, ◌≤◌, Bool, true, false, ◌||◌, List, [], ◌∷◌, ◌++◌}
use Rattle.std.proofs.Common.{length, refl, sym, ap, ◌∙◌, subst, ⊎_elim, arith, Some, None}
use Rattle.std.specs.Prelude.{if◌then◌else◌}
use Rattle.std.proofs.lemmas.Bool.{ne_eqb, eq-eqb, cases_eq}
use Rattle.tb_basic_meaning.specs.Control.{fault_text, has_line}
use Rattle.tb_compiled_kept.specs.Addresses.{HOME_S, LINE}
use Rattle.tb_runtime16.specs.Addresses.{FAULT_AT}
use Rattle.tb_machine_reaching.specs.View.{View, Setup, Holds, Fits, Comes, view}
use Rattle.tb_machine_reaching.specs.Start.{IsHome}
use Rattle.tb_machine_reaching.proofs.Comes.{known, looser}
use Rattle.tb_machine_reaching.proofs.Calls.{calling, framed, under, stacked_on}
use Rattle.tb_runtime16.specs.Block.{block_part}
use Rattle.tb_runtime16.specs.Laws.{WordAt, Leaves, Faults}
use Rattle.tb_runtime16.specs.Search.{address_of, numbers_in}
use Rattle.tb_runtime16.specs.Routines.{Entered, Here, WithA, WithLine, Moves, entries}
use Rattle.tb_runtime16.proofs.InMemory.{same_place}
use Rattle.tb_runtime16.proofs.FaultRuns.{fault_law}

-- ---- views
pub from_here : (f : Setup) (at : ℕ) (bs : List ℕ) (m : ℕ → ℕ) (text answers : List ℕ) (q : View → Type 0) (t : List ℕ) (n : ℕ)
    → ((a x y : ℕ) (b v i z c : Bool) → Comes f (view a x y b v i z c at bs m text answers) q t n) → Moves f (Here at bs m text answers) q t n
from_here f at bs m text answers q t n go w h =
    known f w at bs text answers q t n h.pc h.stack h.binary h.text h.answers
    (subst (λ k. Comes f (view w.regs.a w.regs.x w.regs.y w.regs.flags.n w.regs.flags.v w.regs.flags.i w.regs.flags.z w.regs.flags.c at bs k text answers) q t n) (sym h.mem) (go _ _ _ _ _ _ _ _))

-- a law for all registers but A and all flags holds with that A
pub from_a : (f : Setup) (at k : ℕ) (bs : List ℕ) (m : ℕ → ℕ) (text answers : List ℕ) (q : View → Type 0) (t : List ℕ) (n : ℕ)
    → ((x y : ℕ) (b v i z c : Bool) → Comes f (view k x y b v i z c at bs m text answers) q t n) → Moves f (WithA at k bs m text answers) q t n
from_a f at k bs m text answers q t n go w h =
    known f w at bs text answers q t n h.here.pc h.here.stack h.here.binary h.here.text h.here.answers
    (subst (λ j. Comes f (view w.regs.a w.regs.x w.regs.y w.regs.flags.n w.regs.flags.v w.regs.flags.i w.regs.flags.z w.regs.flags.c at bs j text answers) q t n) (sym h.here.mem)
    (subst (λ j. Comes f (view j w.regs.x w.regs.y w.regs.flags.n w.regs.flags.v w.regs.flags.i w.regs.flags.z w.regs.flags.c at bs m text answers) q t n) (sym h.number) (go _ _ _ _ _ _ _)))

-- a law for all flags holds with that A and that line in X and Y
pub from_line : (f : Setup) (at k j : ℕ) (bs : List ℕ) (m : ℕ → ℕ) (text answers : List ℕ) (q : View → Type 0) (t : List ℕ) (n : ℕ)
    → ((b v i z c : Bool) → Comes f (view k (j % 256) (j / 256) b v i z c at bs m text answers) q t n) → Moves f (WithLine at k j bs m text answers) q t n
from_line f at k j bs m text answers q t n go w h =
    let g = h.with_a.here in
    known f w at bs text answers q t n g.pc g.stack g.binary g.text g.answers
    (subst (λ r. Comes f (view w.regs.a w.regs.x w.regs.y w.regs.flags.n w.regs.flags.v w.regs.flags.i w.regs.flags.z w.regs.flags.c at bs r text answers) q t n) (sym g.mem)
    (subst (λ r. Comes f (view r w.regs.x w.regs.y w.regs.flags.n w.regs.flags.v w.regs.flags.i w.regs.flags.z w.regs.flags.c at bs m text answers) q t n) (sym h.with_a.number)
    (subst (λ r. Comes f (view k r w.regs.y w.regs.flags.n w.regs.flags.v w.regs.flags.i w.regs.flags.z w.regs.flags.c at bs m text answers) q t n) (sym h.low)
    (subst (λ r. Comes f (view k (j % 256) r w.regs.flags.n w.regs.flags.v w.regs.flags.i w.regs.flags.z w.regs.flags.c at bs m text answers) q t n) (sym h.high) (go _ _ _ _ _)))))

-- a law above what the caller keeps, with a larger bound and less said about the memory
pub beside : (f : Setup) (own : List ℕ) (v : View) (at : ℕ) (text answers : List ℕ) (p q : (ℕ → ℕ) → Type 0) (t : List ℕ) (n limit : ℕ) → n ≤ limit
    → Comes (under f own) v (Leaves at [] text answers p) t n → ((w : ℕ → ℕ) → p w → q w) → Comes f (stacked_on own v) (Leaves at own text answers q) t limit
beside f own v at text answers p q t n limit le c go =
    looser f _ _ (Leaves at own text answers q) t n limit le
    (λ w k. subst (Leaves at own text answers q) k.2 (record {
      pc = k.1.pc;
      stack_is = ap (λ s. s ++ own) k.1.stack_is;
      binary = k.1.binary;
      same_text = k.1.same_text;
      same_answers = k.1.same_answers;
      memory = go k.0.mem k.1.memory;
    }))
    (framed f own v (Leaves at [] text answers p) t n c)

-- ---- faults
-- the line and the start's stack pointer are unchanged
pub record Stays (m w : ℕ → ℕ) : Type 0 where
  pub line : w LINE ≡ m LINE
  pub line_high : w (LINE + 1) ≡ m (LINE + 1)
  pub home_s : w HOME_S ≡ m HOME_S

-- a memory that is the same has the same line and stack pointer
pub unchanged : (m w : ℕ → ℕ) → w ≡ m → Stays m w
unchanged m w e = record { line = ap (λ r. r LINE) e; line_high = ap (λ r. r (LINE + 1)) e; home_s = ap (λ r. r HOME_S) e }

-- a routine that goes to Fault, and the fault: its text is sent, and the machine has returned
pub faulting : (f : Setup) (lo hi : ℕ) → Fits f 16 → Holds block_part f.code → (l h k : ℕ) → k < 10 → (m : ℕ → ℕ) (text answers : List ℕ) (n : ℕ)
    → WordAt m LINE n → Entered f lo hi m → (v : View) (q : (ℕ → ℕ) → Type 0) (j limit : ℕ) → j + 416 ≤ limit
    → Comes (under f (lo ∷ hi ∷ [])) v (Faults l h text answers k q) [] j → ((w : ℕ → ℕ) → q w → Stays m w) → Comes f (stacked_on (lo ∷ hi ∷ []) v)
    (IsHome f) (fault_text k n) limit
faulting f lo hi fits block l h k small m text answers n line e v q j limit le c go =
    looser f _ _ _ (fault_text k n) (j + 416) limit le (λ w h. h)
    (calling f (lo ∷ hi ∷ []) v (Faults l h text answers k q) (IsHome f) [] (fault_text k n) j 416 c (λ u a.
    let s = go u.mem a.leaves.memory in
    known f (stacked_on (lo ∷ hi ∷ []) u) FAULT_AT (l ∷ h ∷ lo ∷ hi ∷ []) text answers (IsHome f) (fault_text k n) 416 a.leaves.pc
    (ap (λ s. s ++ (lo ∷ hi ∷ [])) a.leaves.stack_is) a.leaves.binary a.leaves.same_text a.leaves.same_answers
    (subst (λ r. Comes f (view r u.regs.x u.regs.y u.regs.flags.n u.regs.flags.v u.regs.flags.i u.regs.flags.z u.regs.flags.c FAULT_AT
    (l ∷ h ∷ lo ∷ hi ∷ []) u.mem text answers) (IsHome f) (fault_text k n) 416) (sym a.number)
    (fault_law f 14 (let le : 13 ≤ 14 = omega arith in le) (omega (arith, fits)) block lo hi (l ∷ h ∷ []) (let le : 4 ≤ 14 = omega arith in
    le) text answers u.mem (record { homed = e.homed; kept = ap (λ s. s + 2) s.home_s ∙ e.kept }) n
    (same_place m u.mem LINE n line s.line s.line_high) k _ _ _ _ _ _ _ small))))

-- ---- the line table
pub entries_length : (start : ℕ → ℕ) (ns : List ℕ) → length (entries start ns) ≡ length ns
entries_length start [] = refl
entries_length start (n ∷ ns) = ap (λ k. suc k) (entries_length start ns)

-- the entries of the line table have the lines' numbers
pub entries_numbers : (start : ℕ → ℕ) (ns : List ℕ) → numbers_in (entries start ns) ≡ ns
entries_numbers start [] = refl
entries_numbers start (n ∷ ns) = ap (λ ns. n ∷ ns) (entries_numbers start ns)

-- the look-up of a line that there is gives its address
pub found : (start : ℕ → ℕ) (ns : List ℕ) (n : ℕ) → has_line ns n ≡ true → address_of n (entries start ns) ≡ Some (start n)
found start [] n h = cc
found start (k ∷ ns) n h = ⊎_elim
    (λ e. ap (λ t. if t then Some (start k) else address_of n (entries start ns)) (eq-eqb k n e) ∙ ap (λ j. Some (start j)) e)
    (λ e. ap (λ t. if t then Some (start k) else address_of n (entries start ns)) (ne_eqb k n e) ∙ found start ns n (sym (ap (λ t. t || has_line ns n) (ne_eqb k n e)) ∙ h))
    (cases_eq k n)

-- the look-up of a line that there is not gives nothing
pub not_found : (start : ℕ → ℕ) (ns : List ℕ) (n : ℕ) → has_line ns n ≡ false → address_of n (entries start ns) ≡ None
not_found start [] n h = refl
not_found start (k ∷ ns) n h = ⊎_elim
    (λ e. let bad : true ≡ false = sym (ap (λ t. t || has_line ns n) (eq-eqb k n e)) ∙ h in cc)
    (λ e. ap (λ t. if t then Some (start k) else address_of n (entries start ns)) (ne_eqb k n e) ∙ not_found start ns n (sym (ap (λ t. t || has_line ns n) (ne_eqb k n e)) ∙ h))
    (cases_eq k n)
