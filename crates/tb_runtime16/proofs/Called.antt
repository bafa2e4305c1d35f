-- Pieces and routines that run above what their caller keeps on the stack.
use Rattle.std.proofs.Common.{◌≡◌, ℕ, suc, ◌+◌, ◌≤◌, Bool, true, List, [], ◌∷◌, ◌++◌, refl, sym, ap, subst, arith}
use Rattle.tb_machine_reaching.specs.View.{Setup, View, Part, Holds, Fits, Comes, view, back_at}
use Rattle.tb_machine_reaching.proofs.Acting.{the, run_view, is_there}
use Rattle.tb_machine_reaching.proofs.Comes.{ending, known, looser}
use Rattle.tb_machine_reaching.proofs.Calls.{calling, framed, under, stacked_on}
use Rattle.tb_runtime16.specs.Laws.{Leaves, Back}

-- a piece above own, from one stack to another, and then a law
pub above : (f : Setup) (own s s' : List ℕ) (a x y : ℕ) (n v i z c : Bool) (at at' : ℕ) (m : ℕ → ℕ) (text answers : List ℕ) (q : (ℕ → ℕ) → Type 0)
    (r : View → Type 0) (t u : List ℕ) (k l : ℕ) → Comes (under f own) (view a x y n v i z c at s m text answers) (Leaves at' s' text answers q) t k
    → ((a x y : ℕ) (n v i z c : Bool) (w : ℕ → ℕ) → q w → Comes f (view a x y n v i z c at' (s' ++ own) w text answers) r u l)
    → Comes f (view a x y n v i z c at (s ++ own) m text answers) r (t ++ u) (k + l)
above f own s s' a x y n v i z c at at' m text answers q r t u k l call next =
    calling f own (view a x y n v i z c at s m text answers) (Leaves at' s' text answers q) r t u k l call
    (λ w h. known f (stacked_on own w) at' (s' ++ own) text answers r u l h.pc (ap (λ b. b ++ own) h.stack_is) h.binary h.same_text h.same_answers (next _ _ _ _ _ _ _ _ w.mem h.memory))

-- a routine's law at its entry, and then a law
pub calls : (f : Setup) (own : List ℕ) (a x y : ℕ) (n v i z c : Bool) (at lo hi : ℕ) (m : ℕ → ℕ) (text answers : List ℕ) (q : (ℕ → ℕ) → Type 0)
    (r : View → Type 0) (t u : List ℕ) (k l : ℕ) → Comes (under f own) (view a x y n v i z c at (lo ∷ hi ∷ []) m text answers)
    (Back lo hi text answers q) t k → ((a x y : ℕ) (n v i z c : Bool) (w : ℕ → ℕ) → q w
    → Comes f (view a x y n v i z c (back_at lo hi) own w text answers) r u l) → Comes f (view a x y n v i z c at (lo ∷ hi ∷ own) m text answers) r (t ++ u) (k + l)
calls f own a x y n v i z c at lo hi m text answers q r t u k l call next = above f own (lo ∷ hi ∷ []) [] a x y n v i z c at (back_at lo hi) m text answers q r t u k l call next

-- a routine's law with a larger bound, and less said about the memory
pub back_looser : (f : Setup) (v : View) (lo hi : ℕ) (text answers : List ℕ) (p q : (ℕ → ℕ) → Type 0) (t : List ℕ) (n m : ℕ) → n ≤ m
    → Comes f v (Back lo hi text answers p) t n → ((w : ℕ → ℕ) → p w → q w) → Comes f v (Back lo hi text answers q) t m
back_looser f v lo hi text answers p q t n m le c g = looser f v (Back lo hi text answers p) (Back lo hi text answers q) t n m le
    (λ w h. record { pc = h.pc; stack_is = h.stack_is; binary = h.binary; same_text = h.same_text; same_answers = h.same_answers; memory = g w.mem h.memory }) c

-- ---- instructions of a routine, whatever its caller keeps on the stack
module _ (f : Setup) (own : List ℕ) (room : ℕ) (fits : Fits (under f own) room) (part : Part) (holds : Holds part f.code) where
  -- n + 1 instructions that lead to a computed view, and then a law
  pub after_on : (n : ℕ) (v : View) (q : View → Type 0) (t : List ℕ) (m : ℕ) → is_there (run_view part room (suc n) v) ≡ true
      → Comes f (stacked_on own (the v (run_view part room (suc n) v))) q t m → Comes f (stacked_on own v) q t (suc n + m)
  after_on n v q t m h next =
      let w = the v (run_view part room (suc n) v) in
      calling f own v (λ u. u ≡ w) q [] t (suc n) m (ending (under f own) room fits part holds n v (λ u. u ≡ w) h refl)
      (λ u same. subst (λ u. Comes f (stacked_on own u) q t m) (sym same) next)

  -- n + 1 instructions, as the last piece
  pub ending_on : (n : ℕ) (v : View) (q : View → Type 0) → is_there (run_view part room (suc n) v) ≡ true
      → q (stacked_on own (the v (run_view part room (suc n) v))) → Comes f (stacked_on own v) q [] (suc n)
  ending_on n v q h x =
      looser f (stacked_on own v) _ q [] (suc n) (suc n) (omega arith) (λ w g. subst q g.2 g.1)
      (framed f own v (λ u. q (stacked_on own u)) [] (suc n) (ending (under f own) room fits part holds n v (λ u. q (stacked_on own u)) h x))
