-- States that follow one another.
use Rattle.std.proofs.Common.{ℕ, List, [], ◌∷◌, ◌++◌, drop, zero, suc}
use Rattle.tb_kernal.specs.Machine.{State}
use Rattle.tb_stepper.specs.Holding.{Follows, EachFollows}

-- a state that follows the last one is added
pub follows_more : (l : List State) (s t : State) → EachFollows (l ++ s ∷ []) → Follows s t → EachFollows ((l ++ s ∷ []) ++ t ∷ [])
follows_more [] s t h f = (f, tt)
follows_more (a ∷ []) s t h f = (h.0, (f, tt))
follows_more (a ∷ b ∷ l) s t h f = (h.0, follows_more (b ∷ l) s t h.1 f)

-- of states that follow one another the oldest may be dropped
pub follows_dropped : (n : ℕ) (l : List State) → EachFollows l → EachFollows (drop n l)
follows_dropped zero l h = h
follows_dropped (suc n) [] h = h
follows_dropped (suc n) (a ∷ []) h = follows_dropped n [] tt
follows_dropped (suc n) (a ∷ b ∷ l) h = follows_dropped n (b ∷ l) h.1

-- and the newest may be taken off
pub follows_less : (l : List State) (s t : State) → EachFollows ((l ++ s ∷ []) ++ t ∷ []) → EachFollows (l ++ s ∷ [])
follows_less [] s t h = tt
follows_less (a ∷ []) s t h = (h.0, tt)
follows_less (a ∷ b ∷ l) s t h = (h.0, follows_less (b ∷ l) s t h.1)
