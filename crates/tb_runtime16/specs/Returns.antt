-- The return list: Push and Pop.
use Rattle.std.specs.Prelude.{◌≡◌, ◌<◌, ◌≤◌, Bool, ℕ, List, [], ◌∷◌, ◌+◌, ◌/◌, ◌%◌, ◌||◌, length}
use Rattle.tb_memmap.specs.Regions.{within}
use Rattle.tb_machine_reaching.specs.View.{Setup, Holds, Fits, Comes, view}
use Rattle.tb_basic_meaning.specs.Control.{deepest}
use Rattle.tb_runtime16.specs.Addresses.{PUSH_AT, POP_AT}
use Rattle.tb_compiled_kept.specs.Addresses.{LEFT, RESULT, NOTES, RETURN_LOW, RETURN_HIGH}
use Rattle.tb_runtime16.specs.Block.{block_part}
use Rattle.tb_runtime16.specs.Laws.{WordAt, Changes, Back, Faults, Gives}

-- the return with this index: its low byte among the low bytes, its high byte among the high bytes
pub record ReturnAt (m : ℕ → ℕ) (index return_address : ℕ) : Type 0 where
  pub low : m (RETURN_LOW + index) ≡ return_address % 256
  pub high : m (RETURN_HIGH + index) ≡ return_address / 256
  pub small : return_address < 65536

-- these words are in the return list, the newest first
abbrev pub AreReturns : (ℕ → ℕ) → List ℕ → Type 0
AreReturns m [] = Unit {0}
AreReturns m (n ∷ ns) = ReturnAt m (length ns) n × AreReturns m ns

-- the return list holds these returns, at most 500, the newest first, and NOTES is their count
pub record ReturnList (m : ℕ → ℕ) (returns : List ℕ) : Type 0 where
  pub count : WordAt m NOTES (length returns)
  pub few : length returns ≤ deepest
  pub held : AreReturns m returns

-- the addresses that Push may change: NOTES, and the returns' low and high bytes
abbrev pub push_changes : ℕ → Bool
push_changes a = within NOTES (NOTES + 1) a || (within RETURN_LOW (RETURN_LOW + 499) a || within RETURN_HIGH (RETURN_HIGH + 499) a)

-- the addresses that Pop may change: NOTES and RESULT
abbrev pub pop_changes : ℕ → Bool
pop_changes a = within NOTES (NOTES + 1) a || within RESULT (RESULT + 1) a

-- memory after Push, with these returns in the return list
pub record Pushed (m0 : ℕ → ℕ) (ns : List ℕ) (m : ℕ → ℕ) : Type 0 where
  pub returns : ReturnList m ns
  pub others : Changes push_changes m0 m

-- memory after Pop, with return n at RESULT, and the returns ns left in the return list
pub record Popped (m0 : ℕ → ℕ) (n : ℕ) (ns : List ℕ) (m : ℕ → ℕ) : Type 0 where
  pub gives : Gives pop_changes m0 n m
  pub returns : ReturnList m ns

-- Push puts the word at LEFT on the return list
abbrev pub PushLaw : Type 0
PushLaw = (f : Setup) → Fits f 2 → Holds block_part f.code → (lo hi : ℕ) (text answers : List ℕ) (m : ℕ → ℕ) (a x y : ℕ) (n v i z c : Bool) (return_address : ℕ)
    (returns : List ℕ) → WordAt m LEFT return_address → ReturnList m returns → length returns < deepest
    → Comes f (view a x y n v i z c PUSH_AT (lo ∷ hi ∷ []) m text answers) (Back lo hi text answers (Pushed m (return_address ∷ returns))) [] 13

-- with 500 returns already, Push goes to Fault with 4
abbrev pub PushFullLaw : Type 0
PushFullLaw = (f : Setup) → Fits f 2 → Holds block_part f.code → (lo hi : ℕ) (text answers : List ℕ) (m : ℕ → ℕ) (a x y : ℕ) (n v i z c : Bool)
    (returns : List ℕ) → ReturnList m returns → length returns ≡ deepest → Comes f (view a x y n v i z c PUSH_AT (lo ∷ hi ∷ []) m text answers)
    (Faults lo hi text answers 4 (λ w. w ≡ m)) [] 7

-- Pop takes the newest word from the return list
abbrev pub PopLaw : Type 0
PopLaw = (f : Setup) → Fits f 2 → Holds block_part f.code → (lo hi : ℕ) (text answers : List ℕ) (m : ℕ → ℕ) (a x y : ℕ) (n v i z c : Bool) (return_address : ℕ)
    (returns : List ℕ) → ReturnList m (return_address ∷ returns) → Comes f (view a x y n v i z c POP_AT (lo ∷ hi ∷ []) m text answers)
    (Back lo hi text answers (Popped m return_address returns)) [] 14

-- with no return, Pop goes to Fault with 5
abbrev pub PopNoneLaw : Type 0
PopNoneLaw = (f : Setup) → Fits f 2 → Holds block_part f.code → (lo hi : ℕ) (text answers : List ℕ) (m : ℕ → ℕ) (a x y : ℕ) (n v i z c : Bool)
    → ReturnList m [] → Comes f (view a x y n v i z c POP_AT (lo ∷ hi ∷ []) m text answers) (Faults lo hi text answers 5 (λ w. w ≡ m)) [] 6
