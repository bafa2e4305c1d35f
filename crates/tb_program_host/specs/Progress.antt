-- What becomes of a progress that hears of a run.
use Rattle.std.specs.Prelude.{◌≡◌, false, None}
use Rattle.tb_kernal.specs.Hearing.{Began, Ended, Telling, Took}
use Rattle.tb_program_host.specs.declared.waiting.Progress.{Progress}

-- it stays that of the same runs, told or not
pub record IsSame {R : Type 0} (p q : Progress R) : Type 0 where
  pub limit : q.limit ≡ p.limit
  pub is_told : q.is_told ≡ p.is_told

-- nothing is shown of a run that is not told, and at the end nothing is
abbrev pub Hears : {R : Type 0} → Progress R → Telling → Progress R → Type 0
Hears p Began q = IsSame p q × (q.is_shown ≡ p.is_shown) × (p.is_told ≡ false → q.began ≡ None)
Hears p (Took events) q = IsSame p q × (q.began ≡ p.began) × (p.began ≡ None → q.is_shown ≡ p.is_shown)
Hears p Ended q = IsSame p q × (q.is_shown ≡ false)
