-- What starting a PRG file with nothing typed answers.
use Rattle.std.proofs.Common.{◌≡◌, ℕ, List, [], Result, Ok, Err, refl, ap, subst}
use Rattle.tb_kernal.specs.Machine.{Content}
use Rattle.tb_prg.specs.declared.PrgError.{PrgError}
use Rattle.tb_prg.specs.Prg.{content_of}
use Rattle.tb_engines.specs.Programs.{StartsContent, StartsPrg}
use Rattle.tb_engines.specs.declared.delivery.NoText.{NoText}
use Rattle.tb_engines.specs.declared.delivery.NoText.TheVariants.{Refused, NoMemory}
use Rattle.tb_engines.specs.declared.outcome.Refusal.TheVariants.{Prg}
use Rattle.tb_engine_play.specs.Plays.{IsStarted}

with_nothing : (file : List ℕ) (content : Result (ℕ × List ℕ) PrgError) (result : Result Content NoText) → content_of file ≡ content
    → StartsContent [] [] content result → IsStarted file result
with_nothing file (Ok p) (Ok m) same (in_ram, is) = record { address = p.0; bytes = p.1; content = same; in_ram = in_ram; machine = is }
with_nothing file (Ok p) (Err (Refused e)) same unloadable = rw same unloadable
with_nothing file (Ok p) (Err NoMemory) same unloadable = tt
with_nothing file (Err why) (Ok m) same none = absurd none
with_nothing file (Err why) (Err (Refused e)) same is =
    let whole : Refused e ≡ Refused (Prg why) = is in
    let inner : e ≡ Prg why = cc in
    rw same (ap (λ x. Err x) inner)
with_nothing file (Err why) (Err NoMemory) same is = tt

-- its machine is the start machine of a file that is played
pub is_started : (file text answers : List ℕ) (result : Result Content NoText) → text ≡ [] → answers ≡ [] → StartsPrg text answers file result
    → IsStarted file result
is_started file text answers result no_text no_answers started =
    with_nothing file (content_of file) result refl
    (subst (λ a. StartsContent [] a (content_of file) result) no_answers (subst (λ t. StartsContent t answers (content_of file) result) no_text started))
