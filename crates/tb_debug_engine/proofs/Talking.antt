-- One more line of a dialogue.
use Rattle.std.proofs.Common.{inl, false, List, [], ◌∷◌, ◌++◌, ℕ, Some, refl, sym, ap, subst, ◌∙◌, append-nil, append_assoc}
use Rattle.std.specs.Prelude.{Ok, Err}
use Rattle.std.proofs.KnownBytes.{Appends-trans}
use Rattle.tb_engines.specs.declared.outcome.End.TheVariants.{Done}
use Rattle.tb_engines.specs.Outcomes.{Outcome}
use Rattle.tb_engine_streams.specs.declared.outcome.Outcome.TheVariants.{Ended, Refused, ReadFault, WriteFault, NoMemory}
use Rattle.tb_engine_play.proofs.Talking.{taken_more}
use Rattle.tb_debug.specs.declared.answer.Answer.{Answer}
use Rattle.tb_debug_engine.specs.Dialogue.{Answers, Exchanges, HasAnswered, Talked, Talks, answer_text}
use Rattle.tb_debug_engine.specs.Streams.{Streams, Takes, Writes}
use Rattle.tb_debug_engine.specs.declared.dialogue.Dialogue.{Dialogue}
use Rattle.tb_debug_engine.specs.declared.dialogue.Setting.{Setting}
use Rattle.tb_debug_engine.specs.declared.sources.Written.{Written}

talked_more : (w : Written) (setting : Setting) (lines : List (List ℕ)) (d m e : Dialogue) (line : List ℕ) (told : Answer) (text : List ℕ)
    → Talked w setting d lines text m → Answers w setting.limit m line (Some told) e
    → Talked w setting d (lines ++ line ∷ []) (text ++ answer_text w setting told) e
talked_more w setting [] d m e line told text (none, same) answers =
    let shown = answer_text w setting told in
    (told, e, [], subst (λ x. Answers w setting.limit x line (Some told) e) same answers, (refl, refl), ap (λ t. t ++ shown) none ∙ sym (append-nil shown))
talked_more w setting (l ∷ lines) d m e line told text (first, b, more, one, rest, whole) answers =
    let shown = answer_text w setting told in
    let before = answer_text w setting first in
    (first, b, more ++ shown, one, talked_more w setting lines b m e line told more rest answers, ap (λ t. t ++ shown) whole ∙ append_assoc before more shown)

-- a line more is taken and answered
pub answered_more : (w : Written) (setting : Setting) (d m e : Dialogue) (lines : List (List ℕ)) (line : List ℕ) (told : Answer) (old mid new : Streams)
    → HasAnswered w setting d lines m old mid → Takes line mid.commands new.commands → Answers w setting.limit m line (Some told) e
    → Writes (answer_text w setting told) mid.answers new.answers → HasAnswered w setting d (lines ++ line ∷ []) e old new
answered_more w setting d m e lines line told old mid new answered (took, sound) answers (since, same) =
    record {
      text = answered.text ++ answer_text w setting told;
      talked = talked_more w setting lines d m e line told answered.text answered.talked answers;
      taken = taken_more lines line old.commands.bytes mid.commands.bytes new.commands.bytes answered.taken took;
      sound = sound ∙ answered.sound;
      written = (Appends-trans old.answers.bytes mid.answers.bytes new.answers.bytes _ _ answered.written.0 since, same ∙ answered.written.1);
    }

-- a dialogue that closes
pub closed : (w : Written) (setting : Setting) (d e f : Dialogue) (lines : List (List ℕ)) (old mid new : Streams) → HasAnswered w setting d lines e old mid
    → Exchanges w setting e (Ok false) f mid new → Talks w setting d (Ended Done) old new
closed w setting d e f lines old mid new answered closes =
    record { lines = lines; last = e; mid = mid; answered = answered; ends = (refl, inl (f, closes)) }

-- a dialogue that can't go on
pub broken : (w : Written) (setting : Setting) (d e f : Dialogue) (outcome : Outcome) (lines : List (List ℕ)) (old mid new : Streams)
    → HasAnswered w setting d lines e old mid → Exchanges w setting e (Err outcome) f mid new → Talks w setting d outcome old new
broken w setting d e f ReadFault lines old mid new answered breaks =
    record { lines = lines; last = e; mid = mid; answered = answered; ends = (f, breaks) }
broken w setting d e f WriteFault lines old mid new answered breaks =
    record { lines = lines; last = e; mid = mid; answered = answered; ends = (f, breaks) }
broken w setting d e f NoMemory lines old mid new answered breaks =
    record { lines = lines; last = e; mid = mid; answered = answered; ends = (f, breaks) }
broken w setting d e f (Ended end) lines old mid new answered breaks = absurd breaks
broken w setting d e f (Refused why) lines old mid new answered breaks = absurd breaks
