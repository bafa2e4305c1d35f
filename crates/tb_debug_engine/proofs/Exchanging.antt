-- What a line comes to.
use Rattle.std.proofs.Common.{◌≡◌, ◌≢◌, inl, inr, List, [], ◌∷◌, ◌++◌, ℕ, ◌+◌, Option, Some, length, take, sym, ap, subst, ◌∙◌, append_assoc}
use Rattle.std.specs.Prelude.{Err, Ok, ℤ, min}
use Rattle.std.proofs.KnownBytes.{Appends-kept, Appends-trans}
use Rattle.std.proofs.Math.Seq.{take-append-add}
use Rattle.std.specs.Io.KnownBytes.{Appends}
use Rattle.tb_engine_streams.specs.Lines.{TakesLine, TakesPart, without_return}
use Rattle.tb_debug_commands.specs.Commands.{asked_of, last_move}
use Rattle.tb_debug_commands.specs.declared.command.Command.{Command}
use Rattle.tb_debug.specs.Debuggees.{has_no_source}
use Rattle.tb_debug.specs.Debuggers.{Responds}
use Rattle.tb_debug.specs.Kinds.{IsWalk}
use Rattle.tb_debug.specs.Leaving.{Leaves}
use Rattle.tb_debug.specs.Telling.{Tells}
use Rattle.tb_engine_streams.specs.Streams.{AppendsPrefix}
use Rattle.tb_engines.specs.Outcomes.{Outcome}
use Rattle.tb_engine_streams.specs.declared.outcome.Outcome.TheVariants.{Ended, Refused, ReadFault, WriteFault, NoMemory}
use Rattle.tb_debug.specs.declared.answer.Answer.{Answer}
use Rattle.tb_debug_engine.specs.Dialogue.{Answers, Exchanges, Says, prompt, repeated, spelled_by}
use Rattle.tb_debug_engine.specs.Streams.{Streams, Stream, Takes, Writes}
use Rattle.tb_debug_inspection.specs.Texts.{value_text}
use Rattle.tb_debug_engine.specs.Labels.{translated}
use Rattle.tb_debug_engine.specs.Sources.{labels_of, shown_of}
use Rattle.tb_debug_engine.specs.declared.dialogue.Dialogue.{Dialogue}
use Rattle.tb_debug_engine.specs.declared.dialogue.Setting.{Setting}
use Rattle.tb_debug_engine.specs.Texts.{line, variable_text}
use Rattle.tb_debug_engine.specs.declared.sources.Written.{Written}

-- a text and a prefix of another one are a prefix of both
prefix_more : (text shown : List ℕ) (a b c : Option (List ℕ)) → Appends a b text → AppendsPrefix b c shown → AppendsPrefix a c (text ++ shown)
prefix_more text shown a b c first (k, rest) =
    (length text + k, subst (Appends a c) (sym (take-append-add text shown k)) (Appends-trans a b c text (take k shown) first rest))

-- a line that is taken is taken in part
pub taken_in_part : (had left : Option (List ℕ)) (taken : List ℕ) → TakesLine had taken left → TakesPart had taken left
taken_in_part had left taken (is_line, inl whole) = (is_line, inr whole)
taken_in_part had left taken (is_line, inr (some, whole, end)) = (is_line, inl whole)

-- a line that spells a command is answered as the debugger responds to it
pub answered : (w : Written) (limit : ℕ) (d e : Dialogue) (command : Command) (taken : List ℕ) (told : Option Answer)
    → asked_of command ≡ spelled_by (has_no_source d.debugger.debuggee) (repeated d) (translated (labels_of w) (without_return taken)) → Responds command d.debugger e.debugger
    → Tells limit command d.debugger e.debugger told → (¬ (IsWalk command d.debugger) → e.debugger.shown ≡ d.debugger.shown)
    → Leaves command d.debugger e.debugger → repeated e ≡ last_move (repeated d) (asked_of command) → Answers w limit d taken told e
answered w limit d e command taken told spelled run tells shown leaves moved =
    record { command = command; spelled = spelled; run = run; tells = tells; shown = shown; leaves = leaves; moved = moved }

-- an answer that can't be told
pub said_wrong : (w : Written) (setting : Setting) (d e : Dialogue) (outcome : Outcome) (taken : List ℕ) (told : Answer) (old new : Streams) (mid : Stream)
    → Takes taken old.commands new.commands → Answers w setting.limit d taken (Some told) e → Writes (prompt setting.prompts) old.answers mid
    → Says (shown_of setting.prompts w told) (Err outcome) mid new.answers → Exchanges w setting d (Err outcome) e old new
said_wrong w setting d e WriteFault taken told old new mid took answers (before, same) (part, other) =
    inr (
      told,
      (taken, took, answers),
      (
        prefix_more (prompt setting.prompts) (shown_of setting.prompts w told) old.answers.bytes mid.bytes new.answers.bytes before part,
        subst (λ x. new.answers.failures ≢ x) same other,
      ),
    )
said_wrong w setting d e NoMemory taken told old new mid (took, sound) answers (before, same) (kept, count) = (
  (taken, taken_in_part old.commands.bytes new.commands.bytes taken took, sound),
  (Appends-kept old.answers.bytes mid.bytes new.answers.bytes (prompt setting.prompts) before kept, count ∙ same),
)
said_wrong w setting d e ReadFault taken told old new mid took answers before h = absurd h
said_wrong w setting d e (Ended end) taken told old new mid took answers before h = absurd h
said_wrong w setting d e (Refused why) taken told old new mid took answers before h = absurd h

-- two bytes and a text after another one
two_more : (before one two all rest : List ℕ) (x x' y : ℕ) → x ≡ x' → one ≡ before ++ x ∷ [] → two ≡ one ++ y ∷ [] → all ≡ two ++ rest
    → all ≡ before ++ x' ∷ y ∷ rest
two_more before one two all rest x x' y same first second third =
    third ∙ ap (λ t. t ++ rest) (second ∙ ap (λ t. t ++ y ∷ []) (first ∙ ap (λ z. before ++ z ∷ []) same))
    ∙ append_assoc (before ++ x' ∷ []) (y ∷ []) rest ∙ append_assoc before (x' ∷ []) (y ∷ rest)

-- the text of a variable
pub variable_more : (before one two all : List ℕ) (name index : ℕ) (given value : ℤ) → name ≡ 65 + min index 25 → one ≡ before ++ name ∷ []
    → two ≡ one ++ 61 ∷ [] → all ≡ two ++ line (value_text (Ok given)) → given ≡ value → all ≡ before ++ variable_text index value
unfolding variable_text
variable_more before one two all name index given value same first second third is_value =
    subst (λ v. all ≡ before ++ (65 + min index 25) ∷ 61 ∷ line (value_text (Ok v))) is_value
    (two_more before one two all (line (value_text (Ok given))) name (65 + min index 25) 61 same first second third)
