-- A dialogue with one part of a talker is one with it: what is said of the talker is said of that part.
use Rattle.std.proofs.Common.{◌≡◌, Result, Ok, Err, inl, inr, sym, ap, subst}
use Rattle.std.specs.declared.alloc.AllocError.{AllocError}
use Rattle.tb_engine_streams.specs.declared.outcome.Outcome.{Outcome}
use Rattle.tb_engine_streams.specs.declared.outcome.Outcome.TheVariants.{Ended, Refused, ReadFault, WriteFault, NoMemory}
use Rattle.tb_editor_frames.specs.declared.outcome.BadFrame.{BadFrame}
use Rattle.tb_editor_dialogue.specs.Dialogue.{Answers, Converses, Ends, Moment, TakesHeard, Talks, moment, more, none}
use Rattle.tb_editor_dialogue.specs.declared.hearing.Heard.{Heard}
use Rattle.tb_editor_dialogue.specs.declared.talking.Turn.{Turn}

module _ {T U E : Type 0} (part : T → U) (Stays : T → Type 0)
    (takes : T → Heard → Result (Turn E) AllocError → T → Type 0) (part_takes : U → Heard → Result (Turn E) AllocError → U → Type 0)
    (ends : T → E → Type 0) (part_ends : U → E → Type 0)
    (stays : (s : T) (h : Heard) (r : Result (Turn E) AllocError) (t : T) → Stays s → takes s h r t → Stays t)
    (taken : (s : T) (h : Heard) (r : Result (Turn E) AllocError) (t : T) → Stays s → takes s h r t → part_takes (part s) h r (part t))
    (ended : (s : T) (e : E) → Stays s → ends s e → part_ends (part s) e) where
  abbrev part_of : Moment T → Moment U
  part_of a = moment (part a.talker) a.at

  -- what was heard leads on
  heard : (a b : Moment T) (h : Heard) (result : Result (Unit {0}) (Outcome E BadFrame)) → Stays a.talker
      → TakesHeard takes a.talker h result b.talker a.at.written b.at.written a.at.wrote b.at.wrote
      → Stays b.talker × TakesHeard part_takes (part a.talker) h result (part b.talker) a.at.written b.at.written a.at.wrote b.at.wrote
  heard a b h (Ok done) so (turn, takes_it, goes, wrote) = (stays _ _ _ _ so takes_it, (turn, taken _ _ _ _ so takes_it, goes, wrote))
  heard a b h (Err (Ended e)) so (turn, takes_it, is, wrote) = (stays _ _ _ _ so takes_it, (turn, taken _ _ _ _ so takes_it, is, wrote))
  heard a b h (Err (Refused bad)) so never = absurd never
  heard a b h (Err ReadFault) so never = absurd never
  heard a b h (Err WriteFault) so (turn, e, takes_it, wrote) = (stays _ _ _ _ so takes_it, (turn, e, taken _ _ _ _ so takes_it, wrote))
  heard a b h (Err NoMemory) so (e, takes_it, same, sound) = (stays _ _ _ _ so takes_it, (e, taken _ _ _ _ so takes_it, same, sound))

  answered : (a b : Moment T) (result : Result (Unit {0}) (Outcome E BadFrame)) → Stays a.talker → Answers takes a result b
      → Stays b.talker × Answers part_takes (part_of a) result (part_of b)
  answered a b result so (h, hears, takes_it) = let (then, taken_so) = heard a b h result so takes_it in (then, (h, hears, taken_so))

  -- frames lead on
  pub talks : (a b : Moment T) → Stays a.talker → Talks takes a b → Stays b.talker × Talks part_takes (part_of a) (part_of b)
  talks a _ so (none _) = (so, none _)
  talks a _ so (more _ b c done before leads) =
      let (then, talked) = talks a b so before in
      let (last, answered_so) = answered b c (Ok done) then leads in (last, more _ _ _ done talked answered_so)

  same : (a b : Moment T) → Stays a.talker → b.talker ≡ a.talker → Stays b.talker
  same a b so is = subst Stays (sym is) so

  -- the end
  pub comes_to_end : (a b : Moment T) (outcome : Outcome E BadFrame) → Stays a.talker → Ends takes ends a outcome b
      → Stays b.talker × Ends part_takes part_ends (part_of a) outcome (part_of b)
  comes_to_end a b (Ended e) so (inl answers) = let (then, answered_so) = answered a b (Err (Ended e)) so answers in (then, inl answered_so)
  comes_to_end a b (Ended e) so (inr ((reads, unwritten, is), ends_so)) =
      (same a b so is, inr ((reads, unwritten, ap part is), ended _ _ so ends_so))
  comes_to_end a b (Refused bad) so (reads, unwritten, is) = (same a b so is, (reads, unwritten, ap part is))
  comes_to_end a b ReadFault so (reads, unwritten, is) = (same a b so is, (reads, unwritten, ap part is))
  comes_to_end a b WriteFault so answers = answered a b (Err WriteFault) so answers
  comes_to_end a b NoMemory so (inl answers) = let (then, answered_so) = answered a b (Err NoMemory) so answers in (then, inl answered_so)
  comes_to_end a b NoMemory so (inr (unwritten, is)) = (same a b so is, inr (unwritten, ap part is))

  -- a whole dialogue
  pub converses : (a z : Moment T) (outcome : Outcome E BadFrame) → Stays a.talker → Converses takes ends a outcome z
      → Stays z.talker × Converses part_takes part_ends (part_of a) outcome (part_of z)
  converses a z outcome so (inl (b, talked, ends_so)) =
      let (then, parts) = talks a b so talked in
      let (last, ended_so) = comes_to_end b z outcome then ends_so in (last, inl (part_of b, parts, ended_so))
  converses a z outcome so (inr (talked, (e, ends_so, is))) =
      let (then, parts) = talks a z so talked in (then, inr (parts, (e, ended _ _ then ends_so, is)))
