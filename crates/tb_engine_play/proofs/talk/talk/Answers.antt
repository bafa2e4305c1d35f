-- The goals of `talk` in src/talk.rt.
use Rattle.std.proofs.Common.{rules, ◌≡◌, Ok, Err, true, false, refl, sym, subst, [], ◌∷◌, ◌++◌, ◌∙◌, ap, inl}
use Rattle.std.proofs.KnownBytes.{Appends-nil}
use Rattle.std.specs.Io.KnownBytes.{Appends}
use Rattle.tb_engine_streams.specs.HostForm.{host_form_of}
use Rattle.tb_engine_streams.specs.Uses.{use_of}
use Rattle.tb_kernal.specs.Sending.{KnowsLast, with_earlier}
use Rattle.tb_kernal.specs.declared.status.Status.TheVariants.{Waits}
use Rattle.tb_engines.specs.Writing.{kept_sent}
use Rattle.tb_engine_play.specs.Talks.{Stretch}
use Rattle.tb_engine_play.specs.Lines.{keys_of}
use Rattle.tb_engine_play.proofs.Talking.{comes, stops, waits, went_wrong, heard_wrong, left_running, left_hearing, written_more, after_more, typed_more}
use Rattle.tb_engine_play.proofs.Talking.{reads_after, still_written, still_written_wrong, part_of_line, part_of_nothing, part_of_wrong}
use Rattle.tb_engine_play.proofs.Sending.{goes_whole, hears_alike, knows_whole}
use Rattle.tb_engine_play.proofs.talk.talk.Goals as goal

pub talking-init : goal.talking-init
talking-init g c =
    let shown = g.W.Write.contents c.args.writer.now.stream in (
      [],
      [],
      inl refl,
      record {
        talked = refl;
        taken = refl;
        written = subst (λ x. Appends shown shown (host_form_of x)) (sym c.requires.nothing_sent) (Appends-nil shown);
      },
      inl refl,
      c.requires.nothing_typed,
      search rules,
      refl,
      refl,
    )

pub returns-then-not-is_waiting-clause-dialogue : goal.returns-then-not-is_waiting-clause-dialogue
returns-then-not-is_waiting-clause-dialogue g c =
    let (earlier, lines, known, after, first, typed, within, keys, wrote) = c.talking.invariant in
    let later = earlier ++ c.in-Ok.ensures.0 in
    let (ran, since, same) = goes_whole c.args.limit c.talking.machine (Ok c.in-Ok.status) c.go_on.new.machine (use_of g.W.Write.contents c.talking.writer c.go_on.new.writer) earlier c.in-Ok.ensures in (
      lines,
      c.in-Ok.status,
      with_earlier later c.go_on.new.machine,
      _,
      comes _ _ lines _ _ _ _ _ after ran,
      stops c.in-Ok.status _ _ (search rules) refl,
      typed,
      search rules,
      written_more _ _ _ _ _ _ _ ran after.written since,
    )

pub returns-in-Err-clause-dialogue : goal.returns-in-Err-clause-dialogue
returns-in-Err-clause-dialogue g c =
    let (earlier, lines, known, after, first, typed, within, keys, wrote) = c.talking.invariant in
    went_wrong _ _ _ _ lines _ _ _ _ _ _ _ _ _ after (goes_whole c.args.limit c.talking.machine (Err c.in-Err.outcome) c.go_on.new.machine (use_of g.W.Write.contents c.talking.writer c.go_on.new.writer) earlier c.in-Err.ensures)

pub talking-preserved : goal.talking-preserved
talking-preserved g c =
    let (earlier, lines, known, after, first, typed, within, keys, wrote) = c.talking.invariant in
    let later = earlier ++ c.in-Ok.ensures.0 in
    let (ran, since, same) = goes_whole c.args.limit c.talking.machine (Ok c.in-Ok.status) c.go_on.new.machine (use_of g.W.Write.contents c.talking.writer c.go_on.new.writer) earlier c.in-Ok.ensures in
    let waiting = waits c.in-Ok.status (search rules) in
    let hears = hears_alike c.go_on.new.machine c.talking.typed.items (Ok true) c.hear.new.machine c.hear.new.typed.items (use_of g.R.Read.remaining c.talking.keys c.hear.new.keys) later (rw c.in-Ok-true.field-0-test at c.in-Ok-true.ensures) in
    let (line, took, more, typed', within', read_same) = hears in
    let here = subst (λ t. Stretch c.args.limit (with_earlier earlier c.talking.machine) t (with_earlier later c.go_on.new.machine)) waiting ran in
    let sent : c.hear.new.machine.sent ≡ c.go_on.new.machine.sent = ap (λ s. s.sent) (rw c.in-Ok-true.field-0-test at c.in-Ok-true.ensures).2 in (
      later,
      lines ++ line ∷ [],
      subst (KnowsLast kept_sent later) (sym sent) (knows_whole c.args.limit c.talking.machine c.in-Ok.status c.go_on.new.machine (use_of g.W.Write.contents c.talking.writer c.go_on.new.writer) earlier known c.in-Ok.ensures),
      after_more _ _ lines line _ _ _ _ _ _ _ _ _ _ _ _ _ _ _ after here since took more,
      reads_after _ _ (with_earlier later c.go_on.new.machine) lines line _ _ _ _ _ (comes _ _ lines _ _ _ _ _ after here)
          (part_of_line line _ _ took) (written_more _ _ _ _ _ _ _ here after.written since),
      typed' ∙ ap (λ l. l ++ keys_of line) typed ∙ sym (typed_more lines line),
      search rules,
      read_same ∙ keys,
      same ∙ wrote,
    )

pub returns-in-Ok-false-clause-dialogue : goal.returns-in-Ok-false-clause-dialogue
returns-in-Ok-false-clause-dialogue g c =
    let (earlier, lines, known, after, first, typed, within, keys, wrote) = c.talking.invariant in
    let later = earlier ++ c.in-Ok.ensures.0 in
    let (ran, since, same) = goes_whole c.args.limit c.talking.machine (Ok c.in-Ok.status) c.go_on.new.machine (use_of g.W.Write.contents c.talking.writer c.go_on.new.writer) earlier c.in-Ok.ensures in
    let waiting = waits c.in-Ok.status (search rules) in
    let hears = hears_alike c.go_on.new.machine c.talking.typed.items (Ok false) c.hear.new.machine c.hear.new.typed.items (use_of g.R.Read.remaining c.talking.keys c.hear.new.keys) later (rw c.in-Ok-false.field-0-test at c.in-Ok-false.ensures) in
    let (nothing, still, typed', read_same) = hears in
    let here = subst (λ t. Stretch c.args.limit (with_earlier earlier c.talking.machine) t (with_earlier later c.go_on.new.machine)) waiting ran in (
      lines,
      _,
      with_earlier later c.go_on.new.machine,
      _,
      comes _ _ lines _ _ _ _ _ after here,
      nothing,
      typed' ∙ typed,
      refl,
      written_more _ _ _ _ _ _ _ here after.written since,
    )

pub returns-in-Err-hear-clause-dialogue : goal.returns-in-Err-hear-clause-dialogue
returns-in-Err-hear-clause-dialogue g c =
    let (earlier, lines, known, after, first, typed, within, keys, wrote) = c.talking.invariant in
    let later = earlier ++ c.in-Ok.ensures.0 in
    let (ran, since, same) = goes_whole c.args.limit c.talking.machine (Ok c.in-Ok.status) c.go_on.new.machine (use_of g.W.Write.contents c.talking.writer c.go_on.new.writer) earlier c.in-Ok.ensures in
    let waiting = waits c.in-Ok.status (search rules) in
    let here = subst (λ t. Stretch c.args.limit (with_earlier earlier c.talking.machine) t (with_earlier later c.go_on.new.machine)) waiting ran in
    heard_wrong _ _ _ _ lines _ _ _ _ _ _ _ _ _ _ (comes _ _ lines _ _ _ _ _ after here)
    (written_more _ _ _ _ _ _ _ here after.written since) typed keys (hears_alike c.go_on.new.machine c.talking.typed.items (Err c.in-Err-hear.outcome) c.hear.new.machine c.hear.new.typed.items (use_of g.R.Read.remaining c.talking.keys c.hear.new.keys) later c.in-Err-hear.ensures)

pub returns-then-not-is_waiting-clause-written_first : goal.returns-then-not-is_waiting-clause-written_first
returns-then-not-is_waiting-clause-written_first g c =
    let (earlier, lines, known, after, first, typed, within, keys, wrote) = c.talking.invariant in
    let later = earlier ++ c.in-Ok.ensures.0 in
    let (ran, since, same) = goes_whole c.args.limit c.talking.machine (Ok c.in-Ok.status) c.go_on.new.machine (use_of g.W.Write.contents c.talking.writer c.go_on.new.writer) earlier c.in-Ok.ensures in
    still_written _ _ _ _ _ _ _ _ first since

pub returns-in-Err-clause-written_first : goal.returns-in-Err-clause-written_first
returns-in-Err-clause-written_first g c =
    let (earlier, lines, known, after, first, typed, within, keys, wrote) = c.talking.invariant in
    still_written_wrong _ _ _ _ _ _ _ _ _ _ _ _ first (goes_whole c.args.limit c.talking.machine (Err c.in-Err.outcome) c.go_on.new.machine (use_of g.W.Write.contents c.talking.writer c.go_on.new.writer) earlier c.in-Err.ensures)

pub returns-in-Ok-false-clause-written_first : goal.returns-in-Ok-false-clause-written_first
returns-in-Ok-false-clause-written_first g c =
    let (earlier, lines, known, after, first, typed, within, keys, wrote) = c.talking.invariant in
    let later = earlier ++ c.in-Ok.ensures.0 in
    let (ran, since, same) = goes_whole c.args.limit c.talking.machine (Ok c.in-Ok.status) c.go_on.new.machine (use_of g.W.Write.contents c.talking.writer c.go_on.new.writer) earlier c.in-Ok.ensures in
    let waiting = waits c.in-Ok.status (search rules) in
    let hears = hears_alike c.go_on.new.machine c.talking.typed.items (Ok false) c.hear.new.machine c.hear.new.typed.items (use_of g.R.Read.remaining c.talking.keys c.hear.new.keys) later (rw c.in-Ok-false.field-0-test at c.in-Ok-false.ensures) in
    let (nothing, still, typed', read_same) = hears in
    let here = subst (λ t. Stretch c.args.limit (with_earlier earlier c.talking.machine) t (with_earlier later c.go_on.new.machine)) waiting ran in
    reads_after _ _ (with_earlier later c.go_on.new.machine) lines [] _ _ _ _ _ (comes _ _ lines _ _ _ _ _ after here)
    (part_of_nothing _ _ nothing) (written_more _ _ _ _ _ _ _ here after.written since)

pub returns-in-Err-hear-clause-written_first : goal.returns-in-Err-hear-clause-written_first
returns-in-Err-hear-clause-written_first g c =
    let (earlier, lines, known, after, first, typed, within, keys, wrote) = c.talking.invariant in
    let later = earlier ++ c.in-Ok.ensures.0 in
    let (ran, since, same) = goes_whole c.args.limit c.talking.machine (Ok c.in-Ok.status) c.go_on.new.machine (use_of g.W.Write.contents c.talking.writer c.go_on.new.writer) earlier c.in-Ok.ensures in
    let waiting = waits c.in-Ok.status (search rules) in
    let here = subst (λ t. Stretch c.args.limit (with_earlier earlier c.talking.machine) t (with_earlier later c.go_on.new.machine)) waiting ran in
    let (line, took) = part_of_wrong c.go_on.new.machine c.hear.new.machine _ _ _ _ c.in-Err-hear.ensures in
    reads_after _ _ (with_earlier later c.go_on.new.machine) lines line _ _ _ _ _ (comes _ _ lines _ _ _ _ _ after here)
    took (written_more _ _ _ _ _ _ _ here after.written since)

pub returns-then-not-is_waiting-clause-left : goal.returns-then-not-is_waiting-clause-left
returns-then-not-is_waiting-clause-left g c =
    let (earlier, lines, known, after, first, typed, within, keys, wrote) = c.talking.invariant in
    let later = earlier ++ c.in-Ok.ensures.0 in
    let (ran, since, same) = goes_whole c.args.limit c.talking.machine (Ok c.in-Ok.status) c.go_on.new.machine (use_of g.W.Write.contents c.talking.writer c.go_on.new.writer) earlier c.in-Ok.ensures in
    (later, knows_whole c.args.limit c.talking.machine c.in-Ok.status c.go_on.new.machine (use_of g.W.Write.contents c.talking.writer c.go_on.new.writer) earlier known c.in-Ok.ensures, (lines, c.in-Ok.status, _, _, comes _ _ lines _ _ _ _ _ after ran, typed, search rules))

pub returns-in-Err-clause-left : goal.returns-in-Err-clause-left
returns-in-Err-clause-left g c = ([], inl refl, left_running _ _ _ _ _ _ _ _ c.in-Err.ensures.2)

pub returns-in-Ok-false-clause-left : goal.returns-in-Ok-false-clause-left
returns-in-Ok-false-clause-left g c =
    let (earlier, lines, known, after, first, typed, within, keys, wrote) = c.talking.invariant in
    let later = earlier ++ c.in-Ok.ensures.0 in
    let (ran, since, same) = goes_whole c.args.limit c.talking.machine (Ok c.in-Ok.status) c.go_on.new.machine (use_of g.W.Write.contents c.talking.writer c.go_on.new.writer) earlier c.in-Ok.ensures in
    let waiting = waits c.in-Ok.status (search rules) in
    let (nothing, still, typed', read_same) = rw c.in-Ok-false.field-0-test at c.in-Ok-false.ensures in
    let here = subst (λ t. Stretch c.args.limit (with_earlier earlier c.talking.machine) t (with_earlier later c.go_on.new.machine)) waiting ran in
    rw still (later, knows_whole c.args.limit c.talking.machine c.in-Ok.status c.go_on.new.machine (use_of g.W.Write.contents c.talking.writer c.go_on.new.writer) earlier known c.in-Ok.ensures, (lines, Waits, _, _, comes _ _ lines _ _ _ _ _ after here, typed' ∙ typed, refl))

pub returns-in-Err-hear-clause-left : goal.returns-in-Err-hear-clause-left
returns-in-Err-hear-clause-left g c = ([], inl refl, left_hearing _ _ c.go_on.new.machine c.hear.new.machine _ _ _ _ _ _ c.in-Err-hear.ensures)
