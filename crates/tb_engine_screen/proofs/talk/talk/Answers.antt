-- The goals of `talk` in src/talk.rt.
use Rattle.std.proofs.Common.{rules, refl, sym, subst, [], ◌∷◌, ◌++◌, ◌∙◌, ap, inl}
use Rattle.std.proofs.KnownBytes.{Appends-nil, Appends-trans}
use Rattle.tb_engine_play.specs.Lines.{keys_of}
use Rattle.tb_engine_play.specs.Talks.{Stretch}
use Rattle.tb_engine_play.proofs.Talking.{stops, waits, typed_more, part_of_line, part_of_nothing}
use Rattle.tb_engine_screen.proofs.Talking.{comes, after_more, went_wrong, heard_wrong}
use Rattle.tb_engine_screen.proofs.Talking.{reads_after, still_written, still_written_wrong, part_of_wrong}
use Rattle.tb_engine_screen.proofs.talk.talk.Goals as goal

pub talking-init : goal.talking-init
talking-init g c = (
  [],
  record { text = []; talked = (refl, search rules, refl); taken = refl; written = Appends-nil _ },
  inl refl,
  search rules,
  search rules,
  refl,
  refl,
)

pub returns-then-not-is_waiting-clause-dialogue : goal.returns-then-not-is_waiting-clause-dialogue
returns-then-not-is_waiting-clause-dialogue g c =
    let (lines, after, first, typed, within, keys, wrote) = c.talking.invariant in
    let (stretch, shown, since, same) = c.in-Ok.ensures in (
      lines,
      c.in-Ok.status,
      c.go_on.new.machine,
      _,
      _,
      comes _ _ _ _ _ lines _ _ _ _ _ after stretch,
      stops c.in-Ok.status _ _ (search rules) refl,
      typed,
      search rules,
      Appends-trans _ _ _ _ _ after.written since,
    )

pub returns-in-Err-clause-dialogue : goal.returns-in-Err-clause-dialogue
returns-in-Err-clause-dialogue g c =
    let (lines, after, first, typed, within, keys, wrote) = c.talking.invariant in
    went_wrong _ _ _ _ _ _ lines _ _ _ _ _ _ _ _ after c.in-Err.ensures

pub talking-preserved : goal.talking-preserved
talking-preserved g c =
    let (lines, after, first, typed, within, keys, wrote) = c.talking.invariant in
    let (stretch, shown, since, same) = c.in-Ok.ensures in
    let waiting = waits c.in-Ok.status (search rules) in
    let (line, took, more, echo, typed', within', read_same) = rw c.in-Ok-true.field-0-test at c.in-Ok-true.ensures in
    let here = subst (λ t. Stretch c.args.limit c.talking.machine t c.go_on.new.machine) waiting stretch in (
      lines ++ line ∷ [],
      after_more _ _ c.talking.machine c.go_on.new.machine c.hear.new.machine _ c.go_on.new.screen c.hear.new.screen lines line _ _ _ _ _ _
          after here since took more shown echo,
      reads_after _ _ c.go_on.new.machine lines line _ _ _ _ _ _ (comes _ _ _ _ _ lines _ _ _ _ _ after here)
          (part_of_line line _ _ took) (Appends-trans _ _ _ _ _ after.written since),
      typed' ∙ ap (λ l. l ++ keys_of line) typed ∙ sym (typed_more lines line),
      search rules,
      read_same ∙ keys,
      same ∙ wrote,
    )

pub returns-in-Ok-false-clause-dialogue : goal.returns-in-Ok-false-clause-dialogue
returns-in-Ok-false-clause-dialogue g c =
    let (lines, after, first, typed, within, keys, wrote) = c.talking.invariant in
    let (stretch, shown, since, same) = c.in-Ok.ensures in
    let waiting = waits c.in-Ok.status (search rules) in
    let (nothing, still, typed', read_same) = rw c.in-Ok-false.field-0-test at c.in-Ok-false.ensures in
    let here = subst (λ t. Stretch c.args.limit c.talking.machine t c.go_on.new.machine) waiting stretch in (
      lines,
      _,
      c.go_on.new.machine,
      _,
      _,
      comes _ _ _ _ _ lines _ _ _ _ _ after here,
      nothing,
      typed' ∙ typed,
      refl,
      Appends-trans _ _ _ _ _ after.written since,
    )

pub returns-in-Err-hear-clause-dialogue : goal.returns-in-Err-hear-clause-dialogue
returns-in-Err-hear-clause-dialogue g c =
    let (lines, after, first, typed, within, keys, wrote) = c.talking.invariant in
    let (stretch, shown, since, same) = c.in-Ok.ensures in
    let waiting = waits c.in-Ok.status (search rules) in
    let here = subst (λ t. Stretch c.args.limit c.talking.machine t c.go_on.new.machine) waiting stretch in
    heard_wrong _ _ _ c.hear.new.machine c.go_on.new.screen c.hear.new.screen lines _ _ _ _ _ _ _ _ _ _ _ _ (comes _ _ _ _ _ lines _ _ _ _ _ after here)
    (Appends-trans _ _ _ _ _ after.written since) typed keys c.in-Err-hear.ensures

pub returns-then-not-is_waiting-clause-written_first : goal.returns-then-not-is_waiting-clause-written_first
returns-then-not-is_waiting-clause-written_first g c =
    let (lines, after, first, typed, within, keys, wrote) = c.talking.invariant in
    let (stretch, shown, since, same) = c.in-Ok.ensures in
    still_written _ _ _ _ _ _ _ _ first since

pub returns-in-Err-clause-written_first : goal.returns-in-Err-clause-written_first
returns-in-Err-clause-written_first g c =
    let (lines, after, first, typed, within, keys, wrote) = c.talking.invariant in
    still_written_wrong _ _ _ _ _ _ _ _ _ _ _ _ _ _ first c.in-Err.ensures

pub returns-in-Ok-false-clause-written_first : goal.returns-in-Ok-false-clause-written_first
returns-in-Ok-false-clause-written_first g c =
    let (lines, after, first, typed, within, keys, wrote) = c.talking.invariant in
    let (stretch, shown, since, same) = c.in-Ok.ensures in
    let waiting = waits c.in-Ok.status (search rules) in
    let (nothing, still, typed', read_same) = rw c.in-Ok-false.field-0-test at c.in-Ok-false.ensures in
    let here = subst (λ t. Stretch c.args.limit c.talking.machine t c.go_on.new.machine) waiting stretch in
    reads_after _ _ c.go_on.new.machine lines [] _ _ _ _ _ _ (comes _ _ _ _ _ lines _ _ _ _ _ after here)
    (part_of_nothing _ _ nothing) (Appends-trans _ _ _ _ _ after.written since)

pub returns-in-Err-hear-clause-written_first : goal.returns-in-Err-hear-clause-written_first
returns-in-Err-hear-clause-written_first g c =
    let (lines, after, first, typed, within, keys, wrote) = c.talking.invariant in
    let (stretch, shown, since, same) = c.in-Ok.ensures in
    let waiting = waits c.in-Ok.status (search rules) in
    let here = subst (λ t. Stretch c.args.limit c.talking.machine t c.go_on.new.machine) waiting stretch in
    let (line, took) = part_of_wrong c.go_on.new.machine c.hear.new.machine c.go_on.new.screen c.hear.new.screen _ _ _ _ c.in-Err-hear.ensures in
    reads_after _ _ c.go_on.new.machine lines line _ _ _ _ _ _ (comes _ _ _ _ _ lines _ _ _ _ _ after here)
    took (Appends-trans _ _ _ _ _ after.written since)
