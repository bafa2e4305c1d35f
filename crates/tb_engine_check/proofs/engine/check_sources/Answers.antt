-- The goals of `check_sources` in src/engine.rt.
use Rattle.std.proofs.Common.{◌≡◌, ◌<◌, map, take, length, arith, refl, ◌∙◌}
use Rattle.std.specs.Prelude.{string_bytes}
use Rattle.std.proofs.lemmas.List.{length-map, take_all}
use Rattle.tb_engine_check.proofs.Turns.{stands_first, stands_more, stands_last, stopped, named_at}
use Rattle.tb_engine_check.proofs.engine.check_sources.Goals as goal

pub loop-name-init : goal.loop-name-init
loop-name-init g c =
    (stands_first g.K.Compile.own g.S.Sources.reads c.args.settings c.args.sources.now (map string_bytes c.args.names.now) (g.W.Write.contents c.args.writer.now.stream), refl)

pub loop-name-preserved : goal.loop-name-preserved
loop-name-preserved g c =
    let (stands, kept) = c.loop-name.invariant in
    let names = map string_bytes c.args.names.now in
    let i = c.loop-name.name-index in
    let within : i < length names = omega (arith, length-map c.args.names.now string_bytes) in
    let at = named_at c.args.names.now i c.name-item.result c.as_str.result.now c.loop-name-test.true c.name-item.is c.as_str.ensures.value in (
      stands_more g.K.Compile.own g.S.Sources.reads c.args.settings c.args.sources.now c.loop-name.sources c.check_next.new.sources names i _ _ _
          c.as_str.result.now c.in-Ok.seen c.loop-name.marks c.with-marks.result within at stands c.in-Ok.ensures.next c.with-marks.ensures,
      c.in-Ok.ensures.faults ∙ kept,
    )

pub returns-in-Err-clause-checks : goal.returns-in-Err-clause-checks
returns-in-Err-clause-checks g c =
    let (stands, kept) = c.loop-name.invariant in
    let i = c.loop-name.name-index in
    let at = named_at c.args.names.now i c.name-item.result c.as_str.result.now c.loop-name-test.true c.name-item.is c.as_str.ensures.value in
    stopped g.K.Compile.own g.S.Sources.reads c.args.settings c.args.sources.now c.loop-name.sources c.check_next.new.sources (map string_bytes c.args.names.now) i _ _ _
    c.as_str.result.now c.in-Err.outcome at stands.0 c.in-Err.ensures.next

pub returns-clause-checks : goal.returns-clause-checks
returns-clause-checks g c =
    let (stands, kept) = c.loop-name.invariant in
    let names = map string_bytes c.args.names.now in
    let i = c.loop-name.name-index in
    let all : take i names ≡ names = take_all i names (omega (arith, length-map c.args.names.now string_bytes)) in
    stands_last g.K.Compile.own g.S.Sources.reads c.args.settings c.args.sources.now c.loop-name.sources names i _ _ c.loop-name.marks c.outcome.result all stands c.outcome.ensures
