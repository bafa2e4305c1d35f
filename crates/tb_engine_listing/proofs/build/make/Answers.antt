-- The goals of `make` in src/build.rt.
use Rattle.std.proofs.Common.{◌≤◌, Ok, arith, length, length-append, subst, sym}
use Rattle.std.proofs.lemmas.Result.{IfOk-weaker}
use Rattle.tb_basic_syntax.specs.PlainData.{lines_of}
use Rattle.tb_compiled.proofs.SmallPrograms.{are_small, cost_small}
use Rattle.tb_codegen.specs.Compiled.{IsLinked}
use Rattle.tb_compiled.specs.Compiled.{starts_of, table_of}
use Rattle.tb_engine_listing.specs.Builds.{IsMade, Tells, image_size}
use Rattle.tb_engine_listing.proofs.Kept.{answered_in, program_keeps}
use Rattle.tb_engine_listing.proofs.Laid.{are_laid}
use Rattle.tb_engine_listing.proofs.Sorted.{labels_rise}
use Rattle.tb_engine_listing.proofs.Sums.{bytes_add_up, prices_add_up}
use Rattle.tb_engine_listing.proofs.build.make.Goals as goal

pub all_of-requires-clause-small : goal.all_of-requires-clause-small
all_of-requires-clause-small c =
    cost_small (lines_of c.in-Ok.program) (are_small (lines_of c.in-Ok.program) c.in-Ok.ensures.stated) c.in-Ok.ensures.rising

pub all_of-requires-clause-headed : goal.all_of-requires-clause-headed
all_of-requires-clause-headed c =
    let is : IsLinked c.requires.0.seed (lines_of c.in-Ok.program) c.args.compiled.now = (answered_in c.requires.0 c.args.source.now c.args.compiled.now c.requires.1 c.requires.2 (Ok (lines_of c.in-Ok.program)) c.in-Ok.ensures.found).1.made in
    subst (λ file. 14 ≤ length file) (sym is.prg) (simp length-append (omega arith))

pub all_of-requires-clause-ends : goal.all_of-requires-clause-ends
all_of-requires-clause-ends c = (are_laid c.requires.0.seed c.in-Ok.program c.args.compiled.now c.in-Ok.ensures.stated c.in-Ok.ensures.rising
    (answered_in c.requires.0 c.args.source.now c.args.compiled.now c.requires.1 c.requires.2 (Ok (lines_of c.in-Ok.program)) c.in-Ok.ensures.found).1.made).ends

pub returns : goal.returns
returns c =
    let source = c.args.source.now in
    let compiled = c.args.compiled.now in
    let program = lines_of c.in-Ok.program in
    let answer = answered_in c.requires.0 source compiled c.requires.1 c.requires.2 (Ok program) c.in-Ok.ensures.found in
    let is : IsLinked c.requires.0.seed program compiled = answer.1.made in
    let laid = are_laid c.requires.0.seed c.in-Ok.program compiled c.in-Ok.ensures.stated c.in-Ok.ensures.rising is in
    IfOk-weaker c.all_of.result (Tells source compiled program) (IsMade c.args.notation source compiled)
    (λ made tells. record {
      sorted = labels_rise (starts_of compiled) (table_of compiled) (image_size compiled) laid;
      program = program;
      makes = c.in-Ok.ensures.found;
      keeps = λ settings small same answered. program_keeps settings.seed source c.in-Ok.program compiled small c.in-Ok.ensures.found c.in-Ok.ensures.stated
          c.in-Ok.ensures.rising (answered_in settings source compiled same answered (Ok program) c.in-Ok.ensures.found).1.made;
      tells = tells;
      bytes = bytes_add_up (starts_of compiled) (table_of compiled) (image_size compiled) program laid is.lines;
      prices = prices_add_up (starts_of compiled) (table_of compiled) (image_size compiled) program is.lines;
    }) c.all_of.ensures
