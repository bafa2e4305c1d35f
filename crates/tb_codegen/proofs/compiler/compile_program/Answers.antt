-- The goals of `compile_program` in src/compiler.rt.
use Rattle.tb_basic_syntax.specs.PlainData.{lines_of}
use Rattle.tb_codegen.proofs.Answering.{costs_too_much, linked_answer}
use Rattle.tb_compiled.proofs.SmallPrograms.{are_small, cost_small}
use Rattle.tb_codegen.proofs.compiler.compile_program.Goals as goal

pub excess-requires : goal.excess-requires
excess-requires c = cost_small (lines_of c.args.program.now) (are_small (lines_of c.args.program.now) c.requires.stated) c.requires.rising

pub returns-in-Some-clause-answer : goal.returns-in-Some-clause-answer
returns-in-Some-clause-answer c =
    (c.in_ok-code.ensures.code.shallow, costs_too_much c.args.settings.size (lines_of c.args.program.now) c.in-Some.cost c.in-Some.ensures)

pub returns-clause-answer : goal.returns-clause-answer
returns-clause-answer c =
    linked_answer c.args.settings (lines_of c.args.program.now) c.linked.result c.in_ok-code.ensures.code c.requires.stated c.in-None.ensures
    c.linked.ensures.compiled c.linked.ensures.refused
