-- The goals of `take_all` in src/transfers.rt.
use Rattle.std.proofs.Common.{rules, ◌-◌, take, drop, length, get_or, [], Bor, List, ℕ}
use Rattle.tb_engine_files.proofs.Orders.{first_of, none_taken, stopped_at, stopped_more, taken_more}
use Rattle.tb_engine_files.proofs.transfers.+take_all.Goals as goal

pub returns-in-empty-clause-taken : goal.returns-in-empty-clause-taken
returns-in-empty-clause-taken g t c =
    none_taken g.F.FileSystem.does g.F.FileSystem.holds g.W.Work.takes c.args.files.now c.args.work.now c.args.inputs.now c.in-empty.len_below

pub returns-in_err-take_one-in-len1-up-clause-broken :
    goal.returns-in_err-take_one-in-len1-up-clause-broken
returns-in_err-take_one-in-len1-up-clause-broken g t c =
    let all = c.args.inputs.now in
    let none : Bor (List ℕ) = record { ref_ptr = (0, 0); now = [] } in
    stopped_at g.F.FileSystem.does g.F.FileSystem.holds c.from_residual.result c.in_err-take_one-in-len1-up.field-0.0 c.args.files.now c.take_one.new.files
    (get_or all 0 none) (take (length all - 1) (drop 1 all)) all (search rules) (first_of all none c.in-len1-up.len_at_least)
    c.in_err-take_one-in-len1-up.ensures.broken

pub returns-in_ok-take_one-in-len1-up-clause-taken :
    goal.returns-in_ok-take_one-in-len1-up-clause-taken
returns-in_ok-take_one-in-len1-up-clause-taken g t c =
    let all = c.args.inputs.now in
    let none : Bor (List ℕ) = record { ref_ptr = (0, 0); now = [] } in
    taken_more g.F.FileSystem.does g.F.FileSystem.holds g.W.Work.takes c.take_all.result c.args.files.now c.take_one.new.files c.take_all.new.files
    c.args.work.now c.take_one.new.work c.take_all.new.work (get_or all 0 none)
    (take (length all - 1) (drop 1 all)) all (first_of all none c.in-len1-up.len_at_least)
    c.in_ok-take_one-in-len1-up.ensures.taken c.take_all.ensures.taken

pub returns-in_ok-take_one-in-len1-up-clause-broken :
    goal.returns-in_ok-take_one-in-len1-up-clause-broken
returns-in_ok-take_one-in-len1-up-clause-broken g t c =
    let all = c.args.inputs.now in
    let none : Bor (List ℕ) = record { ref_ptr = (0, 0); now = [] } in
    let taken = c.in_ok-take_one-in-len1-up.ensures.taken in
    stopped_more g.F.FileSystem.does g.F.FileSystem.holds c.take_all.result c.args.files.now c.take_one.new.files c.take_all.new.files (get_or all 0 none)
    (take (length all - 1) (drop 1 all)) all (first_of all none c.in-len1-up.len_at_least)
    taken.2 c.take_all.ensures.broken
