-- The goals of `settle` in src/settling.rt.
use Rattle.std.proofs.Common.{◌≡◌, ◌<◌, length, map, sym, ap, subst, ◌∙◌, true, false}
use Rattle.std.specs.List.{list_any}
use Rattle.std.proofs.lemmas.List.{length-map}
use Rattle.tb_assembly_text.specs.Statements.{said_of}
use Rattle.tb_assembly_meaning.specs.Settling.{by_marks, round, some_far, Settles, done, more}
use Rattle.tb_assembly_meaning.proofs.Rounds.{as_many, fewer_after, round_by, shorts, some_by}
use Rattle.tb_assembly_meaning.proofs.settling.settle.Goals as goal

pub returns-then-not-some_marked : goal.returns-then-not-some_marked
returns-then-not-some_marked c =
    let ss = map said_of c.rounds.statements in
    let none : some_far c.args.at ss ≡ false =
    sym (some_by c.args.at ss) ∙ sym (ap (list_any (λ b. b)) (c.deref.ensures.value ∙ c.in_ok-marks.ensures)) ∙ sym c.some_marked.ensures ∙ c.if-not-some_marked.true in
    c.rounds.invariant ss (done ss none)

pub lengthen_all-requires : goal.lengthen_all-requires
lengthen_all-requires c =
    let ss = map said_of c.rounds.statements in
    ap length (c.deref-in-rounds.ensures.value ∙ c.in_ok-marks.ensures) ∙ as_many c.args.at ss ∙ length-map c.rounds.statements said_of

pub rounds-smaller : goal.rounds-smaller
rounds-smaller c =
    let ss = map said_of c.rounds.statements in
    let any : some_far c.args.at ss ≡ true =
    sym (some_by c.args.at ss) ∙ sym (ap (list_any (λ b. b)) (c.deref.ensures.value ∙ c.in_ok-marks.ensures)) ∙ sym c.some_marked.ensures ∙ c.if-not-some_marked.false in
    let after : map said_of c.lengthen_all.new.statements ≡ round c.args.at ss =
    c.lengthen_all.ensures ∙ ap (λ bs. by_marks bs ss) (c.deref-in-rounds.ensures.value ∙ c.in_ok-marks.ensures) ∙ round_by c.args.at ss in
    subst (λ ts. shorts ts < shorts ss) (sym after) (fewer_after c.args.at ss any)

pub rounds-preserved : goal.rounds-preserved
rounds-preserved c =
    let ss = map said_of c.rounds.statements in
    let any : some_far c.args.at ss ≡ true =
    sym (some_by c.args.at ss) ∙ sym (ap (list_any (λ b. b)) (c.deref.ensures.value ∙ c.in_ok-marks.ensures)) ∙ sym c.some_marked.ensures ∙ c.if-not-some_marked.false in
    let after : map said_of c.lengthen_all.new.statements ≡ round c.args.at ss =
    c.lengthen_all.ensures ∙ ap (λ bs. by_marks bs ss) (c.deref-in-rounds.ensures.value ∙ c.in_ok-marks.ensures) ∙ round_by c.args.at ss in
    λ end s. c.rounds.invariant end (more ss end any (subst (λ ts. Settles c.args.at ts end) after s))
