use Rattle.tb_gate_refutations.proofs.lists.right_lists_follow_their_programs.Goals as goal
use Rattle.tb_gate_refutations.proofs.WrongLists as lemma

pub returns-clause-ends : goal.returns-clause-ends
returns-clause-ends c = lemma.ends

pub returns-clause-stores : goal.returns-clause-stores
returns-clause-stores c = lemma.stores
