use Rattle.il_base.proofs.lemmas.body_grammar.FirstFaults.{first_fault_is}
use Rattle.il_base.proofs.body_grammar.body_laws.fault_is_first.Goals as goal

pub returns : goal.returns
returns c = first_fault_is
