use Rattle.run_laws.proofs.lemmas.lock_words.Definitions as definitions
use Rattle.run_laws.proofs.lock_words.laws.closed_types_stay.Goals as goal

pub returns-clause-made : goal.returns-clause-made
returns-clause-made c k targs margs e h = definitions.makes_closed k targs margs e h

pub returns-clause-begun : goal.returns-clause-begun
returns-clause-begun c k targs margs e t h is = definitions.begins_closed k targs margs e h t is
