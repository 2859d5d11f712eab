use Rattle.run_laws.proofs.lemmas.agree_laws.Joined.{all_agree}
use Rattle.run_laws.proofs.agree_laws.laws.trimmed_agrees.Goals as goal

pub returns : goal.returns
returns c = all_agree
