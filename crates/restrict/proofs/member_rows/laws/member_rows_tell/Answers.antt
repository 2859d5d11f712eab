use Rattle.restrict.proofs.lemmas.member_rows.Telling.{all_tell}
use Rattle.restrict.proofs.member_rows.laws.member_rows_tell.Goals as goal

pub returns : goal.returns
returns c = λ o p are. all_tell c.keys_tell.ensures c.signatures_tell.ensures.signatures o p are
