use Rattle.base_laws.proofs.lemmas.change_laws.Numbers.{old_of_new}
use Rattle.base_laws.proofs.change_laws.laws.numbers_come_back.Goals as goal

pub returns : goal.returns
returns c flags n cores m = old_of_new flags n cores m
