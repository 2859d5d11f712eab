use Rattle.std.proofs.Common.{sym}
use Rattle.reference_rows.proofs.lemmas.own_members.Standing.{method_there}
use Rattle.reference_rows.proofs.own_members.methods.own_method_sig.Goals as goal

pub returns-in_ok-sig-in-Some : goal.returns-in_ok-sig-in-Some
returns-in_ok-sig-in-Some c =
    method_there c.args.recs.now c.args.at c.signatures_tell.ensures.signatures c.args.numbers.now c.requires.long c.requires.each c.in-Some.rec.now c.index-numbers-at.result (sym c.in-Some.ensures)
    c.index-numbers-at.is c.in_ok-sig-in-Some.sig c.in_ok-sig-in-Some.ensures
