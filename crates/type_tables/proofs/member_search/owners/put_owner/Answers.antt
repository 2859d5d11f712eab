use Rattle.std.proofs.Common.{◌≡◌, suc, nat_le, nat_lt, ◌&&◌, ◌<◌, length, arith}
use Rattle.std.proofs.lemmas.Bool.Decides.{nat_tests}
use Rattle.type_tables.specs.member_search.Owners.{holds}
use Rattle.type_tables.proofs.member_search.owners.put_owner.Goals as goal

pub returns : goal.returns
returns c = λ k h.
    let there : k < length c.loop-i.owners = omega arith in
    let same : (nat_le c.args.run.first (suc k) && nat_lt k c.loop-i.i) ≡ holds (suc k) c.args.run = grind (arith, nat_tests) in
    rw (← same) (c.loop-i.invariant k there)
