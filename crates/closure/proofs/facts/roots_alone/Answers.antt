use Rattle.std.proofs.Common.{length}
use Rattle.std.proofs.lemmas.List.{length-replicate}
use Rattle.closure.specs.Rounds.{Puts}
use Rattle.closure.proofs.Steps.{roots_in, puts_each}
use Rattle.closure.proofs.facts.roots_alone.Goals as goal

pub put_all-requires : goal.put_all-requires
put_all-requires c = λ k d inside. rw (c.in_ok-set.ensures, length-replicate) (rw c.as_slice.ensures (c.requires k d (rw c.as_slice.ensures at inside)))

pub returns-clause-roots : goal.returns-clause-roots
returns-clause-roots c = λ fact.
    let p : Puts c.args.roots.now (length c.args.roots.now) c.in_ok-set.set.flags c.put_all.new.set.flags c.put_all.result = rw c.as_slice.ensures at c.put_all.ensures in (
      roots_in c.args.roots.now c.args.universe c.put_all.new.set.flags c.in_ok-set.set.flags c.put_all.result c.in_ok-set.ensures p fact,
      puts_each c.args.roots.now c.in_ok-set.set.flags c.put_all.new.set.flags c.put_all.result p fact,
    )
