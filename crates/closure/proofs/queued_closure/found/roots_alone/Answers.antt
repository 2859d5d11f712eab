use Rattle.std.proofs.Common.{length}
use Rattle.std.proofs.lemmas.List.{length-replicate}
use Rattle.closure.specs.queued_closure.Waiting.{Puts}
use Rattle.closure.proofs.lemmas.queued_closure.Going.{started}
use Rattle.closure.proofs.queued_closure.found.roots_alone.Goals as goal

pub put_all-requires : goal.put_all-requires
put_all-requires c = λ k d inside. rw (c.in_ok-found.ensures.flags, length-replicate) (rw c.as_slice.ensures (c.requires k d (rw c.as_slice.ensures at inside)))

pub returns : goal.returns
returns c =
    let p : Puts c.args.roots.now (length c.args.roots.now) c.in_ok-found.found c.put_all.new.found c.in_ok-put_all.field-0 = rw c.as_slice.ensures at c.in_ok-put_all.ensures in
    started c.args.universe c.args.roots.now c.in_ok-found.found c.put_all.new.found c.in_ok-put_all.field-0 c.in_ok-found.ensures.flags c.in_ok-found.ensures.waiting p
