use Rattle.std.proofs.Common.{arith}
use Rattle.resolver.specs.type_links.Index.{IsIndexOf}
use Rattle.resolver.proofs.lemmas.type_links.Indexing.{zip_more}
use Rattle.resolver.proofs.type_links.index.TypeIndex.of.Goals as goal

pub loop-rec-preserved : goal.loop-rec-preserved
loop-rec-preserved c = zip_more (IsIndexOf c.args.all.now) c.args.all.now c.loop-rec.rec-index c.rec-item.result (omega arith) c.rec-item.is c.loop-rec.asms c.in_ok-asm.asm c.loop-rec.invariant c.in_ok-asm.ensures
    c.push.new.self c.in_ok-push.ensures.ok
