use Rattle.std.proofs.Common.{◌∙◌}
use Rattle.resolver.proofs.lemmas.type_links.Indexing.{forwarded_none, forwarded_some}
use Rattle.resolver.proofs.type_links.index.TypeIndex.forwarded.Goals as goal

pub returns-in-None-forwarder : goal.returns-in-None-forwarder
returns-in-None-forwarder c = forwarded_none c.args.self.now.all.now c.args.a c.in-Some.asm.now c.in-Some.ensures c.args.name c.in-None-forwarder.ensures

pub returns-in-Some-forwarder : goal.returns-in-Some-forwarder
returns-in-Some-forwarder c =
    c.assembly.ensures ∙ forwarded_some c.args.self.now.all.now c.args.a c.in-Some.asm.now c.in-Some.ensures c.args.name c.in-Some-forwarder.row c.in-Some-forwarder.ensures
