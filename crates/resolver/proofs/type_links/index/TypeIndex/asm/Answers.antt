use Rattle.resolver.proofs.lemmas.type_links.Indexing.{asm_found}
use Rattle.resolver.proofs.type_links.index.TypeIndex.asm.Goals as goal

pub returns : goal.returns
returns c = asm_found c.args.self.now c.requires c.args.a c.get.result c.get.ensures.value
