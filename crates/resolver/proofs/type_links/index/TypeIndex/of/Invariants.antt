use Rattle.std.proofs.Common.{take}
use Rattle.std.specs.List.{AllZip}
use Rattle.resolver.specs.type_links.Index.{IsIndexOf}
use Rattle.resolver.proofs.type_links.index.TypeIndex.of.Given as goal

abbrev pub invariant-loop-rec : goal.invariant-loop-rec
invariant-loop-rec l = AllZip (IsIndexOf l.all) (take l.rec-index l.all) l.asms
