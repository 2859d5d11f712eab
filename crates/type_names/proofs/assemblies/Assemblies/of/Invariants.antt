use Rattle.std.proofs.Common.{◌≡◌, take}
use Rattle.type_names.proofs.assemblies.Assemblies.of.Given as goal

abbrev pub invariant-loop-rec : goal.invariant-loop-rec
invariant-loop-rec l = l.nested ≡ take l.rec-index l.recs
