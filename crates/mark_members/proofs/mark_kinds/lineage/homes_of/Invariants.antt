use Rattle.std.proofs.Common.{◌≡◌, ◌++◌, drop}
use Rattle.std.specs.List.{flat_map}
use Rattle.mark_members.specs.mark_kinds.Kinds.{homes}
use Rattle.mark_members.proofs.mark_kinds.lineage.homes_of.Given as goal

abbrev pub invariant-loop-ty : goal.invariant-loop-ty
invariant-loop-ty l = l.rows.items ++ flat_map (homes l.all) (drop l.ty-index l.types) ≡ flat_map (homes l.all) l.types
