use Rattle.std.proofs.Common.{◌≡◌, map, take}
use Rattle.rules.specs.merge_rules.Names.{old_name}
use Rattle.merge_plan.specs.declared.full_names.OldName.{OldName}
use Rattle.merge_plan.specs.OldNames.{types_of}
use Rattle.merge_plan.proofs.full_names.old_names.Given as goal

abbrev pub invariant-loop-at : goal.invariant-loop-at
invariant-loop-at l = record {
  types : types_of l.old.items ≡ take l.at-index l.types;
  names : map (λ (o : OldName). o.full.items) l.old.items ≡ map (λ (o : OldName). old_name l.recs o.typ) l.old.items;
}
