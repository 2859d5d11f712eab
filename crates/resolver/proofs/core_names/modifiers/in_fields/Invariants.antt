use Rattle.std.proofs.Common.{◌≡◌, ◌++◌, take}
use Rattle.std.specs.List.{flat_map}
use Rattle.il_base.specs.declared.world_model.members.FieldRow.{FieldRow}
use Rattle.rules.specs.link_rules.CoreNames.{in_good, modifiers}
use Rattle.resolver.proofs.core_names.modifiers.in_fields.Given as goal

abbrev pub invariant-loop-row : goal.invariant-loop-row
invariant-loop-row l = l.tokens.items ≡ l.initial.tokens.items ++ flat_map (λ (r : FieldRow). in_good modifiers r.signature) (take l.row-index l.rows)
