use Rattle.std.proofs.Common.{◌≡◌, ◌++◌, take}
use Rattle.std.specs.List.{flat_map}
use Rattle.il_base.specs.declared.world_model.members.StandAloneSigRow.{StandAloneSigRow}
use Rattle.rules.specs.link_rules.CoreNames.{in_good, modifiers_of}
use Rattle.resolver.proofs.core_names.modifiers.in_locals.Given as goal

abbrev pub invariant-loop-row : goal.invariant-loop-row
invariant-loop-row l = l.tokens.items ≡ l.initial.tokens.items ++ flat_map (λ (r : StandAloneSigRow). in_good modifiers_of r.signature) (take l.row-index l.rows)
