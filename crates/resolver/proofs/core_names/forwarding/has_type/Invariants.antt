use Rattle.std.proofs.Common.{◌≡◌, ◌+◌, drop, None}
use Rattle.il_base.specs.declared.world_model.tokens.TheConstants.{FIRST_TYPE_DEF}
use Rattle.rules.specs.link_rules.Types.{type_from}
use Rattle.resolver.proofs.core_names.forwarding.has_type.Given as goal

abbrev pub invariant-loop-row : goal.invariant-loop-row
invariant-loop-row l =
    (l.token ≡ FIRST_TYPE_DEF + l.row-index)
    × (type_from l.rec None l.namespace l.name l.row-index (drop l.row-index l.rec.type_def) ≡ type_from l.rec None l.namespace l.name 0 l.rec.type_def)
