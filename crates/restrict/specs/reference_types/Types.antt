-- The types and signatures of parts of what is met.
use Rattle.std.specs.Prelude.{List, [], if◌then◌else◌}
use Rattle.std.specs.List.{flat_map}
use Rattle.il_base.specs.declared.ids.TypeId.{TypeId}
use Rattle.il_base.specs.declared.ids.MethodId.{MethodId}
use Rattle.il_base.specs.declared.ids.FieldId.{FieldId}
use Rattle.il_base.specs.declared.sig.Sig.{Sig}
use Rattle.il_base.specs.declared.world_model.expr.TypeExpr.{TypeExpr}
use Rattle.il_base.specs.declared.world_model.record.AsmRec.{AsmRec}
use Rattle.rules.specs.link_rules.Cycles.{listed}
use Rattle.rules.specs.merge_rules.Keys.{expr_key}
use Rattle.rules.specs.merge_rules.Refs.{types_of_method_sig, types_of_sigs, own_method_sig, own_field_sig, method_at, field_at, is_reference, with_scopes, most_scopes, spec_of_key}

abbrev pub own_types : List AsmRec → MethodId → List TypeId
own_types recs m = flat_map types_of_method_sig (flat_map (own_method_sig recs) (listed (method_at recs m)))

abbrev pub own_field_types : List AsmRec → FieldId → List TypeId
own_field_types recs f = types_of_sigs (flat_map (own_field_sig recs) (listed (field_at recs f)))

-- a type that has a row, after the types around it
abbrev pub referred : List AsmRec → TypeId → List TypeId
referred recs t = if is_reference recs t then with_scopes recs (most_scopes recs) t else []

abbrev pub all_referred : List AsmRec → List TypeId → List TypeId
all_referred recs types = flat_map (referred recs) types

abbrev pub spec_of_owner : List AsmRec → TypeExpr → List Sig
spec_of_owner recs e = flat_map spec_of_key (listed (expr_key recs e))
