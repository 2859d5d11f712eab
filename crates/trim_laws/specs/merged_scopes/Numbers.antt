-- The numbers by which what the output refers to names types: one more than a type's place among the types of the world, and 0 where
-- nothing is named (`numbers_in` and `types_of_met` of rules/specs/merge_rules/Refs).
use Rattle.std.specs.Prelude.{ℕ, suc, List, [], ◌∷◌, ◌++◌}
use Rattle.std.specs.List.{flat_map}
use Rattle.il_base.specs.declared.sig.Sig.{Sig}
use Rattle.il_base.specs.declared.sig.MethodSig.{MethodSig}
use Rattle.il_base.specs.declared.world_model.expr.TypeExpr.{TypeExpr}
use Rattle.il_base.specs.declared.world_model.record.AsmRec.{AsmRec}
use Rattle.rules.specs.link_rules.Cycles.{listed}
use Rattle.rules.specs.merge_rules.Keys.{TypeKey, named, spec, MethodKey, own_method, found_method, absent_method, FieldKey, own_field, found_field, expr_key}
use Rattle.rules.specs.merge_rules.Order.{Met, met_type, met_sig, met_method, met_field, met_instance, met_locals}
use Rattle.rules.specs.merge_rules.Refs.{numbers_in, own_method_sig, own_field_sig, method_at, field_at}

abbrev pub numbers_of_sigs : List Sig → List ℕ
numbers_of_sigs ss = flat_map numbers_in ss

abbrev pub numbers_of_method_sig : MethodSig → List ℕ
numbers_of_method_sig s = numbers_of_sigs (s.ret ∷ s.params)

abbrev pub numbers_of_key : TypeKey → List ℕ
numbers_of_key (named t) = suc t.0 ∷ []
numbers_of_key (spec s) = numbers_in s

abbrev pub numbers_of_owner : List AsmRec → TypeExpr → List ℕ
numbers_of_owner recs e = flat_map numbers_of_key (listed (expr_key recs e))

-- a parent, then the member's own signature
abbrev pub numbers_of_method : List AsmRec → MethodKey → List ℕ
numbers_of_method recs (own_method m) = []
numbers_of_method recs (found_method m e) = numbers_of_owner recs e ++ flat_map numbers_of_method_sig (flat_map (own_method_sig recs) (listed (method_at recs m)))
numbers_of_method recs (absent_method p name s) = numbers_of_key p ++ numbers_of_method_sig s

abbrev pub numbers_of_field : List AsmRec → FieldKey → List ℕ
numbers_of_field recs (own_field f) = []
numbers_of_field recs (found_field f e) = numbers_of_owner recs e ++ numbers_of_sigs (flat_map (own_field_sig recs) (listed (field_at recs f)))

abbrev pub numbers_of_met : List AsmRec → Met → List ℕ
numbers_of_met recs (met_type k) = numbers_of_key k
numbers_of_met recs (met_sig s) = numbers_in s
numbers_of_met recs (met_method m) = numbers_of_method recs m
numbers_of_met recs (met_field f) = numbers_of_field recs f
numbers_of_met recs (met_instance i) = numbers_of_method recs i.method ++ numbers_of_sigs i.args
numbers_of_met recs (met_locals ss) = numbers_of_sigs ss
