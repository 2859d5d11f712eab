-- The rows of an assembly by what they belong to.
use Rattle.std.specs.Prelude.{◌≡◌, ℕ, List, map, Option, None, nat_eq, unwrap_or}
use Rattle.std.specs.HashMap.{get}
use Rattle.il_base.specs.declared.world_model.types.GenericParamRow.{GenericParamRow}
use Rattle.il_base.specs.declared.world_model.types.GenericParamConstraintRow.{GenericParamConstraintRow}
use Rattle.il_base.specs.declared.world_model.members.MethodSemanticsRow.{MethodSemanticsRow}
use Rattle.il_base.specs.declared.world_model.extras.CustomAttributeRow.{CustomAttributeRow}
use Rattle.il_base.specs.declared.world_model.record.UserText.{UserText}
use Rattle.il_base.specs.declared.world_model.record.AsmRec.{AsmRec}
use Rattle.rules.specs.link_rules.Types.{encloser_in}
use Rattle.type_tables.specs.member_search.Owners.{AreFieldOwners}
use Rattle.type_tables.specs.Groups.{AreGroups}
use Rattle.mark_parts.specs.declared.mark_tables.enclosers.Enclosers.{Enclosers}
use Rattle.mark_parts.specs.declared.mark_tables.owners.OwnerRows.{OwnerRows}

-- ---- columns

abbrev pub param_owners : AsmRec → List ℕ
param_owners rec = map (λ (r : GenericParamRow). r.owner) rec.generic_param

abbrev pub constraint_owners : AsmRec → List ℕ
constraint_owners rec = map (λ (r : GenericParamConstraintRow). r.owner) rec.generic_param_constraint

abbrev pub attribute_parents : AsmRec → List ℕ
attribute_parents rec = map (λ (r : CustomAttributeRow). r.parent) rec.custom_attribute

abbrev pub accessor_methods : AsmRec → List ℕ
accessor_methods rec = map (λ (r : MethodSemanticsRow). r.method) rec.method_semantics

abbrev pub text_tokens : AsmRec → List ℕ
text_tokens rec = map (λ (t : UserText). t.token) rec.user

-- ---- enclosers

abbrev pub encloser_by : Enclosers → ℕ → Option ℕ
encloser_by e token = unwrap_or (get nat_eq e.rows token) None

abbrev pub AreEnclosers : AsmRec → Enclosers → Type 0
AreEnclosers rec e = (token : ℕ) → encloser_by e token ≡ encloser_in token rec.nested_class

-- ---- together

pub record AreOwnerRows (rec : AsmRec) (o : OwnerRows) : Type 0 where
  pub fields : AreFieldOwners rec o.fields.items
  pub enclosers : AreEnclosers rec o.enclosers
  pub params : AreGroups (param_owners rec) o.params
  pub constraints : AreGroups (constraint_owners rec) o.constraints
  pub attributes : AreGroups (attribute_parents rec) o.attributes
  pub accessors : AreGroups (accessor_methods rec) o.accessors
  pub texts : AreGroups (text_tokens rec) o.texts
