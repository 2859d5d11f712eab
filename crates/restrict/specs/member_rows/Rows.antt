-- MemberRef and MethodSpec rows, over what code holds.
use Rattle.std.specs.Prelude.{ℕ, List, [], ◌∷◌, map}
use Rattle.std.specs.List.{flat_map}
use Rattle.il_base.specs.declared.ids.MethodId.{MethodId}
use Rattle.il_base.specs.declared.ids.FieldId.{FieldId}
use Rattle.il_base.specs.declared.sig.Sig.{Sig}
use Rattle.il_base.specs.declared.sig.MethodSig.{MethodSig}
use Rattle.il_base.specs.declared.world_model.known.Known.TheVariants.{Good}
use Rattle.il_base.specs.declared.world_model.expr.TypeExpr.{TypeExpr}
use Rattle.il_base.specs.declared.world_model.expr.MemberSig.TheVariants as member
use Rattle.il_base.specs.declared.world_model.members.MemberRefRow.{MemberRefRow}
use Rattle.il_base.specs.declared.world_model.members.MethodSpecRow.{MethodSpecRow}
use Rattle.il_base.specs.declared.world_model.record.AsmRec.{AsmRec}
use Rattle.rules.specs.declared.link_rules.row_at.RowAt.{RowAt}
use Rattle.rules.specs.link_rules.Cycles.{listed}
use Rattle.mark_parts.specs.mark_tables.Assemblies.{all_of}
use Rattle.rules.specs.merge_rules.Keys.{InstanceKey, expr_key}
use Rattle.rules.specs.merge_rules.Refs.{MemberKey, a_method, a_field, an_absent, first_or, method_at, field_at, method_name, field_name, own_method_sig, own_field_sig}
use Rattle.token_keys.specs.declared.key_codes.keys.AbsentMethod.{AbsentMethod}
use Rattle.token_keys.specs.key_codes.Keys as coded
use Rattle.merge_plan.specs.declared.moved_parts.tokens.NewTokens.{NewTokens}
use Rattle.merge_plan.specs.moved_parts.Moves.{sig_by, method_sig_by}
use Rattle.reference_rows.specs.declared.key_tokens.tokens.KeyTokens.{KeyTokens}
use Rattle.reference_rows.specs.key_tokens.Keys.{AreKeyTokens, key_token_by, method_token_by}
use Rattle.token_keys.specs.world_keys.Keys.{IsWorldKeys}
use Rattle.restrict.specs.declared.member_rows.parts.RowParts.{RowParts}

-- the records of all assemblies
abbrev pub recs_of : RowParts → List AsmRec
recs_of p = all_of p.world.marker.now

pub record AreRowParts (p : RowParts) : Type 0 where
  pub world : IsWorldKeys p.world
  pub keys : AreKeyTokens p.keys

-- ---- MemberRef rows

abbrev pub parent_by : KeyTokens → List AsmRec → TypeExpr → ℕ
parent_by k recs e = first_or (map (key_token_by k) (listed (expr_key recs e))) 0

abbrev pub method_row_by : NewTokens → ℕ → List ℕ → MethodSig → MemberRefRow
method_row_by t class name s = record { class = class; name = name; signature = Good (member.Method (method_sig_by t s)) }

abbrev pub field_row_by : NewTokens → ℕ → List ℕ → Sig → MemberRefRow
field_row_by t class name s = record { class = class; name = name; signature = Good (member.Field (sig_by t s)) }

abbrev pub method_rows_at : NewTokens → List AsmRec → ℕ → RowAt → List MemberRefRow
method_rows_at t recs class at = map (method_row_by t class (method_name recs at)) (own_method_sig recs at)

abbrev pub field_rows_at : NewTokens → List AsmRec → ℕ → RowAt → List MemberRefRow
field_rows_at t recs class at = map (field_row_by t class (field_name recs at)) (own_field_sig recs at)

abbrev pub found_method_by : RowParts → MethodId → TypeExpr → List MemberRefRow
found_method_by p m e = flat_map (method_rows_at p.numbers.now (recs_of p) (parent_by p.keys (recs_of p) e)) (listed (method_at (recs_of p) m))

abbrev pub found_field_by : RowParts → FieldId → TypeExpr → List MemberRefRow
found_field_by p f e = flat_map (field_rows_at p.numbers.now (recs_of p) (parent_by p.keys (recs_of p) e)) (listed (field_at (recs_of p) f))

abbrev pub absent_by : RowParts → AbsentMethod → List MemberRefRow
absent_by p m = method_row_by p.numbers.now (key_token_by p.keys (coded.type_key m.parent)) m.name m.signature ∷ []

abbrev pub member_ref_by : RowParts → MemberKey → List MemberRefRow
member_ref_by p (a_method m e) = found_method_by p m e
member_ref_by p (a_field f e) = found_field_by p f e
member_ref_by p (an_absent x name s) = method_row_by p.numbers.now (key_token_by p.keys x) name s ∷ []

abbrev pub member_refs_by : RowParts → List MemberRefRow
member_refs_by p = flat_map (member_ref_by p) (map coded.member_key p.keys.members.now)

-- ---- MethodSpec rows

abbrev pub method_spec_by : RowParts → InstanceKey → MethodSpecRow
method_spec_by p i = record { method = method_token_by p.keys i.method; instantiation = Good (map (sig_by p.numbers.now) i.args) }

abbrev pub method_specs_by : RowParts → List MethodSpecRow
method_specs_by p = map (method_spec_by p) (map coded.instance_key p.keys.instances.now)
