-- Each type of the core library that a part of an item of an input names is among the types of what the item's row meets.
use Rattle.std.proofs.Common.{◌≡◌, ◌<◌, ℕ, suc, List, [], ◌∷◌, ◌++◌, length, map, Option, Some, refl}
use Rattle.std.specs.Prelude.{slice_get, ◌==◌, if◌then◌else◌}
use Rattle.std.specs.List.{Contains, flat_map}
use Rattle.std.proofs.lemmas.List.Elements.{Contains-append_left, Contains-append_right}
use Rattle.il_base.specs.declared.body.Body.{Body}
use Rattle.il_base.specs.declared.table.TheConstants as table
use Rattle.il_base.specs.declared.world_model.types.TypeDefRow.{TypeDefRow}
use Rattle.il_base.specs.declared.world_model.types.InterfaceImplRow.{InterfaceImplRow}
use Rattle.il_base.specs.declared.world_model.members.FieldRow.{FieldRow}
use Rattle.il_base.specs.declared.world_model.members.MethodDefRow.{MethodDefRow}
use Rattle.il_base.specs.declared.world_model.members.PropertyRow.{PropertyRow}
use Rattle.il_base.specs.declared.world_model.members.EventRow.{EventRow}
use Rattle.il_base.specs.declared.world_model.record.AsmRec.{AsmRec}
use Rattle.il_base.specs.world_model.Tokens.{token_of}
use Rattle.rules.specs.declared.link_rules.row_at.RowAt.{RowAt}
use Rattle.rules.specs.link_rules.Cycles.{listed}
use Rattle.rules.specs.type_rules.Rows.{rec_at, each_row}
use Rattle.base_laws.proofs.lemmas.known_laws.Lists.{to_option, to_flat}
use Rattle.rules.specs.mark_rules.Naming.{sig_parts, method_sig_parts, type_token_part}
use Rattle.rules.specs.mark_rules.Types.{constraints_of, extends_of, parts_of_type, parts_of_field, parts_of_impl}
use Rattle.rules.specs.mark_rules.Bodies.{body_of, is_read, body_parts}
use Rattle.rules.specs.mark_rules.Calls.{row_parts, parts_of_method}
use Rattle.rules.specs.mark_rules.Properties.{parts_of_property, parts_of_event}
use Rattle.rules.specs.merge_rules.Order.{Met, met_token, met_good_sig, met_method_sig, met_body, met_method_row, met_field_row, met_property_row, met_event_row, met_param, met_constraints, met_extends}
use Rattle.merge_laws.specs.merged_record.Laws.{InputsAreRecords}
use Rattle.merge_laws.proofs.lemmas.merged_owners.Every.{all_none, all_one, all_join, all_either, all_flat, all_option}
use Rattle.trim_laws.proofs.lemmas.kept_parts.Parts.{Into, Fine, All, type_fine, sig_fine, method_sig_fine, body_fine, constraints_fine}

module _ (recs : List AsmRec) (M : Met → Type 0) (records : InputsAreRecords recs) (at : RowAt) (input : suc at.asm < length recs) where
  constraints_by : (owner : ℕ) (rec : AsmRec) → slice_get recs at.asm ≡ Some rec → Into recs M (met_constraints recs at owner) → All recs M (constraints_of recs at.asm rec owner)
  constraints_by owner rec there into =
      constraints_fine recs M at.asm rec there input records owner
      (λ x c. into x (to_option (λ (r : AsmRec). each_row (met_param recs at.asm r owner) r.generic_param) (rec_at recs at) rec x there c))

  extends_by : (rec : AsmRec) → slice_get recs at.asm ≡ Some rec → Into recs M (met_extends recs at) → All recs M (extends_of recs at rec)
  extends_by rec there into =
      let place : ℕ = token_of table.TYPE_DEF (suc at.row) in
      all_option (Fine recs M) (λ (t : TypeDefRow). if t.extends == 0 then [] else type_token_part recs at.asm rec place 0 t.extends ∷ []) (slice_get rec.type_def at.row)
      (λ t e.
      all_either (Fine recs M) (t.extends == 0) [] (type_token_part recs at.asm rec place 0 t.extends ∷ []) (all_none (Fine recs M))
      (all_one (Fine recs M) (type_token_part recs at.asm rec place 0 t.extends)
      (type_fine recs M at.asm rec there input records place 0 t.extends
      (λ x c.
      into x
      (to_option (λ (r : AsmRec). flat_map (λ (y : TypeDefRow). met_token recs at.asm r y.extends) (listed (slice_get r.type_def at.row))) (rec_at recs at) rec x there
      (to_option (λ (y : TypeDefRow). met_token recs at.asm rec y.extends) (slice_get rec.type_def at.row) t x e c))))))

  pub type_parts : Into recs M (met_extends recs at) → Into recs M (met_constraints recs at (token_of table.TYPE_DEF (suc at.row))) → All recs M (parts_of_type recs at)
  unfolding parts_of_type
  type_parts extends constraints =
      all_option (Fine recs M) (λ (rec : AsmRec). extends_of recs at rec ++ constraints_of recs at.asm rec (token_of table.TYPE_DEF (suc at.row))) (rec_at recs at)
      (λ rec there.
      all_join (Fine recs M) (extends_of recs at rec) (constraints_of recs at.asm rec (token_of table.TYPE_DEF (suc at.row))) (extends_by rec there extends) (constraints_by (token_of table.TYPE_DEF (suc at.row)) rec there constraints))

  abbrev of_method : AsmRec → MethodDefRow → List Met
  of_method rec m = met_method_sig recs at.asm rec m.signature ++ flat_map (met_body recs at.asm rec) (body_of m)

  row_by : (rec : AsmRec) (m : MethodDefRow) → slice_get recs at.asm ≡ Some rec → Into recs M (of_method rec m) → Into recs M (met_constraints recs at (token_of table.METHOD_DEF (suc at.row))) → All recs M (row_parts recs at rec m)
  row_by rec m there into constraints =
      let place : ℕ = token_of table.METHOD_DEF (suc at.row) in
      let bodies : List Met = flat_map (met_body recs at.asm rec) (body_of m) in
      all_join (Fine recs M) (method_sig_parts recs at.asm rec place m.signature ++ constraints_of recs at.asm rec place) (flat_map (body_parts recs at.asm rec place (is_read m.signature)) (body_of m))
      (all_join (Fine recs M) (method_sig_parts recs at.asm rec place m.signature) (constraints_of recs at.asm rec place)
      (method_sig_fine recs M at.asm rec there input records place m.signature (λ x c. into x (Contains-append_left (met_method_sig recs at.asm rec m.signature) bodies x c))) (constraints_by place rec there constraints))
      (all_flat (Fine recs M) (body_parts recs at.asm rec place (is_read m.signature)) (body_of m)
      (λ (b : Body) d.
      body_fine recs M at.asm rec there input records place (is_read m.signature) b
      (λ x c. into x (Contains-append_right (met_method_sig recs at.asm rec m.signature) bodies x (to_flat (met_body recs at.asm rec) (body_of m) x (record { item = b; there = d; inside = c }))))))

  pub method_parts : Into recs M (met_method_row recs at) → Into recs M (met_constraints recs at (token_of table.METHOD_DEF (suc at.row))) → All recs M (parts_of_method recs at)
  unfolding parts_of_method
  method_parts into constraints =
      all_option (Fine recs M) (λ (rec : AsmRec). flat_map (row_parts recs at rec) (listed (slice_get rec.method_def at.row))) (rec_at recs at)
      (λ rec there.
      all_option (Fine recs M) (row_parts recs at rec) (slice_get rec.method_def at.row)
      (λ m e.
      row_by rec m there
      (λ x c.
      into x
      (to_option (λ (r : AsmRec). flat_map (of_method r) (listed (slice_get r.method_def at.row))) (rec_at recs at) rec x there (to_option (of_method rec) (slice_get rec.method_def at.row) m x e c))) constraints))

  pub field_parts : Into recs M (met_field_row recs at) → All recs M (parts_of_field recs at)
  unfolding parts_of_field
  field_parts into =
      all_option (Fine recs M) (λ (rec : AsmRec). flat_map (λ (f : FieldRow). sig_parts recs at.asm rec (token_of table.FIELD (suc at.row)) f.signature) (listed (slice_get rec.field at.row))) (rec_at recs at)
      (λ rec there.
      all_option (Fine recs M) (λ (f : FieldRow). sig_parts recs at.asm rec (token_of table.FIELD (suc at.row)) f.signature) (slice_get rec.field at.row)
      (λ f e.
      sig_fine recs M at.asm rec there input records (token_of table.FIELD (suc at.row)) f.signature
      (λ x c.
      into x
      (to_option (λ (r : AsmRec). flat_map (λ (g : FieldRow). met_good_sig recs at.asm r g.signature) (listed (slice_get r.field at.row))) (rec_at recs at) rec x there
      (to_option (λ (g : FieldRow). met_good_sig recs at.asm rec g.signature) (slice_get rec.field at.row) f x e c)))))

  pub property_parts : Into recs M (met_property_row recs at) → All recs M (parts_of_property recs at)
  unfolding parts_of_property
  property_parts into =
      all_option (Fine recs M) (λ (rec : AsmRec). flat_map (λ (p : PropertyRow). method_sig_parts recs at.asm rec (token_of table.PROPERTY (suc at.row)) p.signature) (listed (slice_get rec.property at.row))) (rec_at recs at)
      (λ rec there.
      all_option (Fine recs M) (λ (p : PropertyRow). method_sig_parts recs at.asm rec (token_of table.PROPERTY (suc at.row)) p.signature) (slice_get rec.property at.row)
      (λ p e.
      method_sig_fine recs M at.asm rec there input records (token_of table.PROPERTY (suc at.row)) p.signature
      (λ x c.
      into x
      (to_option (λ (r : AsmRec). flat_map (λ (q : PropertyRow). met_method_sig recs at.asm r q.signature) (listed (slice_get r.property at.row))) (rec_at recs at) rec x there
      (to_option (λ (q : PropertyRow). met_method_sig recs at.asm rec q.signature) (slice_get rec.property at.row) p x e c)))))

  pub event_parts : Into recs M (met_event_row recs at) → All recs M (parts_of_event recs at)
  unfolding parts_of_event
  event_parts into =
      let place : ℕ = token_of table.EVENT (suc at.row) in
      all_option (Fine recs M) (λ (rec : AsmRec). flat_map (λ (v : EventRow). type_token_part recs at.asm rec place 0 v.event_type ∷ []) (listed (slice_get rec.event at.row))) (rec_at recs at)
      (λ rec there.
      all_option (Fine recs M) (λ (v : EventRow). type_token_part recs at.asm rec place 0 v.event_type ∷ []) (slice_get rec.event at.row)
      (λ v e.
      all_one (Fine recs M) (type_token_part recs at.asm rec place 0 v.event_type)
      (type_fine recs M at.asm rec there input records place 0 v.event_type
      (λ x c.
      into x
      (to_option (λ (r : AsmRec). flat_map (λ (w : EventRow). met_token recs at.asm r w.event_type) (listed (slice_get r.event at.row))) (rec_at recs at) rec x there
      (to_option (λ (w : EventRow). met_token recs at.asm rec w.event_type) (slice_get rec.event at.row) v x e c))))))

  pub impl_parts : ((rec : AsmRec) (row : InterfaceImplRow) → slice_get recs at.asm ≡ Some rec → slice_get rec.interface_impl at.row ≡ Some row → Into recs M (met_token recs at.asm rec row.interface)) → All recs M (parts_of_impl recs at)
  unfolding parts_of_impl
  impl_parts into =
      let place : ℕ = token_of table.INTERFACE_IMPL (suc at.row) in
      all_option (Fine recs M) (λ (rec : AsmRec). flat_map (λ (row : InterfaceImplRow). type_token_part recs at.asm rec place 0 row.interface ∷ []) (listed (slice_get rec.interface_impl at.row))) (rec_at recs at)
      (λ rec there.
      all_option (Fine recs M) (λ (row : InterfaceImplRow). type_token_part recs at.asm rec place 0 row.interface ∷ []) (slice_get rec.interface_impl at.row)
      (λ row e. all_one (Fine recs M) (type_token_part recs at.asm rec place 0 row.interface) (type_fine recs M at.asm rec there input records place 0 row.interface (into rec row there e))))
