-- The output refers to all that a kept method names, since its type is kept.
use Rattle.std.proofs.Common.{◌≡◌, ℕ, suc, true, List, [], ◌++◌, map, Option, Some, sym, subst, ◌∙◌}
use Rattle.std.specs.Prelude.{slice_get, nat_le, nat_lt, if◌then◌else◌}
use Rattle.std.specs.List.{Contains, flat_map, position_from}
use Rattle.std.specs.Option.{option_map}
use Rattle.std.proofs.lemmas.Bool.{and_parts, leb-true, ltb-true}
use Rattle.std.proofs.lemmas.List.Elements.{Contains-append_left, Contains-append_right}
use Rattle.il_base.specs.declared.table.TheConstants as table
use Rattle.il_base.specs.declared.body.Body.{Body}
use Rattle.il_base.specs.declared.body.Instr.{Instr}
use Rattle.il_base.specs.declared.body.Handler.{Handler}
use Rattle.il_base.specs.declared.world_model.known.Known.TheVariants.{Good}
use Rattle.il_base.specs.declared.world_model.types.TypeDefRow.{TypeDefRow}
use Rattle.il_base.specs.declared.world_model.members.MethodDefRow.{MethodDefRow}
use Rattle.il_base.specs.declared.world_model.record.AsmRec.{AsmRec}
use Rattle.il_base.specs.world_model.Tokens.{token_of}
use Rattle.il_base.specs.world_model.Worlds.{types_in}
use Rattle.rules.specs.declared.link_rules.row_at.RowAt.{RowAt}
use Rattle.rules.specs.link_rules.Types.{at_row}
use Rattle.rules.specs.link_rules.Members.{owns_method}
use Rattle.rules.specs.link_rules.Cycles.{listed}
use Rattle.rules.specs.type_rules.Rows.{rec_at, run_places, methods_of_type, fields_of_type}
use Rattle.rules.specs.type_rules.Slots.{type_of_method}
use Rattle.base_laws.proofs.lemmas.known_laws.Lists.{to_flat, to_map, to_option, and_then_some, map_some}
use Rattle.rules.specs.mark_rules.Places.{type_item, method_item, field_item, prop_item, event_item}
use Rattle.rules.specs.mark_rules.Members.{properties_of_type, events_of_type}
use Rattle.rules.specs.mark_rules.Bodies.{body_of, is_catch}
use Rattle.rules.specs.merge_rules.Numbers.{kept_types}
use Rattle.rules.specs.merge_rules.Order.{Met, met_token, met_operand, met_locals_token, met_method_sig, met_body, met_method_row, those, met_in_type, met_by_types, met_impls, met_extends, met_interfaces, met_field_row, met_constraints, met_property_row, met_event_row}
use Rattle.rules.specs.merge_rules.Attributes.{met_by_attributes}
use Rattle.rules.specs.merge_rules.Restricted.{output_of}
use Rattle.merge_laws.proofs.lemmas.merged_record.Lists.{OfInput}
use Rattle.merge_laws.proofs.lemmas.merged_record.Owned.{to_kept}
use Rattle.merge_laws.proofs.lemmas.merged_tokens.Once.{to_filter}
use Rattle.merge_laws.proofs.lemmas.merged_tokens.Events.{in_places}
use Rattle.merge_laws.proofs.lemmas.merged_places.Rows.{place_within}
use Rattle.merge_laws.proofs.lemmas.merged_places.Worlds.{before_input}
use Rattle.merge_laws.proofs.lemmas.merged_rows_move.Owners.{first_is}
use Rattle.rules.specs.merged_world_rules.Merge.{Merge, IsMerge, before}
use Rattle.trim_laws.specs.marked_merge_rules.Reads.{AreMet}
use Rattle.trim_laws.proofs.lemmas.merged_code.Kept.{IsKept, body_in}

-- where the type of a method stands
pub record HasOwner (m : Merge) (at : RowAt) (rec : AsmRec) (owner : RowAt) : Type 0 where
  pub place : ℕ
  pub row : TypeDefRow
  pub is : slice_get rec.type_def place ≡ Some row
  pub owns : owns_method (suc at.row) row ≡ true
  pub same : at_row at.asm place ≡ owner

pub owner_is : (m : Merge) (at : RowAt) (rec : AsmRec) (owner : RowAt) → slice_get (before m) at.asm ≡ Some rec → type_of_method (before m) at ≡ Some owner → HasOwner m at rec owner
owner_is m at rec owner there of =
    let o = and_then_some (λ (r : AsmRec). option_map (at_row at.asm) (position_from (owns_method (suc at.row)) 0 r.type_def)) (slice_get (before m) at.asm) owner of in
    let same : o.0 ≡ rec = same_rec (slice_get (before m) at.asm) o.0 rec o.1 there in
    let k = map_some (at_row at.asm) (position_from (owns_method (suc at.row)) 0 o.0.type_def) owner o.2 in
    let f = first_is (owns_method (suc at.row)) rec.type_def k.0 (subst (λ (r : AsmRec). position_from (owns_method (suc at.row)) 0 r.type_def ≡ Some k.0) same k.1) in
    record { place = k.0; row = f.item; is = f.there; owns = f.passes; same = k.2 }
  where
    same_rec : (o : Option AsmRec) (x y : AsmRec) → o ≡ Some x → o ≡ Some y → x ≡ y
    same_rec o x y e f = let g : Some x ≡ Some y = sym e ∙ f in cc

module _ (m : Merge) (is : IsMerge m) (at : RowAt) (rec : AsmRec) (row : MethodDefRow) (h : IsKept m at rec row) (owner : RowAt) (of : type_of_method (before m) at ≡ Some owner) where
  module _ (keeps : m.kept (type_item (before m) owner) ≡ true) where
    in_kept_types : Contains (kept_types (before m) m.kept) owner
    unfolding kept_types
    in_kept_types =
        let o = owner_is m at rec owner h.there of in
        let input : OfInput (before m) at.asm rec = record { there = h.there; within = h.input } in
        subst (λ (x : RowAt). Contains (kept_types (before m) m.kept) x) o.same
        (to_kept types_in (type_item (before m)) (before m) m.kept (at_row at.asm o.place) rec input (place_within rec.type_def o.place o.row o.is)
        (subst (λ (x : RowAt). m.kept (type_item (before m) x) ≡ true) (sym o.same) keeps))

    among : Contains (methods_of_type (before m) owner) at
    unfolding methods_of_type
    among =
        let o = owner_is m at rec owner h.there of in
        let t : TypeDefRow = o.row in
        let p = and_parts (nat_le t.method_list_first (suc at.row)) (nat_lt (suc at.row) t.method_list_end) o.owns in
        let whole = is.records at.asm rec (sym (before_input m at.asm h.input) ∙ h.there) in
        subst (λ (x : RowAt). Contains (methods_of_type (before m) x) at) o.same
        (to_option (λ (r : AsmRec). flat_map (λ (y : TypeDefRow). map (at_row at.asm) (run_places y.method_list_first y.method_list_end r.method_def)) (listed (slice_get r.type_def o.place))) (rec_at (before m) (at_row at.asm o.place)) rec at h.there
        (to_option (λ (y : TypeDefRow). map (at_row at.asm) (run_places y.method_list_first y.method_list_end rec.method_def)) (slice_get rec.type_def o.place) t at o.is
        (to_map (at_row at.asm) (run_places t.method_list_first t.method_list_end rec.method_def) at.row
        (in_places t.method_list_first t.method_list_end rec.method_def at.row (leb-true t.method_list_first (suc at.row) p.0) (whole.runs.methods.begins o.place t o.is) (ltb-true (suc at.row) t.method_list_end p.1)
        (place_within rec.method_def at.row row h.is)))))

    in_type : (x : Met) → Contains (flat_map (met_method_row (before m)) (those (before m) m.kept (method_item (before m)) (methods_of_type (before m) owner))) x → Contains (met_in_type (before m) m.kept owner) x
    in_type x c =
        let recs : List AsmRec = before m in
        let methods : List RowAt = those recs m.kept (method_item recs) (methods_of_type recs owner) in
        let first : List Met = met_extends recs owner ++ met_interfaces recs m.kept owner ++ flat_map (met_field_row recs) (those recs m.kept (field_item recs) (fields_of_type recs owner)) in
        let here : List Met = flat_map (met_method_row recs) methods in
        let own : List Met = met_constraints recs owner (token_of table.TYPE_DEF (suc owner.row)) in
        let others : List Met = flat_map (λ y. met_constraints recs y (token_of table.METHOD_DEF (suc y.row))) methods in
        let props : List Met = flat_map (met_property_row recs) (those recs m.kept (prop_item recs) (properties_of_type recs owner)) in
        let events : List Met = flat_map (met_event_row recs) (those recs m.kept (event_item recs) (events_of_type recs owner)) in
        Contains-append_left (first ++ here ++ own ++ others ++ props ++ events) (met_impls recs m.kept owner) x
        (Contains-append_left (first ++ here ++ own ++ others ++ props) events x
        (Contains-append_left (first ++ here ++ own ++ others) props x
        (Contains-append_left (first ++ here ++ own) others x (Contains-append_left (first ++ here) own x (Contains-append_right first here x c)))))

    row_met : AreMet m (met_method_row (before m) at)
    unfolding output_of met_by_types
    row_met x c =
        Contains-append_left (flat_map (met_in_type (before m) m.kept) (kept_types (before m) m.kept)) (met_by_attributes (before m) m.kept) x
        (to_flat (met_in_type (before m) m.kept) (kept_types (before m) m.kept) x
        (record {
          item = owner;
          there = in_kept_types;
          inside =
              in_type x
              (to_flat (met_method_row (before m)) (those (before m) m.kept (method_item (before m)) (methods_of_type (before m) owner)) x
              (record { item = at; there = to_filter (λ y. m.kept (method_item (before m) y)) (methods_of_type (before m) owner) at among h.keeps; inside = c }));
        }))

    -- ---- of a body

    module _ (b : Body) (has : row.body ≡ Some (Good b)) where
      body_met : AreMet m (met_body (before m) at.asm rec b)
      body_met x c =
          row_met x
          (to_option (λ (r : AsmRec). flat_map (λ (d : MethodDefRow). met_method_sig (before m) at.asm r d.signature ++ flat_map (met_body (before m) at.asm r) (body_of d)) (listed (slice_get r.method_def at.row))) (rec_at (before m) at) rec x h.there
          (to_option (λ (d : MethodDefRow). met_method_sig (before m) at.asm rec d.signature ++ flat_map (met_body (before m) at.asm rec) (body_of d)) (slice_get rec.method_def at.row) row x h.is
          (Contains-append_right (met_method_sig (before m) at.asm rec row.signature) (flat_map (met_body (before m) at.asm rec) (body_of row)) x
          (to_flat (met_body (before m) at.asm rec) (body_of row) x (record { item = b; there = body_in row b has; inside = c })))))

      abbrev of_locals : List Met
      of_locals = met_locals_token (before m) at.asm rec b.locals

      abbrev of_code : List Met
      of_code = flat_map (λ (i : Instr). met_operand (before m) at.asm rec i.form i.operand) b.code

      abbrev of_handlers : List Met
      of_handlers = flat_map (λ (x : Handler). if is_catch x then met_token (before m) at.asm rec x.token else []) b.handlers

      pub locals_met : AreMet m (met_locals_token (before m) at.asm rec b.locals)
      locals_met x c = body_met x (Contains-append_left (of_locals ++ of_code) of_handlers x (Contains-append_left of_locals of_code x c))

      pub code_met : (i : Instr) → Contains b.code i → AreMet m (met_operand (before m) at.asm rec i.form i.operand)
      code_met i inside x c =
          body_met x
          (Contains-append_left (of_locals ++ of_code) of_handlers x
          (Contains-append_right of_locals of_code x (to_flat (λ (j : Instr). met_operand (before m) at.asm rec j.form j.operand) b.code x (record { item = i; there = inside; inside = c }))))

      pub handler_met : (y : Handler) → Contains b.handlers y → AreMet m (if is_catch y then met_token (before m) at.asm rec y.token else [])
      handler_met y inside x c =
          body_met x
          (Contains-append_right (of_locals ++ of_code) of_handlers x
          (to_flat (λ (z : Handler). if is_catch z then met_token (before m) at.asm rec z.token else []) b.handlers x (record { item = y; there = inside; inside = c })))
