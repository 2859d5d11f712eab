-- What kept types and their members meet names types of the world.
use Rattle.std.proofs.Common.{◌≡◌, ◌<◌, ℕ, suc, ◌+◌, List, [], ◌∷◌, ◌++◌, length, map, Bool, true, false, Option, Some, None, refl, sym, ap, subst, ◌∙◌, arith}
use Rattle.std.specs.Prelude.{slice_get, ◌==◌, ◌&&◌, if◌then◌else◌}
use Rattle.std.specs.List.{Contains, flat_map, filter}
use Rattle.std.proofs.lemmas.Bool.{and_parts}
use Rattle.std.proofs.lemmas.List.Elements.{Contains-append_left, Contains-append_right}
use Rattle.il_base.specs.declared.ids.TypeId.{TypeId}
use Rattle.il_base.specs.declared.ids.Item.{Item}
use Rattle.il_base.specs.declared.table.TheConstants as table
use Rattle.il_base.specs.declared.cli_format.column.CodedIndex.TheVariants.{MethodDefOrRef}
use Rattle.descriptor_file.specs.declared.root.Root.{Root}
use Rattle.il_base.specs.declared.world_model.types.TypeDefRow.{TypeDefRow}
use Rattle.il_base.specs.declared.world_model.types.InterfaceImplRow.{InterfaceImplRow}
use Rattle.il_base.specs.declared.world_model.types.GenericParamRow.{GenericParamRow}
use Rattle.il_base.specs.declared.world_model.types.GenericParamConstraintRow.{GenericParamConstraintRow}
use Rattle.il_base.specs.declared.world_model.members.FieldRow.{FieldRow}
use Rattle.il_base.specs.declared.world_model.members.MethodDefRow.{MethodDefRow}
use Rattle.il_base.specs.declared.world_model.members.MethodImplRow.{MethodImplRow}
use Rattle.il_base.specs.declared.world_model.members.PropertyRow.{PropertyRow}
use Rattle.il_base.specs.declared.world_model.members.EventRow.{EventRow}
use Rattle.il_base.specs.declared.world_model.record.AsmRec.{AsmRec}
use Rattle.il_base.specs.world_model.Tokens.{token_of, table_of}
use Rattle.il_base.specs.world_model.Worlds.{types_in}
use Rattle.rules.specs.declared.link_rules.row_at.RowAt.{RowAt}
use Rattle.rules.specs.link_rules.Types.{at_row}
use Rattle.rules.specs.link_rules.Members.{methods_in, fields_in, array_type}
use Rattle.rules.specs.link_rules.Cycles.{listed}
use Rattle.rules.specs.type_rules.Rows.{rec_at, each_row, run_places, methods_of_type, fields_of_type}
use Rattle.base_laws.proofs.lemmas.type_laws.Places.{place_within, place_has}
use Rattle.base_laws.proofs.lemmas.known_laws.Lists.{first_in, to_flat, to_option, to_if, to_each}
use Rattle.rules.specs.mark_rules.Naming.{Part, type_token_part, sig_parts, method_sig_parts}
use Rattle.rules.specs.mark_rules.Bodies.{body_of, body_parts, is_read}
use Rattle.rules.specs.mark_rules.Calls.{row_parts, parts_of_method}
use Rattle.rules.specs.mark_rules.Members.{property_places_by, properties_of_type, event_places_by, events_of_type}
use Rattle.rules.specs.mark_rules.Places.{row_of, type_item, method_item, field_item, prop_item, event_item, impl_item, props_in, events_in, impls_in}
use Rattle.rules.specs.mark_rules.Properties.{parts_of_property, parts_of_event}
use Rattle.rules.specs.mark_rules.Shown.{parts_of_item}
use Rattle.rules.specs.mark_rules.Types.{constraint_of, constraints_of_param, constraints_of, extends_of, parts_of_type, parts_of_field, parts_of_impl}
use Rattle.rules.specs.mark_rules.Marking.{Marks}
use Rattle.rules.specs.mark_rules.BadItems.{IsFirstFlaw}
use Rattle.rules.specs.merge_rules.Numbers.{Kept, kept_types}
use Rattle.rules.specs.merge_rules.Keys.{type_key}
use Rattle.rules.specs.merge_rules.Order.{Met, met_types, met_token, met_good_sig, met_method_sig, met_callee, met_body, met_method_row, met_field_row, met_property_row, met_event_row, met_constraint, met_param, met_constraints, is_impl_of, met_impls, met_extends, met_interface, met_interfaces, those, met_in_type, met_by_types}
use Rattle.merge_laws.specs.merged_record.Laws.{InputsAreRecords}
use Rattle.merge_laws.proofs.lemmas.merged_record.Lists.{from_filter}
use Rattle.merge_laws.proofs.lemmas.merged_record.Rows.{IsKept, from_kept, in_run}
use Rattle.merge_laws.proofs.lemmas.merged_record.Tokens.{of_coded}
use Rattle.merge_laws.specs.merged_owners.Laws.{AreMarked}
use Rattle.merge_laws.proofs.lemmas.merged_owners.Homes.{own_home, to_place}
use Rattle.merge_laws.proofs.lemmas.merged_owners.Every.{Every, all_none, all_join, all_if, all_flat, all_option, all_map, all_each}
use Rattle.merge_laws.proofs.lemmas.merged_tokens.Bodies.{no_spec}
use Rattle.merge_laws.proofs.lemmas.merged_standing.Low.{bound, IsLow}
use Rattle.trim_laws.proofs.lemmas.merged_scopes.Readings.{Fine, plain_fine, types_fine, token_fine, sig_fine, method_sig_fine, body_fine}

module _ (recs : List AsmRec) (records : InputsAreRecords recs) (P : ℕ → Type 0) (there_so : (t : TypeId) → t.0 < bound recs → P (suc t.0)) (array : (t : TypeId) → array_type recs ≡ Some t → IsLow recs t) (kept : Kept) (entry : Option RowAt)
    (roots : List Root) (marks : AreMarked recs entry roots kept) (flawless : IsFirstFlaw recs entry (Marks recs entry roots) None) where
  abbrev Holds : Met → Type 0
  Holds = Fine recs records P there_so array

  abbrev All : List Met → Type 0
  All ms = Every Holds ms

  abbrev Input : RowAt → Type 0
  Input at = suc at.asm < length recs

  -- ---- constraints of generic parameters

  module _ (i : Item) (at : RowAt) (rec : AsmRec) (home : row_of recs i ≡ Some at) (keeps : kept i ≡ true) (there : slice_get recs at.asm ≡ Some rec) (input : Input at) where
    constraint_part : (owner k j : ℕ) (row : GenericParamRow) (c : GenericParamConstraintRow) → slice_get rec.generic_param k ≡ Some row → slice_get rec.generic_param_constraint j ≡ Some c → (row.owner == owner) ≡ true
        → (c.owner == token_of table.GENERIC_PARAM (suc k)) ≡ true
        → Contains (constraints_of recs at.asm rec owner) (type_token_part recs at.asm rec (token_of table.GENERIC_PARAM_CONSTRAINT (suc j)) 0 c.constraint)
    unfolding constraints_of
    constraint_part owner k j row c of is own one =
        let p : Part = type_token_part recs at.asm rec (token_of table.GENERIC_PARAM_CONSTRAINT (suc j)) 0 c.constraint in
        let z : 0 + j ≡ j = omega arith in
        let y : 0 + k ≡ k = omega arith in
        let here : Contains (constraint_of recs at.asm rec (token_of table.GENERIC_PARAM (suc k)) (0 + j) c) p =
        subst (λ (n : ℕ). Contains (constraint_of recs at.asm rec (token_of table.GENERIC_PARAM (suc k)) n c) p) (sym z)
        (to_if (c.owner == token_of table.GENERIC_PARAM (suc k)) (p ∷ []) p one (first_in p [])) in
        let all : Contains (constraints_of_param recs at.asm rec owner (0 + k) row) p =
        subst (λ (n : ℕ). Contains (constraints_of_param recs at.asm rec owner n row) p) (sym y)
        (to_if (row.owner == owner) (each_row (constraint_of recs at.asm rec (token_of table.GENERIC_PARAM (suc k))) rec.generic_param_constraint) p own
        (to_each (constraint_of recs at.asm rec (token_of table.GENERIC_PARAM (suc k))) 0 rec.generic_param_constraint p (record { place = j; item = c; there = is; inside = here }))) in
        to_each (constraints_of_param recs at.asm rec owner) 0 rec.generic_param p (record { place = k; item = row; there = of; inside = all })

    constraints_fine : (owner : ℕ) → ((p : Part) → Contains (constraints_of recs at.asm rec owner) p → Contains (parts_of_item recs i at) p) → All (each_row (met_param recs at.asm rec owner) rec.generic_param)
    constraints_fine owner parts =
        all_each Holds (met_param recs at.asm rec owner) rec.generic_param
        (λ k (row : GenericParamRow) of.
        all_if Holds (row.owner == owner) (flat_map (met_constraint recs at.asm rec (token_of table.GENERIC_PARAM (suc k))) rec.generic_param_constraint)
        (λ own.
        all_flat Holds (met_constraint recs at.asm rec (token_of table.GENERIC_PARAM (suc k))) rec.generic_param_constraint
        (λ (c : GenericParamConstraintRow) d.
        let j = to_place rec.generic_param_constraint c d in
        all_if Holds (c.owner == token_of table.GENERIC_PARAM (suc k)) (met_token recs at.asm rec c.constraint)
        (λ one.
        token_fine recs records P there_so array kept entry roots marks flawless i at rec home keeps there input (token_of table.GENERIC_PARAM_CONSTRAINT (suc j.0)) 0 c.constraint
        (parts (type_token_part recs at.asm rec (token_of table.GENERIC_PARAM_CONSTRAINT (suc j.0)) 0 c.constraint) (constraint_part owner k j.0 row c of j.1 own one))))))

  -- ---- rows of members

  method_row_fine : (at : RowAt) → Input at → kept (method_item recs at) ≡ true → All (met_method_row recs at)
  unfolding parts_of_method row_of
  method_row_fine at input keeps =
      all_option Holds (λ (rec : AsmRec). flat_map (λ (m : MethodDefRow). met_method_sig recs at.asm rec m.signature ++ flat_map (met_body recs at.asm rec) (body_of m)) (listed (slice_get rec.method_def at.row))) (rec_at recs at)
      (λ rec there.
      all_option Holds (λ (m : MethodDefRow). met_method_sig recs at.asm rec m.signature ++ flat_map (met_body recs at.asm rec) (body_of m)) (slice_get rec.method_def at.row) (λ m is. row_fine rec there m is))
    where
      row_fine : (rec : AsmRec) → slice_get recs at.asm ≡ Some rec → (m : MethodDefRow) → slice_get rec.method_def at.row ≡ Some m → All (met_method_sig recs at.asm rec m.signature ++ flat_map (met_body recs at.asm rec) (body_of m))
      row_fine rec there m is =
          let i : Item = method_item recs at in
          let place : ℕ = token_of table.METHOD_DEF (suc at.row) in
          let home : row_of recs i ≡ Some at = own_home methods_in recs at rec there (place_within rec.method_def at.row m is) in
          let read : Bool = is_read m.signature in
          let bodies = flat_map (body_parts recs at.asm rec place read) (body_of m) in
          let in_row : (p : Part) → Contains (row_parts recs at rec m) p → Contains (parts_of_item recs i at) p = λ p c.
          to_option (λ (r : AsmRec). flat_map (row_parts recs at r) (listed (slice_get r.method_def at.row))) (rec_at recs at) rec p there (to_option (row_parts recs at rec) (slice_get rec.method_def at.row) m p is c) in
          let sigs : (p : Part) → Contains (method_sig_parts recs at.asm rec place m.signature) p → Contains (parts_of_item recs i at) p = λ p c.
          in_row p (Contains-append_left (method_sig_parts recs at.asm rec place m.signature ++ constraints_of recs at.asm rec place) bodies p (Contains-append_left (method_sig_parts recs at.asm rec place m.signature) (constraints_of recs at.asm rec place) p c)) in
          all_join Holds (met_method_sig recs at.asm rec m.signature) (flat_map (met_body recs at.asm rec) (body_of m))
          (method_sig_fine recs records P there_so array kept entry roots marks flawless i at rec home keeps there input place m.signature sigs)
          (all_flat Holds (met_body recs at.asm rec) (body_of m)
          (λ b has.
          body_fine recs records P there_so array kept entry roots marks flawless i at rec home keeps there input place m b sigs
          (λ p c.
          in_row p
          (Contains-append_right (method_sig_parts recs at.asm rec place m.signature ++ constraints_of recs at.asm rec place) bodies p (to_flat (body_parts recs at.asm rec place read) (body_of m) p (record { item = b; there = has; inside = c }))))))

  field_row_fine : (at : RowAt) → Input at → kept (field_item recs at) ≡ true → All (met_field_row recs at)
  unfolding parts_of_field row_of
  field_row_fine at input keeps =
      all_option Holds (λ (rec : AsmRec). flat_map (λ (f : FieldRow). met_good_sig recs at.asm rec f.signature) (listed (slice_get rec.field at.row))) (rec_at recs at)
      (λ rec there.
      all_option Holds (λ (f : FieldRow). met_good_sig recs at.asm rec f.signature) (slice_get rec.field at.row)
      (λ f is.
      sig_fine recs records P there_so array kept entry roots marks flawless (field_item recs at) at rec (own_home fields_in recs at rec there (place_within rec.field at.row f is)) keeps there input (token_of table.FIELD (suc at.row)) f.signature
      (λ p c.
      to_option (λ (r : AsmRec). flat_map (λ (x : FieldRow). sig_parts recs at.asm r (token_of table.FIELD (suc at.row)) x.signature) (listed (slice_get r.field at.row))) (rec_at recs at) rec p there
      (to_option (λ (x : FieldRow). sig_parts recs at.asm rec (token_of table.FIELD (suc at.row)) x.signature) (slice_get rec.field at.row) f p is c))))

  property_row_fine : (at : RowAt) → Input at → kept (prop_item recs at) ≡ true → All (met_property_row recs at)
  unfolding parts_of_property row_of
  property_row_fine at input keeps =
      all_option Holds (λ (rec : AsmRec). flat_map (λ (p : PropertyRow). met_method_sig recs at.asm rec p.signature) (listed (slice_get rec.property at.row))) (rec_at recs at)
      (λ rec there.
      all_option Holds (λ (p : PropertyRow). met_method_sig recs at.asm rec p.signature) (slice_get rec.property at.row)
      (λ x is.
      method_sig_fine recs records P there_so array kept entry roots marks flawless (prop_item recs at) at rec (own_home props_in recs at rec there (place_within rec.property at.row x is)) keeps there input (token_of table.PROPERTY (suc at.row)) x.signature
      (λ p c.
      to_option (λ (r : AsmRec). flat_map (λ (y : PropertyRow). method_sig_parts recs at.asm r (token_of table.PROPERTY (suc at.row)) y.signature) (listed (slice_get r.property at.row))) (rec_at recs at) rec p there
      (to_option (λ (y : PropertyRow). method_sig_parts recs at.asm rec (token_of table.PROPERTY (suc at.row)) y.signature) (slice_get rec.property at.row) x p is c))))

  event_row_fine : (at : RowAt) → Input at → kept (event_item recs at) ≡ true → All (met_event_row recs at)
  unfolding parts_of_event row_of
  event_row_fine at input keeps =
      all_option Holds (λ (rec : AsmRec). flat_map (λ (x : EventRow). met_token recs at.asm rec x.event_type) (listed (slice_get rec.event at.row))) (rec_at recs at)
      (λ rec there.
      all_option Holds (λ (x : EventRow). met_token recs at.asm rec x.event_type) (slice_get rec.event at.row)
      (λ x is.
      let p : Part = type_token_part recs at.asm rec (token_of table.EVENT (suc at.row)) 0 x.event_type in
      token_fine recs records P there_so array kept entry roots marks flawless (event_item recs at) at rec (own_home events_in recs at rec there (place_within rec.event at.row x is)) keeps there input (token_of table.EVENT (suc at.row)) 0 x.event_type
      (to_option (λ (r : AsmRec). flat_map (λ (e : EventRow). type_token_part recs at.asm r (token_of table.EVENT (suc at.row)) 0 e.event_type ∷ []) (listed (slice_get r.event at.row))) (rec_at recs at) rec p there
      (to_option (λ (e : EventRow). type_token_part recs at.asm rec (token_of table.EVENT (suc at.row)) 0 e.event_type ∷ []) (slice_get rec.event at.row) x p is (first_in p [])))))

  -- ---- rows of a type

  impls_fine : (at : RowAt) → Input at → All (met_impls recs kept at)
  impls_fine at input =
      all_option Holds (λ (rec : AsmRec). flat_map (λ (row : MethodImplRow). met_callee recs at.asm rec row.body ++ met_callee recs at.asm rec row.declaration) (filter (is_impl_of recs kept at rec) rec.method_impl)) (rec_at recs at)
      (λ rec there.
      all_flat Holds (λ (row : MethodImplRow). met_callee recs at.asm rec row.body ++ met_callee recs at.asm rec row.declaration) (filter (is_impl_of recs kept at rec) rec.method_impl)
      (λ row c.
      let g = to_place rec.method_impl row (from_filter (is_impl_of recs kept at rec) rec.method_impl row c).0 in
      let is = (records at.asm rec input there).tokens.method_impls g.0 row g.1 in
      all_join Holds (met_callee recs at.asm rec row.body) (met_callee recs at.asm rec row.declaration)
      (plain_fine recs records P there_so array at.asm rec there input row.body (no_spec (table_of row.body) (of_coded rec MethodDefOrRef row.body is.1).table))
      (plain_fine recs records P there_so array at.asm rec there input row.declaration (no_spec (table_of row.declaration) (of_coded rec MethodDefOrRef row.declaration is.2).table))))

  interfaces_fine : (at : RowAt) → Input at → All (met_interfaces recs kept at)
  unfolding parts_of_impl row_of
  interfaces_fine at input =
      all_option Holds (λ (rec : AsmRec). each_row (met_interface recs kept at rec) rec.interface_impl) (rec_at recs at)
      (λ rec there.
      all_each Holds (met_interface recs kept at rec) rec.interface_impl
      (λ k (row : InterfaceImplRow) is.
      all_if Holds (row.class == token_of table.TYPE_DEF (suc at.row) && kept (impl_item recs (at_row at.asm k))) (met_token recs at.asm rec row.interface)
      (λ h. interface_fine rec there k row is (and_parts (row.class == token_of table.TYPE_DEF (suc at.row)) (kept (impl_item recs (at_row at.asm k))) h).1)))
    where
      interface_fine : (rec : AsmRec) → slice_get recs at.asm ≡ Some rec → (k : ℕ) (row : InterfaceImplRow) → slice_get rec.interface_impl k ≡ Some row → kept (impl_item recs (at_row at.asm k)) ≡ true → All (met_token recs at.asm rec row.interface)
      interface_fine rec there k row is keeps =
          let x : RowAt = at_row at.asm k in
          let p : Part = type_token_part recs at.asm rec (token_of table.INTERFACE_IMPL (suc k)) 0 row.interface in
          token_fine recs records P there_so array kept entry roots marks flawless (impl_item recs x) x rec (own_home impls_in recs x rec there (place_within rec.interface_impl k row is)) keeps there input (token_of table.INTERFACE_IMPL (suc k)) 0 row.interface
          (to_option (λ (r : AsmRec). flat_map (λ (y : InterfaceImplRow). type_token_part recs at.asm r (token_of table.INTERFACE_IMPL (suc k)) 0 y.interface ∷ []) (listed (slice_get r.interface_impl k))) (rec_at recs x) rec p there
          (to_option (λ (y : InterfaceImplRow). type_token_part recs at.asm rec (token_of table.INTERFACE_IMPL (suc k)) 0 y.interface ∷ []) (slice_get rec.interface_impl k) row p is (first_in p [])))

  -- a kept type of an input
  module _ (at : RowAt) (rec : AsmRec) (there : slice_get recs at.asm ≡ Some rec) (below : at.row < length rec.type_def) (input : Input at) (keeps : kept (type_item recs at) ≡ true) where
    home : row_of recs (type_item recs at) ≡ Some at
    unfolding row_of
    home = own_home types_in recs at rec there below

    one_rec : (r : AsmRec) → slice_get recs at.asm ≡ Some r → rec ≡ r
    one_rec r e = let g : Some rec ≡ Some r = sym there ∙ e in cc

    in_type : (p : Part) → Contains (extends_of recs at rec ++ constraints_of recs at.asm rec (token_of table.TYPE_DEF (suc at.row))) p → Contains (parts_of_item recs (type_item recs at) at) p
    unfolding parts_of_type
    in_type p c = to_option (λ (r : AsmRec). extends_of recs at r ++ constraints_of recs at.asm r (token_of table.TYPE_DEF (suc at.row))) (rec_at recs at) rec p there c

    extends_by : (t : TypeDefRow) (b : Bool) → (t.extends == 0) ≡ b → slice_get rec.type_def at.row ≡ Some t → All (if b then [] else met_types (type_key recs at.asm rec t.extends))
    extends_by t true e is = all_none Holds
    extends_by t false e is =
        let p : Part = type_token_part recs at.asm rec (token_of table.TYPE_DEF (suc at.row)) 0 t.extends in
        types_fine recs records P there_so array kept entry roots marks flawless (type_item recs at) at rec home keeps there input (token_of table.TYPE_DEF (suc at.row)) 0 t.extends
        (in_type p
        (Contains-append_left (extends_of recs at rec) (constraints_of recs at.asm rec (token_of table.TYPE_DEF (suc at.row))) p
        (to_option (λ (x : TypeDefRow). if x.extends == 0 then [] else type_token_part recs at.asm rec (token_of table.TYPE_DEF (suc at.row)) 0 x.extends ∷ []) (slice_get rec.type_def at.row) t p is
        (subst (λ (c : Bool). Contains (if c then [] else p ∷ []) p) (sym e) (first_in p [])))))

    extends_fine : All (met_extends recs at)
    extends_fine =
        all_option Holds (λ (r : AsmRec). flat_map (λ (t : TypeDefRow). met_token recs at.asm r t.extends) (listed (slice_get r.type_def at.row))) (rec_at recs at)
        (λ r e.
        subst (λ (x : AsmRec). All (flat_map (λ (t : TypeDefRow). met_token recs at.asm x t.extends) (listed (slice_get x.type_def at.row)))) (one_rec r e)
        (all_option Holds (λ (t : TypeDefRow). met_token recs at.asm rec t.extends) (slice_get rec.type_def at.row) (λ t is. extends_by t (t.extends == 0) refl is)))

    type_constraints : All (met_constraints recs at (token_of table.TYPE_DEF (suc at.row)))
    type_constraints =
        let owner : ℕ = token_of table.TYPE_DEF (suc at.row) in
        all_option Holds (λ (r : AsmRec). each_row (met_param recs at.asm r owner) r.generic_param) (rec_at recs at)
        (λ r e.
        subst (λ (x : AsmRec). All (each_row (met_param recs at.asm x owner) x.generic_param)) (one_rec r e)
        (constraints_fine (type_item recs at) at rec home keeps there input owner (λ p c. in_type p (Contains-append_right (extends_of recs at rec) (constraints_of recs at.asm rec owner) p c))))

    -- ---- members are of the same input

    abbrev Here : RowAt → Type 0
    Here m = (m.asm ≡ at.asm)

    here_input : (m : RowAt) → Here m → Input m
    here_input m e = omega (arith, e, input)

    methods_here : Every (λ m. (m.asm ≡ at.asm) × (m.row < length rec.method_def)) (methods_of_type recs at)
    unfolding methods_of_type
    methods_here =
        let Q : RowAt → Type 0 = λ m. (m.asm ≡ at.asm) × (m.row < length rec.method_def) in
        all_option Q (λ (r : AsmRec). flat_map (λ (t : TypeDefRow). map (at_row at.asm) (run_places t.method_list_first t.method_list_end r.method_def)) (listed (slice_get r.type_def at.row))) (rec_at recs at)
        (λ r e.
        subst (λ (x : AsmRec). Every Q (flat_map (λ (t : TypeDefRow). map (at_row at.asm) (run_places t.method_list_first t.method_list_end x.method_def)) (listed (slice_get x.type_def at.row)))) (one_rec r e)
        (all_option Q (λ (t : TypeDefRow). map (at_row at.asm) (run_places t.method_list_first t.method_list_end rec.method_def)) (slice_get rec.type_def at.row)
        (λ t is. all_map Q (at_row at.asm) (run_places t.method_list_first t.method_list_end rec.method_def) (λ k c. (refl, (in_run t.method_list_first t.method_list_end rec.method_def k c).3)))))

    fields_here : Every Here (fields_of_type recs at)
    unfolding fields_of_type
    fields_here =
        all_option Here (λ (r : AsmRec). flat_map (λ (t : TypeDefRow). map (at_row at.asm) (run_places t.field_list_first t.field_list_end r.field)) (listed (slice_get r.type_def at.row))) (rec_at recs at)
        (λ r e.
        all_option Here (λ (t : TypeDefRow). map (at_row at.asm) (run_places t.field_list_first t.field_list_end r.field)) (slice_get r.type_def at.row)
        (λ t is. all_map Here (at_row at.asm) (run_places t.field_list_first t.field_list_end r.field) (λ k c. refl)))

    properties_here : Every Here (properties_of_type recs at)
    unfolding properties_of_type
    properties_here =
        all_option Here (λ (r : AsmRec). map (at_row at.asm) (flat_map (property_places_by r (token_of table.TYPE_DEF (suc at.row))) r.property_map)) (rec_at recs at)
        (λ r e. all_map Here (at_row at.asm) (flat_map (property_places_by r (token_of table.TYPE_DEF (suc at.row))) r.property_map) (λ k c. refl))

    events_here : Every Here (events_of_type recs at)
    unfolding events_of_type
    events_here =
        all_option Here (λ (r : AsmRec). map (at_row at.asm) (flat_map (event_places_by r (token_of table.TYPE_DEF (suc at.row))) r.event_map)) (rec_at recs at)
        (λ r e. all_map Here (at_row at.asm) (flat_map (event_places_by r (token_of table.TYPE_DEF (suc at.row))) r.event_map) (λ k c. refl))

    of_method : (m : RowAt) → m.asm ≡ at.asm → m.row < length rec.method_def → kept (method_item recs m) ≡ true → All (met_constraints recs m (token_of table.METHOD_DEF (suc m.row)))
    unfolding parts_of_method row_of
    of_method m same low keeps = by_row m same low keeps
      where
        in_method : (m : RowAt) (r : AsmRec) (d : MethodDefRow) → slice_get recs m.asm ≡ Some r → slice_get r.method_def m.row ≡ Some d → (p : Part) → Contains (constraints_of recs m.asm r (token_of table.METHOD_DEF (suc m.row))) p → Contains (parts_of_item recs (method_item recs m) m) p
        in_method m r d e is p c =
            let place : ℕ = token_of table.METHOD_DEF (suc m.row) in
            to_option (λ (r : AsmRec). flat_map (row_parts recs m r) (listed (slice_get r.method_def m.row))) (rec_at recs m) r p e
            (to_option (row_parts recs m r) (slice_get r.method_def m.row) d p is
            (Contains-append_left (method_sig_parts recs m.asm r place d.signature ++ constraints_of recs m.asm r place) (flat_map (body_parts recs m.asm r place (is_read d.signature)) (body_of d)) p
            (Contains-append_right (method_sig_parts recs m.asm r place d.signature) (constraints_of recs m.asm r place) p c)))

        method_home : (m : RowAt) (r : AsmRec) → slice_get recs m.asm ≡ Some r → m.row < length r.method_def → row_of recs (method_item recs m) ≡ Some m
        method_home m r e low = own_home methods_in recs m r e low

        by_row : (m : RowAt) → m.asm ≡ at.asm → m.row < length rec.method_def → kept (method_item recs m) ≡ true → All (met_constraints recs m (token_of table.METHOD_DEF (suc m.row)))
        by_row m same low keeps =
            let owner : ℕ = token_of table.METHOD_DEF (suc m.row) in
            all_option Holds (λ (r : AsmRec). each_row (met_param recs m.asm r owner) r.generic_param) (rec_at recs m)
            (λ r e.
            let one : rec ≡ r = one_rec r (ap (slice_get recs) (sym same) ∙ e) in
            let less : m.row < length r.method_def = subst (λ (x : AsmRec). m.row < length x.method_def) one low in
            let d = place_has r.method_def m.row less in
            constraints_fine (method_item recs m) m r (method_home m r e less) keeps e (here_input m same) owner (in_method m r d.0 e d.1))

    type_fine : All (met_in_type recs kept at)
    type_fine =
        let methods : List RowAt = those recs kept (method_item recs) (methods_of_type recs at) in
        let fields : List RowAt = those recs kept (field_item recs) (fields_of_type recs at) in
        let properties : List RowAt = those recs kept (prop_item recs) (properties_of_type recs at) in
        let events : List RowAt = those recs kept (event_item recs) (events_of_type recs at) in
        let extends : List Met = met_extends recs at in
        let interfaces : List Met = met_interfaces recs kept at in
        let in_fields : List Met = flat_map (met_field_row recs) fields in
        let in_methods : List Met = flat_map (met_method_row recs) methods in
        let own : List Met = met_constraints recs at (token_of table.TYPE_DEF (suc at.row)) in
        let of_methods : List Met = flat_map (λ m. met_constraints recs m (token_of table.METHOD_DEF (suc m.row))) methods in
        let in_properties : List Met = flat_map (met_property_row recs) properties in
        let in_events : List Met = flat_map (met_event_row recs) events in
        let impls : List Met = met_impls recs kept at in
        let two = all_join Holds extends interfaces extends_fine (interfaces_fine at input) in
        let three = all_join Holds (extends ++ interfaces) in_fields two
        (all_flat Holds (met_field_row recs) fields (λ f c. let g = from_filter (λ x. kept (field_item recs x)) (fields_of_type recs at) f c in field_row_fine f (here_input f (fields_here.each f g.0)) g.1)) in
        let four = all_join Holds (extends ++ interfaces ++ in_fields) in_methods three
        (all_flat Holds (met_method_row recs) methods (λ m c. let g = from_filter (λ x. kept (method_item recs x)) (methods_of_type recs at) m c in method_row_fine m (here_input m (methods_here.each m g.0).0) g.1)) in
        let five = all_join Holds (extends ++ interfaces ++ in_fields ++ in_methods) own four type_constraints in
        let six = all_join Holds (extends ++ interfaces ++ in_fields ++ in_methods ++ own) of_methods five
        (all_flat Holds (λ m. met_constraints recs m (token_of table.METHOD_DEF (suc m.row))) methods
        (λ m c. let g = from_filter (λ x. kept (method_item recs x)) (methods_of_type recs at) m c in let h = methods_here.each m g.0 in of_method m h.0 h.1 g.1)) in
        let seven = all_join Holds (extends ++ interfaces ++ in_fields ++ in_methods ++ own ++ of_methods) in_properties six
        (all_flat Holds (met_property_row recs) properties (λ p c. let g = from_filter (λ x. kept (prop_item recs x)) (properties_of_type recs at) p c in property_row_fine p (here_input p (properties_here.each p g.0)) g.1)) in
        let eight = all_join Holds (extends ++ interfaces ++ in_fields ++ in_methods ++ own ++ of_methods ++ in_properties) in_events seven
        (all_flat Holds (met_event_row recs) events (λ e c. let g = from_filter (λ x. kept (event_item recs x)) (events_of_type recs at) e c in event_row_fine e (here_input e (events_here.each e g.0)) g.1)) in
        all_join Holds (extends ++ interfaces ++ in_fields ++ in_methods ++ own ++ of_methods ++ in_properties ++ in_events) impls eight (impls_fine at input)

  kept_type : (at : RowAt) → Contains (kept_types recs kept) at → IsKept types_in (type_item recs) recs kept at
  unfolding kept_types
  kept_type at c = from_kept types_in (type_item recs) recs kept at c

  pub types_met_fine : All (met_by_types recs kept)
  unfolding met_by_types
  types_met_fine = all_flat Holds (met_in_type recs kept) (kept_types recs kept) (λ at c. let k = kept_type at c in type_fine at k.rec k.input.there k.below k.input.within k.passes)
