-- What kept types meet is kept: by their bases, interfaces, fields, methods, constraints, properties and events.
use Rattle.std.proofs.Common.{◌≡◌, ◌<◌, ℕ, suc, ◌+◌, List, [], ◌∷◌, ◌++◌, length, Bool, true, false, Option, Some, None, sym, subst, arith}
use Rattle.std.specs.Prelude.{slice_get, ◌==◌, ◌&&◌, if◌then◌else◌}
use Rattle.std.specs.List.{Contains, flat_map}
use Rattle.std.proofs.lemmas.Bool.{and_parts}
use Rattle.std.proofs.lemmas.List.Elements.{Contains-append_left, Contains-append_right}
use Rattle.il_base.specs.declared.ids.Item.{Item}
use Rattle.il_base.specs.declared.table.TheConstants as table
use Rattle.descriptor_file.specs.declared.root.Root.{Root}
use Rattle.il_base.specs.declared.world_model.types.TypeDefRow.{TypeDefRow}
use Rattle.il_base.specs.declared.world_model.types.InterfaceImplRow.{InterfaceImplRow}
use Rattle.il_base.specs.declared.world_model.types.GenericParamRow.{GenericParamRow}
use Rattle.il_base.specs.declared.world_model.types.GenericParamConstraintRow.{GenericParamConstraintRow}
use Rattle.il_base.specs.declared.world_model.members.FieldRow.{FieldRow}
use Rattle.il_base.specs.declared.world_model.members.MethodDefRow.{MethodDefRow}
use Rattle.il_base.specs.declared.world_model.members.PropertyRow.{PropertyRow}
use Rattle.il_base.specs.declared.world_model.members.EventRow.{EventRow}
use Rattle.il_base.specs.declared.world_model.record.AsmRec.{AsmRec}
use Rattle.il_base.specs.world_model.Tokens.{token_of}
use Rattle.il_base.specs.world_model.Worlds.{types_in}
use Rattle.rules.specs.declared.link_rules.row_at.RowAt.{RowAt}
use Rattle.rules.specs.link_rules.Types.{at_row}
use Rattle.rules.specs.link_rules.Cycles.{listed}
use Rattle.rules.specs.link_rules.Members.{methods_in, fields_in}
use Rattle.rules.specs.type_rules.Rows.{rec_at, each_row}
use Rattle.base_laws.proofs.lemmas.type_laws.Places.{place_within}
use Rattle.base_laws.proofs.lemmas.known_laws.Lists.{first_in, to_option, to_if, to_each}
use Rattle.rules.specs.mark_rules.Places.{row_of, type_item, method_item, field_item, prop_item, event_item, impl_item, props_in, events_in, impls_in}
use Rattle.rules.specs.mark_rules.Naming.{Part, type_token_part, sig_parts, method_sig_parts}
use Rattle.rules.specs.mark_rules.Types.{constraint_of, constraints_of_param, constraints_of, extends_of, parts_of_type, parts_of_field, parts_of_impl}
use Rattle.rules.specs.mark_rules.Properties.{parts_of_property, parts_of_event}
use Rattle.rules.specs.mark_rules.Shown.{parts_of_item}
use Rattle.rules.specs.mark_rules.Marking.{Marks}
use Rattle.rules.specs.mark_rules.BadItems.{IsFirstFlaw}
use Rattle.rules.specs.merge_rules.Numbers.{Kept}
use Rattle.rules.specs.merge_rules.Order.{Met, met_token, met_good_sig, met_method_sig, met_field_row, met_property_row, met_event_row, met_constraint, met_param, met_constraints, met_extends, met_interface, met_interfaces}
use Rattle.merge_laws.specs.merged_record.Laws.{InputsAreRecords}
use Rattle.merge_laws.specs.merged_owners.Laws.{AreMarked, AreKept}
use Rattle.merge_laws.proofs.lemmas.merged_owners.Every.{Every, all_if, all_flat, all_option, all_each}
use Rattle.merge_laws.proofs.lemmas.merged_owners.Homes.{own_home, to_place}
use Rattle.trim_laws.proofs.lemmas.marked_mets.Parts.{type_named, sig_part, method_sig_part}
use Rattle.trim_laws.proofs.lemmas.marked_mets.Uses.{CoreIsBare, Fine}
use Rattle.trim_laws.proofs.lemmas.marked_mets.Bodies.{token_fine, good_sig_fine, method_sig_fine, in_constraints}

module _ (recs : List AsmRec) (kept : Kept) (bare : CoreIsBare recs) (records : InputsAreRecords recs) (entry : Option RowAt) (roots : List Root) (stays : AreKept recs entry roots kept) (marks : AreMarked recs entry roots kept)
    (good_all : IsFirstFlaw recs entry (Marks recs entry roots) None) where
  abbrev All : List Met → Type 0
  All ms = Every (Fine recs kept) ms

  abbrev Input : RowAt → Type 0
  Input at = suc at.asm < length recs

  -- ---- constraints of an item's generic parameters

  -- the token of a part of a kept item
  token_of_part : (i : Item) (at : RowAt) (rec : AsmRec) → row_of recs i ≡ Some at → kept i ≡ true → slice_get recs at.asm ≡ Some rec → Input at → (place token : ℕ) → ((token == 0) ≡ false → Contains (parts_of_item recs i at) (type_token_part recs at.asm rec place 0 token))
      → All (met_token recs at.asm rec token)
  token_of_part i at rec home keeps there input place token c =
      token_fine recs kept at.asm rec token (λ z. type_named recs kept entry roots stays marks good_all i at rec home keeps there input place 0 token (c z))

  module _ (i : Item) (at : RowAt) (rec : AsmRec) (home : row_of recs i ≡ Some at) (keeps : kept i ≡ true) (there : slice_get recs at.asm ≡ Some rec) (input : Input at) (owner : ℕ)
      (parts : (p : Part) → Contains (constraints_of recs at.asm rec owner) p → Contains (parts_of_item recs i at) p) where
    constraint_part : (k j : ℕ) (param : GenericParamRow) (row : GenericParamConstraintRow) → slice_get rec.generic_param k ≡ Some param → slice_get rec.generic_param_constraint j ≡ Some row → (param.owner == owner) ≡ true
        → (row.owner == token_of table.GENERIC_PARAM (suc k)) ≡ true → Contains (constraints_of recs at.asm rec owner) (type_token_part recs at.asm rec (token_of table.GENERIC_PARAM_CONSTRAINT (suc j)) 0 row.constraint)
    unfolding constraints_of
    constraint_part k j param row of is own its =
        let p : Part = type_token_part recs at.asm rec (token_of table.GENERIC_PARAM_CONSTRAINT (suc j)) 0 row.constraint in
        let z : 0 + j ≡ j = omega arith in
        let y : 0 + k ≡ k = omega arith in
        let one : Contains (constraint_of recs at.asm rec (token_of table.GENERIC_PARAM (suc k)) (0 + j) row) p =
        subst (λ (n : ℕ). Contains (constraint_of recs at.asm rec (token_of table.GENERIC_PARAM (suc k)) n row) p) (sym z) (to_if (row.owner == token_of table.GENERIC_PARAM (suc k)) (p ∷ []) p its (first_in p [])) in
        let all : Contains (constraints_of_param recs at.asm rec owner (0 + k) param) p =
        subst (λ (n : ℕ). Contains (constraints_of_param recs at.asm rec owner n param) p) (sym y)
        (to_if (param.owner == owner) (each_row (constraint_of recs at.asm rec (token_of table.GENERIC_PARAM (suc k))) rec.generic_param_constraint) p own
        (to_each (constraint_of recs at.asm rec (token_of table.GENERIC_PARAM (suc k))) 0 rec.generic_param_constraint p (record { place = j; item = row; there = is; inside = one }))) in
        to_each (constraints_of_param recs at.asm rec owner) 0 rec.generic_param p (record { place = k; item = param; there = of; inside = all })

    constraint_fine : (k : ℕ) (param : GenericParamRow) (row : GenericParamConstraintRow) → slice_get rec.generic_param k ≡ Some param → Contains rec.generic_param_constraint row → (param.owner == owner) ≡ true
        → (row.owner == token_of table.GENERIC_PARAM (suc k)) ≡ true → All (met_token recs at.asm rec row.constraint)
    constraint_fine k param row of c own its =
        let j = to_place rec.generic_param_constraint row c in
        token_of_part i at rec home keeps there input (token_of table.GENERIC_PARAM_CONSTRAINT (suc j.0)) row.constraint
        (λ z. parts (type_token_part recs at.asm rec (token_of table.GENERIC_PARAM_CONSTRAINT (suc j.0)) 0 row.constraint) (constraint_part k j.0 param row of j.1 own its))

    param_fine : (k : ℕ) (param : GenericParamRow) → slice_get rec.generic_param k ≡ Some param → All (met_param recs at.asm rec owner k param)
    param_fine k param of =
        all_if (Fine recs kept) (param.owner == owner) (flat_map (met_constraint recs at.asm rec (token_of table.GENERIC_PARAM (suc k))) rec.generic_param_constraint)
        (λ own.
        all_flat (Fine recs kept) (met_constraint recs at.asm rec (token_of table.GENERIC_PARAM (suc k))) rec.generic_param_constraint
        (λ (row : GenericParamConstraintRow) c.
        all_if (Fine recs kept) (row.owner == token_of table.GENERIC_PARAM (suc k)) (met_token recs at.asm rec row.constraint) (λ its. constraint_fine k param row of c own its)))

    params_fine : All (each_row (met_param recs at.asm rec owner) rec.generic_param)
    params_fine = all_each (Fine recs kept) (met_param recs at.asm rec owner) rec.generic_param (λ k param of. param_fine k param of)

  -- ---- types

  module _ (at : RowAt) (rec : AsmRec) (there : slice_get recs at.asm ≡ Some rec) (input : Input at) (keeps : kept (type_item recs at) ≡ true) (below : at.row < types_in rec) where
    type_home_is : row_of recs (type_item recs at) ≡ Some at
    unfolding row_of
    type_home_is = own_home types_in recs at rec there below

    in_type : (p : Part) → Contains (extends_of recs at rec ++ constraints_of recs at.asm rec (token_of table.TYPE_DEF (suc at.row))) p → Contains (parts_of_item recs (type_item recs at) at) p
    unfolding parts_of_type
    in_type p c = to_option (λ (r : AsmRec). extends_of recs at r ++ constraints_of recs at.asm r (token_of table.TYPE_DEF (suc at.row))) (rec_at recs at) rec p there c

    extends_part : (t : TypeDefRow) → slice_get rec.type_def at.row ≡ Some t → (t.extends == 0) ≡ false → Contains (extends_of recs at rec) (type_token_part recs at.asm rec (token_of table.TYPE_DEF (suc at.row)) 0 t.extends)
    extends_part t is z =
        let p : Part = type_token_part recs at.asm rec (token_of table.TYPE_DEF (suc at.row)) 0 t.extends in
        to_option (λ (x : TypeDefRow). if x.extends == 0 then [] else type_token_part recs at.asm rec (token_of table.TYPE_DEF (suc at.row)) 0 x.extends ∷ []) (slice_get rec.type_def at.row) t p is
        (subst (λ (b : Bool). Contains (if b then [] else p ∷ []) p) (sym z) (first_in p []))

    extends_row : All (flat_map (λ (t : TypeDefRow). met_token recs at.asm rec t.extends) (listed (slice_get rec.type_def at.row)))
    extends_row =
        all_option (Fine recs kept) (λ (t : TypeDefRow). met_token recs at.asm rec t.extends) (slice_get rec.type_def at.row)
        (λ t is.
        token_of_part (type_item recs at) at rec type_home_is keeps there input (token_of table.TYPE_DEF (suc at.row)) t.extends
        (λ z.
        in_type (type_token_part recs at.asm rec (token_of table.TYPE_DEF (suc at.row)) 0 t.extends)
        (Contains-append_left (extends_of recs at rec) (constraints_of recs at.asm rec (token_of table.TYPE_DEF (suc at.row))) (type_token_part recs at.asm rec (token_of table.TYPE_DEF (suc at.row)) 0 t.extends) (extends_part t is z))))

    type_params : All (each_row (met_param recs at.asm rec (token_of table.TYPE_DEF (suc at.row))) rec.generic_param)
    type_params =
        params_fine (type_item recs at) at rec type_home_is keeps there input (token_of table.TYPE_DEF (suc at.row))
        (λ p c. in_type p (Contains-append_right (extends_of recs at rec) (constraints_of recs at.asm rec (token_of table.TYPE_DEF (suc at.row))) p c))

    -- ---- interfaces

    impl_part : (k : ℕ) (row : InterfaceImplRow) → slice_get rec.interface_impl k ≡ Some row → Contains (parts_of_item recs (impl_item recs (at_row at.asm k)) (at_row at.asm k)) (type_token_part recs at.asm rec (token_of table.INTERFACE_IMPL (suc k)) 0 row.interface)
    unfolding parts_of_impl
    impl_part k row is =
        let p : Part = type_token_part recs at.asm rec (token_of table.INTERFACE_IMPL (suc k)) 0 row.interface in
        to_option (λ (r : AsmRec). flat_map (λ (x : InterfaceImplRow). type_token_part recs at.asm r (token_of table.INTERFACE_IMPL (suc k)) 0 x.interface ∷ []) (listed (slice_get r.interface_impl k))) (slice_get recs at.asm) rec p there
        (to_option (λ (x : InterfaceImplRow). type_token_part recs at.asm rec (token_of table.INTERFACE_IMPL (suc k)) 0 x.interface ∷ []) (slice_get rec.interface_impl k) row p is (first_in p []))

    impl_home : (k : ℕ) (row : InterfaceImplRow) → slice_get rec.interface_impl k ≡ Some row → row_of recs (impl_item recs (at_row at.asm k)) ≡ Some (at_row at.asm k)
    unfolding row_of
    impl_home k row is = own_home impls_in recs (at_row at.asm k) rec there (place_within rec.interface_impl k row is)

    interfaces_rows : All (each_row (met_interface recs kept at rec) rec.interface_impl)
    interfaces_rows =
        all_each (Fine recs kept) (met_interface recs kept at rec) rec.interface_impl
        (λ k (row : InterfaceImplRow) is.
        all_if (Fine recs kept) (row.class == token_of table.TYPE_DEF (suc at.row) && kept (impl_item recs (at_row at.asm k))) (met_token recs at.asm rec row.interface)
        (λ h.
        let passes = (and_parts (row.class == token_of table.TYPE_DEF (suc at.row)) (kept (impl_item recs (at_row at.asm k))) h).1 in
        token_of_part (impl_item recs (at_row at.asm k)) (at_row at.asm k) rec (impl_home k row is) passes there input (token_of table.INTERFACE_IMPL (suc k)) row.interface (λ z. impl_part k row is)))

  pub extends_fine : (at : RowAt) → Input at → kept (type_item recs at) ≡ true → ((rec : AsmRec) → slice_get recs at.asm ≡ Some rec → at.row < types_in rec) → All (met_extends recs at)
  extends_fine at input keeps below =
      all_option (Fine recs kept) (λ (rec : AsmRec). flat_map (λ (t : TypeDefRow). met_token recs at.asm rec t.extends) (listed (slice_get rec.type_def at.row))) (rec_at recs at)
      (λ rec there. extends_row at rec there input keeps (below rec there))

  pub interfaces_fine : (at : RowAt) → Input at → kept (type_item recs at) ≡ true → ((rec : AsmRec) → slice_get recs at.asm ≡ Some rec → at.row < types_in rec) → All (met_interfaces recs kept at)
  interfaces_fine at input keeps below =
      all_option (Fine recs kept) (λ (rec : AsmRec). each_row (met_interface recs kept at rec) rec.interface_impl) (rec_at recs at) (λ rec there. interfaces_rows at rec there input keeps (below rec there))

  pub own_constraints : (at : RowAt) → Input at → kept (type_item recs at) ≡ true → ((rec : AsmRec) → slice_get recs at.asm ≡ Some rec → at.row < types_in rec) → All (met_constraints recs at (token_of table.TYPE_DEF (suc at.row)))
  own_constraints at input keeps below =
      all_option (Fine recs kept) (λ (rec : AsmRec). each_row (met_param recs at.asm rec (token_of table.TYPE_DEF (suc at.row))) rec.generic_param) (rec_at recs at) (λ rec there. type_params at rec there input keeps (below rec there))

  -- ---- fields

  module _ (at : RowAt) (input : Input at) (keeps : kept (field_item recs at) ≡ true) where
    field_home_is : (rec : AsmRec) (f : FieldRow) → slice_get recs at.asm ≡ Some rec → slice_get rec.field at.row ≡ Some f → row_of recs (field_item recs at) ≡ Some at
    unfolding row_of
    field_home_is rec f there is = own_home fields_in recs at rec there (place_within rec.field at.row f is)

    field_part : (rec : AsmRec) (f : FieldRow) → slice_get recs at.asm ≡ Some rec → slice_get rec.field at.row ≡ Some f → (p : Part) → Contains (sig_parts recs at.asm rec (token_of table.FIELD (suc at.row)) f.signature) p
        → Contains (parts_of_item recs (field_item recs at) at) p
    unfolding parts_of_field
    field_part rec f there is p c =
        to_option (λ (r : AsmRec). flat_map (λ (x : FieldRow). sig_parts recs at.asm r (token_of table.FIELD (suc at.row)) x.signature) (listed (slice_get r.field at.row))) (rec_at recs at) rec p there
        (to_option (λ (x : FieldRow). sig_parts recs at.asm rec (token_of table.FIELD (suc at.row)) x.signature) (slice_get rec.field at.row) f p is c)

    pub field_row_fine : All (met_field_row recs at)
    field_row_fine =
        all_option (Fine recs kept) (λ (rec : AsmRec). flat_map (λ (f : FieldRow). met_good_sig recs at.asm rec f.signature) (listed (slice_get rec.field at.row))) (rec_at recs at)
        (λ rec there.
        all_option (Fine recs kept) (λ (f : FieldRow). met_good_sig recs at.asm rec f.signature) (slice_get rec.field at.row)
        (λ f is.
        good_sig_fine recs kept at.asm rec f.signature
        (λ s e.
        sig_part recs kept entry roots stays marks good_all (field_item recs at) at rec (field_home_is rec f there is) keeps there input (token_of table.FIELD (suc at.row)) f.signature s e (field_part rec f there is))))

  -- ---- properties and events

  module _ (at : RowAt) (input : Input at) (keeps : kept (prop_item recs at) ≡ true) where
    property_home_is : (rec : AsmRec) (x : PropertyRow) → slice_get recs at.asm ≡ Some rec → slice_get rec.property at.row ≡ Some x → row_of recs (prop_item recs at) ≡ Some at
    unfolding row_of
    property_home_is rec x there is = own_home props_in recs at rec there (place_within rec.property at.row x is)

    property_part : (rec : AsmRec) (x : PropertyRow) → slice_get recs at.asm ≡ Some rec → slice_get rec.property at.row ≡ Some x → (p : Part) → Contains (method_sig_parts recs at.asm rec (token_of table.PROPERTY (suc at.row)) x.signature) p
        → Contains (parts_of_item recs (prop_item recs at) at) p
    unfolding parts_of_property
    property_part rec x there is p c =
        to_option (λ (r : AsmRec). flat_map (λ (y : PropertyRow). method_sig_parts recs at.asm r (token_of table.PROPERTY (suc at.row)) y.signature) (listed (slice_get r.property at.row))) (rec_at recs at) rec p there
        (to_option (λ (y : PropertyRow). method_sig_parts recs at.asm rec (token_of table.PROPERTY (suc at.row)) y.signature) (slice_get rec.property at.row) x p is c)

    pub property_row_fine : All (met_property_row recs at)
    property_row_fine =
        all_option (Fine recs kept) (λ (rec : AsmRec). flat_map (λ (x : PropertyRow). met_method_sig recs at.asm rec x.signature) (listed (slice_get rec.property at.row))) (rec_at recs at)
        (λ rec there.
        all_option (Fine recs kept) (λ (x : PropertyRow). met_method_sig recs at.asm rec x.signature) (slice_get rec.property at.row)
        (λ x is.
        method_sig_fine recs kept at.asm rec x.signature
        (λ s e.
        method_sig_part recs kept entry roots stays marks good_all (prop_item recs at) at rec (property_home_is rec x there is) keeps there input (token_of table.PROPERTY (suc at.row)) x.signature s e (property_part rec x there is))))

  module _ (at : RowAt) (input : Input at) (keeps : kept (event_item recs at) ≡ true) where
    event_home_is : (rec : AsmRec) (x : EventRow) → slice_get recs at.asm ≡ Some rec → slice_get rec.event at.row ≡ Some x → row_of recs (event_item recs at) ≡ Some at
    unfolding row_of
    event_home_is rec x there is = own_home events_in recs at rec there (place_within rec.event at.row x is)

    event_part : (rec : AsmRec) (x : EventRow) → slice_get recs at.asm ≡ Some rec → slice_get rec.event at.row ≡ Some x
        → Contains (parts_of_item recs (event_item recs at) at) (type_token_part recs at.asm rec (token_of table.EVENT (suc at.row)) 0 x.event_type)
    unfolding parts_of_event
    event_part rec x there is =
        let p : Part = type_token_part recs at.asm rec (token_of table.EVENT (suc at.row)) 0 x.event_type in
        to_option (λ (r : AsmRec). flat_map (λ (y : EventRow). type_token_part recs at.asm r (token_of table.EVENT (suc at.row)) 0 y.event_type ∷ []) (listed (slice_get r.event at.row))) (rec_at recs at) rec p there
        (to_option (λ (y : EventRow). type_token_part recs at.asm rec (token_of table.EVENT (suc at.row)) 0 y.event_type ∷ []) (slice_get rec.event at.row) x p is (first_in p []))

    pub event_row_fine : All (met_event_row recs at)
    event_row_fine =
        all_option (Fine recs kept) (λ (rec : AsmRec). flat_map (λ (x : EventRow). met_token recs at.asm rec x.event_type) (listed (slice_get rec.event at.row))) (rec_at recs at)
        (λ rec there.
        all_option (Fine recs kept) (λ (x : EventRow). met_token recs at.asm rec x.event_type) (slice_get rec.event at.row)
        (λ x is. token_of_part (event_item recs at) at rec (event_home_is rec x there is) keeps there input (token_of table.EVENT (suc at.row)) x.event_type (λ z. event_part rec x there is)))

  -- ---- constraints of methods

  module _ (at : RowAt) (input : Input at) (keeps : kept (method_item recs at) ≡ true) (rec : AsmRec) (there : slice_get recs at.asm ≡ Some rec) (d : MethodDefRow) (is : slice_get rec.method_def at.row ≡ Some d) where
    method_home_is : row_of recs (method_item recs at) ≡ Some at
    unfolding row_of
    method_home_is = own_home methods_in recs at rec there (place_within rec.method_def at.row d is)

    method_params : All (each_row (met_param recs at.asm rec (token_of table.METHOD_DEF (suc at.row))) rec.generic_param)
    method_params =
        params_fine (method_item recs at) at rec method_home_is keeps there input (token_of table.METHOD_DEF (suc at.row))
        (λ p c. in_constraints recs kept bare records entry roots stays marks good_all at rec there input keeps d is p c)

  pub method_constraints : (at : RowAt) → Input at → kept (method_item recs at) ≡ true → ((rec : AsmRec) → slice_get recs at.asm ≡ Some rec → (d : MethodDefRow) × (slice_get rec.method_def at.row ≡ Some d))
      → All (met_constraints recs at (token_of table.METHOD_DEF (suc at.row)))
  method_constraints at input keeps has =
      all_option (Fine recs kept) (λ (rec : AsmRec). each_row (met_param recs at.asm rec (token_of table.METHOD_DEF (suc at.row))) rec.generic_param) (rec_at recs at)
      (λ rec there. let d = has rec there in method_params at input keeps rec there d.0 d.1)
