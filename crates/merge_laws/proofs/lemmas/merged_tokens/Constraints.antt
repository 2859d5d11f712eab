-- The constraints of generic parameters in what is left name types.
use Rattle.std.proofs.Common.{◌≡◌, ◌<◌, ◌≤◌, ℕ, suc, ◌+◌, ◌%◌, List, [], ◌∷◌, ◌++◌, length, map, Bool, true, false, Option, Some, refl, sym, ap, subst, arith}
use Rattle.std.specs.Prelude.{slice_get, ◌==◌, if◌then◌else◌}
use Rattle.std.specs.List.{Contains, flat_map}
use Rattle.std.specs.Option.{option_and_then}
use Rattle.std.proofs.lemmas.Bool.{eq-eqb}
use Rattle.std.proofs.lemmas.List.Elements.{Contains-append_left, Contains-append_right}
use Rattle.il_base.specs.declared.table.TheConstants as table
use Rattle.il_base.specs.declared.cli_format.column.CodedIndex.TheVariants.{TypeDefOrRef}
use Rattle.il_base.specs.declared.world_model.types.TypeDefRow.{TypeDefRow}
use Rattle.il_base.specs.declared.world_model.types.GenericParamRow.{GenericParamRow}
use Rattle.il_base.specs.declared.world_model.types.GenericParamConstraintRow.{GenericParamConstraintRow}
use Rattle.il_base.specs.declared.world_model.record.AsmRec.{AsmRec}
use Rattle.il_base.specs.world_model.Tokens.{token_of, table_of, index_in}
use Rattle.il_base.specs.world_model.Worlds.{types_in}
use Rattle.rules.specs.declared.link_rules.row_at.RowAt.{RowAt}
use Rattle.rules.specs.link_rules.Types.{at_row}
use Rattle.rules.specs.link_rules.Members.{methods_in}
use Rattle.rules.specs.link_rules.Cycles.{listed, same_row}
use Rattle.rules.specs.type_rules.Rows.{each_row, run_places, methods_of_type, fields_of_type}
use Rattle.base_laws.proofs.lemmas.type_laws.Places.{place_within, place_has}
use Rattle.base_laws.proofs.lemmas.known_laws.Lists.{first_in, to_flat, to_map, to_listed, to_option, to_if, to_each, from_map, and_then_some, map_some}
use Rattle.rules.specs.mark_rules.Naming.{Part, type_token_part, method_sig_parts}
use Rattle.rules.specs.mark_rules.Places.{row_of, type_item, method_item, field_item, prop_item, event_item}
use Rattle.rules.specs.mark_rules.Members.{properties_of_type, events_of_type}
use Rattle.rules.specs.mark_rules.Shown.{parts_of_item}
use Rattle.rules.specs.mark_rules.Types.{constraint_of, constraints_of_param, constraints_of, extends_of, parts_of_type}
use Rattle.rules.specs.mark_rules.Calls.{row_parts, parts_of_method}
use Rattle.rules.specs.mark_rules.Bodies.{body_parts, body_of, is_read}
use Rattle.rules.specs.merge_rules.Numbers.{Kept, kept_types, kept_methods, new_row}
use Rattle.rules.specs.merge_rules.Keys.{TypeKey, type_key}
use Rattle.rules.specs.merge_rules.Order.{Met, met_type, met_types, met_token, met_extends, met_interfaces, met_field_row, met_method_row, met_property_row, met_event_row, met_constraint, met_param, met_constraints, met_impls, those, met_in_type, met_by_types}
use Rattle.rules.specs.merge_rules.Attributes.{met_by_attributes}
use Rattle.rules.specs.merge_rules.Rows.{SortedRow, places, place_token, class_token, method_def_token, owner_token, param_token, kept_generic_params, kept_constraints}
use Rattle.rules.specs.merge_rules.Refs.{Output}
use Rattle.rules.specs.merge_rules.Moved.{moved_type}
use Rattle.rules.specs.merge_rules.Restricted.{placed_methods, moved_methods, restricted_by, new_constraint, output_of, restricted}
use Rattle.merge_laws.specs.merged_record.Laws.{InputsAreRecords, OwnersAreKept}
use Rattle.merge_laws.proofs.lemmas.merged_record.Tokens.{position_is, row_is, of_coded, index_row}
use Rattle.merge_laws.proofs.lemmas.merged_record.Rows.{IsKept, from_kept, from_sorted}
use Rattle.merge_laws.proofs.lemmas.merged_record.Sizes.{param_is, constraint_is}
use Rattle.merge_laws.proofs.lemmas.merged_record.Owned.{to_kept}
use Rattle.merge_laws.specs.merged_owners.Laws.{OwnersStay}
use Rattle.merge_laws.proofs.lemmas.merged_owners.Homes.{own_home}
use Rattle.merge_laws.specs.merged_tokens.Laws.{IsMet, TypeTokensStand, ConstraintsNamed}
use Rattle.merge_laws.proofs.lemmas.merged_tokens.Once.{to_filter}
use Rattle.merge_laws.proofs.lemmas.merged_tokens.Interfaces.{contained, token_parts, some_row}
use Rattle.merge_laws.proofs.lemmas.merged_tokens.Events.{in_places}

-- a row that a token places
pub placed_in : (rows : List RowAt) (t a token owner : ℕ) → option_and_then (λ k. place_token t rows (at_row a k)) (index_in t token) ≡ Some owner → (k : ℕ) × (token ≡ token_of t (suc k)) × Contains rows (at_row a k)
placed_in rows t a token owner e =
    let k = and_then_some (λ k. place_token t rows (at_row a k)) (index_in t token) owner e in
    let n = map_some (λ m. token_of t (suc m) % 4294967296) (new_row rows (at_row a k.0)) owner k.2 in
    let p = position_is (same_row (at_row a k.0)) rows n.0 n.1 in
    let same : at_row a k.0 ≡ p.item = row_is (at_row a k.0) p.item p.passes in
    let r = index_row t token k.0 k.1 in
    (k.0, token_parts token t k.0 r.0 r.1, subst (λ (y : RowAt). Contains rows y) (sym same) (contained rows n.0 p.item p.there))

one_of : {A : Type 0} (o : Option A) (x y : A) → o ≡ Some x → o ≡ Some y → x ≡ y
one_of o x y e f = cc

module _ (recs : List AsmRec) (kept : Kept) (records : InputsAreRecords recs) (owners : OwnersAreKept recs kept) where
  type_in : (at : RowAt) (x : Met) → Contains (met_constraints recs at (token_of table.TYPE_DEF (suc at.row))) x → Contains (met_in_type recs kept at) x
  type_in at x c =
      let methods : List RowAt = those recs kept (method_item recs) (methods_of_type recs at) in
      let first : List Met = met_extends recs at ++ met_interfaces recs kept at ++ flat_map (met_field_row recs) (those recs kept (field_item recs) (fields_of_type recs at)) ++ flat_map (met_method_row recs) methods in
      let own : List Met = met_constraints recs at (token_of table.TYPE_DEF (suc at.row)) in
      let others : List Met = flat_map (λ m. met_constraints recs m (token_of table.METHOD_DEF (suc m.row))) methods in
      let props : List Met = flat_map (met_property_row recs) (those recs kept (prop_item recs) (properties_of_type recs at)) in
      let events : List Met = flat_map (met_event_row recs) (those recs kept (event_item recs) (events_of_type recs at)) in
      Contains-append_left (first ++ own ++ others ++ props ++ events) (met_impls recs kept at) x
      (Contains-append_left (first ++ own ++ others ++ props) events x
      (Contains-append_left (first ++ own ++ others) props x (Contains-append_left (first ++ own) others x (Contains-append_right first own x c))))

  method_in_type : (at : RowAt) (x : Met) → Contains (flat_map (λ m. met_constraints recs m (token_of table.METHOD_DEF (suc m.row))) (those recs kept (method_item recs) (methods_of_type recs at))) x → Contains (met_in_type recs kept at) x
  method_in_type at x c =
      let methods : List RowAt = those recs kept (method_item recs) (methods_of_type recs at) in
      let first : List Met = met_extends recs at ++ met_interfaces recs kept at ++ flat_map (met_field_row recs) (those recs kept (field_item recs) (fields_of_type recs at)) ++ flat_map (met_method_row recs) methods in
      let own : List Met = met_constraints recs at (token_of table.TYPE_DEF (suc at.row)) in
      let others : List Met = flat_map (λ m. met_constraints recs m (token_of table.METHOD_DEF (suc m.row))) methods in
      let props : List Met = flat_map (met_property_row recs) (those recs kept (prop_item recs) (properties_of_type recs at)) in
      let events : List Met = flat_map (met_event_row recs) (those recs kept (event_item recs) (events_of_type recs at)) in
      Contains-append_left (first ++ own ++ others ++ props ++ events) (met_impls recs kept at) x
      (Contains-append_left (first ++ own ++ others ++ props) events x (Contains-append_left (first ++ own ++ others) props x (Contains-append_right (first ++ own) others x c)))

  -- ---- the rows of one assembly

  module _ (a : ℕ) (rec : AsmRec) (there : slice_get recs a ≡ Some rec) (input : suc a < length recs) (j k : ℕ) (row : GenericParamConstraintRow) (param : GenericParamRow) (is : slice_get rec.generic_param_constraint j ≡ Some row)
      (of : slice_get rec.generic_param k ≡ Some param) (own : row.owner ≡ token_of table.GENERIC_PARAM (suc k)) where
    abbrev part_here : Part
    part_here = type_token_part recs a rec (token_of table.GENERIC_PARAM_CONSTRAINT (suc j)) 0 row.constraint

    part_in : (owner : ℕ) → param.owner ≡ owner → Contains (constraints_of recs a rec owner) part_here
    unfolding constraints_of
    part_in owner e =
        let z : 0 + j ≡ j = omega arith in
        let y : 0 + k ≡ k = omega arith in
        let one : Contains (constraint_of recs a rec (token_of table.GENERIC_PARAM (suc k)) (0 + j) row) part_here =
        subst (λ (n : ℕ). Contains (constraint_of recs a rec (token_of table.GENERIC_PARAM (suc k)) n row) part_here) (sym z)
        (to_if (row.owner == token_of table.GENERIC_PARAM (suc k)) (part_here ∷ []) part_here (eq-eqb row.owner (token_of table.GENERIC_PARAM (suc k)) own) (first_in part_here [])) in
        let all : Contains (constraints_of_param recs a rec owner (0 + k) param) part_here =
        subst (λ (n : ℕ). Contains (constraints_of_param recs a rec owner n param) part_here) (sym y)
        (to_if (param.owner == owner) (each_row (constraint_of recs a rec (token_of table.GENERIC_PARAM (suc k))) rec.generic_param_constraint) part_here (eq-eqb param.owner owner e)
        (to_each (constraint_of recs a rec (token_of table.GENERIC_PARAM (suc k))) 0 rec.generic_param_constraint part_here (record { place = j; item = row; there = is; inside = one }))) in
        to_each (constraints_of_param recs a rec owner) 0 rec.generic_param part_here (record { place = k; item = param; there = of; inside = all })

    met_in : (at : RowAt) → at.asm ≡ a → (owner : ℕ) → param.owner ≡ owner → (key : TypeKey) → type_key recs a rec row.constraint ≡ Some key → Contains (met_constraints recs (at_row a at.row) owner) (met_type key)
    met_in at asm owner e key f =
        let y : 0 + k ≡ k = omega arith in
        let names = of_coded rec TypeDefOrRef row.constraint ((records a rec input there).tokens.generic_param_constraints j row is).1 in
        let zeroless : (row.constraint == 0) ≡ false = some_row row.constraint names.begins in
        let inner : Contains (met_token recs a rec row.constraint) (met_type key) =
        subst (λ (b : Bool). Contains (if b then [] else met_types (type_key recs a rec row.constraint)) (met_type key)) (sym zeroless)
        (to_map met_type (listed (type_key recs a rec row.constraint)) key (to_listed (type_key recs a rec row.constraint) key f)) in
        let one : Contains (met_constraint recs a rec (token_of table.GENERIC_PARAM (suc k)) row) (met_type key) =
        to_if (row.owner == token_of table.GENERIC_PARAM (suc k)) (met_token recs a rec row.constraint) (met_type key) (eq-eqb row.owner (token_of table.GENERIC_PARAM (suc k)) own) inner in
        let all : Contains (met_param recs a rec owner (0 + k) param) (met_type key) =
        subst (λ (n : ℕ). Contains (met_param recs a rec owner n param) (met_type key)) (sym y)
        (to_if (param.owner == owner) (flat_map (met_constraint recs a rec (token_of table.GENERIC_PARAM (suc k))) rec.generic_param_constraint) (met_type key) (eq-eqb param.owner owner e)
        (to_flat (met_constraint recs a rec (token_of table.GENERIC_PARAM (suc k))) rec.generic_param_constraint (met_type key) (record { item = row; there = contained rec.generic_param_constraint j row is; inside = one }))) in
        to_option (λ (r : AsmRec). each_row (met_param recs a r owner) r.generic_param) (slice_get recs a) rec (met_type key) there
        (to_each (met_param recs a rec owner) 0 rec.generic_param (met_type key) (record { place = k; item = param; there = of; inside = all }))

    -- ---- of a type

    kept_type : (t : ℕ) → Contains (kept_types recs kept) (at_row a t) → IsKept types_in (type_item recs) recs kept (at_row a t)
    unfolding kept_types
    kept_type t c = from_kept types_in (type_item recs) recs kept (at_row a t) c

    type_home_is : (t : ℕ) (c : Contains (kept_types recs kept) (at_row a t)) → row_of recs (type_item recs (at_row a t)) ≡ Some (at_row a t)
    unfolding row_of
    type_home_is t c = let i = kept_type t c in own_home types_in recs (at_row a t) i.rec i.input.there i.below

    type_part : (t : ℕ) → param.owner ≡ token_of table.TYPE_DEF (suc t) → Contains (parts_of_item recs (type_item recs (at_row a t)) (at_row a t)) part_here
    unfolding parts_of_type
    type_part t e =
        to_option (λ (r : AsmRec). extends_of recs (at_row a t) r ++ constraints_of recs a r (token_of table.TYPE_DEF (suc t))) (slice_get recs a) rec part_here there
        (Contains-append_right (extends_of recs (at_row a t) rec) (constraints_of recs a rec (token_of table.TYPE_DEF (suc t))) part_here (part_in (token_of table.TYPE_DEF (suc t)) e))

    met_of_type : (t : ℕ) → param.owner ≡ token_of table.TYPE_DEF (suc t) → Contains (kept_types recs kept) (at_row a t) → (key : TypeKey) → type_key recs a rec row.constraint ≡ Some key → Contains (output_of recs kept).mets (met_type key)
    unfolding output_of met_by_types
    met_of_type t e c key f =
        Contains-append_left (flat_map (met_in_type recs kept) (kept_types recs kept)) (met_by_attributes recs kept) (met_type key)
        (to_flat (met_in_type recs kept) (kept_types recs kept) (met_type key) (record { item = at_row a t; there = c; inside = type_in (at_row a t) (met_type key) (met_in (at_row a t) refl (token_of table.TYPE_DEF (suc t)) e key f) }))

    of_type : (t : ℕ) → param.owner ≡ token_of table.TYPE_DEF (suc t) → Contains (kept_types recs kept) (at_row a t) → IsMet recs kept a rec row.constraint
    of_type t e c = record {
      item = type_item recs (at_row a t);
      at = at_row a t;
      home = type_home_is t c;
      keeps = (kept_type t c).passes;
      asm = refl;
      there = there;
      input = input;
      place = token_of table.GENERIC_PARAM_CONSTRAINT (suc j);
      offset = 0;
      part = type_part t e;
      met = met_of_type t e c;
    }

    -- ---- of a method

    kept_method : (m : ℕ) → Contains (kept_methods recs kept) (at_row a m) → IsKept methods_in (method_item recs) recs kept (at_row a m)
    unfolding kept_methods
    kept_method m c = from_kept methods_in (method_item recs) recs kept (at_row a m) c

    method_home_is : (m : ℕ) (c : Contains (kept_methods recs kept) (at_row a m)) → row_of recs (method_item recs (at_row a m)) ≡ Some (at_row a m)
    unfolding row_of
    method_home_is m c = let i = kept_method m c in own_home methods_in recs (at_row a m) i.rec i.input.there i.below

    method_below : (m : ℕ) → Contains (kept_methods recs kept) (at_row a m) → m < length rec.method_def
    method_below m c = let i = kept_method m c in let same : i.rec ≡ rec = (let g = i.input.there in cc) in subst (λ (r : AsmRec). m < length r.method_def) same i.below

    method_part : (m : ℕ) → param.owner ≡ token_of table.METHOD_DEF (suc m) → Contains (kept_methods recs kept) (at_row a m) → Contains (parts_of_item recs (method_item recs (at_row a m)) (at_row a m)) part_here
    unfolding parts_of_method
    method_part m e c =
        let d = place_has rec.method_def m (method_below m c) in
        let place : ℕ = token_of table.METHOD_DEF (suc m) in
        to_option (λ (r : AsmRec). flat_map (row_parts recs (at_row a m) r) (listed (slice_get r.method_def m))) (slice_get recs a) rec part_here there
        (to_option (row_parts recs (at_row a m) rec) (slice_get rec.method_def m) d.0 part_here d.1
        (Contains-append_left (method_sig_parts recs a rec place d.0.signature ++ constraints_of recs a rec place) (flat_map (body_parts recs a rec place (is_read d.0.signature)) (body_of d.0)) part_here
        (Contains-append_right (method_sig_parts recs a rec place d.0.signature) (constraints_of recs a rec place) part_here (part_in place e))))

    among : (t m : ℕ) (d : TypeDefRow) → slice_get rec.type_def t ≡ Some d → d.method_list_first ≤ suc m → suc m < d.method_list_end → m < length rec.method_def → Contains (methods_of_type recs (at_row a t)) (at_row a m)
    unfolding methods_of_type
    among t m d at from ends below =
        let begins = (records a rec input there).runs.methods.begins t d at in
        to_option (λ (r : AsmRec). flat_map (λ (x : TypeDefRow). map (at_row a) (run_places x.method_list_first x.method_list_end r.method_def)) (listed (slice_get r.type_def t))) (slice_get recs a) rec (at_row a m) there
        (to_option (λ (x : TypeDefRow). map (at_row a) (run_places x.method_list_first x.method_list_end rec.method_def)) (slice_get rec.type_def t) d (at_row a m) at
        (to_map (at_row a) (run_places d.method_list_first d.method_list_end rec.method_def) m (in_places d.method_list_first d.method_list_end rec.method_def m from begins ends below)))

    in_types : (t : ℕ) (d : TypeDefRow) → slice_get rec.type_def t ≡ Some d → kept (type_item recs (at_row a t)) ≡ true → Contains (kept_types recs kept) (at_row a t)
    unfolding kept_types
    in_types t d at h = to_kept types_in (type_item recs) recs kept (at_row a t) rec (record { there = there; within = input }) (place_within rec.type_def t d at) h

    met_of_method : (m : ℕ) → param.owner ≡ token_of table.METHOD_DEF (suc m) → Contains (kept_methods recs kept) (at_row a m) → (key : TypeKey) → type_key recs a rec row.constraint ≡ Some key → Contains (output_of recs kept).mets (met_type key)
    unfolding output_of met_by_types
    met_of_method m e c key f =
        let w = owners.methods (at_row a m) c in
        let same : w.rec ≡ rec = (let g = w.there in cc) in
        let at : slice_get rec.type_def w.place ≡ Some w.row = subst (λ (r : AsmRec). slice_get r.type_def w.place ≡ Some w.row) same w.is in
        let i = kept_method m c in
        Contains-append_left (flat_map (met_in_type recs kept) (kept_types recs kept)) (met_by_attributes recs kept) (met_type key)
        (to_flat (met_in_type recs kept) (kept_types recs kept) (met_type key)
        (record {
          item = at_row a w.place;
          there = in_types w.place w.row at w.kept;
          inside =
              method_in_type (at_row a w.place) (met_type key)
              (to_flat (λ x. met_constraints recs x (token_of table.METHOD_DEF (suc x.row))) (those recs kept (method_item recs) (methods_of_type recs (at_row a w.place))) (met_type key)
              (record {
                item = at_row a m;
                there = to_filter (λ y. kept (method_item recs y)) (methods_of_type recs (at_row a w.place)) (at_row a m) (among w.place m w.row at w.begins w.ends (method_below m c)) i.passes;
                inside = met_in (at_row a m) refl (token_of table.METHOD_DEF (suc m)) e key f;
              }));
        }))

    of_method : (m : ℕ) → param.owner ≡ token_of table.METHOD_DEF (suc m) → Contains (kept_methods recs kept) (at_row a m) → IsMet recs kept a rec row.constraint
    of_method m e c = record {
      item = method_item recs (at_row a m);
      at = at_row a m;
      home = method_home_is m c;
      keeps = (kept_method m c).passes;
      asm = refl;
      there = there;
      input = input;
      place = token_of table.GENERIC_PARAM_CONSTRAINT (suc j);
      offset = 0;
      part = method_part m e c;
      met = met_of_method m e c;
    }

    of_owner : (b : Bool) (owner : ℕ) → (if b then class_token recs kept a param.owner else method_def_token recs kept a param.owner) ≡ Some owner → IsMet recs kept a rec row.constraint
    of_owner true owner e = let p = placed_in (kept_types recs kept) table.TYPE_DEF a param.owner owner e in of_type p.0 p.1 p.2
    of_owner false owner e = let p = placed_in (kept_methods recs kept) table.METHOD_DEF a param.owner owner e in of_method p.0 p.1 p.2

  -- ---- a kept row

  constraint_met : (x : SortedRow) (rec : AsmRec) (row : GenericParamConstraintRow) → Contains (kept_constraints recs kept) x → slice_get recs x.at.asm ≡ Some rec → slice_get rec.generic_param_constraint x.at.row ≡ Some row
      → IsMet recs kept x.at.asm rec row.constraint
  constraint_met x rec row c there is =
      let s = constraint_is recs kept x c in
      let same : s.rec ≡ rec = one_of (slice_get recs x.at.asm) s.rec rec s.input.there there in
      let here : slice_get rec.generic_param_constraint x.at.row ≡ Some s.row = subst (λ (r : AsmRec). slice_get r.generic_param_constraint x.at.row ≡ Some s.row) same s.is in
      let one : s.row ≡ row = one_of (slice_get rec.generic_param_constraint x.at.row) s.row row here is in
      let owned : param_token recs kept x.at.asm row.owner ≡ Some x.owner = subst (λ (r : GenericParamConstraintRow). param_token recs kept x.at.asm r.owner ≡ Some x.owner) one s.owned in
      let p = placed_in (places (kept_generic_params recs kept)) table.GENERIC_PARAM x.at.asm row.owner x.owner owned in
      let m = from_map (λ (y : SortedRow). y.at) (kept_generic_params recs kept) (at_row x.at.asm p.0) p.2 in
      let q = param_is recs kept m.0 m.1 in
      let asm : m.0.at.asm ≡ x.at.asm = ap (λ (y : RowAt). y.asm) m.2 in
      let number : m.0.at.row ≡ p.0 = ap (λ (y : RowAt). y.row) m.2 in
      let other : slice_get recs x.at.asm ≡ Some q.rec = subst (λ (n : ℕ). slice_get recs n ≡ Some q.rec) asm q.input.there in
      let rec_is : q.rec ≡ rec = one_of (slice_get recs x.at.asm) q.rec rec other there in
      let param : slice_get rec.generic_param p.0 ≡ Some q.row = subst (λ (n : ℕ). slice_get rec.generic_param n ≡ Some q.row) number (subst (λ (r : AsmRec). slice_get r.generic_param m.0.at.row ≡ Some q.row) rec_is q.is) in
      let owner : owner_token recs kept x.at.asm q.row.owner ≡ Some m.0.owner = subst (λ (n : ℕ). owner_token recs kept n q.row.owner ≡ Some m.0.owner) asm q.owned in
      of_owner x.at.asm rec there s.input.within x.at.row p.0 row q.row is param p.1 (table_of q.row.owner == table.TYPE_DEF) m.0.owner owner

module _ (internal : Bool) (recs : List AsmRec) (kept : Kept) (primary : AsmRec) (records : InputsAreRecords recs) (owners : OwnersAreKept recs kept)
    (stand : (a : ℕ) (rec : AsmRec) (token : ℕ) → IsMet recs kept a rec token → 1 ≤ moved_type (output_of recs kept) a rec token) where
  abbrev output : Output
  output = output_of recs kept

  left_named : (k : ℕ) (row : GenericParamConstraintRow) → slice_get (restricted_by internal output (placed_methods (moved_methods output)) primary).generic_param_constraint k ≡ Some row → 1 ≤ row.constraint
  unfolding output_of
  left_named k row e =
      let s = from_sorted recs (λ rec. rec.generic_param_constraint) (new_constraint output) (kept_constraints recs kept) row (contained _ k row e) in
      let ge : 1 ≤ moved_type output s.item.at.asm s.rec s.row.constraint = stand s.item.at.asm s.rec s.row.constraint (constraint_met recs kept records owners s.item s.rec s.row s.listed s.there s.is) in
      let made : moved_type output s.item.at.asm s.rec s.row.constraint ≡ row.constraint = ap (λ (r : GenericParamConstraintRow). r.constraint) s.made in
      omega (arith, ge, made)

pub constraints_named : TypeTokensStand → OwnersStay → ConstraintsNamed
unfolding restricted
constraints_named tokens stay internal recs entry roots kept rec e records marks keeps good refs fit k row there =
    let p = map_some (restricted_by internal (output_of recs kept) (placed_methods (moved_methods (output_of recs kept)))) (slice_get recs 0) rec e in
    left_named internal recs kept p.0 records (stay recs entry roots kept records marks keeps) (λ a r token m. tokens internal recs entry roots kept rec e marks keeps good refs fit a r token m) k row
    (subst (λ (r : AsmRec). slice_get r.generic_param_constraint k ≡ Some row) (sym p.2) there)
