-- The columns of interfaces in what is left name types.
use Rattle.std.proofs.Common.{◌≡◌, ◌≤◌, ℕ, suc, ◌+◌, ◌%◌, List, [], ◌∷◌, Bool, true, false, Some, refl, sym, ap, subst, ◌∙◌, arith}
use Rattle.std.specs.Prelude.{slice_get, ◌==◌, ◌&&◌, if◌then◌else◌}
use Rattle.std.specs.List.{Contains, flat_map}
use Rattle.std.proofs.lemmas.Bool.{eq-eqb, ne_eqb, and_from}
use Rattle.std.proofs.lemmas.Option.{slice_get_within, get_or_from_slice_get}
use Rattle.std.proofs.lemmas.List.Elements.{Contains-append_left, Contains-append_right}
use Rattle.il_base.specs.declared.table.TheConstants as table
use Rattle.il_base.specs.declared.cli_format.column.CodedIndex.TheVariants.{TypeDefOrRef}
use Rattle.il_base.specs.declared.world_model.types.InterfaceImplRow.{InterfaceImplRow}
use Rattle.il_base.specs.declared.world_model.record.AsmRec.{AsmRec}
use Rattle.il_base.specs.world_model.Tokens.{token_of, table_of, row_of as row_number, index_in}
use Rattle.rules.specs.declared.link_rules.row_at.RowAt.{RowAt}
use Rattle.rules.specs.link_rules.Types.{at_row}
use Rattle.rules.specs.link_rules.Cycles.{listed, same_row}
use Rattle.rules.specs.type_rules.Rows.{rec_at, each_row}
use Rattle.base_laws.proofs.lemmas.type_laws.Places.{place_within}
use Rattle.base_laws.proofs.lemmas.known_laws.Lists.{first_in, to_flat, to_map, to_listed, to_option, to_if, to_each, and_then_some, map_some}
use Rattle.rules.specs.mark_rules.Naming.{type_token_part}
use Rattle.rules.specs.mark_rules.Places.{row_of, impl_item, impls_in}
use Rattle.rules.specs.mark_rules.Shown.{parts_of_item}
use Rattle.rules.specs.mark_rules.Types.{parts_of_impl}
use Rattle.rules.specs.merge_rules.Numbers.{Kept, kept_types, new_row}
use Rattle.rules.specs.merge_rules.Keys.{TypeKey, type_key}
use Rattle.rules.specs.merge_rules.Order.{Met, met_type, met_types, met_token, met_extends, met_interface, met_interfaces, met_in_type, met_by_types}
use Rattle.rules.specs.merge_rules.Attributes.{met_by_attributes}
use Rattle.rules.specs.merge_rules.Rows.{SortedRow, all_rows, sorted_at, place_token, class_token, sorted_impl, kept_interfaces}
use Rattle.rules.specs.merge_rules.Refs.{Output}
use Rattle.rules.specs.merge_rules.Moved.{moved_type}
use Rattle.rules.specs.merge_rules.Restricted.{placed_methods, moved_methods, restricted_by, new_impl, output_of, restricted}
use Rattle.merge_laws.specs.merged_record.Laws.{InputsAreRecords}
use Rattle.merge_laws.proofs.lemmas.merged_record.Lists.{from_if, from_all, OfInput}
use Rattle.merge_laws.proofs.lemmas.merged_record.Sorting.{sorted_in}
use Rattle.merge_laws.proofs.lemmas.merged_record.Tokens.{position_is, row_is, of_coded, index_row}
use Rattle.merge_laws.proofs.lemmas.merged_record.Rows.{from_sorted, from_sorted_at}
use Rattle.merge_laws.proofs.lemmas.merged_owners.Homes.{own_home}
use Rattle.merge_laws.specs.merged_tokens.Laws.{IsMet, TypeTokensStand, InterfacesNamed}

pub contained : {A : Type 0} (xs : List A) (n : ℕ) (x : A) → slice_get xs n ≡ Some x → Contains xs x
contained xs n x e = (n, slice_get_within xs n x e, get_or_from_slice_get xs n x x e)

-- a token by its table and its row
pub token_parts : (token t k : ℕ) → table_of token ≡ t → row_number token ≡ suc k → token ≡ token_of t (suc k)
token_parts token t k e f = omega (arith, e, f)

pub some_row : (token : ℕ) → 1 ≤ row_number token → (token == 0) ≡ false
some_row token h = ne_eqb token 0 (λ e. let z : row_number token ≡ 0 = ap row_number e in absurd (omega (arith, h, z)))

module _ (recs : List AsmRec) (kept : Kept) (records : InputsAreRecords recs) where
  -- the kept row of an interface, and the kept type that it is of
  pub record KeptImpl (x : SortedRow) : Type 0 where
    pub rec : AsmRec
    pub input : OfInput recs x.at.asm rec
    pub row : InterfaceImplRow
    pub is : slice_get rec.interface_impl x.at.row ≡ Some row
    pub passes : kept (impl_item recs x.at) ≡ true
    pub owned : class_token recs kept x.at.asm row.class ≡ Some x.owner

  impl_one : (a k : ℕ) (rec : AsmRec) (row : InterfaceImplRow) (x : SortedRow) → OfInput recs a rec → slice_get rec.interface_impl k ≡ Some row → kept (impl_item recs (at_row a k)) ≡ true
      → Contains (sorted_at a k (λ token. token) (class_token recs kept a row.class)) x → KeptImpl x
  impl_one a k rec row x input is passes c =
      let s = from_sorted_at a k (λ token. token) (class_token recs kept a row.class) x c in
      let asm : x.at.asm ≡ a = ap (λ (y : RowAt). y.asm) s.2 in
      let place : x.at.row ≡ k = ap (λ (y : RowAt). y.row) s.2 in
      record {
        rec = rec;
        input = subst (λ (n : ℕ). OfInput recs n rec) (sym asm) input;
        row = row;
        is = ap (slice_get rec.interface_impl) place ∙ is;
        passes = subst (λ (y : RowAt). kept (impl_item recs y) ≡ true) (sym s.2) passes;
        owned = ap (λ (n : ℕ). class_token recs kept n row.class) asm ∙ s.1 ∙ ap (λ (n : ℕ). Some n) (sym s.3);
      }

  pub impl_is : (x : SortedRow) → Contains (kept_interfaces recs kept) x → KeptImpl x
  unfolding kept_interfaces
  impl_is x c =
      let r = from_all (λ rec. rec.interface_impl) (sorted_impl recs kept) recs x (sorted_in (λ (y : SortedRow). y.key) (all_rows (λ rec. rec.interface_impl) (sorted_impl recs kept) recs) x c) in
      let i = from_if (kept (impl_item recs (at_row r.asm r.place))) (sorted_at r.asm r.place (λ token. token) (class_token recs kept r.asm r.row.class)) x r.inside in
      impl_one r.asm r.place r.rec r.row x r.input r.there i.0 i.1

  in_type : (at : RowAt) (x : Met) → Contains (met_interfaces recs kept at) x → Contains (met_in_type recs kept at) x
  in_type at x c =
      Contains-append_left _ _ x
      (Contains-append_left _ _ x
      (Contains-append_left _ _ x
      (Contains-append_left _ _ x
      (Contains-append_left _ _ x
      (Contains-append_left _ _ x
      (Contains-append_left _ _ x (Contains-append_right (met_extends recs at) (met_interfaces recs kept at) x c)))))))

  module _ (x : SortedRow) (i : KeptImpl x) where
    home : row_of recs (impl_item recs x.at) ≡ Some x.at
    unfolding row_of
    home = own_home impls_in recs x.at i.rec i.input.there (place_within i.rec.interface_impl x.at.row i.row i.is)

    part : Contains (parts_of_item recs (impl_item recs x.at) x.at) (type_token_part recs x.at.asm i.rec (token_of table.INTERFACE_IMPL (suc x.at.row)) 0 i.row.interface)
    unfolding parts_of_impl
    part =
        let p = type_token_part recs x.at.asm i.rec (token_of table.INTERFACE_IMPL (suc x.at.row)) 0 i.row.interface in
        to_option (λ (rec : AsmRec). flat_map (λ (row : InterfaceImplRow). type_token_part recs x.at.asm rec (token_of table.INTERFACE_IMPL (suc x.at.row)) 0 row.interface ∷ []) (listed (slice_get rec.interface_impl x.at.row))) (rec_at recs x.at) i.rec p i.input.there
        (to_option (λ (row : InterfaceImplRow). type_token_part recs x.at.asm i.rec (token_of table.INTERFACE_IMPL (suc x.at.row)) 0 row.interface ∷ []) (slice_get i.rec.interface_impl x.at.row) i.row p i.is (first_in p []))

    -- the kept type
    class : (k : ℕ) × (index_in table.TYPE_DEF i.row.class ≡ Some k) × Contains (kept_types recs kept) (at_row x.at.asm k)
    class =
        let k = and_then_some (λ k. place_token table.TYPE_DEF (kept_types recs kept) (at_row x.at.asm k)) (index_in table.TYPE_DEF i.row.class) x.owner i.owned in
        let n = map_some (λ m. token_of table.TYPE_DEF (suc m) % 4294967296) (new_row (kept_types recs kept) (at_row x.at.asm k.0)) x.owner k.2 in
        let p = position_is (same_row (at_row x.at.asm k.0)) (kept_types recs kept) n.0 n.1 in
        let same : at_row x.at.asm k.0 ≡ p.item = row_is (at_row x.at.asm k.0) p.item p.passes in
        (k.0, k.1, subst (λ (y : RowAt). Contains (kept_types recs kept) y) (sym same) (contained (kept_types recs kept) n.0 p.item p.there))

    met : (k : TypeKey) → type_key recs x.at.asm i.rec i.row.interface ≡ Some k → Contains (output_of recs kept).mets (met_type k)
    unfolding output_of met_by_types
    met k e =
        let c = class in
        let at : RowAt = at_row x.at.asm c.0 in
        let r = index_row table.TYPE_DEF i.row.class c.0 c.1 in
        let own : i.row.class ≡ token_of table.TYPE_DEF (suc c.0) = token_parts i.row.class table.TYPE_DEF c.0 r.0 r.1 in
        let names = of_coded i.rec TypeDefOrRef i.row.interface ((records x.at.asm i.rec i.input.within i.input.there).tokens.interface_impls x.at.row i.row i.is).1 in
        let zeroless : (i.row.interface == 0) ≡ false = some_row i.row.interface names.begins in
        let inner : Contains (met_token recs x.at.asm i.rec i.row.interface) (met_type k) =
        subst (λ (b : Bool). Contains (if b then [] else met_types (type_key recs x.at.asm i.rec i.row.interface)) (met_type k)) (sym zeroless)
        (to_map met_type (listed (type_key recs x.at.asm i.rec i.row.interface)) k (to_listed (type_key recs x.at.asm i.rec i.row.interface) k e)) in
        let z : 0 + x.at.row ≡ x.at.row = omega arith in
        let row : Contains (met_interface recs kept at i.rec (0 + x.at.row) i.row) (met_type k) =
        subst (λ (n : ℕ). Contains (met_interface recs kept at i.rec n i.row) (met_type k)) (sym z)
        (to_if (i.row.class == token_of table.TYPE_DEF (suc at.row) && kept (impl_item recs (at_row at.asm x.at.row))) (met_token recs at.asm i.rec i.row.interface) (met_type k)
        (and_from (i.row.class == token_of table.TYPE_DEF (suc at.row)) (kept (impl_item recs (at_row at.asm x.at.row))) (eq-eqb i.row.class (token_of table.TYPE_DEF (suc at.row)) own) i.passes) inner) in
        let rows : Contains (met_interfaces recs kept at) (met_type k) =
        to_option (λ (rec : AsmRec). each_row (met_interface recs kept at rec) rec.interface_impl) (rec_at recs at) i.rec (met_type k) i.input.there
        (to_each (met_interface recs kept at i.rec) 0 i.rec.interface_impl (met_type k) (record { place = x.at.row; item = i.row; there = i.is; inside = row })) in
        Contains-append_left (flat_map (met_in_type recs kept) (kept_types recs kept)) (met_by_attributes recs kept) (met_type k)
        (to_flat (met_in_type recs kept) (kept_types recs kept) (met_type k) (record { item = at; there = c.2; inside = in_type at (met_type k) rows }))

    pub impl_met : IsMet recs kept x.at.asm i.rec i.row.interface
    impl_met = record {
      item = impl_item recs x.at;
      at = x.at;
      home = home;
      keeps = i.passes;
      asm = refl;
      there = i.input.there;
      input = i.input.within;
      place = token_of table.INTERFACE_IMPL (suc x.at.row);
      offset = 0;
      part = part;
      met = met;
    }

module _ (internal : Bool) (recs : List AsmRec) (kept : Kept) (primary : AsmRec) (records : InputsAreRecords recs)
    (stand : (a : ℕ) (rec : AsmRec) (token : ℕ) → IsMet recs kept a rec token → 1 ≤ moved_type (output_of recs kept) a rec token) where
  abbrev output : Output
  output = output_of recs kept

  left_named : (k : ℕ) (row : InterfaceImplRow) → slice_get (restricted_by internal output (placed_methods (moved_methods output)) primary).interface_impl k ≡ Some row → 1 ≤ row.interface
  unfolding output_of
  left_named k row e =
      let s = from_sorted recs (λ rec. rec.interface_impl) (new_impl output) (kept_interfaces recs kept) row (contained _ k row e) in
      let i = impl_is recs kept records s.item s.listed in
      let same : s.rec ≡ i.rec = let f = s.there in let g = i.input.there in cc in
      let one : i.row ≡ s.row = let f = s.is in let g = i.is in let h : slice_get s.rec.interface_impl s.item.at.row ≡ slice_get i.rec.interface_impl s.item.at.row = ap (λ (r : AsmRec). slice_get r.interface_impl s.item.at.row) same in cc in
      let ge : 1 ≤ moved_type output s.item.at.asm i.rec i.row.interface = stand s.item.at.asm i.rec i.row.interface (impl_met recs kept records s.item i) in
      let there : moved_type output s.item.at.asm i.rec i.row.interface ≡ moved_type output s.item.at.asm s.rec s.row.interface = (λ j. moved_type output s.item.at.asm (sym same j) (one j).interface) in
      let made : moved_type output s.item.at.asm s.rec s.row.interface ≡ row.interface = ap (λ (r : InterfaceImplRow). r.interface) s.made in
      omega (arith, ge, there, made)

pub interfaces_named : TypeTokensStand → InterfacesNamed
unfolding restricted
interfaces_named tokens internal recs entry roots kept rec e records marks keeps good refs fit k row there =
    let p = map_some (restricted_by internal (output_of recs kept) (placed_methods (moved_methods (output_of recs kept)))) (slice_get recs 0) rec e in
    left_named internal recs kept p.0 records (λ a r token m. tokens internal recs entry roots kept rec e marks keeps good refs fit a r token m) k row
    (subst (λ (r : AsmRec). slice_get r.interface_impl k ≡ Some row) (sym p.2) there)
