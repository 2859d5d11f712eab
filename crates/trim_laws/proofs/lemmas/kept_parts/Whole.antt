-- Parts of kept items name of the core library only what is in the output's world.
use Rattle.std.proofs.Common.{◌≡◌, ◌<◌, ◌≤◌, ℕ, zero, suc, ◌+◌, ◌-◌, List, [], ◌∷◌, ◌++◌, length, Bool, true, false, nat_lt, Option, Some, None, refl, sym, ap, subst, ◌∙◌, arith}
use Rattle.std.specs.Prelude.{slice_get, ◌==◌, if◌then◌else◌}
use Rattle.std.specs.List.{Contains, flat_map}
use Rattle.std.specs.Option.{option_and_then, option_map}
use Rattle.std.proofs.lemmas.Bool.{eq-eqb, ltb-true, ltb-false}
use Rattle.il_base.specs.declared.ids.TypeId.{TypeId}
use Rattle.il_base.specs.declared.ids.Item.{Item}
use Rattle.il_base.specs.declared.ids.Item.TheVariants as item
use Rattle.il_base.specs.declared.table.TheConstants as table
use Rattle.descriptor_file.specs.declared.root.Root.{Root}
use Rattle.il_base.specs.declared.world_model.record.AsmRec.{AsmRec}
use Rattle.il_base.specs.declared.world_model.types.InterfaceImplRow.{InterfaceImplRow}
use Rattle.il_base.specs.world_model.Records.{IsRecord, table_sizes, rows_in}
use Rattle.il_base.specs.world_model.Tokens.{token_of, table_of, row_of as row_number, index_from, row_index, index_in}
use Rattle.il_base.specs.world_model.Worlds.{rows_before, types_in}
use Rattle.il_base.specs.core_table.Record.{core_record}
use Rattle.rules.specs.declared.link_rules.row_at.RowAt.{RowAt}
use Rattle.rules.specs.link_rules.CoreNames.{missing_names, core_with}
use Rattle.rules.specs.link_rules.Linked.{assemblies}
use Rattle.rules.specs.link_rules.Types.{at_row}
use Rattle.rules.specs.link_rules.Members.{home_from, methods_in, fields_in}
use Rattle.base_laws.proofs.lemmas.known_laws.Lists.{none_in, from_flat}
use Rattle.rules.specs.mark_rules.Calls.{row_class}
use Rattle.rules.specs.mark_rules.Facts.Fact.{marked}
use Rattle.rules.specs.mark_rules.Places.{row_of, type_item, method_item, field_item, prop_item, event_item, impl_item, props_in, events_in, impls_in}
use Rattle.rules.specs.mark_rules.Naming.{Part, of_named, of_known, of_parts}
use Rattle.rules.specs.mark_rules.Shown.{parts_of_item}
use Rattle.rules.specs.merge_rules.Numbers.{Kept}
use Rattle.rules.specs.merge_rules.Order.{Met}
use Rattle.merge_laws.specs.merged_record.Laws.{InputsAreRecords, OwnersAreKept}
use Rattle.merge_laws.proofs.lemmas.merged_record.Lists.{OfInput}
use Rattle.merge_laws.proofs.lemmas.merged_record.Tokens.{of_index, one_table}
use Rattle.merge_laws.proofs.lemmas.merged_tokens.Interfaces.{token_parts}
use Rattle.merge_laws.specs.merged_owners.Laws.{OwnersStay}
use Rattle.merge_laws.proofs.lemmas.merged_owners.Every.{all_none}
use Rattle.rules.specs.merged_world_rules.Merge.{Merge, before, output}
use Rattle.rules.specs.merged_world_rules.NewNumbers.{type_core}
use Rattle.trim_laws.specs.marked_merge_rules.Merges.{IsMarkedMerge}
use Rattle.trim_laws.specs.marked_merge_rules.Reads.{CoreStays}
use Rattle.trim_laws.specs.flagged_marks.Laws.{HasKeptClass}
use Rattle.trim_laws.specs.kept_parts.Laws.{PartsStayed}
use Rattle.trim_laws.proofs.lemmas.kept_parts.Uses.{IsCore}
use Rattle.trim_laws.proofs.lemmas.kept_parts.Parts.{Fine, All}
use Rattle.trim_laws.proofs.lemmas.kept_parts.Items.{type_parts, method_parts, field_parts, property_parts, event_parts, impl_parts}
use Rattle.trim_laws.proofs.lemmas.kept_parts.Mets.{by_type, extends_in, own_constraints, type_listed, method_row_met, constraints_met, field_row_met, property_row_met, event_row_met, interface_met}

-- ---- the inputs are records

front : {A : Type 0} (xs : List A) (x : A) (a : ℕ) (y : A) → suc a < length (xs ++ x ∷ []) → slice_get (xs ++ x ∷ []) a ≡ Some y → slice_get xs a ≡ Some y
front [] x a y lt e = absurd (omega (arith, lt))
front (z ∷ xs) x zero y lt e = e
front (z ∷ xs) x (suc a) y lt e = front xs x a y (omega (arith, lt)) e

records_in : (inputs : List AsmRec) → ((a : ℕ) (rec : AsmRec) → slice_get inputs a ≡ Some rec → IsRecord rec) → InputsAreRecords (assemblies inputs)
unfolding assemblies
records_in inputs h a rec lt e = h a rec (front inputs (core_with core_record (missing_names (inputs ++ core_record ∷ []))) a rec lt e)

-- ---- the row of an item

module _ (count : AsmRec → ℕ) where
  record IsRow (recs : List AsmRec) (i n : ℕ) (at : RowAt) : Type 0 where
    asm : ℕ
    rec : AsmRec
    numbered : at.asm ≡ i + asm
    there : slice_get recs asm ≡ Some rec
    below : at.row < count rec
    id : rows_before count recs asm + at.row ≡ n

  row_by : (rec : AsmRec) (recs : List AsmRec) (i n : ℕ) (at : RowAt) (b : Bool) → nat_lt n (count rec) ≡ b
      → (home_from count (suc i) recs (n - count rec) ≡ Some at → IsRow recs (suc i) (n - count rec) at)
      → (if b then Some (at_row i n) else home_from count (suc i) recs (n - count rec)) ≡ Some at → IsRow (rec ∷ recs) i n at
  unfolding rows_before
  row_by rec recs i n at true e h f =
      let same : at_row i n ≡ at = cc in
      let lt = ltb-true n (count rec) e in
      subst (λ (x : RowAt). IsRow (rec ∷ recs) i n x) same (record { asm = 0; rec = rec; numbered = omega arith; there = refl; below = lt; id = omega arith })
  row_by rec recs i n at false e h f =
      let s = h f in
      let le : count rec ≤ n = ltb-false n (count rec) e in
      record { asm = suc s.asm; rec = s.rec; numbered = omega (arith, s.numbered); there = s.there; below = s.below; id = omega (arith, s.id, le) }

  row_from : (recs : List AsmRec) (i n : ℕ) (at : RowAt) → home_from count i recs n ≡ Some at → IsRow recs i n at
  unfolding home_from
  row_from [] i n at e = absurd (cc)
  row_from (rec ∷ recs) i n at e = row_by rec recs i n at (nat_lt n (count rec)) refl (row_from recs (suc i) (n - count rec) at) e

  record HasRow (recs : List AsmRec) (n : ℕ) (at : RowAt) : Type 0 where
    rec : AsmRec
    there : slice_get recs at.asm ≡ Some rec
    below : at.row < count rec
    id : n ≡ rows_before count recs at.asm + at.row

  has_row : (recs : List AsmRec) (n : ℕ) (at : RowAt) → home_from count 0 recs n ≡ Some at → HasRow recs n at
  has_row recs n at e =
      let r = row_from recs 0 n at e in
      let asm : r.asm ≡ at.asm = omega (arith, r.numbered) in
      record {
        rec = r.rec;
        there = subst (λ (a : ℕ). slice_get recs a ≡ Some r.rec) asm r.there;
        below = r.below;
        id = sym (subst (λ (a : ℕ). rows_before count recs a + at.row ≡ n) asm r.id);
      }

-- ---- the class of an interface row

type_rows : (rec : AsmRec) → rows_in rec table.TYPE_DEF ≡ length rec.type_def
unfolding table_sizes
type_rows rec = refl

index_own : (token k : ℕ) → table_of token ≡ table.TYPE_DEF → row_number token ≡ suc k → index_in table.TYPE_DEF token ≡ Some k
index_own token k e f = ap (λ (b : Bool). if b then row_index token else None) (eq-eqb (table_of token) table.TYPE_DEF e) ∙ ap index_from f

record ClassOf (recs : List AsmRec) (at : RowAt) (rec : AsmRec) (row : InterfaceImplRow) : Type 0 where
  place : ℕ
  token : row.class ≡ token_of table.TYPE_DEF (suc place)
  class : row_class recs at ≡ Some (at_row at.asm place)
  below : place < types_in rec

one_more : (n : ℕ) → 1 ≤ n → n ≡ suc (n - 1)
one_more n h = omega (arith, h)

class_of : (recs : List AsmRec) → InputsAreRecords recs → (at : RowAt) (rec : AsmRec) (row : InterfaceImplRow) → OfInput recs at.asm rec → slice_get rec.interface_impl at.row ≡ Some row → ClassOf recs at rec row
class_of recs records at rec row input is =
    let n = of_index rec table.TYPE_DEF row.class ((records at.asm rec input.within input.there).tokens.interface_impls at.row row is).0 in
    let own : table_of row.class ≡ table.TYPE_DEF = sym (one_table table.TYPE_DEF (table_of row.class) n.table) in
    let k : ℕ = row_number row.class - 1 in
    let more : row_number row.class ≡ suc k = one_more (row_number row.class) n.begins in
    let size = type_rows rec in
    let within : row_number row.class ≤ rows_in rec table.TYPE_DEF = subst (λ (t : ℕ). row_number row.class ≤ rows_in rec t) own n.within in
    record {
      place = k;
      token = token_parts row.class table.TYPE_DEF k own more;
      class =
          ap (option_and_then (λ (x : InterfaceImplRow). option_map (at_row at.asm) (index_in table.TYPE_DEF x.class))) (ap (option_and_then (λ (r : AsmRec). slice_get r.interface_impl at.row)) input.there ∙ is)
          ∙ ap (option_map (at_row at.asm)) (index_own row.class k own more);
      below = omega (arith, more, size, within);
    }

-- ---- all parts of a kept item

module _ (m : Merge) (records : InputsAreRecords (before m)) (owners : OwnersAreKept (before m) m.kept) (at : RowAt) (input : suc at.asm < length (before m)) where
  abbrev recs : List AsmRec
  recs = before m

  abbrev M : Met → Type 0
  M x = Contains (output m).mets x

  of_item : (i : Item) → m.kept i ≡ true → row_of recs i ≡ Some at → HasKeptClass m i at → All recs M (parts_of_item recs i at)
  unfolding row_of
  of_item (item.Asm a) keeps home has = all_none (Fine recs M)
  of_item (item.Typ t) keeps home has =
      let r = has_row types_in recs t.0 at home in
      let here : OfInput recs at.asm r.rec = record { there = r.there; within = input } in
      let kept : m.kept (type_item recs at) ≡ true = subst (λ (n : ℕ). m.kept (item.Typ (record { 0 = n })) ≡ true) r.id keeps in
      let c = type_listed recs m.kept at r.rec here r.below kept in
      type_parts recs M records at input (λ x d. by_type recs m.kept at x c (extends_in recs m.kept at x d)) (λ x d. by_type recs m.kept at x c (own_constraints recs m.kept at x d))
  of_item (item.Method n) keeps home has =
      let r = has_row methods_in recs n.0 at home in
      let here : OfInput recs at.asm r.rec = record { there = r.there; within = input } in
      let kept : m.kept (method_item recs at) ≡ true = subst (λ (k : ℕ). m.kept (item.Method (record { 0 = k })) ≡ true) r.id keeps in
      method_parts recs M records at input (method_row_met recs m.kept records owners at r.rec here r.below kept) (constraints_met recs m.kept records owners at r.rec here r.below kept)
  of_item (item.Field f) keeps home has =
      let r = has_row fields_in recs f.0 at home in
      let here : OfInput recs at.asm r.rec = record { there = r.there; within = input } in
      let kept : m.kept (field_item recs at) ≡ true = subst (λ (k : ℕ). m.kept (item.Field (record { 0 = k })) ≡ true) r.id keeps in
      field_parts recs M records at input (field_row_met recs m.kept records owners at r.rec here r.below kept)
  of_item (item.Prop p) keeps home has =
      let r = has_row props_in recs p.0 at home in
      let here : OfInput recs at.asm r.rec = record { there = r.there; within = input } in
      let kept : m.kept (prop_item recs at) ≡ true = subst (λ (k : ℕ). m.kept (item.Prop (record { 0 = k })) ≡ true) r.id keeps in
      property_parts recs M records at input (property_row_met recs m.kept records owners at r.rec here r.below kept)
  of_item (item.Event e) keeps home has =
      let r = has_row events_in recs e.0 at home in
      let here : OfInput recs at.asm r.rec = record { there = r.there; within = input } in
      let kept : m.kept (event_item recs at) ≡ true = subst (λ (k : ℕ). m.kept (item.Event (record { 0 = k })) ≡ true) r.id keeps in
      event_parts recs M records at input (event_row_met recs m.kept records owners at r.rec here r.below kept)
  of_item (item.Impl j) keeps home has =
      let r = has_row impls_in recs j.0 at home in
      let kept : m.kept (impl_item recs at) ≡ true = subst (λ (k : ℕ). m.kept (item.Impl (record { 0 = k })) ≡ true) r.id keeps in
      impl_parts recs M records at input
      (λ rec row there is x c.
      let here : OfInput recs at.asm rec = record { there = there; within = input } in
      let k = class_of recs records at rec row here is in
      interface_met recs m.kept records owners at rec here row k.place is kept k.token (type_listed recs m.kept (at_row at.asm k.place) rec here k.below (has (at_row at.asm k.place) k.class)) x c)

  part_stays : CoreStays m → (i : Item) (t : TypeId) → m.kept i ≡ true → row_of recs i ≡ Some at → HasKeptClass m i at → Contains (of_parts (parts_of_item recs i at)) (marked (item.Typ t)) → (core : IsCore recs t)
      → (s : ℕ) × ((type_core m).to core.at.row ≡ Some s)
  part_stays stays i t keeps home has c core =
      let p = from_flat (λ (p : Part). of_known of_named p.named) (parts_of_item recs i at) (marked (item.Typ t)) c in
      let h = (of_item i keeps home has).each p.item p.there t p.inside core in
      stays h.met t core.at h.inside h.has core.home core.last

pub parts_stay : OwnersStay → PartsStayed
parts_stay stay m entry roots is core_stays i at t core keeps home input has c there last =
    let records = records_in m.inputs is.merge.records in
    part_stays m records (stay (before m) entry roots m.kept records is.marked is.all) at input core_stays i t keeps home has c (record { at = core; home = there; last = last })
