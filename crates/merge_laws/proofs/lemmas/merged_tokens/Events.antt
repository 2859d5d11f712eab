-- The event types in what is left name types.
use Rattle.std.proofs.Common.{◌≡◌, ◌<◌, ◌≤◌, ℕ, suc, ◌+◌, ◌-◌, ◌%◌, List, [], ◌∷◌, length, map, drop, min, Bool, true, false, Option, Some, None, refl, sym, ap, subst, ◌∙◌, arith}
use Rattle.std.specs.Prelude.{slice_get, ◌==◌, if◌then◌else◌}
use Rattle.std.specs.List.{Contains, flat_map}
use Rattle.std.specs.Option.{is_some}
use Rattle.std.proofs.lemmas.Bool.{eq-eqb}
use Rattle.std.proofs.lemmas.List.{length-take, length-drop}
use Rattle.std.proofs.lemmas.List.Elements.{Contains-append_left, Contains-append_right}
use Rattle.il_base.specs.declared.table.TheConstants as table
use Rattle.il_base.specs.declared.cli_format.column.CodedIndex.TheVariants.{TypeDefOrRef}
use Rattle.il_base.specs.declared.world_model.members.EventRow.{EventRow}
use Rattle.il_base.specs.declared.world_model.members.EventMapRow.{EventMapRow}
use Rattle.il_base.specs.declared.world_model.record.AsmRec.{AsmRec}
use Rattle.il_base.specs.world_model.Tokens.{token_of, index_in}
use Rattle.rules.specs.declared.link_rules.row_at.RowAt.{RowAt}
use Rattle.rules.specs.link_rules.Types.{at_row}
use Rattle.rules.specs.link_rules.Members.{run_of}
use Rattle.rules.specs.link_rules.Cycles.{listed, same_row}
use Rattle.rules.specs.type_rules.Rows.{rec_at, run_places}
use Rattle.base_laws.proofs.lemmas.known_laws.Lists.{first_in, to_flat, to_map, to_listed, to_option, to_if, and_then_some, map_some}
use Rattle.rules.specs.mark_rules.Naming.{type_token_part}
use Rattle.rules.specs.mark_rules.Places.{row_of, event_item, events_in}
use Rattle.rules.specs.mark_rules.Shown.{parts_of_item}
use Rattle.rules.specs.mark_rules.Members.{event_places_by, events_of_type}
use Rattle.rules.specs.mark_rules.Properties.{parts_of_event}
use Rattle.rules.specs.merge_rules.Numbers.{Kept, kept_types, kept_events, new_row}
use Rattle.rules.specs.merge_rules.Keys.{TypeKey, type_key}
use Rattle.rules.specs.merge_rules.Order.{Met, met_type, met_types, met_token, met_event_row, met_impls, those, met_in_type, met_by_types}
use Rattle.rules.specs.merge_rules.Attributes.{met_by_attributes}
use Rattle.rules.specs.merge_rules.Rows.{place_token, class_token}
use Rattle.rules.specs.merge_rules.Refs.{Output}
use Rattle.rules.specs.merge_rules.Moved.{moved_type, moved_event_row}
use Rattle.rules.specs.merge_rules.Restricted.{placed_methods, moved_methods, restricted_by, output_of, restricted}
use Rattle.merge_laws.specs.merged_record.Laws.{InputsAreRecords, OwnersAreKept}
use Rattle.merge_laws.proofs.lemmas.merged_record.Tokens.{position_is, row_is, of_coded, index_row}
use Rattle.merge_laws.proofs.lemmas.merged_record.Rows.{IsKept, from_kept, from_places}
use Rattle.merge_laws.proofs.lemmas.merged_record.Owned.{to_range}
use Rattle.merge_laws.specs.merged_owners.Laws.{OwnersStay}
use Rattle.merge_laws.proofs.lemmas.merged_owners.Homes.{own_home}
use Rattle.merge_laws.specs.merged_tokens.Laws.{IsMet, TypeTokensStand, EventsNamed}
use Rattle.merge_laws.proofs.lemmas.merged_tokens.Once.{to_filter}
use Rattle.merge_laws.proofs.lemmas.merged_tokens.Interfaces.{contained, token_parts, some_row}

-- a row of a run is among its places
pub in_places : {A : Type 0} (first end : ℕ) (rows : List A) (k : ℕ) → first ≤ suc k → 1 ≤ first → suc k < end → k < length rows → Contains (run_places first end rows) k
in_places first end rows k from begins ends below =
    let n : length (run_of first end rows) ≡ min (end - first) (length rows - (first - 1)) = length-take (end - first) (drop (first - 1) rows) ∙ ap (min (end - first)) (length-drop (first - 1) rows) in
    let z : (first - 1) + (k - (first - 1)) ≡ k = omega arith in
    subst (λ (j : ℕ). Contains (run_places first end rows) j) z (to_range (first - 1) (length (run_of first end rows)) (k - (first - 1)) (omega arith))

module _ (recs : List AsmRec) (kept : Kept) (records : InputsAreRecords recs) (owners : OwnersAreKept recs kept) where
  -- a kept type by its token
  class_some : (a token : ℕ) (o : Option ℕ) → class_token recs kept a token ≡ o → is_some o ≡ true → (k : ℕ) × (index_in table.TYPE_DEF token ≡ Some k) × Contains (kept_types recs kept) (at_row a k)
  class_some a token None e h = absurd (cc)
  class_some a token (Some owner) e h =
      let k = and_then_some (λ k. place_token table.TYPE_DEF (kept_types recs kept) (at_row a k)) (index_in table.TYPE_DEF token) owner e in
      let n = map_some (λ m. token_of table.TYPE_DEF (suc m) % 4294967296) (new_row (kept_types recs kept) (at_row a k.0)) owner k.2 in
      let p = position_is (same_row (at_row a k.0)) (kept_types recs kept) n.0 n.1 in
      let same : at_row a k.0 ≡ p.item = row_is (at_row a k.0) p.item p.passes in
      (k.0, k.1, subst (λ (y : RowAt). Contains (kept_types recs kept) y) (sym same) (contained (kept_types recs kept) n.0 p.item p.there))

  in_type : (at : RowAt) (x : Met) → Contains (flat_map (met_event_row recs) (those recs kept (event_item recs) (events_of_type recs at))) x → Contains (met_in_type recs kept at) x
  in_type at x c = Contains-append_left _ (met_impls recs kept at) x (Contains-append_right _ (flat_map (met_event_row recs) (those recs kept (event_item recs) (events_of_type recs at))) x c)

  kept_is : (at : RowAt) → Contains (kept_events recs kept) at → IsKept events_in (event_item recs) recs kept at
  unfolding kept_events
  kept_is at c = from_kept events_in (event_item recs) recs kept at c

  module _ (at : RowAt) (listed_at : Contains (kept_events recs kept) at) (rec : AsmRec) (row : EventRow) (there : slice_get recs at.asm ≡ Some rec) (is : slice_get rec.event at.row ≡ Some row) where
    abbrev i : IsKept events_in (event_item recs) recs kept at
    i = kept_is at listed_at

    below : at.row < length rec.event
    below = let same : i.rec ≡ rec = (let g = i.input.there in cc) in subst (λ (r : AsmRec). at.row < length r.event) same i.below

    home : row_of recs (event_item recs at) ≡ Some at
    unfolding row_of
    home = own_home events_in recs at rec there below

    part : Contains (parts_of_item recs (event_item recs at) at) (type_token_part recs at.asm rec (token_of table.EVENT (suc at.row)) 0 row.event_type)
    unfolding parts_of_event
    part =
        let p = type_token_part recs at.asm rec (token_of table.EVENT (suc at.row)) 0 row.event_type in
        to_option (λ (r : AsmRec). flat_map (λ (e : EventRow). type_token_part recs at.asm r (token_of table.EVENT (suc at.row)) 0 e.event_type ∷ []) (listed (slice_get r.event at.row))) (rec_at recs at) rec p there
        (to_option (λ (e : EventRow). type_token_part recs at.asm rec (token_of table.EVENT (suc at.row)) 0 e.event_type ∷ []) (slice_get rec.event at.row) row p is (first_in p []))

    row_met : (k : TypeKey) → type_key recs at.asm rec row.event_type ≡ Some k → Contains (met_event_row recs at) (met_type k)
    row_met k e =
        let names = of_coded rec TypeDefOrRef row.event_type ((records at.asm rec i.input.within there).tokens.events at.row row is) in
        let zeroless : (row.event_type == 0) ≡ false = some_row row.event_type names.begins in
        let inner : Contains (met_token recs at.asm rec row.event_type) (met_type k) =
        subst (λ (b : Bool). Contains (if b then [] else met_types (type_key recs at.asm rec row.event_type)) (met_type k)) (sym zeroless)
        (to_map met_type (listed (type_key recs at.asm rec row.event_type)) k (to_listed (type_key recs at.asm rec row.event_type) k e)) in
        to_option (λ (r : AsmRec). flat_map (λ (x : EventRow). met_token recs at.asm r x.event_type) (listed (slice_get r.event at.row))) (rec_at recs at) rec (met_type k) there
        (to_option (λ (x : EventRow). met_token recs at.asm rec x.event_type) (slice_get rec.event at.row) row (met_type k) is inner)

    in_events : (t : ℕ) (r : AsmRec) (m : EventMapRow) (place : ℕ) → slice_get recs at.asm ≡ Some r → slice_get r.event_map place ≡ Some m → m.parent ≡ token_of table.TYPE_DEF (suc t) → m.event_list_first ≤ suc at.row → suc at.row < m.event_list_end
        → Contains (events_of_type recs (at_row at.asm t)) at
    unfolding events_of_type
    in_events t r m place here at_map own from ends =
        let same : r ≡ rec = cc in
        let begins = (records at.asm r i.input.within here).runs.events.begins place m at_map in
        let long : at.row < length r.event = subst (λ (x : AsmRec). at.row < length x.event) (sym same) below in
        to_option (λ (x : AsmRec). map (at_row at.asm) (flat_map (event_places_by x (token_of table.TYPE_DEF (suc t))) x.event_map)) (rec_at recs (at_row at.asm t)) r at here
        (to_map (at_row at.asm) (flat_map (event_places_by r (token_of table.TYPE_DEF (suc t))) r.event_map) at.row
        (to_flat (event_places_by r (token_of table.TYPE_DEF (suc t))) r.event_map at.row
        (record {
          item = m;
          there = contained r.event_map place m at_map;
          inside =
              to_if (m.parent == token_of table.TYPE_DEF (suc t)) (run_places m.event_list_first m.event_list_end r.event) at.row (eq-eqb m.parent (token_of table.TYPE_DEF (suc t)) own)
              (in_places m.event_list_first m.event_list_end r.event at.row from begins ends long);
        })))

    met : (k : TypeKey) → type_key recs at.asm rec row.event_type ≡ Some k → Contains (output_of recs kept).mets (met_type k)
    unfolding output_of met_by_types
    met k e =
        let w = owners.events at listed_at in
        let c = class_some at.asm w.row.parent (class_token recs kept at.asm w.row.parent) refl w.kept in
        let n = index_row table.TYPE_DEF w.row.parent c.0 c.1 in
        let own : w.row.parent ≡ token_of table.TYPE_DEF (suc c.0) = token_parts w.row.parent table.TYPE_DEF c.0 n.0 n.1 in
        let t : RowAt = at_row at.asm c.0 in
        let among : Contains (events_of_type recs t) at = in_events c.0 w.rec w.row w.place w.there w.is own w.begins w.ends in
        Contains-append_left (flat_map (met_in_type recs kept) (kept_types recs kept)) (met_by_attributes recs kept) (met_type k)
        (to_flat (met_in_type recs kept) (kept_types recs kept) (met_type k)
        (record {
          item = t;
          there = c.2;
          inside =
              in_type t (met_type k)
              (to_flat (met_event_row recs) (those recs kept (event_item recs) (events_of_type recs t)) (met_type k)
              (record { item = at; there = to_filter (λ y. kept (event_item recs y)) (events_of_type recs t) at among i.passes; inside = row_met k e }));
        }))

    event_met : IsMet recs kept at.asm rec row.event_type
    event_met = record {
      item = event_item recs at;
      at = at;
      home = home;
      keeps = i.passes;
      asm = refl;
      there = there;
      input = i.input.within;
      place = token_of table.EVENT (suc at.row);
      offset = 0;
      part = part;
      met = met;
    }

module _ (internal : Bool) (recs : List AsmRec) (kept : Kept) (primary : AsmRec) (records : InputsAreRecords recs) (owners : OwnersAreKept recs kept)
    (stand : (a : ℕ) (rec : AsmRec) (token : ℕ) → IsMet recs kept a rec token → 1 ≤ moved_type (output_of recs kept) a rec token) where
  abbrev output : Output
  output = output_of recs kept

  left_named : (k : ℕ) (row : EventRow) → slice_get (restricted_by internal output (placed_methods (moved_methods output)) primary).event k ≡ Some row → 1 ≤ row.event_type
  unfolding output_of
  left_named k row e =
      let s = from_places recs (λ rec. rec.event) (moved_event_row output) (kept_events recs kept) row (contained _ k row e) in
      let ge : 1 ≤ moved_type output s.at.asm s.rec s.row.event_type = stand s.at.asm s.rec s.row.event_type (event_met recs kept records owners s.at s.listed s.rec s.row s.there s.is) in
      let made : moved_type output s.at.asm s.rec s.row.event_type ≡ row.event_type = ap (λ (r : EventRow). r.event_type) s.made in
      omega (arith, ge, made)

pub events_named : TypeTokensStand → OwnersStay → EventsNamed
unfolding restricted
events_named tokens stay internal recs entry roots kept rec e records marks keeps good refs fit k row there =
    let p = map_some (restricted_by internal (output_of recs kept) (placed_methods (moved_methods (output_of recs kept)))) (slice_get recs 0) rec e in
    left_named internal recs kept p.0 records (stay recs entry roots kept records marks keeps) (λ a r token m. tokens internal recs entry roots kept rec e marks keeps good refs fit a r token m) k row
    (subst (λ (r : AsmRec). slice_get r.event k ≡ Some row) (sym p.2) there)
