-- The output is a record.
use Rattle.std.proofs.Common.{◌≡◌, ◌<◌, ◌≤◌, ℕ, zero, suc, ◌+◌, ◌-◌, List, [], ◌∷◌, length, map, take, drop, min, Bool, true, false, ◌⊎◌, inl, inr, Option, Some, None, refl, sym, ap, subst, ◌∙◌, arith}
use Rattle.std.specs.Prelude.{slice_get, ◌||◌, if◌then◌else◌}
use Rattle.std.specs.List.{Contains, list_any, range_with_len}
use Rattle.std.specs.Option.{is_some}
use Rattle.std.proofs.lemmas.List.{length-take, length-drop}
use Rattle.il_base.specs.declared.table.TheConstants as table
use Rattle.il_base.specs.declared.world_model.types.TypeDefRow.{TypeDefRow}
use Rattle.il_base.specs.declared.world_model.members.MethodDefRow.{MethodDefRow}
use Rattle.il_base.specs.declared.world_model.members.PropertyMapRow.{PropertyMapRow}
use Rattle.il_base.specs.declared.world_model.members.EventMapRow.{EventMapRow}
use Rattle.il_base.specs.declared.world_model.record.AsmRec.{AsmRec}
use Rattle.il_base.specs.world_model.Records.{rows_in, AreRuns, RunsFollow, IsRecord}
use Rattle.il_base.specs.world_model.Worlds.{types_in}
use Rattle.rules.specs.declared.link_rules.row_at.RowAt.{RowAt}
use Rattle.rules.specs.link_rules.Types.{at_row}
use Rattle.rules.specs.link_rules.Members.{run_of, methods_in, fields_in}
use Rattle.rules.specs.type_rules.Rows.{run_places}
use Rattle.rules.specs.mark_rules.Places.{type_item, method_item, field_item, prop_item, event_item, props_in, events_in}
use Rattle.rules.specs.merge_rules.Numbers.{Kept, kept_types, kept_methods, kept_fields, kept_properties, kept_events}
use Rattle.rules.specs.merge_rules.Refs.{Output}
use Rattle.rules.specs.merge_rules.Rows.{run_at, class_token, kept_params}
use Rattle.rules.specs.merge_rules.Moved.{moved_type_row, moved_method_row}
use Rattle.rules.specs.merge_rules.Restricted.{moved_methods, placed_methods, keeps_some, property_map_row, event_map_row, restricted_by, output_of, restricted}
use Rattle.merge_laws.specs.merged_record.Laws.{InputsAreRecords, NumbersFit, HasOwner, OwnersAreKept, ReferencesStand, NamesAll, RowsFit, RestrictedIsRecord}
use Rattle.merge_laws.proofs.lemmas.merged_record.Lists.{none_in, first_in, head_or, below_length, map_some, OfInput}
use Rattle.merge_laws.proofs.lemmas.merged_record.Sorting.{Ordered}
use Rattle.merge_laws.proofs.lemmas.merged_record.Runs.{runs_mapped}
use Rattle.merge_laws.proofs.lemmas.merged_record.Rows.{Before, IsKept, from_kept, kept_up, IsParam, from_kept_params, map_places}
use Rattle.merge_laws.proofs.lemmas.merged_record.Sizes.{of_placed, placed_length, left, fields, methods, params, properties, events}
use Rattle.merge_laws.proofs.lemmas.merged_record.Named.{tokens}
use Rattle.merge_laws.proofs.lemmas.merged_record.Order.{sorted}
use Rattle.merge_laws.proofs.lemmas.merged_record.Owned.{to_range, to_kept, Held, held, Owned, runs_here, Lists, Listed, runs_listed, map_lists}

-- ---- kept rows are in inputs

types_up : (recs : List AsmRec) (kept : Kept) → Ordered Before (kept_types recs kept)
unfolding kept_types
types_up recs kept = kept_up types_in (type_item recs) recs kept

methods_up : (recs : List AsmRec) (kept : Kept) → Ordered Before (kept_methods recs kept)
unfolding kept_methods
methods_up recs kept = kept_up methods_in (method_item recs) recs kept

type_kept : (recs : List AsmRec) (kept : Kept) (at : RowAt) → Contains (kept_types recs kept) at → IsKept types_in (type_item recs) recs kept at
unfolding kept_types
type_kept recs kept at c = from_kept types_in (type_item recs) recs kept at c

method_kept : (recs : List AsmRec) (kept : Kept) (at : RowAt) → Contains (kept_methods recs kept) at → IsKept methods_in (method_item recs) recs kept at
unfolding kept_methods
method_kept recs kept at c = from_kept methods_in (method_item recs) recs kept at c

field_kept : (recs : List AsmRec) (kept : Kept) (at : RowAt) → Contains (kept_fields recs kept) at → IsKept fields_in (field_item recs) recs kept at
unfolding kept_fields
field_kept recs kept at c = from_kept fields_in (field_item recs) recs kept at c

property_kept : (recs : List AsmRec) (kept : Kept) (at : RowAt) → Contains (kept_properties recs kept) at → IsKept props_in (prop_item recs) recs kept at
unfolding kept_properties
property_kept recs kept at c = from_kept props_in (prop_item recs) recs kept at c

event_kept : (recs : List AsmRec) (kept : Kept) (at : RowAt) → Contains (kept_events recs kept) at → IsKept events_in (event_item recs) recs kept at
unfolding kept_events
event_kept recs kept at c = from_kept events_in (event_item recs) recs kept at c

-- ---- the type in whose run a kept member is

type_owner : (recs : List AsmRec) (kept : Kept) (first end : TypeDefRow → ℕ) (m : RowAt) → suc m.asm < length recs → HasOwner recs (λ rec. rec.type_def) first end (λ a k t. kept (type_item recs (at_row a k))) m
    → (at : RowAt) × Contains (kept_types recs kept) at × Owned recs (λ rec. rec.type_def) first end at m
unfolding kept_types
type_owner recs kept first end m within h =
    let at : RowAt = at_row m.asm h.place in
    let input : OfInput recs m.asm h.rec = record { there = h.there; within = within } in (
      at,
      to_kept types_in (type_item recs) recs kept at h.rec input (below_length h.rec.type_def h.place h.row h.is) h.kept,
      record { rec = h.rec; there = h.there; row = h.row; is = h.is; asm = refl; begins = h.begins; ends = h.ends },
    )

-- ---- places in a run

to_run : {A : Type 0} (first end : ℕ) (rows : List A) (k : ℕ) → 1 ≤ first → first ≤ suc k → suc k < end → k < length rows → Contains (run_places first end rows) k
to_run first end rows k one begins ends below =
    let n : length (run_of first end rows) ≡ min (end - first) (length rows - (first - 1)) = length-take (end - first) (drop (first - 1) rows) ∙ ap (min (end - first)) (length-drop (first - 1) rows) in
    let m : first - 1 + (k - (first - 1)) ≡ k = omega arith in
    subst (λ (j : ℕ). Contains (run_places first end rows) j) m (to_range (first - 1) (length (run_of first end rows)) (k - (first - 1)) (omega arith))

or_true : (b c : Bool) → c ≡ true → (b || c) ≡ true
or_true true c h = refl
or_true false c h = h

to_any : {A : Type 0} (p : A → Bool) (xs : List A) (x : A) → Contains xs x → p x ≡ true → list_any p xs ≡ true
to_any p [] x c e = absurd (none_in x c)
to_any {A} p (y ∷ xs) x c e =
    elim (head_or y xs x c) [
      | inl s ↦ let h : p y ≡ true = ap p s ∙ e in rw h refl
      | inr t ↦ or_true (p y) (list_any p xs) (to_any p xs x t e)
    ]

some_of : {A : Type 0} (o : Option A) → is_some o ≡ true → (x : A) × (o ≡ Some x)
some_of None e = absurd (cc)
some_of (Some x) e = (x, refl)

-- ---- methods with their addresses

runs_placed : (count : ℕ) (ms : List MethodDefRow) → AreRuns count (λ (m : MethodDefRow). m.param_list_first) (λ m. m.param_list_end) ms → AreRuns count (λ (m : MethodDefRow). m.param_list_first) (λ m. m.param_list_end) (placed_methods ms)
runs_placed count ms r = record {
  begins = λ k m e. let o = of_placed ms k m e in let a = r.begins k o.old o.there in let b = o.first in omega arith;
  never_falls = λ k m e. let o = of_placed ms k m e in let a = r.never_falls k o.old o.there in let b = o.first in let c = o.end in omega arith;
  within = λ k m e. let o = of_placed ms k m e in let a = r.within k o.old o.there in let c = o.end in omega arith;
  meets = λ k m n e f. let o = of_placed ms k m e in let p = of_placed ms (suc k) n f in o.end ∙ r.meets k o.old p.old o.there p.there ∙ sym p.first;
  closes = λ k m e last. let o = of_placed ms k m e in o.end ∙ r.closes k o.old o.there (last ∙ placed_length ms);
}

module _ (internal : Bool) (o : Output) (primary : AsmRec) (records : InputsAreRecords o.recs) (owners : OwnersAreKept o.recs o.kept) where
  abbrev out : AsmRec
  out = left internal o primary

  input_there : (a : ℕ) (rec other : AsmRec) → OfInput o.recs a rec → slice_get o.recs a ≡ Some other → IsRecord other
  input_there a rec other i e = records a other i.within e

  field_runs : AreRuns (rows_in out table.FIELD) (λ (t : TypeDefRow). t.field_list_first) (λ t. t.field_list_end) out.type_def
  field_runs =
      let f : Held TypeDefRow → TypeDefRow = λ x. moved_type_row internal o x.at x.rec x.row in
      let here =
      runs_here o.recs (λ rec. rec.type_def) (λ rec. rows_in rec table.FIELD) (λ (t : TypeDefRow). t.field_list_first) (λ t. t.field_list_end) (kept_types o.recs o.kept) (types_up o.recs o.kept)
      (λ at c rec e. let k = type_kept o.recs o.kept at c in (input_there at.asm k.rec rec k.input e).runs.fields) (kept_fields o.recs o.kept)
      (λ m c. type_owner o.recs o.kept (λ (t : TypeDefRow). t.field_list_first) (λ t. t.field_list_end) m (field_kept o.recs o.kept m c).input.within (owners.fields m c)) in
      subst (λ (n : ℕ). AreRuns n (λ (t : TypeDefRow). t.field_list_first) (λ t. t.field_list_end) out.type_def) (sym (fields internal o primary))
      (subst (λ (rows : List TypeDefRow). AreRuns (length (kept_fields o.recs o.kept)) (λ (t : TypeDefRow). t.field_list_first) (λ t. t.field_list_end) rows) (map_places f o.recs (λ rec. rec.type_def) held (kept_types o.recs o.kept))
      (runs_mapped (length (kept_fields o.recs o.kept)) _ _ (λ (t : TypeDefRow). t.field_list_first) (λ t. t.field_list_end) f _ (λ x. refl) (λ x. refl) here))

  method_runs : AreRuns (rows_in out table.METHOD_DEF) (λ (t : TypeDefRow). t.method_list_first) (λ t. t.method_list_end) out.type_def
  method_runs =
      let f : Held TypeDefRow → TypeDefRow = λ x. moved_type_row internal o x.at x.rec x.row in
      let here =
      runs_here o.recs (λ rec. rec.type_def) (λ rec. rows_in rec table.METHOD_DEF) (λ (t : TypeDefRow). t.method_list_first) (λ t. t.method_list_end) (kept_types o.recs o.kept) (types_up o.recs o.kept)
      (λ at c rec e. let k = type_kept o.recs o.kept at c in (input_there at.asm k.rec rec k.input e).runs.methods) (kept_methods o.recs o.kept)
      (λ m c. type_owner o.recs o.kept (λ (t : TypeDefRow). t.method_list_first) (λ t. t.method_list_end) m (method_kept o.recs o.kept m c).input.within (owners.methods m c)) in
      subst (λ (n : ℕ). AreRuns n (λ (t : TypeDefRow). t.method_list_first) (λ t. t.method_list_end) out.type_def) (sym (methods internal o primary))
      (subst (λ (rows : List TypeDefRow). AreRuns (length (kept_methods o.recs o.kept)) (λ (t : TypeDefRow). t.method_list_first) (λ t. t.method_list_end) rows) (map_places f o.recs (λ rec. rec.type_def) held (kept_types o.recs o.kept))
      (runs_mapped (length (kept_methods o.recs o.kept)) _ _ (λ (t : TypeDefRow). t.method_list_first) (λ t. t.method_list_end) f _ (λ x. refl) (λ x. refl) here))

  param_owner : (m : RowAt) → Contains (kept_params o.recs o.kept) m
      → (at : RowAt) × Contains (kept_methods o.recs o.kept) at × Owned o.recs (λ rec. rec.method_def) (λ (d : MethodDefRow). d.param_list_first) (λ d. d.param_list_end) at m
  param_owner m c =
      let p = from_kept_params o.recs o.kept m c in
      let at = p.0 in
      let q = p.2 in
      let k = method_kept o.recs o.kept at p.1 in
      let one = (input_there at.asm k.rec q.rec k.input q.there).runs.params.begins at.row q.row q.is in
      let b = q.begins in
      let h = q.behind in
      let e = q.ends in
      (at, p.1, record { rec = q.rec; there = q.there; row = q.row; is = q.is; asm = sym q.asm; begins = b; ends = omega arith })

  param_runs : AreRuns (rows_in out table.PARAM) (λ (d : MethodDefRow). d.param_list_first) (λ d. d.param_list_end) out.method_def
  param_runs =
      let f : Held MethodDefRow → MethodDefRow = λ x. moved_method_row o x.at x.rec x.row in
      let here =
      runs_here o.recs (λ rec. rec.method_def) (λ rec. rows_in rec table.PARAM) (λ (d : MethodDefRow). d.param_list_first) (λ d. d.param_list_end) (kept_methods o.recs o.kept) (methods_up o.recs o.kept)
      (λ at c rec e. let k = method_kept o.recs o.kept at c in (input_there at.asm k.rec rec k.input e).runs.params) (kept_params o.recs o.kept) param_owner in
      subst (λ (n : ℕ). AreRuns n (λ (d : MethodDefRow). d.param_list_first) (λ d. d.param_list_end) out.method_def) (sym (params internal o primary))
      (runs_placed (length (kept_params o.recs o.kept)) (moved_methods o)
      (subst (λ (rows : List MethodDefRow). AreRuns (length (kept_params o.recs o.kept)) (λ (d : MethodDefRow). d.param_list_first) (λ d. d.param_list_end) rows) (map_places f o.recs (λ rec. rec.method_def) held (kept_methods o.recs o.kept))
      (runs_mapped (length (kept_params o.recs o.kept)) _ _ (λ (d : MethodDefRow). d.param_list_first) (λ d. d.param_list_end) f _ (λ x. refl) (λ x. refl) here)))

  -- ---- properties and events

  abbrev property_test : ℕ → AsmRec → PropertyMapRow → Bool
  property_test a rec row = keeps_some o (prop_item o.recs) a (run_places row.property_list_first row.property_list_end rec.property)

  abbrev event_test : ℕ → AsmRec → EventMapRow → Bool
  event_test a rec row = keeps_some o (event_item o.recs) a (run_places row.event_list_first row.event_list_end rec.event)

  property_follow : (a : ℕ) (rec : AsmRec) → OfInput o.recs a rec → AreRuns (rows_in rec table.PROPERTY) (λ (r : PropertyMapRow). r.property_list_first) (λ r. r.property_list_end) rec.property_map
  property_follow a rec i = (records a rec i.within i.there).runs.properties

  event_follow : (a : ℕ) (rec : AsmRec) → OfInput o.recs a rec → AreRuns (rows_in rec table.EVENT) (λ (r : EventMapRow). r.event_list_first) (λ r. r.event_list_end) rec.event_map
  event_follow a rec i = (records a rec i.within i.there).runs.events

  abbrev PropertyListed : RowAt → Type 0
  PropertyListed m =
      Listed o.recs (λ rec. rec.property_map) (λ rec. rows_in rec table.PROPERTY) (λ (r : PropertyMapRow). r.property_list_first) (λ r. r.property_list_end) property_test (λ a r. class_token o.recs o.kept a r.parent) property_follow m

  property_listed : (m : RowAt) → Contains (kept_properties o.recs o.kept) m → PropertyListed m
  property_listed m c =
      let h = owners.properties m c in
      let k = property_kept o.recs o.kept m c in
      let input : OfInput o.recs m.asm h.rec = record { there = h.there; within = k.input.within } in
      let same : k.rec ≡ h.rec = let a = k.input.there in let b = h.there in cc in
      let long : length k.rec.property ≡ length h.rec.property = ap (λ (r : AsmRec). length r.property) same in
      let below = k.below in
      let one = (property_follow m.asm h.rec input).begins h.place h.row h.is in
      let p = some_of (class_token o.recs o.kept m.asm h.row.parent) h.kept in
      record {
        rec = h.rec;
        input = input;
        place = h.place;
        row = h.row;
        is = h.is;
        passes = to_any (λ j. o.kept (prop_item o.recs (at_row m.asm j))) (run_places h.row.property_list_first h.row.property_list_end h.rec.property) m.row (to_run h.row.property_list_first h.row.property_list_end h.rec.property m.row one h.begins h.ends (omega arith)) k.passes;
        parent_token = p.0;
        has = p.1;
        begins = h.begins;
        ends = h.ends;
      }

  property_runs : AreRuns (rows_in out table.PROPERTY) (λ (r : PropertyMapRow). r.property_list_first) (λ r. r.property_list_end) out.property_map
  property_runs =
      let here =
      runs_listed o.recs (λ rec. rec.property_map) (λ rec. rows_in rec table.PROPERTY) (λ (r : PropertyMapRow). r.property_list_first) (λ r. r.property_list_end) property_test (λ a r. class_token o.recs o.kept a r.parent) property_follow
      (kept_properties o.recs o.kept) property_listed in
      subst (λ (n : ℕ). AreRuns n (λ (r : PropertyMapRow). r.property_list_first) (λ r. r.property_list_end) out.property_map) (sym (properties internal o primary))
      (subst (λ (rows : List PropertyMapRow). AreRuns (length (kept_properties o.recs o.kept)) (λ (r : PropertyMapRow). r.property_list_first) (λ r. r.property_list_end) rows)
      (map_lists o.recs (λ rec. rec.property_map) (λ rec. rows_in rec table.PROPERTY) (λ (r : PropertyMapRow). r.property_list_first) (λ r. r.property_list_end) property_test (λ a r. class_token o.recs o.kept a r.parent) property_follow (property_map_row o))
      (runs_mapped (length (kept_properties o.recs o.kept)) _ _ (λ (r : PropertyMapRow). r.property_list_first) (λ r. r.property_list_end) (λ (x : Lists PropertyMapRow). property_map_row o x.asm x.row x.parent) _ (λ x. refl) (λ x. refl) here))

  abbrev EventListed : RowAt → Type 0
  EventListed m =
      Listed o.recs (λ rec. rec.event_map) (λ rec. rows_in rec table.EVENT) (λ (r : EventMapRow). r.event_list_first) (λ r. r.event_list_end) event_test (λ a r. class_token o.recs o.kept a r.parent) event_follow m

  event_listed : (m : RowAt) → Contains (kept_events o.recs o.kept) m → EventListed m
  event_listed m c =
      let h = owners.events m c in
      let k = event_kept o.recs o.kept m c in
      let input : OfInput o.recs m.asm h.rec = record { there = h.there; within = k.input.within } in
      let same : k.rec ≡ h.rec = let a = k.input.there in let b = h.there in cc in
      let long : length k.rec.event ≡ length h.rec.event = ap (λ (r : AsmRec). length r.event) same in
      let below = k.below in
      let one = (event_follow m.asm h.rec input).begins h.place h.row h.is in
      let p = some_of (class_token o.recs o.kept m.asm h.row.parent) h.kept in
      record {
        rec = h.rec;
        input = input;
        place = h.place;
        row = h.row;
        is = h.is;
        passes = to_any (λ j. o.kept (event_item o.recs (at_row m.asm j))) (run_places h.row.event_list_first h.row.event_list_end h.rec.event) m.row (to_run h.row.event_list_first h.row.event_list_end h.rec.event m.row one h.begins h.ends (omega arith)) k.passes;
        parent_token = p.0;
        has = p.1;
        begins = h.begins;
        ends = h.ends;
      }

  event_runs : AreRuns (rows_in out table.EVENT) (λ (r : EventMapRow). r.event_list_first) (λ r. r.event_list_end) out.event_map
  event_runs =
      let here =
      runs_listed o.recs (λ rec. rec.event_map) (λ rec. rows_in rec table.EVENT) (λ (r : EventMapRow). r.event_list_first) (λ r. r.event_list_end) event_test (λ a r. class_token o.recs o.kept a r.parent) event_follow
      (kept_events o.recs o.kept) event_listed in
      subst (λ (n : ℕ). AreRuns n (λ (r : EventMapRow). r.event_list_first) (λ r. r.event_list_end) out.event_map) (sym (events internal o primary))
      (subst (λ (rows : List EventMapRow). AreRuns (length (kept_events o.recs o.kept)) (λ (r : EventMapRow). r.event_list_first) (λ r. r.event_list_end) rows)
      (map_lists o.recs (λ rec. rec.event_map) (λ rec. rows_in rec table.EVENT) (λ (r : EventMapRow). r.event_list_first) (λ r. r.event_list_end) event_test (λ a r. class_token o.recs o.kept a r.parent) event_follow (event_map_row o))
      (runs_mapped (length (kept_events o.recs o.kept)) _ _ (λ (r : EventMapRow). r.event_list_first) (λ r. r.event_list_end) (λ (x : Lists EventMapRow). event_map_row o x.asm x.row x.parent) _ (λ x. refl) (λ x. refl) here))

  follow : RunsFollow out
  follow = record { fields = field_runs; methods = method_runs; params = param_runs; events = event_runs; properties = property_runs }

  whole : slice_get o.recs 0 ≡ Some primary → NumbersFit o.recs → ReferencesStand o out → NamesAll out → RowsFit out → IsRecord out
  whole start numbers refs all fit = record { tokens = tokens internal o primary start records fit refs all; runs = follow; sorted = sorted internal o primary records numbers fit }

pub restricted_is : RestrictedIsRecord
unfolding restricted output_of
restricted_is internal recs kept rec e inputs numbers owners refs all fit =
    let o : Output = output_of recs kept in
    let m = map_some (restricted_by internal o (placed_methods (moved_methods o))) (slice_get recs 0) rec e in
    subst IsRecord m.2
    (whole internal o m.0 inputs owners m.1 numbers (subst (ReferencesStand o) (sym m.2) refs) (subst NamesAll (sym m.2) all) (subst RowsFit (sym m.2) fit))
