-- The rows of maps by the tables of an output are those of the definition.
use Rattle.std.proofs.Common.{◌≡◌, ℕ, suc, ◌-◌, List, [], ◌∷◌, ◌++◌, length, map, refl, length-drop}
use Rattle.std.specs.Prelude.{if◌then◌else◌}
use Rattle.std.specs.List.{list_any, flat_map, range_with_len}
use Rattle.std.proofs.lemmas.List.{length-take}
use Rattle.il_base.specs.declared.table.TheConstants as table
use Rattle.il_base.specs.declared.world_model.members.PropertyMapRow.{PropertyMapRow}
use Rattle.il_base.specs.declared.world_model.members.EventMapRow.{EventMapRow}
use Rattle.il_base.specs.declared.world_model.record.AsmRec.{AsmRec}
use Rattle.rules.specs.link_rules.Members.{run_of}
use Rattle.rules.specs.link_rules.Cycles.{listed}
use Rattle.rules.specs.type_rules.Rows.{each_from}
use Rattle.rules.specs.merge_rules.Numbers.{inputs}
use Rattle.rules.specs.merge_rules.Rows.{run_at}
use Rattle.rules.specs.merge_rules.Refs.{Output}
use Rattle.rules.specs.merge_rules.Restricted.{new_property_map, new_event_map}
use Rattle.merge_plan.specs.declared.kept.Kind.TheVariants.{Properties, Events}
use Rattle.merge_plan.specs.declared.kept_tables.tables.KeptTables.{KeptTables}
use Rattle.merge_plan.specs.kept_tables.Kept.{AreKept}
use Rattle.merge_plan.specs.kept_tables.Places.{token_in}
use Rattle.rules.specs.merge_rules.Rows.{all_rows}
use Rattle.merged_tables.specs.merged_maps.Maps.{run_length, keeps_row, property_map_of, property_maps_by, event_map_of, event_maps_by}
use Rattle.merged_tables.specs.merged_maps.Laws.{AreMaps}

run_is : {A : Type 0} (first end : ℕ) (rows : List A) → run_length first end (length rows) ≡ length (run_of first end rows)
run_is first end rows = simp (length-take, length-drop) refl

-- where the number of a row doesn't matter
each_is : {A B : Type 0} (f : A → List B) (g : ℕ → A → List B) → ((k : ℕ) (x : A) → f x ≡ g k x) → (k : ℕ) (xs : List A) → flat_map f xs ≡ each_from g k xs
each_is f g same k [] = refl
each_is f g same k (x ∷ xs) = λ i. same k x i ++ each_is f g same (suc k) xs i

module _ (o : Output) (t : KeptTables) (are : AreKept o.recs o.kept t) where
  property_is : (a : ℕ) (rec : AsmRec) (k : ℕ) (row : PropertyMapRow) → property_map_of o.recs o.kept t a rec row ≡ new_property_map o a rec k row
  property_is a rec k row = λ i.
      if list_any (keeps_row Properties o.recs o.kept a) (range_with_len (row.property_list_first - 1) (run_is row.property_list_first row.property_list_end rec.property i))
      then map
      (λ parent. record {
        parent = parent;
        property_list_first = run_at (are.items.properties i) a row.property_list_first;
        property_list_end = run_at (are.items.properties i) a row.property_list_end;
      })
      (listed (token_in table.TYPE_DEF (are.items.types i) a row.parent)) else []

  event_is : (a : ℕ) (rec : AsmRec) (k : ℕ) (row : EventMapRow) → event_map_of o.recs o.kept t a rec row ≡ new_event_map o a rec k row
  event_is a rec k row = λ i.
      if list_any (keeps_row Events o.recs o.kept a) (range_with_len (row.event_list_first - 1) (run_is row.event_list_first row.event_list_end rec.event i))
      then map
      (λ parent. record {
        parent = parent;
        event_list_first = run_at (are.items.events i) a row.event_list_first;
        event_list_end = run_at (are.items.events i) a row.event_list_end;
      })
      (listed (token_in table.TYPE_DEF (are.items.types i) a row.parent)) else []

  properties_tell : property_maps_by o.recs o.kept t ≡ all_rows (λ rec. rec.property_map) (new_property_map o) o.recs
  unfolding property_maps_by
  properties_tell = λ i. flat_map (λ (x : ℕ × AsmRec). each_is (property_map_of o.recs o.kept t x.0 x.1) (new_property_map o x.0 x.1) (property_is x.0 x.1) 0 x.1.property_map i) (inputs o.recs)

  events_tell : event_maps_by o.recs o.kept t ≡ all_rows (λ rec. rec.event_map) (new_event_map o) o.recs
  unfolding event_maps_by
  events_tell = λ i. flat_map (λ (x : ℕ × AsmRec). each_is (event_map_of o.recs o.kept t x.0 x.1) (new_event_map o x.0 x.1) (event_is x.0 x.1) 0 x.1.event_map i) (inputs o.recs)

  pub all_tell : AreMaps o t
  all_tell = record { properties = properties_tell; events = events_tell }
