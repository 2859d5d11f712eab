-- Where each kind of item and of fact begins.
use Rattle.std.specs.Prelude.{◌≡◌, ℕ, ◌+◌, List, Option, Some, None, slice_get, nat_lt, if◌then◌else◌}
use Rattle.std.specs.Option.{option_map, is_some}
use Rattle.il_base.specs.declared.ids.TypeId.{TypeId}
use Rattle.il_base.specs.declared.ids.Item.{Item}
use Rattle.il_base.specs.declared.world_model.world.Home.{Home}
use Rattle.il_base.specs.declared.world_model.world.World.{World}
use Rattle.rules.specs.mark_rules.Places.{row_of}
use Rattle.il_base.specs.declared.world_model.record.AsmRec.{AsmRec}
use Rattle.base_laws.specs.world_laws.Homes.{before_types, before_methods, before_fields, before_props, before_events, before_impls, item_count, place_of}
use Rattle.mark_numbers.specs.declared.starts.Starts.{Starts}
use Rattle.mark_numbers.specs.declared.numbers.Numbers.{Numbers}
use Rattle.mark_numbers.specs.Numbers.{type_total, before_shown, before_reflected, universe}

pub record AreStarts (recs : List AsmRec) (s : Starts) : Type 0 where
  pub types : s.types ≡ before_types recs
  pub methods : s.methods ≡ before_methods recs
  pub fields : s.fields ≡ before_fields recs
  pub props : s.properties ≡ before_props recs
  pub events : s.events ≡ before_events recs
  pub impls : s.interfaces ≡ before_impls recs
  pub items : s.instantiated ≡ item_count recs
  pub shown : s.shown ≡ before_shown recs
  pub reflected : s.reflected ≡ before_reflected recs
  pub universe : s.universe ≡ universe recs

abbrev pub AreNumbers : Numbers → Type 0
AreNumbers n = AreStarts n.world.now.recs n.starts

-- ---- the number of an item and of a type, after so many others

abbrev pub item_number : List AsmRec → ℕ → Item → Option ℕ
item_number recs start i = if is_some (row_of recs i) then Some (start + place_of recs i) else None

abbrev pub type_number : List AsmRec → ℕ → TypeId → Option ℕ
type_number recs start t = if nat_lt t.0 (type_total recs) then Some (start + t.0) else None

abbrev pub item_in : World → ℕ → Option Item
item_in w place = option_map (λ (h : Home). h.item) (slice_get w.homes place)
