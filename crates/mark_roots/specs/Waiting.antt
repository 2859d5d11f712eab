-- Elements that wait for their types.
use Rattle.std.specs.Prelude.{ℕ, List, [], map, Option, Some, None, slice_get, nat_eq, ◌||◌, if◌then◌else◌}
use Rattle.std.specs.Option.{option_map_or}
use Rattle.il_base.specs.declared.ids.TypeId.{TypeId}
use Rattle.il_base.specs.declared.ids.Item.TheVariants as item
use Rattle.il_base.specs.declared.world_model.record.AsmRec.{AsmRec}
use Rattle.il_base.specs.world_model.Worlds.{type_id}
use Rattle.descriptor_file.specs.declared.root.Root.{Root}
use Rattle.rules.specs.declared.link_rules.row_at.RowAt.{RowAt}
use Rattle.type_tables.specs.Groups.{AreGroups}
use Rattle.rules.specs.mark_rules.Facts.{Fact}
use Rattle.rules.specs.mark_rules.Roots.{no_type, root_type, root_members, waits_for}
use Rattle.mark_roots.specs.declared.waiting.Waiting.{Waiting}

-- the type for which an element waits
abbrev pub waits : List AsmRec → Root → Option RowAt
waits recs r = if no_type r || r.required then None else root_type recs r

abbrev pub key_by : List AsmRec → Option RowAt → ℕ
key_by recs None = 0
key_by recs (Some at) = (type_id recs at.asm at.row).0

-- by what an element is grouped
abbrev pub key_of : List AsmRec → Root → ℕ
key_of recs r = key_by recs (waits recs r)

abbrev pub kept_with : List AsmRec → TypeId → Root → RowAt → List Fact
kept_with recs t r at = if nat_eq (type_id recs at.asm at.row).0 t.0 then root_members recs at r else []

abbrev pub waits_at : List AsmRec → List Root → TypeId → ℕ → List Fact
waits_at recs roots t k = option_map_or (waits_for recs (item.Typ t)) (slice_get roots k) []

pub record AreWaiting (recs : List AsmRec) (roots : List Root) (w : Waiting) : Type 0 where
  pub groups : AreGroups (map (key_of recs) roots) w.groups
