-- The sites of an item: those of a method's signature and body, and those of a row, which is a type's with what it extends, an
-- interface row, a field, a property or an event.
use Rattle.std.specs.Prelude.{ℕ, suc, List, [], nat_le, ◌&&◌, Bool, Option, Some, None, slice_get, if◌then◌else◌}
use Rattle.std.specs.List.{list_any, flat_map}
use Rattle.std.specs.Option.{option_and_then, option_map}
use Rattle.il_base.specs.declared.ids.TypeId.{TypeId}
use Rattle.il_base.specs.declared.ids.MethodId.{MethodId}
use Rattle.il_base.specs.declared.ids.Item.{Item}
use Rattle.il_base.specs.declared.ids.Item.TheVariants as item
use Rattle.il_base.specs.declared.table.TheConstants.{METHOD_DEF}
use Rattle.il_base.specs.declared.world_model.members.MethodDefRow.{MethodDefRow}
use Rattle.il_base.specs.declared.world_model.record.AsmRec.{AsmRec}
use Rattle.il_base.specs.world_model.Tokens.{token_of}
use Rattle.il_base.specs.world_model.Worlds.{type_id}
use Rattle.rules.specs.declared.link_rules.row_at.RowAt.{RowAt}
use Rattle.rules.specs.link_rules.Cycles.{listed}
use Rattle.rules.specs.type_rules.Rows.{rec_at, owner_of_field}
use Rattle.rules.specs.mark_rules.Places.{row_of}
use Rattle.rules.specs.mark_rules.Naming.{Part, method_sig_parts}
use Rattle.rules.specs.mark_rules.Types.{parts_of_field, parts_of_impl}
use Rattle.rules.specs.mark_rules.Calls.{row_class}
use Rattle.rules.specs.mark_rules.Properties.{property_owner, event_owner, parts_of_property, parts_of_event}
use Rattle.rules.specs.flow_rules.Methods.{Setting, setting_at}
use Rattle.rules.specs.flow_rules.Steps.{offsets, place_in}
use Rattle.rules.specs.flow_rules.Exits.{exits_of}
use Rattle.rules.specs.flow_rules.Depths.{depth_at}
use Rattle.rules.specs.flow_rules.Moves.{sources_of, flow_of}
use Rattle.rules.specs.flow_rules.Flows.{most_work, work_of, owner_of}
use Rattle.rules.specs.flow_rules.Rounds.{has_depths, depths_found, is_found}
use Rattle.rules.specs.declared.site_rules.site.Site.{Site}
use Rattle.rules.specs.site_rules.Values.{Flowed}
use Rattle.rules.specs.site_rules.Arguments.{sites_of_parts}
use Rattle.rules.specs.site_rules.Bodies.{sites_of_body}
use Rattle.rules.specs.site_rules.Types.{base_parts}

-- ---- methods whose values have a flow: the body has depths, and is within the limit

abbrev pub depths_in : List AsmRec → Setting → List (Option ℕ)
depths_in recs s = depths_found (exits_of recs s)

abbrev pub work_in : List AsmRec → Option TypeId → Setting → ℕ
work_in recs owner s = work_of recs s owner (depths_in recs s)

unfoldable pub has_flow : List AsmRec → Option TypeId → Setting → Bool
has_flow recs owner s = has_depths (exits_of recs s) s.body.max_stack && nat_le (work_in recs owner s) most_work

-- a source of the body, by its place among them, is carried to a slot at the instruction at an offset
unfoldable pub has_source : List AsmRec → Option TypeId → Setting → ℕ → ℕ → ℕ → Bool
has_source recs owner s offset slot k =
    list_any (is_found (flow_of recs s owner (depths_in recs s)) (work_in recs owner s) (place_in (offsets s.body.code) offset) slot)
    (listed (slice_get (sources_of recs s owner) k))

abbrev pub flowed_by : List AsmRec → MethodId → RowAt → Setting → Flowed
flowed_by recs m at s = record {
  recs = recs;
  method = m;
  at = at;
  owner = owner_of recs m;
  setting = s;
  depth = λ offset. depth_at (depths_in recs s) (place_in (offsets s.body.code) offset);
  has = has_source recs (owner_of recs m) s;
}

-- None for a method without a body, or whose body, signature or locals have no reading, and for a body without a flow
unfoldable pub flowed_at : List AsmRec → MethodId → RowAt → Option Flowed
flowed_at recs m at = option_and_then (λ (s : Setting). if has_flow recs (owner_of recs m) s then Some (flowed_by recs m at s) else None) (setting_at recs at)

-- ---- the sites of a method. A body without a flow, with its locals, has none.

abbrev pub signature_parts_of : List AsmRec → RowAt → AsmRec → MethodDefRow → List Part
signature_parts_of recs at rec m = method_sig_parts recs at.asm rec (token_of METHOD_DEF (suc at.row)) m.signature

abbrev pub signature_parts : List AsmRec → RowAt → List Part
signature_parts recs at = flat_map (λ (rec : AsmRec). flat_map (signature_parts_of recs at rec) (listed (slice_get rec.method_def at.row))) (listed (rec_at recs at))

abbrev pub sites_by_flow : List AsmRec → Option TypeId → RowAt → Option Flowed → List Site
sites_by_flow recs owner at (Some f) = sites_of_body f
sites_by_flow recs owner at None = sites_of_parts recs at.asm owner (signature_parts recs at)

unfoldable pub method_sites : List AsmRec → MethodId → RowAt → List Site
method_sites recs m at = sites_by_flow recs (owner_of recs m) at (flowed_at recs m at)

-- ---- the sites of any item

-- the type that a row belongs to, by its row in the assembly
abbrev pub owning : List AsmRec → RowAt → (AsmRec → ℕ → Option ℕ) → Option TypeId
owning recs at owner = option_and_then (λ (rec : AsmRec). option_map (type_id recs at.asm) (owner rec at.row)) (rec_at recs at)

abbrev pub class_of_impl : List AsmRec → RowAt → Option TypeId
class_of_impl recs at = option_map (λ (c : RowAt). type_id recs c.asm c.row) (row_class recs at)

abbrev pub row_sites : List AsmRec → Item → RowAt → List Site
row_sites recs (item.Asm a) at = []
row_sites recs (item.Typ t) at = sites_of_parts recs at.asm (Some t) (base_parts recs at)
row_sites recs (item.Method m) at = method_sites recs m at
row_sites recs (item.Field f) at = sites_of_parts recs at.asm (owning recs at owner_of_field) (parts_of_field recs at)
row_sites recs (item.Prop p) at = sites_of_parts recs at.asm (owning recs at property_owner) (parts_of_property recs at)
row_sites recs (item.Event e) at = sites_of_parts recs at.asm (owning recs at event_owner) (parts_of_event recs at)
row_sites recs (item.Impl r) at = sites_of_parts recs at.asm (class_of_impl recs at) (parts_of_impl recs at)

-- the sites that stand in an item
unfoldable pub item_sites : List AsmRec → Item → List Site
item_sites recs i = flat_map (row_sites recs i) (listed (row_of recs i))
