-- All flaws of what is marked, as a list, and the least of them.
use Rattle.std.specs.Prelude.{ℕ, List, [], ◌∷◌, ◌++◌, Option, Some, None, Bool, IsTrue, ◌&&◌, not, ◌↔◌, if◌then◌else◌}
use Rattle.std.specs.List.{flat_map}
use Rattle.std.specs.Option.{is_some}
use Rattle.il_base.specs.declared.ids.Item.{Item}
use Rattle.il_base.specs.declared.world_model.members.MethodImplRow.{MethodImplRow}
use Rattle.il_base.specs.declared.world_model.record.AsmRec.{AsmRec}
use Rattle.il_base.specs.declared.world_model.world.Home.{Home}
use Rattle.il_base.specs.declared.world_model.world.World.{World}
use Rattle.rules.specs.declared.link_rules.row_at.RowAt.{RowAt}
use Rattle.rules.specs.link_rules.Linked.{IsWorld}
use Rattle.descriptor_file.specs.declared.root.Root.{Root}
use Rattle.rules.specs.type_rules.Rows.{each_row}
use Rattle.rules.specs.mark_rules.Facts.Fact.{marked}
use Rattle.rules.specs.mark_rules.Places.{row_of, is_core}
use Rattle.rules.specs.mark_rules.Marking.{Marks}
use Rattle.rules.specs.mark_rules.BadItems.{Flaw, flaws_of, ImplRow, impl_rows_by, entry_flaws, before, IsFirstFlaw}
use Rattle.base_laws.specs.flaw_laws.There.{RowsThere}

-- ---- all flaws, where `have` says which items are marked

abbrev pub item_flaws : List AsmRec → (Item → Bool) → Item → List Flaw
item_flaws recs have i = if have i && not (is_core recs i) then flaws_of recs i else []

abbrev pub row_flaws : (Item → Bool) → ImplRow → List Flaw
row_flaws have r = if have r.class && have r.body then r.flaws else []

-- of a row of MethodImpl
abbrev pub impl_flaws_by : List AsmRec → (Item → Bool) → ℕ → AsmRec → ℕ → MethodImplRow → List Flaw
impl_flaws_by recs have a rec k row = flat_map (row_flaws have) (impl_rows_by recs a rec k row)

abbrev pub impl_flaws_in : List AsmRec → (Item → Bool) → ℕ → AsmRec → List Flaw
impl_flaws_in recs have a rec = each_row (impl_flaws_by recs have a rec) rec.method_impl

abbrev pub impl_flaws : List AsmRec → (Item → Bool) → List Flaw
impl_flaws recs have = each_row (impl_flaws_in recs have) recs

abbrev pub home_flaws : World → (Item → Bool) → List Flaw
home_flaws w have = flat_map (λ (h : Home). item_flaws w.recs have h.item) w.homes

abbrev pub all_flaws : World → Option RowAt → (Item → Bool) → List Flaw
all_flaws w entry have = home_flaws w have ++ impl_flaws w.recs have ++ entry_flaws w.recs entry

-- ---- the least

abbrev pub earlier : Option Flaw → Flaw → Option Flaw
earlier None g = Some g
earlier (Some f) g = if before g f then Some g else Some f

-- the least of what was met and of these, where of those at one place the first counts
unfoldable pub first_from : Option Flaw → List Flaw → Option Flaw
first_from best [] = best
first_from best (g ∷ gs) = first_from (earlier best g) gs

-- ---- the law

-- the test says of each item that is there whether it is marked
abbrev pub Tells : List AsmRec → Option RowAt → List Root → (Item → Bool) → Type 0
Tells recs entry roots have = (i : Item) → IsTrue (is_some (row_of recs i)) → IsTrue (have i) ↔ Marks recs entry roots (marked i)

abbrev pub FirstFound : Type 0
FirstFound =
    (w : World) → IsWorld w → RowsThere w.recs → (entry : Option RowAt) (roots : List Root) (have : Item → Bool) → Tells w.recs entry roots have
    → IsFirstFlaw w.recs entry (Marks w.recs entry roots) (first_from None (all_flaws w entry have))
