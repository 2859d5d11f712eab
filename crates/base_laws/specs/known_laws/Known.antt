-- What a fact gives together with marked items that are known. Of a type only those slots are tried that a method or a MethodImpl
-- row of the type or of one of its bases has, and these methods, only the interface rows of these types, and of each row only the
-- methods of what it implies.
use Rattle.std.specs.Prelude.{ℕ, suc, List, [], ◌∷◌, ◌++◌, ◌==◌, ◌&&◌, Bool, if◌then◌else◌}
use Rattle.std.specs.List.{list_any, flat_map}
use Rattle.il_base.specs.declared.ids.Item.{Item}
use Rattle.il_base.specs.declared.ids.Item.TheVariants as item
use Rattle.il_base.specs.declared.table.TheConstants.{TYPE_DEF}
use Rattle.il_base.specs.declared.world_model.expr.TypeExpr.{TypeExpr}
use Rattle.il_base.specs.declared.world_model.expr.MethodUse.{MethodUse}
use Rattle.il_base.specs.declared.world_model.types.InterfaceImplRow.{InterfaceImplRow}
use Rattle.il_base.specs.declared.world_model.members.MethodImplRow.{MethodImplRow}
use Rattle.il_base.specs.declared.world_model.record.AsmRec.{AsmRec}
use Rattle.il_base.specs.world_model.Tokens.{token_of}
use Rattle.rules.specs.declared.link_rules.row_at.RowAt.{RowAt}
use Rattle.rules.specs.link_rules.Types.{at_row}
use Rattle.rules.specs.link_rules.Signatures.{token_type}
use Rattle.rules.specs.link_rules.Members.{good_type, with_bases, generic_method, type_home}
use Rattle.rules.specs.link_rules.Cycles.{listed, same_row, home_of, is_interface, only_interface}
use Rattle.rules.specs.type_rules.Slots.{open_type, slot_of, method_home}
use Rattle.rules.specs.type_rules.Dispatch.{good_use, implied}
use Rattle.rules.specs.type_rules.Rows.{each_row, methods_of_type, rec_at}
use Rattle.rules.specs.mark_rules.Facts.{Fact}
use Rattle.rules.specs.mark_rules.Facts.Fact.{marked, instantiated}
use Rattle.rules.specs.mark_rules.Places.{row_of, type_item, method_item, impl_item}
use Rattle.rules.specs.mark_rules.Naming.{of_expr}
use Rattle.rules.specs.mark_rules.Types.{implies, impl_type}
use Rattle.rules.specs.mark_rules.Calls.{class_runs, class_fills, interface_runs, interface_fills}

-- ---- known items

-- an item is known, and it is the one of a row
abbrev pub is_known_at : List AsmRec → (Item → Bool) → Item → RowAt → Bool
is_known_at recs known i at = list_any (same_row at) (listed (row_of recs i)) && known i

-- ---- the definitions of a type and of its bases, the nearest first

unfoldable pub lineage : List AsmRec → RowAt → List RowAt
lineage recs t = flat_map (λ e. listed (home_of recs e)) (with_bases recs (open_type recs t))

-- ---- class slots

abbrev pub slot_list : List AsmRec → RowAt → List RowAt
slot_list recs at = listed (slot_of recs at)

-- the slot that the declaration of a MethodImpl row has (II.22.27)
abbrev pub use_slot : List AsmRec → MethodUse → List RowAt
use_slot recs u = flat_map (slot_list recs) (listed (method_home recs u.method))

abbrev pub declared_slot : List AsmRec → ℕ → AsmRec → MethodImplRow → List RowAt
declared_slot recs a rec row = flat_map (use_slot recs) (listed (good_use (generic_method recs a rec row.declaration)))

abbrev pub slot_of_impl : List AsmRec → RowAt → AsmRec → MethodImplRow → List RowAt
slot_of_impl recs c rec row = if row.class == token_of TYPE_DEF (suc c.row) then declared_slot recs c.asm rec row else []

unfoldable pub declared_slots : List AsmRec → RowAt → List RowAt
declared_slots recs c = flat_map (λ (rec : AsmRec). flat_map (slot_of_impl recs c rec) rec.method_impl) (listed (rec_at recs c))

-- a method after the one whose slot it takes, where that is another
abbrev pub with_slot : RowAt → RowAt → List RowAt
with_slot at slot = if same_row at slot then slot ∷ [] else slot ∷ at ∷ []

-- the slot of a virtual method, and the method itself
abbrev pub slot_and_own : List AsmRec → RowAt → List RowAt
slot_and_own recs at = flat_map (with_slot at) (slot_list recs at)

-- a type's virtual methods, their slots, and the slots that its MethodImpl rows declare
abbrev pub own_slots : List AsmRec → RowAt → List RowAt
own_slots recs c = flat_map (slot_and_own recs) (methods_of_type recs c) ++ declared_slots recs c

abbrev pub slot_gives : List AsmRec → (Item → Bool) → (RowAt → List Fact) → RowAt → List Fact
slot_gives recs known gives b = if is_known_at recs known (method_item recs b) b then gives b else []

-- what a type gives with class slots, where `gives` is the rule
abbrev pub with_slots : List AsmRec → (Item → Bool) → (RowAt → RowAt → List Fact) → RowAt → List Fact
with_slots recs known gives t = flat_map (λ c. flat_map (slot_gives recs known (gives t)) (own_slots recs c)) (lineage recs t)

-- ---- interface slots

abbrev pub row_of_class : RowAt → ℕ → InterfaceImplRow → List RowAt
row_of_class c k row = if row.class == token_of TYPE_DEF (suc c.row) then at_row c.asm k ∷ [] else []

-- the interface rows of a type (II.22.23)
unfoldable pub own_rows : List AsmRec → RowAt → List RowAt
own_rows recs c = flat_map (λ (rec : AsmRec). each_row (row_of_class c) rec.interface_impl) (listed (rec_at recs c))

abbrev pub methods_implied : List AsmRec → TypeExpr → List RowAt
methods_implied recs e = flat_map (λ i. flat_map (methods_of_type recs) (listed (home_of recs i))) (implied recs e)

-- the methods of the interfaces that a row names or implies
unfoldable pub row_methods : List AsmRec → RowAt → List RowAt
row_methods recs r = flat_map (methods_implied recs) (only_interface recs (impl_type recs r))

abbrev pub row_gives : List AsmRec → (Item → Bool) → (RowAt → RowAt → List Fact) → RowAt → List Fact
row_gives recs known gives r =
    if is_known_at recs known (impl_item recs r) r then flat_map (slot_gives recs known (λ b. gives b r)) (row_methods recs r) else []

-- what a type gives with interface slots and interface rows, where `gives` is the rule
abbrev pub with_rows : List AsmRec → (Item → Bool) → (RowAt → RowAt → RowAt → List Fact) → RowAt → List Fact
with_rows recs known gives t = flat_map (λ c. flat_map (row_gives recs known (gives t)) (own_rows recs c)) (lineage recs t)

-- ---- interfaces

abbrev pub is_known_type : List AsmRec → (Item → Bool) → RowAt → Bool
is_known_type recs known at = is_known_at recs known (type_item recs at) at

-- whether a type is an interface that is or implies a known one
abbrev pub implies_known : List AsmRec → (Item → Bool) → TypeExpr → Bool
implies_known recs known e = is_interface recs e && list_any (λ (at : RowAt). list_any (is_known_type recs known) (implies recs at)) (listed (home_of recs e))

abbrev pub named_known : List AsmRec → (Item → Bool) → RowAt → TypeExpr → List Fact
named_known recs known at e = if implies_known recs known e then marked (impl_item recs at) ∷ of_expr e else []

abbrev pub row_known : List AsmRec → (Item → Bool) → RowAt → AsmRec → ℕ → InterfaceImplRow → List Fact
row_known recs known t rec k row =
    if row.class == token_of TYPE_DEF (suc t.row)
    then flat_map (named_known recs known (at_row t.asm k)) (listed (good_type (token_type recs t.asm rec row.interface)))
    else []

-- the interface rows of a marked type for known interfaces, with what they name
unfoldable pub with_interfaces : List AsmRec → (Item → Bool) → RowAt → List Fact
with_interfaces recs known t = flat_map (λ (rec : AsmRec). each_row (row_known recs known t rec) rec.interface_impl) (listed (rec_at recs t))

-- ---- together

abbrev pub type_with : List AsmRec → (Item → Bool) → RowAt → List Fact
type_with recs known t = with_interfaces recs known t ++ with_slots recs known (class_fills recs) t ++ with_rows recs known (interface_fills recs) t

abbrev pub made_with : List AsmRec → (Item → Bool) → RowAt → List Fact
made_with recs known t = with_slots recs known (class_runs recs) t ++ with_rows recs known (interface_runs recs) t

-- a marked type, or one that is instantiated
unfoldable pub fact_with : List AsmRec → (Item → Bool) → Fact → List Fact
fact_with recs known (marked (item.Typ t)) = flat_map (type_with recs known) (listed (type_home recs t))
fact_with recs known (instantiated t) = flat_map (made_with recs known) (listed (type_home recs t))
fact_with recs known _ = []
