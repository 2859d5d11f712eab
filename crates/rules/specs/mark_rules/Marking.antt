-- The rules of marking together: the facts that follow from one fact, from two and from three.
use Rattle.std.specs.Prelude.{List, [], ◌++◌, Option, Bool, false, ◌||◌, nat_eq}
use Rattle.std.specs.List.{list_any, flat_map}
use Rattle.il_base.specs.declared.ids.Item.{Item}
use Rattle.il_base.specs.declared.ids.Item.TheVariants as item
use Rattle.il_base.specs.declared.world_model.record.AsmRec.{AsmRec}
use Rattle.rules.specs.declared.link_rules.row_at.RowAt.{RowAt}
use Rattle.rules.specs.link_rules.Members.{type_home}
use Rattle.rules.specs.link_rules.Cycles.{listed}
use Rattle.rules.specs.mark_rules.Facts.{Fact, Rules, Derived}
use Rattle.rules.specs.mark_rules.Facts.Fact.{marked, instantiated, reflected, shown}
use Rattle.rules.specs.mark_rules.Places.{row_of, is_core}
use Rattle.rules.specs.mark_rules.Types.{type_needs, layout_needs, field_needs, impl_needs, rows_for}
use Rattle.rules.specs.mark_rules.Calls.{method_needs, makes, overrides_of, method_starts, field_starts, class_runs, interface_runs, class_fills, interface_fills}
use Rattle.rules.specs.mark_rules.Properties.{property_needs, event_needs, accessed}
use Rattle.rules.specs.mark_rules.Attributes.{attribute_needs}
use Rattle.rules.specs.mark_rules.Dependencies.{dependency_needs}
use Rattle.rules.specs.mark_rules.Shown.{item_shows, encloser_shown}
use Rattle.rules.specs.mark_rules.FlowMarks.{flow_marks}
use Rattle.rules.specs.mark_rules.ReflectedShown.{reflected_shows}
use Rattle.descriptor_file.specs.declared.root.Root.{Root}
use Rattle.rules.specs.mark_rules.Roots.{start_facts, waiting_facts}

-- ---- one fact

abbrev pub row_needs : List AsmRec → Item → RowAt → List Fact
row_needs recs (item.Asm a) at = []
row_needs recs (item.Typ t) at = type_needs recs at ++ layout_needs recs at
row_needs recs (item.Method m) at = method_needs recs at ++ makes recs at ++ overrides_of recs at ++ method_starts recs at ++ accessed recs at
row_needs recs (item.Field f) at = field_needs recs at ++ field_starts recs at
row_needs recs (item.Prop p) at = property_needs recs at
row_needs recs (item.Event e) at = event_needs recs at
row_needs recs (item.Impl i) at = impl_needs recs at

abbrev pub item_needs : List AsmRec → List Root → Item → List Fact
item_needs recs roots i =
    flat_map (row_needs recs i) (listed (row_of recs i)) ++ attribute_needs recs i ++ dependency_needs recs i ++ waiting_facts recs roots i
    ++ item_shows recs i

unfoldable pub one : List AsmRec → List Root → Fact → List Fact
one recs roots (marked i) = item_needs recs roots i ++ flow_marks recs i
one recs roots (instantiated t) = []
one recs roots (reflected i) = reflected_shows recs i
one recs roots (shown t) = encloser_shown recs t

-- ---- two facts

abbrev pub of_rows : List AsmRec → (RowAt → RowAt → List Fact) → Option RowAt → Option RowAt → List Fact
of_rows recs f a b = flat_map (λ x. flat_map (f x) (listed b)) (listed a)

unfoldable pub two : List AsmRec → Fact → Fact → List Fact
two recs (marked (item.Typ t)) (marked (item.Typ j)) = of_rows recs (rows_for recs) (type_home recs t) (type_home recs j)
two recs (marked (item.Typ t)) (marked (item.Method b)) = of_rows recs (class_fills recs) (type_home recs t) (row_of recs (item.Method b))
two recs (instantiated t) (marked (item.Method b)) = of_rows recs (class_runs recs) (type_home recs t) (row_of recs (item.Method b))
two recs _ _ = []

-- ---- three facts

abbrev pub of_three : List AsmRec → (RowAt → RowAt → RowAt → List Fact) → Option RowAt → Option RowAt → Option RowAt → List Fact
of_three recs f a b c = flat_map (λ x. flat_map (λ y. flat_map (f x y) (listed c)) (listed b)) (listed a)

-- a type, a slot, and an interface row
unfoldable pub three : List AsmRec → Fact → Fact → Fact → List Fact
three recs (instantiated t) (marked (item.Method b)) (marked (item.Impl r)) =
    of_three recs (interface_runs recs) (type_home recs t) (row_of recs (item.Method b)) (row_of recs (item.Impl r))
three recs (marked (item.Typ t)) (marked (item.Method b)) (marked (item.Impl r)) =
    of_three recs (interface_fills recs) (type_home recs t) (row_of recs (item.Method b)) (row_of recs (item.Impl r))
three recs _ _ _ = []

-- ---- the marked set

abbrev pub same_item : Item → Item → Bool
same_item (item.Asm a) (item.Asm b) = nat_eq a.0 b.0
same_item (item.Typ a) (item.Typ b) = nat_eq a.0 b.0
same_item (item.Method a) (item.Method b) = nat_eq a.0 b.0
same_item (item.Field a) (item.Field b) = nat_eq a.0 b.0
same_item (item.Prop a) (item.Prop b) = nat_eq a.0 b.0
same_item (item.Event a) (item.Event b) = nat_eq a.0 b.0
same_item (item.Impl a) (item.Impl b) = nat_eq a.0 b.0
same_item _ _ = false

abbrev pub same_fact : Fact → Fact → Bool
same_fact (marked i) (marked j) = same_item i j
same_fact (instantiated t) (instantiated u) = nat_eq t.0 u.0
same_fact (reflected i) (reflected j) = same_item i j
same_fact (shown t) (shown u) = nat_eq t.0 u.0
same_fact _ _ = false

-- items of the core library count as marked
abbrev pub is_core_fact : List AsmRec → Fact → Bool
is_core_fact recs (marked i) = is_core recs i
is_core_fact recs _ = false

unfoldable pub given : List AsmRec → Option RowAt → List Root → Fact → Bool
given recs entry roots f = is_core_fact recs f || list_any (same_fact f) (start_facts recs entry roots)

-- the rules over the assemblies of a world, from an entry method and the elements of descriptors
unfoldable pub marking : List AsmRec → Option RowAt → List Root → Rules
marking recs entry roots = record { given = given recs entry roots; one = one recs roots; two = two recs; three = three recs }

-- what a program needs
abbrev pub Marks : List AsmRec → Option RowAt → List Root → Fact → Type 0
Marks recs entry roots f = Derived (marking recs entry roots) f
