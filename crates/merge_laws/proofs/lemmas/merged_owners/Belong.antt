-- What is marked belongs to something.
use Rattle.std.proofs.Common.{List, ◌++◌, map, Option}
use Rattle.std.specs.List.{flat_map}
use Rattle.il_base.specs.declared.ids.TypeId.{TypeId}
use Rattle.il_base.specs.declared.ids.Item.{Item}
use Rattle.il_base.specs.declared.ids.Item.TheVariants as item
use Rattle.descriptor_file.specs.declared.root.Root.{Root}
use Rattle.il_base.specs.declared.world_model.record.AsmRec.{AsmRec}
use Rattle.il_base.specs.world_model.Worlds.{type_id}
use Rattle.rules.specs.declared.link_rules.row_at.RowAt.{RowAt}
use Rattle.rules.specs.link_rules.Types.{encloser}
use Rattle.rules.specs.link_rules.Members.{type_home, methods_in, fields_in}
use Rattle.rules.specs.link_rules.Cycles.{listed}
use Rattle.rules.specs.type_rules.Rows.{rec_at}
use Rattle.rules.specs.mark_rules.Facts.{Fact, start, by_one, by_two, by_three}
use Rattle.rules.specs.mark_rules.Facts.Fact.{marked, instantiated, reflected, shown}
use Rattle.rules.specs.mark_rules.Places.{row_of, method_item, field_item, prop_item, event_item, props_in, events_in}
use Rattle.rules.specs.mark_rules.Types.{rows_for}
use Rattle.rules.specs.mark_rules.Calls.{class_runs, class_fills, interface_runs, interface_fills}
use Rattle.rules.specs.mark_rules.Attributes.{attribute_needs}
use Rattle.rules.specs.mark_rules.Dependencies.{dependency_needs}
use Rattle.rules.specs.mark_rules.Shown.{arguments_of_parts, showing_parts, shown_by_item, shows, item_shows, encloser_shown}
use Rattle.rules.specs.mark_rules.FlowMarks.{flow_marks}
use Rattle.rules.specs.mark_rules.Roots.{waiting_facts}
use Rattle.rules.specs.mark_rules.Marking.{row_needs, item_needs, one, of_rows, two, of_three, three, marking, Marks}
use Rattle.merge_laws.specs.merged_record.Laws.{InputsAreRecords}
use Rattle.merge_laws.specs.merged_owners.Laws.{MarkedBelong, MembersBelong}
use Rattle.merge_laws.proofs.lemmas.merged_owners.Homes.{own_home}
use Rattle.merge_laws.proofs.lemmas.merged_owners.Every.{all_none, all_join, all_option, all_map}
use Rattle.merge_laws.proofs.lemmas.merged_owners.Runs.{OfFact, Fine}
use Rattle.merge_laws.proofs.lemmas.merged_owners.Dispatched.{class_runs_fine, class_fills_fine, interface_runs_fine, interface_fills_fine}
use Rattle.merge_laws.proofs.lemmas.merged_owners.Rules.{row_fine, rows_fine}
use Rattle.merge_laws.proofs.lemmas.merged_owners.Members.{attributes_fine, dependencies_fine}
use Rattle.merge_laws.proofs.lemmas.merged_owners.Starts.{waiting_fine, given_fine}
use Rattle.merge_laws.proofs.lemmas.merged_owners.Flow.{flow_fine, reflected_fine}

module _ (recs : List AsmRec) (records : InputsAreRecords recs) where
  -- ---- one fact

  shows_fine : (i : Item) → Fine recs (item_shows recs i)
  unfolding item_shows
  shows_fine i =
      all_option (OfFact recs) (shows recs i) (row_of recs i) (λ at home. all_map (OfFact recs) shown (arguments_of_parts (showing_parts recs i at) ++ shown_by_item recs i at) (λ t c. tt))

  encloser_fine : (t : TypeId) → Fine recs (encloser_shown recs t)
  unfolding encloser_shown
  encloser_fine t =
      all_option (OfFact recs) (λ (at : RowAt). flat_map (λ (rec : AsmRec). map (λ k. shown (type_id recs at.asm k)) (listed (encloser rec at.row))) (listed (rec_at recs at))) (type_home recs t)
      (λ at home.
      all_option (OfFact recs) (λ (rec : AsmRec). map (λ k. shown (type_id recs at.asm k)) (listed (encloser rec at.row))) (rec_at recs at)
      (λ rec there. all_map (OfFact recs) (λ k. shown (type_id recs at.asm k)) (listed (encloser rec at.row)) (λ k c. tt)))

  item_fine : (roots : List Root) (i : Item) → Fine recs (item_needs recs roots i)
  item_fine roots i =
      let rows : List Fact = flat_map (row_needs recs i) (listed (row_of recs i)) in
      all_join (OfFact recs) (rows ++ attribute_needs recs i ++ dependency_needs recs i ++ waiting_facts recs roots i) (item_shows recs i)
      (all_join (OfFact recs) (rows ++ attribute_needs recs i ++ dependency_needs recs i) (waiting_facts recs roots i)
      (all_join (OfFact recs) (rows ++ attribute_needs recs i) (dependency_needs recs i)
      (all_join (OfFact recs) rows (attribute_needs recs i) (all_option (OfFact recs) (row_needs recs i) (row_of recs i) (λ at home. row_fine recs records i at)) (attributes_fine recs records i))
      (dependencies_fine recs records i))
      (waiting_fine recs records roots i))
      (shows_fine i)

  one_fine : (roots : List Root) (a : Fact) → Fine recs (one recs roots a)
  unfolding one
  one_fine roots (marked i) = all_join (OfFact recs) (item_needs recs roots i) (flow_marks recs i) (item_fine roots i) (flow_fine recs records i)
  one_fine roots (instantiated t) = all_none (OfFact recs)
  one_fine roots (reflected i) = reflected_fine recs records i
  one_fine roots (shown t) = encloser_fine t

  -- ---- two facts

  pair_fine : (g : RowAt → RowAt → List Fact) (a b : Option RowAt) → ((x y : RowAt) → Fine recs (g x y)) → Fine recs (of_rows recs g a b)
  pair_fine g a b h = all_option (OfFact recs) (λ x. flat_map (g x) (listed b)) a (λ x e. all_option (OfFact recs) (g x) b (λ y f. h x y))

  two_fine : (a b : Fact) → Fine recs (two recs a b)
  unfolding two
  two_fine (marked (item.Typ t)) (marked (item.Typ j)) = pair_fine (rows_for recs) (type_home recs t) (type_home recs j) (λ x y. rows_fine recs records x y)
  two_fine (marked (item.Typ t)) (marked (item.Method m)) = pair_fine (class_fills recs) (type_home recs t) (row_of recs (item.Method m)) (λ x y. class_fills_fine recs records x y)
  two_fine (marked (item.Typ t)) (marked (item.Asm x)) = all_none (OfFact recs)
  two_fine (marked (item.Typ t)) (marked (item.Field x)) = all_none (OfFact recs)
  two_fine (marked (item.Typ t)) (marked (item.Prop x)) = all_none (OfFact recs)
  two_fine (marked (item.Typ t)) (marked (item.Event x)) = all_none (OfFact recs)
  two_fine (marked (item.Typ t)) (marked (item.Impl x)) = all_none (OfFact recs)
  two_fine (marked (item.Typ t)) (instantiated u) = all_none (OfFact recs)
  two_fine (marked (item.Typ t)) (reflected x) = all_none (OfFact recs)
  two_fine (marked (item.Typ t)) (shown u) = all_none (OfFact recs)
  two_fine (marked (item.Asm x)) b = all_none (OfFact recs)
  two_fine (marked (item.Method x)) b = all_none (OfFact recs)
  two_fine (marked (item.Field x)) b = all_none (OfFact recs)
  two_fine (marked (item.Prop x)) b = all_none (OfFact recs)
  two_fine (marked (item.Event x)) b = all_none (OfFact recs)
  two_fine (marked (item.Impl x)) b = all_none (OfFact recs)
  two_fine (instantiated t) (marked (item.Method m)) = pair_fine (class_runs recs) (type_home recs t) (row_of recs (item.Method m)) (λ x y. class_runs_fine recs records x y)
  two_fine (instantiated t) (marked (item.Asm x)) = all_none (OfFact recs)
  two_fine (instantiated t) (marked (item.Typ x)) = all_none (OfFact recs)
  two_fine (instantiated t) (marked (item.Field x)) = all_none (OfFact recs)
  two_fine (instantiated t) (marked (item.Prop x)) = all_none (OfFact recs)
  two_fine (instantiated t) (marked (item.Event x)) = all_none (OfFact recs)
  two_fine (instantiated t) (marked (item.Impl x)) = all_none (OfFact recs)
  two_fine (instantiated t) (instantiated u) = all_none (OfFact recs)
  two_fine (instantiated t) (reflected x) = all_none (OfFact recs)
  two_fine (instantiated t) (shown u) = all_none (OfFact recs)
  two_fine (reflected x) b = all_none (OfFact recs)
  two_fine (shown t) b = all_none (OfFact recs)

  -- ---- three facts

  triple_fine : (g : RowAt → RowAt → RowAt → List Fact) (a b c : Option RowAt) → ((x y z : RowAt) → Fine recs (g x y z)) → Fine recs (of_three recs g a b c)
  triple_fine g a b c h =
      all_option (OfFact recs) (λ x. flat_map (λ y. flat_map (g x y) (listed c)) (listed b)) a
      (λ x e. all_option (OfFact recs) (λ y. flat_map (g x y) (listed c)) b (λ y f. all_option (OfFact recs) (g x y) c (λ z i. h x y z)))

  made_three : (t : TypeId) (b c : Fact) → Fine recs (three recs (instantiated t) b c)
  unfolding three
  made_three t (marked (item.Method m)) (marked (item.Impl r)) =
      triple_fine (interface_runs recs) (type_home recs t) (row_of recs (item.Method m)) (row_of recs (item.Impl r)) (λ x y z. interface_runs_fine recs records x y z)
  made_three t (marked (item.Method m)) (marked (item.Asm r)) = all_none (OfFact recs)
  made_three t (marked (item.Method m)) (marked (item.Typ r)) = all_none (OfFact recs)
  made_three t (marked (item.Method m)) (marked (item.Method r)) = all_none (OfFact recs)
  made_three t (marked (item.Method m)) (marked (item.Field r)) = all_none (OfFact recs)
  made_three t (marked (item.Method m)) (marked (item.Prop r)) = all_none (OfFact recs)
  made_three t (marked (item.Method m)) (marked (item.Event r)) = all_none (OfFact recs)
  made_three t (marked (item.Method m)) (instantiated r) = all_none (OfFact recs)
  made_three t (marked (item.Method m)) (reflected r) = all_none (OfFact recs)
  made_three t (marked (item.Method m)) (shown r) = all_none (OfFact recs)
  made_three t (marked (item.Asm x)) c = all_none (OfFact recs)
  made_three t (marked (item.Typ x)) c = all_none (OfFact recs)
  made_three t (marked (item.Field x)) c = all_none (OfFact recs)
  made_three t (marked (item.Prop x)) c = all_none (OfFact recs)
  made_three t (marked (item.Event x)) c = all_none (OfFact recs)
  made_three t (marked (item.Impl x)) c = all_none (OfFact recs)
  made_three t (instantiated x) c = all_none (OfFact recs)
  made_three t (reflected x) c = all_none (OfFact recs)
  made_three t (shown x) c = all_none (OfFact recs)

  type_three : (t : TypeId) (b c : Fact) → Fine recs (three recs (marked (item.Typ t)) b c)
  unfolding three
  type_three t (marked (item.Method m)) (marked (item.Impl r)) =
      triple_fine (interface_fills recs) (type_home recs t) (row_of recs (item.Method m)) (row_of recs (item.Impl r)) (λ x y z. interface_fills_fine recs records x y z)
  type_three t (marked (item.Method m)) (marked (item.Asm r)) = all_none (OfFact recs)
  type_three t (marked (item.Method m)) (marked (item.Typ r)) = all_none (OfFact recs)
  type_three t (marked (item.Method m)) (marked (item.Method r)) = all_none (OfFact recs)
  type_three t (marked (item.Method m)) (marked (item.Field r)) = all_none (OfFact recs)
  type_three t (marked (item.Method m)) (marked (item.Prop r)) = all_none (OfFact recs)
  type_three t (marked (item.Method m)) (marked (item.Event r)) = all_none (OfFact recs)
  type_three t (marked (item.Method m)) (instantiated r) = all_none (OfFact recs)
  type_three t (marked (item.Method m)) (reflected r) = all_none (OfFact recs)
  type_three t (marked (item.Method m)) (shown r) = all_none (OfFact recs)
  type_three t (marked (item.Asm x)) c = all_none (OfFact recs)
  type_three t (marked (item.Typ x)) c = all_none (OfFact recs)
  type_three t (marked (item.Field x)) c = all_none (OfFact recs)
  type_three t (marked (item.Prop x)) c = all_none (OfFact recs)
  type_three t (marked (item.Event x)) c = all_none (OfFact recs)
  type_three t (marked (item.Impl x)) c = all_none (OfFact recs)
  type_three t (instantiated x) c = all_none (OfFact recs)
  type_three t (reflected x) c = all_none (OfFact recs)
  type_three t (shown x) c = all_none (OfFact recs)

  three_fine : (a b c : Fact) → Fine recs (three recs a b c)
  unfolding three
  three_fine (marked (item.Typ t)) b c = type_three t b c
  three_fine (marked (item.Asm x)) b c = all_none (OfFact recs)
  three_fine (marked (item.Method x)) b c = all_none (OfFact recs)
  three_fine (marked (item.Field x)) b c = all_none (OfFact recs)
  three_fine (marked (item.Prop x)) b c = all_none (OfFact recs)
  three_fine (marked (item.Event x)) b c = all_none (OfFact recs)
  three_fine (marked (item.Impl x)) b c = all_none (OfFact recs)
  three_fine (instantiated t) b c = made_three t b c
  three_fine (reflected x) b c = all_none (OfFact recs)
  three_fine (shown t) b c = all_none (OfFact recs)

  -- ---- all that is marked

  module _ (entry : Option RowAt) (roots : List Root) where
    derived : (f : Fact) → Marks recs entry roots f → OfFact recs f
    unfolding marking
    derived _ (start f h) = given_fine recs records entry roots f h
    derived _ (by_one a f d c) = (one_fine roots a).each f c
    derived _ (by_two a b f d e c) = (two_fine a b).each f c
    derived _ (by_three a b g f d e h c) = (three_fine a b g).each f c

    belong : MarkedBelong recs entry roots
    belong = record {
      methods = λ at rec lt there below m. (derived (marked (method_item recs at)) m).is at rec (own_home methods_in recs at rec there below) lt there;
      fields = λ at rec lt there below m. (derived (marked (field_item recs at)) m).is at rec (own_home fields_in recs at rec there below) lt there;
      properties = λ at rec lt there below m. (derived (marked (prop_item recs at)) m).is at rec (own_home props_in recs at rec there below) lt there;
      events = λ at rec lt there below m. (derived (marked (event_item recs at)) m).is at rec (own_home events_in recs at rec there below) lt there;
    }

pub members_belong : MembersBelong
members_belong recs entry roots records = belong recs records entry roots
