-- What the rules give of facts that are marked is marked.
use Rattle.std.proofs.Common.{◌≡◌, Bool, true, false, List, [], ◌∷◌, ◌++◌, map, Option, Some, inl, inr, refl, sym, ap, subst}
use Rattle.std.specs.Prelude.{IsTrue}
use Rattle.std.specs.List.{flat_map}
use Rattle.std.proofs.lemmas.Bool.{or_left}
use Rattle.il_base.specs.declared.ids.TypeId.{TypeId}
use Rattle.il_base.specs.declared.ids.MethodId.{MethodId}
use Rattle.il_base.specs.declared.ids.ImplId.{ImplId}
use Rattle.il_base.specs.declared.ids.Item.{Item}
use Rattle.il_base.specs.declared.ids.Item.TheVariants as item
use Rattle.il_base.specs.declared.world_model.known.Known.{Known}
use Rattle.il_base.specs.declared.world_model.known.Known.TheVariants.{Good}
use Rattle.il_base.specs.declared.world_model.record.AsmRec.{AsmRec}
use Rattle.rules.specs.declared.link_rules.row_at.RowAt.{RowAt}
use Rattle.rules.specs.link_rules.Members.{type_home}
use Rattle.rules.specs.link_rules.Cycles.{listed}
use Rattle.base_laws.proofs.lemmas.type_laws.Within.{In, in_front, in_behind, listed_in, flat_in}
use Rattle.base_laws.proofs.lemmas.walk_laws.Finds.{contains}
use Rattle.descriptor_file.specs.declared.root.Root.{Root}
use Rattle.rules.specs.mark_rules.Facts.{Fact}
use Rattle.rules.specs.mark_rules.Facts.Fact.{marked, instantiated, shown}
use Rattle.rules.specs.mark_rules.Places.{row_of, is_core}
use Rattle.rules.specs.mark_rules.Naming.{Named, Part, of_known, of_named, of_parts}
use Rattle.rules.specs.mark_rules.Attributes.{attribute_needs}
use Rattle.rules.specs.mark_rules.Dependencies.{dependency_needs}
use Rattle.rules.specs.mark_rules.Roots.{waiting_facts}
use Rattle.rules.specs.mark_rules.Shown.{parts_of_item, arguments_of_part, arguments_of_parts, showing_parts, shown_by_item, item_shows, shows}
use Rattle.rules.specs.mark_rules.FlowMarks.{flow_marks}
use Rattle.rules.specs.mark_rules.Marking.{row_needs, item_needs, one, of_rows, two, of_three, three, is_core_fact, given}
use Rattle.rules.specs.mark_rules.Types.{rows_for}
use Rattle.rules.specs.mark_rules.Calls.{class_runs, interface_runs}
use Rattle.run_laws.specs.marked_laws.Flags.{HasMarks, HasClass, is_added}

-- ---- members of lists that are made of lists

pub mapped_in : {A B : Type 0} (f : A → B) (x : A) (xs : List A) → In x xs → In (f x) (map f xs)
mapped_in f x [] i = absurd i
mapped_in f x (y ∷ xs) (inl e) = inl (ap f e)
mapped_in f x (y ∷ xs) (inr i) = inr (mapped_in f x xs i)

-- what a good part names is among what the parts mark
pub in_parts_of : (parts : List Part) (p : Part) (n : Named) (f : Fact) → In p parts → p.named ≡ Good n → In f (of_named n) → In f (of_parts parts)
in_parts_of parts p n f i e h = flat_in (λ (p : Part). of_known of_named p.named) f p parts i (subst (λ (k : Known Named). In f (of_known of_named k)) (sym e) h)

pub in_arguments_of : (parts : List Part) (p : Part) (n : Named) (t : TypeId) → In p parts → p.named ≡ Good n → In t (arguments_of_part (Good n)) → In t (arguments_of_parts parts)
in_arguments_of parts p n t i e h = flat_in (λ (p : Part). arguments_of_part p.named) t p parts i (subst (λ (k : Known Named). In t (arguments_of_part k)) (sym e) h)

module _ (recs : List AsmRec) (entry : Option RowAt) (roots : List Root) (has : Fact → Bool) (m : HasMarks recs entry roots has) where
  given_core : (f : Fact) → is_core_fact recs f ≡ true → IsTrue (given recs entry roots f)
  unfolding given
  given_core f h = or_left (is_core_fact recs f) _ h

  pub by_core : (i : Item) → is_core recs i ≡ true → is_added recs (marked i) ≡ false → IsTrue (has (marked i))
  by_core i h known = m.start (marked i) (given_core (marked i) h) known

  pub by_one : (a f : Fact) → IsTrue (has a) → In f (one recs roots a) → is_added recs f ≡ false → IsTrue (has f)
  by_one a f h i known = m.by_one a f h (contains (one recs roots a) f i) known

  pub by_two : (a b f : Fact) → IsTrue (has a) → IsTrue (has b) → In f (two recs a b) → is_added recs f ≡ false → IsTrue (has f)
  by_two a b f h g i known = m.by_two a b f h g (contains (two recs a b) f i) known

  pub by_three : (a b c f : Fact) → IsTrue (has a) → IsTrue (has b) → IsTrue (has c) → In f (three recs a b c) → is_added recs f ≡ false → IsTrue (has f)
  by_three a b c f h g u i known = m.by_three a b c f h g u (contains (three recs a b c) f i) known

  -- what a good part of a marked item names
  pub part_gives : (i : Item) (at : RowAt) (f : Fact) → IsTrue (has (marked i)) → row_of recs i ≡ Some at → HasClass recs has i at → In f (of_parts (parts_of_item recs i at)) → IsTrue (has f)
  part_gives i at f h is classed g = m.by_part i at f h is classed (contains (of_parts (parts_of_item recs i at)) f g)

  -- ---- what a marked item needs by its row

  abbrev rows : Item → List Fact
  rows i = flat_map (row_needs recs i) (listed (row_of recs i))

  in_item : (i : Item) (at : RowAt) (f : Fact) → row_of recs i ≡ Some at → In f (row_needs recs i at) → In f (item_needs recs roots i)
  in_item i at f is h =
      in_front f (rows i ++ attribute_needs recs i ++ dependency_needs recs i ++ waiting_facts recs roots i) (item_shows recs i)
      (in_front f (rows i ++ attribute_needs recs i ++ dependency_needs recs i) (waiting_facts recs roots i)
      (in_front f (rows i ++ attribute_needs recs i) (dependency_needs recs i)
      (in_front f (rows i) (attribute_needs recs i) (flat_in (row_needs recs i) f at (listed (row_of recs i)) (listed_in at (row_of recs i) is) h))))

  in_one : (i : Item) (f : Fact) → In f (item_needs recs roots i) → In f (one recs roots (marked i))
  unfolding one
  in_one i f h = in_front f (item_needs recs roots i) (flow_marks recs i) h

  pub row_gives : (i : Item) (at : RowAt) (f : Fact) → IsTrue (has (marked i)) → row_of recs i ≡ Some at → In f (row_needs recs i at) → is_added recs f ≡ false → IsTrue (has f)
  row_gives i at f h is g known = by_one (marked i) f h (in_one i f (in_item i at f is g)) known

  -- ---- what it shows

  in_shows : (i : Item) (at : RowAt) (t : TypeId) → row_of recs i ≡ Some at → In t (arguments_of_parts (showing_parts recs i at) ++ shown_by_item recs i at) → In (shown t) (item_shows recs i)
  unfolding item_shows
  in_shows i at t is h = flat_in (shows recs i) (shown t) at (listed (row_of recs i)) (listed_in at (row_of recs i) is) (mapped_in shown t (arguments_of_parts (showing_parts recs i at) ++ shown_by_item recs i at) h)

  in_others : (i : Item) (f : Fact) → In f (item_shows recs i) → In f (item_needs recs roots i)
  in_others i f h = in_behind f (rows i ++ attribute_needs recs i ++ dependency_needs recs i ++ waiting_facts recs roots i) (item_shows recs i) h

  pub item_gives_shown : (i : Item) (at : RowAt) (t : TypeId) → IsTrue (has (marked i)) → row_of recs i ≡ Some at → In t (arguments_of_parts (showing_parts recs i at) ++ shown_by_item recs i at) → IsTrue (has (shown t))
  item_gives_shown i at t h is g = by_one (marked i) (shown t) h (in_one i (shown t) (in_others i (shown t) (in_shows i at t is g))) refl

  -- ---- what a slot runs

  in_of_rows : (f : RowAt → RowAt → List Fact) (x y : RowAt) (a b : Option RowAt) (g : Fact) → a ≡ Some x → b ≡ Some y → In g (f x y) → In g (of_rows recs f a b)
  in_of_rows f x y a b g ea eb i = flat_in (λ x. flat_map (f x) (listed b)) g x (listed a) (listed_in x a ea) (flat_in (f x) g y (listed b) (listed_in y b eb) i)

  in_of_three : (f : RowAt → RowAt → RowAt → List Fact) (x y z : RowAt) (a b c : Option RowAt) (g : Fact) → a ≡ Some x → b ≡ Some y → c ≡ Some z → In g (f x y z) → In g (of_three recs f a b c)
  in_of_three f x y z a b c g ea eb ec i =
      flat_in (λ x. flat_map (λ y. flat_map (f x y) (listed c)) (listed b)) g x (listed a) (listed_in x a ea)
      (flat_in (λ y. flat_map (f x y) (listed c)) g y (listed b) (listed_in y b eb) (flat_in (f x y) g z (listed c) (listed_in z c ec) i))

  in_rows_two : (t j : TypeId) (x y : RowAt) (f : Fact) → type_home recs t ≡ Some x → type_home recs j ≡ Some y → In f (rows_for recs x y) → In f (two recs (marked (item.Typ t)) (marked (item.Typ j)))
  unfolding two
  in_rows_two t j x y f ex ey i = in_of_rows (rows_for recs) x y (type_home recs t) (type_home recs j) f ex ey i

  pub rows_give : (t j : TypeId) (x y : RowAt) (f : Fact) → IsTrue (has (marked (item.Typ t))) → IsTrue (has (marked (item.Typ j))) → type_home recs t ≡ Some x → type_home recs j ≡ Some y → In f (rows_for recs x y) → is_added recs f ≡ false → IsTrue (has f)
  rows_give t j x y f h g ex ey i known = by_two (marked (item.Typ t)) (marked (item.Typ j)) f h g (in_rows_two t j x y f ex ey i) known

  in_class_two : (t : TypeId) (b : MethodId) (x y : RowAt) (f : Fact) → type_home recs t ≡ Some x → row_of recs (item.Method b) ≡ Some y → In f (class_runs recs x y) → In f (two recs (instantiated t) (marked (item.Method b)))
  unfolding two
  in_class_two t b x y f ex ey i = in_of_rows (class_runs recs) x y (type_home recs t) (row_of recs (item.Method b)) f ex ey i

  -- for an instantiated type and a marked slot
  pub class_gives : (t : TypeId) (b : MethodId) (x y : RowAt) (f : Fact) → IsTrue (has (instantiated t)) → IsTrue (has (marked (item.Method b))) → type_home recs t ≡ Some x → row_of recs (item.Method b) ≡ Some y → In f (class_runs recs x y) → is_added recs f ≡ false → IsTrue (has f)
  class_gives t b x y f h g ex ey i known = by_two (instantiated t) (marked (item.Method b)) f h g (in_class_two t b x y f ex ey i) known

  in_interface_three : (t : TypeId) (b : MethodId) (i : ImplId) (x y z : RowAt) (f : Fact) → type_home recs t ≡ Some x → row_of recs (item.Method b) ≡ Some y → row_of recs (item.Impl i) ≡ Some z → In f (interface_runs recs x y z)
      → In f (three recs (instantiated t) (marked (item.Method b)) (marked (item.Impl i)))
  unfolding three
  in_interface_three t b i x y z f ex ey ez g = in_of_three (interface_runs recs) x y z (type_home recs t) (row_of recs (item.Method b)) (row_of recs (item.Impl i)) f ex ey ez g

  -- and a marked interface row
  pub interface_gives : (t : TypeId) (b : MethodId) (i : ImplId) (x y z : RowAt) (f : Fact) → IsTrue (has (instantiated t)) → IsTrue (has (marked (item.Method b))) → IsTrue (has (marked (item.Impl i)))
      → type_home recs t ≡ Some x → row_of recs (item.Method b) ≡ Some y → row_of recs (item.Impl i) ≡ Some z → In f (interface_runs recs x y z) → is_added recs f ≡ false → IsTrue (has f)
  interface_gives t b i x y z f h g u ex ey ez v known =
      by_three (instantiated t) (marked (item.Method b)) (marked (item.Impl i)) f h g u (in_interface_three t b i x y z f ex ey ez v) known
