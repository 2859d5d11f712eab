-- What virtual calls run is marked.
use Rattle.std.proofs.Common.{◌≡◌, ℕ, suc, ◌+◌, Bool, true, false, List, [], ◌∷◌, Option, Some, None, ◌⊎◌, inl, inr, refl, sym, ap, subst, ◌∙◌}
use Rattle.std.specs.Prelude.{IsTrue, slice_get, find, if◌then◌else◌}
use Rattle.std.specs.List.{list_any}
use Rattle.std.specs.Option.{option_map, option_and_then}
use Rattle.std.proofs.lemmas.Bool.{true≢false}
use Rattle.std.specs.Cmp.{first_so, second_so}
use Rattle.il_base.specs.declared.ids.TypeId.{TypeId}
use Rattle.il_base.specs.declared.world_model.expr.TypeExpr.{TypeExpr}
use Rattle.il_base.specs.declared.world_model.expr.TypeExpr.TheOpen.{TypeExpr-F}
use Rattle.il_base.specs.declared.world_model.expr.TypeExpr.TheVariants as expr
use Rattle.il_base.specs.declared.world_model.members.MethodDefRow.{MethodDefRow}
use Rattle.il_base.specs.declared.world_model.record.AsmRec.{AsmRec}
use Rattle.il_base.specs.world_model.Exprs.{subst as put}
use Rattle.il_base.specs.world_model.Worlds.{rows_before, type_id}
use Rattle.il_base.proofs.lemmas.world_model.SameExpr.{same_decides}
use Rattle.rules.specs.declared.link_rules.row_at.RowAt.{RowAt}
use Rattle.rules.specs.link_rules.Members.{type_home, home_from, methods_in, args_of, with_bases, type_count, open_parent}
use Rattle.rules.specs.link_rules.Cycles.{listed, same_row, home_of, is_interface_at, is_interface, interfaces_at}
use Rattle.rules.specs.link_rules.Linked.{assemblies, link_fault_of}
use Rattle.rules.specs.type_rules.Subtypes.{interfaces_of}
use Rattle.rules.specs.type_rules.Slots.{open_type, method_row_at, type_of_method, type_of_row, nearest, slot_of}
use Rattle.rules.specs.type_rules.Dispatch.{implied, implied_by, is_closed_to, chosen, choice_in, in_interface, class_dispatch, from_choice, interface_method_by, interface_method, interface_dispatch, dispatch_slot, method_id}
use Rattle.base_laws.proofs.lemmas.type_laws.Within.{In, in_flat, in_listed}
use Rattle.base_laws.proofs.lemmas.type_laws.Upwards.{owner_as, are_interfaces, homed}
use Rattle.base_laws.proofs.lemmas.type_laws.Ways.{home_of_type}
use Rattle.base_laws.proofs.lemmas.walk_laws.Finds.{nearest_is}
use Rattle.base_laws.proofs.lemmas.walk_laws.Overrides.{slot_again}
use Rattle.descriptor_file.specs.declared.root.Root.{Root}
use Rattle.rules.specs.mark_rules.Facts.{Fact}
use Rattle.rules.specs.mark_rules.Facts.Fact.{instantiated}
use Rattle.rules.specs.mark_rules.Places.{impls_in, method_item, impl_item, marks_method, row_of}
use Rattle.rules.specs.mark_rules.Calls.{choice, interface_runs}
use Rattle.rules.specs.change_rules.Change.{Keep}
use Rattle.rules.specs.change_rules.Keeps.{names_of, keeps_expr, shows_expr, makes_expr, keeps_made}
use Rattle.rules.specs.world_change_rules.Places.{keeps_type_row, keeps_method_row}
use Rattle.rules.specs.world_change_rules.Kept.{KeepsRows}
use Rattle.run_laws.proofs.lemmas.query_laws.Ids.{has_number}
use Rattle.run_laws.specs.dispatch_laws.Kept.{slot_numbered}
use Rattle.run_laws.proofs.lemmas.dispatch_laws.There.{IsMethodThere, home_there, slot_good}
use Rattle.run_laws.proofs.lemmas.dispatch_laws.Standing.{slot_within_is}
use Rattle.run_laws.specs.subtype_laws.Gone.{KeepsImplied}
use Rattle.run_laws.specs.marked_laws.Flags.{HasMarks, keep_of, kept_of}
use Rattle.run_laws.proofs.lemmas.marked_laws.Closing.{by_core, class_gives, interface_gives}
use Rattle.run_laws.proofs.lemmas.marked_laws.Flags.{method_is, method_has}
use Rattle.run_laws.proofs.lemmas.marked_laws.Places.{method_row_of, impl_row_of, last_is_core}
use Rattle.run_laws.specs.marked_call_laws.Laws.{HasFewTypes, IsOwned, MarkedRuns, MarkedFinds}
use Rattle.run_laws.proofs.lemmas.marked_call_laws.Opened.{parent_open, parent_home, open_interfaces}
use Rattle.run_laws.proofs.lemmas.marked_call_laws.Bases.{bases_hold}
use Rattle.run_laws.proofs.lemmas.marked_call_laws.Alike.{OneHome, any_alike, dispatch_alike}
use Rattle.run_laws.proofs.lemmas.marked_call_laws.Core.{IsCoreType, bases_core}
use Rattle.run_laws.proofs.lemmas.marked_call_laws.Found.{CoreMethod, slot_there, dispatch_core, choice_core}
use Rattle.run_laws.proofs.lemmas.marked_call_laws.Made.{MadeType, made_type}
use Rattle.run_laws.proofs.lemmas.marked_call_laws.Kept.{home_kept, base_kept}
use Rattle.run_laws.proofs.lemmas.marked_call_laws.Chosen.{choice_alike}
use Rattle.run_laws.proofs.lemmas.marked_call_laws.Implied.{implied_way, put_home, put_interface}
use Rattle.run_laws.proofs.lemmas.marked_call_laws.Owners.{own_slot, untyped_slot}
use Rattle.run_laws.proofs.lemmas.marked_call_laws.Owned.{owner_home}
use Rattle.run_laws.proofs.lemmas.marked_call_laws.Rows.{impl_row, place, names_interface, class_is, place_kept, has_token}
use Rattle.run_laws.proofs.lemmas.marked_call_laws.Lists.{First, any_from, same_listed, in_class_runs, in_interface_runs, in_interface_answer}

-- ---- searches

find_by : (p : TypeExpr → Bool) (x i : TypeExpr) (xs : List TypeExpr) (b : Bool) → p x ≡ b → (find p xs ≡ Some i → In i xs × (p i ≡ true)) → (if b then Some x else find p xs) ≡ Some i → In i (x ∷ xs) × (p i ≡ true)
find_by p x i xs true t more e = let same : x ≡ i = cc in (inl (sym same), ap p (sym same) ∙ t)
find_by p x i xs false t more e = let r = more e in (inr r.0, r.1)

find_is : (p : TypeExpr → Bool) (xs : List TypeExpr) (i : TypeExpr) → find p xs ≡ Some i → In i xs × (p i ≡ true)
find_is p [] i e = absurd (cc)
find_is p (x ∷ xs) i e = find_by p x i xs (p x) refl (find_is p xs i) e

then_is : {A B : Type 0} (g : A → Option B) (o : Option A) (y : B) → option_and_then g o ≡ Some y → (x : A) × (o ≡ Some x) × (g x ≡ Some y)
then_is g None y e = absurd (cc)
then_is g (Some x) y e = (x, refl, e)

map_is : {A B : Type 0} (g : A → B) (o : Option A) (y : B) → option_map g o ≡ Some y → (x : A) × (o ≡ Some x) × (g x ≡ y)
map_is g None y e = absurd (cc)
map_is g (Some x) y e = (x, refl, some_is (g x) y e)
  where
    some_is : {C : Type 0} (a b : C) → Some a ≡ Some b → a ≡ b
    some_is a b h = cc

-- a method that is there is the one of its number
there_by : (recs : List AsmRec) (at : RowAt) (d : MethodDefRow) (o : Option AsmRec) → slice_get recs at.asm ≡ o → option_and_then (λ (rec : AsmRec). slice_get rec.method_def at.row) o ≡ Some d
    → row_of recs (method_item recs at) ≡ Some at
there_by recs at d None s e = absurd (cc)
there_by recs at d (Some rec) s e = method_row_of recs at rec s d e

method_there : (recs : List AsmRec) (at : RowAt) → IsMethodThere recs at → row_of recs (method_item recs at) ≡ Some at
method_there recs at t = there_by recs at t.0 (slice_get recs at.asm) refl t.1

module _ (inputs : List AsmRec) (entry : Option RowAt) (roots : List Root) (has : Fact → Bool) (sound : link_fault_of inputs ≡ None) (few : HasFewTypes inputs)
    (marks : HasMarks (assemblies inputs) entry roots has)
    (keeps : KeepsRows (keep_of (assemblies inputs) has) (kept_of (assemblies inputs) has) (assemblies inputs))
    (rows : KeepsImplied (keep_of (assemblies inputs) has) (kept_of (assemblies inputs) has) (assemblies inputs)) where
  abbrev recs : List AsmRec
  recs = assemblies inputs

  abbrev k : Keep
  k = keep_of recs has

  abbrev kept : RowAt → Bool
  kept = kept_of recs has

  abbrev KeepsMethod : RowAt → Type 0
  KeepsMethod f = IsTrue (keeps_method_row k recs f)

  abbrev KeepsType : RowAt → Type 0
  KeepsType at = IsTrue (keeps_type_row k recs at)

  method_kept : (f : RowAt) → IsTrue (has (marks_method recs f)) → KeepsMethod f
  method_kept f h = method_is recs has (method_id recs f) h

  method_marked : (f : RowAt) → KeepsMethod f → IsTrue (has (marks_method recs f))
  method_marked f h = method_has recs has (method_id recs f) h

  core_kept : (f : RowAt) → CoreMethod inputs sound f → KeepsMethod f
  core_kept f c =
      method_kept f (by_core recs entry roots has marks (method_item recs f) (last_is_core recs (method_item recs f) f (method_there recs f c.there) c.last) refl)

  -- ---- a definition with its parameters open

  open_home : (e : TypeExpr) (x : RowAt) → home_of recs e ≡ Some x → OneHome inputs sound e (open_type recs x)
  open_home e x is =
      is ∙ sym (ap (option_and_then (type_home recs)) (owner_as recs [] (TypeExpr-F.Def (type_id recs x.asm x.row)) (expr.Def (type_id recs x.asm x.row)) (expr.rolls-Def (type_id recs x.asm x.row))) ∙ home_of_type inputs sound e x is)

  -- ---- the slot of a marked method

  record Slot (s : RowAt) : Type 0 where
    stays : KeepsMethod s
    there : IsMethodThere recs s
    own : slot_of recs s ≡ Some s

  number_kept : (m : ℕ) (at : RowAt) → IsTrue (k.method m) → home_from methods_in 0 recs m ≡ Some at → KeepsMethod at
  number_kept m at h e = subst (λ (n : ℕ). IsTrue (k.method n)) (sym (has_number methods_in recs m at e)) h

  slot_is : (m : ℕ) (s : RowAt) → IsTrue (k.method m) → slot_numbered recs m ≡ Some s → Slot s
  slot_is m s h is =
      let at = then_is (slot_of recs) (home_from methods_in 0 recs m) s is in
      let good = slot_good k kept recs keeps (suc (type_count recs)) at.0 s (number_kept m at.0 h at.1) (slot_within_is recs at.0 s at.2) in
      record { stays = good.stays; there = good.there; own = slot_again recs at.0 s at.2 }

  slot_row : (s : RowAt) → Slot s → row_of recs (method_item recs s) ≡ Some s
  slot_row s g = method_there recs s g.there

  -- ---- a class slot

  class_by : (e : TypeExpr) (s f : RowAt) → Slot s → in_interface recs s ≡ false → class_dispatch recs e s ≡ Some f → IsCoreType inputs sound e ⊎ MadeType inputs sound has e → KeepsMethod f
  class_by e s f g class h (inl core) = core_kept f (dispatch_core inputs sound s f e core h)
  class_by e s f g class h (inr m) =
      method_kept f
      (class_gives recs entry roots has marks m.made.id (method_id recs s) m.of s (marks_method recs f) m.made.is (method_marked s g.stays) m.made.home (slot_row s g)
      (in_class_runs recs m.of s f g.own class (sym (dispatch_alike inputs sound s e (open_type recs m.of) (open_home e m.of m.is)) ∙ h)) refl)

  -- ---- an interface slot

  -- the instance that a type chooses, with the row by which it has it
  record Chosen (e owner : TypeExpr) (s f : RowAt) : Type 0 where
    of : TypeExpr
    above : In of (with_bases recs e)
    class : RowAt
    class_is : home_of recs of ≡ Some class
    named : TypeExpr
    row : In named (interfaces_at recs class)
    instance : TypeExpr
    within : In instance (implied recs named)
    closed : put (args_of of) [] instance ≡ owner
    d : MethodDefRow
    there : method_row_at recs s ≡ Some d
    found : from_choice recs s d (type_of_row recs s) (choice of instance) ≡ Some f

  choice_by : (e owner : TypeExpr) (s f : RowAt) (d : MethodDefRow) (of i : TypeExpr) → method_row_at recs s ≡ Some d → In of (with_bases recs e) → chosen recs owner of ≡ Some i
      → from_choice recs s d (type_of_row recs s) (choice of i) ≡ Some f → Chosen e owner s f
  unfolding chosen
  choice_by e owner s f d of i there above is h =
      let r = find_is (is_closed_to (args_of of) owner) (implied_by recs of) i is in
      let j = in_flat (implied recs) i (interfaces_of recs (open_parent recs of)) r.0 in
      let at = in_flat (interfaces_at recs) j.0 (listed (home_of recs (open_parent recs of))) (subst (λ (es : List TypeExpr). In j.0 es) (open_interfaces recs (open_parent recs of) (parent_open recs of)) j.1) in
      record {
        of = of;
        above = above;
        class = at.0;
        class_is = sym (parent_home recs of) ∙ in_listed at.0 (home_of recs (open_parent recs of)) at.1;
        named = j.0;
        row = at.2;
        instance = i;
        within = j.2;
        closed = (same_decides (put (args_of of) [] i) owner).0 r.1;
        d = d;
        there = there;
        found = h;
      }

  chosen_by : (e owner : TypeExpr) (s f : RowAt) → interface_method recs e owner s ≡ Some f → Chosen e owner s f
  unfolding interface_method
  chosen_by e owner s f h =
      let d = then_is (interface_method_by recs e owner s) (method_row_at recs s) f h in
      let c = then_is (from_choice recs s d.0 (type_of_row recs s)) (nearest (choice_in recs owner) (with_bases recs e)) f d.2 in
      let n = nearest_is (choice_in recs owner) (with_bases recs e) c.0 c.1 in
      let i = map_is (choice n.0) (chosen recs owner n.0) c.0 n.2 in
      choice_by e owner s f d.0 n.0 i.0 d.1 n.1 i.1 (ap (from_choice recs s d.0 (type_of_row recs s)) i.2 ∙ c.2)

  abbrev CalledOn : TypeExpr → RowAt → Type 0
  CalledOn owner s = IsTrue (is_interface recs owner) → home_of recs owner ≡ type_of_method recs s

  owner_by : (s : RowAt) (o : Option RowAt) → type_of_method recs s ≡ o → list_any (is_interface_at recs) (listed o) ≡ true → (owner : RowAt) × (type_of_method recs s ≡ Some owner)
  owner_by s None e h = absurd (cc)
  owner_by s (Some x) e h = (x, e)

  -- the row is marked, and what the search finds is listed for it
  record Listed (x s f : RowAt) : Type 0 where
    row : RowAt
    marks_row : IsTrue (kept row)
    is : row_of recs (impl_item recs row) ≡ Some row
    first : First recs x s row f

  listed_is : (e owner : TypeExpr) (s f x : RowAt) → IsTrue (keeps_expr k e) → home_of recs e ≡ Some x → Slot s → in_interface recs s ≡ true → CalledOn owner s → Chosen e owner s f → Listed x s f
  listed_is e owner s f x keeps_e at g interface called c =
      let J = owner_by s (type_of_method recs s) refl interface in
      let is = are_interfaces recs c.class c.named c.row in
      let home = homed recs c.named is in
      let w = implied_way inputs sound home.0 c.named c.instance is home.1 c.within in
      let interface_owner : is_interface recs owner ≡ true = ap (is_interface recs) (sym c.closed) ∙ put_interface inputs sound (args_of c.of) c.instance w.interface in
      let instance_home : home_of recs c.instance ≡ Some J.0 = sym (put_home inputs sound (args_of c.of) c.instance w.interface) ∙ ap (home_of recs) c.closed ∙ called interface_owner ∙ J.1 in
      let same : w.home ≡ J.0 = (let q = sym w.is ∙ instance_home in cc) in
      let kept_owner : KeepsType w.home = subst KeepsType (sym same) (keeps.owners s J.0 g.stays J.1) in
      let kept_class : KeepsType c.class = bases_hold inputs sound KeepsType (base_kept k kept recs keeps) (type_count recs) e c.of (λ y is. home_kept k kept recs keeps e y keeps_e is) c.above c.class c.class_is in
      let i = impl_row recs c.class c.named c.row in
      record {
        row = place recs c.class c.named i;
        marks_row = place_kept recs c.class c.named i k kept rows kept_class (home_there recs c.of c.class c.class_is) home.0 w.home w.steps home.1 w.leads kept_owner;
        is = impl_row_of recs (place recs c.class c.named i) i.rec i.there i.row i.at;
        first = record {
          own = g.own;
          interface = interface;
          class = c.class;
          class_is = class_is recs c.class c.named i (has_token inputs sound few c.class c.named (home_of_type inputs sound c.of c.class c.class_is) i);
          base = sym
              (any_alike inputs sound (λ e. list_any (same_row c.class) (listed (home_of recs e))) (λ a b h. ap (λ (o : Option RowAt). list_any (same_row c.class) (listed o)) h) (type_count recs) e (open_type recs x) (open_home e x at))
              ∙ any_from (λ e. list_any (same_row c.class) (listed (home_of recs e))) c.of (with_bases recs e) c.above (same_listed recs c.class (home_of recs c.of) c.class_is);
          named = c.named;
          names = names_interface recs c.class c.named i;
          owner = J.0;
          of = J.1;
          row = c.d;
          there = c.there;
          instance = c.instance;
          within = c.within;
          home = instance_home;
          found = sym (choice_alike inputs sound s c.d (type_of_row recs s) c.of (open_type recs c.class) c.instance (open_home c.of c.class c.class_is)) ∙ c.found;
        };
      }

  gives : (x s g : RowAt) (t : TypeId) (r : RowAt) → IsTrue (has (instantiated t)) → type_home recs t ≡ Some x → Slot s → IsTrue (kept r) → row_of recs (impl_item recs r) ≡ Some r
      → In (marks_method recs g) (interface_runs recs x s r) → KeepsMethod g
  gives x s g t r made home slot marks_row is i =
      method_kept g
      (interface_gives recs entry roots has marks t (method_id recs s) (record { 0 = rows_before impls_in recs r.asm + r.row }) x s r (marks_method recs g) made (method_marked s slot.stays) marks_row home (slot_row s slot) is i refl)

  found_by : (e owner : TypeExpr) (s f : RowAt) → IsTrue (keeps_expr k e) → Slot s → in_interface recs s ≡ true → CalledOn owner s → interface_method recs e owner s ≡ Some f
      → IsCoreType inputs sound e ⊎ MadeType inputs sound has e → KeepsMethod f
  found_by e owner s f keeps_e g interface called h (inl core) =
      let c = chosen_by e owner s f h in
      core_kept f (choice_core inputs sound s c.d (type_of_row recs s) (choice c.of c.instance) f (bases_core inputs sound (type_count recs) e c.of core c.above) c.found)
  found_by e owner s f keeps_e g interface called h (inr m) =
      let l = listed_is e owner s f m.of keeps_e m.is g interface called (chosen_by e owner s f h) in
      gives m.of s f m.made.id l.row m.made.is m.made.home g l.marks_row l.is (in_interface_runs recs m.of s l.row f l.first)

  answer_by : (e owner : TypeExpr) (s f slot d : RowAt) → IsTrue (keeps_expr k e) → Slot s → in_interface recs s ≡ true → CalledOn owner s → interface_method recs e owner s ≡ Some f
      → slot_of recs f ≡ Some slot → class_dispatch recs e slot ≡ Some d → IsCoreType inputs sound e ⊎ MadeType inputs sound has e → KeepsMethod d
  answer_by e owner s f slot d keeps_e g interface called h of is (inl core) = core_kept d (dispatch_core inputs sound slot d e core is)
  answer_by e owner s f slot d keeps_e g interface called h of is (inr m) =
      let l = listed_is e owner s f m.of keeps_e m.is g interface called (chosen_by e owner s f h) in
      gives m.of s d m.made.id l.row m.made.is m.made.home g l.marks_row l.is
      (in_interface_answer recs m.of s l.row f slot d l.first of (sym (dispatch_alike inputs sound slot e (open_type recs m.of) (open_home e m.of m.is)) ∙ is))

  interface_by : (e owner : TypeExpr) (s d : RowAt) → IsTrue (keeps_expr k e) → Slot s → in_interface recs s ≡ true → CalledOn owner s → interface_dispatch recs e owner s ≡ Some d
      → IsCoreType inputs sound e ⊎ MadeType inputs sound has e → KeepsMethod d
  unfolding interface_dispatch
  interface_by e owner s d keeps_e g interface called h made =
      let slot = then_is (class_dispatch recs e) (option_and_then (slot_of recs) (interface_method recs e owner s)) d h in
      let f = then_is (slot_of recs) (interface_method recs e owner s) slot.0 slot.1 in
      answer_by e owner s f.0 slot.0 d keeps_e g interface called f.1 f.2 slot.2 made

  -- ---- both

  module _ (e owner : TypeExpr) (m : ℕ) (keeps_e : IsTrue (keeps_made k e)) (keeps_m : IsTrue (k.method m)) (owned : IsOwned recs owner m) where
    made : IsCoreType inputs sound e ⊎ MadeType inputs sound has e
    made = made_type inputs sound has e (second_so (shows_expr k e) (makes_expr k e) keeps_e)

    kept_e : IsTrue (keeps_expr k e)
    kept_e = first_so (keeps_expr k e) (names_of k e).shown (first_so (shows_expr k e) (makes_expr k e) keeps_e)

    called_by : (at s : RowAt) (o : Option RowAt) → type_of_method recs at ≡ o → home_from methods_in 0 recs m ≡ Some at → slot_of recs at ≡ Some s → in_interface recs s ≡ true → CalledOn owner s
    called_by at s None of h is interface i =
        let same = untyped_slot recs at of s is in
        absurd (true≢false (sym interface ∙ ap (λ (o : Option RowAt). list_any (is_interface_at recs) (listed o)) (ap (type_of_method recs) (sym same) ∙ of)))
    called_by at s (Some x) of h is interface i =
        let d = slot_there recs at s is in
        let e = owner_home inputs sound owner m at x d.0 owned h d.1 of i in
        let home = homed recs owner i in
        let one : home.0 ≡ x = (let f = sym home.1 ∙ e in cc) in
        let same = own_slot recs at x of (ap (is_interface_at recs) (sym one) ∙ home.2) s is in
        e ∙ sym of ∙ ap (type_of_method recs) same

    called_slot : (s : RowAt) → slot_numbered recs m ≡ Some s → in_interface recs s ≡ true → CalledOn owner s
    called_slot s is interface =
        let at = then_is (slot_of recs) (home_from methods_in 0 recs m) s is in called_by at.0 s (type_of_method recs at.0) refl at.1 at.2 interface

    slot_by : (s f : RowAt) (b : Bool) → in_interface recs s ≡ b → slot_numbered recs m ≡ Some s → (if b then interface_dispatch recs e owner s else class_dispatch recs e s) ≡ Some f → KeepsMethod f
    slot_by s f true interface is h = interface_by e owner s f kept_e (slot_is m s keeps_m is) interface (called_slot s is interface) h made
    slot_by s f false class is h = class_by e s f (slot_is m s keeps_m is) class h made

    pub runs_kept : (f : RowAt) → option_and_then (dispatch_slot recs e owner) (slot_numbered recs m) ≡ Some f → KeepsMethod f
    runs_kept f h =
        let s = then_is (dispatch_slot recs e owner) (slot_numbered recs m) f h in slot_by s.0 f (in_interface recs s.0) refl s.1 s.2

    pub finds_kept : (s f : RowAt) → slot_numbered recs m ≡ Some s → IsTrue (in_interface recs s) → interface_method recs e owner s ≡ Some f → KeepsMethod f
    finds_kept s f is interface h = found_by e owner s f kept_e (slot_is m s keeps_m is) interface (called_slot s is interface) h made

pub all_run : MarkedRuns
all_run inputs entry roots has sound few marks keeps rows e owner m made kept_owner kept_m called f h = runs_kept inputs entry roots has sound few marks keeps rows e owner m made kept_m called f h

pub all_find : MarkedFinds
all_find inputs entry roots has sound few marks keeps rows e owner m made kept_owner kept_m called s f is interface h =
    finds_kept inputs entry roots has sound few marks keeps rows e owner m made kept_m called s f is interface h
