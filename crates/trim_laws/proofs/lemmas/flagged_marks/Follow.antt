-- The flags of facts of a merge follow the rules of marking.
use Rattle.std.proofs.Common.{◌≡◌, ◌<◌, ◌≤◌, ℕ, suc, Bool, true, false, List, [], ◌∷◌, ◌++◌, length, Option, Some, None, nat_le, refl, sym, ap, subst, ◌∙◌, ◌&&◌, ◌||◌, arith}
use Rattle.std.specs.Prelude.{IsTrue, not, ◌↔◌, ◌==◌, if◌then◌else◌, slice_get}
use Rattle.std.specs.List.{Contains, list_any, flat_map}
use Rattle.std.specs.Option.{is_some}
use Rattle.std.proofs.lemmas.Bool.{or_left, eqb-true, eqb-false, leb-true}
use Rattle.il_base.specs.declared.ids.TypeId.{TypeId}
use Rattle.il_base.specs.declared.ids.Item.{Item}
use Rattle.il_base.specs.declared.ids.Item.TheVariants as item
use Rattle.descriptor_file.specs.declared.root.Root.{Root}
use Rattle.il_base.specs.world_model.Worlds.{type_id}
use Rattle.il_base.specs.declared.world_model.record.AsmRec.{AsmRec}
use Rattle.il_base.specs.declared.core_table.types.TheConstants.{TYPES}
use Rattle.rules.specs.declared.link_rules.row_at.RowAt.{RowAt}
use Rattle.rules.specs.link_rules.Types.{at_row}
use Rattle.rules.specs.link_rules.Members.{type_home}
use Rattle.rules.specs.link_rules.Cycles.{listed}
use Rattle.rules.specs.type_rules.Slots.{type_of_method}
use Rattle.rules.specs.mark_rules.Facts.{Fact, Derived}
use Rattle.rules.specs.mark_rules.Facts.Fact.{marked, instantiated, reflected, shown}
use Rattle.rules.specs.mark_rules.Places.{row_of, is_core, type_item, method_item, marks_type, marks_method}
use Rattle.rules.specs.mark_rules.Calls.{row_class}
use Rattle.rules.specs.mark_rules.Naming.{of_parts}
use Rattle.rules.specs.mark_rules.Shown.{parts_of_item}
use Rattle.rules.specs.mark_rules.Marking.{row_needs, item_needs, is_core_fact, given, one, two, three, marking, Marks}
use Rattle.mark_numbers.specs.Numbers.{is_there}
use Rattle.mark_numbers.proofs.lemmas.mark_laws.There.{one_there, two_there, three_there}
use Rattle.run_laws.specs.marked_laws.Flags.{is_added_row, is_added, OfClass, HasClass, HasMarks}
use Rattle.rules.specs.merged_world_rules.Merge.{Merge, before}
use Rattle.rules.specs.merged_world_rules.NewNumbers.{type_core}
use Rattle.trim_laws.specs.marked_merge_rules.Merges.{IsMarkedMerge, AreFacts, stays_there, flags_of}
use Rattle.trim_laws.specs.flagged_marks.Laws.{HasKeptClass, PartsStay, CoreIsPlain, FlagsFollow}
use Rattle.trim_laws.proofs.lemmas.flagged_marks.Homes.{row_below_end, owner_home}
use Rattle.base_laws.proofs.lemmas.type_laws.Places.{place_has}
use Rattle.run_laws.proofs.lemmas.marked_laws.Places.{type_home_of}
use Rattle.merge_laws.proofs.lemmas.merged_loads.Whole.{an_input}
use Rattle.trim_laws.proofs.lemmas.flagged_marks.Classes.{class_is, class_below}
use Rattle.trim_laws.proofs.lemmas.flagged_marks.Needed.{part_in_one, owner_in_one}
use Rattle.trim_laws.proofs.lemmas.flagged_marks.Owners.{owner_low}

-- ---- added names

record AddedAt (recs : List AsmRec) (t : TypeId) : Type 0 where
  at : RowAt
  home : type_home recs t ≡ Some at
  last : suc at.asm ≡ length recs
  high : nat_le (length TYPES) at.row ≡ true

added_at : (recs : List AsmRec) (t : TypeId) (o : Option RowAt) → type_home recs t ≡ o → list_any (is_added_row recs) (listed o) ≡ true → AddedAt recs t
added_at recs t None e h = absurd (cc)
added_at recs t (Some at) e h = by_parts (suc at.asm == length recs) (nat_le (length TYPES) at.row) refl refl h
  where
    by_parts : (b c : Bool) → (suc at.asm == length recs) ≡ b → nat_le (length TYPES) at.row ≡ c → ((b && c) || false) ≡ true → AddedAt recs t
    by_parts true true f g i = record { at = at; home = e; last = eqb-true (suc at.asm) (length recs) f; high = g }
    by_parts true false f g i = absurd (cc)
    by_parts false c f g i = absurd (cc)

core_by : (recs : List AsmRec) (o : Option RowAt) → list_any (is_added_row recs) (listed o) ≡ true → list_any (λ (at : RowAt). suc at.asm == length recs) (listed o) ≡ true
core_by recs None h = absurd (cc)
core_by recs (Some at) h = by_last (suc at.asm == length recs) h
  where
    by_last : (b : Bool) → ((b && nat_le (length TYPES) at.row) || false) ≡ true → (b || false) ≡ true
    by_last true i = refl
    by_last false i = absurd (cc)

module _ (recs : List AsmRec) (entry : Option RowAt) (roots : List Root) where
  added_core : (f : Fact) → is_added recs f ≡ true → is_core_fact recs f ≡ true
  unfolding is_core row_of
  added_core (marked (item.Asm a)) h = absurd (cc)
  added_core (marked (item.Typ t)) h = core_by recs (type_home recs t) h
  added_core (marked (item.Method x)) h = absurd (cc)
  added_core (marked (item.Field x)) h = absurd (cc)
  added_core (marked (item.Prop x)) h = absurd (cc)
  added_core (marked (item.Event x)) h = absurd (cc)
  added_core (marked (item.Impl x)) h = absurd (cc)
  added_core (instantiated t) h = absurd (cc)
  added_core (reflected i) h = absurd (cc)
  added_core (shown t) h = absurd (cc)

  is_given : (f : Fact) → is_core_fact recs f ≡ true → IsTrue (given recs entry roots f)
  unfolding given
  is_given f h = or_left (is_core_fact recs f) _ h

  start : (f : Fact) → IsTrue (given recs entry roots f) → Marks recs entry roots f
  unfolding marking
  start f h = Derived.start f h

  one_step : (a f : Fact) → Marks recs entry roots a → Contains (one recs roots a) f → Marks recs entry roots f
  unfolding marking
  one_step a f d c = Derived.by_one a f d c

  two_step : (a b f : Fact) → Marks recs entry roots a → Marks recs entry roots b → Contains (two recs a b) f → Marks recs entry roots f
  unfolding marking
  two_step a b f d e c = Derived.by_two a b f d e c

  three_step : (a b c f : Fact) → Marks recs entry roots a → Marks recs entry roots b → Marks recs entry roots c → Contains (three recs a b c) f → Marks recs entry roots f
  unfolding marking
  three_step a b c f d e g i = Derived.by_three a b c f d e g i

  added_marked : (f : Fact) → is_added recs f ≡ true → Marks recs entry roots f
  added_marked f h = start f (is_given f (added_core f h))

-- ---- the flags

module _ (m : Merge) (entry : Option RowAt) (roots : List Root) (holds : Fact → Bool) (is : IsMarkedMerge m entry roots) (facts : AreFacts m entry roots holds) where
  abbrev recs : List AsmRec
  recs = before m

  abbrev has : Fact → Bool
  has = flags_of m holds

  plain : (f : Fact) → is_added recs f ≡ false → has f ≡ (not (is_there recs f) || holds f)
  unfolding flags_of
  plain f h = ap (λ (b : Bool). if b then stays_there m f else not (is_there recs f) || holds f) h

  by_name : (f : Fact) → is_added recs f ≡ true → has f ≡ stays_there m f
  unfolding flags_of
  by_name f h = ap (λ (b : Bool). if b then stays_there m f else not (is_there recs f) || holds f) h

  set_by : (f : Fact) (b : Bool) → is_there recs f ≡ b → Marks recs entry roots f → IsTrue (not b || holds f)
  set_by f true there d = (facts f there).1 d
  set_by f false there d = refl

  set : (f : Fact) → is_added recs f ≡ false → Marks recs entry roots f → IsTrue (has f)
  set f known d = plain f known ∙ set_by f (is_there recs f) refl d

  holds_by : (f : Fact) (b : Bool) → b ≡ true → IsTrue (not b || holds f) → IsTrue (holds f)
  holds_by f true there h = h
  holds_by f false there h = absurd (cc)

  marks_by : (f : Fact) (b : Bool) → is_added recs f ≡ b → IsTrue (is_there recs f) → IsTrue (has f) → Marks recs entry roots f
  marks_by f true known there h = added_marked recs entry roots f known
  marks_by f false known there h = (facts f there).0 (holds_by f (is_there recs f) there (sym (plain f known) ∙ h))

  marks : (f : Fact) → IsTrue (is_there recs f) → IsTrue (has f) → Marks recs entry roots f
  marks f there h = marks_by f (is_added recs f) refl there h

  typ_row : (t : TypeId) (at : RowAt) → type_home recs t ≡ Some at → row_of recs (item.Typ t) ≡ Some at
  unfolding row_of
  typ_row t at e = e

  there_of : (i : Item) (at : RowAt) → row_of recs i ≡ Some at → IsTrue (is_there recs (marked i))
  unfolding is_there
  there_of i at e = ap is_some e

  -- ---- parts

  module _ (parts : PartsStay m) (core_plain : CoreIsPlain m) where
    kept_of : (i : Item) (at : RowAt) → row_of recs i ≡ Some at → IsTrue (has (marked i)) → IsTrue (m.kept i)
    unfolding row_of
    kept_of i at e h = is.all i (ap is_some e) (marks (marked i) (there_of i at e) h)

    class_kept : (at : RowAt) → suc at.asm < length recs → (q : OfClass recs has at) (c : RowAt) → row_class recs at ≡ Some c → m.kept (type_item recs c) ≡ true
    class_kept at lt q c e =
        let same : c ≡ at_row at.asm q.class = class_is recs at q.rec q.row q.class q.there q.is q.named c e in
        let names = (is.merge.records at.asm q.rec (an_input m.inputs is.files at.asm q.rec lt q.there)).tokens.interface_impls at.row q.row q.is in
        let below : q.class < length q.rec.type_def = class_below q.rec q.row.class q.class q.named names.0 in
        let row = place_has q.rec.type_def q.class below in
        let home : type_home recs (type_id recs at.asm q.class) ≡ Some (at_row at.asm q.class) = type_home_of recs (at_row at.asm q.class) q.rec q.there row.0 row.1 in
        subst (λ (x : RowAt). m.kept (type_item recs x) ≡ true) (sym same) (kept_of (type_item recs (at_row at.asm q.class)) (at_row at.asm q.class) (typ_row (type_id recs at.asm q.class) (at_row at.asm q.class) home) q.marks)

    classed : (i : Item) (at : RowAt) → suc at.asm < length recs → HasClass recs has i at → HasKeptClass m i at
    classed (item.Impl r) at lt q = class_kept at lt q
    classed (item.Asm x) at lt q = tt
    classed (item.Typ x) at lt q = tt
    classed (item.Method x) at lt q = tt
    classed (item.Field x) at lt q = tt
    classed (item.Prop x) at lt q = tt
    classed (item.Event x) at lt q = tt

    stays : (t : TypeId) (at : RowAt) → type_home recs t ≡ Some at → (s : ℕ) → (type_core m).to at.row ≡ Some s → stays_there m (marked (item.Typ t)) ≡ true
    stays t at e s g = ap (λ (o : Option RowAt). list_any (λ (x : RowAt). is_some ((type_core m).to x.row)) (listed o)) e ∙ ap (λ (o : Option ℕ). is_some o || false) g

    added_stays : (i : Item) (at : RowAt) (t : TypeId) → row_of recs i ≡ Some at → IsTrue (m.kept i) → HasKeptClass m i at → suc at.asm < length recs → Contains (of_parts (parts_of_item recs i at)) (marked (item.Typ t)) → is_added recs (marked (item.Typ t)) ≡ true
        → IsTrue (has (marked (item.Typ t)))
    added_stays i at t e k q lt c known =
        let a = added_at recs t (type_home recs t) refl known in
        let s = parts i at t a.at k e lt q c a.home a.last in
        by_name (marked (item.Typ t)) known ∙ stays t a.at a.home s.0 s.1

    named : (i : Item) (at : RowAt) (f : Fact) → row_of recs i ≡ Some at → IsTrue (m.kept i) → HasKeptClass m i at → suc at.asm < length recs → Contains (of_parts (parts_of_item recs i at)) f → is_added recs f ≡ true → IsTrue (has f)
    named i at (marked (item.Typ t)) e k q lt c known = added_stays i at t e k q lt c known
    named i at (marked (item.Asm x)) e k q lt c known = absurd (cc)
    named i at (marked (item.Method x)) e k q lt c known = absurd (cc)
    named i at (marked (item.Field x)) e k q lt c known = absurd (cc)
    named i at (marked (item.Prop x)) e k q lt c known = absurd (cc)
    named i at (marked (item.Event x)) e k q lt c known = absurd (cc)
    named i at (marked (item.Impl x)) e k q lt c known = absurd (cc)
    named i at (instantiated t) e k q lt c known = absurd (cc)
    named i at (reflected x) e k q lt c known = absurd (cc)
    named i at (shown t) e k q lt c known = absurd (cc)

    by_home : (i : Item) (at : RowAt) (f : Fact) → row_of recs i ≡ Some at → IsTrue (m.kept i) → HasClass recs has i at → Contains (of_parts (parts_of_item recs i at)) f → is_added recs f ≡ true → (b : Bool) → (suc at.asm == length recs) ≡ b → IsTrue (has f)
    by_home i at f e k q c known true last = absurd (let p = core_plain i at f e (eqb-true (suc at.asm) (length recs) last) c in cc)
    by_home i at f e k q c known false last =
        let below = row_below_end recs i at e in
        let lt : suc at.asm < length recs = omega (arith, below, eqb-false (suc at.asm) (length recs) last) in
        named i at f e k (classed i at lt q) lt c known

    by_part : (i : Item) (at : RowAt) (f : Fact) (b : Bool) → is_added recs f ≡ b → IsTrue (has (marked i)) → row_of recs i ≡ Some at → HasClass recs has i at → Contains (of_parts (parts_of_item recs i at)) f → IsTrue (has f)
    by_part i at f false known h e q c = set f known (one_step recs entry roots (marked i) f (marks (marked i) (there_of i at e) h) (part_in_one recs roots i at f e c))
    by_part i at f true known h e q c = by_home i at f e (kept_of i at e h) q c known (suc at.asm == length recs) refl

    -- ---- owners

    not_added : (at owner : RowAt) → type_of_method recs at ≡ Some owner → is_added recs (marks_type recs owner) ≡ false
    not_added at owner e = by_added (is_added recs (marks_type recs owner)) refl
      where
        by_added : (b : Bool) → is_added recs (marks_type recs owner) ≡ b → b ≡ false
        by_added false h = refl
        by_added true h =
            let a = added_at recs (type_id recs owner.asm owner.row) (type_home recs (type_id recs owner.asm owner.row)) refl h in
            let both : Some a.at ≡ Some owner = sym a.home ∙ owner_home recs at owner e in
            let same : a.at ≡ owner = cc in
            let low = owner_low m.inputs at owner e (subst (λ (x : RowAt). suc x.asm ≡ length recs) same a.last) in
            let high = leb-true (length TYPES) owner.row (subst (λ (x : RowAt). nat_le (length TYPES) x.row ≡ true) same a.high) in
            absurd (omega (arith, low, high))

    by_owner : (at owner : RowAt) → IsTrue (has (marks_method recs at)) → row_of recs (method_item recs at) ≡ Some at → type_of_method recs at ≡ Some owner → IsTrue (has (marks_type recs owner))
    by_owner at owner h e o =
        set (marks_type recs owner) (not_added at owner o)
        (one_step recs entry roots (marks_method recs at) (marks_type recs owner) (marks (marks_method recs at) (there_of (method_item recs at) at e) h) (owner_in_one recs roots at owner e o))

    -- ---- all of them

    pub followed : HasMarks recs entry roots has × ((f : Fact) → IsTrue (is_there recs f) → IsTrue (has f) → Marks recs entry roots f)
    followed = (
      record {
        start = λ f h known. set f known (start recs entry roots f h);
        by_one = λ a f h c known. set f known (one_step recs entry roots a f (marks a (one_there recs roots a f c) h) c);
        by_two = λ a b f h g c known.
            let t = two_there recs a b f c in
            set f known (two_step recs entry roots a b f (marks a t.0 h) (marks b t.1 g) c);
        by_three = λ a b c f h g u i known.
            let t = three_there recs a b c f i in
            set f known (three_step recs entry roots a b c f (marks a t.0 h) (marks b t.1 g) (marks c t.2 u) i);
        by_part = λ i at f h e q c. by_part i at f (is_added recs f) refl h e q c;
        by_owner = λ at owner h e o. by_owner at owner h e o;
      },
      marks,
    )

pub follow : FlagsFollow
follow m entry roots holds is facts parts core_plain = followed m entry roots holds is facts parts core_plain
