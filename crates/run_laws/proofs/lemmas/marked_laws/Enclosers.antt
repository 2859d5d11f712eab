-- The type around a type that is shown is shown (II.22.32).
use Rattle.std.proofs.Common.{◌≡◌, ◌<◌, ℕ, suc, Bool, true, false, List, [], ◌∷◌, ◌++◌, length, map, Option, Some, None, ◌⊎◌, inl, inr, refl, sym, ap, subst, ◌∙◌, arith}
use Rattle.std.specs.Prelude.{IsTrue, slice_get, nat_le, ◌==◌, ◌&&◌, ◌||◌}
use Rattle.std.specs.List.{list_any, flat_map}
use Rattle.std.specs.Option.{option_map, option_and_then}
use Rattle.std.specs.Cmp.{second_so}
use Rattle.std.proofs.lemmas.Bool.{ne_eqb}
use Rattle.std.proofs.lemmas.List.{length-append}
use Rattle.il_base.specs.declared.ids.TypeId.{TypeId}
use Rattle.il_base.specs.declared.ids.Item.TheVariants as item
use Rattle.il_base.specs.declared.core_table.types.TheConstants.{TYPES}
use Rattle.il_base.specs.declared.table.TheConstants.{TYPE_DEF}
use Rattle.il_base.specs.declared.world_model.types.TypeDefRow.{TypeDefRow}
use Rattle.il_base.specs.declared.world_model.record.AsmRec.{AsmRec}
use Rattle.il_base.specs.world_model.Tokens.{token_of}
use Rattle.il_base.specs.world_model.Worlds.{type_id}
use Rattle.il_base.specs.core_table.Record.{core_record, record_with}
use Rattle.descriptor_file.specs.declared.root.Root.{Root}
use Rattle.rules.specs.declared.link_rules.core_type_name.CoreTypeName.{CoreTypeName}
use Rattle.rules.specs.declared.link_rules.row_at.RowAt.{RowAt}
use Rattle.rules.specs.link_rules.CoreNames.{missing_names, core_with}
use Rattle.rules.specs.link_rules.Types.{at_row, encloser_in, encloser}
use Rattle.rules.specs.link_rules.Members.{type_home}
use Rattle.rules.specs.link_rules.Cycles.{listed}
use Rattle.rules.specs.link_rules.Linked.{assemblies}
use Rattle.rules.specs.type_rules.Rows.{rec_at, type_row_at}
use Rattle.rules.specs.type_rules.Labels.{encloser_at}
use Rattle.base_laws.proofs.lemmas.type_laws.Places.{place_within, place_has}
use Rattle.base_laws.proofs.lemmas.type_laws.Within.{In, in_front, listed_in, flat_in}
use Rattle.base_laws.proofs.lemmas.walk_laws.MethodRuns.{either}
use Rattle.base_laws.proofs.lemmas.walk_laws.Enclosing.{nested_there, encloser_there}
use Rattle.rules.specs.mark_rules.Facts.{Fact}
use Rattle.rules.specs.mark_rules.Facts.Fact.{marked, shown}
use Rattle.rules.specs.mark_rules.Places.{row_of, type_item, marks_type, is_core}
use Rattle.rules.specs.mark_rules.Naming.{of_parts}
use Rattle.rules.specs.mark_rules.Types.{encloser_of, parts_of_type, type_needs, layout_needs}
use Rattle.rules.specs.mark_rules.Shown.{encloser_shown}
use Rattle.rules.specs.mark_rules.Marking.{row_needs, one}
use Rattle.rules.specs.change_rules.Change.{Keep}
use Rattle.rules.specs.world_change_rules.Places.{type_number}
use Rattle.run_laws.specs.marked_laws.Flags.{HasMarks, is_added_row, is_added, is_core_type, keep_of, NestsWithin}
use Rattle.run_laws.proofs.lemmas.marked_laws.Closing.{mapped_in, row_gives, by_one}
use Rattle.run_laws.proofs.lemmas.marked_laws.Flags.{typ_has, shown_is, shown_typ}
use Rattle.run_laws.proofs.lemmas.marked_laws.Places.{type_row_of, type_home_of}

-- ---- a row of an input is none of the core library

module _ (recs : List AsmRec) (t : TypeId) (at : RowAt) (home : type_home recs t ≡ Some at) (earlier : suc at.asm < length recs) where
  not_last : (suc at.asm == length recs) ≡ false
  not_last = ne_eqb (suc at.asm) (length recs) (λ e. absurd (omega (arith, earlier, e)))

  pub input_not_core : is_core_type recs t.0 ≡ false
  unfolding is_core row_of
  input_not_core = ap (λ (o : Option RowAt). list_any (λ (x : RowAt). suc x.asm == length recs) (listed o)) home ∙ ap (λ (b : Bool). b || false) not_last

  pub input_not_added : is_added recs (marked (item.Typ t)) ≡ false
  input_not_added = ap (λ (o : Option RowAt). list_any (is_added_row recs) (listed o)) home ∙ ap (λ (b : Bool). (b && nat_le (length TYPES) at.row) || false) not_last

-- ---- a type with the type around it

pub record IsNested (recs : List AsmRec) (at e : RowAt) : Type 0 where
  pub rec : AsmRec
  pub here : slice_get recs at.asm ≡ Some rec
  pub place : ℕ
  pub is : encloser rec at.row ≡ Some place
  pub outer : at_row at.asm place ≡ e

module _ (recs : List AsmRec) (at e : RowAt) where
  by_place : (rec : AsmRec) → slice_get recs at.asm ≡ Some rec → (o : Option ℕ) → encloser rec at.row ≡ o → option_map (at_row at.asm) o ≡ Some e → IsNested recs at e
  by_place rec s None is h = absurd (cc)
  by_place rec s (Some j) is h = record { rec = rec; here = s; place = j; is = is; outer = cc }

  by_rec : (o : Option AsmRec) → slice_get recs at.asm ≡ o → option_and_then (λ (rec : AsmRec). option_map (at_row at.asm) (encloser rec at.row)) o ≡ Some e → IsNested recs at e
  by_rec None s h = absurd (cc)
  by_rec (Some rec) s h = by_place rec s (encloser rec at.row) refl h

  pub nested_of : encloser_at recs at ≡ Some e → IsNested recs at e
  nested_of h = by_rec (slice_get recs at.asm) refl h

flat : (rec : AsmRec) (r : ℕ) → rec.nested_class ≡ [] → encloser rec r ≡ None
unfolding encloser
flat rec r none = ap (encloser_in (token_of TYPE_DEF (suc r))) none

core_flat : (names : List CoreTypeName) → (core_with core_record names).nested_class ≡ []
unfolding core_with core_record record_with
core_flat names = refl

module _ (inputs : List AsmRec) (entry : Option RowAt) (roots : List Root) (has : Fact → Bool) (m : HasMarks (assemblies inputs) entry roots has) (nests : NestsWithin (assemblies inputs)) where
  abbrev recs : List AsmRec
  recs = assemblies inputs

  abbrev k : Keep
  k = keep_of recs has

  abbrev names : List CoreTypeName
  names = missing_names (inputs ++ core_record ∷ [])

  one_more : length recs ≡ suc (length inputs)
  unfolding assemblies
  one_more = let n = length-append inputs (core_with core_record names ∷ []) in omega (arith, n)

  input_by : (at e : RowAt) (n : IsNested recs at e) → (slice_get inputs at.asm ≡ Some n.rec) ⊎ (core_with core_record names ≡ n.rec) → suc at.asm < length recs
  input_by at e n (inl s) = let lt = place_within inputs at.asm n.rec s in let more = one_more in omega (arith, lt, more)
  input_by at e n (inr s) =
      let none : encloser n.rec at.row ≡ None = flat n.rec at.row (ap (λ (rec : AsmRec). rec.nested_class) (sym s) ∙ core_flat names) in
      let is = n.is in
      absurd (cc)

  of_input : (at e : RowAt) → IsNested recs at e → suc at.asm < length recs
  unfolding assemblies
  of_input at e n = input_by at e n (either inputs (core_with core_record names) at.asm n.rec n.here)

  -- ---- what the rules give

  pub outer_needed : (at : RowAt) (rec : AsmRec) (j : ℕ) → slice_get recs at.asm ≡ Some rec → encloser rec at.row ≡ Some j → In (marks_type recs (at_row at.asm j)) (row_needs recs (type_item recs at) at)
  unfolding type_needs
  outer_needed at rec j here e =
      let f : Fact = marks_type recs (at_row at.asm j) in
      in_front f (type_needs recs at) (layout_needs recs at)
      (in_front f (flat_map (encloser_of recs at) (listed (rec_at recs at))) (of_parts (parts_of_type recs at))
      (flat_in (encloser_of recs at) f rec (listed (rec_at recs at)) (listed_in rec (rec_at recs at) here)
      (mapped_in (λ k. marks_type recs (at_row at.asm k)) j (listed (encloser rec at.row)) (listed_in j (encloser rec at.row) e))))

  outer_shown : (at : RowAt) (rec : AsmRec) (j : ℕ) → slice_get recs at.asm ≡ Some rec → encloser rec at.row ≡ Some j → type_home recs (type_id recs at.asm at.row) ≡ Some at
      → In (shown (type_id recs at.asm j)) (one recs roots (shown (type_id recs at.asm at.row)))
  unfolding one encloser_shown
  outer_shown at rec j here e home =
      let f : Fact = shown (type_id recs at.asm j) in
      flat_in (λ (at : RowAt). flat_map (λ (rec : AsmRec). map (λ k. shown (type_id recs at.asm k)) (listed (encloser rec at.row))) (listed (rec_at recs at))) f at (listed (type_home recs (type_id recs at.asm at.row)))
      (listed_in at (type_home recs (type_id recs at.asm at.row)) home)
      (flat_in (λ (rec : AsmRec). map (λ k. shown (type_id recs at.asm k)) (listed (encloser rec at.row))) f rec (listed (rec_at recs at)) (listed_in rec (rec_at recs at) here)
      (mapped_in (λ k. shown (type_id recs at.asm k)) j (listed (encloser rec at.row)) (listed_in j (encloser rec at.row) e)))

  -- a type of an input that is shown has its flag
  pub shown_flag : (t : TypeId) → is_core_type recs t.0 ≡ false → IsTrue (k.shown t.0) → IsTrue (has (shown t))
  unfolding keep_of
  shown_flag t other h =
      let second : (is_core_type recs t.0 || has (shown t)) ≡ true = second_so (has (marked (item.Typ t))) (is_core_type recs t.0 || has (shown t)) h in
      ap (λ (b : Bool). b || has (shown t)) (sym other) ∙ second

  abbrev IsSeen : RowAt → Type 0
  IsSeen e = IsTrue (k.shown (type_number recs e)) × ((t : TypeDefRow) × (type_row_at recs e ≡ Some t))

  seen : (at e : RowAt) (n : IsNested recs at e) → IsTrue (k.shown (type_number recs at)) → IsSeen (at_row at.asm n.place)
  seen at e n h =
      let lt = of_input at e n in
      let right = nests at.asm n.rec n.here in
      let inner = place_has n.rec.type_def at.row (nested_there n.rec right at.row n.place n.is) in
      let row = place_has n.rec.type_def n.place (encloser_there n.rec right at.row n.place n.is) in
      let t : TypeId = type_id recs at.asm at.row in
      let u : TypeId = type_id recs at.asm n.place in
      let home = type_home_of recs at n.rec n.here inner.0 inner.1 in
      let around = type_home_of recs (at_row at.asm n.place) n.rec n.here row.0 row.1 in
      let marks = row_gives recs entry roots has m (type_item recs at) at (marked (item.Typ u)) (typ_has recs has t (shown_typ recs has t h)) (type_row_of recs at n.rec n.here inner.0 inner.1)
      (outer_needed at n.rec n.place n.here n.is) (input_not_added recs u (at_row at.asm n.place) around lt) in
      let shows = by_one recs entry roots has m (shown t) (shown u) (shown_flag t (input_not_core recs t at home lt) h) (outer_shown at n.rec n.place n.here n.is home) refl in
      (shown_is recs has u marks shows, (row.0, ap (option_and_then (λ (rec : AsmRec). slice_get rec.type_def n.place)) n.here ∙ row.1))

  pub enclosers_shown : (at e : RowAt) → IsTrue (k.shown (type_number recs at)) → encloser_at recs at ≡ Some e → IsSeen e
  enclosers_shown at e h is = let n = nested_of recs at e is in subst IsSeen n.outer (seen at e n h)
