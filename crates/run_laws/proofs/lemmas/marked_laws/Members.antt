-- Fields of marked types, and initializers, are kept; so are types of the core library.
use Rattle.std.proofs.Common.{◌≡◌, ℕ, zero, suc, ◌+◌, ◌-◌, ◌<◌, Bool, true, false, List, [], ◌∷◌, ◌++◌, length, map, Option, Some, None, ◌⊎◌, inl, inr, refl, sym, ap, subst, ◌∙◌, arith}
use Rattle.std.specs.Prelude.{IsTrue, slice_get, ◌&&◌, ◌||◌, not, if◌then◌else◌}
use Rattle.std.specs.List.{list_all, list_any, flat_map, filter, range_with_len}
use Rattle.std.specs.Option.{option_map, option_and_then}
use Rattle.std.specs.Cmp.{first_so, second_so}
use Rattle.std.proofs.lemmas.Bool.{true≢false, and_from, or_cases, ltb-true}
use Rattle.il_base.specs.declared.ids.TypeId.{TypeId}
use Rattle.il_base.specs.declared.ids.Item.TheVariants as item
use Rattle.il_base.specs.declared.table.TheConstants.{FIELD}
use Rattle.il_base.specs.declared.world_model.known.Known.{Known}
use Rattle.il_base.specs.declared.world_model.known.Known.TheVariants.{Good, Bad}
use Rattle.il_base.specs.declared.world_model.expr.TypeExpr.{TypeExpr}
use Rattle.il_base.specs.declared.world_model.types.TypeDefRow.{TypeDefRow}
use Rattle.il_base.specs.declared.world_model.members.FieldRow.{FieldRow}
use Rattle.il_base.specs.declared.world_model.record.AsmRec.{AsmRec}
use Rattle.il_base.specs.world_model.Tokens.{token_of}
use Rattle.il_base.specs.world_model.Worlds.{type_id, known_then, sig_expr, core_types, prim_type}
use Rattle.il_base.specs.core_table.Record.{core_record}
use Rattle.il_base.specs.declared.core_table.tokens.TheConstants.{VALUE_TYPE, ENUM}
use Rattle.il_base.specs.declared.core_table.types.TheConstants.{TYPES}
use Rattle.rules.specs.declared.link_rules.row_at.RowAt.{RowAt}
use Rattle.rules.specs.declared.link_rules.core_type_name.CoreTypeName.{CoreTypeName}
use Rattle.rules.specs.link_rules.CoreNames.{core_with, missing_names}
use Rattle.rules.specs.link_rules.Types.{at_row}
use Rattle.rules.specs.link_rules.Signatures.{names_at}
use Rattle.rules.specs.link_rules.Members.{type_home, array_type, base_in, base_at}
use Rattle.rules.specs.link_rules.Cycles.{listed, same_row, home_of, is_static_field, extends_core, is_core_row_at, is_value_type}
use Rattle.rules.specs.link_rules.Linked.{assemblies}
use Rattle.rules.specs.type_rules.Slots.{type_of_method}
use Rattle.rules.specs.type_rules.Rows.{rec_at, field_row_at, fields_of_type, is_instance_field, is_enum, owner_of_field}
use Rattle.rules.specs.type_rules.Initializers.{initializer_in, initializer}
use Rattle.base_laws.proofs.lemmas.type_laws.Within.{In, in_front, in_behind, listed_in, flat_in}
use Rattle.base_laws.proofs.lemmas.type_laws.Places.{rows_decide, place_within}
use Rattle.base_laws.proofs.lemmas.type_laws.CoreRows.{array_row}
use Rattle.descriptor_file.specs.declared.root.Root.{Root}
use Rattle.rules.specs.mark_rules.Facts.{Fact}
use Rattle.rules.specs.mark_rules.Facts.Fact.{marked, instantiated}
use Rattle.rules.specs.mark_rules.Places.{type_item, field_item, marks_method, marks_field, is_core}
use Rattle.rules.specs.mark_rules.Naming.{Part, of_parts, good_part, type_parts, parts_of, sig_parts}
use Rattle.rules.specs.mark_rules.Naming.Named.{type}
use Rattle.rules.specs.mark_rules.Types.{type_needs, laid_fields, layout_needs, parts_of_field, field_needs}
use Rattle.rules.specs.mark_rules.Calls.{initializer_of, method_starts, field_starts}
use Rattle.rules.specs.mark_rules.Marking.{row_needs}
use Rattle.il_base.specs.declared.outside.TheConstants.{GLOBAL_MEMBER, LAYOUT}
use Rattle.il_base.specs.declared.world_model.known.BadKind.{BadKind}
use Rattle.il_base.specs.declared.world_model.known.BadKind.TheVariants.{Outside}
use Rattle.rules.specs.mark_rules.BadItems.{is_global}
use Rattle.rules.specs.view_rules.Methods.{has_explicit_layout, field_owner, field_by, field_at}
use Rattle.il_base.specs.declared.cil_values.definition.FieldDef.{FieldDef}
use Rattle.rules.specs.change_rules.Change.{Keep}
use Rattle.rules.specs.change_rules.Keeps.{keeps_expr, if_good, keeps_field}
use Rattle.rules.specs.world_change_rules.Places.{type_number, keeps_type_row, keeps_method_row, keeps_field_row}
use Rattle.run_laws.specs.marked_laws.Flags.{is_added, HasMarks, is_of_type, begun_by_method, begun_by_field, begun_in, begun_at, begins, keep_of}
use Rattle.run_laws.proofs.lemmas.marked_laws.Closing.{mapped_in, row_gives, by_core}
use Rattle.run_laws.proofs.lemmas.marked_laws.Flags.{typ_is, typ_has, method_is, field_is, field_has, shown_core, made_is, begun_begins}
use Rattle.run_laws.proofs.lemmas.marked_laws.Places.{type_row_of, type_home_of, method_row_below, field_row_of, last_type, prim_is_core}
use Rattle.run_laws.proofs.lemmas.marked_laws.Added.{not_added}
use Rattle.run_laws.proofs.lemmas.marked_laws.Parts.{HasParts, part_kept}
use Rattle.run_laws.proofs.lemmas.marked_laws.Rows.{method_gives, starts_in}

-- ---- lists

any_by : {A : Type 0} (p : A → Bool) (x : A) (xs : List A) (b : Bool) → p x ≡ b → (list_any p xs ≡ true → (y : A) × In y xs × (p y ≡ true)) → (b || list_any p xs) ≡ true → (y : A) × In y (x ∷ xs) × (p y ≡ true)
any_by p x xs true e more h = (x, inl refl, e)
any_by p x xs false e more h = let f = more h in (f.0, inr f.1, f.2)

pub any_found : {A : Type 0} (p : A → Bool) (xs : List A) → list_any p xs ≡ true → (x : A) × In x xs × (p x ≡ true)
any_found p [] h = absurd (cc)
any_found p (x ∷ xs) h = any_by p x xs (p x) refl (any_found p xs) h

all_of : {A : Type 0} (p : A → Bool) (xs : List A) → ((x : A) → In x xs → IsTrue (p x)) → IsTrue (list_all p xs)
all_of p [] h = refl
all_of p (x ∷ xs) h = and_from (p x) (list_all p xs) (h x (inl refl)) (all_of p xs (λ y i. h y (inr i)))

filtered_by : {A : Type 0} (p : A → Bool) (x y : A) (xs : List A) (b : Bool) → p y ≡ b → p x ≡ true → (In x xs → In x (filter p xs)) → (x ≡ y) ⊎ In x xs → In x (if b then y ∷ filter p xs else filter p xs)
filtered_by p x y xs true e h more (inl same) = inl same
filtered_by p x y xs true e h more (inr i) = inr (more i)
filtered_by p x y xs false e h more (inl same) = absurd (true≢false (sym h ∙ ap p same ∙ e))
filtered_by p x y xs false e h more (inr i) = more i

pub filtered : {A : Type 0} (p : A → Bool) (x : A) (xs : List A) → In x xs → p x ≡ true → In x (filter p xs)
filtered p x [] i h = absurd i
filtered p x (y ∷ xs) i h = filtered_by p x y xs (p y) refl h (λ j. filtered p x xs j h) i

in_range_by : (k s n : ℕ) → (In k (range_with_len (s + 1) n) → k < s + 1 + n) → (k ≡ s) ⊎ In k (range_with_len (s + 1) n) → k < s + suc n
in_range_by k s n more (inl e) = omega (arith, e)
in_range_by k s n more (inr i) = let lt = more i in omega (arith, lt)

pub in_range : (k s n : ℕ) → In k (range_with_len s n) → k < s + n
in_range k s zero i = absurd i
in_range k s (suc n) i = in_range_by k s n (in_range k (s + 1) n) i

module _ (recs : List AsmRec) (entry : Option RowAt) (roots : List Root) (has : Fact → Bool) (m : HasMarks recs entry roots has) where
  abbrev k : Keep
  k = keep_of recs has

  -- ---- rows that have a base are there

  pub record TypeThere (at : RowAt) : Type 0 where
    pub rec : AsmRec
    pub row : TypeDefRow
    pub there : slice_get recs at.asm ≡ Some rec
    pub has_row : slice_get rec.type_def at.row ≡ Some row

  there_row : {A : Type 0} (f : AsmRec → TypeDefRow → Option A) (at : RowAt) (x : A) (rec : AsmRec) (o : Option TypeDefRow) → slice_get recs at.asm ≡ Some rec → slice_get rec.type_def at.row ≡ o → option_and_then (f rec) o ≡ Some x → TypeThere at
  there_row f at x rec None s e h = absurd (cc)
  there_row f at x rec (Some t) s e h = record { rec = rec; row = t; there = s; has_row = e }

  there_by : {A : Type 0} (f : AsmRec → TypeDefRow → Option A) (at : RowAt) (x : A) (o : Option AsmRec) → slice_get recs at.asm ≡ o → option_and_then (λ (rec : AsmRec). option_and_then (f rec) (slice_get rec.type_def at.row)) o ≡ Some x → TypeThere at
  there_by f at x None s h = absurd (cc)
  there_by f at x (Some rec) s h = there_row f at x rec (slice_get rec.type_def at.row) s refl h

  pub base_there : (at : RowAt) (e : TypeExpr) → base_at recs at ≡ Some e → TypeThere at
  base_there at e h = there_by (base_in recs at.asm) at e (slice_get recs at.asm) refl h

  extends_by : (token : ℕ) (at : RowAt) (o : Option TypeExpr) → base_at recs at ≡ o → list_any (is_core_row_at recs token) (listed (option_and_then (home_of recs) o)) ≡ true → TypeThere at
  extends_by token at None e h = absurd (cc)
  extends_by token at (Some b) e h = base_there at b e

  extends_there : (token : ℕ) (at : RowAt) → extends_core recs token at ≡ true → TypeThere at
  extends_there token at h = extends_by token at (base_at recs at) refl h

  value_by : (at : RowAt) → ((extends_core recs VALUE_TYPE at && not (is_core_row_at recs ENUM at)) ≡ true) ⊎ (extends_core recs ENUM at ≡ true) → TypeThere at
  value_by at (inl h) = extends_there VALUE_TYPE at (first_so (extends_core recs VALUE_TYPE at) (not (is_core_row_at recs ENUM at)) h)
  value_by at (inr h) = extends_there ENUM at h

  pub value_there : (at : RowAt) → is_value_type recs at ≡ true → TypeThere at
  unfolding is_value_type
  value_there at h = value_by at (or_cases (extends_core recs VALUE_TYPE at && not (is_core_row_at recs ENUM at)) (extends_core recs ENUM at) h)

  -- ---- fields of value types

  in_layout : (at : RowAt) (f : Fact) → is_value_type recs at ≡ true → In f (instantiated (type_id recs at.asm at.row) ∷ map (marks_field recs) (laid_fields recs at)) → In f (layout_needs recs at)
  unfolding layout_needs
  in_layout at f h i = subst (λ (b : Bool). In f (if b then instantiated (type_id recs at.asm at.row) ∷ map (marks_field recs) (laid_fields recs at) else [])) (sym h) i

  layout_gives : (at : RowAt) (f : Fact) → IsTrue (keeps_type_row k recs at) → is_value_type recs at ≡ true → In f (instantiated (type_id recs at.asm at.row) ∷ map (marks_field recs) (laid_fields recs at)) → is_added recs f ≡ false → IsTrue (has f)
  layout_gives at f h v i known =
      let t = value_there at v in
      row_gives recs entry roots has m (type_item recs at) at f (typ_has recs has (type_id recs at.asm at.row) h) (type_row_of recs at t.rec t.there t.row t.has_row)
      (in_behind f (type_needs recs at) (layout_needs recs at) (in_layout at f v i)) known

  pub value_made : (at : RowAt) → IsTrue (keeps_type_row k recs at) → is_value_type recs at ≡ true → IsTrue (k.made (type_number recs at))
  value_made at h v = made_is recs has (type_id recs at.asm at.row) (layout_gives at (instantiated (type_id recs at.asm at.row)) h v (inl refl) refl)

  laid_by : (at f : RowAt) (b : Bool) → In f (fields_of_type recs at) → is_instance_field recs f ≡ true → In f (if b then fields_of_type recs at else filter (is_instance_field recs) (fields_of_type recs at))
  laid_by at f true i h = i
  laid_by at f false i h = filtered (is_instance_field recs) f (fields_of_type recs at) i h

  one_laid : (at f : RowAt) (b : Bool) → IsTrue (keeps_type_row k recs at) → is_value_type recs at ≡ true → In f (fields_of_type recs at) → is_instance_field recs f ≡ b → IsTrue (not b || keeps_field_row k recs f)
  one_laid at f false h v i e = refl
  one_laid at f true h v i e = field_is recs has _ (layout_gives at (marks_field recs f) h v (inr (mapped_in (marks_field recs) f (laid_fields recs at) (laid_by at f (is_enum recs at) i e))) refl)

  pub laid_kept : (at : RowAt) → IsTrue (keeps_type_row k recs at) → is_value_type recs at ≡ true → IsTrue (list_all (λ f. not (is_instance_field recs f) || keeps_field_row k recs f) (fields_of_type recs at))
  laid_kept at h v = all_of (λ f. not (is_instance_field recs f) || keeps_field_row k recs f) (fields_of_type recs at) (λ f i. one_laid at f (is_instance_field recs f) h v i refl)

  -- ---- a field's type

  field_needed : (at : RowAt) (f : Fact) → In f (of_parts (parts_of_field recs at)) → In f (row_needs recs (field_item recs at) at)
  unfolding field_needs
  field_needed at f h = in_front f (field_needs recs at) (field_starts recs at) (in_behind f _ (of_parts (parts_of_field recs at)) h)

  of_field : (at : RowAt) (rec : AsmRec) (f : FieldRow) → IsTrue (keeps_field_row k recs at) → slice_get recs at.asm ≡ Some rec → slice_get rec.field at.row ≡ Some f → HasParts recs entry roots has m (field_item recs at) at
  of_field at rec f h s e = record { marks = field_has recs has _ h; is = field_row_of recs at rec s f e; classed = tt; needs = field_needed at }

  field_part : (at : RowAt) (rec : AsmRec) (f : FieldRow) (e : TypeExpr) → slice_get recs at.asm ≡ Some rec → slice_get rec.field at.row ≡ Some f → known_then (sig_expr (names_at recs at.asm rec)) f.signature ≡ Good e
      → In (good_part (token_of FIELD (suc at.row)) (type e)) (parts_of_field recs at)
  unfolding parts_of_field
  field_part at rec f e s r g =
      let p : Part = good_part (token_of FIELD (suc at.row)) (type e) in
      flat_in (λ (rec : AsmRec). flat_map (λ (f : FieldRow). sig_parts recs at.asm rec (token_of FIELD (suc at.row)) f.signature) (listed (slice_get rec.field at.row))) p rec (listed (rec_at recs at)) (listed_in rec (rec_at recs at) s)
      (flat_in (λ (f : FieldRow). sig_parts recs at.asm rec (token_of FIELD (suc at.row)) f.signature) p f (listed (slice_get rec.field at.row)) (listed_in f (slice_get rec.field at.row) r)
      (subst (λ (t : Known TypeExpr). In p (parts_of (token_of FIELD (suc at.row)) (λ (x : TypeExpr). type_parts (token_of FIELD (suc at.row)) (x ∷ [])) t)) (sym g) (inl refl)))

  known_by : (at : RowAt) (rec : AsmRec) (f : FieldRow) (t : Known TypeExpr) → IsTrue (keeps_field_row k recs at) → slice_get recs at.asm ≡ Some rec → slice_get rec.field at.row ≡ Some f → known_then (sig_expr (names_at recs at.asm rec)) f.signature ≡ t
      → IsTrue (if_good (keeps_expr k) t)
  known_by at rec f (Bad why) h s r g = refl
  known_by at rec f (Good e) h s r g =
      let within = field_part at rec f e s r g in
      part_kept recs entry roots has m (field_item recs at) at (of_field at rec f h s r) (good_part (token_of FIELD (suc at.row)) (type e)) e within within refl

  type_by : (at : RowAt) (rec : AsmRec) (f : FieldRow) (x y : Bool) (why z : BadKind) → IsTrue (keeps_field_row k recs at) → slice_get recs at.asm ≡ Some rec → slice_get rec.field at.row ≡ Some f
      → IsTrue (if_good (keeps_expr k) (if x then Bad why else if y then Bad z else known_then (sig_expr (names_at recs at.asm rec)) f.signature))
  type_by at rec f true y why z h s r = refl
  type_by at rec f false true why z h s r = refl
  type_by at rec f false false why z h s r = known_by at rec f (known_then (sig_expr (names_at recs at.asm rec)) f.signature) h s r refl

  field_def_by : (at : RowAt) (rec : AsmRec) (d : FieldDef) (o : Option FieldRow) → IsTrue (keeps_field_row k recs at) → slice_get recs at.asm ≡ Some rec → slice_get rec.field at.row ≡ o → option_map (field_by recs at rec) o ≡ Some d → IsTrue (keeps_field k d)
  field_def_by at rec d None h s r e = absurd (cc)
  field_def_by at rec d (Some f) h s r e =
      let same : field_by recs at rec f ≡ d = cc in
      subst (λ (x : FieldDef). IsTrue (keeps_field k x)) same (type_by at rec f (is_global recs (field_owner at rec)) (not (is_static_field f) && has_explicit_layout recs (field_owner at rec)) (Outside GLOBAL_MEMBER) (Outside LAYOUT) h s r)

  field_rec_by : (at : RowAt) (d : FieldDef) (o : Option AsmRec) → IsTrue (keeps_field_row k recs at) → slice_get recs at.asm ≡ o → option_and_then (λ (rec : AsmRec). option_map (field_by recs at rec) (slice_get rec.field at.row)) o ≡ Some d → IsTrue (keeps_field k d)
  field_rec_by at d None h s e = absurd (cc)
  field_rec_by at d (Some rec) h s e = field_def_by at rec d (slice_get rec.field at.row) h s refl e

  pub field_types_kept : (at : RowAt) (d : FieldDef) → IsTrue (keeps_field_row k recs at) → field_at recs at ≡ Some d → IsTrue (keeps_field k d)
  field_types_kept at d h e = field_rec_by at d (rec_at recs at) h refl e

  -- ---- an initializer

  of_type_by : (at : RowAt) (o : Option RowAt) → is_of_type at o ≡ true → o ≡ Some at
  of_type_by at None h = absurd (cc)
  of_type_by at (Some x) h = ap Some (sym ((rows_decide at x).0 (only (same_row at x) h)))
    where
      only : (b : Bool) → (b || false) ≡ true → b ≡ true
      only true h = refl
      only false h = h

  in_starts : (at owner i : RowAt) → type_of_method recs at ≡ Some owner → initializer recs owner ≡ Some i → In (marks_method recs i) (method_starts recs at)
  unfolding method_starts
  in_starts at owner i o e =
      mapped_in (marks_method recs) i (listed (option_and_then (initializer recs) (type_of_method recs at))) (listed_in i (option_and_then (initializer recs) (type_of_method recs at)) (ap (option_and_then (initializer recs)) o ∙ e))

  by_method : (at i : RowAt) (rec : AsmRec) (n : ℕ) → slice_get recs at.asm ≡ Some rec → n < length rec.method_def → begun_by_method recs has at n ≡ true → initializer recs at ≡ Some i → IsTrue (has (marks_method recs i))
  by_method at i rec n s lt h e =
      let x : RowAt = at_row at.asm n in
      let marks = first_so (has (marks_method recs x)) (is_of_type at (type_of_method recs x)) h in
      let owner = of_type_by at (type_of_method recs x) (second_so (has (marks_method recs x)) (is_of_type at (type_of_method recs x)) h) in
      method_gives recs entry roots has m x (marks_method recs i) (method_is recs has _ marks) (method_row_below recs x rec s lt) (starts_in recs entry roots has m x (marks_method recs i) (in_starts x at i owner e)) refl

  in_field_starts : (x at i : RowAt) (rec : AsmRec) → slice_get recs x.asm ≡ Some rec → list_any is_static_field (listed (field_row_at recs x)) ≡ true → option_map (at_row x.asm) (owner_of_field rec x.row) ≡ Some at → initializer recs at ≡ Some i
      → In (marks_method recs i) (field_starts recs x)
  unfolding field_starts
  in_field_starts x at i rec s h o e =
      let owner : Option RowAt = option_and_then (λ (rec : AsmRec). option_map (at_row x.asm) (owner_of_field rec x.row)) (rec_at recs x) in
      let owns : owner ≡ Some at = ap (option_and_then (λ (rec : AsmRec). option_map (at_row x.asm) (owner_of_field rec x.row))) s ∙ o in
      subst (λ (b : Bool). In (marks_method recs i) (if b then initializer_of recs owner else [])) (sym h)
      (mapped_in (marks_method recs) i (listed (option_and_then (initializer recs) owner)) (listed_in i (option_and_then (initializer recs) owner) (ap (option_and_then (initializer recs)) owns ∙ e)))

  field_there : (x : RowAt) (o : Option FieldRow) → field_row_at recs x ≡ o → list_any is_static_field (listed o) ≡ true → (f : FieldRow) × (field_row_at recs x ≡ Some f)
  field_there x None e h = absurd (cc)
  field_there x (Some f) e h = (f, e)

  by_field : (at i : RowAt) (rec : AsmRec) (n : ℕ) → slice_get recs at.asm ≡ Some rec → begun_by_field recs has at rec n ≡ true → initializer recs at ≡ Some i → IsTrue (has (marks_method recs i))
  by_field at i rec n s h e =
      let x : RowAt = at_row at.asm n in
      let both = first_so (has (marks_field recs x) && list_any is_static_field (listed (field_row_at recs x))) (is_of_type at (option_map (at_row at.asm) (owner_of_field rec n))) h in
      let marks = first_so (has (marks_field recs x)) (list_any is_static_field (listed (field_row_at recs x))) both in
      let static = second_so (has (marks_field recs x)) (list_any is_static_field (listed (field_row_at recs x))) both in
      let owner = of_type_by at (option_map (at_row at.asm) (owner_of_field rec n)) (second_so (has (marks_field recs x) && list_any is_static_field (listed (field_row_at recs x))) (is_of_type at (option_map (at_row at.asm) (owner_of_field rec n))) h) in
      let f = field_there x (field_row_at recs x) refl static in
      let row : slice_get rec.field n ≡ Some f.0 = sym (ap (option_and_then (λ (r : AsmRec). slice_get r.field n)) s) ∙ f.1 in
      row_gives recs entry roots has m (field_item recs x) x (marks_method recs i) marks (field_row_of recs x rec s f.0 row)
      (in_behind (marks_method recs i) (field_needs recs x) (field_starts recs x) (in_field_starts x at i rec s static owner e)) refl

  begun_in_by : (at i : RowAt) (rec : AsmRec) → slice_get recs at.asm ≡ Some rec → initializer recs at ≡ Some i
      → (list_any (begun_by_method recs has at) (range_with_len 0 (length rec.method_def)) ≡ true) ⊎ (list_any (begun_by_field recs has at rec) (range_with_len 0 (length rec.field)) ≡ true) → IsTrue (has (marks_method recs i))
  begun_in_by at i rec s e (inl h) =
      let f = any_found (begun_by_method recs has at) (range_with_len 0 (length rec.method_def)) h in
      let lt = in_range f.0 0 (length rec.method_def) f.1 in
      by_method at i rec f.0 s (omega (arith, lt)) f.2 e
  begun_in_by at i rec s e (inr h) =
      let f = any_found (begun_by_field recs has at rec) (range_with_len 0 (length rec.field)) h in
      by_field at i rec f.0 s f.2 e

  begun_rec : (at i : RowAt) (o : Option AsmRec) → slice_get recs at.asm ≡ o → initializer recs at ≡ Some i → list_any (begun_in recs has at) (listed o) ≡ true → IsTrue (has (marks_method recs i))
  begun_rec at i None s e h = absurd (cc)
  begun_rec at i (Some rec) s e h =
      begun_in_by at i rec s e
      (or_cases (list_any (begun_by_method recs has at) (range_with_len 0 (length rec.method_def))) (list_any (begun_by_field recs has at rec) (range_with_len 0 (length rec.field))) (only_one (begun_in recs has at rec) h))
    where
      only_one : (b : Bool) → (b || false) ≡ true → b ≡ true
      only_one true h = refl
      only_one false h = h

  begun_home : (at i : RowAt) (o : Option RowAt) → o ≡ Some at → initializer recs at ≡ Some i → list_any (begun_at recs has) (listed o) ≡ true → IsTrue (has (marks_method recs i))
  begun_home at i None s e h = absurd (cc)
  begun_home at i (Some x) s e h =
      let same : x ≡ at = cc in
      begun_rec at i (slice_get recs at.asm) refl e (only_one (begun_at recs has at) (ap (λ (y : RowAt). begun_at recs has y || false) (sym same) ∙ h))
    where
      only_one : (b : Bool) → (b || false) ≡ true → b ≡ true
      only_one true h = refl
      only_one false h = h

  initializer_there : (at i : RowAt) → initializer recs at ≡ Some i → TypeThere at
  unfolding initializer
  initializer_there at i h = there_by (initializer_in recs at) at i (slice_get recs at.asm) refl h

  begins_gives : (at i : RowAt) → IsTrue (begins recs has (type_number recs at)) → initializer recs at ≡ Some i → IsTrue (has (marks_method recs i))
  unfolding begins
  begins_gives at i h e =
      let t = initializer_there at i e in
      begun_home at i (type_home recs (type_id recs at.asm at.row)) (type_home_of recs at t.rec t.there t.row t.has_row) e h

  pub started_kept : (at i : RowAt) → IsTrue (k.begun (type_number recs at)) → initializer recs at ≡ Some i → IsTrue (keeps_method_row k recs i)
  started_kept at i h e = method_is recs has _ (begins_gives at i (begun_begins recs has (type_id recs at.asm at.row) h) e)

  -- ---- the core library

  pub prims_kept : (n : ℕ) (t : TypeId) → prim_type recs n ≡ Some t → is_added recs (marked (item.Typ t)) ≡ false → IsTrue (k.typ t.0)
  prims_kept n t e known = typ_is recs has t (by_core recs entry roots has m (item.Typ t) (prim_is_core recs n t e) known)

  pub prims_shown : (n : ℕ) (t : TypeId) → prim_type recs n ≡ Some t → is_added recs (marked (item.Typ t)) ≡ false → IsTrue (k.shown t.0)
  prims_shown n t e known = shown_core recs has t (by_core recs entry roots has m (item.Typ t) (prim_is_core recs n t e) known) (prim_is_core recs n t e)

-- ---- System.Array

types_behind : (xs : List AsmRec) (c : AsmRec) → core_types (xs ++ c ∷ []) ≡ c.type_def
unfolding core_types
types_behind [] c = refl
types_behind (x ∷ []) c = refl
types_behind (x ∷ y ∷ xs) c = types_behind (y ∷ xs) c

array_below : (inputs : List AsmRec) (names : List CoreTypeName) → 21 < length (core_types (inputs ++ core_with core_record names ∷ []))
array_below inputs names =
    let row = array_row names in
    subst (λ (ts : List TypeDefRow). 21 < length ts) (sym (types_behind inputs (core_with core_record names))) (place_within (core_with core_record names).type_def 21 row.row row.there)

array_by : (recs : List AsmRec) (t : TypeId) → array_type recs ≡ Some t → type_id recs (length recs - 1) 21 ≡ t
array_by recs t e = some_is (type_id recs (length recs - 1) 21) t e
  where
    some_is : (x y : TypeId) → Some x ≡ Some y → x ≡ y
    some_is x y h = cc

pub array_is_core : (inputs : List AsmRec) (t : TypeId) → array_type (assemblies inputs) ≡ Some t → is_core (assemblies inputs) (item.Typ t) ≡ true
unfolding assemblies
array_is_core inputs t e =
    let names : List CoreTypeName = missing_names (inputs ++ core_record ∷ []) in
    last_type (inputs ++ core_with core_record names ∷ []) 21 (array_below inputs names) t (array_by (inputs ++ core_with core_record names ∷ []) t e)

pub array_not_added : (inputs : List AsmRec) (t : TypeId) → array_type (assemblies inputs) ≡ Some t → is_added (assemblies inputs) (marked (item.Typ t)) ≡ false
unfolding assemblies
array_not_added inputs t e =
    let names : List CoreTypeName = missing_names (inputs ++ core_record ∷ []) in
    not_added (inputs ++ core_with core_record names ∷ []) 21 (ltb-true 21 (length TYPES) refl) (array_below inputs names) t (array_by (inputs ++ core_with core_record names ∷ []) t e)
