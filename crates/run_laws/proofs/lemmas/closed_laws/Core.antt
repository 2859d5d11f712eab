-- Types and methods of the core library are marked, shown and made.
use Rattle.std.proofs.Common.{◌≡◌, ℕ, ◌+◌, ◌-◌, ◌<◌, Bool, true, false, nat_lt, List, [], ◌∷◌, ◌++◌, length, map, Option, Some, None, refl, sym, ap, subst, ◌∙◌, arith}
use Rattle.std.specs.Prelude.{IsTrue, slice_get, position, unwrap_or, ◌&&◌, ◌||◌, if◌then◌else◌}
use Rattle.std.specs.List.{position_or_len, list_any, flat_map}
use Rattle.std.specs.Option.{option_and_then}
use Rattle.std.proofs.lemmas.Bool.{and_from, or_left, ltb-true, true≢false}
use Rattle.std.proofs.lemmas.List.{length-append}
use Rattle.il_base.specs.declared.ids.TypeId.{TypeId}
use Rattle.il_base.specs.declared.ids.Item.TheVariants as item
use Rattle.il_base.specs.declared.world_model.types.TypeDefRow.{TypeDefRow}
use Rattle.il_base.specs.declared.world_model.members.MethodDefRow.{MethodDefRow}
use Rattle.il_base.specs.declared.world_model.record.AsmRec.{AsmRec}
use Rattle.il_base.specs.world_model.Worlds.{rows_before, type_id, core_types}
use Rattle.il_base.specs.declared.core_table.names.CoreName.{CoreName}
use Rattle.il_base.specs.declared.core_table.names.CoreName.TheVariants as core
use Rattle.il_base.specs.declared.core_table.types.TheConstants.{TYPES}
use Rattle.il_base.specs.core_table.Names.{text_of}
use Rattle.il_base.specs.core_table.Members.{methods_of}
use Rattle.il_base.specs.core_table.Record.{core_record, record_with, type_rows, method_row, all_methods}
use Rattle.rules.specs.declared.link_rules.row_at.RowAt.{RowAt}
use Rattle.rules.specs.declared.link_rules.core_type_name.CoreTypeName.{CoreTypeName}
use Rattle.rules.specs.link_rules.CoreNames.{missing_names, added_row, core_with}
use Rattle.rules.specs.link_rules.Types.{at_row}
use Rattle.rules.specs.link_rules.Members.{methods_in, home_from}
use Rattle.rules.specs.link_rules.Cycles.{listed}
use Rattle.rules.specs.link_rules.Linked.{assemblies}
use Rattle.rules.specs.type_rules.Slots.{is_virtual, method_row_at}
use Rattle.descriptor_file.specs.declared.root.Root.{Root}
use Rattle.rules.specs.mark_rules.Facts.{Fact}
use Rattle.rules.specs.mark_rules.Facts.Fact.{marked}
use Rattle.rules.specs.mark_rules.Places.{is_core, row_of}
use Rattle.rules.specs.view_rules.Members.{core_type_row, is_type_named, is_name, names_of, object_method}
use Rattle.rules.specs.view_rules.Answers.{core_type_id, core_method_id}
use Rattle.rules.specs.change_rules.Change.{Keep}
use Rattle.rules.specs.change_rules.Keeps.{can_call}
use Rattle.rules.specs.change_rules.Agree.{keeps_core}
use Rattle.run_laws.specs.marked_laws.Flags.{is_added, HasMarks, keep_of}
use Rattle.run_laws.proofs.lemmas.marked_laws.Closing.{by_core}
use Rattle.run_laws.proofs.lemmas.marked_laws.Flags.{typ_is, method_is, called_is, shown_core, made_core}
use Rattle.run_laws.proofs.lemmas.marked_laws.Places.{number_home, last_is_core, last_type}
use Rattle.run_laws.proofs.lemmas.marked_laws.Added.{not_added}
use Rattle.run_laws.proofs.lemmas.marked_laws.Searches.{unnamed_searches_nothing}

below_by : (n l k : ℕ) (b : Bool) → nat_lt n l ≡ b → (if b then Some n else None) ≡ Some k → k < l
below_by n l k true h e = let same : n ≡ k = cc in subst (λ (m : ℕ). m < l) same (ltb-true n l h)
below_by n l k false h e = absurd (cc)

found_below : (l : ℕ) (o : Option ℕ) → 0 < l → ((k : ℕ) → o ≡ Some k → k < l) → unwrap_or o 0 < l
found_below l None some h = some
found_below l (Some k) some h = h k refl

position_below : {A : Type 0} (p : A → Bool) (xs : List A) → 0 < length xs → unwrap_or (position p xs) 0 < length xs
position_below p xs some = found_below (length xs) (position p xs) some (λ k e. below_by (position_or_len p xs) (length xs) k (nat_lt (position_or_len p xs) (length xs)) refl e)

-- ---- how many there are

type_count : length core_record.type_def ≡ length TYPES
unfolding core_record record_with type_rows
type_count = refl

type_row_below : (n : CoreName) → core_type_row n < length core_record.type_def
unfolding core_type_row
type_row_below n = let lt = position_below (is_type_named n) TYPES (omega arith) in let same = type_count in omega (arith, lt, same)

types_behind : (xs : List AsmRec) (c : AsmRec) → core_types (xs ++ c ∷ []) ≡ c.type_def
unfolding core_types
types_behind [] c = refl
types_behind (x ∷ []) c = refl
types_behind (x ∷ y ∷ xs) c = types_behind (y ∷ xs) c

rows_are : (names : List CoreTypeName) → (core_with core_record names).type_def ≡ core_record.type_def ++ map (added_row core_record) names
unfolding core_with
rows_are names = refl

method_count : length core_record.method_def ≡ length (flat_map names_of TYPES)
unfolding core_record record_with all_methods method_row methods_of
method_count = refl

some_methods : nat_lt 0 (length (flat_map names_of TYPES)) ≡ true
unfolding methods_of
some_methods = refl

method_below : (n : CoreName) → object_method n < length core_record.method_def
unfolding object_method
method_below n = let lt = position_below (is_name n) (flat_map names_of TYPES) (ltb-true 0 (length (flat_map names_of TYPES)) some_methods) in let same = method_count in omega (arith, lt, same)

-- ---- which methods of Object are virtual

abbrev pub is_virtual_name : CoreName → Bool
is_virtual_name n = list_any is_virtual (listed (slice_get core_record.method_def (object_method n)))

pub to_string_virtual : is_virtual_name core.ToString ≡ true
unfolding core_record record_with all_methods method_row methods_of object_method text_of
to_string_virtual = refl

pub equals_virtual : is_virtual_name core.Equals ≡ true
unfolding core_record record_with all_methods method_row methods_of object_method text_of
equals_virtual = refl

or_none : (b : Bool) → (b || false) ≡ b
or_none true = refl
or_none false = refl

-- ---- in the world of the inputs

last_place : (xs : List AsmRec) (c : AsmRec) → length (xs ++ c ∷ []) - 1 ≡ length xs
last_place xs c = let n = length-append xs (c ∷ []) in omega (arith, n)

last_there : (xs : List AsmRec) (c : AsmRec) → slice_get (xs ++ c ∷ []) (length xs) ≡ Some c
last_there [] c = refl
last_there (x ∷ xs) c = last_there xs c

module _ (inputs : List AsmRec) where
  abbrev names : List CoreTypeName
  names = missing_names (inputs ++ core_record ∷ [])

  abbrev last : AsmRec
  last = core_with core_record names

  types_long : (n : CoreName) → core_type_row n < length (core_types (inputs ++ last ∷ []))
  types_long n =
      let lt = type_row_below n in
      let long = length-append core_record.type_def (map (added_row core_record) names) in
      let whole : length last.type_def ≡ length core_record.type_def + length (map (added_row core_record) names) = ap length (rows_are names) ∙ long in
      subst (λ (ts : List TypeDefRow). core_type_row n < length ts) (sym (types_behind inputs last)) (omega (arith, lt, whole))

  type_is_core : (n : CoreName) → is_core (inputs ++ last ∷ []) (item.Typ (type_id (inputs ++ last ∷ []) (length (inputs ++ last ∷ []) - 1) (core_type_row n))) ≡ true
  type_is_core n = last_type (inputs ++ last ∷ []) (core_type_row n) (types_long n) (type_id (inputs ++ last ∷ []) (length (inputs ++ last ∷ []) - 1) (core_type_row n)) refl

  type_not_added : (n : CoreName) → is_added (inputs ++ last ∷ []) (marked (item.Typ (type_id (inputs ++ last ∷ []) (length (inputs ++ last ∷ []) - 1) (core_type_row n)))) ≡ false
  type_not_added n =
      let lt = type_row_below n in
      let same = type_count in
      not_added (inputs ++ last ∷ []) (core_type_row n) (omega (arith, lt, same)) (types_long n) (type_id (inputs ++ last ∷ []) (length (inputs ++ last ∷ []) - 1) (core_type_row n)) refl

  methods_are : last.method_def ≡ core_record.method_def
  unfolding core_with
  methods_are = refl

  method_row_is : (n : CoreName) → method_row_at (inputs ++ last ∷ []) (at_row (length (inputs ++ last ∷ []) - 1) (object_method n)) ≡ slice_get core_record.method_def (object_method n)
  method_row_is n =
      let all : List AsmRec = inputs ++ last ∷ [] in
      let there : slice_get all (length all - 1) ≡ Some last = ap (slice_get all) (last_place inputs last) ∙ last_there inputs last in
      ap (option_and_then (λ (rec : AsmRec). slice_get rec.method_def (object_method n))) there ∙ ap (λ (rows : List MethodDefRow). slice_get rows (object_method n)) methods_are

  method_home_is : (n : CoreName) → home_from methods_in 0 (inputs ++ last ∷ []) (rows_before methods_in (inputs ++ last ∷ []) (length (inputs ++ last ∷ []) - 1) + object_method n) ≡ Some (at_row (length (inputs ++ last ∷ []) - 1) (object_method n))
  method_home_is n =
      let all : List AsmRec = inputs ++ last ∷ [] in
      let z : 0 + (length all - 1) ≡ length all - 1 = omega arith in
      let there : slice_get all (length all - 1) ≡ Some last = ap (slice_get all) (last_place inputs last) ∙ last_there inputs last in
      let lt = method_below n in
      let same : length last.method_def ≡ length core_record.method_def = ap length methods_are in
      number_home methods_in all 0 (length all - 1) (object_method n) last there (omega (arith, lt, same)) ∙ ap (λ (a : ℕ). Some (at_row a (object_method n))) z

  method_is_core : (n : CoreName) → is_core (inputs ++ last ∷ []) (item.Method (record { 0 = rows_before methods_in (inputs ++ last ∷ []) (length (inputs ++ last ∷ []) - 1) + object_method n })) ≡ true
  unfolding row_of
  method_is_core n =
      let all : List AsmRec = inputs ++ last ∷ [] in
      let long = length-append inputs (last ∷ []) in
      last_is_core all (item.Method (record { 0 = rows_before methods_in all (length all - 1) + object_method n })) (at_row (length all - 1) (object_method n)) (method_home_is n) (omega (arith, long))

module _ (inputs : List AsmRec) (entry : Option RowAt) (roots : List Root) (has : Fact → Bool) (m : HasMarks (assemblies inputs) entry roots has) where
  abbrev recs : List AsmRec
  recs = assemblies inputs

  abbrev k : Keep
  k = keep_of recs has

  core_type : (n : CoreName) → is_core recs (item.Typ (type_id recs (length recs - 1) (core_type_row n))) ≡ true
  unfolding assemblies
  core_type n = type_is_core inputs n

  core_known : (n : CoreName) → is_added recs (marked (item.Typ (type_id recs (length recs - 1) (core_type_row n)))) ≡ false
  unfolding assemblies
  core_known n = type_not_added inputs n

  core_method : (n : CoreName) → is_core recs (item.Method (record { 0 = core_method_id recs n })) ≡ true
  unfolding assemblies
  core_method n = method_is_core inputs n

  pub known_kept : (n : CoreName) → IsTrue (keeps_core k (core_type_id recs n))
  known_kept n =
      let t : TypeId = type_id recs (length recs - 1) (core_type_row n) in
      let marks = by_core recs entry roots has m (item.Typ t) (core_type n) (core_known n) in
      and_from (k.typ t.0 && k.made t.0) (k.shown t.0) (and_from (k.typ t.0) (k.made t.0) (typ_is recs has t marks) (made_core recs has t (core_type n))) (shown_core recs has t marks (core_type n))

  core_row_is : (n : CoreName) → method_row_at recs (at_row (length recs - 1) (object_method n)) ≡ slice_get core_record.method_def (object_method n)
  unfolding assemblies
  core_row_is n = method_row_is inputs n

  called_by : (n : CoreName) (o : Option MethodDefRow) → slice_get core_record.method_def (object_method n) ≡ o → list_any is_virtual (listed o) ≡ true → IsTrue (k.called (core_method_id recs n))
  called_by n None e v = absurd (true≢false (sym v))
  called_by n (Some d) e v =
      let at : RowAt = at_row (length recs - 1) (object_method n) in
      called_is recs has (core_method_id recs n) (unnamed_searches_nothing inputs at d (or_left (is_virtual d) _ (sym (or_none (is_virtual d)) ∙ v)) (core_row_is n ∙ e))

  -- a virtual method of Object
  pub method_kept : (n : CoreName) → is_virtual_name n ≡ true → IsTrue (can_call k (core_method_id recs n))
  method_kept n v =
      and_from (k.method (core_method_id recs n)) (k.called (core_method_id recs n))
      (method_is recs has (record { 0 = core_method_id recs n }) (by_core recs entry roots has m (item.Method (record { 0 = core_method_id recs n })) (core_method n) refl))
      (called_by n (slice_get core_record.method_def (object_method n)) refl v)
