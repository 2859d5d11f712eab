-- In the world of inputs that are records no member is in the runs of two types.
use Rattle.std.proofs.Common.{◌≡◌, ℕ, zero, suc, ◌+◌, ◌≤◌, ◌==◌, Bool, true, nat_le, List, [], ◌∷◌, ◌++◌, length, map, Some, ◌⊎◌, inl, inr, refl, sym, ap, subst, ◌∙◌, arith}
use Rattle.std.specs.Prelude.{slice_get, ◌&&◌}
use Rattle.std.specs.List.{list_all}
use Rattle.std.proofs.lemmas.Bool.{and_parts, and_from, leb-true, le-leb, eqb-true, eq-eqb}
use Rattle.std.proofs.lemmas.List.Folds.{list_all-append}
use Rattle.il_base.specs.declared.table.TheConstants.{METHOD_DEF}
use Rattle.il_base.specs.declared.world_model.types.TypeDefRow.{TypeDefRow}
use Rattle.il_base.specs.declared.world_model.record.AsmRec.{AsmRec}
use Rattle.il_base.specs.world_model.Records.{table_sizes, rows_in, IsRecord}
use Rattle.il_base.specs.core_table.Members.{fields_of, methods_of}
use Rattle.il_base.specs.core_table.Record.{core_record, record_with, type_rows, type_row, all_fields, all_methods}
use Rattle.rules.specs.declared.link_rules.core_type_name.CoreTypeName.{CoreTypeName}
use Rattle.rules.specs.link_rules.CoreNames.{missing_names, added_row, core_with}
use Rattle.rules.specs.link_rules.Members.{owns_field}
use Rattle.rules.specs.link_rules.Linked.{assemblies}
use Rattle.base_laws.specs.walk_laws.Walks.{AreMethodRuns}
use Rattle.base_laws.proofs.lemmas.walk_laws.MethodRuns.{one_owner, either}
use Rattle.base_laws.specs.world_laws.Inputs.{AreRecords}
use Rattle.base_laws.proofs.lemmas.world_laws.Inputs.{runs_kept}
use Rattle.run_laws.specs.marked_laws.Flags.{RunsEnd}
use Rattle.run_laws.specs.marked_code_laws.Laws.{MethodsApart, FieldsApart}

-- ---- runs of fields as runs of methods

abbrev as_methods : TypeDefRow → TypeDefRow
as_methods t = record t { method_list_first = t.field_list_first; method_list_end = t.field_list_end }

abbrev with_fields : AsmRec → AsmRec
with_fields rec = record rec { type_def = map as_methods rec.type_def }

mapped_at : {A B : Type 0} (f : A → B) (xs : List A) (k : ℕ) (x : A) → slice_get xs k ≡ Some x → slice_get (map f xs) k ≡ Some (f x)
mapped_at f [] k x e = absurd (cc)
mapped_at f (y ∷ xs) zero x e = let same : y ≡ x = cc in ap (λ a. Some (f a)) same
mapped_at f (y ∷ xs) (suc k) x e = mapped_at f xs k x e

pub record OfMapped {A B : Type 0} (f : A → B) (xs : List A) (k : ℕ) (y : B) : Type 0 where
  pub item : A
  pub there : slice_get xs k ≡ Some item
  pub is : f item ≡ y

of_mapped : {A B : Type 0} (f : A → B) (xs : List A) (k : ℕ) (y : B) → slice_get (map f xs) k ≡ Some y → OfMapped f xs k y
of_mapped f [] k y e = absurd (cc)
of_mapped f (x ∷ xs) zero y e = let same : f x ≡ y = cc in record { item = x; there = refl; is = same }
of_mapped f (x ∷ xs) (suc k) y e = let m = of_mapped f xs k y e in record { item = m.item; there = m.there; is = m.is }

-- runs of fields that follow one another
record AreFieldRuns (rec : AsmRec) : Type 0 where
  begins : (k : ℕ) (t : TypeDefRow) → slice_get rec.type_def k ≡ Some t → 1 ≤ t.field_list_first
  never_falls : (k : ℕ) (t : TypeDefRow) → slice_get rec.type_def k ≡ Some t → t.field_list_first ≤ t.field_list_end
  meets : (k : ℕ) (t next : TypeDefRow) → slice_get rec.type_def k ≡ Some t → slice_get rec.type_def (suc k) ≡ Some next → t.field_list_end ≡ next.field_list_first

as_runs : (rec : AsmRec) → AreFieldRuns rec → AreMethodRuns (with_fields rec)
as_runs rec r = record {
  begins = λ k t e. let m = of_mapped as_methods rec.type_def k t e in subst (λ (x : TypeDefRow). 1 ≤ x.method_list_first) m.is (r.begins k m.item m.there);
  never_falls = λ k t e. let m = of_mapped as_methods rec.type_def k t e in subst (λ (x : TypeDefRow). x.method_list_first ≤ x.method_list_end) m.is (r.never_falls k m.item m.there);
  meets = λ k t next e f.
      let m = of_mapped as_methods rec.type_def k t e in
      let n = of_mapped as_methods rec.type_def (suc k) next f in
      sym (ap (λ (x : TypeDefRow). x.method_list_end) m.is) ∙ r.meets k m.item n.item m.there n.there ∙ ap (λ (x : TypeDefRow). x.method_list_first) n.is;
}

one_field_owner : (rec : AsmRec) → AreFieldRuns rec → (i j k : ℕ) (s t : TypeDefRow) → slice_get rec.type_def i ≡ Some s → slice_get rec.type_def j ≡ Some t → owns_field k s ≡ true → owns_field k t ≡ true → i ≡ j
one_field_owner rec r i j k s t e f g h =
    one_owner (with_fields rec) (as_runs rec r) i j k (as_methods s) (as_methods t) (mapped_at as_methods rec.type_def i s e) (mapped_at as_methods rec.type_def j t f) g h

-- ---- a record

method_rows : (rec : AsmRec) → rows_in rec METHOD_DEF ≡ length rec.method_def
unfolding table_sizes
method_rows rec = refl

record_ends : (rec : AsmRec) → IsRecord rec → (k : ℕ) (t : TypeDefRow) → slice_get rec.type_def k ≡ Some t → t.method_list_end ≤ suc (length rec.method_def)
record_ends rec is k t e = let le = is.runs.methods.within k t e in let n = method_rows rec in omega (arith, le, n)

record_fields : (rec : AsmRec) → IsRecord rec → AreFieldRuns rec
record_fields rec is = record { begins = is.runs.fields.begins; never_falls = is.runs.fields.never_falls; meets = is.runs.fields.meets }

-- ---- the core library

abbrev follow : ℕ → List TypeDefRow → Bool
follow start [] = true
follow start (t ∷ ts) = (nat_le 1 t.field_list_first && nat_le t.field_list_first t.field_list_end && (t.field_list_first == start)) && follow t.field_list_end ts

abbrev last_end : ℕ → List TypeDefRow → ℕ
last_end start [] = start
last_end start (t ∷ ts) = last_end t.field_list_end ts

record Right (start : ℕ) (t : TypeDefRow) : Type 0 where
  begins : 1 ≤ t.field_list_first
  never_falls : t.field_list_first ≤ t.field_list_end
  is : t.field_list_first ≡ start

right_of : (start : ℕ) (t : TypeDefRow) → (nat_le 1 t.field_list_first && nat_le t.field_list_first t.field_list_end && (t.field_list_first == start)) ≡ true → Right start t
right_of start t h =
    let p = and_parts (nat_le 1 t.field_list_first && nat_le t.field_list_first t.field_list_end) (t.field_list_first == start) h in
    let q = and_parts (nat_le 1 t.field_list_first) (nat_le t.field_list_first t.field_list_end) p.0 in
    record { begins = leb-true 1 t.field_list_first q.0; never_falls = leb-true t.field_list_first t.field_list_end q.1; is = eqb-true t.field_list_first start p.1 }

rights : (start : ℕ) (t : TypeDefRow) (ts : List TypeDefRow) → follow start (t ∷ ts) ≡ true → Right start t × (follow t.field_list_end ts ≡ true)
rights start t ts h =
    let p = and_parts (nat_le 1 t.field_list_first && nat_le t.field_list_first t.field_list_end && (t.field_list_first == start)) (follow t.field_list_end ts) h in
    (right_of start t p.0, p.1)

row_right : (start : ℕ) (ts : List TypeDefRow) (k : ℕ) (t : TypeDefRow) → follow start ts ≡ true → slice_get ts k ≡ Some t → (at : ℕ) × Right at t
row_right start [] k t h e = absurd (cc)
row_right start (u ∷ ts) zero t h e = let same : u ≡ t = cc in (start, subst (Right start) same (rights start u ts h).0)
row_right start (u ∷ ts) (suc k) t h e = row_right u.field_list_end ts k t (rights start u ts h).1 e

first_is : (start : ℕ) (ts : List TypeDefRow) (t : TypeDefRow) → follow start ts ≡ true → slice_get ts 0 ≡ Some t → start ≡ t.field_list_first
first_is start [] t h e = absurd (cc)
first_is start (u ∷ ts) t h e = let same : u ≡ t = cc in sym (rights start u ts h).0.is ∙ ap (λ (x : TypeDefRow). x.field_list_first) same

rows_meet : (start : ℕ) (ts : List TypeDefRow) (k : ℕ) (t next : TypeDefRow) → follow start ts ≡ true → slice_get ts k ≡ Some t → slice_get ts (suc k) ≡ Some next → t.field_list_end ≡ next.field_list_first
rows_meet start [] k t next h e f = absurd (cc)
rows_meet start (u ∷ ts) zero t next h e f =
    let same : u ≡ t = cc in ap (λ (x : TypeDefRow). x.field_list_end) (sym same) ∙ first_is u.field_list_end ts next (rights start u ts h).1 f
rows_meet start (u ∷ ts) (suc k) t next h e f = rows_meet u.field_list_end ts k t next (rights start u ts h).1 e f

joined : (start : ℕ) (xs ys : List TypeDefRow) → follow start xs ≡ true → follow (last_end start xs) ys ≡ true → follow start (xs ++ ys) ≡ true
joined start [] ys h g = g
joined start (t ∷ xs) ys h g =
    let p = and_parts (nat_le 1 t.field_list_first && nat_le t.field_list_first t.field_list_end && (t.field_list_first == start)) (follow t.field_list_end xs) h in
    and_from (nat_le 1 t.field_list_first && nat_le t.field_list_first t.field_list_end && (t.field_list_first == start)) (follow t.field_list_end (xs ++ ys)) p.0
    (joined t.field_list_end xs ys p.1 g)

core_follows : follow 1 core_record.type_def ≡ true
unfolding core_record record_with type_rows type_row fields_of methods_of
core_follows = refl

core_end : last_end 1 core_record.type_def ≡ length core_record.field + 1
unfolding core_record record_with type_rows type_row all_fields fields_of methods_of
core_end = refl

added_follow : (names : List CoreTypeName) → follow (length core_record.field + 1) (map (added_row core_record) names) ≡ true
added_follow [] = refl
added_follow (x ∷ names) =
    let n : ℕ = length core_record.field + 1 in
    and_from (nat_le 1 n && nat_le n n && (n == n)) (follow n (map (added_row core_record) names))
    (and_from (nat_le 1 n && nat_le n n) (n == n) (and_from (nat_le 1 n) (nat_le n n) (le-leb 1 n (omega arith)) (le-leb n n (omega arith))) (eq-eqb n n refl)) (added_follow names)

core_runs : (names : List CoreTypeName) → follow 1 (core_with core_record names).type_def ≡ true
unfolding core_with
core_runs names =
    joined 1 core_record.type_def (map (added_row core_record) names) core_follows
    (ap (λ (n : ℕ). follow n (map (added_row core_record) names)) core_end ∙ added_follow names)

core_fields : (names : List CoreTypeName) → AreFieldRuns (core_with core_record names)
core_fields names = record {
  begins = λ k t e. (row_right 1 (core_with core_record names).type_def k t (core_runs names) e).1.begins;
  never_falls = λ k t e. (row_right 1 (core_with core_record names).type_def k t (core_runs names) e).1.never_falls;
  meets = λ k t next e f. rows_meet 1 (core_with core_record names).type_def k t next (core_runs names) e f;
}

abbrev ends_by : ℕ → TypeDefRow → Bool
ends_by n t = nat_le t.method_list_end (suc n)

core_ends_here : list_all (ends_by (length core_record.method_def)) core_record.type_def ≡ true
unfolding core_record record_with type_rows type_row all_methods fields_of methods_of
core_ends_here = refl

added_end : (names : List CoreTypeName) → list_all (ends_by (length core_record.method_def)) (map (added_row core_record) names) ≡ true
added_end [] = refl
added_end (x ∷ names) =
    let n : ℕ = length core_record.method_def in
    and_from (nat_le (n + 1) (suc n)) (list_all (ends_by n) (map (added_row core_record) names)) (le-leb (n + 1) (suc n) (omega arith)) (added_end names)

all_at : {A : Type 0} (p : A → Bool) (xs : List A) (k : ℕ) (x : A) → list_all p xs ≡ true → slice_get xs k ≡ Some x → p x ≡ true
all_at p [] k x h e = absurd (cc)
all_at p (y ∷ xs) zero x h e = let same : y ≡ x = cc in ap p (sym same) ∙ (and_parts (p y) (list_all p xs) h).0
all_at p (y ∷ xs) (suc k) x h e = all_at p xs k x (and_parts (p y) (list_all p xs) h).1 e

core_ends : (names : List CoreTypeName) (k : ℕ) (t : TypeDefRow) → slice_get (core_with core_record names).type_def k ≡ Some t → t.method_list_end ≤ suc (length (core_with core_record names).method_def)
unfolding core_with
core_ends names k t e =
    let n : ℕ = length core_record.method_def in
    let whole : list_all (ends_by n) (core_record.type_def ++ map (added_row core_record) names) ≡ true =
    list_all-append (ends_by n) core_record.type_def (map (added_row core_record) names) ∙ and_from (list_all (ends_by n) core_record.type_def) (list_all (ends_by n) (map (added_row core_record) names)) core_ends_here (added_end names) in
    leb-true t.method_list_end (suc n) (all_at (ends_by n) (core_record.type_def ++ map (added_row core_record) names) k t whole e)

-- ---- the assemblies of a world

module _ (inputs : List AsmRec) (are : AreRecords inputs) where
  abbrev names : List CoreTypeName
  names = missing_names (inputs ++ core_record ∷ [])

  module _ (P : AsmRec → Type 0) (of_record : (rec : AsmRec) → IsRecord rec → P rec) (of_core : P (core_with core_record names)) where
    each_by : (a : ℕ) (rec : AsmRec) → (slice_get inputs a ≡ Some rec) ⊎ (core_with core_record names ≡ rec) → P rec
    each_by a rec (inl e) = of_record rec (are a rec e)
    each_by a rec (inr e) = subst P e of_core

    each : (a : ℕ) (rec : AsmRec) → slice_get (assemblies inputs) a ≡ Some rec → P rec
    unfolding assemblies
    each a rec e = each_by a rec (either inputs (core_with core_record names) a rec e)

  abbrev Ends : AsmRec → Type 0
  Ends rec = (k : ℕ) (t : TypeDefRow) → slice_get rec.type_def k ≡ Some t → t.method_list_end ≤ suc (length rec.method_def)

  pub runs_end : RunsEnd (assemblies inputs)
  runs_end a k rec t e f = each Ends record_ends (core_ends names) a rec e k t f

  pub methods_apart : MethodsApart (assemblies inputs)
  methods_apart = record {
    begin = λ a i rec t e f. (runs_kept inputs are a rec e).begins i t f;
    apart = λ a i j k rec s t e f g x y. one_owner rec (runs_kept inputs are a rec e) i j k s t f g x y;
  }

  pub fields_apart : FieldsApart (assemblies inputs)
  fields_apart = record {
    begin = λ a i rec t e f. (each AreFieldRuns record_fields (core_fields names) a rec e).begins i t f;
    apart = λ a i j k rec s t e f g x y. one_field_owner rec (each AreFieldRuns record_fields (core_fields names) a rec e) i j k s t f g x y;
  }
