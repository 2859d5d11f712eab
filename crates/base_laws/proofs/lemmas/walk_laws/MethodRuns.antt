-- Where runs of methods follow one another, no method is in those of two types. Those of the core library do.
use Rattle.std.proofs.Common.{◌≡◌, ℕ, zero, suc, ◌+◌, ◌-◌, ◌<◌, ◌≤◌, ◌==◌, Bool, true, nat_le, nat_lt, List, [], ◌∷◌, ◌++◌, length, map, Some, ◌⊎◌, inl, inr, refl, sym, ap, subst, ◌∙◌, arith}
use Rattle.std.specs.Prelude.{slice_get, ◌&&◌}
use Rattle.std.proofs.lemmas.Bool.{and_parts, and_from, leb-true, le-leb, ltb-true, eqb-true, eq-eqb, cases_lt}
use Rattle.il_base.specs.declared.world_model.types.TypeDefRow.{TypeDefRow}
use Rattle.il_base.specs.declared.world_model.record.AsmRec.{AsmRec}
use Rattle.il_base.specs.core_table.Members.{fields_of, methods_of}
use Rattle.il_base.specs.core_table.Record.{core_record, record_with, type_rows, type_row, all_methods}
use Rattle.rules.specs.declared.link_rules.core_type_name.CoreTypeName.{CoreTypeName}
use Rattle.rules.specs.link_rules.CoreNames.{missing_names, added_row, core_with}
use Rattle.rules.specs.link_rules.Members.{owns_method}
use Rattle.rules.specs.link_rules.Linked.{assemblies}
use Rattle.base_laws.proofs.lemmas.type_laws.Places.{place_within, place_has}
use Rattle.base_laws.specs.walk_laws.Walks.{AreMethodRuns}

-- The runs of methods begin at rows from 1, and no method is in those of two types.
pub record AreApart (recs : List AsmRec) : Type 0 where
  pub begin : (a i : ℕ) (rec : AsmRec) (t : TypeDefRow) → slice_get recs a ≡ Some rec → slice_get rec.type_def i ≡ Some t → 1 ≤ t.method_list_first
  pub apart : (a i j k : ℕ) (rec : AsmRec) (s t : TypeDefRow) → slice_get recs a ≡ Some rec → slice_get rec.type_def i ≡ Some s → slice_get rec.type_def j ≡ Some t
      → owns_method k s ≡ true → owns_method k t ≡ true → i ≡ j

module _ (rec : AsmRec) (runs : AreMethodRuns rec) where
  -- a later run begins where an earlier one has ended
  after : (d i : ℕ) (s t : TypeDefRow) → slice_get rec.type_def i ≡ Some s → slice_get rec.type_def (suc (i + d)) ≡ Some t → s.method_list_end ≤ t.method_list_first
  after zero i s t e f =
      let z : suc (i + 0) ≡ suc i = omega arith in
      let same = runs.meets i s t e (ap (slice_get rec.type_def) (sym z) ∙ f) in
      omega arith
  after (suc d) i s t e f =
      let lt = place_within rec.type_def (suc (i + suc d)) t f in
      let u = place_has rec.type_def (suc (i + d)) (omega arith) in
      let le = after d i s u.0 e u.1 in
      let z : suc (suc (i + d)) ≡ suc (i + suc d) = omega arith in
      let same = runs.meets (suc (i + d)) u.0 t u.1 (ap (slice_get rec.type_def) z ∙ f) in
      let more = runs.never_falls (suc (i + d)) u.0 u.1 in
      omega arith

  record Holds (k : ℕ) (t : TypeDefRow) : Type 0 where
    from : t.method_list_first ≤ k
    below : k < t.method_list_end

  holds : (k : ℕ) (t : TypeDefRow) → owns_method k t ≡ true → Holds k t
  holds k t h =
      let p = and_parts (nat_le t.method_list_first k) (nat_lt k t.method_list_end) h in
      record { from = leb-true t.method_list_first k p.0; below = ltb-true k t.method_list_end p.1 }

  not_before : (i j k : ℕ) (s t : TypeDefRow) → slice_get rec.type_def i ≡ Some s → slice_get rec.type_def j ≡ Some t → owns_method k s ≡ true → owns_method k t ≡ true → i < j → ⊥
  not_before i j k s t e f g h lt =
      let z : j ≡ suc (i + (j - suc i)) = omega arith in
      let le = after (j - suc i) i s t e (ap (slice_get rec.type_def) (sym z) ∙ f) in
      let x = (holds k s g).below in
      let y = (holds k t h).from in
      omega arith

  one_by : (i j k : ℕ) (s t : TypeDefRow) → slice_get rec.type_def i ≡ Some s → slice_get rec.type_def j ≡ Some t → owns_method k s ≡ true → owns_method k t ≡ true
      → (i < j) ⊎ (j ≤ i) → (j < i) ⊎ (i ≤ j) → i ≡ j
  one_by i j k s t e f g h (inl lt) other = absurd (not_before i j k s t e f g h lt)
  one_by i j k s t e f g h (inr le) (inl lt) = absurd (not_before j i k t s f e h g lt)
  one_by i j k s t e f g h (inr le) (inr ge) = omega arith

  pub one_owner : (i j k : ℕ) (s t : TypeDefRow) → slice_get rec.type_def i ≡ Some s → slice_get rec.type_def j ≡ Some t → owns_method k s ≡ true → owns_method k t ≡ true → i ≡ j
  one_owner i j k s t e f g h = one_by i j k s t e f g h (cases_lt i j) (cases_lt j i)

-- ---- the core library

abbrev follow : ℕ → List TypeDefRow → Bool
follow start [] = true
follow start (t ∷ ts) = (nat_le 1 t.method_list_first && nat_le t.method_list_first t.method_list_end && (t.method_list_first == start)) && follow t.method_list_end ts

abbrev last_end : ℕ → List TypeDefRow → ℕ
last_end start [] = start
last_end start (t ∷ ts) = last_end t.method_list_end ts

record Right (start : ℕ) (t : TypeDefRow) : Type 0 where
  begins : 1 ≤ t.method_list_first
  never_falls : t.method_list_first ≤ t.method_list_end
  is : t.method_list_first ≡ start

right_of : (start : ℕ) (t : TypeDefRow) → (nat_le 1 t.method_list_first && nat_le t.method_list_first t.method_list_end && (t.method_list_first == start)) ≡ true → Right start t
right_of start t h =
    let p = and_parts (nat_le 1 t.method_list_first && nat_le t.method_list_first t.method_list_end) (t.method_list_first == start) h in
    let q = and_parts (nat_le 1 t.method_list_first) (nat_le t.method_list_first t.method_list_end) p.0 in
    record { begins = leb-true 1 t.method_list_first q.0; never_falls = leb-true t.method_list_first t.method_list_end q.1; is = eqb-true t.method_list_first start p.1 }

rights : (start : ℕ) (t : TypeDefRow) (ts : List TypeDefRow) → follow start (t ∷ ts) ≡ true → Right start t × (follow t.method_list_end ts ≡ true)
rights start t ts h =
    let p = and_parts (nat_le 1 t.method_list_first && nat_le t.method_list_first t.method_list_end && (t.method_list_first == start)) (follow t.method_list_end ts) h in
    (right_of start t p.0, p.1)

row_right : (start : ℕ) (ts : List TypeDefRow) (k : ℕ) (t : TypeDefRow) → follow start ts ≡ true → slice_get ts k ≡ Some t → (at : ℕ) × Right at t
row_right start [] k t h e = cc
row_right start (u ∷ ts) zero t h e = let same : u ≡ t = cc in (start, subst (Right start) same (rights start u ts h).0)
row_right start (u ∷ ts) (suc k) t h e = row_right u.method_list_end ts k t (rights start u ts h).1 e

first_is : (start : ℕ) (ts : List TypeDefRow) (t : TypeDefRow) → follow start ts ≡ true → slice_get ts 0 ≡ Some t → start ≡ t.method_list_first
first_is start [] t h e = cc
first_is start (u ∷ ts) t h e = let same : u ≡ t = cc in sym (rights start u ts h).0.is ∙ ap (λ (x : TypeDefRow). x.method_list_first) same

rows_meet : (start : ℕ) (ts : List TypeDefRow) (k : ℕ) (t next : TypeDefRow) → follow start ts ≡ true → slice_get ts k ≡ Some t → slice_get ts (suc k) ≡ Some next → t.method_list_end ≡ next.method_list_first
rows_meet start [] k t next h e f = cc
rows_meet start (u ∷ ts) zero t next h e f =
    let same : u ≡ t = cc in ap (λ (x : TypeDefRow). x.method_list_end) (sym same) ∙ first_is u.method_list_end ts next (rights start u ts h).1 f
rows_meet start (u ∷ ts) (suc k) t next h e f = rows_meet u.method_list_end ts k t next (rights start u ts h).1 e f

joined : (start : ℕ) (xs ys : List TypeDefRow) → follow start xs ≡ true → follow (last_end start xs) ys ≡ true → follow start (xs ++ ys) ≡ true
joined start [] ys h g = g
joined start (t ∷ xs) ys h g =
    let p = and_parts (nat_le 1 t.method_list_first && nat_le t.method_list_first t.method_list_end && (t.method_list_first == start)) (follow t.method_list_end xs) h in
    and_from (nat_le 1 t.method_list_first && nat_le t.method_list_first t.method_list_end && (t.method_list_first == start)) (follow t.method_list_end (xs ++ ys)) p.0
    (joined t.method_list_end xs ys p.1 g)

core_follows : follow 1 core_record.type_def ≡ true
unfolding core_record record_with type_rows type_row fields_of methods_of
core_follows = refl

core_end : last_end 1 core_record.type_def ≡ length core_record.method_def + 1
unfolding core_record record_with type_rows type_row all_methods fields_of methods_of
core_end = refl

added_follow : (names : List CoreTypeName) → follow (length core_record.method_def + 1) (map (added_row core_record) names) ≡ true
added_follow [] = refl
added_follow (x ∷ names) =
    let n : ℕ = length core_record.method_def + 1 in
    and_from (nat_le 1 n && nat_le n n && (n == n)) (follow n (map (added_row core_record) names))
    (and_from (nat_le 1 n && nat_le n n) (n == n) (and_from (nat_le 1 n) (nat_le n n) (le-leb 1 n (omega arith)) (le-leb n n (omega arith))) (eq-eqb n n refl)) (added_follow names)

core_runs : (names : List CoreTypeName) → follow 1 (core_with core_record names).type_def ≡ true
unfolding core_with
core_runs names =
    joined 1 core_record.type_def (map (added_row core_record) names) core_follows
    (ap (λ (n : ℕ). follow n (map (added_row core_record) names)) core_end ∙ added_follow names)

pub core_right : (names : List CoreTypeName) → AreMethodRuns (core_with core_record names)
core_right names = record {
  begins = λ k t e. (row_right 1 (core_with core_record names).type_def k t (core_runs names) e).1.begins;
  never_falls = λ k t e. (row_right 1 (core_with core_record names).type_def k t (core_runs names) e).1.never_falls;
  meets = λ k t next e f. rows_meet 1 (core_with core_record names).type_def k t next (core_runs names) e f;
}

-- ---- the assemblies of a world

some_is : (core rec : AsmRec) → Some core ≡ Some rec → core ≡ rec
some_is core rec e = cc

-- an assembly is an input or the core library
pub either : (recs : List AsmRec) (core : AsmRec) (a : ℕ) (rec : AsmRec) → slice_get (recs ++ core ∷ []) a ≡ Some rec → (slice_get recs a ≡ Some rec) ⊎ (core ≡ rec)
either [] core zero rec e = inr (some_is core rec e)
either [] core (suc a) rec e = cc
either (r ∷ recs) core zero rec e = inl e
either (r ∷ recs) core (suc a) rec e = either recs core a rec e

module _ (inputs : List AsmRec) (runs : (a : ℕ) (rec : AsmRec) → slice_get inputs a ≡ Some rec → AreMethodRuns rec) where
  runs_by : (a : ℕ) (rec : AsmRec) → (slice_get inputs a ≡ Some rec) ⊎ (core_with core_record (missing_names (inputs ++ core_record ∷ [])) ≡ rec) → AreMethodRuns rec
  runs_by a rec (inl e) = runs a rec e
  runs_by a rec (inr e) = subst AreMethodRuns e (core_right (missing_names (inputs ++ core_record ∷ [])))

  all_runs : (a : ℕ) (rec : AsmRec) → slice_get (assemblies inputs) a ≡ Some rec → AreMethodRuns rec
  unfolding assemblies
  all_runs a rec e = runs_by a rec (either inputs (core_with core_record (missing_names (inputs ++ core_record ∷ []))) a rec e)

  pub all_apart : AreApart (assemblies inputs)
  all_apart = record {
    begin = λ a i rec t e f. (all_runs a rec e).begins i t f;
    apart = λ a i j k rec s t e f g. one_owner rec (all_runs a rec e) i j k s t f g;
  }
