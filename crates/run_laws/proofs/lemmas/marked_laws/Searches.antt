-- Members of the core library that search: each does more than look at types, and none is virtual or an initializer.
use Rattle.std.proofs.Common.{◌≡◌, ◌≤◌, ◌<◌, ℕ, zero, suc, ◌+◌, ◌-◌, Bool, true, false, nat_lt, List, [], ◌∷◌, ◌++◌, length, map, Option, Some, None, refl, sym, ap, subst, ◌∙◌, arith}
use Rattle.std.specs.Prelude.{slice_get, codes, not, ◌==◌, ◌&&◌, ◌||◌, if◌then◌else◌}
use Rattle.std.specs.List.{list_all, list_any}
use Rattle.std.specs.Option.{option_map, option_and_then}
use Rattle.std.specs.Cmp.{first_so, second_so}
use Rattle.std.proofs.lemmas.Bool.{true≢false, lt-ltb, ltb-true, ltb-false, ne_eqb, or_left}
use Rattle.std.proofs.lemmas.List.{length-append}
use Rattle.il_base.specs.declared.world_model.members.MethodDefRow.{MethodDefRow}
use Rattle.il_base.specs.declared.world_model.record.AsmRec.{AsmRec}
use Rattle.il_base.specs.world_model.Core.{same_name}
use Rattle.il_base.specs.declared.core_table.names.CoreName.{CoreName}
use Rattle.il_base.specs.declared.core_table.kinds.OwnedMethod.{OwnedMethod}
use Rattle.il_base.specs.declared.core_table.shape.CoreMethod.{CoreMethod}
use Rattle.il_base.specs.declared.core_table.shape.CoreType.{CoreType}
use Rattle.il_base.specs.declared.core_table.types.TheConstants.{TYPES, METHOD_COUNT}
use Rattle.il_base.specs.core_table.Names.{text_of}
use Rattle.il_base.specs.core_table.Members.{methods_of}
use Rattle.il_base.specs.core_table.Kinds.{kind_at, core_row, owned, member_in, member_of, is_reflective, looks_at_types}
use Rattle.il_base.specs.core_table.Record.{core_record, record_with, method_row, all_methods}
use Rattle.rules.specs.declared.link_rules.row_at.RowAt.{RowAt}
use Rattle.rules.specs.declared.link_rules.core_type_name.CoreTypeName.{CoreTypeName}
use Rattle.rules.specs.link_rules.CoreNames.{missing_names, core_with}
use Rattle.rules.specs.link_rules.Types.{at_row}
use Rattle.rules.specs.link_rules.Members.{home_from, methods_in}
use Rattle.rules.specs.link_rules.Cycles.{listed}
use Rattle.rules.specs.link_rules.Linked.{assemblies}
use Rattle.rules.specs.type_rules.Slots.{is_virtual, method_row_at}
use Rattle.rules.specs.step_rules.CoreSearches.{searches}
use Rattle.rules.specs.view_rules.Members.{call_of, core_call}
use Rattle.rules.specs.mark_rules.NotYet.{does_more, core_member, is_reflection}
use Rattle.base_laws.proofs.lemmas.type_laws.Places.{place_within}
use Rattle.rules.specs.world_change_rules.Places.{method_number}
use Rattle.run_laws.specs.marked_laws.Flags.{searches_at}
use Rattle.run_laws.proofs.lemmas.marked_laws.Places.{number_home}

-- ---- the table

-- a method that runs though no operand names it: of a slot, or the initializer of a type
abbrev pub runs_unnamed : MethodDefRow → Bool
runs_unnamed d = is_virtual d || same_name d.name (codes ".cctor")

abbrev owned_by : CoreName → CoreMethod → OwnedMethod
owned_by name m = record { owner = name; method = m }

abbrev is_search : OwnedMethod → Bool
is_search m = list_any searches (listed (call_of m))

abbrev does_as_searches : OwnedMethod → Bool
does_as_searches m = does_more m && not (runs_unnamed (method_row m.method))

abbrev is_right : OwnedMethod → Bool
is_right m = not (is_search m) || does_as_searches m

are_right : List CoreType → Bool
are_right [] = true
are_right (t ∷ ts) = list_all (λ m. is_right (owned_by t.name m)) (methods_of t.members) && are_right ts

table_right : are_right TYPES ≡ true
unfolding are_right methods_of searches is_reflective looks_at_types method_row text_of
table_right = refl

right_here : (name : CoreName) (ms : List CoreMethod) (k : ℕ) (m : OwnedMethod) → list_all (λ m. is_right (owned_by name m)) ms ≡ true → owned name (slice_get ms k) ≡ Some m → is_right m ≡ true
right_here name [] k m h e = absurd (cc)
right_here name (x ∷ ms) zero m h e = let same : owned_by name x ≡ m = cc in ap is_right (sym same) ∙ first_so (is_right (owned_by name x)) (list_all (λ m. is_right (owned_by name m)) ms) h
right_here name (x ∷ ms) (suc k) m h e = right_here name ms k m (second_so (is_right (owned_by name x)) (list_all (λ m. is_right (owned_by name m)) ms) h) e

right_by : (name : CoreName) (ms : List CoreMethod) (k : ℕ) (later : Option OwnedMethod) (m : OwnedMethod) (b : Bool) → list_all (λ m. is_right (owned_by name m)) ms ≡ true → (later ≡ Some m → is_right m ≡ true)
    → (if b then owned name (slice_get ms k) else later) ≡ Some m → is_right m ≡ true
right_by name ms k later m true h more e = right_here name ms k m h e
right_by name ms k later m false h more e = more e

right_in : (ts : List CoreType) (k : ℕ) (m : OwnedMethod) → are_right ts ≡ true → member_in ts k ≡ Some m → is_right m ≡ true
unfolding member_in are_right
right_in [] k m h e = absurd (cc)
right_in (t ∷ ts) k m h e =
    let here : list_all (λ m. is_right (owned_by t.name m)) (methods_of t.members) ≡ true = first_so (list_all (λ m. is_right (owned_by t.name m)) (methods_of t.members)) (are_right ts) h in
    let there : are_right ts ≡ true = second_so (list_all (λ m. is_right (owned_by t.name m)) (methods_of t.members)) (are_right ts) h in
    right_by t.name (methods_of t.members) k (member_in ts (k - length (methods_of t.members))) m (nat_lt k (length (methods_of t.members))) here
    (λ f. right_in ts (k - length (methods_of t.members)) m there f) e

-- ---- a member's place and row

total : List CoreType → ℕ
total [] = 0
total (t ∷ ts) = length (methods_of t.members) + total ts

total_is : total TYPES ≡ METHOD_COUNT
unfolding total methods_of
total_is = refl

below_by : (k n rest : ℕ) (here later : Option OwnedMethod) (m : OwnedMethod) (b : Bool) → nat_lt k n ≡ b → (later ≡ Some m → k - n < rest) → (if b then here else later) ≡ Some m → k < n + rest
below_by k n rest here later m true lt more e = let l = ltb-true k n lt in omega (arith, l)
below_by k n rest here later m false lt more e = let g = ltb-false k n lt in let l = more e in omega (arith, g, l)

member_below : (ts : List CoreType) (k : ℕ) (m : OwnedMethod) → member_in ts k ≡ Some m → k < total ts
unfolding member_in total
member_below [] k m e = absurd (cc)
member_below (t ∷ ts) k m e =
    let n : ℕ = length (methods_of t.members) in
    below_by k n (total ts) (owned t.name (slice_get (methods_of t.members) k)) (member_in ts (k - n)) m (nat_lt k n) refl (λ f. member_below ts (k - n) m f) e

rows_here : (ms : List CoreMethod) (rest : List MethodDefRow) (k : ℕ) → k < length ms → slice_get (map method_row ms ++ rest) k ≡ option_map method_row (slice_get ms k)
rows_here [] rest k lt = absurd (omega (arith, lt))
rows_here (m ∷ ms) rest zero lt = refl
rows_here (m ∷ ms) rest (suc k) lt = rows_here ms rest k (omega (arith, lt))

rows_after : (ms : List CoreMethod) (rest : List MethodDefRow) (k : ℕ) → length ms ≤ k → slice_get (map method_row ms ++ rest) k ≡ slice_get rest (k - length ms)
rows_after [] rest k le = let z : k ≡ k - 0 = omega arith in ap (slice_get rest) z
rows_after (m ∷ ms) rest zero le = absurd (omega (arith, le))
rows_after (m ∷ ms) rest (suc k) le = let z : k - length ms ≡ suc k - suc (length ms) = omega arith in rows_after ms rest k (omega (arith, le)) ∙ ap (slice_get rest) z

own_row : (name : CoreName) (o : Option CoreMethod) (m : OwnedMethod) (d : MethodDefRow) → owned name o ≡ Some m → option_map method_row o ≡ Some d → method_row m.method ≡ d
own_row name None m d e r = absurd (cc)
own_row name (Some x) m d e r = let same : owned_by name x ≡ m = cc in let row : method_row x ≡ d = cc in ap (λ (y : OwnedMethod). method_row y.method) (sym same) ∙ row

row_by : (name : CoreName) (ms : List CoreMethod) (rest : List MethodDefRow) (k : ℕ) (later : Option OwnedMethod) (m : OwnedMethod) (d : MethodDefRow) (b : Bool) → nat_lt k (length ms) ≡ b
    → (later ≡ Some m → slice_get rest (k - length ms) ≡ Some d → method_row m.method ≡ d) → (if b then owned name (slice_get ms k) else later) ≡ Some m → slice_get (map method_row ms ++ rest) k ≡ Some d → method_row m.method ≡ d
row_by name ms rest k later m d true lt more e r = own_row name (slice_get ms k) m d e (sym (rows_here ms rest k (ltb-true k (length ms) lt)) ∙ r)
row_by name ms rest k later m d false lt more e r = more e (sym (rows_after ms rest k (ltb-false k (length ms) lt)) ∙ r)

row_is : (ts : List CoreType) (k : ℕ) (m : OwnedMethod) (d : MethodDefRow) → member_in ts k ≡ Some m → slice_get (all_methods ts) k ≡ Some d → method_row m.method ≡ d
unfolding member_in all_methods
row_is [] k m d e r = absurd (cc)
row_is (t ∷ ts) k m d e r =
    let n : ℕ = length (methods_of t.members) in
    row_by t.name (methods_of t.members) (all_methods ts) k (member_in ts (k - n)) m d (nat_lt k n) refl (λ f g. row_is ts (k - n) m d f g) e r

-- ---- a method that is a member is a row of the last assembly

abbrev IsAt : ℕ → ℕ → RowAt → Type 0
IsAt end k at = (suc at.asm ≡ end) × (at.row ≡ k)

here_is : (i n k : ℕ) (at : RowAt) (b : Bool) → n ≡ k → (if b then Some (at_row i n) else None) ≡ Some at → IsAt (i + 1) k at
here_is i n k at true e h =
    let same : at_row i n ≡ at = cc in
    let asm : i ≡ at.asm = ap (λ (x : RowAt). x.asm) same in
    (omega (arith, asm), sym (ap (λ (x : RowAt). x.row) same) ∙ e)
here_is i n k at false e h = absurd (cc)

later_is : (i n k : ℕ) (at : RowAt) (row : Option ℕ) (home : Option RowAt) (end : ℕ) (b : Bool) → (row ≡ Some k → home ≡ Some at → IsAt end k at)
    → (if b then None else row) ≡ Some k → (if b then Some (at_row i n) else home) ≡ Some at → IsAt end k at
later_is i n k at row home end true more c h = absurd (cc)
later_is i n k at row home end false more c h = more c h

last_home : (recs : List AsmRec) (i n k : ℕ) (at : RowAt) → core_row recs n ≡ Some k → home_from methods_in i recs n ≡ Some at → IsAt (i + length recs) k at
unfolding core_row home_from
last_home [] i n k at c h = absurd (cc)
last_home (rec ∷ []) i n k at c h = let same : n ≡ k = cc in here_is i n k at (nat_lt n (length rec.method_def)) same h
last_home (rec ∷ next ∷ recs) i n k at c h =
    let left : ℕ = n - length rec.method_def in
    let z : suc i + length (next ∷ recs) ≡ i + length (rec ∷ next ∷ recs) = omega arith in
    later_is i n k at (core_row (next ∷ recs) left) (home_from methods_in (suc i) (next ∷ recs) left) (i + length (rec ∷ next ∷ recs)) (nat_lt n (length rec.method_def))
    (λ d g. subst (λ (end : ℕ). IsAt end k at) z (last_home (next ∷ recs) (suc i) left k at d g)) c h

pub last_is : (xs : List AsmRec) (c r : AsmRec) (k : ℕ) → k ≡ length xs → slice_get (xs ++ c ∷ []) k ≡ Some r → c ≡ r
last_is [] c r zero e h = cc
last_is [] c r (suc k) e h = absurd (cc)
last_is (x ∷ xs) c r zero e h = absurd (cc)
last_is (x ∷ xs) c r (suc k) e h = last_is xs c r k (omega (arith, e)) h

-- ---- the member that a method is

module _ (recs : List AsmRec) (n : ℕ) where
  record Searched : Type 0 where
    place : ℕ
    member : OwnedMethod
    is_row : core_row recs n ≡ Some place
    is_member : member_in TYPES place ≡ Some member
    does : does_as_searches member ≡ true

  does_by : (m : OwnedMethod) (b : Bool) → is_search m ≡ b → is_right m ≡ true → is_search m ≡ true → does_as_searches m ≡ true
  does_by m true e right h = sym (ap (λ (c : Bool). not c || does_as_searches m) e) ∙ right
  does_by m false e right h = absurd (true≢false (sym h ∙ e))

  by_member : (k : ℕ) (o : Option OwnedMethod) → core_row recs n ≡ Some k → member_in TYPES k ≡ o → list_any searches (listed (option_and_then call_of o)) ≡ true → Searched
  by_member k None r e h = absurd (let f : false ≡ true = h in cc)
  by_member k (Some m) r e h = record { place = k; member = m; is_row = r; is_member = e; does = does_by m (is_search m) refl (right_in TYPES k m table_right e) h }

  by_row : (o : Option ℕ) → core_row recs n ≡ o → list_any searches (listed (option_and_then call_of (option_and_then (member_in TYPES) o))) ≡ true → Searched
  by_row None e h = absurd (let f : false ≡ true = h in cc)
  by_row (Some k) e h = by_member k (member_in TYPES k) e refl h

  searched : searches_at recs n ≡ true → Searched
  unfolding core_call
  searched h = by_row (core_row recs n) refl h

  -- it is one that marking doesn't follow
  member_is : (s : Searched) → core_member recs (record { 0 = n }) ≡ Some s.member
  unfolding member_of
  member_is s =
      let lt = member_below TYPES s.place s.member s.is_member in
      let all = total_is in
      let below : nat_lt s.place METHOD_COUNT ≡ true = lt-ltb s.place METHOD_COUNT (subst (λ (c : ℕ). s.place < c) all lt) in
      let z : s.place + 1 - 1 ≡ s.place = omega arith in
      let some : (s.place + 1 == 0) ≡ false = ne_eqb (s.place + 1) 0 (λ e. absurd (omega (arith, e))) in
      ap (λ (o : Option ℕ). option_and_then member_of (kind_at o)) s.is_row
      ∙ ap (λ (b : Bool). option_and_then member_of (if b then Some (record { 0 = s.place + 1 }) else None)) below
      ∙ ap (λ (b : Bool). if b then None else member_in TYPES (s.place + 1 - 1)) some ∙ ap (member_in TYPES) z ∙ s.is_member

  pub search_reflects : searches_at recs n ≡ true → is_reflection recs (record { 0 = n }) ≡ true
  unfolding is_reflection
  search_reflects h =
      let s = searched h in
      ap (λ (o : Option OwnedMethod). list_any does_more (listed o)) (member_is s) ∙ or_left (does_more s.member) false (first_so (does_more s.member) (not (runs_unnamed (method_row s.member.method))) s.does)

  -- a method of another assembly than the last is no member
  no_member : (at : RowAt) → home_from methods_in 0 recs n ≡ Some at → suc at.asm < length recs → Searched → ⊥
  no_member at home lt s = let is : IsAt (0 + length recs) s.place at = last_home recs 0 n s.place at s.is_row home in let last = is.0 in absurd (omega (arith, last, lt))

  input_by : (at : RowAt) (b : Bool) → home_from methods_in 0 recs n ≡ Some at → suc at.asm < length recs → searches_at recs n ≡ b → b ≡ false
  input_by at true home lt e = absurd (no_member at home lt (searched e))
  input_by at false home lt e = refl

  pub input_searches_nothing : (at : RowAt) → home_from methods_in 0 recs n ≡ Some at → suc at.asm < length recs → searches_at recs n ≡ false
  input_searches_nothing at home lt = input_by at (searches_at recs n) home lt refl

-- ---- in the world of the inputs

module _ (inputs : List AsmRec) where
  abbrev recs : List AsmRec
  recs = assemblies inputs

  core_rows : (a : ℕ) (rec : AsmRec) → suc a ≡ length recs → slice_get recs a ≡ Some rec → all_methods TYPES ≡ rec.method_def
  unfolding assemblies core_with core_record record_with
  core_rows a rec last there =
      let names : List CoreTypeName = missing_names (inputs ++ core_record ∷ []) in
      let long = length-append inputs (core_with core_record names ∷ []) in
      ap (λ (r : AsmRec). r.method_def) (last_is inputs (core_with core_record names) rec a (omega (arith, last, long)) there)

  module _ (at : RowAt) (d : MethodDefRow) (unnamed : runs_unnamed d ≡ true) where
    no_search : (rec : AsmRec) → slice_get recs at.asm ≡ Some rec → slice_get rec.method_def at.row ≡ Some d → Searched recs (method_number recs at) → ⊥
    no_search rec there row s =
        let z : 0 + at.asm ≡ at.asm = omega arith in
        let home : home_from methods_in 0 recs (method_number recs at) ≡ Some at = number_home methods_in recs 0 at.asm at.row rec there (place_within rec.method_def at.row d row) ∙ ap (λ (a : ℕ). Some (at_row a at.row)) z in
        let is : IsAt (0 + length recs) s.place at = last_home recs 0 (method_number recs at) s.place at s.is_row home in
        let last : suc at.asm ≡ length recs = (let e = is.0 in omega (arith, e)) in
        let same : slice_get (all_methods TYPES) s.place ≡ Some d = (λ i. slice_get (core_rows at.asm rec last there i) (sym is.1 i)) ∙ row in
        let made : method_row s.member.method ≡ d = row_is TYPES s.place s.member d s.is_member same in
        let none : not (runs_unnamed (method_row s.member.method)) ≡ true = second_so (does_more s.member) (not (runs_unnamed (method_row s.member.method))) s.does in
        absurd (true≢false (sym none ∙ ap (λ (x : MethodDefRow). not (runs_unnamed x)) made ∙ ap not unnamed))

    by_flag : (rec : AsmRec) (b : Bool) → slice_get recs at.asm ≡ Some rec → slice_get rec.method_def at.row ≡ Some d → searches_at recs (method_number recs at) ≡ b → b ≡ false
    by_flag rec true there row e = absurd (no_search rec there row (searched recs (method_number recs at) e))
    by_flag rec false there row e = refl

    by_rec : (o : Option AsmRec) → slice_get recs at.asm ≡ o → option_and_then (λ (rec : AsmRec). slice_get rec.method_def at.row) o ≡ Some d → searches_at recs (method_number recs at) ≡ false
    by_rec None there row = absurd (cc)
    by_rec (Some rec) there row = by_flag rec (searches_at recs (method_number recs at)) there row refl

    -- a method that runs though no operand names it is no member that searches
    pub unnamed_searches_nothing : method_row_at recs at ≡ Some d → searches_at recs (method_number recs at) ≡ false
    unnamed_searches_nothing row = by_rec (slice_get recs at.asm) refl row
