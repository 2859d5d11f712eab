-- The core library stands after the kept rows, as it did after the inputs: its types, members and primitives.
use Rattle.std.proofs.Common.{◌≡◌, ◌<◌, ◌≤◌, ℕ, suc, ◌+◌, ◌-◌, Bool, true, false, nat_lt, List, [], ◌∷◌, ◌++◌, length, map, Option, Some, None, ◌⊎◌, inl, inr, refl, sym, ap, subst, ◌∙◌, arith}
use Rattle.std.specs.Prelude.{IsTrue, slice_get, position, unwrap_or, if◌then◌else◌}
use Rattle.std.specs.List.{position_or_len, flat_map}
use Rattle.std.specs.Option.{option_map, option_and_then}
use Rattle.std.proofs.lemmas.Bool.{ltb-true, lt-ltb, le-ltb, cases_lt}
use Rattle.std.proofs.lemmas.List.{length-append, length-map}
use Rattle.il_base.specs.declared.table.TheConstants.{TYPE_DEF}
use Rattle.il_base.specs.declared.world_model.record.AsmRec.{AsmRec}
use Rattle.il_base.specs.world_model.Tokens.{index_in}
use Rattle.il_base.specs.world_model.Worlds.{rows_before, types_in, type_id, core_types, prim_type, is_code_of}
use Rattle.il_base.specs.declared.core_table.names.CoreName.{CoreName}
use Rattle.il_base.specs.declared.core_table.shape.CoreType.{CoreType}
use Rattle.il_base.specs.declared.core_table.types.TheConstants.{TYPES}
use Rattle.il_base.specs.declared.core_table.tokens.TheConstants.{ARRAY}
use Rattle.il_base.specs.core_table.Kinds.{core_row, owned, member_in}
use Rattle.il_base.specs.core_table.Members.{methods_of}
use Rattle.il_base.specs.core_table.Record.{core_record, record_with, type_rows, method_row, method_rows, all_methods}
use Rattle.rules.specs.declared.link_rules.row_at.RowAt.{RowAt}
use Rattle.rules.specs.link_rules.Types.{at_row}
use Rattle.rules.specs.link_rules.CoreNames.{added_row}
use Rattle.rules.specs.link_rules.Members.{home_from, array_type, methods_in}
use Rattle.rules.specs.merge_rules.Numbers.{kept_types, kept_methods}
use Rattle.il_base.specs.declared.cil_values.core_call.CoreCall.{CoreCall}
use Rattle.rules.specs.view_rules.Members.{core_call, call_of, core_type_row, is_type_named, is_name, names_of, object_method}
use Rattle.rules.specs.view_rules.Answers.{core_type_id, core_method_id}
use Rattle.rules.specs.change_rules.Change.{Keep, Undone}
use Rattle.rules.specs.change_rules.Moves.{move_type}
use Rattle.rules.specs.world_change_rules.Places.{type_numbered}
use Rattle.rules.specs.world_change_rules.Rows.{CoreMoves}
use Rattle.run_laws.proofs.lemmas.query_laws.Prims.{prim_first}
use Rattle.rules.specs.merged_world_rules.Merge.{Merge, IsMerge, before, after, names_before, names_after}
use Rattle.rules.specs.merged_world_rules.Numbering.{in_inputs, in_all, number_at}
use Rattle.rules.specs.merged_world_rules.NewNumbers.{type_core, method_core, rho_of, back_of, change_of}
use Rattle.rules.specs.merged_world_rules.Kept.{HasFlags}
use Rattle.merge_laws.proofs.lemmas.merged_places.Rows.{IsThere, place_within, home_there, home_number, none_past, input_below, core_number, all_is}
use Rattle.merge_laws.proofs.lemmas.merged_places.Numbers.{new_of, new_kept, new_core, new_none, rank_below}
use Rattle.merge_laws.proofs.lemmas.merged_places.Worlds.{core_of, left_core, before_is, after_is, before_length, before_core, before_types, left_types, before_methods}
use Rattle.merge_laws.proofs.lemmas.merged_places.CoreRows.{same_goes, own_goes}
use Rattle.merge_laws.proofs.lemmas.merged_places.Tables.{number_type, number_method, type_rows as kept_type_rows, method_rows as kept_method_rows, types_counted, methods_counted, method_goes}
use Rattle.merge_laws.proofs.lemmas.merged_places.Whole.{method_stays}

-- ---- the table of the core library

below_by : (n l k : ℕ) (b : Bool) → nat_lt n l ≡ b → (if b then Some n else None) ≡ Some k → k < l
below_by n l k true h e = let same : n ≡ k = cc in subst (λ (m : ℕ). m < l) same (ltb-true n l h)
below_by n l k false h e = absurd (cc)

found_at : {A : Type 0} (p : A → Bool) (xs : List A) (k : ℕ) → position p xs ≡ Some k → k < length xs
found_at p xs k e = below_by (position_or_len p xs) (length xs) k (nat_lt (position_or_len p xs) (length xs)) refl e

found_below : (l : ℕ) (o : Option ℕ) → 0 < l → ((k : ℕ) → o ≡ Some k → k < l) → unwrap_or o 0 < l
found_below l None some h = some
found_below l (Some k) some h = h k refl

position_below : {A : Type 0} (p : A → Bool) (xs : List A) → 0 < length xs → unwrap_or (position p xs) 0 < length xs
position_below p xs some = found_below (length xs) (position p xs) some (λ k e. found_at p xs k e)

pub type_count : length core_record.type_def ≡ length TYPES
unfolding core_record record_with type_rows
type_count = refl

pub type_row_below : (n : CoreName) → core_type_row n < length core_record.type_def
unfolding core_type_row
type_row_below n = let lt = position_below (is_type_named n) TYPES (omega arith) in let same = type_count in omega (arith, lt, same)

method_count : length core_record.method_def ≡ length (flat_map names_of TYPES)
unfolding core_record record_with all_methods method_row methods_of
method_count = refl

some_methods : nat_lt 0 (length (flat_map names_of TYPES)) ≡ true
unfolding methods_of
some_methods = refl

method_below : (n : CoreName) → object_method n < length core_record.method_def
unfolding object_method
method_below n = let lt = position_below (is_name n) (flat_map names_of TYPES) (ltb-true 0 (length (flat_map names_of TYPES)) some_methods) in let same = method_count in omega (arith, lt, same)

array_index : index_in TYPE_DEF ARRAY ≡ Some 21
array_index = refl

array_test : nat_lt 21 (length core_record.type_def) ≡ true
unfolding core_record record_with type_rows
array_test = refl

array_below : 21 < length core_record.type_def
array_below = ltb-true 21 (length core_record.type_def) array_test

-- no member stands after the last
member_past : (ts : List CoreType) (at : ℕ) → length (all_methods ts) ≤ at → member_in ts at ≡ None
unfolding all_methods member_in
member_past [] at le = refl
member_past (t ∷ ts) at le =
    let split = length-append (method_rows (methods_of t.members)) (all_methods ts) in
    let long = length-map (methods_of t.members) method_row in
    let whole : length (method_rows (methods_of t.members) ++ all_methods ts) ≤ at = le in
    ap (λ (b : Bool). if b then owned t.name (slice_get (methods_of t.members) at) else member_in ts (at - length (methods_of t.members))) (le-ltb at (length (methods_of t.members)) (omega (arith, split, long, whole)))
    ∙ member_past ts (at - length (methods_of t.members)) (omega (arith, split, long, whole))

record_methods : length core_record.method_def ≡ length (all_methods TYPES)
unfolding core_record record_with
record_methods = refl

-- ---- the last assembly

types_behind : (xs : List AsmRec) (c : AsmRec) → core_types (xs ++ c ∷ []) ≡ c.type_def
unfolding core_types
types_behind [] c = refl
types_behind (x ∷ []) c = refl
types_behind (x ∷ y ∷ xs) c = types_behind (y ∷ xs) c

-- a method by its number: of an input, or of the core library
row_low : (xs : List AsmRec) (c : AsmRec) (n : ℕ) → n < rows_before methods_in (xs ++ c ∷ []) (length xs) → core_row (xs ++ c ∷ []) n ≡ None
unfolding core_row rows_before
row_low [] c n lt = let z : n < 0 = lt in absurd (omega (arith, z))
row_low (x ∷ []) c n lt =
    let z : n < length x.method_def + 0 = lt in
    ap (λ (b : Bool). if b then None else Some (n - length x.method_def)) (lt-ltb n (length x.method_def) (omega (arith, z)))
row_low (x ∷ y ∷ xs) c n lt =
    let z : n < length x.method_def + rows_before methods_in (y ∷ xs ++ c ∷ []) (suc (length xs)) = lt in
    by_case (cases_lt n (length x.method_def)) (λ ge. let less : n - length x.method_def < rows_before methods_in (y ∷ xs ++ c ∷ []) (suc (length xs)) = omega (arith, ge, z) in row_low (y ∷ xs) c (n - length x.method_def) less)
  where
    by_case : (n < length x.method_def) ⊎ (length x.method_def ≤ n) → (length x.method_def ≤ n → core_row (y ∷ xs ++ c ∷ []) (n - length x.method_def) ≡ None)
        → (if nat_lt n (length x.method_def) then None else core_row (y ∷ xs ++ c ∷ []) (n - length x.method_def)) ≡ None
    by_case (inl l) more = ap (λ (b : Bool). if b then None else core_row (y ∷ xs ++ c ∷ []) (n - length x.method_def)) (lt-ltb n (length x.method_def) l)
    by_case (inr g) more = ap (λ (b : Bool). if b then None else core_row (y ∷ xs ++ c ∷ []) (n - length x.method_def)) (le-ltb n (length x.method_def) g) ∙ more g

row_high : (xs : List AsmRec) (c : AsmRec) (n : ℕ) → rows_before methods_in (xs ++ c ∷ []) (length xs) ≤ n → core_row (xs ++ c ∷ []) n ≡ Some (n - rows_before methods_in (xs ++ c ∷ []) (length xs))
unfolding core_row rows_before
row_high [] c n ge = let z : n ≡ n - 0 = omega arith in ap Some z
row_high (x ∷ []) c n ge =
    let z : length x.method_def + 0 ≤ n = ge in
    let less : n - length x.method_def ≡ n - (length x.method_def + 0) = omega arith in
    ap (λ (b : Bool). if b then None else Some (n - length x.method_def)) (le-ltb n (length x.method_def) (omega (arith, z))) ∙ ap Some less
row_high (x ∷ y ∷ xs) c n ge =
    let z : length x.method_def + rows_before methods_in (y ∷ xs ++ c ∷ []) (suc (length xs)) ≤ n = ge in
    let rest : rows_before methods_in (y ∷ xs ++ c ∷ []) (suc (length xs)) ≤ n - length x.method_def = omega (arith, z) in
    let less : n - length x.method_def - rows_before methods_in (y ∷ xs ++ c ∷ []) (suc (length xs)) ≡ n - (length x.method_def + rows_before methods_in (y ∷ xs ++ c ∷ []) (suc (length xs))) = omega arith in
    ap (λ (b : Bool). if b then None else core_row (y ∷ xs ++ c ∷ []) (n - length x.method_def)) (le-ltb n (length x.method_def) (omega (arith, z)))
    ∙ row_high (y ∷ xs) c (n - length x.method_def) rest ∙ ap Some less

-- ---- in a merge

module _ (m : Merge) (is : IsMerge m) where
  methods_same : methods_in (core_of m) ≡ length core_record.method_def
  methods_same = ap length (before_methods m)

  pub types_before : core_types (before m) ≡ core_record.type_def ++ map (added_row core_record) (names_before m)
  types_before = ap core_types (before_is m) ∙ types_behind m.inputs (core_of m) ∙ before_types m

  pub types_after : core_types (after m) ≡ core_record.type_def ++ map (added_row core_record) (names_after m)
  types_after = ap core_types (after_is m) ∙ types_behind (m.left ∷ []) (left_core m) ∙ left_types m

  pub types_more : length core_record.type_def ≤ types_in (core_of m)
  types_more = let long = ap length (before_types m) ∙ length-append core_record.type_def (map (added_row core_record) (names_before m)) in omega (arith, long)

  -- ---- places after the rows of inputs

  pub last_before : length (before m) - 1 ≡ length m.inputs
  last_before = let long = before_length m in omega (arith, long)

  last_there : slice_get (before m) (length (before m) - 1) ≡ Some (core_of m)
  last_there = ap (slice_get (before m)) last_before ∙ before_core m

  one_row : (count : AsmRec → ℕ) (l c : AsmRec) → rows_before count (l ∷ c ∷ []) 1 ≡ count l
  unfolding rows_before
  one_row count l c = omega arith

  first_rows : (count : AsmRec → ℕ) → in_inputs count (after m) ≡ count m.left
  first_rows count =
      let one : length (after m) - 1 ≡ 1 = ap (λ (recs : List AsmRec). length recs - 1) (after_is m) in
      ap (rows_before count (after m)) one ∙ ap (λ (recs : List AsmRec). rows_before count recs 1) (after_is m) ∙ one_row count m.left (left_core m)

  -- ---- types

  core_type_there : (r : ℕ) → r < length core_record.type_def → IsThere types_in (before m) (at_row (length (before m) - 1) r)
  core_type_there r lt = let more = types_more in record { rec = core_of m; here = last_there; below = omega (arith, lt, more) }

  pub type_moved : (r : ℕ) → r < length core_record.type_def → (type_id (after m) (length (after m) - 1) r).0 ≡ (rho_of m).typ (type_id (before m) (length (before m) - 1) r).0
  unfolding kept_types
  type_moved r lt =
      let long = before_length m in
      let e = new_core types_in (type_core m) (before m) number_type m.kept (at_row (length (before m) - 1) r) r (core_type_there r lt) (omega (arith, long))
      (own_goes (length core_record.type_def) (names_before m) (names_after m) r lt) in
      let f = first_rows types_in in
      let g = types_counted m is in
      let here : in_inputs types_in (after m) + r ≡ length (kept_type_rows m is) + r = omega (arith, f, g) in
      here ∙ sym e

  core_types_move : (n : CoreName) → core_type_id (after m) n ≡ (rho_of m).typ (core_type_id (before m) n)
  core_types_move n = type_moved (core_type_row n) (type_row_below n)

  typed_by : (o : Option ℕ) → ((r : ℕ) → o ≡ Some r → r < length core_record.type_def)
      → option_map (λ (r : ℕ). type_id (after m) (length (after m) - 1) r) o ≡ option_map (move_type (rho_of m)) (option_map (λ (r : ℕ). type_id (before m) (length (before m) - 1) r) o)
  typed_by None h = refl
  typed_by (Some r) h = ap (λ (n : ℕ). Some (type_numbered n)) (type_moved r (h r refl))

  prims_move : (n : ℕ) → prim_type (after m) n ≡ option_map (move_type (rho_of m)) (prim_type (before m) n)
  unfolding prim_type
  prims_move n =
      ap (option_map (λ (r : ℕ). type_id (after m) (length (after m) - 1) r)) (ap (position (is_code_of n)) types_after ∙ prim_first n (map (added_row core_record) (names_after m)))
      ∙ typed_by (position (is_code_of n) core_record.type_def) (λ r e. found_at (is_code_of n) core_record.type_def r e)
      ∙ sym (ap (λ (o : Option ℕ). option_map (move_type (rho_of m)) (option_map (λ (r : ℕ). type_id (before m) (length (before m) - 1) r) o))
      (ap (position (is_code_of n)) types_before ∙ prim_first n (map (added_row core_record) (names_before m))))

  array_moves : array_type (after m) ≡ option_map (move_type (rho_of m)) (array_type (before m))
  array_moves = typed_by (Some 21) (λ r e. let same : 21 ≡ r = cc in let lt = array_below in omega (arith, same, lt))

  -- ---- methods

  core_methods_move : (n : CoreName) → core_method_id (after m) n ≡ (rho_of m).method (core_method_id (before m) n)
  unfolding kept_methods
  core_methods_move n =
      let long = before_length m in
      let lt = method_below n in
      let more = methods_same in
      let there : IsThere methods_in (before m) (at_row (length (before m) - 1) (object_method n)) = record { rec = core_of m; here = last_there; below = omega (arith, lt, more) } in
      let e = new_core methods_in method_core (before m) number_method m.kept (at_row (length (before m) - 1) (object_method n)) (object_method n) there (omega (arith, long))
      (same_goes (length core_record.method_def) (object_method n) lt) in
      let f = first_rows methods_in in
      let g = methods_counted m is in
      let here : in_inputs methods_in (after m) + object_method n ≡ length (kept_method_rows m is) + object_method n = omega (arith, f, g) in
      here ∙ sym e

  -- ---- what a method of the core library does

  bound_before : rows_before methods_in (m.inputs ++ core_of m ∷ []) (length m.inputs) ≡ in_inputs methods_in (before m)
  bound_before = ap (λ (recs : List AsmRec). rows_before methods_in recs (length m.inputs)) (sym (before_is m)) ∙ ap (rows_before methods_in (before m)) (sym last_before)

  before_low : (n : ℕ) → n < in_inputs methods_in (before m) → core_row (before m) n ≡ None
  before_low n lt = let b = bound_before in ap (λ (recs : List AsmRec). core_row recs n) (before_is m) ∙ row_low m.inputs (core_of m) n (omega (arith, lt, b))

  before_high : (n : ℕ) → in_inputs methods_in (before m) ≤ n → core_row (before m) n ≡ Some (n - in_inputs methods_in (before m))
  before_high n ge =
      let b = bound_before in
      ap (λ (recs : List AsmRec). core_row recs n) (before_is m) ∙ row_high m.inputs (core_of m) n (omega (arith, ge, b)) ∙ ap (λ (k : ℕ). Some (n - k)) b

  bound_after : rows_before methods_in (m.left ∷ left_core m ∷ []) 1 ≡ length (kept_method_rows m is)
  bound_after = one_row methods_in m.left (left_core m) ∙ methods_counted m is

  after_low : (n : ℕ) → n < length (kept_method_rows m is) → core_row (after m) n ≡ None
  after_low n lt =
      let b = bound_after in
      let less : n < rows_before methods_in (m.left ∷ left_core m ∷ []) 1 = omega (arith, lt, b) in
      ap (λ (recs : List AsmRec). core_row recs n) (after_is m) ∙ row_low (m.left ∷ []) (left_core m) n less

  after_high : (n : ℕ) → length (kept_method_rows m is) ≤ n → core_row (after m) n ≡ Some (n - length (kept_method_rows m is))
  after_high n ge =
      let b = bound_after in
      let more : rows_before methods_in (m.left ∷ left_core m ∷ []) 1 ≤ n = omega (arith, ge, b) in
      ap (λ (recs : List AsmRec). core_row recs n) (after_is m) ∙ row_high (m.left ∷ []) (left_core m) n more ∙ ap (λ (k : ℕ). Some (n - k)) b

  abbrev called : Option ℕ → Option CoreCall
  called o = option_and_then call_of (option_and_then (member_in TYPES) o)

  past_is : (r : ℕ) → length core_record.method_def ≤ r → member_in TYPES r ≡ None
  past_is r le = let b = record_methods in member_past TYPES r (omega (arith, le, b))

  before_all : in_all methods_in (before m) ≡ in_inputs methods_in (before m) + methods_in (core_of m)
  before_all = subst (λ (recs : List AsmRec). in_all methods_in recs ≡ in_inputs methods_in recs + methods_in (core_of m)) (sym (before_is m)) (all_is methods_in m.inputs (core_of m))

  module _ (k : Keep) (kept : RowAt → Bool) (flags : HasFlags m k kept) where
    -- of a row that is there
    called_there : (n : ℕ) (at : RowAt) → home_from methods_in 0 (before m) n ≡ Some at → IsTrue (k.method n) → (suc at.asm < length (before m)) ⊎ (length (before m) ≤ suc at.asm)
        → core_row (after m) (new_of methods_in method_core (before m) number_method m.kept n) ≡ core_row (before m) n
    called_there n at e h (inl lt) =
        let there = home_there methods_in (before m) n at e in
        let number = home_number methods_in (before m) n at e in
        let keeps = (method_stays m is k kept flags at (subst (λ (i : ℕ). IsTrue (k.method i)) (sym number) h) there).0 lt in
        let low = input_below methods_in (before m) at there lt in
        let rank_low = rank_below methods_in (before m) number_method m.kept (number_at methods_in (before m) at) low keeps in
        let new = new_kept methods_in method_core (before m) number_method m.kept at there lt keeps in
        ap (λ (i : ℕ). core_row (after m) (new_of methods_in method_core (before m) number_method m.kept i)) (sym number)
        ∙ ap (core_row (after m)) new ∙ after_low _ rank_low ∙ sym (before_low n (omega (arith, low, number)))
    called_there n at e h (inr ge) =
        let there = home_there methods_in (before m) n at e in
        let number = home_number methods_in (before m) n at e in
        let asm = place_within (before m) at.asm there.rec there.here in
        let last : suc at.asm ≡ length (before m) = omega (arith, asm, ge) in
        let new = new_core methods_in method_core (before m) number_method m.kept at at.row there last (method_goes m at there last) in
        let old = core_number methods_in (before m) at last in
        let up : length (kept_method_rows m is) + at.row - length (kept_method_rows m is) ≡ n - in_inputs methods_in (before m) = omega (arith, number, old) in
        ap (λ (i : ℕ). core_row (after m) (new_of methods_in method_core (before m) number_method m.kept i)) (sym number)
        ∙ ap (core_row (after m)) new ∙ after_high (length (kept_method_rows m is) + at.row) (omega arith)
        ∙ ap Some up ∙ sym (before_high n (omega (arith, number, old)))

    call_by : (n : ℕ) (o : Option RowAt) → home_from methods_in 0 (before m) n ≡ o → IsTrue (k.method n)
        → called (core_row (after m) (new_of methods_in method_core (before m) number_method m.kept n)) ≡ called (core_row (before m) n)
    call_by n None e h =
        let past = none_past methods_in (before m) n e in
        let all = before_all in
        let count = methods_same in
        let new = new_none methods_in method_core (before m) number_method m.kept n e in
        ap (λ (i : ℕ). called (core_row (after m) i)) new
        ∙ ap called (after_high (length (kept_method_rows m is) + length core_record.method_def + n) (omega arith))
        ∙ ap (option_and_then call_of) (past_is (length (kept_method_rows m is) + length core_record.method_def + n - length (kept_method_rows m is)) (omega arith))
        ∙ sym (ap called (before_high n (omega (arith, past, all))) ∙ ap (option_and_then call_of) (past_is (n - in_inputs methods_in (before m)) (omega (arith, past, all, count))))
    call_by n (Some at) e h = ap called (called_there n at e h (cases_lt (suc at.asm) (length (before m))))

    calls_move : (n : ℕ) → IsTrue (k.method n) → core_call (after m) ((rho_of m).method n) ≡ core_call (before m) n
    unfolding kept_methods core_call
    calls_move n h = call_by n (home_from methods_in 0 (before m) n) refl h

    pub core_moves : (undone : Undone (back_of m) (rho_of m)) → CoreMoves (change_of m undone k) (after m) (before m)
    core_moves undone = record { calls = calls_move; types = core_types_move; methods = core_methods_move; prims = prims_move; array = array_moves }
