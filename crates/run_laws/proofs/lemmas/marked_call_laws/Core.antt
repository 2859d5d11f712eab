-- From a type of the core library a search finds only what the core library has: its bases are there.
use Rattle.std.proofs.Common.{◌≡◌, ℕ, zero, suc, ◌+◌, ◌-◌, ◌<◌, Bool, true, false, cond, ◌&&◌, List, [], ◌∷◌, ◌++◌, map, length, Option, Some, None, nat_lt, refl, sym, ap, subst, ◌∙◌, arith}
use Rattle.std.specs.Prelude.{slice_get, position, not, ◌==◌, ◌||◌, if◌then◌else◌}
use Rattle.std.specs.List.{list_all, list_any, position_or_len}
use Rattle.std.specs.Option.{option_map, option_and_then}
use Rattle.std.proofs.lemmas.Bool.{lt-ltb, ltb-true, eq-eqb, and_parts, and_from, or_right}
use Rattle.std.proofs.lemmas.List.{length-append}
use Rattle.std.proofs.lemmas.List.Folds.{list_all-append}
use Rattle.il_base.specs.declared.ids.TypeId.{TypeId}
use Rattle.il_base.specs.declared.world_model.expr.TypeExpr.{TypeExpr}
use Rattle.il_base.specs.declared.world_model.expr.TypeExpr.TheOpen.{TypeExpr-F}
use Rattle.il_base.specs.declared.world_model.expr.TypeExpr.TheVariants as expr
use Rattle.il_base.specs.declared.world_model.types.TypeDefRow.{TypeDefRow}
use Rattle.il_base.specs.declared.world_model.record.AsmRec.{AsmRec}
use Rattle.il_base.specs.world_model.Core.{is_code}
use Rattle.il_base.specs.world_model.Tokens.{index_in}
use Rattle.il_base.specs.world_model.Worlds.{types_in, row_below, type_id, core_types, prim_of, prims, prim_type, is_code_of}
use Rattle.il_base.specs.core_table.Names.{text_of}
use Rattle.il_base.specs.core_table.Record.{core_record, record_with, type_rows, type_row}
use Rattle.rules.specs.declared.link_rules.row_at.RowAt.{RowAt}
use Rattle.rules.specs.declared.link_rules.core_type_name.CoreTypeName.{CoreTypeName}
use Rattle.rules.specs.link_rules.CoreNames.{missing_names, added_row, core_with}
use Rattle.rules.specs.link_rules.Types.{at_row, ref_definition, definition_at}
use Rattle.rules.specs.link_rules.Signatures.{prim_at, definition_expr, known_expr, named_type, spec_type_at, token_type}
use Rattle.rules.specs.link_rules.Members.{type_home, is_named, only_named, good_type, is_interface_row, base_in, base_at, bases_from}
use Rattle.rules.specs.link_rules.Cycles.{listed, home_of, is_interface_at, is_interface}
use Rattle.rules.specs.link_rules.Linked.{assemblies, link_fault_of}
use Rattle.base_laws.proofs.lemmas.type_laws.Within.{In}
use Rattle.base_laws.proofs.lemmas.type_laws.Upwards.{owner_as}
use Rattle.base_laws.proofs.lemmas.type_laws.CoreRows.{BaseAt, base_at_row}
use Rattle.base_laws.proofs.lemmas.type_laws.Places.{home_at, place_within}
use Rattle.run_laws.proofs.lemmas.marked_call_laws.Bases.{Holds, bases_hold}

last_is : {A : Type 0} (xs : List A) (x : A) → slice_get (xs ++ x ∷ []) (length xs) ≡ Some x
last_is [] x = refl
last_is (y ∷ xs) x = last_is xs x

core_types_are : (recs : List AsmRec) (core : AsmRec) → core_types (recs ++ core ∷ []) ≡ core.type_def
unfolding core_types
core_types_are [] core = refl
core_types_are (r ∷ []) core = refl
core_types_are (r ∷ s ∷ recs) core = core_types_are (s ∷ recs) core

named_same : (x e : TypeExpr) (b : Bool) → (if b then Some x else None) ≡ Some e → x ≡ e
named_same x e true is = cc
named_same x e false is = cc

module _ (inputs : List AsmRec) (names : List CoreTypeName) where
  abbrev core : AsmRec
  core = core_with core_record names

  abbrev recs : List AsmRec
  recs = inputs ++ core ∷ []

  abbrev last : ℕ
  last = length inputs

  long : length recs ≡ suc last
  long = length-append inputs (core ∷ []) ∙ omega arith

  core_is : slice_get recs last ≡ Some core
  core_is = last_is inputs core

  -- ---- the definition of a type

  core_home : (k : ℕ) (row : TypeDefRow) → slice_get core.type_def k ≡ Some row → type_home recs (type_id recs last k) ≡ Some (at_row last k)
  core_home k row e = home_at recs 0 last k core core_is (place_within core.type_def k row e) ∙ ap (λ (a : ℕ). Some (at_row a k)) (omega arith)

  prim_home : (n j : ℕ) (row : TypeDefRow) → slice_get core.type_def j ≡ Some row → position (is_code_of n) core.type_def ≡ Some j → home_of recs (expr.Prim n) ≡ Some (at_row last j)
  unfolding prim_type
  prim_home n j row e f =
      let one : length recs - 1 ≡ last = omega (arith, long) in
      ap (option_and_then (type_home recs)) (
      owner_as recs [] (TypeExpr-F.Prim n) (expr.Prim n) (expr.rolls-Prim n)
      ∙ ap (λ (rows : List TypeDefRow). option_map (λ k. type_id recs (length recs - 1) k) (position (is_code_of n) rows)) (core_types_are inputs core)
      ∙ ap (option_map (λ k. type_id recs (length recs - 1) k)) f
      ∙ ap (λ (a : ℕ). Some (type_id recs a j)) one
      ) ∙ core_home j row e

  def_home : (j : ℕ) (row : TypeDefRow) → slice_get core.type_def j ≡ Some row → home_of recs (expr.Def (type_id recs last j)) ≡ Some (at_row last j)
  def_home j row e =
      ap (option_and_then (type_home recs)) (owner_as recs [] (TypeExpr-F.Def (type_id recs last j)) (expr.Def (type_id recs last j)) (expr.rolls-Def (type_id recs last j)))
      ∙ core_home j row e

  home_by : (j : ℕ) (row : TypeDefRow) (o : Option ℕ) → slice_get core.type_def j ≡ Some row → ((n : ℕ) → o ≡ Some n → position (is_code_of n) core.type_def ≡ Some j)
      → home_of recs (elim o [ Some n ↦ expr.Prim n | None ↦ expr.Def (type_id recs last j) ]) ≡ Some (at_row last j)
  home_by j row None e first = def_home j row e
  home_by j row (Some n) e first = prim_home n j row e (first n refl)

  prim_is : (j : ℕ) (row : TypeDefRow) → slice_get core.type_def j ≡ Some row → prim_at recs (at_row last j) ≡ prim_of row
  prim_is j row e =
      let same : (suc last == length recs) ≡ true = eq-eqb (suc last) (length recs) (sym long) in
      ap (λ (b : Bool). if b then option_and_then prim_of (slice_get (core_types recs) j) else None) same
      ∙ ap (λ (rows : List TypeDefRow). option_and_then prim_of (slice_get rows j)) (core_types_are inputs core)
      ∙ ap (option_and_then prim_of) e

  definition_home : (j : ℕ) (row : TypeDefRow) → slice_get core.type_def j ≡ Some row → ((n : ℕ) → prim_of row ≡ Some n → position (is_code_of n) core.type_def ≡ Some j)
      → home_of recs (definition_expr recs (at_row last j)) ≡ Some (at_row last j)
  unfolding definition_expr
  definition_home j row e first =
      ap (λ (o : Option ℕ). home_of recs (elim o [ Some n ↦ expr.Prim n | None ↦ expr.Def (type_id recs last j) ])) (prim_is j row e)
      ∙ home_by j row (prim_of row) e first

  -- ---- the base

  token_is : (token : ℕ) (b : BaseAt core.type_def token) → token_type recs last core token ≡ known_expr recs (Some (at_row last b.index))
  unfolding token_type named_type definition_at
  token_is token b =
      let below : nat_lt b.index (length core.type_def) ≡ true = lt-ltb b.index (length core.type_def) (place_within core.type_def b.index b.row b.there) in
      ap (λ t. if t == 0x1b then spec_type_at recs last core (option_and_then (slice_get core.type_spec) (index_in 0x1b token)) else known_expr recs
      (if t == 0x02 then option_map (at_row last) (row_below (types_in core) (index_in 0x02 token)) else option_and_then (ref_definition recs last core) (index_in 0x01 token))) b.table
      ∙ ap (λ o. known_expr recs (option_map (at_row last) (row_below (types_in core) o))) b.is_index
      ∙ ap (λ t. known_expr recs (option_map (at_row last) (if t then Some b.index else None))) below

  good_base : (token : ℕ) (o : Option TypeExpr) (e : TypeExpr) → o ≡ good_type (token_type recs last core token) → only_named o ≡ Some e → good_type (token_type recs last core token) ≡ Some e
  good_base token None e from is = cc
  good_base token (Some x) e from is = sym from ∙ ap (λ (y : TypeExpr). Some y) (named_same x e (is_named x) is)

  base_there : (k : ℕ) (row : TypeDefRow) (e : TypeExpr) (to : RowAt) (z i : Bool) → slice_get core.type_def k ≡ Some row → (row.extends == 0) ≡ z
      → (if z || i then None else only_named (good_type (token_type recs last core row.extends))) ≡ Some e → home_of recs e ≡ Some to → last ≡ to.asm
  base_there k row e to true i at z is home = cc
  base_there k row e to false true at z is home = cc
  base_there k row e to false false at z is home =
      let b = base_at_row names k row at z in
      let f : Some (definition_expr recs (at_row last b.index)) ≡ Some e = sym (ap good_type (token_is row.extends b)) ∙ good_base row.extends (good_type (token_type recs last core row.extends)) e refl is in
      let g : definition_expr recs (at_row last b.index) ≡ e = cc in
      let h : Some (at_row last b.index) ≡ Some to = sym (definition_home b.index b.row b.there b.first) ∙ ap (home_of recs) g ∙ home in
      let same : at_row last b.index ≡ to = cc in
      ap (λ (x : RowAt). x.asm) same

  row_there : (k : ℕ) (o : Option TypeDefRow) (e : TypeExpr) (to : RowAt) → slice_get core.type_def k ≡ o → option_and_then (base_in recs last core) o ≡ Some e → home_of recs e ≡ Some to → last ≡ to.asm
  row_there k None e to at is home = cc
  row_there k (Some row) e to at is home = base_there k row e to (row.extends == 0) (is_interface_row row) at refl is home

  base_by : (k : ℕ) (e : TypeExpr) (to : RowAt) → base_at recs (at_row last k) ≡ Some e → home_of recs e ≡ Some to → last ≡ to.asm
  base_by k e to is home =
      let f : base_at recs (at_row last k) ≡ option_and_then (base_in recs last core) (slice_get core.type_def k) =
      ap (option_and_then (λ (rec : AsmRec). option_and_then (base_in recs last rec) (slice_get rec.type_def k))) core_is in
      row_there k (slice_get core.type_def k) e to refl (sym f ∙ is) home

  base_last : (x to : RowAt) (e : TypeExpr) → suc x.asm ≡ length recs → base_at recs x ≡ Some e → home_of recs e ≡ Some to → suc to.asm ≡ length recs
  base_last x to e is at home =
      let same : last ≡ x.asm = omega (arith, long, is) in
      let row : x ≡ at_row last x.row = λ i. at_row (sym same i) x.row in
      let there : last ≡ to.asm = base_by x.row e to (ap (base_at recs) (sym row) ∙ at) home in
      omega (arith, long, there)

-- ---- primitives are classes

abbrev is_no_prim : Option ℕ → Bool
is_no_prim None = true
is_no_prim (Some n) = false

abbrev is_right : TypeDefRow → Bool
is_right row = is_no_prim (prim_of row) || not (is_interface_row row)

all_right : list_all is_right core_record.type_def ≡ true
unfolding core_record record_with type_rows type_row text_of prim_of prims
all_right = refl

added_right : (names : List CoreTypeName) → list_all is_right (map (added_row core_record) names) ≡ true
added_right [] = refl
added_right (x ∷ names) =
    and_from (is_right (added_row core_record x)) (list_all is_right (map (added_row core_record) names)) (or_right (is_no_prim (prim_of (added_row core_record x))) true refl) (added_right names)

rows_right : (names : List CoreTypeName) → list_all is_right (core_with core_record names).type_def ≡ true
unfolding core_with
rows_right names =
    list_all-append is_right core_record.type_def (map (added_row core_record) names) ∙ (λ i. all_right i && added_right names i)

prefix_by : (p : TypeDefRow → Bool) (x : TypeDefRow) (xs : List TypeDefRow) (b : Bool) → p x ≡ b
    → (nat_lt (position_or_len p xs) (length xs) ≡ true → (y : TypeDefRow) × (slice_get xs (position_or_len p xs) ≡ Some y) × (p y ≡ true))
    → nat_lt (cond (not b) (1 + position_or_len p xs) 0) (length (x ∷ xs)) ≡ true → (y : TypeDefRow) × (slice_get (x ∷ xs) (cond (not b) (1 + position_or_len p xs) 0) ≡ Some y) × (p y ≡ true)
prefix_by p x xs true e more h = (x, refl, e)
prefix_by p x xs false e more h =
    let lt : 1 + position_or_len p xs < suc (length xs) = ltb-true (1 + position_or_len p xs) (length (x ∷ xs)) h in
    let m = more (lt-ltb (position_or_len p xs) (length xs) (omega (arith, lt))) in
    let n : 1 + position_or_len p xs ≡ suc (position_or_len p xs) = omega arith in
    (m.0, ap (slice_get (x ∷ xs)) n ∙ m.1, m.2)

first_is : (p : TypeDefRow → Bool) (xs : List TypeDefRow) → nat_lt (position_or_len p xs) (length xs) ≡ true → (y : TypeDefRow) × (slice_get xs (position_or_len p xs) ≡ Some y) × (p y ≡ true)
first_is p [] h = absurd (cc)
first_is p (x ∷ xs) h = prefix_by p x xs (p x) refl (first_is p xs) h

position_by : (p : TypeDefRow → Bool) (xs : List TypeDefRow) (k : ℕ) (b : Bool) → nat_lt (position_or_len p xs) (length xs) ≡ b → (if b then Some (position_or_len p xs) else None) ≡ Some k → (y : TypeDefRow) × (slice_get xs k ≡ Some y) × (p y ≡ true)
position_by p xs k true lt e =
    let same : position_or_len p xs ≡ k = cc in
    subst (λ (n : ℕ). (y : TypeDefRow) × (slice_get xs n ≡ Some y) × (p y ≡ true)) same (first_is p xs lt)
position_by p xs k false lt e = absurd (cc)

position_is : (p : TypeDefRow → Bool) (xs : List TypeDefRow) (k : ℕ) → position p xs ≡ Some k → (y : TypeDefRow) × (slice_get xs k ≡ Some y) × (p y ≡ true)
position_is p xs k e = position_by p xs k (nat_lt (position_or_len p xs) (length xs)) refl e

all_at : (p : TypeDefRow → Bool) (xs : List TypeDefRow) (k : ℕ) (x : TypeDefRow) → list_all p xs ≡ true → slice_get xs k ≡ Some x → p x ≡ true
all_at p [] k x h e = cc
all_at p (y ∷ xs) zero x h e = let same : y ≡ x = cc in ap p (sym same) ∙ (and_parts (p y) (list_all p xs) h).0
all_at p (y ∷ xs) (suc k) x h e = all_at p xs k x (and_parts (p y) (list_all p xs) h).1 e

class_by : (n : ℕ) (o : Option ℕ) (b : Bool) → is_code n o ≡ true → (is_no_prim o || not b) ≡ true → b ≡ false
class_by n None b c h = absurd (cc)
class_by n (Some m) true c h = absurd (cc)
class_by n (Some m) false c h = refl

module _ (inputs : List AsmRec) (names : List CoreTypeName) where
  abbrev row_of_prim : ℕ → Option ℕ
  row_of_prim n = position (is_code_of n) (core_with core_record names).type_def

  prim_class_by : (n : ℕ) (o : Option ℕ) → row_of_prim n ≡ o → is_interface (inputs ++ core_with core_record names ∷ []) (expr.Prim n) ≡ false
  unfolding is_interface prim_type
  prim_class_by n None e =
      ap (λ (o : Option TypeId). list_any (is_interface_at (recs inputs names)) (listed (option_and_then (type_home (recs inputs names)) o)))
      (owner_as (recs inputs names) [] (TypeExpr-F.Prim n) (expr.Prim n) (expr.rolls-Prim n)
      ∙ ap (λ (rows : List TypeDefRow). option_map (λ k. type_id (recs inputs names) (length (recs inputs names) - 1) k) (position (is_code_of n) rows)) (core_types_are inputs (core inputs names))
      ∙ ap (option_map (λ k. type_id (recs inputs names) (length (recs inputs names) - 1) k)) e)
  prim_class_by n (Some j) e =
      let r = position_is (is_code_of n) (core inputs names).type_def j e in
      let class : is_interface_row r.0 ≡ false = class_by n (prim_of r.0) (is_interface_row r.0) r.2 (all_at is_right (core inputs names).type_def j r.0 (rows_right names) r.1) in
      ap (λ (o : Option RowAt). list_any (is_interface_at (recs inputs names)) (listed o)) (prim_home inputs names n j r.0 r.1 e)
      ∙ ap (λ (o : Option AsmRec). list_any (λ (rec : AsmRec). list_any is_interface_row (listed (slice_get rec.type_def j))) (listed o) || false) (core_is inputs names)
      ∙ ap (λ (o : Option TypeDefRow). (list_any is_interface_row (listed o) || false) || false) r.1 ∙ ap (λ (b : Bool). ((b || false) || false) || false) class

pub prim_class : (inputs : List AsmRec) (n : ℕ) → is_interface (assemblies inputs) (expr.Prim n) ≡ false
unfolding assemblies
prim_class inputs n = let names : List CoreTypeName = missing_names (inputs ++ core_record ∷ []) in prim_class_by inputs names n (row_of_prim inputs names n) refl

module _ (inputs : List AsmRec) (sound : link_fault_of inputs ≡ None) where
  abbrev all : List AsmRec
  all = assemblies inputs

  -- a row of the core library, the last assembly
  abbrev pub IsLast : RowAt → Type 0
  IsLast at = suc at.asm ≡ length all

  -- a type whose definition, where it has one, is the core library's
  abbrev pub IsCoreType : TypeExpr → Type 0
  IsCoreType e = Holds inputs sound IsLast e

  core_base : (x to : RowAt) (e : TypeExpr) → IsLast x → base_at all x ≡ Some e → home_of all e ≡ Some to → IsLast to
  unfolding assemblies
  core_base x to e is at home = base_last inputs (missing_names (inputs ++ core_record ∷ [])) x to e is at home

  pub bases_core : (n : ℕ) (e x : TypeExpr) → IsCoreType e → In x (bases_from all n e) → IsCoreType x
  bases_core n e x is i = bases_hold inputs sound IsLast core_base n e x is i
