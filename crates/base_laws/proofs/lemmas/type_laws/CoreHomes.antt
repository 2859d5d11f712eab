-- What a type of the core library leads to: bases in the core library at lower levels, and no interfaces.
use Rattle.std.proofs.Common.{◌≡◌, ℕ, zero, suc, ◌-◌, ◌<◌, Bool, true, false, List, [], ◌∷◌, ◌++◌, length, Option, Some, None, nat_lt, refl, sym, ap, subst, ◌∙◌, arith}
use Rattle.std.specs.Prelude.{slice_get, position, ◌==◌, ◌||◌, if◌then◌else◌}
use Rattle.std.specs.List.{list_any, flat_map}
use Rattle.std.specs.Option.{is_some, option_map, option_and_then, IsSome}
use Rattle.std.proofs.lemmas.Bool.{lt-ltb, eq-eqb}
use Rattle.std.proofs.lemmas.List.{length-append}
use Rattle.il_base.specs.declared.world_model.expr.TypeExpr.{TypeExpr}
use Rattle.il_base.specs.declared.world_model.expr.TypeExpr.TheOpen.{TypeExpr-F}
use Rattle.il_base.specs.declared.world_model.expr.TypeExpr.TheVariants as expr
use Rattle.il_base.specs.declared.world_model.types.TypeDefRow.{TypeDefRow}
use Rattle.il_base.specs.declared.world_model.types.InterfaceImplRow.{InterfaceImplRow}
use Rattle.il_base.specs.declared.world_model.record.AsmRec.{AsmRec}
use Rattle.il_base.specs.world_model.Tokens.{token_of, index_in}
use Rattle.il_base.specs.world_model.Worlds.{types_in, row_below, type_id, core_types, prim_of, prim_type, is_code_of}
use Rattle.il_base.specs.core_table.Record.{core_record}
use Rattle.rules.specs.declared.link_rules.row_at.RowAt.{RowAt}
use Rattle.rules.specs.declared.link_rules.core_type_name.CoreTypeName.{CoreTypeName}
use Rattle.rules.specs.link_rules.CoreNames.{core_with}
use Rattle.rules.specs.link_rules.Types.{at_row, ref_definition, definition_at}
use Rattle.rules.specs.link_rules.Signatures.{prim_at, definition_expr, known_expr, named_type, spec_type_at, token_type}
use Rattle.rules.specs.link_rules.Members.{type_home, is_named, only_named, good_type, is_interface_row, base_in, base_at}
use Rattle.rules.specs.link_rules.Cycles.{listed, home_of, is_interface_at, is_interface, interface_of, interfaces_in, interfaces_at, base_rows, interface_rows}
use Rattle.base_laws.proofs.lemmas.type_laws.Within.{In, in_listed, in_flat}
use Rattle.base_laws.proofs.lemmas.type_laws.Reaching.{Leads}
use Rattle.base_laws.proofs.lemmas.type_laws.Upwards.{owner_as}
use Rattle.base_laws.proofs.lemmas.type_laws.CoreRows.{level, BaseAt, base_at_row, no_interfaces, Object, object_row, object_first, array_row}
use Rattle.base_laws.proofs.lemmas.type_laws.Places.{home_at, place_within}

last_is : {A : Type 0} (xs : List A) (x : A) → slice_get (xs ++ x ∷ []) (length xs) ≡ Some x
last_is [] x = refl
last_is (y ∷ xs) x = last_is xs x

core_types_are : (recs : List AsmRec) (core : AsmRec) → core_types (recs ++ core ∷ []) ≡ core.type_def
unfolding core_types
core_types_are [] core = refl
core_types_are (r ∷ []) core = refl
core_types_are (r ∷ s ∷ recs) core = core_types_are (s ∷ recs) core

named_same : (x e : TypeExpr) (b : Bool) → (if b then Some x else None) ≡ Some e → x ≡ e
named_same x e true is = cc
named_same x e false is = cc

module _ (inputs : List AsmRec) (names : List CoreTypeName) where
  abbrev core : AsmRec
  core = core_with core_record names

  abbrev recs : List AsmRec
  recs = inputs ++ core ∷ []

  abbrev last : ℕ
  last = length inputs

  long : length recs ≡ suc last
  long = length-append inputs (core ∷ []) ∙ omega arith

  core_is : slice_get recs last ≡ Some core
  core_is = last_is inputs core

  -- ---- the definition of a type

  core_home : (k : ℕ) (row : TypeDefRow) → slice_get core.type_def k ≡ Some row → type_home recs (type_id recs last k) ≡ Some (at_row last k)
  core_home k row e = home_at recs 0 last k core core_is (place_within core.type_def k row e) ∙ ap (λ (a : ℕ). Some (at_row a k)) (omega arith)

  prim_home : (n j : ℕ) (row : TypeDefRow) → slice_get core.type_def j ≡ Some row → position (is_code_of n) core.type_def ≡ Some j → home_of recs (expr.Prim n) ≡ Some (at_row last j)
  unfolding prim_type
  prim_home n j row e f =
      let one : length recs - 1 ≡ last = omega (arith, long) in
      ap (option_and_then (type_home recs)) (
      owner_as recs [] (TypeExpr-F.Prim n) (expr.Prim n) (expr.rolls-Prim n)
      ∙ ap (λ (rows : List TypeDefRow). option_map (λ k. type_id recs (length recs - 1) k) (position (is_code_of n) rows)) (core_types_are inputs core)
      ∙ ap (option_map (λ k. type_id recs (length recs - 1) k)) f
      ∙ ap (λ (a : ℕ). Some (type_id recs a j)) one
      ) ∙ core_home j row e

  def_home : (j : ℕ) (row : TypeDefRow) → slice_get core.type_def j ≡ Some row → home_of recs (expr.Def (type_id recs last j)) ≡ Some (at_row last j)
  def_home j row e =
      ap (option_and_then (type_home recs)) (owner_as recs [] (TypeExpr-F.Def (type_id recs last j)) (expr.Def (type_id recs last j)) (expr.rolls-Def (type_id recs last j)))
      ∙ core_home j row e

  home_by : (j : ℕ) (row : TypeDefRow) (o : Option ℕ) → slice_get core.type_def j ≡ Some row → ((n : ℕ) → o ≡ Some n → position (is_code_of n) core.type_def ≡ Some j)
      → home_of recs (elim o [ Some n ↦ expr.Prim n | None ↦ expr.Def (type_id recs last j) ]) ≡ Some (at_row last j)
  home_by j row None e first = def_home j row e
  home_by j row (Some n) e first = prim_home n j row e (first n refl)

  prim_is : (j : ℕ) (row : TypeDefRow) → slice_get core.type_def j ≡ Some row → prim_at recs (at_row last j) ≡ prim_of row
  prim_is j row e =
      let same : (suc last == length recs) ≡ true = eq-eqb (suc last) (length recs) (sym long) in
      ap (λ (b : Bool). if b then option_and_then prim_of (slice_get (core_types recs) j) else None) same
      ∙ ap (λ (rows : List TypeDefRow). option_and_then prim_of (slice_get rows j)) (core_types_are inputs core)
      ∙ ap (option_and_then prim_of) e

  definition_home : (j : ℕ) (row : TypeDefRow) → slice_get core.type_def j ≡ Some row → ((n : ℕ) → prim_of row ≡ Some n → position (is_code_of n) core.type_def ≡ Some j)
      → home_of recs (definition_expr recs (at_row last j)) ≡ Some (at_row last j)
  unfolding definition_expr
  definition_home j row e first =
      ap (λ (o : Option ℕ). home_of recs (elim o [ Some n ↦ expr.Prim n | None ↦ expr.Def (type_id recs last j) ])) (prim_is j row e)
      ∙ home_by j row (prim_of row) e first

  -- ---- the base

  token_is : (token : ℕ) (b : BaseAt core.type_def token) → token_type recs last core token ≡ known_expr recs (Some (at_row last b.index))
  unfolding token_type named_type definition_at
  token_is token b =
      let below : nat_lt b.index (length core.type_def) ≡ true = lt-ltb b.index (length core.type_def) (place_within core.type_def b.index b.row b.there) in
      ap (λ t. if t == 0x1b then spec_type_at recs last core (option_and_then (slice_get core.type_spec) (index_in 0x1b token)) else known_expr recs
      (if t == 0x02 then option_map (at_row last) (row_below (types_in core) (index_in 0x02 token)) else option_and_then (ref_definition recs last core) (index_in 0x01 token))) b.table
      ∙ ap (λ o. known_expr recs (option_map (at_row last) (row_below (types_in core) o))) b.is_index
      ∙ ap (λ t. known_expr recs (option_map (at_row last) (if t then Some b.index else None))) below

  abbrev rank_of : Option TypeDefRow → ℕ
  rank_of None = 0
  rank_of (Some row) = level row.extends

  pub rank : RowAt → ℕ
  rank at = rank_of (slice_get core.type_def at.row)

  -- a type of the core library below this rank
  pub record IsLower (top : ℕ) (at : RowAt) : Type 0 where
    pub core : at.asm ≡ last
    pub lower : rank at < top

  good_base : (token : ℕ) (o : Option TypeExpr) (e : TypeExpr) → o ≡ good_type (token_type recs last core token) → only_named o ≡ Some e → good_type (token_type recs last core token) ≡ Some e
  good_base token None e from is = cc
  good_base token (Some x) e from is = sym from ∙ ap (λ (y : TypeExpr). Some y) (named_same x e (is_named x) is)

  base_lower : (k : ℕ) (row : TypeDefRow) (e : TypeExpr) (to : RowAt) (z i : Bool) → slice_get core.type_def k ≡ Some row → (row.extends == 0) ≡ z
      → (if z || i then None else only_named (good_type (token_type recs last core row.extends))) ≡ Some e → home_of recs e ≡ Some to → IsLower (level row.extends) to
  unfolding rank
  base_lower k row e to true i at z is home = cc
  base_lower k row e to false true at z is home = cc
  base_lower k row e to false false at z is home =
      let b = base_at_row names k row at z in
      let f : Some (definition_expr recs (at_row last b.index)) ≡ Some e = sym (ap good_type (token_is row.extends b)) ∙ good_base row.extends (good_type (token_type recs last core row.extends)) e refl is in
      let g : definition_expr recs (at_row last b.index) ≡ e = cc in
      let h : Some (at_row last b.index) ≡ Some to = sym (definition_home b.index b.row b.there b.first) ∙ ap (home_of recs) g ∙ home in
      let same : at_row last b.index ≡ to = cc in
      let lt : rank_of (slice_get core.type_def b.index) < level row.extends = subst (λ (o : Option TypeDefRow). rank_of o < level row.extends) (sym b.there) b.lower in
      subst (IsLower (level row.extends)) same (record { core = refl; lower = lt })

  row_lower : (k : ℕ) (o : Option TypeDefRow) (e : TypeExpr) (to : RowAt) → slice_get core.type_def k ≡ o → option_and_then (base_in recs last core) o ≡ Some e → home_of recs e ≡ Some to → IsLower (rank_of o) to
  row_lower k None e to at is home = cc
  row_lower k (Some row) e to at is home = base_lower k row e to (row.extends == 0) (is_interface_row row) at refl is home

  lower_base : (k : ℕ) (e : TypeExpr) (to : RowAt) → base_at recs (at_row last k) ≡ Some e → home_of recs e ≡ Some to → IsLower (rank (at_row last k)) to
  unfolding rank
  lower_base k e to is home =
      let f : base_at recs (at_row last k) ≡ option_and_then (base_in recs last core) (slice_get core.type_def k) =
      ap (option_and_then (λ (rec : AsmRec). option_and_then (base_in recs last rec) (slice_get rec.type_def k))) core_is in
      row_lower k (slice_get core.type_def k) e to refl (sym f ∙ is) home

  -- ---- what a type leads to

  no_interface : (x : RowAt) → x.asm ≡ last → interface_rows recs x ≡ []
  unfolding interface_rows interfaces_at
  no_interface x is =
      ap (λ o. flat_map (λ e. listed (home_of recs e)) (flat_map (interfaces_in recs x) (listed o))) (ap (slice_get recs) is ∙ core_is)
      ∙ ap (λ (rows : List InterfaceImplRow). flat_map (λ e. listed (home_of recs e)) (flat_map (interface_of recs x.asm core (token_of 0x02 (suc x.row))) rows ++ [])) (no_interfaces names)

  lower_at : (k : ℕ) (to : RowAt) → In to (base_rows recs (at_row last k)) → IsLower (rank (at_row last k)) to
  unfolding base_rows
  lower_at k to h =
      let m = in_flat (λ e. listed (home_of recs e)) to (listed (base_at recs (at_row last k))) h in
      lower_base k m.0 to (in_listed m.0 (base_at recs (at_row last k)) m.1) (in_listed to (home_of recs m.0) m.2)

  lower : (x y : RowAt) → x.asm ≡ last → In y (base_rows recs x) → IsLower (rank x) y
  lower x y is h =
      let same : at_row last x.row ≡ x = λ i. at_row (sym is i) x.row in
      subst (λ (z : RowAt). In y (base_rows recs z) → IsLower (rank z) y) same (lower_at x.row y) h

  all_lower : (n top : ℕ) (x y : RowAt) → IsLower top x → Leads (base_rows recs) n x y → IsLower top y
  all_lower zero top x y l h = subst (IsLower top) h l
  all_lower (suc n) top x y l h =
      let m = lower x h.0 l.core h.1 in
      let below = l.lower in
      let below' = m.lower in
      all_lower n top h.0 y (record { core = m.core; lower = omega arith }) h.2

  -- no type is a base of its own, and none has an interface
  pub no_base_cycle : (n : ℕ) (x : RowAt) → x.asm ≡ last → Leads (base_rows recs) (suc n) x x → ⊥
  no_base_cycle n x is h =
      let l = all_lower n (rank x) h.0 x (lower x h.0 is h.1) h.2 in
      let lt = l.lower in
      omega arith

  pub no_interface_cycle : (n : ℕ) (x : RowAt) → x.asm ≡ last → Leads (interface_rows recs) (suc n) x x → ⊥
  no_interface_cycle n x is h = subst (λ (xs : List RowAt). In h.0 xs) (no_interface x is) h.1

  -- ---- System.Object and System.Array

  abbrev pub object_at : RowAt
  object_at = at_row last 1

  abbrev object : Object names
  object = object_row names

  pub object_home : home_of recs (expr.Prim 0x1c) ≡ Some object_at
  object_home = prim_home 0x1c 1 object.row object.there (object_first names 0x1c object.prim)

  class_at : (k : ℕ) (row : TypeDefRow) → slice_get core.type_def k ≡ Some row → is_interface_row row ≡ false → is_interface_at recs (at_row last k) ≡ false
  class_at k row there class =
      ap (λ (o : Option AsmRec). list_any (λ (rec : AsmRec). list_any is_interface_row (listed (slice_get rec.type_def k))) (listed o)) core_is
      ∙ ap (λ (o : Option TypeDefRow). list_any is_interface_row (listed o) || false) there ∙ ap (λ (b : Bool). b || false || false) class

  pub object_class : is_interface_at recs object_at ≡ false
  object_class = class_at 1 object.row object.there object.class

  pub object_no_interface : interface_rows recs object_at ≡ []
  object_no_interface = no_interface object_at refl

  pub object_no_base : base_at recs object_at ≡ None
  object_no_base =
      ap (option_and_then (λ (rec : AsmRec). option_and_then (base_in recs last rec) (slice_get rec.type_def 1))) core_is
      ∙ ap (option_and_then (base_in recs last core)) object.there
      ∙ ap (λ (b : Bool). if b || is_interface_row object.row then None else only_named (good_type (token_type recs last core object.row.extends)))
      (eq-eqb object.row.extends 0 object.base)

  array_home : (x : TypeExpr) → home_of recs (expr.Array x) ≡ Some (at_row last 21)
  array_home x =
      let one : length recs - 1 ≡ last = omega (arith, long) in
      let row = array_row names in
      ap (option_and_then (type_home recs)) (owner_as recs [] (TypeExpr-F.Array x) (expr.Array x) (expr.rolls-Array x) ∙ ap (λ (a : ℕ). Some (type_id recs a 21)) one) ∙ core_home 21 row.row row.there

  pub array_homed : (x : TypeExpr) → IsSome (home_of recs (expr.Array x))
  array_homed x = ap is_some (array_home x)

  pub array_class : (x : TypeExpr) → is_interface recs (expr.Array x) ≡ false
  unfolding is_interface
  array_class x =
      let row = array_row names in
      ap (λ (o : Option RowAt). list_any (is_interface_at recs) (listed o)) (array_home x) ∙ ap (λ (b : Bool). b || false) (class_at 21 row.row row.there row.class)
