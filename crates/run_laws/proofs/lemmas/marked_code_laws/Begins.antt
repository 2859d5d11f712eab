-- The initializer of a type can begin where a marked method or a marked static field is in its run.
use Rattle.std.proofs.Common.{◌≡◌, ℕ, zero, suc, ◌+◌, ◌<◌, ◌≤◌, Bool, true, false, min, List, [], length, Option, Some, None, ◌⊎◌, inl, inr, refl, sym, ap, subst, ◌∙◌, arith}
use Rattle.std.specs.Prelude.{IsTrue, nat_eq, slice_get, bit_and, ◌&&◌}
use Rattle.std.specs.Int.{bit_at}
use Rattle.std.specs.List.{list_any, position_from, range_with_len}
use Rattle.std.specs.Option.{option_map, option_and_then}
use Rattle.std.proofs.lemmas.Bool.{and_from, or_left, or_right, eqb-true, eq-eqb, cases_lt}
use Rattle.std.proofs.lemmas.Nat.Bits.{bit_at_and, bit_at-lt}
use Rattle.il_base.specs.declared.ids.TypeId.{TypeId}
use Rattle.il_base.specs.declared.ids.Item.TheVariants as item
use Rattle.il_base.specs.declared.field_flags.TheConstants.{STATIC}
use Rattle.il_base.specs.Flags.{has_flag}
use Rattle.il_base.specs.declared.world_model.expr.TypeExpr.{TypeExpr, out-TypeExpr, roll-TypeExpr, roll-out-TypeExpr, out-roll-TypeExpr}
use Rattle.il_base.specs.declared.world_model.expr.TypeExpr.TheOpen.{TypeExpr-F}
use Rattle.il_base.specs.declared.world_model.types.TypeDefRow.{TypeDefRow}
use Rattle.il_base.specs.declared.world_model.members.MethodDefRow.{MethodDefRow}
use Rattle.il_base.specs.declared.world_model.members.FieldRow.{FieldRow}
use Rattle.il_base.specs.declared.world_model.record.AsmRec.{AsmRec}
use Rattle.il_base.specs.world_model.Worlds.{rows_before, types_in as types_of, type_id}
use Rattle.rules.specs.declared.link_rules.row_at.RowAt.{RowAt}
use Rattle.rules.specs.link_rules.Types.{at_row}
use Rattle.rules.specs.link_rules.Members.{home_from, type_home, owner_of, methods_in, fields_in, owns_method, owns_field}
use Rattle.rules.specs.link_rules.Cycles.{listed, same_row, is_static_field}
use Rattle.rules.specs.type_rules.Slots.{type_of_method}
use Rattle.rules.specs.type_rules.Rows.{rec_at, field_row_at, owner_of_field}
use Rattle.base_laws.proofs.lemmas.type_laws.Within.{In}
use Rattle.base_laws.proofs.lemmas.type_laws.Places.{rows_decide, place_has}
use Rattle.base_laws.proofs.lemmas.type_laws.Upwards.{owner_as}
use Rattle.run_laws.proofs.lemmas.query_laws.Ids.{has_number}
use Rattle.rules.specs.mark_rules.Facts.{Fact}
use Rattle.rules.specs.mark_rules.Facts.Fact.{marked}
use Rattle.rules.specs.mark_rules.Places.{marks_method, marks_field}
use Rattle.rules.specs.mark_rules.Naming.{types_in}
use Rattle.il_base.specs.declared.cil_values.definition.Method.{Method}
use Rattle.rules.specs.step_rules.Closing.{plain}
use Rattle.rules.specs.declared.view_rules.seen_flags.TheConstants as seen
use Rattle.rules.specs.view_rules.Methods.{method_by, method_at, method_query, field_by, field_at, field_query}
use Rattle.rules.specs.change_rules.Change.{Keep}
use Rattle.rules.specs.change_rules.Keeps.{definition_passes, begins_expr, is_of_owner, is_static}
use Rattle.run_laws.proofs.lemmas.lock_words.Types.{plain_in, plain_rolled}
use Rattle.run_laws.specs.marked_laws.Flags.{keep_of, type_numbered, is_of_type, begun_by_method, begun_by_field, begun_in, begun_at, begins}
use Rattle.run_laws.proofs.lemmas.marked_laws.Flags.{begun_is}
use Rattle.run_laws.proofs.lemmas.marked_laws.Named.{types_rolled}
use Rattle.run_laws.proofs.lemmas.marked_laws.Places.{number_home}
use Rattle.run_laws.proofs.lemmas.marked_code_laws.Owners.{owned_in, OwnedBy, InOwner}

-- ---- lists

pub any_listed : {A : Type 0} (f : A → Bool) (x : A) (o : Option A) → o ≡ Some x → f x ≡ true → list_any f (listed o) ≡ true
any_listed f x o e h = ap (λ o. list_any f (listed o)) e ∙ or_left (f x) false h

range_by : (f : ℕ → Bool) (k s n : ℕ) → s ≤ k → k < s + suc n → f k ≡ true → (s < k) ⊎ (k ≤ s) → (s + 1 ≤ k → k < s + 1 + n → list_any f (range_with_len (s + 1) n) ≡ true) → list_any f (range_with_len s (suc n)) ≡ true
range_by f k s n le lt h (inl less) more = or_right (f s) (list_any f (range_with_len (s + 1) n)) (more (omega (arith, less)) (omega (arith, lt)))
range_by f k s n le lt h (inr least) more =
    let same : s ≡ k = omega (arith, le, least) in or_left (f s) (list_any f (range_with_len (s + 1) n)) (ap f same ∙ h)

any_range : (f : ℕ → Bool) (k s n : ℕ) → s ≤ k → k < s + n → f k ≡ true → list_any f (range_with_len s n) ≡ true
any_range f k s zero le lt h = absurd (omega (arith, le, lt))
any_range f k s (suc n) le lt h = range_by f k s n le lt h (cases_lt s k) (λ more less. any_range f k (s + 1) n more less h)

-- ---- the flag of the definition that a type is of

module _ (recs : List AsmRec) (flag : ℕ → Bool) (owner : RowAt) where
  abbrev FlagFor : TypeExpr → Type 0
  FlagFor e = (t : TypeId) → type_home recs t ≡ Some owner → owner_of recs e ≡ Some t → In t (types_in e) → IsTrue (flag t.0)

  out_plain : (x : TypeExpr-F TypeExpr) (e : TypeExpr) → roll-TypeExpr x ≡ e → plain_in x ≡ roll-TypeExpr x → out-TypeExpr (plain e) ≡ x
  out_plain x e rolls is = ap (λ (d : TypeExpr). out-TypeExpr (plain d)) (sym rolls) ∙ ap out-TypeExpr (plain_rolled x ∙ is) ∙ out-roll-TypeExpr x

  passes_by : (x : TypeExpr-F TypeExpr) (e : TypeExpr) → roll-TypeExpr x ≡ e → owned_in recs owner x → FlagFor e → IsTrue (definition_passes flag (out-TypeExpr (plain e)))
  passes_by (TypeExpr-F.Prim n) e is h f = ap (definition_passes flag) (out_plain (TypeExpr-F.Prim n) e is refl)
  passes_by (TypeExpr-F.Def t) e is h f =
      ap (definition_passes flag) (out_plain (TypeExpr-F.Def t) e is refl)
      ∙ f t h (owner_as recs [] (TypeExpr-F.Def t) e is) (subst (λ ts. In t ts) (sym (ap types_in (sym is) ∙ types_rolled (TypeExpr-F.Def t))) (inl refl))
  passes_by (TypeExpr-F.Inst t args) e is h f =
      ap (definition_passes flag) (out_plain (TypeExpr-F.Inst t args) e is refl)
      ∙ f t h (owner_as recs [] (TypeExpr-F.Inst t args) e is) (subst (λ ts. In t ts) (sym (ap types_in (sym is) ∙ types_rolled (TypeExpr-F.Inst t args))) (inl refl))
  passes_by (TypeExpr-F.Array x) e is h f = ap (definition_passes flag) (out_plain (TypeExpr-F.Array x) e is refl)
  passes_by (TypeExpr-F.ByRef x) e is h f = absurd h
  passes_by (TypeExpr-F.Var n) e is h f = absurd h
  passes_by (TypeExpr-F.MVar n) e is h f = absurd h
  passes_by (TypeExpr-F.Mod required by x) e is h f = absurd h

  pub owner_passes : (e : TypeExpr) → OwnedBy recs owner e → FlagFor e → IsTrue (definition_passes flag (out-TypeExpr (plain e)))
  owner_passes e o f = passes_by (out-TypeExpr e) e (roll-out-TypeExpr e) o.is f

-- ---- who begins a type

owner_row : (recs : List AsmRec) (owns : ℕ → TypeDefRow → Bool) (owner at : RowAt) (rec : AsmRec) (o : Option ℕ) → option_map (at_row at.asm) o ≡ Some owner → owner.asm ≡ at.asm
owner_row recs owns owner at rec None e = absurd (cc)
owner_row recs owns owner at rec (Some j) e = let same : owner ≡ at_row at.asm j = cc in ap (λ (r : RowAt). r.asm) same

module _ {A : Type 0} (recs : List AsmRec) (owns : ℕ → TypeDefRow → Bool) (rows : AsmRec → List A) (owner at : RowAt) (r : InOwner recs owns rows owner at) where
  pub owned_in_rec : option_map (at_row at.asm) (position_from (owns (suc at.row)) 0 r.rec.type_def) ≡ Some owner
  owned_in_rec = sym (ap (option_and_then (λ (rec : AsmRec). option_map (at_row at.asm) (position_from (owns (suc at.row)) 0 rec.type_def))) r.there) ∙ r.owned

  pub same_asm : owner.asm ≡ at.asm
  same_asm = owner_row recs owns owner at r.rec (position_from (owns (suc at.row)) 0 r.rec.type_def) owned_in_rec

  pub owner_rec : rec_at recs owner ≡ Some r.rec
  owner_rec = ap (slice_get recs) same_asm ∙ r.there

  pub same_place : at_row owner.asm at.row ≡ at
  same_place = ap (λ (a : ℕ). at_row a at.row) same_asm

module _ (recs : List AsmRec) (has : Fact → Bool) where
  of_type : (owner : RowAt) (o : Option RowAt) → o ≡ Some owner → is_of_type owner o ≡ true
  of_type owner o e = any_listed (same_row owner) owner o e ((rows_decide owner owner).1 refl)

  begun_here : (t : TypeId) (owner : RowAt) → type_home recs t ≡ Some owner → begun_at recs has owner ≡ true → IsTrue (begins recs has t.0)
  unfolding begins
  begun_here t owner e h = any_listed (begun_at recs has) owner (type_home recs (type_numbered t.0)) e h

  -- a marked method
  method_begins : (owner at : RowAt) (r : InOwner recs owns_method (λ (rec : AsmRec). rec.method_def) owner at) → IsTrue (has (marks_method recs at)) → begun_at recs has owner ≡ true
  method_begins owner at r h =
      let rows : AsmRec → List MethodDefRow = λ (rec : AsmRec). rec.method_def in
      let place = same_place recs owns_method rows owner at r in
      let here : begun_by_method recs has owner at.row ≡ true =
      and_from (has (marks_method recs (at_row owner.asm at.row))) (is_of_type owner (type_of_method recs (at_row owner.asm at.row)))
      (ap (λ (x : RowAt). has (marks_method recs x)) place ∙ h) (ap (λ (x : RowAt). is_of_type owner (type_of_method recs x)) place ∙ of_type owner (type_of_method recs at) r.owned) in
      any_listed (begun_in recs has owner) r.rec (rec_at recs owner) (owner_rec recs owns_method rows owner at r)
      (or_left (list_any (begun_by_method recs has owner) (range_with_len 0 (length r.rec.method_def))) _
      (any_range (begun_by_method recs has owner) at.row 0 (length r.rec.method_def) (omega arith) (let lt = r.below in omega (arith, lt)) here))

  -- a marked static field
  field_begins : (owner at : RowAt) (r : InOwner recs owns_field (λ (rec : AsmRec). rec.field) owner at) → IsTrue (has (marks_field recs at)) → list_any is_static_field (listed (field_row_at recs at)) ≡ true → begun_at recs has owner ≡ true
  field_begins owner at r h s =
      let rows : AsmRec → List FieldRow = λ (rec : AsmRec). rec.field in
      let place = same_place recs owns_field rows owner at r in
      let marks = has (marks_field recs (at_row owner.asm at.row)) in
      let static = list_any is_static_field (listed (field_row_at recs (at_row owner.asm at.row))) in
      let of = is_of_type owner (option_map (at_row owner.asm) (owner_of_field r.rec at.row)) in
      let here : begun_by_field recs has owner r.rec at.row ≡ true =
      and_from (marks && static) of
      (and_from marks static (ap (λ (x : RowAt). has (marks_field recs x)) place ∙ h) (ap (λ (x : RowAt). list_any is_static_field (listed (field_row_at recs x))) place ∙ s))
      (of_type owner (option_map (at_row owner.asm) (owner_of_field r.rec at.row))
      (ap (λ (a : ℕ). option_map (at_row a) (owner_of_field r.rec at.row)) (same_asm recs owns_field rows owner at r) ∙ owned_in_rec recs owns_field rows owner at r)) in
      any_listed (begun_in recs has owner) r.rec (rec_at recs owner) (owner_rec recs owns_field rows owner at r)
      (or_right (list_any (begun_by_method recs has owner) (range_with_len 0 (length r.rec.method_def))) _
      (any_range (begun_by_field recs has owner r.rec) at.row 0 (length r.rec.field) (omega arith) (let lt = r.below in omega (arith, lt)) here))

  abbrev k : Keep
  k = keep_of recs has

  begins_by : (owner : RowAt) (e : TypeExpr) → OwnedBy recs owner e → ((t : TypeId) → In t (types_in e) → IsTrue (has (marked (item.Typ t)))) → begun_at recs has owner ≡ true → IsTrue (begins_expr k e)
  unfolding begins_expr
  begins_by owner e o m h = owner_passes recs k.begun owner e o (λ t home of i. begun_is recs has t (m t i) (begun_here t owner home h))

  pub method_begins_type : (owner at : RowAt) (e : TypeExpr) → InOwner recs owns_method (λ (rec : AsmRec). rec.method_def) owner at → OwnedBy recs owner e → ((t : TypeId) → In t (types_in e) → IsTrue (has (marked (item.Typ t))))
      → IsTrue (has (marks_method recs at)) → IsTrue (begins_expr k e)
  method_begins_type owner at e r o m h = begins_by owner e o m (method_begins owner at r h)

  pub field_begins_type : (owner at : RowAt) (e : TypeExpr) → InOwner recs owns_field (λ (rec : AsmRec). rec.field) owner at → OwnedBy recs owner e → ((t : TypeId) → In t (types_in e) → IsTrue (has (marked (item.Typ t))))
      → IsTrue (has (marks_field recs at)) → list_any is_static_field (listed (field_row_at recs at)) ≡ true → IsTrue (begins_expr k e)
  field_begins_type owner at e r o m h s = begins_by owner e o m (field_begins owner at r h s)

  pub method_begins_row : (owner at : RowAt) (t : TypeId) → InOwner recs owns_method (λ (rec : AsmRec). rec.method_def) owner at → type_home recs t ≡ Some owner → IsTrue (has (marked (item.Typ t))) → IsTrue (has (marks_method recs at)) → IsTrue (k.begun t.0)
  method_begins_row owner at t r home m h = begun_is recs has t m (begun_here t owner home (method_begins owner at r h))

-- ---- static fields: of a field's flags the world tells whether it is static

one_of : (x : ℕ) → x < 2 → min x 1 ≡ 1 → x ≡ 1
one_of x lt e = omega (arith, lt, e)

seen_static : (flags : ℕ) → has_flag (bit_and flags seen.FIELD) STATIC ≡ true → has_flag flags STATIC ≡ true
seen_static flags h =
    let masked : bit_at (bit_and flags seen.FIELD) 4 ≡ 1 = eqb-true (bit_at (bit_and flags seen.FIELD) 4) 1 h in
    let both : bit_at (bit_and flags seen.FIELD) 4 ≡ min (bit_at flags 4) 1 = bit_at_and flags seen.FIELD 4 in
    eq-eqb (bit_at flags 4) 1 (one_of (bit_at flags 4) (bit_at-lt flags 4) (sym both ∙ masked))

module _ (recs : List AsmRec) (owner at : RowAt) (r : InOwner recs owns_field (λ (rec : AsmRec). rec.field) owner at) where
  static_by : (f : FieldRow) → slice_get r.rec.field at.row ≡ Some f → is_static (field_at recs at) ≡ true → list_any is_static_field (listed (field_row_at recs at)) ≡ true
  static_by f e h =
      let there : field_at recs at ≡ Some (field_by recs at r.rec f) = ap (option_and_then (λ (rec : AsmRec). option_map (field_by recs at rec) (slice_get rec.field at.row))) r.there ∙ ap (option_map (field_by recs at r.rec)) e in
      let row : field_row_at recs at ≡ Some f = ap (option_and_then (λ (rec : AsmRec). slice_get rec.field at.row)) r.there ∙ e in
      any_listed is_static_field f (field_row_at recs at) row (seen_static f.flags (sym (ap is_static there) ∙ h))

  home : home_from fields_in 0 recs (rows_before fields_in recs at.asm + at.row) ≡ Some at
  home = let z : 0 + at.asm ≡ at.asm = omega arith in number_home fields_in recs 0 at.asm at.row r.rec r.there r.below ∙ ap (λ (a : ℕ). Some (at_row a at.row)) z

  queried : field_query recs (rows_before fields_in recs at.asm + at.row) ≡ field_at recs at
  unfolding field_query
  queried = ap (option_and_then (field_at recs)) home

  pub static_row : is_static (field_query recs (rows_before fields_in recs at.asm + at.row)) ≡ true → list_any is_static_field (listed (field_row_at recs at)) ≡ true
  static_row h = let f = place_has r.rec.field at.row r.below in static_by f.0 f.1 (sym (ap is_static queried) ∙ h)

-- ---- a method is called on a type of the definition that has it

module _ (recs : List AsmRec) (owner at : RowAt) (r : InOwner recs owns_method (λ (rec : AsmRec). rec.method_def) owner at) where
  abbrev number : ℕ
  number = rows_before methods_in recs at.asm + at.row

  method_home_is : home_from methods_in 0 recs number ≡ Some at
  method_home_is = let z : 0 + at.asm ≡ at.asm = omega arith in number_home methods_in recs 0 at.asm at.row r.rec r.there r.below ∙ ap (λ (a : ℕ). Some (at_row a at.row)) z

  method_there : (d : MethodDefRow) → slice_get r.rec.method_def at.row ≡ Some d → method_query recs number ≡ Some (method_by recs at r.rec d owner)
  unfolding method_query
  method_there d e =
      ap (option_and_then (method_at recs)) method_home_is
      ∙ ap (option_and_then (λ (rec : AsmRec). option_and_then (λ (m : MethodDefRow). option_map (method_by recs at rec m) (type_of_method recs at)) (slice_get rec.method_def at.row))) r.there
      ∙ ap (option_and_then (λ (m : MethodDefRow). option_map (method_by recs at r.rec m) (type_of_method recs at))) e ∙ ap (option_map (method_by recs at r.rec d)) r.owned

  own_number : (t : TypeId) → type_home recs t ≡ Some owner → nat_eq (type_id recs owner.asm owner.row).0 t.0 ≡ true
  own_number t home = eq-eqb (type_id recs owner.asm owner.row).0 t.0 (has_number types_of recs t.0 owner home)

  pub called_owned : (e : TypeExpr) → OwnedBy recs owner e → IsTrue (is_of_owner (method_query recs number) e)
  called_owned e o =
      let d = place_has r.rec.method_def at.row r.below in
      ap (λ (f : Option Method). is_of_owner f e) (method_there d.0 d.1) ∙ owner_passes recs (nat_eq (type_id recs owner.asm owner.row).0) owner e o (λ t home of i. own_number t home)
