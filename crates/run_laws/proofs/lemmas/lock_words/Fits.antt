-- How slots keep values, under new numbers.
use Rattle.std.proofs.Common.{◌≡◌, ℕ, ℤ, Bool, true, false, Option, Some, None, refl, sym, ap, subst, ◌∙◌}
use Rattle.std.specs.Prelude.{IsTrue, if◌then◌else◌}
use Rattle.std.specs.Option.{option_map}
use Rattle.il_base.specs.declared.world_model.expr.TypeExpr.{TypeExpr}
use Rattle.il_base.specs.declared.cil_values.value.Value.{Value, out-Value, roll-Value}
use Rattle.il_base.specs.declared.cil_values.value.Value.TheVariants as value
use Rattle.il_base.specs.declared.cil_values.layout.Shape.{Shape}
use Rattle.il_base.specs.declared.cil_values.layout.Shape.TheVariants.{Reference as reference, Pointer as pointer, Integer as integer, TypeHandle as type_handle, FieldHandle as field_handle, Structure as structure, NoValue as no_value}
use Rattle.rules.specs.step_rules.Queries.{Queries}
use Rattle.rules.specs.step_rules.Integers.{is_native, is_long, cut, number, worth, narrowed}
use Rattle.rules.specs.step_rules.Stores.{Parts, parts_of, is_struct_of, fits_reference, fits_pointer, fits_struct, fits_handle, fits_field_handle, fits_shape, fits, is_value_shape, is_value}
use Rattle.rules.specs.change_rules.Change.{Rho, Keep, Change, Undone}
use Rattle.rules.specs.change_rules.Moves.{move_expr, move_value}
use Rattle.rules.specs.change_rules.Answers.{move_parts, move_shape}
use Rattle.rules.specs.change_rules.Keeps.{keeps_expr, keeps_value}
use Rattle.rules.specs.change_rules.Agree.{Agree}
use Rattle.base_laws.proofs.lemmas.change_laws.Values.{move_null, move_i4, move_i8, move_native, move_object, move_pointer, move_handle, move_field_handle, keeps_i4, keeps_i8, keeps_native, parts_moved, move_opened}
use Rattle.base_laws.proofs.lemmas.change_laws.Same.{same_exprs_moved}
use Rattle.run_laws.proofs.lemmas.lock_words.Cases.{alike}

-- ---- references, pointers, numbers

module _ (r : Rho) where
  -- a function of values that does of moved ones as of others
  abbrev Likewise : (Value → Option Value) → (Value → Option Value) → Value → Type 0
  Likewise f g v = f (move_value r v) ≡ option_map (move_value r) (g v)

  pub fits_reference_moved : (v : Value) → Likewise fits_reference fits_reference v
  unfolding roll-Value denote.Hole.Carrier.roll out-Value denote.Hole.Carrier.out
  fits_reference_moved value.Null = ap fits_reference (move_null r) ∙ sym (ap (λ (x : Value). Some x) (move_null r))
  fits_reference_moved (value.I4 n) = ap fits_reference (move_i4 r n)
  fits_reference_moved (value.I8 n) = ap fits_reference (move_i8 r n)
  fits_reference_moved (value.Native n) = ap fits_reference (move_native r n)
  fits_reference_moved (value.Object a) = ap fits_reference (move_object r a) ∙ sym (ap (λ (x : Value). Some x) (move_object r a))
  fits_reference_moved (value.Pointer p) = ap fits_reference (move_pointer r p)
  fits_reference_moved (value.Handle t) = ap fits_reference (move_handle r t)
  fits_reference_moved (value.FieldHandle f) = ap fits_reference (move_field_handle r f)
  fits_reference_moved v = ap fits_reference (move_opened r v)

  pub fits_pointer_moved : (v : Value) → Likewise fits_pointer fits_pointer v
  unfolding roll-Value denote.Hole.Carrier.roll out-Value denote.Hole.Carrier.out
  fits_pointer_moved value.Null = ap fits_pointer (move_null r) ∙ sym (ap (λ (x : Value). Some x) (move_null r))
  fits_pointer_moved (value.I4 n) = ap fits_pointer (move_i4 r n)
  fits_pointer_moved (value.I8 n) = ap fits_pointer (move_i8 r n)
  fits_pointer_moved (value.Native n) = ap fits_pointer (move_native r n)
  fits_pointer_moved (value.Object a) = ap fits_pointer (move_object r a)
  fits_pointer_moved (value.Pointer p) = ap fits_pointer (move_pointer r p) ∙ sym (ap (λ (x : Value). Some x) (move_pointer r p))
  fits_pointer_moved (value.Handle t) = ap fits_pointer (move_handle r t)
  fits_pointer_moved (value.FieldHandle f) = ap fits_pointer (move_field_handle r f)
  fits_pointer_moved v = ap fits_pointer (move_opened r v)

  pub worth_moved : (code : ℕ) (v : Value) → worth code (move_value r v) ≡ worth code v
  unfolding worth roll-Value denote.Hole.Carrier.roll out-Value denote.Hole.Carrier.out
  worth_moved code v = alike r (worth code) (λ p. refl) (λ e cells. refl) (λ e. refl) (λ f. refl) v

  number_by : (b c : Bool) (n : ℤ) → move_value r (if b then value.Native n else if c then value.I8 n else value.I4 n) ≡ (if b then value.Native n else if c then value.I8 n else value.I4 n)
  number_by true c n = move_native r n
  number_by false true n = move_i8 r n
  number_by false false n = move_i4 r n

  pub number_moved : (code : ℕ) (n : ℤ) → move_value r (number code n) ≡ number code n
  unfolding number
  number_moved code n = number_by (is_native code) (is_long code) (cut code n)

  numbers_moved : (code : ℕ) (o : Option ℤ) → option_map (number code) o ≡ option_map (move_value r) (option_map (number code) o)
  numbers_moved code None = refl
  numbers_moved code (Some n) = ap (λ (x : Value). Some x) (sym (number_moved code n))

  pub narrowed_moved : (code : ℕ) (v : Value) → Likewise (narrowed code) (narrowed code) v
  narrowed_moved code v = ap (option_map (number code)) (worth_moved code v) ∙ numbers_moved code (worth code v)

-- ---- structs and handles

module _ (back r : Rho) (u : Undone back r) where
  struct_of_moved : (e : TypeExpr) (o : Option Parts) → is_struct_of (move_expr r e) (option_map (move_parts r) o) ≡ is_struct_of e o
  struct_of_moved e None = refl
  struct_of_moved e (Some p) = same_exprs_moved back r u p.of e

  some_if : (b : Bool) (v : Value) → (if b then Some (move_value r v) else None) ≡ option_map (move_value r) (if b then Some v else None)
  some_if true v = refl
  some_if false v = refl

  pub fits_struct_moved : (e : TypeExpr) (v : Value) → Likewise r (fits_struct (move_expr r e)) (fits_struct e) v
  fits_struct_moved e v =
      ap (λ (o : Option Parts). if is_struct_of (move_expr r e) o then Some (move_value r v) else None) (parts_moved r v)
      ∙ ap (λ (b : Bool). if b then Some (move_value r v) else None) (struct_of_moved e (parts_of v)) ∙ some_if (is_struct_of e (parts_of v)) v

  pub fits_handle_moved : (e : TypeExpr) (v : Value) → Likewise r (fits_handle (move_expr r e)) (fits_handle e) v
  unfolding roll-Value denote.Hole.Carrier.roll out-Value denote.Hole.Carrier.out
  fits_handle_moved e value.Null = ap (fits_handle (move_expr r e)) (move_null r) ∙ ap (fits_struct (move_expr r e)) (sym (move_null r)) ∙ fits_struct_moved e value.Null
  fits_handle_moved e (value.I4 n) = ap (fits_handle (move_expr r e)) (move_i4 r n) ∙ ap (fits_struct (move_expr r e)) (sym (move_i4 r n)) ∙ fits_struct_moved e (value.I4 n)
  fits_handle_moved e (value.I8 n) = ap (fits_handle (move_expr r e)) (move_i8 r n) ∙ ap (fits_struct (move_expr r e)) (sym (move_i8 r n)) ∙ fits_struct_moved e (value.I8 n)
  fits_handle_moved e (value.Native n) = ap (fits_handle (move_expr r e)) (move_native r n) ∙ ap (fits_struct (move_expr r e)) (sym (move_native r n)) ∙ fits_struct_moved e (value.Native n)
  fits_handle_moved e (value.Object a) = ap (fits_handle (move_expr r e)) (move_object r a) ∙ ap (fits_struct (move_expr r e)) (sym (move_object r a)) ∙ fits_struct_moved e (value.Object a)
  fits_handle_moved e (value.Pointer p) = ap (fits_handle (move_expr r e)) (move_pointer r p) ∙ ap (fits_struct (move_expr r e)) (sym (move_pointer r p)) ∙ fits_struct_moved e (value.Pointer p)
  fits_handle_moved e (value.Handle t) = ap (fits_handle (move_expr r e)) (move_handle r t) ∙ sym (ap (λ (x : Value). Some x) (move_handle r t))
  fits_handle_moved e (value.FieldHandle f) = ap (fits_handle (move_expr r e)) (move_field_handle r f) ∙ ap (fits_struct (move_expr r e)) (sym (move_field_handle r f)) ∙ fits_struct_moved e (value.FieldHandle f)
  fits_handle_moved e v = ap (fits_handle (move_expr r e)) (move_opened r v) ∙ ap (fits_struct (move_expr r e)) (sym (move_opened r v)) ∙ fits_struct_moved e v

  pub fits_field_handle_moved : (e : TypeExpr) (v : Value) → Likewise r (fits_field_handle (move_expr r e)) (fits_field_handle e) v
  unfolding roll-Value denote.Hole.Carrier.roll out-Value denote.Hole.Carrier.out
  fits_field_handle_moved e value.Null = ap (fits_field_handle (move_expr r e)) (move_null r) ∙ ap (fits_struct (move_expr r e)) (sym (move_null r)) ∙ fits_struct_moved e value.Null
  fits_field_handle_moved e (value.I4 n) = ap (fits_field_handle (move_expr r e)) (move_i4 r n) ∙ ap (fits_struct (move_expr r e)) (sym (move_i4 r n)) ∙ fits_struct_moved e (value.I4 n)
  fits_field_handle_moved e (value.I8 n) = ap (fits_field_handle (move_expr r e)) (move_i8 r n) ∙ ap (fits_struct (move_expr r e)) (sym (move_i8 r n)) ∙ fits_struct_moved e (value.I8 n)
  fits_field_handle_moved e (value.Native n) = ap (fits_field_handle (move_expr r e)) (move_native r n) ∙ ap (fits_struct (move_expr r e)) (sym (move_native r n)) ∙ fits_struct_moved e (value.Native n)
  fits_field_handle_moved e (value.Object a) = ap (fits_field_handle (move_expr r e)) (move_object r a) ∙ ap (fits_struct (move_expr r e)) (sym (move_object r a)) ∙ fits_struct_moved e (value.Object a)
  fits_field_handle_moved e (value.Pointer p) = ap (fits_field_handle (move_expr r e)) (move_pointer r p) ∙ ap (fits_struct (move_expr r e)) (sym (move_pointer r p)) ∙ fits_struct_moved e (value.Pointer p)
  fits_field_handle_moved e (value.Handle t) = ap (fits_field_handle (move_expr r e)) (move_handle r t) ∙ ap (fits_struct (move_expr r e)) (sym (move_handle r t)) ∙ fits_struct_moved e (value.Handle t)
  fits_field_handle_moved e (value.FieldHandle f) = ap (fits_field_handle (move_expr r e)) (move_field_handle r f) ∙ sym (ap (λ (x : Value). Some x) (move_field_handle r f))
  fits_field_handle_moved e v = ap (fits_field_handle (move_expr r e)) (move_opened r v) ∙ ap (fits_struct (move_expr r e)) (sym (move_opened r v)) ∙ fits_struct_moved e v

  pub fits_shape_moved : (e : TypeExpr) (s : Shape) (v : Value) → Likewise r (fits_shape (move_expr r e) (move_shape r s)) (fits_shape e s) v
  fits_shape_moved e reference v = fits_reference_moved r v
  fits_shape_moved e pointer v = fits_pointer_moved r v
  fits_shape_moved e (integer code) v = narrowed_moved r code v
  fits_shape_moved e type_handle v = fits_handle_moved e v
  fits_shape_moved e field_handle v = fits_field_handle_moved e v
  fits_shape_moved e (structure cells) v = fits_struct_moved e v
  fits_shape_moved e no_value v = refl

-- ---- what fits is kept

module _ (k : Keep) where
  number_kept_by : (b c : Bool) (n : ℤ) → IsTrue (keeps_value k (if b then value.Native n else if c then value.I8 n else value.I4 n))
  number_kept_by true c n = keeps_native k n
  number_kept_by false true n = keeps_i8 k n
  number_kept_by false false n = keeps_i4 k n

  pub number_kept : (code : ℕ) (n : ℤ) → IsTrue (keeps_value k (number code n))
  unfolding number
  number_kept code n = number_kept_by (is_native code) (is_long code) (cut code n)

  pub numbers_kept : (code : ℕ) (o : Option ℤ) (w : Value) → option_map (number code) o ≡ Some w → IsTrue (keeps_value k w)
  numbers_kept code None w e = cc
  numbers_kept code (Some n) w e = let is : number code n ≡ w = cc in subst (λ (x : Value). IsTrue (keeps_value k x)) is (number_kept code n)

  struct_is : (b : Bool) (v w : Value) → (if b then Some v else None) ≡ Some w → v ≡ w
  struct_is true v w e = cc
  struct_is false v w e = cc

  fits_reference_is : (v w : Value) → fits_reference v ≡ Some w → v ≡ w
  fits_reference_is value.Null w e = cc
  fits_reference_is (value.I4 n) w e = cc
  fits_reference_is (value.I8 n) w e = cc
  fits_reference_is (value.Native n) w e = cc
  fits_reference_is (value.Object a) w e = cc
  fits_reference_is (value.Pointer p) w e = cc
  fits_reference_is (value.Handle t) w e = cc
  fits_reference_is (value.FieldHandle f) w e = cc
  fits_reference_is v w e = cc

  fits_pointer_is : (v w : Value) → fits_pointer v ≡ Some w → v ≡ w
  fits_pointer_is value.Null w e = cc
  fits_pointer_is (value.I4 n) w e = cc
  fits_pointer_is (value.I8 n) w e = cc
  fits_pointer_is (value.Native n) w e = cc
  fits_pointer_is (value.Object a) w e = cc
  fits_pointer_is (value.Pointer p) w e = cc
  fits_pointer_is (value.Handle t) w e = cc
  fits_pointer_is (value.FieldHandle f) w e = cc
  fits_pointer_is v w e = cc

  fits_handle_is : (e : TypeExpr) (v w : Value) → fits_handle e v ≡ Some w → v ≡ w
  fits_handle_is e value.Null w h = struct_is (is_struct_of e (parts_of value.Null)) value.Null w h
  fits_handle_is e (value.I4 n) w h = struct_is (is_struct_of e (parts_of (value.I4 n))) (value.I4 n) w h
  fits_handle_is e (value.I8 n) w h = struct_is (is_struct_of e (parts_of (value.I8 n))) (value.I8 n) w h
  fits_handle_is e (value.Native n) w h = struct_is (is_struct_of e (parts_of (value.Native n))) (value.Native n) w h
  fits_handle_is e (value.Object a) w h = struct_is (is_struct_of e (parts_of (value.Object a))) (value.Object a) w h
  fits_handle_is e (value.Pointer p) w h = struct_is (is_struct_of e (parts_of (value.Pointer p))) (value.Pointer p) w h
  fits_handle_is e (value.Handle t) w h = cc
  fits_handle_is e (value.FieldHandle f) w h = struct_is (is_struct_of e (parts_of (value.FieldHandle f))) (value.FieldHandle f) w h
  fits_handle_is e v w h = struct_is (is_struct_of e (parts_of v)) v w h

  fits_field_handle_is : (e : TypeExpr) (v w : Value) → fits_field_handle e v ≡ Some w → v ≡ w
  fits_field_handle_is e value.Null w h = struct_is (is_struct_of e (parts_of value.Null)) value.Null w h
  fits_field_handle_is e (value.I4 n) w h = struct_is (is_struct_of e (parts_of (value.I4 n))) (value.I4 n) w h
  fits_field_handle_is e (value.I8 n) w h = struct_is (is_struct_of e (parts_of (value.I8 n))) (value.I8 n) w h
  fits_field_handle_is e (value.Native n) w h = struct_is (is_struct_of e (parts_of (value.Native n))) (value.Native n) w h
  fits_field_handle_is e (value.Object a) w h = struct_is (is_struct_of e (parts_of (value.Object a))) (value.Object a) w h
  fits_field_handle_is e (value.Pointer p) w h = struct_is (is_struct_of e (parts_of (value.Pointer p))) (value.Pointer p) w h
  fits_field_handle_is e (value.Handle t) w h = struct_is (is_struct_of e (parts_of (value.Handle t))) (value.Handle t) w h
  fits_field_handle_is e (value.FieldHandle f) w h = cc
  fits_field_handle_is e v w h = struct_is (is_struct_of e (parts_of v)) v w h

  as_was : (v w : Value) → v ≡ w → IsTrue (keeps_value k v) → IsTrue (keeps_value k w)
  as_was v w is h = subst (λ (x : Value). IsTrue (keeps_value k x)) is h

  pub fits_shape_kept : (e : TypeExpr) (s : Shape) (v w : Value) → IsTrue (keeps_value k v) → fits_shape e s v ≡ Some w → IsTrue (keeps_value k w)
  fits_shape_kept e reference v w h is = as_was v w (fits_reference_is v w is) h
  fits_shape_kept e pointer v w h is = as_was v w (fits_pointer_is v w is) h
  fits_shape_kept e (integer code) v w h is = numbers_kept code (worth code v) w is
  fits_shape_kept e type_handle v w h is = as_was v w (fits_handle_is e v w is) h
  fits_shape_kept e field_handle v w h is = as_was v w (fits_field_handle_is e v w is) h
  fits_shape_kept e (structure cells) v w h is = as_was v w (struct_is (is_struct_of e (parts_of v)) v w is) h
  fits_shape_kept e no_value v w h is = cc

-- ---- by a world

module _ (k : Change) (after before : Queries) (a : Agree k after before) where
  pub fits_moved : (e : TypeExpr) (v : Value) → IsTrue (keeps_expr k.keep e) → fits after (move_expr k.rho e) (move_value k.rho v) ≡ option_map (move_value k.rho) (fits before e v)
  unfolding fits
  fits_moved e v h =
      ap (λ (s : Shape). fits_shape (move_expr k.rho e) s (move_value k.rho v)) (a.shape e h) ∙ fits_shape_moved k.back k.rho k.undone e (before.shape e) v

  pub fits_kept : (e : TypeExpr) (v w : Value) → IsTrue (keeps_value k.keep v) → fits before e v ≡ Some w → IsTrue (keeps_value k.keep w)
  unfolding fits
  fits_kept e v w h is = fits_shape_kept k.keep e (before.shape e) v w h is

  value_shape : (s : Shape) → is_value_shape (move_shape k.rho s) ≡ is_value_shape s
  value_shape reference = refl
  value_shape pointer = refl
  value_shape (integer code) = refl
  value_shape type_handle = refl
  value_shape field_handle = refl
  value_shape (structure cells) = refl
  value_shape no_value = refl

  pub is_value_moved : (e : TypeExpr) → IsTrue (keeps_expr k.keep e) → is_value after (move_expr k.rho e) ≡ is_value before e
  unfolding is_value
  is_value_moved e h = ap is_value_shape (a.shape e h) ∙ value_shape (before.shape e)
