-- How places keep values, what they hold at first, and which accesses take them.
use Rattle.std.proofs.Common.{◌≡◌, ℕ, ℤ, Bool, true, List, [], ◌∷◌, map, Option, Some, None, refl, sym, ap, ◌∙◌}
use Rattle.std.specs.Prelude.{IsTrue, pos}
use Rattle.std.specs.List.{list_all}
use Rattle.std.specs.Option.{option_map}
use Rattle.std.specs.Cmp.{first_so, second_so}
use Rattle.std.proofs.lemmas.Bool.{and_from}
use Rattle.il_base.specs.declared.world_model.expr.TypeExpr.{TypeExpr}
use Rattle.il_base.specs.declared.cil_values.value.Value.{Value, out-Value, roll-Value}
use Rattle.il_base.specs.declared.cil_values.value.Value.TheVariants as value
use Rattle.il_base.specs.declared.cil_values.layout.Layout.{Layout}
use Rattle.il_base.specs.declared.cil_values.layout.Shape.{Shape}
use Rattle.il_base.specs.declared.cil_values.layout.Shape.TheVariants.{Reference as reference, Pointer as pointer, Integer as integer, TypeHandle as type_handle, FieldHandle as field_handle, Structure as structure, NoValue as no_value}
use Rattle.rules.specs.step_rules.Queries.{Queries}
use Rattle.rules.specs.step_rules.Integers.{number, narrowed, worth, held_number, shown}
use Rattle.rules.specs.step_rules.Stores.{fits_reference, fits, all_fit, zeros_of, zero_shape, zero_of, is_reference_shape, is_reference, Access, by_code, by_reference, by_type, access_shape, access_of, element_shape, element_access, allows_shape, allows, loaded, as_place, stored}
use Rattle.rules.specs.change_rules.Change.{Rho, Keep, Change}
use Rattle.rules.specs.change_rules.Moves.{move_expr, move_exprs, move_value, move_values}
use Rattle.rules.specs.change_rules.Answers.{move_layout, move_shape, move_access}
use Rattle.rules.specs.change_rules.Keeps.{keeps_expr, keeps_value, keeps_values, keeps_layout, keeps_shape}
use Rattle.rules.specs.change_rules.Agree.{Agree}
use Rattle.base_laws.proofs.lemmas.change_laws.Same.{same_exprs_moved}
use Rattle.base_laws.proofs.lemmas.change_laws.Values.{move_null, move_struct, keeps_null, keeps_struct}
use Rattle.run_laws.proofs.lemmas.lock_words.Cases.{alike}
use Rattle.run_laws.proofs.lemmas.lock_words.Fits.{fits_reference_moved, narrowed_moved, number_moved, number_kept, numbers_kept, fits_moved, fits_kept}
use Rattle.run_laws.proofs.lemmas.lock_places.Options.{front_moved_by, front_kept, some_is}

-- ---- at first

pub zeros_map : (r : Rho) (ls : List Layout) → zeros_of (map (move_layout r) ls) ≡ move_values r (zeros_of ls)
zeros_map r [] = refl
zeros_map r (l ∷ ls) = λ i. move_value r l.zero ∷ zeros_map r ls i

pub zeros_all : (k : Keep) (ls : List Layout) → IsTrue (list_all (keeps_layout k) ls) → IsTrue (keeps_values k (zeros_of ls))
zeros_all k [] h = refl
zeros_all k (l ∷ ls) h =
    let l_kept : IsTrue (keeps_layout k l) = first_so (keeps_layout k l) (list_all (keeps_layout k) ls) h in
    and_from (keeps_value k l.zero) (keeps_values k (zeros_of ls)) (second_so _ (keeps_value k l.zero) l_kept) (zeros_all k ls (second_so (keeps_layout k l) (list_all (keeps_layout k) ls) h))

some_moved : (r : Rho) (v w : Value) → move_value r v ≡ w → Some w ≡ option_map (move_value r) (Some v)
some_moved r v w e = ap (λ (x : Value). Some x) (sym e)

zero_shape_moved : (r : Rho) (e : TypeExpr) (s : Shape) → zero_shape (move_expr r e) (move_shape r s) ≡ option_map (move_value r) (zero_shape e s)
zero_shape_moved r e reference = some_moved r value.Null _ (move_null r)
zero_shape_moved r e pointer = some_moved r value.Null _ (move_null r)
zero_shape_moved r e (integer code) = some_moved r (number code (pos 0)) _ (number_moved r code (pos 0))
zero_shape_moved r e type_handle = some_moved r (value.Struct e []) _ (move_struct r e [])
zero_shape_moved r e field_handle = some_moved r (value.Struct e []) _ (move_struct r e [])
zero_shape_moved r e (structure cells) = some_moved r (value.Struct e (zeros_of cells)) _ (move_struct r e (zeros_of cells) ∙ ap (value.Struct (move_expr r e)) (sym (zeros_map r cells)))
zero_shape_moved r e no_value = refl

struct_kept : (k : Keep) (e : TypeExpr) (cells : List Value) → IsTrue (keeps_expr k e) → IsTrue (keeps_values k cells) → IsTrue (keeps_value k (value.Struct e cells))
struct_kept k e cells h g = keeps_struct k e cells ∙ and_from (keeps_expr k e) (keeps_values k cells) h g

zero_shape_kept : (k : Keep) (e : TypeExpr) (s : Shape) (v : Value) → IsTrue (keeps_expr k e) → IsTrue (keeps_shape k s) → zero_shape e s ≡ Some v → IsTrue (keeps_value k v)
zero_shape_kept k e reference v h g is = some_is (λ w. IsTrue (keeps_value k w)) value.Null v is (keeps_null k)
zero_shape_kept k e pointer v h g is = some_is (λ w. IsTrue (keeps_value k w)) value.Null v is (keeps_null k)
zero_shape_kept k e (integer code) v h g is = some_is (λ w. IsTrue (keeps_value k w)) (number code (pos 0)) v is (number_kept k code (pos 0))
zero_shape_kept k e type_handle v h g is = some_is (λ w. IsTrue (keeps_value k w)) (value.Struct e []) v is (struct_kept k e [] h refl)
zero_shape_kept k e field_handle v h g is = some_is (λ w. IsTrue (keeps_value k w)) (value.Struct e []) v is (struct_kept k e [] h refl)
zero_shape_kept k e (structure cells) v h g is = some_is (λ w. IsTrue (keeps_value k w)) (value.Struct e (zeros_of cells)) v is (struct_kept k e (zeros_of cells) h (zeros_all k cells g))
zero_shape_kept k e no_value v h g is = cc

-- ---- accesses

abbrev pub keeps_access : Keep → Access → Bool
keeps_access k (by_type e) = keeps_expr k e
keeps_access k _ = true

-- an access that an opcode alone says
pub data Fixed : Option Access → Type 0 where
  fixed_none : Fixed None
  fixed_code : (n : ℕ) → Fixed (Some (by_code n))
  fixed_reference : Fixed (Some by_reference)

access_shape_moved : (r : Rho) (e : TypeExpr) (s : Shape) → access_shape (move_expr r e) (move_shape r s) ≡ move_access r (access_shape e s)
access_shape_moved r e reference = refl
access_shape_moved r e pointer = refl
access_shape_moved r e (integer code) = refl
access_shape_moved r e type_handle = refl
access_shape_moved r e field_handle = refl
access_shape_moved r e (structure cells) = refl
access_shape_moved r e no_value = refl

element_shape_moved : (r : Rho) (e : TypeExpr) (s : Shape) → element_shape (move_expr r e) (move_shape r s) ≡ move_access r (element_shape e s)
element_shape_moved r e reference = refl
element_shape_moved r e pointer = refl
element_shape_moved r e (integer code) = refl
element_shape_moved r e type_handle = refl
element_shape_moved r e field_handle = refl
element_shape_moved r e (structure cells) = refl
element_shape_moved r e no_value = refl

access_shape_kept : (k : Keep) (e : TypeExpr) (s : Shape) → IsTrue (keeps_expr k e) → IsTrue (keeps_access k (access_shape e s))
access_shape_kept k e reference h = h
access_shape_kept k e pointer h = h
access_shape_kept k e (integer code) h = refl
access_shape_kept k e type_handle h = h
access_shape_kept k e field_handle h = h
access_shape_kept k e (structure cells) h = h
access_shape_kept k e no_value h = h

element_shape_kept : (k : Keep) (e : TypeExpr) (s : Shape) → IsTrue (keeps_expr k e) → IsTrue (keeps_access k (element_shape e s))
element_shape_kept k e reference h = refl
element_shape_kept k e pointer h = h
element_shape_kept k e (integer code) h = refl
element_shape_kept k e type_handle h = h
element_shape_kept k e field_handle h = h
element_shape_kept k e (structure cells) h = h
element_shape_kept k e no_value h = h

reference_shape_moved : (r : Rho) (s : Shape) → is_reference_shape (move_shape r s) ≡ is_reference_shape s
reference_shape_moved r reference = refl
reference_shape_moved r pointer = refl
reference_shape_moved r (integer code) = refl
reference_shape_moved r type_handle = refl
reference_shape_moved r field_handle = refl
reference_shape_moved r (structure cells) = refl
reference_shape_moved r no_value = refl

module _ (k : Change) where
  allows_code : (x : ℕ) (e d : TypeExpr) (s : Shape) → allows_shape (by_code x) d (move_shape k.rho s) ≡ allows_shape (by_code x) e s
  allows_code x e d reference = refl
  allows_code x e d pointer = refl
  allows_code x e d (integer code) = refl
  allows_code x e d type_handle = refl
  allows_code x e d field_handle = refl
  allows_code x e d (structure cells) = refl
  allows_code x e d no_value = refl

  allows_shape_moved : (x : Access) (e : TypeExpr) (s : Shape) → allows_shape (move_access k.rho x) (move_expr k.rho e) (move_shape k.rho s) ≡ allows_shape x e s
  allows_shape_moved (by_code x) e s = allows_code x e (move_expr k.rho e) s
  allows_shape_moved by_reference e s = reference_shape_moved k.rho s
  allows_shape_moved (by_type d) e s = same_exprs_moved k.back k.rho k.undone d e

  -- ---- what a load gives

  pub held_moved : (v : Value) → held_number (move_value k.rho v) ≡ held_number v
  unfolding held_number roll-Value denote.Hole.Carrier.roll out-Value denote.Hole.Carrier.out
  held_moved v = alike k.rho held_number (λ p. refl) (λ e cells. refl) (λ e. refl) (λ f. refl) v

  numbers_stay : (code : ℕ) (o : Option ℤ) → option_map (number code) o ≡ option_map (move_value k.rho) (option_map (number code) o)
  numbers_stay code None = refl
  numbers_stay code (Some n) = ap (λ (x : Value). Some x) (sym (number_moved k.rho code n))

  pub shown_moved : (code : ℕ) (v : Value) → shown code (move_value k.rho v) ≡ option_map (move_value k.rho) (shown code v)
  unfolding shown
  shown_moved code v = ap (option_map (number code)) (held_moved v) ∙ numbers_stay code (held_number v)

  shown_kept : (code : ℕ) (v w : Value) → shown code v ≡ Some w → IsTrue (keeps_value k.keep w)
  unfolding shown
  shown_kept code v w e = numbers_kept k.keep code (held_number v) w e

  pub narrowed_kept : (code : ℕ) (v w : Value) → narrowed code v ≡ Some w → IsTrue (keeps_value k.keep w)
  narrowed_kept code v w e = numbers_kept k.keep code (worth code v) w e

  pub loaded_moved : (x : Access) (v : Value) → loaded (move_access k.rho x) (move_value k.rho v) ≡ option_map (move_value k.rho) (loaded x v)
  unfolding loaded
  loaded_moved (by_code code) v = shown_moved code v
  loaded_moved by_reference v = refl
  loaded_moved (by_type e) v = refl

  pub loaded_kept : (x : Access) (v w : Value) → IsTrue (keeps_value k.keep v) → loaded x v ≡ Some w → IsTrue (keeps_value k.keep w)
  unfolding loaded
  loaded_kept (by_code code) v w h e = shown_kept code v w e
  loaded_kept by_reference v w h e = some_is (λ y. IsTrue (keeps_value k.keep y)) v w e h
  loaded_kept (by_type d) v w h e = some_is (λ y. IsTrue (keeps_value k.keep y)) v w e h

  place_by : (s : Shape) (o : Option Value) → as_place (move_shape k.rho s) (option_map (move_value k.rho) o) ≡ option_map (move_value k.rho) (as_place s o)
  place_by (integer code) None = refl
  place_by (integer code) (Some v) = shown_moved code v
  place_by reference o = refl
  place_by pointer o = refl
  place_by type_handle o = refl
  place_by field_handle o = refl
  place_by (structure cells) o = refl
  place_by no_value o = refl

  place_kept : (s : Shape) (o : Option Value) (w : Value) → ((v : Value) → o ≡ Some v → IsTrue (keeps_value k.keep v)) → as_place s o ≡ Some w → IsTrue (keeps_value k.keep w)
  place_kept (integer code) None w h e = cc
  place_kept (integer code) (Some v) w h e = shown_kept code v w e
  place_kept reference o w h e = h w e
  place_kept pointer o w h e = h w e
  place_kept type_handle o w h e = h w e
  place_kept field_handle o w h e = h w e
  place_kept (structure cells) o w h e = h w e
  place_kept no_value o w h e = h w e

  reference_is : (v w : Value) → fits_reference v ≡ Some w → IsTrue (keeps_value k.keep v) → IsTrue (keeps_value k.keep w)
  reference_is value.Null w e h = some_is (λ y. IsTrue (keeps_value k.keep y)) value.Null w e h
  reference_is (value.I4 n) w e h = cc
  reference_is (value.I8 n) w e h = cc
  reference_is (value.Native n) w e h = cc
  reference_is (value.Object a) w e h = some_is (λ y. IsTrue (keeps_value k.keep y)) (value.Object a) w e h
  reference_is (value.Pointer p) w e h = cc
  reference_is (value.Handle t) w e h = cc
  reference_is (value.FieldHandle f) w e h = cc
  reference_is v w e h = cc

  pub fits_reference_kept : (v w : Value) → IsTrue (keeps_value k.keep v) → fits_reference v ≡ Some w → IsTrue (keeps_value k.keep w)
  fits_reference_kept v w h e = reference_is v w e h

-- ---- by a world

module _ (k : Change) (after before : Queries) (a : Agree k after before) where
  pub zero_moved : (e : TypeExpr) → IsTrue (keeps_expr k.keep e) → zero_of after (move_expr k.rho e) ≡ option_map (move_value k.rho) (zero_of before e)
  unfolding zero_of
  zero_moved e h = ap (zero_shape (move_expr k.rho e)) (a.shape e h) ∙ zero_shape_moved k.rho e (before.shape e)

  pub zero_kept : (e : TypeExpr) (v : Value) → IsTrue (keeps_expr k.keep e) → zero_of before e ≡ Some v → IsTrue (keeps_value k.keep v)
  unfolding zero_of
  zero_kept e v h is = zero_shape_kept k.keep e (before.shape e) v h (a.keeps_shapes e h) is

  pub is_reference_moved : (e : TypeExpr) → IsTrue (keeps_expr k.keep e) → is_reference after (move_expr k.rho e) ≡ is_reference before e
  unfolding is_reference
  is_reference_moved e h = ap is_reference_shape (a.shape e h) ∙ reference_shape_moved k.rho (before.shape e)

  pub access_moved : (e : TypeExpr) → IsTrue (keeps_expr k.keep e) → access_of after (move_expr k.rho e) ≡ move_access k.rho (access_of before e)
  unfolding access_of
  access_moved e h = ap (access_shape (move_expr k.rho e)) (a.shape e h) ∙ access_shape_moved k.rho e (before.shape e)

  pub access_kept : (e : TypeExpr) → IsTrue (keeps_expr k.keep e) → IsTrue (keeps_access k.keep (access_of before e))
  unfolding access_of
  access_kept e h = access_shape_kept k.keep e (before.shape e) h

  pub element_access_moved : (e : TypeExpr) → IsTrue (keeps_expr k.keep e) → element_access after (move_expr k.rho e) ≡ move_access k.rho (element_access before e)
  unfolding element_access
  element_access_moved e h = ap (element_shape (move_expr k.rho e)) (a.shape e h) ∙ element_shape_moved k.rho e (before.shape e)

  pub element_access_kept : (e : TypeExpr) → IsTrue (keeps_expr k.keep e) → IsTrue (keeps_access k.keep (element_access before e))
  unfolding element_access
  element_access_kept e h = element_shape_kept k.keep e (before.shape e) h

  pub allows_moved : (x : Access) (e : TypeExpr) → IsTrue (keeps_expr k.keep e) → allows after (move_access k.rho x) (move_expr k.rho e) ≡ allows before x e
  unfolding allows
  allows_moved x e h = ap (allows_shape (move_access k.rho x) (move_expr k.rho e)) (a.shape e h) ∙ allows_shape_moved k x e (before.shape e)

  pub stored_moved : (x : Access) (e : TypeExpr) (v : Value) → IsTrue (keeps_access k.keep x) → IsTrue (keeps_expr k.keep e)
      → stored after (move_access k.rho x) (move_expr k.rho e) (move_value k.rho v) ≡ option_map (move_value k.rho) (stored before x e v)
  unfolding stored
  stored_moved (by_code code) e v h g =
      (λ i. as_place (a.shape e g i) (narrowed_moved k.rho code v i)) ∙ place_by k (before.shape e) (narrowed code v)
  stored_moved by_reference e v h g = fits_reference_moved k.rho v
  stored_moved (by_type d) e v h g = fits_moved k after before a d v h

  pub stored_kept : (x : Access) (e : TypeExpr) (v w : Value) → IsTrue (keeps_value k.keep v) → stored before x e v ≡ Some w → IsTrue (keeps_value k.keep w)
  unfolding stored
  stored_kept (by_code code) e v w h is = place_kept k (before.shape e) (narrowed code v) w (λ x e. narrowed_kept k code v x e) is
  stored_kept by_reference e v w h is = fits_reference_kept k v w h is
  stored_kept (by_type d) e v w h is = fits_kept k after before a d v w h is

  -- ---- slots

  pub all_fit_moved : (es : List TypeExpr) (vs : List Value) → IsTrue (list_all (keeps_expr k.keep) es)
      → all_fit after (move_exprs k.rho es) (move_values k.rho vs) ≡ option_map (move_values k.rho) (all_fit before es vs)
  unfolding all_fit
  all_fit_moved [] [] h = refl
  all_fit_moved [] (v ∷ vs) h = refl
  all_fit_moved (e ∷ es) [] h = refl
  all_fit_moved (e ∷ es) (v ∷ vs) h =
      front_moved_by (move_value k.rho) (fits before e v) (all_fit before es vs) _ _ (fits_moved k after before a e v (first_so (keeps_expr k.keep e) (list_all (keeps_expr k.keep) es) h))
      (all_fit_moved es vs (second_so (keeps_expr k.keep e) (list_all (keeps_expr k.keep) es) h))

  pub all_fit_kept : (es : List TypeExpr) (vs ws : List Value) → IsTrue (keeps_values k.keep vs) → all_fit before es vs ≡ Some ws → IsTrue (keeps_values k.keep ws)
  unfolding all_fit
  all_fit_kept [] [] ws h e = some_is (λ (ys : List Value). IsTrue (keeps_values k.keep ys)) [] ws e refl
  all_fit_kept [] (v ∷ vs) ws h e = cc
  all_fit_kept (d ∷ es) [] ws h e = cc
  all_fit_kept (d ∷ es) (v ∷ vs) ws h e =
      front_kept (keeps_value k.keep) (fits before d v) (all_fit before es vs) ws e
      (λ y is. fits_kept k after before a d v y (first_so (keeps_value k.keep v) (keeps_values k.keep vs) h) is)
      (λ zs is. all_fit_kept es vs zs (second_so (keeps_value k.keep v) (keeps_values k.keep vs) h) is)
