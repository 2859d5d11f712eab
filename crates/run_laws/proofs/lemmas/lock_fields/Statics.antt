-- Static fields.
use Rattle.std.proofs.Common.{◌≡◌, ℕ, Bool, true, false, List, [], ◌∷◌, length, Option, Some, None, refl, sym, ap, subst, ◌∙◌}
use Rattle.std.specs.Prelude.{IsTrue, pos, nat_le, if◌then◌else◌}
use Rattle.std.specs.Option.{option_map, option_and_then}
use Rattle.std.proofs.lemmas.Bool.{and_from}
use Rattle.std.proofs.lemmas.List.{map-append}
use Rattle.byteorder.specs.Endian.{little_number}
use Rattle.il_base.specs.declared.world_model.known.Known.{Known}
use Rattle.il_base.specs.declared.world_model.known.Known.TheVariants.{Good, Bad}
use Rattle.il_base.specs.world_model.Worlds.{known_map}
use Rattle.il_base.specs.declared.world_model.expr.TypeExpr.{TypeExpr}
use Rattle.il_base.specs.declared.cil_values.value.Value.{Value}
use Rattle.il_base.specs.declared.cil_values.value.Value.TheVariants as value
use Rattle.il_base.specs.declared.cil_values.resolved.Instruction.{Instruction}
use Rattle.il_base.specs.declared.cil_values.definition.First.{First}
use Rattle.il_base.specs.declared.cil_values.definition.First.TheVariants.{Blank as blank, Bytes as bytes, EmptyText as empty_text}
use Rattle.il_base.specs.declared.cil_values.layout.Shape.{Shape}
use Rattle.il_base.specs.declared.cil_values.layout.Shape.TheVariants.{Reference as reference, Pointer as pointer, Integer as integer, TypeHandle as type_handle, FieldHandle as field_handle, Structure as structure, NoValue as no_value}
use Rattle.il_base.specs.declared.cil_values.state.State.{State}
use Rattle.il_base.specs.declared.cil_values.state.Global.{Global}
use Rattle.rules.specs.step_rules.Queries.{Queries}
use Rattle.rules.specs.step_rules.Next.{Next}
use Rattle.rules.specs.step_rules.Words.{Here, args_of, good, goes}
use Rattle.rules.specs.step_rules.Objects.{interned}
use Rattle.rules.specs.step_rules.Closing.{Accessed, closed_cell}
use Rattle.rules.specs.step_rules.Integers.{number, width_of}
use Rattle.rules.specs.step_rules.Stores.{fits, zero_of}
use Rattle.rules.specs.step_rules.Places.{global_of, with_global}
use Rattle.rules.specs.step_rules.Fields.{static_type, with_value, begins_with, number_in, value_of_bytes, first_value, begun_static, with_static, static_path, load_static, address_static, store_static}
use Rattle.rules.specs.change_rules.Change.{Rho, Keep, Change}
use Rattle.rules.specs.change_rules.Moves.{move_expr, move_value, move_values, move_path}
use Rattle.rules.specs.change_rules.Answers.{move_shape, move_here, move_instruction, move_accessed}
use Rattle.rules.specs.change_rules.States.{move_global, move_state}
use Rattle.rules.specs.change_rules.Keeps.{keeps_expr, keeps_value, keeps_values, if_good}
use Rattle.rules.specs.change_rules.Covered.{keeps_global, Covered}
use Rattle.rules.specs.change_rules.Agree.{Agree}
use Rattle.rules.specs.change_rules.Lock.{Lock}
use Rattle.base_laws.proofs.lemmas.change_laws.Lists.{all_joined, all_push}
use Rattle.base_laws.proofs.lemmas.change_laws.Values.{move_object, move_pointer, keeps_object, keeps_pointer}
use Rattle.run_laws.proofs.lemmas.lock_words.Words.{stopped_lock, given_moved, had_moved, goes_lock, push_lock}
use Rattle.run_laws.proofs.lemmas.lock_words.Types.{closed_cell_moved, closed_cell_kept}
use Rattle.run_laws.proofs.lemmas.lock_words.Definitions.{args_moved, args_shown}
use Rattle.run_laws.proofs.lemmas.lock_words.Fits.{number_moved, number_kept, fits_moved, fits_kept}
use Rattle.run_laws.proofs.lemmas.lock_places.Options.{if_is, some_is}
use Rattle.run_laws.proofs.lemmas.lock_places.Closing.{KeptAccessed}
use Rattle.run_laws.proofs.lemmas.lock_places.Stores.{zero_moved, zero_kept}
use Rattle.run_laws.proofs.lemmas.lock_places.Places.{global_moved, global_kept}
use Rattle.run_laws.proofs.lemmas.lock_places.Puts.{with_global_moved, with_global_covered}
use Rattle.run_laws.proofs.lemmas.lock_fields.Texts.{interned_lock}

-- ---- the value that a field begins with

number_by : (r : Rho) (b : Bool) (v : Value) → move_value r v ≡ v → (if b then Some v else None) ≡ option_map (move_value r) (if b then Some v else None)
number_by r true v e = ap (λ (x : Value). Some x) (sym e)
number_by r false v e = refl

pub number_in_moved : (r : Rho) (code : ℕ) (bs : List ℕ) → number_in code bs ≡ option_map (move_value r) (number_in code bs)
number_in_moved r code bs =
    number_by r (nat_le (width_of code) (length bs)) (number code (pos (little_number (width_of code) bs))) (number_moved r code (pos (little_number (width_of code) bs)))

number_in_kept : (k : Keep) (code : ℕ) (bs : List ℕ) (v : Value) → number_in code bs ≡ Some v → IsTrue (keeps_value k v)
number_in_kept k code bs v e =
    some_is (λ w. IsTrue (keeps_value k w)) (number code (pos (little_number (width_of code) bs))) v (if_is (nat_le (width_of code) (length bs)) _ v e) (number_kept k code (pos (little_number (width_of code) bs)))

module _ (k : Change) (after before : Queries) (a : Agree k after before) where
  type_by : (x : Accessed) → IsTrue (keeps_expr k.keep x.owner) → (o : Known TypeExpr) → IsTrue (if_good (keeps_expr k.keep) o)
      → option_and_then (closed_cell after (args_of (move_expr k.rho x.owner)) []) (good (known_map (move_expr k.rho) o)) ≡ option_map (move_expr k.rho) (option_and_then (closed_cell before (args_of x.owner) []) (good o))
  type_by x h (Good e) g =
      ap (λ (ts : List TypeExpr). closed_cell after ts [] (move_expr k.rho e)) (args_moved k.rho x.owner) ∙ closed_cell_moved k after before a (args_of x.owner) [] (args_shown k.keep x.owner h) refl e g
  type_by x h (Bad why) g = refl

  type_kept_by : (x : Accessed) → IsTrue (keeps_expr k.keep x.owner) → (o : Known TypeExpr) (e : TypeExpr) → IsTrue (if_good (keeps_expr k.keep) o) → option_and_then (closed_cell before (args_of x.owner) []) (good o) ≡ Some e
      → IsTrue (keeps_expr k.keep e)
  type_kept_by x h (Good d) e g is = closed_cell_kept k after before a (args_of x.owner) [] (args_shown k.keep x.owner h) refl d e g is
  type_kept_by x h (Bad why) e g is = cc

  static_type_moved : (x : Accessed) → KeptAccessed k.keep before x → static_type after (move_accessed k.rho x) ≡ option_map (move_expr k.rho) (static_type before x)
  unfolding static_type
  static_type_moved x h = type_by x h.owner x.field.typ h.field

  static_type_kept : (x : Accessed) (e : TypeExpr) → KeptAccessed k.keep before x → static_type before x ≡ Some e → IsTrue (keeps_expr k.keep e)
  unfolding static_type
  static_type_kept x e h is = type_kept_by x h.owner x.field.typ e h.field is

  bytes_by : (e : TypeExpr) → IsTrue (keeps_expr k.keep e) → (bs : List ℕ) (s : Shape) → value_of_bytes after (move_expr k.rho e) bs (move_shape k.rho s) ≡ option_map (move_value k.rho) (value_of_bytes before e bs s)
  bytes_by e h bs (integer code) = number_in_moved k.rho code bs
  bytes_by e h bs reference = zero_moved k after before a e h
  bytes_by e h bs pointer = zero_moved k after before a e h
  bytes_by e h bs type_handle = zero_moved k after before a e h
  bytes_by e h bs field_handle = zero_moved k after before a e h
  bytes_by e h bs (structure ls) = zero_moved k after before a e h
  bytes_by e h bs no_value = zero_moved k after before a e h

  bytes_kept : (e : TypeExpr) → IsTrue (keeps_expr k.keep e) → (bs : List ℕ) (s : Shape) (v : Value) → value_of_bytes before e bs s ≡ Some v → IsTrue (keeps_value k.keep v)
  bytes_kept e h bs (integer code) v is = number_in_kept k.keep code bs v is
  bytes_kept e h bs reference v is = zero_kept k after before a e v h is
  bytes_kept e h bs pointer v is = zero_kept k after before a e v h is
  bytes_kept e h bs type_handle v is = zero_kept k after before a e v h is
  bytes_kept e h bs field_handle v is = zero_kept k after before a e v h is
  bytes_kept e h bs (structure ls) v is = zero_kept k after before a e v h is
  bytes_kept e h bs no_value v is = zero_kept k after before a e v h is

  with_value_moved : (x : Accessed) (v : Value) (s : State) → with_value (move_accessed k.rho x) (move_value k.rho v) (move_state k before s) ≡ move_state k before (with_value x v s)
  with_value_moved x v s = λ i. record (move_state k before s) { statics = sym (map-append (move_global k.rho) s.statics (record { field = x.id; owner = x.owner; value = v } ∷ [])) i }

  with_value_covered : (x : Accessed) (v : Value) (s : State) → KeptAccessed k.keep before x → IsTrue (keeps_value k.keep v) → Covered k.keep before s → Covered k.keep before (with_value x v s)
  with_value_covered x v s h hv c =
      let g : Global = record { field = x.id; owner = x.owner; value = v } in
      record {
        heap = c.heap;
        inits = c.inits;
        top = c.top;
        below = c.below;
        statics = all_joined (keeps_global k.keep) s.statics (g ∷ []) c.statics
            (all_push (keeps_global k.keep) g [] (and_from _ (keeps_value k.keep v) (and_from (k.keep.field x.id) (keeps_expr k.keep x.owner) h.id h.owner) hv) refl);
      }

  module _ (x : Accessed) (h : KeptAccessed k.keep before x) (f g : State → Next) (l : (t : State) → Covered k.keep before t → Lock k before (f (move_state k before t)) (g t)) where
    begins_lock : (s : State) (v : Value) → Covered k.keep before s → IsTrue (keeps_value k.keep v)
        → Lock k before (begins_with (move_accessed k.rho x) (move_state k before s) f (move_value k.rho v)) (begins_with x s g v)
    begins_lock s v c hv = subst (λ (t : State). Lock k before (f t) (g (with_value x v s))) (sym (with_value_moved x v s)) (l (with_value x v s) (with_value_covered x v s h hv c))

    text_begins : (s : State) → Covered k.keep before s
        → Lock k before (interned [] (move_state k before s) (λ o t. f (with_value (move_accessed k.rho x) (value.Object o) t))) (interned [] s (λ o t. g (with_value x (value.Object o) t)))
    text_begins s c =
        interned_lock k after before a [] s (λ o t. f (with_value (move_accessed k.rho x) (value.Object o) t)) (λ o t. g (with_value x (value.Object o) t)) c
        (λ o t ct. subst (λ (v : Value). Lock k before (f (with_value (move_accessed k.rho x) v (move_state k before t))) (g (with_value x (value.Object o) t))) (move_object k.rho o)
        (begins_lock t (value.Object o) ct (keeps_object k.keep o)))

    first_lock : (s : State) (e : TypeExpr) → Covered k.keep before s → IsTrue (keeps_expr k.keep e) → (y : First)
        → Lock k before (first_value after (move_accessed k.rho x) (move_state k before s) f (move_expr k.rho e) y) (first_value before x s g e y)
    first_lock s e c he blank = had_moved k before (move_value k.rho) (zero_of before e) _ s _ _ (zero_moved k after before a e he) (λ v is. begins_lock s v c (zero_kept k after before a e v he is))
    first_lock s e c he (bytes (Good bs)) =
        had_moved k before (move_value k.rho) (value_of_bytes before e bs (before.shape e)) _ s _ _
        (ap (value_of_bytes after (move_expr k.rho e) bs) (a.shape e he) ∙ bytes_by e he bs (before.shape e)) (λ v is. begins_lock s v c (bytes_kept e he bs (before.shape e) v is))
    first_lock s e c he (bytes (Bad why)) = stopped_lock k before s
    first_lock s e c he empty_text = text_begins s c

    begun_lock : (s : State) (e : TypeExpr) → Covered k.keep before s → IsTrue (keeps_expr k.keep e) → (o : Option Value)
        → Lock k before (begun_static after (move_accessed k.rho x) (move_state k before s) f (move_expr k.rho e) (option_map (move_value k.rho) o)) (begun_static before x s g e o)
    begun_lock s e c he (Some v) = l s c
    begun_lock s e c he None = first_lock s e c he x.field.first

  pub with_static_lock : (x : Accessed) (s : State) (f g : TypeExpr → State → Next) → KeptAccessed k.keep before x → Covered k.keep before s
      → ((e : TypeExpr) (t : State) → IsTrue (keeps_expr k.keep e) → Covered k.keep before t → Lock k before (f (move_expr k.rho e) (move_state k before t)) (g e t))
      → Lock k before (with_static after (move_accessed k.rho x) (move_state k before s) f) (with_static before x s g)
  unfolding with_static
  with_static_lock x s f g h c l =
      had_moved k before (move_expr k.rho) (static_type before x) _ s _ _ (static_type_moved x h) (λ e is.
      let he : IsTrue (keeps_expr k.keep e) = static_type_kept x e h is in
      subst (λ (o : Option Value). Lock k before (begun_static after (move_accessed k.rho x) (move_state k before s) (f (move_expr k.rho e)) (move_expr k.rho e) o) (begun_static before x s (g e) e (global_of s x.id x.owner)))
      (sym (global_moved k before s x.id x.owner))
      (begun_lock x h (f (move_expr k.rho e)) (g e) (λ t ct. l e t he ct) s e c he (global_of s x.id x.owner)))

  -- ---- `ldsfld`, `ldsflda`, `stsfld`

  module _ (here : Here) (i : Instruction) (x : Accessed) (h : KeptAccessed k.keep before x) (stack : List Value) (hs : IsTrue (keeps_values k.keep stack)) (s : State) (c : Covered k.keep before s) where
    pub load_static_lock : Lock k before (load_static after (move_here k.rho here) (move_instruction k.rho i) (move_accessed k.rho x) (move_values k.rho stack) (move_state k before s)) (load_static before here i x stack s)
    load_static_lock =
        with_static_lock x s _ _ h c (λ e t he ct.
        had_moved k before (move_value k.rho) (global_of t x.id x.owner) _ t _ _ (global_moved k before t x.id x.owner) (λ v is.
        goes_lock k before here i (v ∷ stack) t ct (all_push (keeps_value k.keep) v stack (global_kept k before t x.id x.owner v ct is) hs)))

    pub address_static_lock : Lock k before (address_static after (move_here k.rho here) (move_instruction k.rho i) (move_accessed k.rho x) (move_values k.rho stack) (move_state k before s)) (address_static before here i x stack s)
    address_static_lock =
        with_static_lock x s (λ e t. goes (move_here k.rho here) (move_instruction k.rho i) (value.Pointer (static_path (move_accessed k.rho x) e) ∷ move_values k.rho stack) t)
        (λ e t. goes here i (value.Pointer (static_path x e) ∷ stack) t) h c (λ e t he ct.
        push_lock k before here i (value.Pointer (move_path k.rho (static_path x e))) (value.Pointer (static_path x e)) stack t (sym (move_pointer k.rho (static_path x e))) ct
        (keeps_pointer k.keep (static_path x e) ∙ and_from _ (keeps_expr k.keep e) (and_from (k.keep.field x.id) (keeps_expr k.keep x.owner) h.id h.owner) he) hs)

    pub store_static_lock : (v : Value) → IsTrue (keeps_value k.keep v)
        → Lock k before (store_static after (move_here k.rho here) (move_instruction k.rho i) (move_accessed k.rho x) (move_value k.rho v) (move_values k.rho stack) (move_state k before s)) (store_static before here i x v stack s)
    store_static_lock v hv =
        with_static_lock x s _ _ h c (λ e t he ct.
        given_moved k before (move_value k.rho) (fits before e v) _ t _ _ (fits_moved k after before a e v he) (λ w is.
        subst (λ (u : State). Lock k before (goes (move_here k.rho here) (move_instruction k.rho i) (move_values k.rho stack) u) (goes here i stack (with_global x.id x.owner w t))) (sym (with_global_moved k before x.id x.owner w t))
        (goes_lock k before here i stack (with_global x.id x.owner w t) (with_global_covered k before x.id x.owner w t ct (fits_kept k after before a e v w hv is)) hs)))
