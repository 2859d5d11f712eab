-- Members that look at types alone: in both worlds the same object stands for a type. No object of a member is there.
use Rattle.std.proofs.Common.{◌≡◌, ℕ, Bool, true, false, ◌&&◌, not, List, [], ◌∷◌, ◌++◌, Option, Some, None, refl, sym, ap, subst, ◌∙◌}
use Rattle.std.specs.Prelude.{IsTrue, find}
use Rattle.std.specs.Option.{option_map, option_and_then}
use Rattle.il_base.specs.declared.type_flags.TheConstants.{INTERFACE}
use Rattle.il_base.specs.declared.world_model.expr.TypeExpr.{TypeExpr, fold-roll-TypeExpr, ind-TypeExpr, out-TypeExpr, roll-TypeExpr}
use Rattle.il_base.specs.declared.world_model.expr.TypeExpr.TheFolds.{map-TypeExpr}
use Rattle.il_base.specs.declared.world_model.expr.TypeExpr.TheOpen.{TypeExpr-F}
use Rattle.il_base.specs.declared.world_model.expr.TypeExpr.TheVariants as expr
use Rattle.il_base.specs.world_model.Exprs.{same_expr}
use Rattle.il_base.specs.declared.core_table.names.CoreName.{CoreName}
use Rattle.il_base.specs.declared.core_table.names.CoreName.TheVariants as name
use Rattle.il_base.specs.declared.cil_values.value.Value.{Value, out-Value, roll-Value}
use Rattle.il_base.specs.declared.cil_values.value.Value.TheVariants as value
use Rattle.il_base.specs.declared.cil_values.object.Obj.{Obj}
use Rattle.il_base.specs.declared.cil_values.object.Obj.TheVariants as object
use Rattle.il_base.specs.declared.cil_values.state.State.{State}
use Rattle.rules.specs.declared.type_rules.found_member.FoundMember.{FoundMember}
use Rattle.rules.specs.step_rules.Queries.{Queries}
use Rattle.rules.specs.step_rules.Next.{Next}
use Rattle.rules.specs.step_rules.Words.{stuck, given, object_at}
use Rattle.rules.specs.step_rules.Objects.{type_of, core_type, units_of_bytes}
use Rattle.rules.specs.step_rules.Frames.{definition_of, head_of, head_has}
use Rattle.rules.specs.step_rules.CoreWords.{Gives, gives_value, gives_truth, gives_text}
use Rattle.rules.specs.step_rules.CoreObjects.{is_same}
use Rattle.rules.specs.step_rules.CoreTypes.{typed_in, typed_at, typed_by, is_type, type_object, with_type, typed, gives_type, handle_type, type_from_handle_form, object_type, object_type_form, gives_encloser, type_text_form, constructed_layer, is_constructed, full_name, type_full_name_form, gives_space, type_namespace_form, type_other_form, fits_type, type_fits_form, is_object_of, type_has_form, is_value_type, type_is_value_form, type_is_interface_form, is_array_in, type_is_array_form}
use Rattle.rules.specs.step_rules.CoreMembers.{member_in, member_by, name_of, member_name_form, owner_by, member_owner_form}
use Rattle.rules.specs.change_rules.Change.{Rho, Change}
use Rattle.rules.specs.change_rules.Moves.{move_expr, move_value, move_values}
use Rattle.rules.specs.change_rules.States.{move_obj, move_state}
use Rattle.rules.specs.change_rules.Keeps.{both, shows_expr, keeps_value, keeps_values}
use Rattle.rules.specs.change_rules.Covered.{keeps_obj, Covered}
use Rattle.rules.specs.change_rules.Agree.{Agree, is_asked}
use Rattle.rules.specs.change_rules.Lock.{Lock, GivesLock}
use Rattle.base_laws.proofs.lemmas.change_laws.Exprs.{With, plain_parts, moved_in, move_rolled, move_def, out_moved}
use Rattle.base_laws.proofs.lemmas.change_laws.Subst.{names_def}
use Rattle.base_laws.proofs.lemmas.change_laws.Same.{same_exprs_moved}
use Rattle.base_laws.proofs.lemmas.change_laws.Defined.{kept_defined}
use Rattle.base_laws.proofs.lemmas.change_laws.Values.{move_null, move_object, keeps_null, keeps_object}
use Rattle.run_laws.proofs.lemmas.lock_words.Words.{stuck_lock, stopped_lock, given_same, given_moved, if_lock, made_lock}
use Rattle.run_laws.proofs.lemmas.lock_words.Cases.{moved_cases, kept_cases}
use Rattle.run_laws.proofs.lemmas.lock_words.Definitions.{definition_moved, definition_shown}
use Rattle.run_laws.proofs.lemmas.lock_throwing.Objects.{made_shown, shown_kept, core_moved, core_kept, type_of_moved, type_of_made, object_moved, object_kept, is_a_at}
use Rattle.run_laws.proofs.lemmas.lock_throwing.Searching.{raise_lock}
use Rattle.run_laws.proofs.lemmas.lock_places.Options.{Through, through_is, some_is}
use Rattle.run_laws.proofs.lemmas.lock_frames.Entering.{head_moved}
use Rattle.run_laws.proofs.lemmas.lock_members.Giving.{still_lock, truth_lock, text_lock}
use Rattle.run_laws.proofs.lemmas.lock_members.Objects.{head_kept, is_same_moved}

null_asked : IsTrue (is_asked name.NullReferenceException)
unfolding is_asked
null_asked = refl

value_type_asked : IsTrue (is_asked name.ValueType)
unfolding is_asked
value_type_asked = refl

enum_asked : IsTrue (is_asked name.Enum)
unfolding is_asked
enum_asked = refl

-- ---- what is read of a type alone

module _ (r : Rho) where
  constructed_rolled : (x : TypeExpr-F TypeExpr) → is_constructed (roll-TypeExpr x) ≡ constructed_layer (map-TypeExpr TypeExpr Bool is_constructed x)
  unfolding is_constructed
  constructed_rolled x = fold-roll-TypeExpr Bool constructed_layer x

  abbrev IsAlike : TypeExpr → Type 0
  IsAlike e = is_constructed (move_expr r e) ≡ is_constructed e

  constructed_in : (y : TypeExpr-F (With IsAlike))
      → constructed_layer (map-TypeExpr TypeExpr Bool is_constructed (moved_in r (plain_parts IsAlike y))) ≡ constructed_layer (map-TypeExpr TypeExpr Bool is_constructed (plain_parts IsAlike y))
  constructed_in (TypeExpr-F.Prim n) = refl
  constructed_in (TypeExpr-F.Def t) = refl
  constructed_in (TypeExpr-F.Inst t xs) = refl
  constructed_in (TypeExpr-F.Array x) = x.1
  constructed_in (TypeExpr-F.ByRef x) = x.1
  constructed_in (TypeExpr-F.Var n) = refl
  constructed_in (TypeExpr-F.MVar n) = refl
  constructed_in (TypeExpr-F.Mod required by x) = x.1

  constructed_by : (y : TypeExpr-F (With IsAlike)) → IsAlike (roll-TypeExpr (plain_parts IsAlike y))
  constructed_by y =
      let x : TypeExpr-F TypeExpr = plain_parts IsAlike y in
      ap is_constructed (move_rolled r x) ∙ constructed_rolled (moved_in r x) ∙ constructed_in y ∙ sym (constructed_rolled x)

  constructed_moved : (e : TypeExpr) → is_constructed (move_expr r e) ≡ is_constructed e
  constructed_moved = ind-TypeExpr IsAlike (λ x y is. subst (λ z. IsAlike (roll-TypeExpr z)) is (constructed_by y))

  array_in_moved : (x : TypeExpr-F TypeExpr) → is_array_in (moved_in r x) ≡ is_array_in x
  array_in_moved (TypeExpr-F.Prim n) = refl
  array_in_moved (TypeExpr-F.Def t) = refl
  array_in_moved (TypeExpr-F.Inst t args) = refl
  array_in_moved (TypeExpr-F.Array x) = refl
  array_in_moved (TypeExpr-F.ByRef x) = refl
  array_in_moved (TypeExpr-F.Var n) = refl
  array_in_moved (TypeExpr-F.MVar n) = refl
  array_in_moved (TypeExpr-F.Mod required by x) = refl

  array_moved : (e : TypeExpr) → is_array_in (out-TypeExpr (move_expr r e)) ≡ is_array_in (out-TypeExpr e)
  array_moved e = ap is_array_in (out_moved r e) ∙ array_in_moved (out-TypeExpr e)

module _ (k : Change) (after before : Queries) (a : Agree k after before) where
  -- ---- the type whose object a value names

  typed_at_moved : (o : Option Obj) → typed_at (option_map (move_obj k before) o) ≡ option_map (move_expr k.rho) (typed_at o)
  typed_at_moved None = refl
  typed_at_moved (Some (object.Instance of cells)) = refl
  typed_at_moved (Some (object.Boxed of v)) = refl
  typed_at_moved (Some (object.Array of cells)) = refl
  typed_at_moved (Some (object.Str units)) = refl
  typed_at_moved (Some (object.TypeOf e)) = refl
  typed_at_moved (Some (object.Member m e)) = refl

  at_moved : (s : State) (n : ℕ) → typed_at (object_at (move_state k before s) n) ≡ option_map (move_expr k.rho) (typed_at (object_at s n))
  at_moved s n = ap typed_at (object_moved k after before a s n) ∙ typed_at_moved (object_at s n)

  typed_moved : (s : State) (v : Value) → typed_by (move_state k before s) (move_value k.rho v) ≡ option_map (move_expr k.rho) (typed_by s v)
  unfolding typed_by roll-Value denote.Hole.Carrier.roll out-Value denote.Hole.Carrier.out
  typed_moved s =
      moved_cases k.rho (λ w v. typed_by (move_state k before s) w ≡ option_map (move_expr k.rho) (typed_by s v)) refl (λ n. refl) (λ n. refl) (λ n. refl) (λ n. at_moved s n)
      (λ p. refl) (λ e cells. refl) (λ e. refl) (λ f. refl)

  shown_in : (o : Obj) (e : TypeExpr) → IsTrue (keeps_obj k.keep before o) → typed_in o ≡ Some e → IsTrue (shows_expr k.keep e)
  shown_in (object.Instance of cells) e h is = cc
  shown_in (object.Boxed of v) e h is = cc
  shown_in (object.Array of cells) e h is = cc
  shown_in (object.Str units) e h is = cc
  shown_in (object.TypeOf d) e h is = some_is (λ (x : TypeExpr). IsTrue (shows_expr k.keep x)) d e is h
  shown_in (object.Member m d) e h is = cc

  typed_shown : (s : State) → Covered k.keep before s → (v : Value) (e : TypeExpr) → typed_by s v ≡ Some e → IsTrue (shows_expr k.keep e)
  unfolding typed_by
  typed_shown s c value.Null e is = cc
  typed_shown s c (value.I4 n) e is = cc
  typed_shown s c (value.I8 n) e is = cc
  typed_shown s c (value.Native n) e is = cc
  typed_shown s c (value.Object n) e is =
      let t : Through typed_in (object_at s n) e = through_is _ _ _ is in
      shown_in t.x e (object_kept k after before a s c n t.x t.there) t.is
  typed_shown s c (value.Pointer p) e is = cc
  typed_shown s c (value.Handle d) e is = cc
  typed_shown s c (value.FieldHandle f) e is = cc
  typed_shown s c v e is = cc

  -- ---- no value names the object of a member

  none_in : (o : Obj) → IsTrue (keeps_obj k.keep before o) → member_in o ≡ None
  none_in (object.Instance of cells) h = refl
  none_in (object.Boxed of v) h = refl
  none_in (object.Array of cells) h = refl
  none_in (object.Str units) h = refl
  none_in (object.TypeOf e) h = refl
  none_in (object.Member m e) h = absurd (let f : false ≡ true = h in cc)

  none_moved : (o : Obj) → IsTrue (keeps_obj k.keep before o) → member_in (move_obj k before o) ≡ None
  none_moved (object.Instance of cells) h = refl
  none_moved (object.Boxed of v) h = refl
  none_moved (object.Array of cells) h = refl
  none_moved (object.Str units) h = refl
  none_moved (object.TypeOf e) h = refl
  none_moved (object.Member m e) h = absurd (let f : false ≡ true = h in cc)

  none_by : (o : Option Obj) → ((x : Obj) → o ≡ Some x → IsTrue (keeps_obj k.keep before x)) → option_and_then member_in o ≡ None
  none_by None h = refl
  none_by (Some x) h = none_in x (h x refl)

  none_moved_by : (o : Option Obj) → ((x : Obj) → o ≡ Some x → IsTrue (keeps_obj k.keep before x)) → option_and_then member_in (option_map (move_obj k before) o) ≡ None
  none_moved_by None h = refl
  none_moved_by (Some x) h = none_moved x (h x refl)

  none_named : (s : State) → Covered k.keep before s → (v : Value) → member_by s v ≡ None
  unfolding member_by
  none_named s c value.Null = refl
  none_named s c (value.I4 n) = refl
  none_named s c (value.I8 n) = refl
  none_named s c (value.Native n) = refl
  none_named s c (value.Object n) = none_by (object_at s n) (λ x is. object_kept k after before a s c n x is)
  none_named s c (value.Pointer p) = refl
  none_named s c (value.Handle d) = refl
  none_named s c (value.FieldHandle f) = refl
  none_named s c v = refl

  none_there : (s : State) → Covered k.keep before s → (v : Value) → member_by (move_state k before s) (move_value k.rho v) ≡ None
  unfolding member_by roll-Value denote.Hole.Carrier.roll out-Value denote.Hole.Carrier.out
  none_there s c =
      moved_cases k.rho (λ w v. member_by (move_state k before s) w ≡ None) refl (λ n. refl) (λ n. refl) (λ n. refl)
      (λ n. ap (option_and_then member_in) (object_moved k after before a s n) ∙ none_moved_by (object_at s n) (λ x is. object_kept k after before a s c n x is))
      (λ p. refl) (λ e cells. refl) (λ e. refl) (λ f. refl)

  -- ---- the object of a type

  is_type_moved : (e : TypeExpr) (o : Option TypeExpr) → is_type (move_expr k.rho e) (option_map (move_expr k.rho) o) ≡ is_type e o
  is_type_moved e None = refl
  is_type_moved e (Some other) = same_exprs_moved k.back k.rho k.undone other e

  object_same : (s : State) (e : TypeExpr) → type_object (move_state k before s) (move_expr k.rho e) ≡ type_object s e
  unfolding type_object
  object_same s e = ap (λ (p : ℕ → Bool). find p s.types) (λ i n. (ap (is_type (move_expr k.rho e)) (at_moved s n) ∙ is_type_moved e (typed_at (object_at s n))) i)

  with_type_lock : (e : TypeExpr) → IsTrue (shows_expr k.keep e) → (s : State) (f g : ℕ → State → Next) → Covered k.keep before s
      → ((n : ℕ) (t : State) → Covered k.keep before t → Lock k before (f n (move_state k before t)) (g n t)) → (o : Option ℕ)
      → Lock k before (with_type (move_expr k.rho e) (move_state k before s) f o) (with_type e s g o)
  with_type_lock e h s f g c l (Some n) = l n s c
  with_type_lock e h s f g c l None =
      made_lock k before (object.TypeOf e) s (λ n t. f n (record t { types = t.types ++ n ∷ [] })) (λ n t. g n (record t { types = t.types ++ n ∷ [] })) c h
      (λ n t ct. l n (record t { types = t.types ++ n ∷ [] }) (record { heap = ct.heap; statics = ct.statics; inits = ct.inits; top = ct.top; below = ct.below }))

  pub typed_lock : (e : TypeExpr) → IsTrue (shows_expr k.keep e) → (s : State) (f g : ℕ → State → Next) → Covered k.keep before s
      → ((n : ℕ) (t : State) → Covered k.keep before t → Lock k before (f n (move_state k before t)) (g n t))
      → Lock k before (typed (move_expr k.rho e) (move_state k before s) f) (typed e s g)
  unfolding typed
  typed_lock e h s f g c l =
      subst (λ (o : Option ℕ). Lock k before (with_type (move_expr k.rho e) (move_state k before s) f o) (with_type e s g (type_object s e))) (sym (object_same s e))
      (with_type_lock e h s f g c l (type_object s e))

  module _ (s : State) (c : Covered k.keep before s) (f g : Gives) (gl : GivesLock k before f g) where
    out : Lock k before (stuck (move_state k before s)) (stuck s)
    out = stuck_lock k before s

    null_lock : Lock k before (gives_value value.Null (move_state k before s) f) (gives_value value.Null s g)
    null_lock = still_lock k after before a f g gl value.Null value.Null s (sym (move_null k.rho)) c (keeps_null k.keep)

    gives_type_lock : (e : TypeExpr) → IsTrue (shows_expr k.keep e) → Lock k before (gives_type (move_expr k.rho e) (move_state k before s) f) (gives_type e s g)
    gives_type_lock e h =
        typed_lock e h s (λ n t. gives_value (value.Object n) t f) (λ n t. gives_value (value.Object n) t g) c
        (λ n t ct. still_lock k after before a f g gl (value.Object n) (value.Object n) t (sym (move_object k.rho n)) ct (keeps_object k.keep n))

    -- a text that both worlds have
    bytes_lock : (new old : List ℕ) → new ≡ old → Lock k before (gives_text (units_of_bytes new) (move_state k before s) f) (gives_text (units_of_bytes old) s g)
    bytes_lock new old e =
        subst (λ (t : List ℕ). Lock k before (gives_text (units_of_bytes t) (move_state k before s) f) (gives_text (units_of_bytes old) s g)) (sym e) (text_lock k after before a f g gl (units_of_bytes old) s c)

    -- a test that both worlds answer alike
    same_truth : (new old : Bool) → new ≡ old → Lock k before (gives_truth new (move_state k before s) f) (gives_truth old s g)
    same_truth new old e = subst (λ (b : Bool). Lock k before (gives_truth b (move_state k before s) f) (gives_truth old s g)) (sym e) (truth_lock k after before a f g gl old s c)

    -- what goes on with the type whose object a value names
    on_type_lock : (v : Value) (F G : TypeExpr → Next) → ((e : TypeExpr) → IsTrue (shows_expr k.keep e) → Lock k before (F (move_expr k.rho e)) (G e))
        → Lock k before (given (typed_by (move_state k before s) (move_value k.rho v)) (move_state k before s) F) (given (typed_by s v) s G)
    on_type_lock v F G l = given_moved k before (move_expr k.rho) (typed_by s v) _ s F G (typed_moved s v) (λ e is. l e (typed_shown s c v e is))

    -- ---- how Type objects come

    handle_lock : (v : Value) → IsTrue (keeps_value k.keep v) → Lock k before (handle_type (move_state k before s) f (move_value k.rho v)) (handle_type s g v)
    unfolding roll-Value denote.Hole.Carrier.roll out-Value denote.Hole.Carrier.out
    handle_lock =
        kept_cases k (λ w v. Lock k before (handle_type (move_state k before s) f w) (handle_type s g v)) null_lock (λ n. null_lock) (λ n. null_lock) (λ n. null_lock) (λ n. null_lock)
        (λ p h. null_lock) (λ d cells h q. null_lock) (λ e h. gives_type_lock e h) (λ d h. null_lock)

    pub type_from_handle_lock : (args : List Value) → IsTrue (keeps_values k.keep args)
        → Lock k before (type_from_handle_form after (move_values k.rho args) (move_state k before s) f) (type_from_handle_form before args s g)
    unfolding type_from_handle_form
    type_from_handle_lock (v ∷ []) h = handle_lock v (head_kept k after before a v [] h)
    type_from_handle_lock _ h = out

    of_object : (o : Obj) → IsTrue (keeps_obj k.keep before o) → Lock k before (gives_type (type_of after (move_obj k before o)) (move_state k before s) f) (gives_type (type_of before o) s g)
    of_object o h =
        subst (λ (t : TypeExpr). Lock k before (gives_type t (move_state k before s) f) (gives_type (type_of before o) s g)) (sym (type_of_moved k after before a o))
        (gives_type_lock (type_of before o) (made_shown k.keep (type_of before o) (type_of_made k after before a o h)))

    object_lock : (v : Value) → IsTrue (keeps_value k.keep v) → Lock k before (object_type after (move_state k before s) f (move_value k.rho v)) (object_type before s g v)
    unfolding roll-Value denote.Hole.Carrier.roll out-Value denote.Hole.Carrier.out
    object_lock =
        kept_cases k (λ w v. Lock k before (object_type after (move_state k before s) f w) (object_type before s g v)) out (λ n. out) (λ n. out) (λ n. out)
        (λ n. given_moved k before (move_obj k before) (object_at s n) _ s _ _ (object_moved k after before a s n) (λ o is. of_object o (object_kept k after before a s c n o is)))
        (λ p h. out) (λ d cells h q. out) (λ d h. out) (λ d h. out)

    pub object_type_lock : (args : List Value) → IsTrue (keeps_values k.keep args) → Lock k before (object_type_form after (move_values k.rho args) (move_state k before s) f) (object_type_form before args s g)
    unfolding object_type_form
    object_type_lock (v ∷ []) h = object_lock v (head_kept k after before a v [] h)
    object_type_lock _ h = out

    -- ---- the type around a type

    around_by : (o : Option ℕ) → ((t : ℕ) → o ≡ Some t → IsTrue (k.keep.shown t)) → option_and_then after.encloser (option_map k.rho.typ o) ≡ option_map k.rho.typ (option_and_then before.encloser o)
    around_by None h = refl
    around_by (Some t) h = a.encloser t (h t refl)

    around_moved : (e : TypeExpr) → IsTrue (shows_expr k.keep e)
        → option_and_then after.encloser (definition_of (move_expr k.rho e)) ≡ option_map k.rho.typ (option_and_then before.encloser (definition_of e))
    around_moved e h = ap (option_and_then after.encloser) (definition_moved k.rho e) ∙ around_by (definition_of e) (λ t is. definition_shown k.keep e t h is)

    def_shown : (t : ℕ) → IsTrue (k.keep.typ t && k.keep.shown t) → IsTrue (shows_expr k.keep (expr.Def (record { 0 = t })))
    def_shown t h = ap both (names_def k.keep (record { 0 = t })) ∙ h

    around_lock : (o : Option ℕ) → ((t : ℕ) → o ≡ Some t → IsTrue (k.keep.typ t && k.keep.shown t)) → Lock k before (gives_encloser (move_state k before s) f (option_map k.rho.typ o)) (gives_encloser s g o)
    around_lock None h = null_lock
    around_lock (Some t) h =
        subst (λ (e : TypeExpr). Lock k before (gives_type e (move_state k before s) f) (gives_type (expr.Def (record { 0 = t })) s g)) (move_def k.rho (record { 0 = t }))
        (gives_type_lock (expr.Def (record { 0 = t })) (def_shown t (h t refl)))

    encloser_lock : (e : TypeExpr) → IsTrue (shows_expr k.keep e)
        → Lock k before (gives_encloser (move_state k before s) f (option_and_then after.encloser (definition_of (move_expr k.rho e)))) (gives_encloser s g (option_and_then before.encloser (definition_of e)))
    encloser_lock e h =
        let o : Option ℕ = option_and_then before.encloser (definition_of e) in
        subst (λ (n : Option ℕ). Lock k before (gives_encloser (move_state k before s) f n) (gives_encloser s g o)) (sym (around_moved e h))
        (around_lock o (λ u is. let t : Through before.encloser (definition_of e) u = through_is _ _ _ is in a.keeps_encloser t.x u (definition_shown k.keep e t.x h t.there) t.is))

    -- what takes a type or a member takes a type
    owner_path : (q : Queries) (t : State) (h : Gives) (o : Option TypeExpr) (m : Option FoundMember) → m ≡ None
        → owner_by q t h o m ≡ given o t (λ e. gives_encloser t h (option_and_then q.encloser (definition_of e)))
    owner_path q t h None m is = rw is refl
    owner_path q t h (Some e) m is = refl

    pub member_owner_lock : (args : List Value) → IsTrue (keeps_values k.keep args) → Lock k before (member_owner_form after (move_values k.rho args) (move_state k before s) f) (member_owner_form before args s g)
    unfolding member_owner_form
    member_owner_lock (v ∷ []) h =
        subst (λ (x : Next). Lock k before x (owner_by before s g (typed_by s v) (member_by s v)))
        (sym (owner_path after (move_state k before s) f (typed_by (move_state k before s) (move_value k.rho v)) (member_by (move_state k before s) (move_value k.rho v)) (none_there s c v)))
        (subst (λ (y : Next). Lock k before (given (typed_by (move_state k before s) (move_value k.rho v)) (move_state k before s) (λ e. gives_encloser (move_state k before s) f (option_and_then after.encloser (definition_of e)))) y)
        (sym (owner_path before s g (typed_by s v) (member_by s v) (none_named s c v)))
        (on_type_lock v (λ e. gives_encloser (move_state k before s) f (option_and_then after.encloser (definition_of e))) (λ e. gives_encloser s g (option_and_then before.encloser (definition_of e))) encloser_lock))
    member_owner_lock _ h = out

    -- ---- texts

    pub type_text_lock : (args : List Value) → IsTrue (keeps_values k.keep args) → Lock k before (type_text_form after (move_values k.rho args) (move_state k before s) f) (type_text_form before args s g)
    unfolding type_text_form
    type_text_lock (v ∷ []) h =
        on_type_lock v (λ e. gives_text (units_of_bytes (after.text e)) (move_state k before s) f) (λ e. gives_text (units_of_bytes (before.text e)) s g)
        (λ e shown. bytes_lock (after.text (move_expr k.rho e)) (before.text e) (a.text e shown))
    type_text_lock _ h = out

    full_name_lock : (e : TypeExpr) → IsTrue (shows_expr k.keep e) → Lock k before (full_name after (move_state k before s) f (move_expr k.rho e)) (full_name before s g e)
    full_name_lock e h =
        if_lock k before _ (is_constructed e) _ _ _ _ (constructed_moved k.rho e) (λ b. stopped_lock k before s) (λ b. bytes_lock (after.text (move_expr k.rho e)) (before.text e) (a.text e h))

    pub type_full_name_lock : (args : List Value) → IsTrue (keeps_values k.keep args) → Lock k before (type_full_name_form after (move_values k.rho args) (move_state k before s) f) (type_full_name_form before args s g)
    unfolding type_full_name_form
    type_full_name_lock (v ∷ []) h = on_type_lock v (full_name after (move_state k before s) f) (full_name before s g) full_name_lock
    type_full_name_lock _ h = out

    space_by : (text : List ℕ) → Lock k before (gives_space (move_state k before s) f text) (gives_space s g text)
    space_by [] = null_lock
    space_by (x ∷ xs) = bytes_lock (x ∷ xs) (x ∷ xs) refl

    space_lock : (e : TypeExpr) → IsTrue (shows_expr k.keep e) → Lock k before (gives_space (move_state k before s) f (after.space (move_expr k.rho e))) (gives_space s g (before.space e))
    space_lock e h = subst (λ (t : List ℕ). Lock k before (gives_space (move_state k before s) f t) (gives_space s g (before.space e))) (sym (a.space e h)) (space_by (before.space e))

    pub type_namespace_lock : (args : List Value) → IsTrue (keeps_values k.keep args) → Lock k before (type_namespace_form after (move_values k.rho args) (move_state k before s) f) (type_namespace_form before args s g)
    unfolding type_namespace_form
    type_namespace_lock (v ∷ []) h = on_type_lock v (λ e. gives_space (move_state k before s) f (after.space e)) (λ e. gives_space s g (before.space e)) space_lock
    type_namespace_lock _ h = out

    name_path : (q : Queries) (t : State) (h : Gives) (o : Option TypeExpr) (m : Option FoundMember) → m ≡ None
        → given (name_of q o m) t (λ bytes. gives_text (units_of_bytes bytes) t h) ≡ given o t (λ e. gives_text (units_of_bytes (q.label e)) t h)
    name_path q t h None m is = rw is refl
    name_path q t h (Some e) m is = refl

    pub member_name_lock : (args : List Value) → IsTrue (keeps_values k.keep args) → Lock k before (member_name_form after (move_values k.rho args) (move_state k before s) f) (member_name_form before args s g)
    unfolding member_name_form
    member_name_lock (v ∷ []) h =
        subst (λ (x : Next). Lock k before x (given (name_of before (typed_by s v) (member_by s v)) s (λ bytes. gives_text (units_of_bytes bytes) s g)))
        (sym (name_path after (move_state k before s) f (typed_by (move_state k before s) (move_value k.rho v)) (member_by (move_state k before s) (move_value k.rho v)) (none_there s c v)))
        (subst (λ (y : Next). Lock k before (given (typed_by (move_state k before s) (move_value k.rho v)) (move_state k before s) (λ e. gives_text (units_of_bytes (after.label e)) (move_state k before s) f)) y)
        (sym (name_path before s g (typed_by s v) (member_by s v) (none_named s c v)))
        (on_type_lock v (λ e. gives_text (units_of_bytes (after.label e)) (move_state k before s) f) (λ e. gives_text (units_of_bytes (before.label e)) s g)
        (λ e shown. bytes_lock (after.label (move_expr k.rho e)) (before.label e) (a.label e shown))))
    member_name_lock _ h = out

    -- ---- tests

    pub type_other_lock : (args : List Value) → IsTrue (keeps_values k.keep args) → Lock k before (type_other_form after (move_values k.rho args) (move_state k before s) f) (type_other_form before args s g)
    unfolding type_other_form
    type_other_lock (v ∷ w ∷ []) h = given_same k before _ (is_same v w) s _ _ (is_same_moved k after before a v w) (λ b e. truth_lock k after before a f g gl (not b) s c)
    type_other_lock _ h = out

    below_same : (d e : TypeExpr) → IsTrue (shows_expr k.keep d) → IsTrue (shows_expr k.keep e) → after.below (move_expr k.rho d) (move_expr k.rho e) ≡ before.below d e
    below_same d e hd he = a.below d e (shown_kept k.keep d hd) (kept_defined k.keep e (shown_kept k.keep e he))

    other_lock : (e : TypeExpr) → IsTrue (shows_expr k.keep e) → (v : Value)
        → Lock k before (given (typed_by (move_state k before s) (move_value k.rho v)) (move_state k before s) (λ other. gives_truth (after.below other (move_expr k.rho e)) (move_state k before s) f))
        (given (typed_by s v) s (λ other. gives_truth (before.below other e) s g))
    other_lock e h v =
        on_type_lock v (λ other. gives_truth (after.below other (move_expr k.rho e)) (move_state k before s) f) (λ other. gives_truth (before.below other e) s g)
        (λ d hd. same_truth (after.below (move_expr k.rho d) (move_expr k.rho e)) (before.below d e) (below_same d e hd h))

    fits_lock : (e : TypeExpr) → IsTrue (shows_expr k.keep e) → (v : Value) → Lock k before (fits_type after (move_state k before s) f (move_expr k.rho e) (move_value k.rho v)) (fits_type before s g e v)
    unfolding roll-Value denote.Hole.Carrier.roll out-Value denote.Hole.Carrier.out
    fits_lock e h v =
        moved_cases k.rho
        (λ w v. Lock k before (given (typed_by (move_state k before s) w) (move_state k before s) (λ other. gives_truth (after.below other (move_expr k.rho e)) (move_state k before s) f)) (given (typed_by s v) s (λ other. gives_truth (before.below other e) s g))
        → Lock k before (fits_type after (move_state k before s) f (move_expr k.rho e) w) (fits_type before s g e v))
        (λ l. raise_lock k after before a name.NullReferenceException null_asked s c) (λ n l. l) (λ n l. l) (λ n l. l) (λ n l. l) (λ p l. l) (λ d cells l. l) (λ d l. l) (λ d l. l) v (other_lock e h v)

    pub type_fits_lock : (args : List Value) → IsTrue (keeps_values k.keep args) → Lock k before (type_fits_form after (move_values k.rho args) (move_state k before s) f) (type_fits_form before args s g)
    unfolding type_fits_form
    type_fits_lock (v ∷ w ∷ []) h =
        on_type_lock v (λ e. fits_type after (move_state k before s) f e (move_value k.rho w)) (λ e. fits_type before s g e w) (λ e shown. fits_lock e shown w)
    type_fits_lock _ h = out

    has_moved : (e : TypeExpr) → IsTrue (shows_expr k.keep e) → (v : Value) → is_object_of after (move_state k before s) (move_expr k.rho e) (move_value k.rho v) ≡ is_object_of before s e v
    unfolding roll-Value denote.Hole.Carrier.roll out-Value denote.Hole.Carrier.out
    has_moved e h =
        moved_cases k.rho (λ w v. is_object_of after (move_state k before s) (move_expr k.rho e) w ≡ is_object_of before s e v) refl (λ n. refl) (λ n. refl) (λ n. refl)
        (λ n. is_a_at k after before a s c e (shown_kept k.keep e h) n) (λ p. refl) (λ d cells. refl) (λ d. refl) (λ d. refl)

    pub type_has_lock : (args : List Value) → IsTrue (keeps_values k.keep args) → Lock k before (type_has_form after (move_values k.rho args) (move_state k before s) f) (type_has_form before args s g)
    unfolding type_has_form
    type_has_lock (v ∷ w ∷ []) h =
        on_type_lock v (λ e. gives_truth (is_object_of after (move_state k before s) e (move_value k.rho w)) (move_state k before s) f) (λ e. gives_truth (is_object_of before s e w) s g)
        (λ e shown. same_truth (is_object_of after (move_state k before s) (move_expr k.rho e) (move_value k.rho w)) (is_object_of before s e w) (has_moved e shown w))
    type_has_lock _ h = out

    -- a type compared with one of the core library
    same_core : (n : CoreName) → IsTrue (is_asked n) → (e : TypeExpr) → same_expr (move_expr k.rho e) (core_type after n) ≡ same_expr e (core_type before n)
    same_core n asked e = ap (same_expr (move_expr k.rho e)) (core_moved k after before a n asked) ∙ same_exprs_moved k.back k.rho k.undone e (core_type before n)

    below_core : (n : CoreName) → IsTrue (is_asked n) → (e : TypeExpr) → IsTrue (shows_expr k.keep e) → after.below (move_expr k.rho e) (core_type after n) ≡ before.below e (core_type before n)
    below_core n asked e h =
        ap (after.below (move_expr k.rho e)) (core_moved k after before a n asked) ∙ below_same e (core_type before n) h (made_shown k.keep (core_type before n) (core_kept k after before a n asked))

    value_type_moved : (e : TypeExpr) → IsTrue (shows_expr k.keep e) → is_value_type after (move_expr k.rho e) ≡ is_value_type before e
    unfolding is_value_type
    value_type_moved e h = λ i. below_core name.ValueType value_type_asked e h i && not (same_core name.ValueType value_type_asked e i) && not (same_core name.Enum enum_asked e i)

    pub type_is_value_lock : (args : List Value) → IsTrue (keeps_values k.keep args) → Lock k before (type_is_value_form after (move_values k.rho args) (move_state k before s) f) (type_is_value_form before args s g)
    unfolding type_is_value_form
    type_is_value_lock (v ∷ []) h =
        on_type_lock v (λ e. gives_truth (is_value_type after e) (move_state k before s) f) (λ e. gives_truth (is_value_type before e) s g)
        (λ e shown. same_truth (is_value_type after (move_expr k.rho e)) (is_value_type before e) (value_type_moved e shown))
    type_is_value_lock _ h = out

    pub type_is_interface_lock : (args : List Value) → IsTrue (keeps_values k.keep args) → Lock k before (type_is_interface_form after (move_values k.rho args) (move_state k before s) f) (type_is_interface_form before args s g)
    unfolding type_is_interface_form
    type_is_interface_lock (v ∷ []) h =
        on_type_lock v (λ e. gives_truth (head_has INTERFACE (head_of after e)) (move_state k before s) f) (λ e. gives_truth (head_has INTERFACE (head_of before e)) s g)
        (λ e shown. same_truth (head_has INTERFACE (head_of after (move_expr k.rho e))) (head_has INTERFACE (head_of before e)) (ap (head_has INTERFACE) (head_moved k after before a e (shown_kept k.keep e shown))))
    type_is_interface_lock _ h = out

    pub type_is_array_lock : (args : List Value) → IsTrue (keeps_values k.keep args) → Lock k before (type_is_array_form after (move_values k.rho args) (move_state k before s) f) (type_is_array_form before args s g)
    unfolding type_is_array_form
    type_is_array_lock (v ∷ []) h =
        on_type_lock v (λ e. gives_truth (is_array_in (out-TypeExpr e)) (move_state k before s) f) (λ e. gives_truth (is_array_in (out-TypeExpr e)) s g)
        (λ e shown. same_truth (is_array_in (out-TypeExpr (move_expr k.rho e))) (is_array_in (out-TypeExpr e)) (array_moved k.rho e))
    type_is_array_lock _ h = out
