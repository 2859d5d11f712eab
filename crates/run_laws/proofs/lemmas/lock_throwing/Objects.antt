-- Objects under new numbers: their types, their cells, their texts; and the exceptions that a step makes.
use Rattle.std.proofs.Common.{◌≡◌, ℕ, Bool, ◌&&◌, List, [], ◌∷◌, Option, Some, None, refl, sym, ap, subst, ◌∙◌}
use Rattle.std.specs.Prelude.{IsTrue, slice_get, slice_set, unwrap_or}
use Rattle.std.specs.List.{list_all}
use Rattle.std.specs.Option.{option_map, option_and_then}
use Rattle.std.specs.Cmp.{first_so, second_so}
use Rattle.std.proofs.lemmas.Bool.{and_from}
use Rattle.std.proofs.lemmas.Option.{slice_get-map}
use Rattle.il_base.specs.declared.element.TheConstants.{STRING}
use Rattle.il_base.specs.declared.ids.Item.{Item}
use Rattle.il_base.specs.declared.ids.Item.TheVariants as item
use Rattle.il_base.specs.declared.world_model.expr.TypeExpr.{TypeExpr}
use Rattle.il_base.specs.declared.world_model.expr.TypeExpr.TheVariants as expr
use Rattle.il_base.specs.declared.core_table.names.CoreName.{CoreName}
use Rattle.il_base.specs.declared.core_table.names.CoreName.TheVariants as name
use Rattle.il_base.specs.declared.cil_values.value.Value.{Value, out-Value, roll-Value}
use Rattle.il_base.specs.declared.cil_values.value.Value.TheVariants as value
use Rattle.il_base.specs.declared.cil_values.object.Obj.{Obj}
use Rattle.il_base.specs.declared.cil_values.object.Obj.TheVariants as object
use Rattle.il_base.specs.declared.cil_values.end.End.TheVariants.{Threw}
use Rattle.il_base.specs.declared.cil_values.layout.Cell.{Cell}
use Rattle.il_base.specs.declared.cil_values.layout.Layout.{Layout}
use Rattle.il_base.specs.declared.cil_values.layout.Cell.TheVariants.{Message as message, Inner as inner}
use Rattle.rules.specs.step_rules.Queries.{Queries}
use Rattle.il_base.specs.declared.cil_values.state.State.{State}
use Rattle.rules.specs.step_rules.Next.{over}
use Rattle.rules.specs.step_rules.Words.{object_at}
use Rattle.rules.specs.step_rules.Stores.{zeros_of}
use Rattle.rules.specs.step_rules.Places.{cell_place, set_if, with_cell, cell_in}
use Rattle.rules.specs.step_rules.Objects.{core_type, member_name, type_of, is_a, units_in, units_of, bytes_of_units, kin_or_exception, own_message, default_message, message_cell, message_of, new_exception, wrapping, threw}
use Rattle.rules.specs.change_rules.Keeping.{keep}
use Rattle.rules.specs.change_rules.Change.{Rho, Keep, Change}
use Rattle.rules.specs.change_rules.Moves.{move_item, move_expr, move_value}
use Rattle.rules.specs.change_rules.Answers.{move_cell}
use Rattle.rules.specs.change_rules.States.{keeps_cell, mask, move_cells, move_obj, move_state}
use Rattle.rules.specs.change_rules.Keeps.{both, keeps_expr, keeps_defined, shows_expr, makes_expr, keeps_made, keeps_value, keeps_values, keeps_layout}
use Rattle.rules.specs.change_rules.Covered.{Covered, keeps_obj}
use Rattle.rules.specs.change_rules.Agree.{Agree, is_asked}
use Rattle.rules.specs.change_rules.Lock.{Lock}
use Rattle.base_laws.proofs.lemmas.change_laws.Exprs.{move_prim, move_def, move_array}
use Rattle.base_laws.proofs.lemmas.change_laws.Subst.{names_prim, names_def, names_array}
use Rattle.base_laws.proofs.lemmas.change_laws.Defined.{kept_defined}
use Rattle.base_laws.proofs.lemmas.change_laws.Values.{move_object, keeps_object}
use Rattle.base_laws.proofs.lemmas.change_laws.Lists.{all_at}
use Rattle.base_laws.proofs.lemmas.change_laws.Cells.{keep_map, keep_all_set, cells_read, cells_written, zeros_move}
use Rattle.run_laws.proofs.lemmas.lock_words.Cases.{moved_cases}
use Rattle.run_laws.proofs.lemmas.lock_words.Definitions.{makes_def, makes_array, makes_prim}

-- ---- types of objects

member_name_moved : (r : Rho) (i : Item) → member_name (move_item r i) ≡ member_name i
member_name_moved r (item.Typ t) = refl
member_name_moved r (item.Method m) = refl
member_name_moved r (item.Field f) = refl
member_name_moved r (item.Prop p) = refl
member_name_moved r _ = refl

member_asked : (i : Item) → IsTrue (is_asked (member_name i))
unfolding is_asked
member_asked (item.Method m) = refl
member_asked (item.Field f) = refl
member_asked (item.Prop p) = refl
member_asked _ = refl

type_asked : IsTrue (is_asked name.Type)
unfolding is_asked
type_asked = refl

pub made_shown : (k : Keep) (e : TypeExpr) → IsTrue (keeps_made k e) → IsTrue (shows_expr k e)
made_shown k e h = first_so (shows_expr k e) (makes_expr k e) h

pub shown_kept : (k : Keep) (e : TypeExpr) → IsTrue (shows_expr k e) → IsTrue (keeps_expr k e)
shown_kept k e h = first_so (keeps_expr k e) _ h

pub made_kept : (k : Keep) (e : TypeExpr) → IsTrue (keeps_made k e) → IsTrue (keeps_expr k e)
made_kept k e h = shown_kept k e (made_shown k e h)

-- ---- moved back into another default

pub unwrap_moved : {A B : Type 0} (f : A → B) (o : Option A) (d : A) → unwrap_or (option_map f o) (f d) ≡ f (unwrap_or o d)
unwrap_moved f None d = refl
unwrap_moved f (Some x) d = refl

zeros_kept_by : (k : Keep) (ls : List Layout) → IsTrue (list_all (keeps_layout k) ls) → IsTrue (keeps_values k (zeros_of ls))
zeros_kept_by k [] h = refl
zeros_kept_by k (l ∷ ls) h =
    let l_kept : IsTrue (keeps_layout k l) = first_so (keeps_layout k l) (list_all (keeps_layout k) ls) h in
    and_from (keeps_value k l.zero) (keeps_values k (zeros_of ls)) (second_so _ (keeps_value k l.zero) l_kept) (zeros_kept_by k ls (second_so (keeps_layout k l) (list_all (keeps_layout k) ls) h))

module _ (k : Change) (after before : Queries) (a : Agree k after before) where
  pub core_moved : (n : CoreName) → IsTrue (is_asked n) → core_type after n ≡ move_expr k.rho (core_type before n)
  core_moved n h = ap (λ (t : ℕ). expr.Def (record { 0 = t })) (a.known n h) ∙ sym (move_def k.rho (record { 0 = before.known n }))

  pub core_kept : (n : CoreName) → IsTrue (is_asked n) → IsTrue (keeps_made k.keep (core_type before n))
  core_kept n h =
      let t : ℕ = before.known n in
      let e : TypeExpr = core_type before n in
      let two : IsTrue (k.keep.typ t && k.keep.made t) = first_so (k.keep.typ t && k.keep.made t) (k.keep.shown t) (a.keeps_known n h) in
      let shown : IsTrue (k.keep.shown t) = second_so (k.keep.typ t && k.keep.made t) (k.keep.shown t) (a.keeps_known n h) in
      and_from (shows_expr k.keep e) (makes_expr k.keep e)
      (ap both (names_def k.keep (record { 0 = t })) ∙ and_from (k.keep.typ t) (k.keep.shown t) (first_so (k.keep.typ t) (k.keep.made t) two) shown)
      (makes_def k.keep (record { 0 = t }) ∙ second_so (k.keep.typ t) (k.keep.made t) two)

  pub type_of_moved : (o : Obj) → type_of after (move_obj k before o) ≡ move_expr k.rho (type_of before o)
  unfolding type_of
  type_of_moved (object.Instance of cells) = refl
  type_of_moved (object.Boxed of v) = refl
  type_of_moved (object.Array of cells) = sym (move_array k.rho of)
  type_of_moved (object.Str units) = sym (move_prim k.rho STRING)
  type_of_moved (object.TypeOf e) = core_moved name.Type type_asked
  type_of_moved (object.Member i e) = ap (core_type after) (member_name_moved k.rho i) ∙ core_moved (member_name i) (member_asked i)

  pub type_of_made : (o : Obj) → IsTrue (keeps_obj k.keep before o) → IsTrue (keeps_made k.keep (type_of before o))
  unfolding type_of
  type_of_made (object.Instance of cells) h = first_so (keeps_made k.keep of) _ h
  type_of_made (object.Boxed of v) h = first_so (keeps_made k.keep of) _ h
  type_of_made (object.Array of cells) h = and_from _ _ (ap both (names_array k.keep of) ∙ first_so (shows_expr k.keep of) _ h) (makes_array k.keep of)
  type_of_made (object.Str units) h = and_from _ _ (ap both (names_prim k.keep STRING)) (makes_prim k.keep STRING)
  type_of_made (object.TypeOf e) h = core_kept name.Type type_asked
  type_of_made (object.Member i e) h = core_kept (member_name i) (member_asked i)

  pub type_of_kept : (o : Obj) → IsTrue (keeps_obj k.keep before o) → IsTrue (keeps_expr k.keep (type_of before o))
  type_of_kept o h = made_kept k.keep (type_of before o) (type_of_made o h)

  -- ---- the heap

  pub object_moved : (s : State) (n : ℕ) → object_at (move_state k before s) n ≡ option_map (move_obj k before) (object_at s n)
  object_moved s n = slice_get-map (move_obj k before) s.heap n

  pub object_kept : (s : State) → Covered k.keep before s → (n : ℕ) (o : Obj) → object_at s n ≡ Some o → IsTrue (keeps_obj k.keep before o)
  object_kept s c n o e = all_at (keeps_obj k.keep before) s.heap n o c.heap e

  is_a_defined : (e : TypeExpr) → IsTrue (keeps_defined k.keep e) → (o : Option Obj) → ((x : Obj) → o ≡ Some x → IsTrue (keeps_obj k.keep before x))
      → is_a after (move_expr k.rho e) (option_map (move_obj k before) o) ≡ is_a before e o
  is_a_defined e h None f = refl
  is_a_defined e h (Some o) f =
      ap (λ (t : TypeExpr). after.below t (move_expr k.rho e)) (type_of_moved o) ∙ a.below (type_of before o) e (type_of_kept o (f o refl)) h

  -- a type that an exception clause names
  pub is_a_defined_at : (s : State) → Covered k.keep before s → (e : TypeExpr) → IsTrue (keeps_defined k.keep e) → (n : ℕ)
      → is_a after (move_expr k.rho e) (object_at (move_state k before s) n) ≡ is_a before e (object_at s n)
  is_a_defined_at s c e h n = ap (is_a after (move_expr k.rho e)) (object_moved s n) ∙ is_a_defined e h (object_at s n) (λ o is. object_kept s c n o is)

  pub is_a_moved : (e : TypeExpr) → IsTrue (keeps_expr k.keep e) → (o : Option Obj) → ((x : Obj) → o ≡ Some x → IsTrue (keeps_obj k.keep before x))
      → is_a after (move_expr k.rho e) (option_map (move_obj k before) o) ≡ is_a before e o
  is_a_moved e h o f = is_a_defined e (kept_defined k.keep e h) o f

  pub is_a_at : (s : State) → Covered k.keep before s → (e : TypeExpr) → IsTrue (keeps_expr k.keep e) → (n : ℕ)
      → is_a after (move_expr k.rho e) (object_at (move_state k before s) n) ≡ is_a before e (object_at s n)
  is_a_at s c e h n = is_a_defined_at s c e (kept_defined k.keep e h) n

  -- ---- cells of objects

  pub cell_in_moved : (c : Cell) → IsTrue (keeps_cell k.keep c) → (o : Obj) → IsTrue (keeps_obj k.keep before o)
      → cell_in after (move_cell k.rho c) (move_obj k before o) ≡ option_map (move_value k.rho) (cell_in before c o)
  cell_in_moved c h (object.Instance of cells) g = cells_read k after before a of (made_kept k.keep of (first_so (keeps_made k.keep of) _ g)) cells c h
  cell_in_moved c h (object.Boxed of v) g = refl
  cell_in_moved c h (object.Array of cells) g = refl
  cell_in_moved c h (object.Str units) g = refl
  cell_in_moved c h (object.TypeOf e) g = refl
  cell_in_moved c h (object.Member i e) g = refl

  -- ---- cells at first

  pub zeros_kept : (e : TypeExpr) → IsTrue (keeps_expr k.keep e) → IsTrue (keeps_values k.keep (keep (mask k.keep (before.cells e)) (zeros_of (before.cells e))))
  zeros_kept e h =
      let m : List Bool = mask k.keep (before.cells e) in
      ap (keeps_values k.keep) (keep_map (λ (l : Layout). l.zero) m (before.cells e)) ∙ zeros_kept_by k.keep (keep m (before.cells e)) (a.keeps_cells e h)

  -- ---- texts

  units_in_moved : (o : Option Obj) → option_and_then units_in (option_map (move_obj k before) o) ≡ option_and_then units_in o
  units_in_moved None = refl
  units_in_moved (Some (object.Instance of cells)) = refl
  units_in_moved (Some (object.Boxed of v)) = refl
  units_in_moved (Some (object.Array of cells)) = refl
  units_in_moved (Some (object.Str units)) = refl
  units_in_moved (Some (object.TypeOf e)) = refl
  units_in_moved (Some (object.Member i e)) = refl

  pub units_at : (s : State) (n : ℕ) → option_and_then units_in (object_at (move_state k before s) n) ≡ option_and_then units_in (object_at s n)
  units_at s n = ap (option_and_then units_in) (object_moved s n) ∙ units_in_moved (object_at s n)

  pub units_moved : (s : State) (v : Value) → units_of (move_state k before s) (move_value k.rho v) ≡ units_of s v
  unfolding roll-Value denote.Hole.Carrier.roll out-Value denote.Hole.Carrier.out
  units_moved s =
      moved_cases k.rho (λ w v. units_of (move_state k before s) w ≡ units_of s v) refl (λ n. refl) (λ n. refl) (λ n. refl) (λ n. units_at s n)
      (λ p. refl) (λ e cells. refl) (λ e. refl) (λ f. refl)

  -- ---- exceptions

  units_by : (s : State) (o : Option Value) → option_and_then (units_of (move_state k before s)) (option_map (move_value k.rho) o) ≡ option_and_then (units_of s) o
  units_by s None = refl
  units_by s (Some v) = units_moved s v

  pub default_message_moved : (e : TypeExpr) → IsTrue (keeps_expr k.keep e) → default_message after (move_expr k.rho e) ≡ default_message before e
  unfolding default_message
  default_message_moved e h = ap (λ (n : Option CoreName). own_message (kin_or_exception n)) (a.kin e h)

  pub message_moved : (s : State) (o : Obj) → IsTrue (keeps_obj k.keep before o) → message_of after (move_state k before s) (move_obj k before o) ≡ message_of before s o
  unfolding message_of
  message_moved s o h =
      let cell : message_cell after (move_state k before s) (move_obj k before o) ≡ message_cell before s o
      = ap (option_and_then (units_of (move_state k before s))) (cell_in_moved message refl o h) ∙ units_by s (cell_in before message o) in
      let other : default_message after (type_of after (move_obj k before o)) ≡ default_message before (type_of before o)
      = ap (default_message after) (type_of_moved o) ∙ default_message_moved (type_of before o) (type_of_kept o h) in
      λ i. unwrap_or (cell i) (other i)

  threw_by : (s : State) (o : Option Obj) → ((x : Obj) → o ≡ Some x → IsTrue (keeps_obj k.keep before x))
      → Lock k before (threw after (move_state k before s) (option_map (move_obj k before) o)) (threw before s o)
  threw_by s None f = record { same = refl; kept = tt }
  threw_by s (Some o) f =
      let h : IsTrue (keeps_obj k.keep before o) = f o refl in
      let text : after.text (type_of after (move_obj k before o)) ≡ before.text (type_of before o)
      = ap after.text (type_of_moved o) ∙ a.text (type_of before o) (made_shown k.keep (type_of before o) (type_of_made o h)) in
      record { same = λ i. over (Threw (text i) (bytes_of_units (message_moved s o h i))); kept = tt }

  pub threw_lock : (s : State) → Covered k.keep before s → (n : ℕ)
      → Lock k before (threw after (move_state k before s) (object_at (move_state k before s) n)) (threw before s (object_at s n))
  threw_lock s c n =
      subst (λ (o : Option Obj). Lock k before (threw after (move_state k before s) o) (threw before s (object_at s n))) (sym (object_moved s n))
      (threw_by s (object_at s n) (λ o is. object_kept s c n o is))

  pub new_exception_moved : (n : CoreName) → IsTrue (is_asked n) → new_exception after n ≡ move_obj k before (new_exception before n)
  unfolding new_exception
  new_exception_moved n h =
      let e : TypeExpr = core_type before n in
      ap (λ (t : TypeExpr). object.Instance t (zeros_of (after.cells t))) (core_moved n h)
      ∙ ap (object.Instance (move_expr k.rho e)) (zeros_move k after before a e (made_kept k.keep e (core_kept n h)))

  pub new_exception_kept : (n : CoreName) → IsTrue (is_asked n) → IsTrue (keeps_obj k.keep before (new_exception before n))
  unfolding new_exception
  new_exception_kept n h =
      let e : TypeExpr = core_type before n in
      and_from (keeps_made k.keep e) _ (core_kept n h) (zeros_kept e (made_kept k.keep e (core_kept n h)))

  abbrev Wraps : Queries → TypeExpr → List Value → Value → Obj
  Wraps q e cells v = object.Instance e (unwrap_or (with_cell q e cells inner v) cells)

  pub wrapping_moved : (n : CoreName) → IsTrue (is_asked n) → (x : ℕ) → wrapping after n x ≡ move_obj k before (wrapping before n x)
  unfolding wrapping
  wrapping_moved n h x =
      let e : TypeExpr = core_type before n in
      let known : IsTrue (keeps_expr k.keep e) = made_kept k.keep e (core_kept n h) in
      let cells : List Value = zeros_of (before.cells e) in
      ap (λ (t : TypeExpr). Wraps after t (zeros_of (after.cells t)) (value.Object x)) (core_moved n h)
      ∙ ap (λ (zs : List Value). Wraps after (move_expr k.rho e) zs (value.Object x)) (zeros_move k after before a e known)
      ∙ ap (Wraps after (move_expr k.rho e) (move_cells k before e cells)) (sym (move_object k.rho x))
      ∙ ap (λ (o : Option (List Value)). object.Instance (move_expr k.rho e) (unwrap_or o (move_cells k before e cells))) (cells_written k after before a e known cells inner (value.Object x) refl)
      ∙ ap (object.Instance (move_expr k.rho e)) (unwrap_moved (move_cells k before e) (with_cell before e cells inner (value.Object x)) cells)

  -- a cell that is set holds what is kept
  set_kept_by : (flags : List Bool) (cells : List Value) (v : Value) (n : ℕ) (old : Option Value) (vs : List Value) → option_map (λ (o : Value). slice_set cells n v) old ≡ Some vs
      → IsTrue (keeps_values k.keep (keep flags cells)) → IsTrue (keeps_value k.keep v) → IsTrue (keeps_values k.keep (keep flags vs))
  set_kept_by flags cells v n None vs e h g = cc
  set_kept_by flags cells v n (Some o) vs e h g =
      let is : slice_set cells n v ≡ vs = cc in
      subst (λ (ws : List Value). IsTrue (keeps_values k.keep (keep flags ws))) is (keep_all_set (keeps_value k.keep) flags cells n v h g)

  cell_set_by : (flags : List Bool) (cells : List Value) (v : Value) (p : Option ℕ) (vs : List Value) → option_and_then (set_if cells v) p ≡ Some vs
      → IsTrue (keeps_values k.keep (keep flags cells)) → IsTrue (keeps_value k.keep v) → IsTrue (keeps_values k.keep (keep flags vs))
  cell_set_by flags cells v None vs e h g = cc
  cell_set_by flags cells v (Some n) vs e h g = set_kept_by flags cells v n (slice_get cells n) vs e h g

  pub cell_set_kept : (e : TypeExpr) (cells vs : List Value) (c : Cell) (v : Value) → with_cell before e cells c v ≡ Some vs
      → IsTrue (keeps_values k.keep (keep (mask k.keep (before.cells e)) cells)) → IsTrue (keeps_value k.keep v) → IsTrue (keeps_values k.keep (keep (mask k.keep (before.cells e)) vs))
  unfolding with_cell
  cell_set_kept e cells vs c v is h g = cell_set_by (mask k.keep (before.cells e)) cells v (cell_place c (before.cells e)) vs is h g

  unwrapped_kept : (flags : List Bool) (o : Option (List Value)) (cells : List Value) → ((vs : List Value) → o ≡ Some vs → IsTrue (keeps_values k.keep (keep flags vs)))
      → IsTrue (keeps_values k.keep (keep flags cells)) → IsTrue (keeps_values k.keep (keep flags (unwrap_or o cells)))
  unwrapped_kept flags None cells f h = h
  unwrapped_kept flags (Some vs) cells f h = f vs refl

  pub wrapping_kept : (n : CoreName) → IsTrue (is_asked n) → (x : ℕ) → IsTrue (keeps_obj k.keep before (wrapping before n x))
  unfolding wrapping
  wrapping_kept n h x =
      let e : TypeExpr = core_type before n in
      let cells : List Value = zeros_of (before.cells e) in
      let zs : IsTrue (keeps_values k.keep (keep (mask k.keep (before.cells e)) cells)) = zeros_kept e (made_kept k.keep e (core_kept n h)) in
      and_from (keeps_made k.keep e) _ (core_kept n h)
      (unwrapped_kept (mask k.keep (before.cells e)) (with_cell before e cells inner (value.Object x)) cells (λ vs is. cell_set_kept e cells vs inner (value.Object x) is zs (keeps_object k.keep x)) zs)
