-- Places that pointers lead to: what stands there, and the state after a store.
use Rattle.std.proofs.Common.{◌≡◌, ℕ, Bool, true, false, not, List, [], ◌∷◌, ◌++◌, map, take, drop, length, Option, Some, None, refl, sym, ap, subst, ◌∙◌}
use Rattle.std.specs.Prelude.{IsTrue, slice_get, slice_set, nat_le, find, reverse, if◌then◌else◌}
use Rattle.std.specs.List.{list_all}
use Rattle.std.specs.Option.{option_map, option_and_then, is_some}
use Rattle.std.specs.Cmp.{first_so, second_so}
use Rattle.std.proofs.lemmas.Bool.{and_from}
use Rattle.std.proofs.lemmas.Option.{slice_get-map}
use Rattle.std.proofs.lemmas.List.{length-map, take-map, drop-map, map-append, reverse-append}
use Rattle.il_base.specs.declared.world_model.expr.TypeExpr.{TypeExpr}
use Rattle.il_base.specs.declared.cil_values.path.Path.{Path}
use Rattle.il_base.specs.declared.cil_values.path.Root.{Root}
use Rattle.il_base.specs.declared.cil_values.path.Root.TheVariants as root
use Rattle.il_base.specs.declared.cil_values.value.Value.{Value, out-Value}
use Rattle.il_base.specs.declared.cil_values.value.Value.TheOpen.{Value-F}
use Rattle.il_base.specs.declared.cil_values.value.Value.TheVariants as value
use Rattle.il_base.specs.declared.cil_values.object.Obj.{Obj}
use Rattle.il_base.specs.declared.cil_values.object.Obj.TheVariants as object
use Rattle.il_base.specs.declared.cil_values.layout.Cell.{Cell}
use Rattle.il_base.specs.declared.cil_values.layout.Cell.TheVariants.{Field as of_field}
use Rattle.il_base.specs.declared.cil_values.state.State.{State}
use Rattle.il_base.specs.declared.cil_values.state.Global.{Global}
use Rattle.il_base.specs.declared.cil_values.frame.Frame.{Frame}
use Rattle.rules.specs.step_rules.Queries.{Queries}
use Rattle.rules.specs.step_rules.Next.{Next}
use Rattle.rules.specs.step_rules.Words.{taken, object_at}
use Rattle.rules.specs.step_rules.Stores.{Parts, parts_in, parts_of}
use Rattle.rules.specs.step_rules.Places.{cell_in, cell_of, value_in, with_struct, put_in, has_number, frame_with, is_there, ended_root, has_ended, is_global, global_of, boxed_in, element_in, root_value, place_value, at_place, alive, cell_place}
use Rattle.rules.specs.change_rules.Keeping.{keep, rank}
use Rattle.rules.specs.change_rules.Change.{Rho, Keep, Change}
use Rattle.rules.specs.change_rules.Moves.{move_expr, move_value, move_values, move_root, move_path}
use Rattle.rules.specs.change_rules.Answers.{move_cell, move_parts}
use Rattle.rules.specs.change_rules.States.{keeps_cell, mask, move_obj, move_frame, move_global, move_state}
use Rattle.rules.specs.change_rules.Keeps.{keeps_expr, keeps_made, shows_expr, keeps_root, keeps_path, keeps_value, keeps_values}
use Rattle.rules.specs.change_rules.Covered.{keeps_obj, keeps_global, CoveredFrame, CoveredFrames, Covered}
use Rattle.rules.specs.change_rules.Agree.{Agree}
use Rattle.rules.specs.change_rules.Lock.{Lock}
use Rattle.base_laws.proofs.lemmas.change_laws.Same.{same_globals_moved}
use Rattle.base_laws.proofs.lemmas.change_laws.Lists.{find_moved, all_joined, all_push, all_at, all_set, all_drop, all_take}
use Rattle.base_laws.proofs.lemmas.change_laws.Values.{move_struct, keeps_struct, keeps_out, keeps_in, parts_moved}
use Rattle.base_laws.proofs.lemmas.change_laws.Cells.{set_map, keep_rank, place_flag}
use Rattle.run_laws.proofs.lemmas.lock_words.Words.{had_moved, within_lock}
use Rattle.run_laws.proofs.lemmas.lock_throwing.Objects.{object_moved, object_kept, cell_in_moved}
use Rattle.run_laws.proofs.lemmas.lock_places.Options.{Through, through_is, Made, made_is, some_is}

-- ---- the top of the stack

reverse_map : {A B : Type 0} (f : A → B) (xs : List A) → reverse (map f xs) ≡ map f (reverse xs)
reverse_map f [] = refl
reverse_map f (x ∷ xs) =
    reverse-append (f x ∷ []) (map f xs) ∙ ap (λ ys. ys ++ f x ∷ []) (reverse_map f xs) ∙ sym (map-append f (reverse xs) (x ∷ [])) ∙ ap (map f) (sym (reverse-append (x ∷ []) xs))

all_reverse : {A : Type 0} (p : A → Bool) (xs : List A) → IsTrue (list_all p xs) → IsTrue (list_all p (reverse xs))
all_reverse p [] h = refl
all_reverse p (x ∷ xs) h =
    ap (list_all p) (reverse-append (x ∷ []) xs)
    ∙ all_joined p (reverse xs) (x ∷ []) (all_reverse p xs (second_so (p x) (list_all p xs) h)) (all_push p x [] (first_so (p x) (list_all p xs) h) refl)

abbrev pub move_taken : Rho → List Value × List Value → List Value × List Value
move_taken r t = (move_values r t.0, move_values r t.1)

taken_by : (r : Rho) (b : Bool) (xs ys : List Value) → (if b then Some (move_values r xs, move_values r ys) else None) ≡ option_map (move_taken r) (if b then Some (xs, ys) else None)
taken_by r true xs ys = refl
taken_by r false xs ys = refl

pub taken_moved : (r : Rho) (n : ℕ) (stack : List Value) → taken n (move_values r stack) ≡ option_map (move_taken r) (taken n stack)
unfolding taken
taken_moved r n stack =
    let top : reverse (take n (move_values r stack)) ≡ move_values r (reverse (take n stack)) = ap reverse (take-map (move_value r) n stack) ∙ reverse_map (move_value r) (take n stack) in
    (λ i. if nat_le n (length-map stack (move_value r) i) then Some (top i, drop-map (move_value r) n stack i) else None)
    ∙ taken_by r (nat_le n (length stack)) (reverse (take n stack)) (drop n stack)

pub record KeptTaken (k : Keep) (t : List Value × List Value) : Type 0 where
  pub args : IsTrue (keeps_values k t.0)
  pub rest : IsTrue (keeps_values k t.1)

taken_is : (k : Keep) (b : Bool) (xs ys : List Value) (t : List Value × List Value) → (if b then Some (xs, ys) else None) ≡ Some t → IsTrue (keeps_values k xs) → IsTrue (keeps_values k ys) → KeptTaken k t
taken_is k true xs ys t e h g = some_is (KeptTaken k) (xs, ys) t e (record { args = h; rest = g })
taken_is k false xs ys t e h g = cc

pub taken_kept : (k : Keep) (n : ℕ) (stack : List Value) (t : List Value × List Value) → IsTrue (keeps_values k stack) → taken n stack ≡ Some t → KeptTaken k t
unfolding taken
taken_kept k n stack t h e =
    taken_is k (nat_le n (length stack)) (reverse (take n stack)) (drop n stack) t e (all_reverse (keeps_value k) (take n stack) (all_take (keeps_value k) n stack h)) (all_drop (keeps_value k) n stack h)

-- ---- structs

pub record KeptParts (k : Keep) (p : Parts) : Type 0 where
  pub of : IsTrue (keeps_expr k p.of)
  pub cells : IsTrue (keeps_values k p.cells)

parts_in_kept : (k : Keep) (x : Value-F Value) (p : Parts) → IsTrue (keeps_in k x) → parts_in x ≡ Some p → KeptParts k p
parts_in_kept k Value-F.Null p h e = cc
parts_in_kept k (Value-F.I4 n) p h e = cc
parts_in_kept k (Value-F.I8 n) p h e = cc
parts_in_kept k (Value-F.Native n) p h e = cc
parts_in_kept k (Value-F.Object a) p h e = cc
parts_in_kept k (Value-F.Pointer q) p h e = cc
parts_in_kept k (Value-F.Struct of cells) p h e =
    some_is (KeptParts k) (record { of = of; cells = cells }) p e (record { of = first_so (keeps_expr k of) (keeps_values k cells) h; cells = second_so (keeps_expr k of) (keeps_values k cells) h })
parts_in_kept k (Value-F.Handle t) p h e = cc
parts_in_kept k (Value-F.FieldHandle f) p h e = cc

pub parts_kept : (k : Keep) (v : Value) (p : Parts) → IsTrue (keeps_value k v) → parts_of v ≡ Some p → KeptParts k p
unfolding parts_of
parts_kept k v p h e = parts_in_kept k (out-Value v) p (sym (keeps_out k v) ∙ h) e

module _ (r : Rho) where
  value_in_cell : (ks : List ℕ) → ((v : Value) → value_in ks (move_value r v) ≡ option_map (move_value r) (value_in ks v)) → (o : Option Value)
      → option_and_then (value_in ks) (option_map (move_value r) o) ≡ option_map (move_value r) (option_and_then (value_in ks) o)
  value_in_cell ks h None = refl
  value_in_cell ks h (Some v) = h v

  value_in_parts : (n : ℕ) (ks : List ℕ) → ((v : Value) → value_in ks (move_value r v) ≡ option_map (move_value r) (value_in ks v)) → (o : Option Parts)
      → option_and_then (λ (p : Parts). option_and_then (value_in ks) (slice_get p.cells n)) (option_map (move_parts r) o) ≡ option_map (move_value r) (option_and_then (λ (p : Parts). option_and_then (value_in ks) (slice_get p.cells n)) o)
  value_in_parts n ks h None = refl
  value_in_parts n ks h (Some p) = ap (option_and_then (value_in ks)) (slice_get-map (move_value r) p.cells n) ∙ value_in_cell ks h (slice_get p.cells n)

  pub value_in_moved : (ks : List ℕ) (v : Value) → value_in ks (move_value r v) ≡ option_map (move_value r) (value_in ks v)
  unfolding value_in
  value_in_moved [] v = refl
  value_in_moved (n ∷ ks) v = ap (option_and_then (λ (p : Parts). option_and_then (value_in ks) (slice_get p.cells n))) (parts_moved r v) ∙ value_in_parts n ks (value_in_moved ks) (parts_of v)

  struct_by : (p : Parts) (n : ℕ) (o : Option Value) → option_map (with_struct (move_parts r p) n) (option_map (move_value r) o) ≡ option_map (move_value r) (option_map (with_struct p n) o)
  struct_by p n None = refl
  struct_by p n (Some v) =
      ap (λ (cells : List Value). Some (value.Struct (move_expr r p.of) cells)) (set_map (move_value r) p.cells n v) ∙ ap (λ (x : Value). Some x) (sym (move_struct r p.of (slice_set p.cells n v)))

  abbrev puts_cell : ℕ → List ℕ → Value → Parts → Option Value
  puts_cell n ks new p = option_map (with_struct p n) (option_and_then (put_in ks new) (slice_get p.cells n))

  put_cell_by : (new : Value) (ks : List ℕ) → ((v : Value) → put_in ks (move_value r new) (move_value r v) ≡ option_map (move_value r) (put_in ks new v)) → (o : Option Value)
      → option_and_then (put_in ks (move_value r new)) (option_map (move_value r) o) ≡ option_map (move_value r) (option_and_then (put_in ks new) o)
  put_cell_by new ks h None = refl
  put_cell_by new ks h (Some v) = h v

  put_parts : (new : Value) (n : ℕ) (ks : List ℕ) → ((v : Value) → put_in ks (move_value r new) (move_value r v) ≡ option_map (move_value r) (put_in ks new v)) → (o : Option Parts)
      → option_and_then (puts_cell n ks (move_value r new)) (option_map (move_parts r) o) ≡ option_map (move_value r) (option_and_then (puts_cell n ks new) o)
  put_parts new n ks h None = refl
  put_parts new n ks h (Some p) =
      ap (λ (o : Option Value). option_map (with_struct (move_parts r p) n) (option_and_then (put_in ks (move_value r new)) o)) (slice_get-map (move_value r) p.cells n)
      ∙ ap (option_map (with_struct (move_parts r p) n)) (put_cell_by new ks h (slice_get p.cells n))
      ∙ struct_by p n (option_and_then (put_in ks new) (slice_get p.cells n))

  pub put_in_moved : (ks : List ℕ) (new v : Value) → put_in ks (move_value r new) (move_value r v) ≡ option_map (move_value r) (put_in ks new v)
  unfolding put_in
  put_in_moved [] new v = refl
  put_in_moved (n ∷ ks) new v = ap (option_and_then (puts_cell n ks (move_value r new))) (parts_moved r v) ∙ put_parts new n ks (put_in_moved ks new) (parts_of v)

module _ (k : Keep) where
  pub value_in_kept : (ks : List ℕ) (v w : Value) → IsTrue (keeps_value k v) → value_in ks v ≡ Some w → IsTrue (keeps_value k w)
  unfolding value_in
  value_in_kept [] v w h e = some_is (λ x. IsTrue (keeps_value k x)) v w e h
  value_in_kept (n ∷ ks) v w h e =
      let t : Through (λ (p : Parts). option_and_then (value_in ks) (slice_get p.cells n)) (parts_of v) w = through_is _ _ _ e in
      let c : Through (value_in ks) (slice_get t.x.cells n) w = through_is _ _ _ t.is in
      value_in_kept ks c.x w (all_at (keeps_value k) t.x.cells n c.x (parts_kept k v t.x h t.there).cells c.there) c.is

  pub put_in_kept : (ks : List ℕ) (new v w : Value) → IsTrue (keeps_value k new) → IsTrue (keeps_value k v) → put_in ks new v ≡ Some w → IsTrue (keeps_value k w)
  unfolding put_in
  put_in_kept [] new v w g h e = some_is (λ x. IsTrue (keeps_value k x)) new w e g
  put_in_kept (n ∷ ks) new v w g h e =
      let t : Through (λ (p : Parts). option_map (with_struct p n) (option_and_then (put_in ks new) (slice_get p.cells n))) (parts_of v) w = through_is _ _ _ e in
      let m : Made (with_struct t.x n) (option_and_then (put_in ks new) (slice_get t.x.cells n)) w = made_is _ _ _ t.is in
      let c : Through (put_in ks new) (slice_get t.x.cells n) m.x = through_is _ _ _ m.there in
      let p : KeptParts k t.x = parts_kept k v t.x h t.there in
      let x : IsTrue (keeps_value k m.x) = put_in_kept ks new c.x m.x g (all_at (keeps_value k) t.x.cells n c.x p.cells c.there) c.is in
      subst (λ (y : Value). IsTrue (keeps_value k y)) m.is
      (keeps_struct k t.x.of (slice_set t.x.cells n m.x) ∙ and_from (keeps_expr k t.x.of) _ p.of (all_set (keeps_value k) t.x.cells n m.x p.cells x))

-- ---- frames

module _ (k : Change) (q : Queries) where
  frame_moved : (n : ℕ) (s : State) → frame_with n (move_state k q s) ≡ option_map (move_frame k.rho) (frame_with n s)
  unfolding frame_with
  frame_moved n s = find_moved (move_frame k.rho) (has_number n) (has_number n) (λ f. refl) (s.top ∷ s.below)

  found_frame : (n : ℕ) (fs : List Frame) (f : Frame) → CoveredFrames k.keep fs → find (has_number n) fs ≡ Some f → CoveredFrame k.keep f
  found_frame n [] f c e = cc
  found_frame n (g ∷ fs) f c e = by_test (has_number n g) (λ r. found_frame n fs f c.1 r) e
    where
      by_test : (b : Bool) → (find (has_number n) fs ≡ Some f → CoveredFrame k.keep f) → (if b then Some g else find (has_number n) fs) ≡ Some f → CoveredFrame k.keep f
      by_test true rest e = some_is (CoveredFrame k.keep) g f e c.0
      by_test false rest e = rest e

  pub frame_kept : (n : ℕ) (s : State) (f : Frame) → Covered k.keep q s → frame_with n s ≡ Some f → CoveredFrame k.keep f
  unfolding frame_with
  frame_kept n s f c e = found_frame n (s.top ∷ s.below) f (c.top, c.below) e

  there_by : (o : Option Frame) → is_some (option_map (move_frame k.rho) o) ≡ is_some o
  there_by None = refl
  there_by (Some f) = refl

  there_moved : (n : ℕ) (s : State) → is_there n (move_state k q s) ≡ is_there n s
  there_moved n s = ap is_some (frame_moved n s) ∙ there_by (frame_with n s)

  ended_moved : (s : State) (p : Root) → ended_root (move_state k q s) (move_root k.rho p) ≡ ended_root s p
  ended_moved s (root.Arg n j) = ap not (there_moved n s)
  ended_moved s (root.Local n j) = ap not (there_moved n s)
  ended_moved s (root.Boxed a) = refl
  ended_moved s (root.Element a j) = refl
  ended_moved s (root.Field a f) = refl
  ended_moved s (root.Static f owner) = refl

  has_ended_moved : (s : State) (p : Path) → has_ended (move_state k q s) (move_path k.rho p) ≡ has_ended s p
  unfolding has_ended
  has_ended_moved s p = ended_moved s p.root

  pub alive_lock : (p : Path) (s : State) (x y : Next) → Lock k q x y → Lock k q (alive (move_path k.rho p) (move_state k q s) x) (alive p s y)
  alive_lock p s x y l = within_lock k q _ (not (has_ended s p)) s x y (ap not (has_ended_moved s p)) (λ e. l)

  -- ---- static fields

  global_by : (o : Option Global) → option_map (λ (g : Global). g.value) (option_map (move_global k.rho) o) ≡ option_map (move_value k.rho) (option_map (λ (g : Global). g.value) o)
  global_by None = refl
  global_by (Some g) = refl

  pub global_moved : (s : State) (f : ℕ) (owner : TypeExpr) → global_of (move_state k q s) (k.rho.field f) (move_expr k.rho owner) ≡ option_map (move_value k.rho) (global_of s f owner)
  unfolding global_of
  global_moved s f owner =
      ap (option_map (λ (g : Global). g.value)) (find_moved (move_global k.rho) (is_global f owner) (is_global (k.rho.field f) (move_expr k.rho owner)) (λ g. same_globals_moved k.back k.rho k.undone f owner g) s.statics)
      ∙ global_by (find (is_global f owner) s.statics)

  found_global : (f : ℕ) (owner : TypeExpr) (gs : List Global) (g : Global) → IsTrue (list_all (keeps_global k.keep) gs) → find (is_global f owner) gs ≡ Some g → IsTrue (keeps_global k.keep g)
  found_global f owner [] g h e = cc
  found_global f owner (x ∷ gs) g h e = by_test (is_global f owner x) (λ r. found_global f owner gs g (second_so (keeps_global k.keep x) (list_all (keeps_global k.keep) gs) h) r) e
    where
      by_test : (b : Bool) → (find (is_global f owner) gs ≡ Some g → IsTrue (keeps_global k.keep g)) → (if b then Some x else find (is_global f owner) gs) ≡ Some g → IsTrue (keeps_global k.keep g)
      by_test true rest e = some_is (λ y. IsTrue (keeps_global k.keep y)) x g e (first_so (keeps_global k.keep x) (list_all (keeps_global k.keep) gs) h)
      by_test false rest e = rest e

  pub global_kept : (s : State) (f : ℕ) (owner : TypeExpr) (v : Value) → Covered k.keep q s → global_of s f owner ≡ Some v → IsTrue (keeps_value k.keep v)
  unfolding global_of
  global_kept s f owner v c e =
      let m : Made (λ (g : Global). g.value) (find (is_global f owner) s.statics) v = made_is _ _ _ e in
      subst (λ (w : Value). IsTrue (keeps_value k.keep w)) m.is (second_so _ (keeps_value k.keep m.x.value) (found_global f owner s.statics m.x c.statics m.there))

-- ---- a cell that the flags keep

ranked_value : (k : Keep) (flags : List Bool) (cells : List Value) (n : ℕ) (v : Value) → slice_get flags n ≡ Some true → IsTrue (keeps_values k (keep flags cells)) → slice_get cells n ≡ Some v → IsTrue (keeps_value k v)
ranked_value k flags cells n v f h e = all_at (keeps_value k) (keep flags cells) (rank flags n) v h (keep_rank flags cells n f ∙ e)

cell_of_kept : (k : Keep) (c : Cell) → IsTrue (keeps_cell k c) → (e : TypeExpr) (q : Queries) (cells : List Value) (v : Value) → IsTrue (keeps_values k (keep (mask k (q.cells e)) cells))
    → cell_of q e cells c ≡ Some v → IsTrue (keeps_value k v)
unfolding cell_of
cell_of_kept k c h e q cells v g is =
    let t : Through (slice_get cells) (cell_place c (q.cells e)) v = through_is _ _ _ is in
    ranked_value k (mask k (q.cells e)) cells t.x v (place_flag k c h (q.cells e) t.x t.there) g t.is

-- ---- the value at the root

module _ (k : Change) (after before : Queries) (a : Agree k after before) where
  boxed_moved : (o : Option Obj) → option_and_then boxed_in (option_map (move_obj k before) o) ≡ option_map (move_value k.rho) (option_and_then boxed_in o)
  boxed_moved None = refl
  boxed_moved (Some (object.Instance of cells)) = refl
  boxed_moved (Some (object.Boxed of v)) = refl
  boxed_moved (Some (object.Array of cells)) = refl
  boxed_moved (Some (object.Str units)) = refl
  boxed_moved (Some (object.TypeOf e)) = refl
  boxed_moved (Some (object.Member i e)) = refl

  pub boxed_at : (s : State) (n : ℕ) → option_and_then boxed_in (object_at (move_state k before s) n) ≡ option_map (move_value k.rho) (option_and_then boxed_in (object_at s n))
  boxed_at s n = ap (option_and_then boxed_in) (object_moved k after before a s n) ∙ boxed_moved (object_at s n)

  boxed_is : (o : Obj) (v : Value) → IsTrue (keeps_obj k.keep before o) → boxed_in o ≡ Some v → IsTrue (keeps_value k.keep v)
  boxed_is (object.Instance of cells) v h e = cc
  boxed_is (object.Boxed of w) v h e = some_is (λ x. IsTrue (keeps_value k.keep x)) w v e (second_so (keeps_made k.keep of) (keeps_value k.keep w) h)
  boxed_is (object.Array of cells) v h e = cc
  boxed_is (object.Str units) v h e = cc
  boxed_is (object.TypeOf t) v h e = cc
  boxed_is (object.Member i t) v h e = cc

  pub boxed_kept : (s : State) (n : ℕ) (v : Value) → Covered k.keep before s → option_and_then boxed_in (object_at s n) ≡ Some v → IsTrue (keeps_value k.keep v)
  boxed_kept s n v c e =
      let t : Through boxed_in (object_at s n) v = through_is _ _ _ e in
      boxed_is t.x v (object_kept k after before a s c n t.x t.there) t.is

  element_moved : (j : ℕ) (o : Option Obj) → option_and_then (element_in j) (option_map (move_obj k before) o) ≡ option_map (move_value k.rho) (option_and_then (element_in j) o)
  element_moved j None = refl
  element_moved j (Some (object.Instance of cells)) = refl
  element_moved j (Some (object.Boxed of v)) = refl
  element_moved j (Some (object.Array of cells)) = slice_get-map (move_value k.rho) cells j
  element_moved j (Some (object.Str units)) = refl
  element_moved j (Some (object.TypeOf e)) = refl
  element_moved j (Some (object.Member i e)) = refl

  element_is : (j : ℕ) (o : Obj) (v : Value) → IsTrue (keeps_obj k.keep before o) → element_in j o ≡ Some v → IsTrue (keeps_value k.keep v)
  element_is j (object.Instance of cells) v h e = cc
  element_is j (object.Boxed of w) v h e = cc
  element_is j (object.Array of cells) v h e = all_at (keeps_value k.keep) cells j v (second_so (shows_expr k.keep of) (keeps_values k.keep cells) h) e
  element_is j (object.Str units) v h e = cc
  element_is j (object.TypeOf t) v h e = cc
  element_is j (object.Member i t) v h e = cc

  cell_by : (c : Cell) → IsTrue (keeps_cell k.keep c) → (o : Option Obj) → ((x : Obj) → o ≡ Some x → IsTrue (keeps_obj k.keep before x))
      → option_and_then (cell_in after (move_cell k.rho c)) (option_map (move_obj k before) o) ≡ option_map (move_value k.rho) (option_and_then (cell_in before c) o)
  cell_by c h None f = refl
  cell_by c h (Some o) f = cell_in_moved k after before a c h o (f o refl)

  pub cell_at_moved : (s : State) → Covered k.keep before s → (n : ℕ) (c : Cell) → IsTrue (keeps_cell k.keep c)
      → option_and_then (cell_in after (move_cell k.rho c)) (object_at (move_state k before s) n) ≡ option_map (move_value k.rho) (option_and_then (cell_in before c) (object_at s n))
  cell_at_moved s cs n c h = ap (option_and_then (cell_in after (move_cell k.rho c))) (object_moved k after before a s n) ∙ cell_by c h (object_at s n) (λ x e. object_kept k after before a s cs n x e)

  -- a cell that the flags keep
  kept_cell : (c : Cell) → IsTrue (keeps_cell k.keep c) → (e : TypeExpr) (cells : List Value) (v : Value) → IsTrue (keeps_values k.keep (keep (mask k.keep (before.cells e)) cells))
      → cell_of before e cells c ≡ Some v → IsTrue (keeps_value k.keep v)
  kept_cell c h e cells v g is = cell_of_kept k.keep c h e before cells v g is

  pub cell_is : (c : Cell) → IsTrue (keeps_cell k.keep c) → (o : Obj) (v : Value) → IsTrue (keeps_obj k.keep before o) → cell_in before c o ≡ Some v → IsTrue (keeps_value k.keep v)
  cell_is c h (object.Instance of cells) v g e = kept_cell c h of cells v (second_so (keeps_made k.keep of) _ g) e
  cell_is c h (object.Boxed of w) v g e = cc
  cell_is c h (object.Array of cells) v g e = cc
  cell_is c h (object.Str units) v g e = cc
  cell_is c h (object.TypeOf t) v g e = cc
  cell_is c h (object.Member i t) v g e = cc

  frame_arg : (j : ℕ) (o : Option Frame) → option_and_then (λ (f : Frame). slice_get f.args j) (option_map (move_frame k.rho) o) ≡ option_map (move_value k.rho) (option_and_then (λ (f : Frame). slice_get f.args j) o)
  frame_arg j None = refl
  frame_arg j (Some f) = slice_get-map (move_value k.rho) f.args j

  frame_local : (j : ℕ) (o : Option Frame) → option_and_then (λ (f : Frame). slice_get f.locals j) (option_map (move_frame k.rho) o) ≡ option_map (move_value k.rho) (option_and_then (λ (f : Frame). slice_get f.locals j) o)
  frame_local j None = refl
  frame_local j (Some f) = slice_get-map (move_value k.rho) f.locals j

  pub root_moved : (s : State) → Covered k.keep before s → (p : Root) → IsTrue (keeps_root k.keep p)
      → root_value after (move_state k before s) (move_root k.rho p) ≡ option_map (move_value k.rho) (root_value before s p)
  root_moved s c (root.Arg n j) h = ap (option_and_then (λ (f : Frame). slice_get f.args j)) (frame_moved k before n s) ∙ frame_arg j (frame_with n s)
  root_moved s c (root.Local n j) h = ap (option_and_then (λ (f : Frame). slice_get f.locals j)) (frame_moved k before n s) ∙ frame_local j (frame_with n s)
  root_moved s c (root.Boxed n) h = boxed_at s n
  root_moved s c (root.Element n j) h = ap (option_and_then (element_in j)) (object_moved k after before a s n) ∙ element_moved j (object_at s n)
  root_moved s c (root.Field n f) h = cell_at_moved s c n (of_field f.0) h
  root_moved s c (root.Static f owner) h = global_moved k before s f.0 owner

  pub root_kept : (s : State) → Covered k.keep before s → (p : Root) (v : Value) → IsTrue (keeps_root k.keep p) → root_value before s p ≡ Some v → IsTrue (keeps_value k.keep v)
  root_kept s c (root.Arg n j) v h e =
      let t : Through (λ (f : Frame). slice_get f.args j) (frame_with n s) v = through_is _ _ _ e in
      all_at (keeps_value k.keep) t.x.args j v (frame_kept k before n s t.x c t.there).args t.is
  root_kept s c (root.Local n j) v h e =
      let t : Through (λ (f : Frame). slice_get f.locals j) (frame_with n s) v = through_is _ _ _ e in
      all_at (keeps_value k.keep) t.x.locals j v (frame_kept k before n s t.x c t.there).locals t.is
  root_kept s c (root.Boxed n) v h e = boxed_kept s n v c e
  root_kept s c (root.Element n j) v h e =
      let t : Through (element_in j) (object_at s n) v = through_is _ _ _ e in
      element_is j t.x v (object_kept k after before a s c n t.x t.there) t.is
  root_kept s c (root.Field n f) v h e =
      let t : Through (cell_in before (of_field f.0)) (object_at s n) v = through_is _ _ _ e in
      cell_is (of_field f.0) h t.x v (object_kept k after before a s c n t.x t.there) t.is
  root_kept s c (root.Static f owner) v h e = global_kept k before s f.0 owner v c e

  values_by : (ks : List ℕ) (o : Option Value) → option_and_then (value_in ks) (option_map (move_value k.rho) o) ≡ option_map (move_value k.rho) (option_and_then (value_in ks) o)
  values_by ks None = refl
  values_by ks (Some v) = value_in_moved k.rho ks v

  pub place_moved : (s : State) → Covered k.keep before s → (p : Path) → IsTrue (keeps_path k.keep p)
      → place_value after (move_state k before s) (move_path k.rho p) ≡ option_map (move_value k.rho) (place_value before s p)
  unfolding place_value
  place_moved s c p h = ap (option_and_then (value_in p.steps)) (root_moved s c p.root (first_so (keeps_root k.keep p.root) _ h)) ∙ values_by p.steps (root_value before s p.root)

  pub place_kept : (s : State) → Covered k.keep before s → (p : Path) (v : Value) → IsTrue (keeps_path k.keep p) → place_value before s p ≡ Some v → IsTrue (keeps_value k.keep v)
  unfolding place_value
  place_kept s c p v h e =
      let t : Through (value_in p.steps) (root_value before s p.root) v = through_is _ _ _ e in
      value_in_kept k.keep p.steps t.x v (root_kept s c p.root t.x (first_so (keeps_root k.keep p.root) _ h) t.there) t.is

  pub at_place_lock : (p : Path) (s : State) (f g : Value → Next) → Covered k.keep before s → IsTrue (keeps_path k.keep p)
      → ((v : Value) → IsTrue (keeps_value k.keep v) → Lock k before (f (move_value k.rho v)) (g v))
      → Lock k before (at_place after (move_path k.rho p) (move_state k before s) f) (at_place before p s g)
  unfolding at_place
  at_place_lock p s f g c h l = had_moved k before (move_value k.rho) (place_value before s p) _ s f g (place_moved s c p h) (λ v e. l v (place_kept s c p v h e))
