-- Places that managed pointers lead to (I.12.3.2.1): their values, and the state after a store.
use Rattle.std.specs.Prelude.{ℕ, List, [], ◌∷◌, nat_eq, Bool, true, false, not, ◌&&◌, Option, Some, None, slice_get, slice_set, find, map, if◌then◌else◌}
use Rattle.std.specs.Option.{option_map, option_and_then, is_some}
use Rattle.std.specs.List.{position}
use Rattle.il_base.specs.declared.world_model.expr.TypeExpr.{TypeExpr}
use Rattle.il_base.specs.world_model.Exprs.{same_expr}
use Rattle.il_base.specs.declared.cil_values.value.Value.{Value}
use Rattle.il_base.specs.declared.cil_values.value.Value.TheVariants as value
use Rattle.il_base.specs.declared.cil_values.object.Obj.{Obj}
use Rattle.il_base.specs.declared.cil_values.object.Obj.TheVariants as object
use Rattle.il_base.specs.declared.cil_values.path.Path.{Path}
use Rattle.il_base.specs.declared.cil_values.path.Root.{Root}
use Rattle.il_base.specs.declared.cil_values.path.Root.TheVariants as root
use Rattle.il_base.specs.declared.cil_values.layout.Cell.{Cell}
use Rattle.il_base.specs.declared.cil_values.layout.Layout.{Layout}
use Rattle.il_base.specs.declared.cil_values.layout.Cell.TheVariants.{Field as of_field, Message as message, Inner as inner}
use Rattle.rules.specs.step_rules.Queries.{Queries}
use Rattle.il_base.specs.declared.cil_values.state.State.{State}
use Rattle.il_base.specs.declared.cil_values.frame.Frame.{Frame}
use Rattle.il_base.specs.declared.cil_values.state.Global.{Global}
use Rattle.rules.specs.step_rules.Next.{Next}
use Rattle.rules.specs.step_rules.Words.{had, within, object_at}
use Rattle.rules.specs.step_rules.Stores.{Parts, parts_of}

-- ---- cells of an instance

abbrev pub same_cell : Cell → Cell → Bool
same_cell (of_field a) (of_field b) = nat_eq a b
same_cell message message = true
same_cell inner inner = true
same_cell _ _ = false

-- the number of a cell among those of a type
unfoldable pub cell_place : Cell → List Layout → Option ℕ
cell_place c cells = position (λ l. same_cell c l.cell) cells

-- the cell of an instance of a class
unfoldable pub cell_of : Queries → TypeExpr → List Value → Cell → Option Value
cell_of q e cells c = option_and_then (slice_get cells) (cell_place c (q.cells e))

abbrev pub set_if : {A : Type 0} → List A → A → ℕ → Option (List A)
set_if xs x at = option_map (λ old. slice_set xs at x) (slice_get xs at)

unfoldable pub with_cell : Queries → TypeExpr → List Value → Cell → Value → Option (List Value)
with_cell q e cells c v = option_and_then (set_if cells v) (cell_place c (q.cells e))

-- the value in a cell of an object
abbrev pub cell_in : Queries → Cell → Obj → Option Value
cell_in q c (object.Instance of cells) = cell_of q of cells c
cell_in q c _ = None

abbrev pub put_cell_in : Queries → Cell → Value → Obj → Option Obj
put_cell_in q c v (object.Instance of cells) = option_map (λ vs. object.Instance of vs) (with_cell q of cells c v)
put_cell_in q c v _ = None

-- ---- structs

-- the value at the end of a way into structs
unfoldable pub value_in : List ℕ → Value → Option Value
value_in [] v = Some v
value_in (k ∷ ks) v = option_and_then (λ (p : Parts). option_and_then (value_in ks) (slice_get p.cells k)) (parts_of v)

abbrev pub with_struct : Parts → ℕ → Value → Value
with_struct p k v = value.Struct p.of (slice_set p.cells k v)

-- a value with another one put at the end of a way into structs
unfoldable pub put_in : List ℕ → Value → Value → Option Value
put_in [] new v = Some new
put_in (k ∷ ks) new v = option_and_then (λ (p : Parts). option_map (with_struct p k) (option_and_then (put_in ks new) (slice_get p.cells k))) (parts_of v)

-- ---- frames

abbrev pub has_number : ℕ → Frame → Bool
has_number n f = nat_eq f.number n

unfoldable pub frame_with : ℕ → State → Option Frame
frame_with n s = find (has_number n) (s.top ∷ s.below)

abbrev pub change_frame : ℕ → (Frame → Frame) → Frame → Frame
change_frame n change f = if has_number n f then change f else f

unfoldable pub with_frame : ℕ → (Frame → Frame) → State → State
with_frame n change s = record s { top = change_frame n change s.top; below = map (change_frame n change) s.below }

abbrev pub is_there : ℕ → State → Bool
is_there n s = is_some (frame_with n s)

-- whether a pointer leads into a frame that has ended
abbrev pub ended_root : State → Root → Bool
ended_root s (root.Arg n k) = not (is_there n s)
ended_root s (root.Local n k) = not (is_there n s)
ended_root s _ = false

unfoldable pub has_ended : State → Path → Bool
has_ended s p = ended_root s p.root

-- ---- static fields

abbrev pub is_global : ℕ → TypeExpr → Global → Bool
is_global field owner g = nat_eq g.field field && same_expr g.owner owner

unfoldable pub global_of : State → ℕ → TypeExpr → Option Value
global_of s field owner = option_map (λ g. g.value) (find (is_global field owner) s.statics)

abbrev pub change_global : ℕ → TypeExpr → Value → Global → Global
change_global field owner v g = if is_global field owner g then record g { value = v } else g

unfoldable pub with_global : ℕ → TypeExpr → Value → State → State
with_global field owner v s = record s { statics = map (change_global field owner v) s.statics }

-- ---- the value at the root of a pointer

abbrev pub boxed_in : Obj → Option Value
boxed_in (object.Boxed of v) = Some v
boxed_in _ = None

abbrev pub element_in : ℕ → Obj → Option Value
element_in k (object.Array of cells) = slice_get cells k
element_in k _ = None

abbrev pub root_value : Queries → State → Root → Option Value
root_value q s (root.Arg n k) = option_and_then (λ (f : Frame). slice_get f.args k) (frame_with n s)
root_value q s (root.Local n k) = option_and_then (λ (f : Frame). slice_get f.locals k) (frame_with n s)
root_value q s (root.Boxed a) = option_and_then boxed_in (object_at s a)
root_value q s (root.Element a k) = option_and_then (element_in k) (object_at s a)
root_value q s (root.Field a f) = option_and_then (cell_in q (of_field f.0)) (object_at s a)
root_value q s (root.Static f owner) = global_of s f.0 owner

-- the value of a place; None where the pointer leads to none
unfoldable pub place_value : Queries → State → Path → Option Value
place_value q s p = option_and_then (value_in p.steps) (root_value q s p.root)

-- ---- a value put there

abbrev pub with_object : State → ℕ → Option Obj → Option State
with_object s a None = None
with_object s a (Some o) = Some (record s { heap = slice_set s.heap a o })

abbrev pub put_boxed : Value → Obj → Option Obj
put_boxed v (object.Boxed of old) = Some (object.Boxed of v)
put_boxed v _ = None

abbrev pub put_element : ℕ → Value → Obj → Option Obj
put_element k v (object.Array of cells) = option_map (λ vs. object.Array of vs) (set_if cells v k)
put_element k v _ = None

abbrev pub set_arg : ℕ → Value → Frame → Frame
set_arg k v f = record f { args = slice_set f.args k v }

abbrev pub set_local : ℕ → Value → Frame → Frame
set_local k v f = record f { locals = slice_set f.locals k v }

-- the state with another value at the root of a pointer
abbrev pub put_root : Queries → State → Root → Value → Option State
put_root q s (root.Arg n k) v = Some (with_frame n (set_arg k v) s)
put_root q s (root.Local n k) v = Some (with_frame n (set_local k v) s)
put_root q s (root.Boxed a) v = with_object s a (option_and_then (put_boxed v) (object_at s a))
put_root q s (root.Element a k) v = with_object s a (option_and_then (put_element k v) (object_at s a))
put_root q s (root.Field a f) v = with_object s a (option_and_then (put_cell_in q (of_field f.0) v) (object_at s a))
put_root q s (root.Static f owner) v = Some (with_global f.0 owner v s)

abbrev pub put_whole : Queries → State → Root → Option Value → Option State
put_whole q s r None = None
put_whole q s r (Some v) = put_root q s r v

-- the state with another value in a place; None where the pointer leads to none
unfoldable pub with_place : Queries → State → Path → Value → Option State
with_place q s p v = put_whole q s p.root (option_and_then (put_in p.steps v) (root_value q s p.root))

-- ---- as words

-- goes on with the value of a place; a pointer that leads to none ends the run
unfoldable pub at_place : Queries → Path → State → (Value → Next) → Next
at_place q p s f = had (place_value q s p) s f

-- goes on with the state after a store
unfoldable pub put_at : Queries → Path → Value → State → (State → Next) → Next
put_at q p v s f = had (with_place q s p v) s f

-- a pointer into a frame that has ended stops the run
abbrev pub alive : Path → State → Next → Next
alive p s next = within (not (has_ended s p)) s next
