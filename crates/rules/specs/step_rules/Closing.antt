-- Types, methods and fields of operands as the running method has them (II.9.8): with its own arguments put in, without the
-- modifiers around them. What has then no meaning counts as bad, and stops the step that reaches it.
use Rattle.std.specs.Prelude.{ℕ, List, [], ◌∷◌, length, map, ◌==◌, nat_eq, Bool, true, false, ◌&&◌, Option, Some, None, if◌then◌else◌}
use Rattle.std.specs.List.{list_all}
use Rattle.std.specs.Option.{option_map, option_and_then}
use Rattle.il_base.specs.declared.element.TheConstants.{VOID}
use Rattle.il_base.specs.declared.world_model.known.Known.{Known}
use Rattle.il_base.specs.declared.world_model.expr.TypeExpr.{TypeExpr, fold-TypeExpr, out-TypeExpr}
use Rattle.il_base.specs.declared.world_model.expr.TypeExpr.TheOpen.{TypeExpr-F}
use Rattle.il_base.specs.declared.world_model.expr.TypeExpr as expr
use Rattle.il_base.specs.declared.world_model.expr.MethodUse.{MethodUse}
use Rattle.il_base.specs.declared.world_model.expr.FieldUse.{FieldUse}
use Rattle.il_base.specs.world_model.Exprs.{subst}
use Rattle.il_base.specs.declared.cil_values.definition.Method.{Method}
use Rattle.il_base.specs.declared.cil_values.definition.Signature.{Signature}
use Rattle.il_base.specs.declared.cil_values.definition.FieldDef.{FieldDef}
use Rattle.il_base.specs.declared.cil_values.definition.Head.{Head}
use Rattle.rules.specs.step_rules.Queries.{Queries}
use Rattle.il_base.specs.declared.cil_values.state.State.{State}
use Rattle.rules.specs.step_rules.Next.{Next}
use Rattle.rules.specs.step_rules.Words.{Here, known, had, good, args_of}

-- ---- modifiers (II.7.1)

-- a type as it is, and without the modifiers around it
abbrev pub twice : TypeExpr → TypeExpr × TypeExpr
twice e = (e, e)

abbrev pub whole_of : List (TypeExpr × TypeExpr) → List TypeExpr
whole_of es = map (λ p. p.0) es

abbrev pub plain_layer : TypeExpr-F (TypeExpr × TypeExpr) → TypeExpr × TypeExpr
plain_layer (TypeExpr-F.Prim n) = twice (expr.Prim n)
plain_layer (TypeExpr-F.Def t) = twice (expr.Def t)
plain_layer (TypeExpr-F.Inst t args) = twice (expr.Inst t (whole_of args))
plain_layer (TypeExpr-F.Array x) = twice (expr.Array x.0)
plain_layer (TypeExpr-F.ByRef x) = twice (expr.ByRef x.0)
plain_layer (TypeExpr-F.Var n) = twice (expr.Var n)
plain_layer (TypeExpr-F.MVar n) = twice (expr.MVar n)
plain_layer (TypeExpr-F.Mod required by x) = (expr.Mod required by x.0, x.1)

-- without the modifiers around it; those inside arguments stay
unfoldable pub plain : TypeExpr → TypeExpr
plain e = (fold-TypeExpr (TypeExpr × TypeExpr) plain_layer e).1

-- ---- closed types

-- where a closed type may stand
pub data Standing : Type 0 where
  -- a parameter is left in it, or it has another number of arguments than its definition has parameters
  broken : Standing
  -- VOID or a managed pointer's type: no argument of a type and no element
  alone : Standing
  whole : Standing

abbrev pub is_whole : Standing → Bool
is_whole whole = true
is_whole _ = false

abbrev pub is_sound : Standing → Bool
is_sound broken = false
is_sound _ = true

abbrev pub whole_if : Bool → Standing
whole_if true = whole
whole_if false = broken

abbrev pub takes : Option Head → ℕ → Bool
takes None n = false
takes (Some h) n = nat_eq h.params n

abbrev pub alone_if : Standing → Standing
alone_if broken = broken
alone_if _ = alone

abbrev pub standing_layer : (ℕ → Option Head) → TypeExpr-F Standing → Standing
standing_layer heads (TypeExpr-F.Prim n) = if n == VOID then alone else whole
standing_layer heads (TypeExpr-F.Def t) = whole_if (takes (heads t.0) 0)
standing_layer heads (TypeExpr-F.Inst t args) = whole_if (takes (heads t.0) (length args) && list_all is_whole args)
standing_layer heads (TypeExpr-F.Array x) = whole_if (is_whole x)
standing_layer heads (TypeExpr-F.ByRef x) = alone_if x
standing_layer heads (TypeExpr-F.Var n) = broken
standing_layer heads (TypeExpr-F.MVar n) = broken
standing_layer heads (TypeExpr-F.Mod required by x) = x

unfoldable pub standing : (ℕ → Option Head) → TypeExpr → Standing
standing heads = fold-TypeExpr Standing (standing_layer heads)

-- VOID without the modifiers around it
abbrev pub is_void_in : TypeExpr-F TypeExpr → Bool
is_void_in (TypeExpr-F.Prim n) = n == VOID
is_void_in _ = false

unfoldable pub is_void : TypeExpr → Bool
is_void e = is_void_in (out-TypeExpr (plain e))

abbrev pub if_so : {A : Type 0} → Bool → A → Option A
if_so true x = Some x
if_so false x = None

-- a return type with these arguments put in, which can be VOID
unfoldable pub closed_return : Queries → List TypeExpr → List TypeExpr → TypeExpr → Option TypeExpr
closed_return q targs margs e = let c = plain (subst targs margs e) in if_so (is_sound (standing q.head c)) c

-- the type of a local, a parameter or an operand with these arguments put in: not VOID
unfoldable pub closed_slot : Queries → List TypeExpr → List TypeExpr → TypeExpr → Option TypeExpr
closed_slot q targs margs e = option_and_then (λ c. if is_void c then None else Some c) (closed_return q targs margs e)

-- the type of an element or a field with these arguments put in: neither VOID nor a managed pointer's
unfoldable pub closed_cell_by : (ℕ → Option Head) → List TypeExpr → List TypeExpr → TypeExpr → Option TypeExpr
closed_cell_by heads targs margs e = let c = plain (subst targs margs e) in if_so (is_whole (standing heads c)) c

abbrev pub closed_cell : Queries → List TypeExpr → List TypeExpr → TypeExpr → Option TypeExpr
closed_cell q targs margs e = closed_cell_by q.head targs margs e

-- a list with an item in front, where both are there
abbrev pub front : {A : Type 0} → Option A → Option (List A) → Option (List A)
front (Some x) (Some xs) = Some (x ∷ xs)
front _ _ = None

abbrev pub all_of : {A B : Type 0} → (A → Option B) → List A → Option (List B)
all_of f [] = Some []
all_of f (x ∷ xs) = front (f x) (all_of f xs)

-- a generic argument with these arguments put in, which keeps its modifiers
abbrev pub closed_arg : Queries → List TypeExpr → List TypeExpr → TypeExpr → Option TypeExpr
closed_arg q targs margs e = let c = subst targs margs e in if_so (is_whole (standing q.head c)) c

-- ---- operands

-- goes on with the type of an operand, closed by the running method's arguments
unfoldable pub closed : Queries → Here → Known TypeExpr → State → (TypeExpr → Next) → Next
closed q here typ s f = known typ s (λ e. had (closed_slot q here.targs here.margs e) s f)

-- goes on with the type of an operand, closed, whose values are elements or cells
unfoldable pub closed_element : Queries → Here → Known TypeExpr → State → (TypeExpr → Next) → Next
closed_element q here typ s f = known typ s (λ e. had (closed_cell q here.targs here.margs e) s f)

-- a method with its closed use and its signature with the arguments put in
pub record Callee : Type 0 where
  pub called : MethodUse
  pub method : Method
  pub signature : Signature

abbrev pub closed_params : Queries → MethodUse → Signature → Option (List TypeExpr)
closed_params q u sig = all_of (closed_slot q (args_of u.owner) u.args) sig.params

abbrev pub with_types : Signature → List TypeExpr → TypeExpr → Signature
with_types sig params ret = record sig { params = params; ret = ret }

-- the signature of a closed use
unfoldable pub closed_signature : Queries → MethodUse → Signature → Option Signature
closed_signature q u sig =
    option_and_then (λ params. option_map (with_types sig params) (closed_return q (args_of u.owner) u.args sig.ret)) (closed_params q u sig)

abbrev pub callee_with : Queries → MethodUse → Method → Signature → Option Callee
callee_with q u m sig =
    if nat_eq (length u.args) sig.own
    then option_map (λ types. record { called = u; method = m; signature = types }) (closed_signature q u sig)
    else None

-- a closed use with its method
unfoldable pub callee_of : Queries → MethodUse → Option Callee
callee_of q u = option_and_then (λ (m : Method). option_and_then (callee_with q u m) (good m.signature)) (q.method u.method.0)

-- a use with the running method's arguments put in
unfoldable pub closed_method_use : Queries → Here → MethodUse → Option MethodUse
closed_method_use q here u =
    option_and_then (λ owner. option_map (λ args. record u { owner = owner; args = args }) (all_of (closed_arg q here.targs here.margs) u.args)) (closed_cell q here.targs here.margs u.owner)

-- goes on with the method of an operand, closed
unfoldable pub closed_use : Queries → Here → Known MethodUse → State → (Callee → Next) → Next
closed_use q here operand s f = known operand s (λ u. had (option_and_then (callee_of q) (closed_method_use q here u)) s f)

-- a field with its closed owner
pub record Accessed : Type 0 where
  pub id : ℕ
  pub owner : TypeExpr
  pub field : FieldDef

abbrev pub accessed : ℕ → TypeExpr → FieldDef → Accessed
accessed id owner f = record { id = id; owner = owner; field = f }

unfoldable pub accessed_use : Queries → Here → FieldUse → Option Accessed
accessed_use q here u = option_and_then (λ owner. option_map (accessed u.field.0 owner) (q.field u.field.0)) (closed_cell q here.targs here.margs u.owner)

-- goes on with the field of an operand, closed; whether the field's own type has a meaning is checked with its cell
unfoldable pub closed_field : Queries → Here → Known FieldUse → State → (Accessed → Next) → Next
closed_field q here operand s f = known operand s (λ u. had (accessed_use q here u) s f)
