-- Primitives and type definitions with arguments put in: each is as it was.
use Rattle.std.proofs.Common.{◌≡◌, ℕ, Bool, true, false, List, Option, Some, None, refl, ap, ◌∙◌}
use Rattle.std.specs.Prelude.{◌==◌, not, if◌then◌else◌}
use Rattle.std.specs.Option.{option_and_then}
use Rattle.il_base.specs.declared.element.TheConstants.{VOID}
use Rattle.il_base.specs.declared.ids.TypeId.{TypeId}
use Rattle.il_base.specs.declared.world_model.expr.TypeExpr.{TypeExpr}
use Rattle.il_base.specs.declared.world_model.expr.TypeExpr.TheVariants as expr
use Rattle.il_base.specs.world_model.Exprs.{subst}
use Rattle.il_base.proofs.lemmas.world_model.ExprLayers.{subst_prim, subst_def}
use Rattle.il_base.specs.declared.cil_values.definition.Head.{Head}
use Rattle.rules.specs.step_rules.Queries.{Queries}
use Rattle.rules.specs.step_rules.Closing.{plain, standing, is_whole, is_sound, is_void, takes, if_so, closed_return, closed_slot, closed_cell_by}
use Rattle.machine_words.proofs.lemmas.cil_closing.PlainLayers.{plain_prim, plain_def, void_prim, void_def}
use Rattle.machine_words.proofs.lemmas.cil_closing.StandingLayers.{whole_prim, whole_def, sound_prim, sound_def}

plain_of_prim : (targs margs : List TypeExpr) (n : ℕ) → plain (subst targs margs (expr.Prim n)) ≡ expr.Prim n
plain_of_prim targs margs n = ap plain (subst_prim targs margs n) ∙ plain_prim n

plain_of_def : (targs margs : List TypeExpr) (t : TypeId) → plain (subst targs margs (expr.Def t)) ≡ expr.Def t
plain_of_def targs margs t = ap plain (subst_def targs margs t) ∙ plain_def t

-- ---- returns

pub return_prim : (q : Queries) (targs margs : List TypeExpr) (n : ℕ) → closed_return q targs margs (expr.Prim n) ≡ Some (expr.Prim n)
unfolding closed_return
return_prim q targs margs n =
    ap (λ (c : TypeExpr). if_so (is_sound (standing q.head c)) c) (plain_of_prim targs margs n) ∙ ap (λ (b : Bool). if_so b (expr.Prim n)) (sound_prim q.head n)

pub return_def : (q : Queries) (targs margs : List TypeExpr) (t : TypeId) → closed_return q targs margs (expr.Def t) ≡ if_so (takes (q.head t.0) 0) (expr.Def t)
unfolding closed_return
return_def q targs margs t =
    ap (λ (c : TypeExpr). if_so (is_sound (standing q.head c)) c) (plain_of_def targs margs t) ∙ ap (λ (b : Bool). if_so b (expr.Def t)) (sound_def q.head t)

-- ---- slots

abbrev unless_void : TypeExpr → Option TypeExpr
unless_void c = if is_void c then None else Some c

unless_true : (e : TypeExpr) (b : Bool) → (if b then None else Some e) ≡ if_so (not b) e
unless_true e true = refl
unless_true e false = refl

slot_of_prim : (n : ℕ) → unless_void (expr.Prim n) ≡ if_so (not (n == VOID)) (expr.Prim n)
slot_of_prim n = ap (λ (b : Bool). if b then None else Some (expr.Prim n)) (void_prim n) ∙ unless_true (expr.Prim n) (n == VOID)

slot_of_def : (t : TypeId) (b : Bool) → option_and_then unless_void (if_so b (expr.Def t)) ≡ if_so b (expr.Def t)
slot_of_def t true = ap (λ (v : Bool). if v then None else Some (expr.Def t)) (void_def t)
slot_of_def t false = refl

pub slot_prim : (q : Queries) (targs margs : List TypeExpr) (n : ℕ) → closed_slot q targs margs (expr.Prim n) ≡ if_so (not (n == VOID)) (expr.Prim n)
unfolding closed_slot
slot_prim q targs margs n = ap (option_and_then unless_void) (return_prim q targs margs n) ∙ slot_of_prim n

pub slot_def : (q : Queries) (targs margs : List TypeExpr) (t : TypeId) → closed_slot q targs margs (expr.Def t) ≡ if_so (takes (q.head t.0) 0) (expr.Def t)
unfolding closed_slot
slot_def q targs margs t = ap (option_and_then unless_void) (return_def q targs margs t) ∙ slot_of_def t (takes (q.head t.0) 0)

-- ---- elements and fields

pub cell_prim : (heads : ℕ → Option Head) (targs margs : List TypeExpr) (n : ℕ) → closed_cell_by heads targs margs (expr.Prim n) ≡ if_so (not (n == VOID)) (expr.Prim n)
unfolding closed_cell_by
cell_prim heads targs margs n =
    ap (λ (c : TypeExpr). if_so (is_whole (standing heads c)) c) (plain_of_prim targs margs n) ∙ ap (λ (b : Bool). if_so b (expr.Prim n)) (whole_prim heads n)

pub cell_def : (heads : ℕ → Option Head) (targs margs : List TypeExpr) (t : TypeId) → closed_cell_by heads targs margs (expr.Def t) ≡ if_so (takes (heads t.0) 0) (expr.Def t)
unfolding closed_cell_by
cell_def heads targs margs t =
    ap (λ (c : TypeExpr). if_so (is_whole (standing heads c)) c) (plain_of_def targs margs t) ∙ ap (λ (b : Bool). if_so b (expr.Def t)) (whole_def heads t)

-- primitives and definitions as returns
pub ruleset settled_return = (return_prim, return_def)

-- as slots
pub ruleset settled_slot = (slot_prim, slot_def)

-- as elements and fields
pub ruleset settled_cell = (cell_prim, cell_def)
