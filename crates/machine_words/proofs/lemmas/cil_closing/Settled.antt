-- Types and signatures that are the same with any arguments put in.
use Rattle.std.proofs.Common.{◌≡◌, ℕ, Bool, true, false, List, ◌∷◌, Some, refl, ◌∙◌}
use Rattle.std.specs.Prelude.{◌==◌, not, IsTrue}
use Rattle.std.specs.Option.{option_map, option_and_then}
use Rattle.il_base.specs.declared.element.TheConstants.{VOID}
use Rattle.il_base.specs.declared.ids.TypeId.{TypeId}
use Rattle.il_base.specs.declared.world_model.expr.TypeExpr.{TypeExpr}
use Rattle.il_base.specs.declared.world_model.expr.TypeExpr.TheVariants as expr
use Rattle.il_base.specs.declared.cil_values.definition.Signature.{Signature}
use Rattle.rules.specs.step_rules.Queries.{Queries}
use Rattle.rules.specs.step_rules.Words.{args_of}
use Rattle.rules.specs.step_rules.Closing.{takes, if_so, front, with_types, closed_signature}
use Rattle.machine_words.specs.cil_closing.Settled.{SettledSlot, SettledReturn, SettledSlots, SettledSignature}
use Rattle.machine_words.proofs.lemmas.cil_closing.Settling.{return_prim, return_def, slot_prim, slot_def}

if_so_true : {A : Type 0} (x : A) (b : Bool) → IsTrue b → if_so b x ≡ Some x
if_so_true x true h = refl
if_so_true x false h = absurd cc

pub slot_of_prim : (q : Queries) (n : ℕ) → IsTrue (not (n == VOID)) → SettledSlot q (expr.Prim n)
slot_of_prim q n h targs margs = slot_prim q targs margs n ∙ if_so_true (expr.Prim n) (not (n == VOID)) h

pub slot_of_def : (q : Queries) (t : TypeId) → IsTrue (takes (q.head t.0) 0) → SettledSlot q (expr.Def t)
slot_of_def q t h targs margs = slot_def q targs margs t ∙ if_so_true (expr.Def t) (takes (q.head t.0) 0) h

pub return_of_prim : (q : Queries) (n : ℕ) → SettledReturn q (expr.Prim n)
return_of_prim q n targs margs = return_prim q targs margs n

pub return_of_def : (q : Queries) (t : TypeId) → IsTrue (takes (q.head t.0) 0) → SettledReturn q (expr.Def t)
return_of_def q t h targs margs = return_def q targs margs t ∙ if_so_true (expr.Def t) (takes (q.head t.0) 0) h

-- slots that are the same
pub ruleset slots = (slot_of_prim, slot_of_def)

-- returns that are the same
pub ruleset returns = (return_of_prim, return_of_def)

pub one_more : (q : Queries) (e : TypeExpr) (es : List TypeExpr) → SettledSlot q e → SettledSlots q es → SettledSlots q (e ∷ es)
one_more q e es one more targs margs = λ i. front (one targs margs i) (more targs margs i)

pub signature_is : (q : Queries) (sig : Signature) → SettledReturn q sig.ret → SettledSlots q sig.params → SettledSignature q sig
unfolding closed_signature
signature_is q sig ret params u =
    λ i. option_and_then (λ ps. option_map (with_types sig ps) (ret (args_of u.owner) u.args i)) (params (args_of u.owner) u.args i)
