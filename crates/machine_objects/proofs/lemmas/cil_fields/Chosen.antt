-- Accesses by what they are of.
use Rattle.std.proofs.Common.{◌≡◌, ◌∙◌, sym, ap, List, Bool, true, false, cond}
use Rattle.std.specs.Prelude.{Some, None}
use Rattle.il_base.specs.declared.cil_values.value.Value.{Value}
use Rattle.il_base.specs.declared.cil_values.resolved.Instruction.{Instruction}
use Rattle.il_base.specs.declared.cil_values.state.State.{State}
use Rattle.rules.specs.step_rules.Queries.{Queries}
use Rattle.rules.specs.step_rules.Next.{Next}
use Rattle.rules.specs.step_rules.Words.{Here}
use Rattle.rules.specs.step_rules.Closing.{Accessed}
use Rattle.rules.specs.step_rules.Stores.{Parts, parts_of}
use Rattle.rules.specs.step_rules.Fields.{load_field, load_from, load_part}
use Rattle.machine_objects.specs.cil_fields.Placing.{load_through}

pub chosen : (b c : Bool) (n x y : Next) → c ≡ b → c ≡ true → n ≡ x → n ≡ cond b x y
chosen b c n x y known e on = on ∙ sym (ap (λ (z : Bool). cond z x y) (sym known ∙ e))

pub otherwise : (b c : Bool) (n x y : Next) → c ≡ b → c ≡ false → n ≡ y → n ≡ cond b x y
otherwise b c n x y known e on = on ∙ sym (ap (λ (z : Bool). cond z x y) (sym known ∙ e))

module _ (q : Queries) (here : Here) (i : Instruction) (a : Accessed) (r : Value) (stack : List Value) (s : State) (n : Next) where
  pub load_struct : (p : Parts) → parts_of r ≡ Some p → n ≡ load_part q here i a stack s p → n ≡ load_field q here i a r stack s
  load_struct p e on = on ∙ sym (ap (load_from q here i a r stack s) e)

  pub load_plain : parts_of r ≡ None → n ≡ load_through q here i a r stack s → n ≡ load_field q here i a r stack s
  load_plain e on = on ∙ sym (ap (load_from q here i a r stack s) e)
