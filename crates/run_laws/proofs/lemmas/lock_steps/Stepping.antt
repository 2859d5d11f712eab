-- A step, by the form of its instruction.
use Rattle.std.proofs.Common.{◌≡◌, ℕ, Bool, true, false, List, [], ◌∷◌, Some, refl, subst}
use Rattle.std.specs.Prelude.{IsTrue, nat_eq, find, if◌then◌else◌}
use Rattle.std.specs.List.{list_all}
use Rattle.std.specs.Cmp.{first_so, second_so}
use Rattle.il_base.specs.declared.body as body
use Rattle.il_base.specs.declared.body.Form.TheVariants as form
use Rattle.il_base.specs.declared.cil_values.resolved.Code.{Code}
use Rattle.il_base.specs.declared.cil_values.resolved.Instruction.{Instruction}
use Rattle.il_base.specs.declared.cil_values.state.State.{State}
use Rattle.rules.specs.step_rules.Queries.{Queries}
use Rattle.rules.specs.step_rules.Words.{Here, here_of, instruction_at}
use Rattle.rules.specs.step_rules.Step.{effect, execute, step}
use Rattle.rules.specs.change_rules.Change.{Keep, Change}
use Rattle.rules.specs.change_rules.Answers.{move_here, move_instruction}
use Rattle.rules.specs.change_rules.States.{move_state}
use Rattle.rules.specs.change_rules.Keeps.{keeps_operand, keeps_of_form, keeps_instruction, keeps_clause, keeps_code}
use Rattle.rules.specs.change_rules.Covered.{Covered}
use Rattle.rules.specs.change_rules.Agree.{Agree}
use Rattle.rules.specs.change_rules.Lock.{Lock, Runs}
use Rattle.run_laws.proofs.lemmas.lock_words.Words.{given_moved}
use Rattle.run_laws.proofs.lemmas.lock_words.Slots as slots
use Rattle.run_laws.proofs.lemmas.lock_throwing.Here.{KeptHere, here_moved, here_kept}
use Rattle.run_laws.proofs.lemmas.lock_throwing.Forms as throwing
use Rattle.run_laws.proofs.lemmas.lock_numbers.Forms as numbers
use Rattle.run_laws.proofs.lemmas.lock_places.Options.{some_is}
use Rattle.run_laws.proofs.lemmas.lock_places.Indirect as indirect
use Rattle.run_laws.proofs.lemmas.lock_fields.Texts as texts
use Rattle.run_laws.proofs.lemmas.lock_fields.Fields as fields
use Rattle.run_laws.proofs.lemmas.lock_types.Types as types
use Rattle.run_laws.proofs.lemmas.lock_types.Arrays as arrays
use Rattle.run_laws.proofs.lemmas.lock_calls.Making as making
use Rattle.run_laws.proofs.lemmas.lock_calls.Returning as returning
use Rattle.run_laws.proofs.lemmas.lock_calls.Returning.{instruction_moved}

found_kept : {A : Type 0} (p t : A → Bool) (xs : List A) (x : A) → IsTrue (list_all p xs) → find t xs ≡ Some x → IsTrue (p x)
found_kept p t [] x h e = cc
found_kept p t (y ∷ ys) x h e = by_test (t y) (λ r. found_kept p t ys x (second_so (p y) (list_all p ys) h) r) e
  where
    by_test : (b : Bool) → (find t ys ≡ Some x → IsTrue (p x)) → (if b then Some y else find t ys) ≡ Some x → IsTrue (p x)
    by_test true rest e = some_is (λ z. IsTrue (p z)) y x e (first_so (p y) (list_all p ys) h)
    by_test false rest e = rest e

instruction_kept : (k : Keep) (q : Queries) (code : Code) (at : ℕ) (i : Instruction) → IsTrue (keeps_code k q code) → instruction_at code at ≡ Some i → IsTrue (keeps_instruction k q i)
unfolding instruction_at
instruction_kept k q code at i h e =
    found_kept (keeps_instruction k q) (λ (i : Instruction). nat_eq i.at at) code.code i (second_so _ (list_all (keeps_instruction k q) code.code) (first_so _ (list_all (keeps_clause k) code.clauses) h)) e

module _ (k : Change) (after before : Queries) (a : Agree k after before) where
  module _ (here : Here) (i : Instruction) (s : State) (r : Runs k.keep before here i s) (c : Covered k.keep before s) where
    there : KeptHere k.keep before here
    there = record { method = r.method; code = r.code; targs = r.targs; margs = r.margs }

    operand : IsTrue (keeps_operand k.keep before i.operand)
    operand = first_so (keeps_operand k.keep before i.operand) (keeps_of_form k.keep i.opcode i.form i.operand) r.instruction

    of_form : (which : body.Form.Form) → i.form ≡ which → IsTrue (keeps_of_form k.keep i.opcode which i.operand)
    of_form which e = subst (λ (f : body.Form.Form). IsTrue (keeps_of_form k.keep i.opcode f i.operand)) e (second_so (keeps_operand k.keep before i.operand) (keeps_of_form k.keep i.opcode i.form i.operand) r.instruction)

    effect_lock : (which : body.Form.Form) → i.form ≡ which
        → Lock k before (effect which after (move_here k.rho here) (move_instruction k.rho i) (move_state k before s)) (effect which before here i s)
    unfolding effect
    effect_lock form.Nop e = slots.nop_lock k after before a here i s r c
    effect_lock form.LdArg e = slots.load_arg_lock k after before a here i s r c
    effect_lock form.LdArgA e = slots.address_arg_lock k after before a here i s r c
    effect_lock form.StArg e = slots.store_arg_lock k after before a here i s r c
    effect_lock form.LdLoc e = slots.load_local_lock k after before a here i s r c
    effect_lock form.LdLocA e = slots.address_local_lock k after before a here i s r c
    effect_lock form.StLoc e = slots.store_local_lock k after before a here i s r c
    effect_lock form.LdNull e = slots.load_null_lock k after before a here i s r c
    effect_lock form.LdI4 e = slots.load_int32_lock k after before a here i s r c
    effect_lock form.LdI8 e = slots.load_int64_lock k after before a here i s r c
    effect_lock form.LdStr e = texts.load_string_lock k after before a here i s c
    effect_lock form.Dup e = slots.duplicate_lock k after before a here i s r c
    effect_lock form.Pop e = slots.pop_lock k after before a here i s r c
    effect_lock form.Br e = numbers.branch_lock k after before a here i s c
    effect_lock form.BrIf e = numbers.branch_if_lock k after before a here i s c
    effect_lock form.Switch e = numbers.switch_lock k after before a here i s c
    effect_lock form.Leave e = throwing.leave_lock k after before a here i s c
    effect_lock form.EndFinally e = throwing.end_finally_lock k after before a here i s c
    effect_lock form.Binary e = numbers.binary_lock k after before a here i s c
    effect_lock form.Unary e = numbers.unary_lock k after before a here i s c
    effect_lock form.Convert e = numbers.convert_lock k after before a here i s c
    effect_lock form.Call e = making.call_lock k after before a here i there s c operand
    effect_lock form.Ret e = returning.return_lock k after before a here there i s c
    effect_lock form.NewObj e = making.new_object_lock k after before a here i there s c operand (of_form form.NewObj e)
    effect_lock form.Throw e = throwing.throw_form_lock k after before a here i s c
    effect_lock form.Cast e = types.cast_lock k after before a here i s c there operand
    effect_lock form.Box e = types.box_lock k after before a here i s c there operand (of_form form.Box e)
    effect_lock form.Unbox e = types.unbox_lock k after before a here i s c there operand
    effect_lock form.Field e = fields.field_form_lock k after before a here there i s c operand
    effect_lock form.NewArr e = arrays.new_array_form_lock k after before a here i s c there operand (of_form form.NewArr e)
    effect_lock form.Elem e = arrays.element_form_lock k after before a here i s c there operand
    effect_lock form.Indirect e = indirect.indirect_lock k after before a here i s c there operand
    effect_lock form.LdToken e = types.load_token_lock k after before a here i s c there operand (of_form form.LdToken e)
    effect_lock form.Prefix e = making.prefix_form_lock k after before a here i there s c operand (of_form form.Prefix e)

    execute_lock : Lock k before (execute after (move_here k.rho here) (move_instruction k.rho i) (move_state k before s)) (execute before here i s)
    unfolding execute
    execute_lock = effect_lock i.form refl

  pub step_lock : (s : State) → Covered k.keep before s → Lock k before (step after (move_state k before s)) (step before s)
  unfolding step
  step_lock s c =
      given_moved k before (move_here k.rho) (here_of before s.top) _ s _ _ (here_moved k after before a s.top c.top.method) (λ here e.
      let r : KeptHere k.keep before here = here_kept k after before a s.top here c.top.method e in
      given_moved k before (move_instruction k.rho) (instruction_at here.code s.top.at) _ s _ _ (instruction_moved k.rho here.code s.top.at) (λ i is.
      execute_lock here i s (record {
        runs = e;
        is_next = is;
        method = r.method;
        code = r.code;
        targs = r.targs;
        margs = r.margs;
        instruction = instruction_kept k.keep before here.code s.top.at i r.code is;
      }) c))
