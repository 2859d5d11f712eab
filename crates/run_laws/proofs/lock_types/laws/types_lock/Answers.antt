use Rattle.std.proofs.Common.{subst}
use Rattle.std.specs.Prelude.{IsTrue}
use Rattle.std.specs.Cmp.{first_so, second_so}
use Rattle.rules.specs.change_rules.Keeps.{keeps_of_form}
use Rattle.run_laws.proofs.lemmas.lock_types.Types as types
use Rattle.run_laws.proofs.lemmas.lock_types.Arrays as arrays
use Rattle.run_laws.proofs.lock_types.laws.types_lock.Goals as goal

pub returns : goal.returns
returns c =
    record {
      cast = λ k q' q a here i s r y c. types.cast_lock k q' q a here i s c (record { method = r.method; code = r.code; targs = r.targs; margs = r.margs }) (first_so _ _ r.instruction);
      box = λ k q' q a here i s e r c. types.box_lock k q' q a here i s c (record { method = r.method; code = r.code; targs = r.targs; margs = r.margs }) (first_so _ _ r.instruction)
          (subst (λ f. IsTrue (keeps_of_form k.keep i.opcode f i.operand)) e (second_so _ _ r.instruction));
      unbox = λ k q' q a here i s r y c. types.unbox_lock k q' q a here i s c (record { method = r.method; code = r.code; targs = r.targs; margs = r.margs }) (first_so _ _ r.instruction);
      load_token = λ k q' q a here i s e r c. types.load_token_lock k q' q a here i s c (record { method = r.method; code = r.code; targs = r.targs; margs = r.margs }) (first_so _ _ r.instruction)
          (subst (λ f. IsTrue (keeps_of_form k.keep i.opcode f i.operand)) e (second_so _ _ r.instruction));
      new_array_form = λ k q' q a here i s e r c. arrays.new_array_form_lock k q' q a here i s c (record { method = r.method; code = r.code; targs = r.targs; margs = r.margs }) (first_so _ _ r.instruction)
          (subst (λ f. IsTrue (keeps_of_form k.keep i.opcode f i.operand)) e (second_so _ _ r.instruction));
      element_form = λ k q' q a here i s r y c. arrays.element_form_lock k q' q a here i s c (record { method = r.method; code = r.code; targs = r.targs; margs = r.margs }) (first_so _ _ r.instruction);
    }
