use Rattle.std.proofs.Common.{subst}
use Rattle.std.specs.Prelude.{IsTrue}
use Rattle.std.specs.Cmp.{first_so, second_so}
use Rattle.rules.specs.change_rules.Keeps.{keeps_of_form}
use Rattle.run_laws.proofs.lemmas.lock_calls.Making as making
use Rattle.run_laws.proofs.lemmas.lock_calls.Returning as returning
use Rattle.run_laws.proofs.lock_calls.laws.calls_lock.Goals as goal

pub returns : goal.returns
returns c =
    record {
      call = λ k q' q a here i s r y c. making.call_lock k q' q a here i (record { method = r.method; code = r.code; targs = r.targs; margs = r.margs }) s c (first_so _ _ r.instruction);
      new_object = λ k q' q a here i s e r c. making.new_object_lock k q' q a here i (record { method = r.method; code = r.code; targs = r.targs; margs = r.margs }) s c (first_so _ _ r.instruction)
          (subst (λ f. IsTrue (keeps_of_form k.keep i.opcode f i.operand)) e (second_so _ _ r.instruction));
      prefix = λ k q' q a here i s e r c. making.prefix_form_lock k q' q a here i (record { method = r.method; code = r.code; targs = r.targs; margs = r.margs }) s c (first_so _ _ r.instruction)
          (subst (λ f. IsTrue (keeps_of_form k.keep i.opcode f i.operand)) e (second_so _ _ r.instruction));
      return = λ k q' q a here i s r y c. returning.return_lock k q' q a here (record { method = r.method; code = r.code; targs = r.targs; margs = r.margs }) i s c;
    }
