use Rattle.std.specs.Cmp.{first_so}
use Rattle.run_laws.proofs.lemmas.lock_fields.Texts as texts
use Rattle.run_laws.proofs.lemmas.lock_fields.Fields as fields
use Rattle.run_laws.proofs.lock_fields.laws.fields_lock.Goals as goal

pub returns : goal.returns
returns c =
    record {
      load_string = λ k q' q a here i s r y c. texts.load_string_lock k q' q a here i s c;
      field_form = λ k q' q a here i s r y c. fields.field_form_lock k q' q a here (record { method = r.method; code = r.code; targs = r.targs; margs = r.margs }) i s c (first_so _ _ r.instruction);
    }
