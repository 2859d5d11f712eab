use Rattle.std.proofs.Common.{subst}
use Rattle.std.specs.Prelude.{Option}
use Rattle.il_base.specs.declared.cil_values.value.Value.{Value}
use Rattle.machine_words.specs.cil_closing.Callees.{accessed_by}
use Rattle.machine_objects.proofs.lemmas.cil_fields.ReadyFields.{BeginsWith}
use Rattle.machine_objects.proofs.cil_fields.statics.begins_zero.Goals as goal

pub returns : goal.returns
returns g c =
    let P : Option Value → Type 0 = λ v. BeginsWith (accessed_by c.args.a.now) c.args.st.now c.begins_with.new.st c.in_ok-over.over v in
    subst P c.in_ok-v.ensures c.in_ok-over.ensures
