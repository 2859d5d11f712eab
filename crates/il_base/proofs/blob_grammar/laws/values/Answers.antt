use Rattle.il_base.specs.blob_grammar.Signatures.{levels}
use Rattle.il_base.proofs.lemmas.blob_grammar.Values.{type_fits, type_spelled, method_fits, method_spelled, property_fits, property_spelled, field_fits, field_spelled, counted_fit, counted_spelled}
use Rattle.il_base.proofs.blob_grammar.laws.values.Goals as goal

pub returns-clause-types : goal.returns-clause-types
returns-clause-types c = λ s. (λ h. type_spelled levels s h, λ h. type_fits levels s h.0 h.1)

pub returns-clause-methods : goal.returns-clause-methods
returns-clause-methods c = λ m. (λ h. method_spelled m h, λ h. method_fits m h.0 h.1)

pub returns-clause-properties : goal.returns-clause-properties
returns-clause-properties c = λ m. (λ h. property_spelled m h, λ h. property_fits m h.0 h.1)

pub returns-clause-fields : goal.returns-clause-fields
returns-clause-fields c = λ s. (λ h. field_spelled s h, λ h. field_fits s h.0 h.1)

pub returns-clause-locals : goal.returns-clause-locals
returns-clause-locals c = λ ss. (λ h. counted_spelled 7 ss h, λ h. counted_fit 7 ss h.0 h.1)

pub returns-clause-instances : goal.returns-clause-instances
returns-clause-instances c = λ ss. (λ h. counted_spelled 10 ss h, λ h. counted_fit 10 ss h.0 h.1)
