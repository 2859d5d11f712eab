-- Closed uses of methods and fields as the definition has them.
use Rattle.il_base.specs.declared.cil_values.definition.Signature.{Signature}
use Rattle.machine_words.specs.declared.cil_closing.callee.Callee as code
use Rattle.machine_words.specs.declared.cil_closing.callee.ClosedSignature.{ClosedSignature}
use Rattle.machine_words.specs.declared.cil_closing.callee.ClosedSignature.TheVariants as closed
use Rattle.machine_words.specs.declared.cil_closing.accessed.Accessed as found
use Rattle.rules.specs.step_rules.Closing.{Callee, Accessed}

-- a closed signature, wherever it is kept
abbrev pub signature_by : ClosedSignature → Signature
signature_by (closed.Own sig) = sig.now
signature_by (closed.Made sig) = sig

-- a method with its closed use
abbrev pub callee_by : code.Callee → Callee
callee_by c = record { called = c.called; method = c.method.now; signature = signature_by c.signature }

-- a field with its closed owner
abbrev pub accessed_by : found.Accessed → Accessed
accessed_by a = record { id = a.id; owner = a.owner; field = a.field.now }
