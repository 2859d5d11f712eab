use Rattle.std.proofs.Common.{ℕ, ◌≤◌, List, length, take, Result, Ok, Err, IfOk, ap, subst, ◌∙◌, arith}
use Rattle.il_base.specs.declared.body.Body.{Body}
use Rattle.il_base.specs.declared.body_grammar.body.Fault.{Fault}
use Rattle.il_base.specs.body_grammar.Bodies.{body_at}
use Rattle.il_base.proofs.lemmas.body_grammar.WrittenBodies.{spelled_again}
use Rattle.il_base.specs.body_grammar.BodySpelling.{IsSpelledBy}
use Rattle.il_base.proofs.lemmas.body_grammar.ReadNumbers.{IsBytes}
use Rattle.il_base.proofs.lemmas.body_grammar.ReadBodies.{read_spelled}
use Rattle.il_code.specs.declared.error.BodyError.{BodyError}
use Rattle.il_code.specs.declared.error.ReadBody.{ReadBody}
use Rattle.il_code.specs.Gives.{Gives, whole}
use Rattle.il_code.proofs.reading.read_body.Goals as goal

is_found : (bs : List ℕ) (r : Result ReadBody BodyError) → IsBytes bs → Gives whole r (body_at bs)
    → IfOk r (λ r. IsSpelledBy (take r.length bs) r.body × (r.length ≤ length bs))
is_found bs (Ok r) fits e = read_spelled bs r.body r.length fits e
is_found bs (Err e) fits given = tt

pub returns-clause-found : goal.returns-clause-found
returns-clause-found c = is_found c.args.bytes.now c.body.result (λ i. omega (arith, c.type_inv.bytes i)) c.body.ensures

pub returns-clause-only : goal.returns-clause-only
returns-clause-only c = λ text b rest s e.
    subst (λ (r : Result (Body × ℕ) Fault). Gives whole c.body.result r) (ap body_at e ∙ spelled_again text b rest s) c.body.ensures
