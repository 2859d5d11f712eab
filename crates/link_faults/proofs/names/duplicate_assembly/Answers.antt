use Rattle.std.proofs.Common.{◌≡◌, Some, Option, sym, ap, ◌∙◌, arith}
use Rattle.std.specs.HashSet.{contains_by}
use Rattle.std.specs.List.{list_any}
use Rattle.std.proofs.lemmas.Result.{IfOk-weaker}
use Rattle.il_base.specs.world_model.Core.{same_name}
use Rattle.rules.specs.declared.link_rules.link_error.LinkError.{LinkError}
use Rattle.rules.specs.declared.link_rules.link_error.LinkError.TheVariants as fault
use Rattle.rules.specs.link_rules.Faults.{duplicate_assembly}
use Rattle.link_faults.proofs.Taken.{taken_first, taken_here, taken_later}
use Rattle.link_faults.proofs.names.duplicate_assembly.Goals as goal

pub loop-file-init : goal.loop-file-init
loop-file-init c = taken_first _ _ (λ name. ap (list_any (λ k. same_name name k.now)) c.new-names.ensures.empty)

pub returns-then-is_taken : goal.returns-then-is_taken
returns-then-is_taken c =
    let is : Some (fault.Bad c.loop-file.file 14 0) ≡ duplicate_assembly c.args.recs.now =
    taken_here (λ name. contains_by (λ k. same_name name k.now) c.loop-file.names) (λ name. contains_by (λ k. same_name name k.now) c.loop-file.names) c.args.recs.now c.loop-file.file c.index-recs-file.result _
    (omega arith) c.index-recs-file.is (rw (← c.own_name-name.ensures) (sym c.is_taken.ensures ∙ c.if-is_taken.true)) c.loop-file.invariant in
    IfOk-weaker c.name_taken.result (λ (x : Option LinkError). x ≡ Some (fault.Bad c.loop-file.file 14 0)) (λ (x : Option LinkError). x ≡ duplicate_assembly c.args.recs.now) (λ x p. p ∙ is) c.name_taken.ensures

pub loop-file-preserved : goal.loop-file-preserved
loop-file-preserved c =
    taken_later (λ name. contains_by (λ k. same_name name k.now) c.loop-file.names) (λ name. contains_by (λ k. same_name name k.now) c.insert.new.self) c.args.recs.now c.loop-file.file c.index-recs-file.result _
    (omega arith) c.index-recs-file.is (rw (← c.own_name-name.ensures) (sym c.is_taken.ensures ∙ c.if-is_taken.false))
    (λ name. rw (← c.own_name-name.ensures) (c.in_ok-insert.ensures.updates.0 (record { ref_ptr = (0, 0); now = name })))
    c.loop-file.invariant
