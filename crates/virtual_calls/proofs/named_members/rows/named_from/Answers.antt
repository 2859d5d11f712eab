use Rattle.std.proofs.Common.{sym, ◌∙◌}
use Rattle.virtual_calls.specs.named_members.Kinds.{has_name}
use Rattle.virtual_calls.proofs.lemmas.named_members.MapRows.{named_next, other_next}
use Rattle.virtual_calls.proofs.named_members.rows.named_from.Goals as goal
use Rattle.virtual_calls.proofs.named_members.rows.named_from.Goals.{then-has_name+in_ok-push, else-has_name}

pub loop-row-preserved : goal.loop-row-preserved
loop-row-preserved c =
    elim c.if-has_name.branch [
      | then-has_name+in_ok-push w ↦
          rw (w.found-is, w.in_ok-push.ensures.items)
          (named_next (has_name c.args.kind c.args.rec.now c.args.wanted.now) c.args.asm c.loop-row.found.items c.loop-row.row c.args.end c.loop-row-test.true (sym c.has_name.ensures ∙ w.if-has_name.true) ∙ c.loop-row.invariant)
      | else-has_name w ↦
          rw w.found-is
          (other_next (has_name c.args.kind c.args.rec.now c.args.wanted.now) c.args.asm c.loop-row.found.items c.loop-row.row c.args.end c.loop-row-test.true (sym c.has_name.ensures ∙ w.if-has_name.false) ∙ c.loop-row.invariant)
    ]
