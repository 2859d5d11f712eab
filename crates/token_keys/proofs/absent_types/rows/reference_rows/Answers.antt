use Rattle.token_keys.proofs.lemmas.absent_types.Ranging.{all_end}
use Rattle.token_keys.proofs.absent_types.rows.reference_rows.Goals as goal

pub returns : goal.returns
returns c = all_end c.args.recs.now c.inputs-rec-items.result.now c.loop-a.a c.loop-a.rows.items c.inputs-rec-items.ensures c.loop-a-test.false c.loop-a.invariant
