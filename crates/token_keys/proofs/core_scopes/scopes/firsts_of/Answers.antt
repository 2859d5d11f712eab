use Rattle.std.proofs.Common.{arith}
use Rattle.token_keys.specs.core_scopes.Firsts.{spot_of}
use Rattle.token_keys.proofs.lemmas.core_scopes.Meeting.{ref_step, refs_all}
use Rattle.token_keys.proofs.core_scopes.scopes.firsts_of.Goals as goal

pub loop-one-preserved : goal.loop-one-preserved
loop-one-preserved c =
    λ q. ref_step c.args.refs.now c.loop-one.one-index c.one-item.result (omega arith) c.one-item.is q _ _ _ (c.in_ok-keep_first.ensures (spot_of q)) (c.loop-one.invariant q)

pub returns : goal.returns
returns c = λ q. refs_all c.args.refs.now q _ c.loop-one.one-index (omega arith) (c.loop-one.invariant q)
