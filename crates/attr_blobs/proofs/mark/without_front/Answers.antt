use Rattle.std.proofs.Common.{◌≡◌, ◌<◌, length, sym, ◌∙◌, rules}
use Rattle.attr_blobs.proofs.Names.{front_step, front_stop, front_end}
use Rattle.attr_blobs.proofs.mark.without_front.Goals as goal

pub loop-rest-preserved : goal.loop-rest-preserved
loop-rest-preserved c =
    let l : 0 < length c.loop-rest.rest.now = search rules in
    front_step c.loop-rest.rest.now _ _ l (sym c.is_blank.ensures ∙ c.if-is_blank.true) c.loop-rest.invariant

pub returns-else-is_blank : goal.returns-else-is_blank
returns-else-is_blank c =
    let l : 0 < length c.loop-rest.rest.now = search rules in
    front_stop c.loop-rest.rest.now _ _ l (sym c.is_blank.ensures ∙ c.if-is_blank.false) c.loop-rest.invariant

pub returns-after-loop-rest : goal.returns-after-loop-rest
returns-after-loop-rest c =
    let z : length c.loop-rest.rest.now ≡ 0 = search rules in
    front_end c.loop-rest.rest.now _ z c.loop-rest.invariant
