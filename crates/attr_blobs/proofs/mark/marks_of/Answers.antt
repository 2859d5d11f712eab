use Rattle.std.proofs.Common.{◌≡◌, ◌<◌, ◌++◌, ◌∷◌, [], length, get_or, true, false, None, rules}
use Rattle.attr_blobs.specs.TypeNames.{mark, begins_taken}
use Rattle.attr_blobs.proofs.Names.{took, left, marks_end}
use Rattle.attr_blobs.proofs.mark.marks_of.Goals as goal

pub loop-rest-preserved-then-begins_taken : goal.loop-rest-preserved-then-begins_taken
loop-rest-preserved-then-begins_taken c =
    let e : begins_taken c.loop-rest.rest.now ≡ true = search rules in
    let n : c.push.new.self.items ≡ c.loop-rest.found.items ++ mark (get_or c.loop-rest.rest.now 1 None) true ∷ [] = search rules in
    took c.loop-rest.found.items c.push.new.self.items c.loop-rest.rest.now None _ e n c.loop-rest.invariant

pub loop-rest-preserved : goal.loop-rest-preserved
loop-rest-preserved c =
    let l : 0 < length c.loop-rest.rest.now = search rules in
    let e : begins_taken c.loop-rest.rest.now ≡ false = search rules in
    let n : c.push-else-begins_taken.new.self.items ≡ c.loop-rest.found.items ++ mark (get_or c.loop-rest.rest.now 0 None) false ∷ [] = search rules in
    left c.loop-rest.found.items c.push-else-begins_taken.new.self.items c.loop-rest.rest.now None _ l e n c.loop-rest.invariant

pub returns : goal.returns
returns c =
    let z : length c.loop-rest.rest.now ≡ 0 = search rules in
    marks_end c.loop-rest.found.items c.loop-rest.rest.now _ z c.loop-rest.invariant
