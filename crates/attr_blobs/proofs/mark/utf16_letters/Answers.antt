use Rattle.std.proofs.Common.{◌≡◌, ◌<◌, ◌++◌, ◌∷◌, [], length, get_or, true, false, Some, rules}
use Rattle.std.specs.Char.Utf16.{lone_unit_char, surrogate_pair_char}
use Rattle.attr_blobs.specs.TypeNames.{begins_pair}
use Rattle.attr_blobs.proofs.Names.{paired, alone, letters_end}
use Rattle.attr_blobs.proofs.mark.utf16_letters.Goals as goal

pub loop-rest-preserved-then-begins_pair : goal.loop-rest-preserved-then-begins_pair
loop-rest-preserved-then-begins_pair c =
    let e : begins_pair c.loop-rest.rest.now ≡ true = search rules in
    let n : c.push.new.self.items ≡ c.loop-rest.letters.items ++ Some (surrogate_pair_char (get_or c.loop-rest.rest.now 0 0) (get_or c.loop-rest.rest.now 1 0)) ∷ [] = search rules in
    paired c.loop-rest.letters.items c.push.new.self.items c.loop-rest.rest.now _ e n c.loop-rest.invariant

pub loop-rest-preserved : goal.loop-rest-preserved
loop-rest-preserved c =
    let l : 0 < length c.loop-rest.rest.now = search rules in
    let e : begins_pair c.loop-rest.rest.now ≡ false = search rules in
    let n : c.push-else-begins_pair.new.self.items ≡ c.loop-rest.letters.items ++ lone_unit_char (get_or c.loop-rest.rest.now 0 0) ∷ [] = search rules in
    alone c.loop-rest.letters.items c.push-else-begins_pair.new.self.items c.loop-rest.rest.now _ l e n c.loop-rest.invariant

pub returns : goal.returns
returns c =
    let z : length c.loop-rest.rest.now ≡ 0 = search rules in
    letters_end c.loop-rest.letters.items c.loop-rest.rest.now _ z c.loop-rest.invariant
