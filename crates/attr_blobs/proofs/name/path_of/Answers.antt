use Rattle.std.proofs.Common.{◌≡◌, Some, None, ◌++◌, ◌∷◌, [], refl, rules}
use Rattle.attr_blobs.specs.TypeNames.{cut, filled, text_of}
use Rattle.attr_blobs.proofs.Names.{path_step, path_none, path_end}
use Rattle.attr_blobs.proofs.name.path_of.Goals as goal

pub returns-in-None : goal.returns-in-None
returns-in-None c =
    let e : None ≡ filled (text_of (cut 43 c.loop-path.rest.now).0) = search rules in
    path_none c.loop-path.path c.loop-path.rest.now (cut 43 c.loop-path.rest.now).0 (cut 43 c.loop-path.rest.now).1 _ refl refl e c.loop-path.invariant

pub loop-path-preserved : goal.loop-path-preserved
loop-path-preserved c =
    let e : Some c.in-Some.text ≡ filled (text_of (cut 43 c.loop-path.rest.now).0) = search rules in
    let b : Some c.in-Some-behind.marks.now ≡ (cut 43 c.loop-path.rest.now).1 = search rules in
    let n : c.push.new.self ≡ c.loop-path.path ++ c.in-Some.text ∷ [] = search rules in
    rw n (path_step c.loop-path.path c.loop-path.rest.now (cut 43 c.loop-path.rest.now).0 c.in-Some-behind.marks.now c.in-Some.text _ refl b e c.loop-path.invariant)

pub returns-in-None-behind : goal.returns-in-None-behind
returns-in-None-behind c =
    let e : Some c.in-Some.text ≡ filled (text_of (cut 43 c.loop-path.rest.now).0) = search rules in
    let b : None ≡ (cut 43 c.loop-path.rest.now).1 = search rules in
    let n : c.push.new.self ≡ c.loop-path.path ++ c.in-Some.text ∷ [] = search rules in
    rw n (path_end c.loop-path.path c.loop-path.rest.now (cut 43 c.loop-path.rest.now).0 c.in-Some.text _ refl b e c.loop-path.invariant)
