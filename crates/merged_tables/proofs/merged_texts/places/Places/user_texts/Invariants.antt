use Rattle.std.proofs.Common.{◌≡◌, ◌++◌, map, drop}
use Rattle.merged_tables.specs.merged_texts.Texts.{texts_in, numbered}
use Rattle.merged_tables.proofs.merged_texts.places.Places.user_texts.Given as goal

abbrev pub invariant-loop-units : goal.invariant-loop-units
invariant-loop-units l =
    l.user ++ map (numbered (texts_in l.self)) (map (λ text. text.now) (drop l.units-index l.self.texts.items)) ≡ map (numbered (texts_in l.self)) (texts_in l.self)
