use Rattle.std.proofs.Common.{ℕ, ◌+◌, ◌*◌, ap}
use Rattle.merged_tables.proofs.lemmas.merged_texts.Placing.{places_none}
use Rattle.merged_tables.proofs.merged_texts.places.Places.new.Goals as goal

pub returns-clause-places : goal.returns-clause-places
returns-clause-places c =
    places_none (record { texts = c.new.result; tokens = c.new-2.result; end = c.from.result * 16777216 + 1 }) c.new.ensures.items c.new-2.ensures.empty (ap (λ (n : ℕ). n * 16777216 + 1) c.from.ensures)
