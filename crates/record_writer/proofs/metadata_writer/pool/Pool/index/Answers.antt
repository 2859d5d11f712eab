use Rattle.std.proofs.Common.{ap, ◌∙◌, ℕ, List}
use Rattle.record_writer.specs.metadata_writer.Places.{index_among}
use Rattle.record_writer.proofs.lemmas.metadata_writer.Items.{found_at, found_none}
use Rattle.record_writer.proofs.metadata_writer.pool.Pool.index.Goals as goal

pub returns-in-Some-clause-value : goal.returns-in-Some-clause-value
returns-in-Some-clause-value c =
    found_at (λ v. v.items) c.args.item.now c.self.inside.set.keys c.in-Some.i c.in-Some.ensures.index
    ∙ ap (λ (xs : List (List ℕ)). index_among xs c.args.item.now) c.self.view_is

pub returns-in-None-clause-value : goal.returns-in-None-clause-value
returns-in-None-clause-value c =
    c.len-count.ensures.len ∙ found_none (λ v. v.items) c.args.item.now c.self.inside.set.keys c.in-None.ensures.index
    ∙ ap (λ (xs : List (List ℕ)). index_among xs c.args.item.now) c.self.view_is
