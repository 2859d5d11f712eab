use Rattle.std.proofs.Common.{map, ◌∙◌}
use Rattle.rules.specs.file_layout.Cells.{pools_of}
use Rattle.record_writer.specs.metadata_writer.Gathered.{pools}
use Rattle.record_writer.proofs.lemmas.metadata_writer.Whole.{put_as, put_of_pools, streams_put}
use Rattle.record_writer.proofs.metadata_writer.streams.metadata_of.Goals as goal

pub returns : goal.returns
returns c =
    put_of_pools c.in_ok-metadata.metadata.items (pools c.in_ok-items.items) (pools_of c.args.cells.now) c.args.cells.now (map (λ t. t.text) c.args.user.now) c.in_ok-items.ensures
    (put_as _ _ _ c.in_ok-metadata.ensures
    (streams_put (pools c.in_ok-items.items) c.args.cells.now (map (λ t. t.text) c.args.user.now) _ _ _ _ _
    (c.deref.ensures.value ∙ c.in_ok-tables.ensures) (c.deref-2.ensures.value ∙ c.in_ok-heaps.ensures.strings) (c.deref-3.ensures.value ∙ c.in_ok-heaps.ensures.users)
    (c.deref-4.ensures.value ∙ c.in_ok-heaps.ensures.guids) (c.deref-5.ensures.value ∙ c.in_ok-heaps.ensures.blobs)))
