use Rattle.std.proofs.Common.{◌≡◌, length, ap, ◌∙◌, arith}
use Rattle.rules.specs.file_layout.TableStream.{tables_stream}
use Rattle.rules.specs.file_layout.Cells.{numbers_of}
use Rattle.rules.specs.file_layout.Laid.{sizes_of}
use Rattle.record_writer.specs.metadata_writer.Gathered.{pools}
use Rattle.record_writer.proofs.lemmas.metadata_writer.Whole.{numbers-length, sizes_are}
use Rattle.record_writer.proofs.metadata_writer.streams.table_stream.Goals as goal

pub tables_stream-requires : goal.tables_stream-requires
tables_stream-requires c =
    let numbers : c.as_slice.result.now ≡ numbers_of (pools c.args.items.now) c.args.cells.now = c.as_slice.ensures ∙ c.in_ok-numbers.ensures in
    let count : length c.as_slice.result.now ≡ length c.args.cells.now = ap length numbers ∙ numbers-length (pools c.args.items.now) c.args.cells.now in
    omega (arith, count, c.requires.count)

pub returns : goal.returns
returns c =
    let numbers : c.as_slice.result.now ≡ numbers_of (pools c.args.items.now) c.args.cells.now = c.as_slice.ensures ∙ c.in_ok-numbers.ensures in
    let sizes : c.heap_bits-sizes.result ≡ sizes_of (pools c.args.items.now) =
    c.heap_bits-sizes.ensures
    ∙ sizes_are (pools c.args.items.now) _ _ _ (c.deref-3.ensures.value ∙ c.requires.heaps.1.strings) (c.deref-4.ensures.value ∙ c.requires.heaps.1.guids) (c.deref-5.ensures.value ∙ c.requires.heaps.1.blobs) in
    c.in_ok-stream.ensures ∙ (λ i. tables_stream (sizes i) (numbers i))
