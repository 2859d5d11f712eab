use Rattle.std.proofs.Common.{ℕ, List, get_or, ap, sym, ◌∙◌}
use Rattle.rules.specs.file_layout.Cells.{number_of}
use Rattle.record_writer.specs.metadata_writer.Gathered.{pools}
use Rattle.record_writer.specs.metadata_writer.Places.{index_among}
use Rattle.record_writer.specs.metadata_writer.Numbers.{place_or_none}
use Rattle.record_writer.proofs.lemmas.metadata_writer.Starts.{string_place_is, blob_place_is, guid_number_is}
use Rattle.record_writer.proofs.metadata_writer.numbers.number.Goals as goal

pub returns-in-Text : goal.returns-in-Text
returns-in-Text c =
    c.place.ensures
    ∙ ap (λ (ns : List ℕ). place_or_none (λ x. get_or ns (index_among c.args.places.now.pools.now.texts x) 0) c.in-Text.text) c.requires.strings
    ∙ string_place_is c.args.places.now.pools.now.texts c.in-Text.text
    ∙ ap (number_of (pools c.args.places.now.pools.now)) (sym c.in-Text.is)

pub returns-in-Blob : goal.returns-in-Blob
returns-in-Blob c =
    c.place-in-Blob.ensures
    ∙ ap (λ (ns : List ℕ). place_or_none (λ x. get_or ns (index_among c.args.places.now.pools.now.blobs x) 0) c.in-Blob.blob) c.requires.blobs
    ∙ blob_place_is c.args.places.now.pools.now.blobs c.in-Blob.blob
    ∙ ap (number_of (pools c.args.places.now.pools.now)) (sym c.in-Blob.is)

pub returns-in-Guid : goal.returns-in-Guid
returns-in-Guid c =
    c.guid_number.ensures
    ∙ guid_number_is c.args.places.now.pools.now.guids c.in-Guid.guid
    ∙ ap (number_of (pools c.args.places.now.pools.now)) (sym c.in-Guid.is)
