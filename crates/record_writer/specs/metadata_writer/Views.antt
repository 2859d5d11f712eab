-- What the writer's data stands for in the layout.
use Rattle.std.specs.Prelude.{◌+◌, ◌<◌, ◌^◌, length}
use Rattle.record_writer.specs.declared.metadata_writer.metadata.Streams.{Streams}
use Rattle.rules.specs.file_layout.Metadata as metadata

-- the streams, with their bytes behind references
abbrev pub streams : Streams → metadata.Streams
streams s = record { tables = s.tables.now; strings = s.strings.now; users = s.users.now; guids = s.guids.now; blobs = s.blobs.now }

-- the streams are so short that the places after them have 64 bits
abbrev pub AreStreamsShort : Streams → Type 0
AreStreamsShort s = length s.tables.now + length s.strings.now + length s.users.now + length s.guids.now + length s.blobs.now < 2 ^ 61
