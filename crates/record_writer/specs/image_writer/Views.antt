-- The writer's data as data of the layout.
use Rattle.std.specs.Prelude.{◌+◌, ◌<◌, ◌^◌, length}
use Rattle.record_writer.specs.declared.image_writer.sections.Parts.{Parts}
use Rattle.rules.specs.file_layout.Image as image

-- the parts of an image, with their bytes behind references
abbrev pub parts : Parts → image.Parts
parts p = record { bits = p.bits; entry = p.entry; subsystem = p.subsystem; code = p.code.now; metadata = p.metadata.now }

-- code and metadata are so short that the places after them have 64 bits
abbrev pub HasPlaces : Parts → Type 0
HasPlaces p = length p.code.now + length p.metadata.now < 2 ^ 62
