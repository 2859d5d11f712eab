-- When an image and metadata can be laid out, and what they read back as.
use Rattle.std.specs.Prelude.{◌≡◌, ℕ, ◌+◌, ◌-◌, ◌<◌, ◌^◌, bit_and, List, ◌++◌, length, Some, None}
use Rattle.il_base.specs.declared.cli_format.stream.StreamName.TheVariants as names
use Rattle.il_base.specs.cli_format.Demand.{first_fault}
use Rattle.il_base.specs.cli_format.Image.{image_demands, metadata_of, metadata_place_of, cli_flags_of, subsystem_of, entry_token_of, resources_of, image_at, image_tail}
use Rattle.il_base.specs.cli_format.Streams.{heap, heap_place}
use Rattle.il_base.specs.cli_format.Metadata.{root_demands, streams_demands}
use Rattle.rules.specs.file_layout.Image.{Parts, image_length, metadata_rva, text_rva, code_rva}
use Rattle.rules.specs.file_layout.Metadata.{Streams, metadata_bytes, tables_at}

-- its numbers fit their fields, the flags say ILONLY and not NATIVE_ENTRYPOINT, and all of it has less than 2^31 bytes
pub record CanLay (p : Parts) : Type 0 where
  pub bits : p.bits < 2 ^ 32
  pub il_only : bit_and p.bits 1 ≡ 1
  pub not_native : bit_and p.bits 16 ≡ 0
  pub entry : p.entry < 2 ^ 32
  pub subsystem : p.subsystem < 2 ^ 16
  pub small : image_length p < 2 ^ 31

-- An image reads back as what it was made of.
pub record ReadsBack (p : Parts) (bs : List ℕ) : Type 0 where
  pub size : length bs ≡ image_length p
  pub demands : first_fault (image_demands bs) ≡ None
  pub metadata : metadata_of bs ≡ p.metadata
  pub place : metadata_place_of bs ≡ 0x200 + (metadata_rva p - text_rva)
  pub bits : cli_flags_of bs ≡ p.bits
  pub entry : entry_token_of bs ≡ p.entry
  pub subsystem : subsystem_of bs ≡ p.subsystem
  pub resources : resources_of bs ≡ None
  -- at an address in the code stands what was put there, with other bytes after it
  pub code : (before after : List ℕ) → p.code ≡ before ++ after
      → (rest : List ℕ) × (image_tail bs (code_rva + length before) ≡ Some (after ++ rest))
  -- and where only some bytes are asked for, these alone
  pub bytes : (before here after : List ℕ) → p.code ≡ before ++ here ++ after → image_at bs (code_rva + length before) (length here) ≡ Some here

-- the streams that metadata can be made of: all of it has less than 2^31 bytes
pub record CanStream (s : Streams) : Type 0 where
  pub small : length (metadata_bytes s) < 2 ^ 31

-- Metadata reads back as its streams.
pub record StreamsReadBack (s : Streams) (m : List ℕ) : Type 0 where
  pub root : (base : ℕ) → first_fault (root_demands m base) ≡ None
  pub streams : (base : ℕ) → first_fault (streams_demands m base) ≡ None
  pub tables_place : heap_place m names.Tables ≡ tables_at
  pub tables : heap m names.Tables ≡ s.tables
  pub strings : heap m names.Strings ≡ s.strings
  pub users : heap m names.UserStrings ≡ s.users
  pub guids : heap m names.Guids ≡ s.guids
  pub blobs : heap m names.Blobs ≡ s.blobs
