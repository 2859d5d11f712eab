-- The faults that are kept of parts without a meaning, so that each part is read once. `bs` are the bytes of the file, `m` those of its
-- metadata.
use Rattle.std.specs.Prelude.{◌≡◌, ℕ, List, [], Option, Some, unwrap_or, nat_eq}
use Rattle.std.specs.HashMap.{get}
use Rattle.il_base.specs.declared.cli_format.stream.StreamName.TheVariants.{Blobs}
use Rattle.il_base.specs.cli_format.Image.{metadata_of}
use Rattle.il_base.specs.cli_format.Streams.{heap}
use Rattle.il_base.specs.cli_format.Heaps.{blob_of}
use Rattle.il_base.specs.declared.world_model.known.Known.{Known}
use Rattle.il_base.specs.declared.world_model.known.Known.TheVariants.{Bad}
use Rattle.rules.specs.record_format.Parts.{body_by, bad_offset}
use Rattle.world_reader.specs.declared.row_reader.faults.Fault.{Fault}
use Rattle.world_reader.specs.declared.row_reader.faults.Faults.{Faults}
use Rattle.world_reader.specs.declared.row_reader.faults.Met.{Met}

-- the fault that is kept of a part
abbrev pub fault_of : Faults → ℕ → Option Fault
fault_of faults n = get nat_eq faults.map n

-- the blob that a number names, or no bytes
abbrev pub blob_at : List ℕ → ℕ → List ℕ
blob_at m n = unwrap_or (blob_of (heap m Blobs) n) []

-- the faults that are kept are those of the signatures that the numbers name
pub record OfSignatures {A : Type 0} (of_blob : List ℕ → Known A) (m : List ℕ) (faults : Faults) : Type 0 where
  pub tell : (n : ℕ) (fault : Fault) → fault_of faults n ≡ Some fault → of_blob (blob_at m n) ≡ Bad fault.why

-- the faults that are kept are those of the bodies at the addresses
pub record OfBodies (bs : List ℕ) (faults : Faults) : Type 0 where
  pub tell : (rva : ℕ) (fault : Fault) → fault_of faults rva ≡ Some fault → (body_by bs rva ≡ Some (Bad fault.why)) × (bad_offset bs rva ≡ fault.at)

-- the faults that were met in a table are those of its signatures, by this reading, and of its bodies
pub record IsMet {A : Type 0} (of_blob : List ℕ → Known A) (bs : List ℕ) (met : Met) : Type 0 where
  pub signatures : OfSignatures of_blob (metadata_of bs) met.signatures
  pub bodies : OfBodies bs met.bodies
