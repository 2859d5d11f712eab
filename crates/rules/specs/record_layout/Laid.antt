-- The bytes of the one file that a record is laid out in.
use Rattle.std.specs.Prelude.{ℕ, List, map}
use Rattle.il_base.specs.declared.world_model.record.AsmRec.{AsmRec}
use Rattle.rules.specs.file_layout.Metadata.{Streams, metadata_bytes}
use Rattle.rules.specs.file_layout.Image.{Parts, image_bytes, image_length}
use Rattle.rules.specs.file_layout.Cells.{pools_of}
use Rattle.rules.specs.file_layout.Laid.{streams_with}
use Rattle.rules.specs.record_layout.Tables.{code_of, cells_of}

-- the texts of `#US`, in the record's order
abbrev pub users_of : AsmRec → List (List ℕ)
users_of rec = map (λ t. t.text) rec.user

unfoldable pub streams_of : AsmRec → Streams
streams_of rec = streams_with (pools_of (cells_of rec)) (cells_of rec) (users_of rec)

unfoldable pub parts_of : AsmRec → Parts
parts_of rec = record {
  bits = rec.bits;
  entry = rec.entry;
  subsystem = rec.subsystem;
  code = code_of rec;
  metadata = metadata_bytes (streams_of rec);
}

unfoldable pub laid : AsmRec → List ℕ
laid rec = image_bytes (parts_of rec)

-- the length of the file in bytes
abbrev pub laid_length : AsmRec → ℕ
laid_length rec = image_length (parts_of rec)
