-- What the layers below say: images, metadata, tables, heaps, signatures and bodies read back.
use Rattle.std.proofs.Common.{◌≡◌, ◌↔◌, ℕ, ◌++◌, List, length, Some, Ok}
use Rattle.std.specs.Prelude.{slice_get}
use Rattle.il_base.specs.declared.sig.Sig.{Sig}
use Rattle.il_base.specs.declared.sig.MethodSig.{MethodSig}
use Rattle.il_base.specs.declared.body.Body.{Body}
use Rattle.il_base.specs.blob_grammar.Laws.{IsSpelled, Writes}
use Rattle.il_base.specs.blob_grammar.Signatures.{levels, IsType, IsMethod, IsProperty, IsField, AreLocals, IsInstance, type_bytes, method_bytes, property_bytes, field_bytes, locals_bytes, instance_bytes}
use Rattle.il_base.specs.blob_grammar.Reading.{type_of_blob, method_of_blob, property_of_blob, field_of_blob, locals_of_blob, instance_of_blob}
use Rattle.il_base.specs.blob_grammar.Values.{FitsType, FitsMethod, FitsProperty, FitRow}
use Rattle.il_base.specs.body_grammar.Bodies.{body_at}
use Rattle.il_base.specs.body_grammar.BodySpelling.{HasSpelling, body_bytes}
use Rattle.rules.specs.file_layout.Image.{Parts, image_bytes}
use Rattle.rules.specs.file_layout.Metadata.{Streams, metadata_bytes}
use Rattle.rules.specs.file_layout.TableStream.{Tables, tables_stream}
use Rattle.file_laws.specs.written_image.Written.{CanLay, ReadsBack, CanStream, StreamsReadBack}
use Rattle.file_laws.specs.written_tables.Written.{CanTables, TablesReadBack, StringsReadBack, BlobsReadBack, GuidsReadBack, UsersReadBack, Once}

pub record Lower : Type 0 where
  pub images : (p : Parts) → CanLay p → ReadsBack p (image_bytes p)
  pub metadata : (s : Streams) → CanStream s → StreamsReadBack s (metadata_bytes s)
  pub tables : (sizes : ℕ) (tables : Tables) → CanTables sizes tables → TablesReadBack sizes tables (tables_stream sizes tables)
  pub strings : (texts : List (List ℕ)) → StringsReadBack texts
  pub blobs : (blobs : List (List ℕ)) → BlobsReadBack blobs
  pub guids : (guids : List (List ℕ)) → ((k : ℕ) (g : List ℕ) → slice_get guids k ≡ Some g → length g ≡ 16) → GuidsReadBack guids
  pub users : (texts : List (List ℕ)) → UsersReadBack texts
  pub once : (xs : List (List ℕ)) → Once xs
  pub types : Writes (IsType levels) type_of_blob type_bytes
  pub methods : Writes IsMethod method_of_blob method_bytes
  pub properties : Writes IsProperty property_of_blob property_bytes
  pub fields : Writes IsField field_of_blob field_bytes
  pub locals : Writes AreLocals locals_of_blob locals_bytes
  pub instances : Writes IsInstance instance_of_blob instance_bytes
  pub type_values : (s : Sig) → FitsType levels s ↔ IsSpelled (IsType levels) s
  pub method_values : (m : MethodSig) → FitsMethod m ↔ IsSpelled IsMethod m
  pub property_values : (m : MethodSig) → FitsProperty m ↔ IsSpelled IsProperty m
  pub field_values : (s : Sig) → FitsType levels s ↔ IsSpelled IsField s
  pub local_values : (ss : List Sig) → FitRow ss ↔ IsSpelled AreLocals ss
  pub instance_values : (ss : List Sig) → FitRow ss ↔ IsSpelled IsInstance ss
  pub bodies : (b : Body) (rest : List ℕ) → HasSpelling b → body_at (body_bytes b ++ rest) ≡ Ok (b, length (body_bytes b))
