-- What has a reading in a file's record was read of bytes, which spell it.
use Rattle.std.proofs.Common.{◌≡◌, ℕ, zero, suc, ◌+◌, List, [], length, take, drop, ◌-◌, Bool, true, false, nat_le, Option, Some, None, Result, Ok, Err, refl, sym, subst, arith}
use Rattle.std.specs.Prelude.{All, ◌==◌, ◌&&◌, unwrap_or, if◌then◌else◌}
use Rattle.std.specs.Option.{option_map, option_and_then}
use Rattle.std.proofs.lemmas.List.Elements.{All-nil, All-push}
use Rattle.il_base.specs.Bytes.{bytes_at, compressed_at}
use Rattle.il_base.specs.declared.body.Body.{Body}
use Rattle.il_base.specs.declared.sig.Sig.{Sig}
use Rattle.il_base.specs.declared.sig.MethodSig.{MethodSig}
use Rattle.il_base.specs.declared.table.TheConstants.{FIELD, METHOD_DEF, MEMBER_REF, STAND_ALONE_SIG, PROPERTY, TYPE_SPEC, METHOD_SPEC}
use Rattle.il_base.specs.blob_grammar.Laws.{AreBytes, Reads}
use Rattle.il_base.specs.blob_grammar.Signatures.{levels, IsType, IsMethod, IsProperty, IsField, AreLocals, IsInstance}
use Rattle.il_base.specs.blob_grammar.Reading.{type_of_blob, method_of_blob, property_of_blob, field_of_blob, locals_of_blob, instance_of_blob}
use Rattle.il_base.specs.declared.body_grammar.body.Fault.{Fault}
use Rattle.il_base.specs.body_grammar.Bodies.{body_at}
use Rattle.il_base.specs.body_grammar.BodySpelling as body
use Rattle.il_base.proofs.lemmas.body_grammar.ReadNumbers.{bytes-drop, bytes-take}
use Rattle.il_base.specs.declared.cli_format.stream.StreamName.{StreamName}
use Rattle.il_base.specs.declared.cli_format.stream.StreamName.TheVariants.{Blobs}
use Rattle.il_base.specs.cli_format.Heaps.{counted_at, blob_of}
use Rattle.il_base.specs.cli_format.Image.{metadata_of, place_in, tail_in, sections_of, section_of, image_tail}
use Rattle.il_base.specs.declared.cli_format.section.Section.{Section}
use Rattle.il_base.specs.cli_format.Streams.{heap}
use Rattle.il_base.specs.declared.world_model.known.Known.{Known}
use Rattle.il_base.specs.declared.world_model.known.Known.TheVariants.{Good, Bad}
use Rattle.il_base.specs.declared.world_model.expr.MemberSig.TheVariants as member
use Rattle.il_base.specs.declared.world_model.members.FieldRow.{FieldRow}
use Rattle.il_base.specs.declared.world_model.members.MethodDefRow.{MethodDefRow}
use Rattle.il_base.specs.declared.world_model.members.MemberRefRow.{MemberRefRow}
use Rattle.il_base.specs.declared.world_model.members.MethodSpecRow.{MethodSpecRow}
use Rattle.il_base.specs.declared.world_model.members.StandAloneSigRow.{StandAloneSigRow}
use Rattle.il_base.specs.declared.world_model.members.PropertyRow.{PropertyRow}
use Rattle.il_base.specs.declared.world_model.types.TypeSpecRow.{TypeSpecRow}
use Rattle.rules.specs.record_format.Cells.{number_in, blob_in, count_of, first_rows}
use Rattle.rules.specs.record_format.Parts.{known_of, known_map, begins_field, member_of_blob, body_of_reading, body_in, body_by}
use Rattle.rules.specs.record_format.Types.{type_spec_row}
use Rattle.rules.specs.record_format.Members.{field_row, method_def_row, member_ref_row, stand_alone_sig_row, property_row, method_spec_row}
use Rattle.rules.specs.record_format.Record.{record_at}
use Rattle.record_writer.specs.row_writer.CanWrite.{HasSpelling, HasMemberSpelling, CanWriteRows}
use Rattle.record_writer.specs.CanWrite.{HasBody, CanWrite}
use Rattle.trim_laws.specs.spelled_parts.Laws.{FilesAreSpelled}

-- what readers of blobs and bodies give is spelled by what they read
pub record Readers : Type 0 where
  pub types : Reads (IsType levels) type_of_blob
  pub methods : Reads IsMethod method_of_blob
  pub properties : Reads IsProperty property_of_blob
  pub fields : Reads IsField field_of_blob
  pub locals : Reads AreLocals locals_of_blob
  pub instances : Reads IsInstance instance_of_blob
  pub bodies : (bs : List ℕ) (b : Body) (n : ℕ) → AreBytes bs → body_at bs ≡ Ok (b, n) → body.HasSpelling b

-- ---- bytes of a file

no_bytes : AreBytes []
no_bytes i = omega arith

heap_bytes : (m : List ℕ) (name : StreamName) → AreBytes m → AreBytes (heap m name)
unfolding heap
heap_bytes m name h = bytes-take _ _ (bytes-drop _ m h)

metadata_bytes : (bs : List ℕ) → AreBytes bs → AreBytes (metadata_of bs)
unfolding metadata_of
metadata_bytes bs h = bytes-take _ _ (bytes-drop _ bs h)

piece_bytes : (bs : List ℕ) (at n : ℕ) (b : Bool) → AreBytes bs → AreBytes (unwrap_or (if b then Some (take n (drop at bs)) else None) [])
piece_bytes bs at n true h = bytes-take n (drop at bs) (bytes-drop at bs h)
piece_bytes bs at n false h = no_bytes

counted_by : (bs : List ℕ) (o : Option (ℕ × ℕ)) → AreBytes bs → AreBytes (unwrap_or (option_and_then (λ n. bytes_at bs n.1 n.0) o) [])
unfolding bytes_at
counted_by bs None h = no_bytes
counted_by bs (Some n) h = piece_bytes bs n.1 n.0 (nat_le (n.1 + n.0) (length bs)) h

counted_bytes : (bs : List ℕ) → AreBytes bs → AreBytes (unwrap_or (counted_at bs) [])
unfolding counted_at
counted_bytes bs h = counted_by bs (compressed_at bs) h

blob_by : (h : List ℕ) (at : ℕ) (b : Bool) → AreBytes h → AreBytes (unwrap_or (if b then Some [] else counted_at (drop at h)) [])
blob_by h at true fits = no_bytes
blob_by h at false fits = counted_bytes (drop at h) (bytes-drop at h fits)

blob_bytes : (h : List ℕ) (at : ℕ) → AreBytes h → AreBytes (unwrap_or (blob_of h at) [])
unfolding blob_of
blob_bytes h at fits = blob_by h at ((at == 0) && (length h == 0)) fits

in_bytes : (m : List ℕ) (t c r : ℕ) → AreBytes m → AreBytes (blob_in m t c r)
unfolding blob_in
in_bytes m t c r fits = blob_bytes (heap m Blobs) (number_in m t c r) (heap_bytes m Blobs fits)

-- ---- signatures

known_by : {A : Type 0} (grammar : A → List ℕ → Type 0) (bytes : List ℕ) (r : Result A (ℕ × ℕ)) → ((x : A) → r ≡ Ok x → grammar x bytes) → HasSpelling grammar (known_of r)
known_by grammar bytes (Ok x) h = (bytes, h x refl)
known_by grammar bytes (Err fault) h = tt

known_spelled : {A : Type 0} (grammar : A → List ℕ → Type 0) (read : List ℕ → Result A (ℕ × ℕ)) → Reads grammar read → (bytes : List ℕ) → AreBytes bytes → HasSpelling grammar (known_of (read bytes))
known_spelled grammar read reads bytes fits = known_by grammar bytes (read bytes) (λ x e. reads.found bytes x fits e)

field_member : (k : Known Sig) → HasSpelling IsField k → HasMemberSpelling (known_map (λ s. member.Field s) k)
field_member (Good s) h = h
field_member (Bad why) h = tt

method_member : (k : Known MethodSig) → HasSpelling IsMethod k → HasMemberSpelling (known_map (λ s. member.Method s) k)
method_member (Good s) h = h
method_member (Bad why) h = tt

module _ (readers : Readers) where
  member_by : (bytes : List ℕ) (b : Bool) → AreBytes bytes
      → HasMemberSpelling (if b then known_map (λ s. member.Field s) (known_of (field_of_blob bytes)) else known_map (λ s. member.Method s) (known_of (method_of_blob bytes)))
  member_by bytes true fits = field_member (known_of (field_of_blob bytes)) (known_spelled IsField field_of_blob readers.fields bytes fits)
  member_by bytes false fits = method_member (known_of (method_of_blob bytes)) (known_spelled IsMethod method_of_blob readers.methods bytes fits)

  member_spelled : (bytes : List ℕ) → AreBytes bytes → HasMemberSpelling (member_of_blob bytes)
  unfolding member_of_blob
  member_spelled bytes fits = member_by bytes (begins_field bytes) fits

  -- ---- bodies

  reading_spelled : (tail : List ℕ) (r : Result (Body × ℕ) Fault) → AreBytes tail → body_at tail ≡ r → HasBody (Some (body_of_reading r))
  reading_spelled tail (Ok x) fits e = readers.bodies tail x.0 x.1 fits e
  reading_spelled tail (Err f) fits e = tt

  in_spelled : (o : Option (List ℕ)) → ((tail : List ℕ) → o ≡ Some tail → AreBytes tail) → HasBody (Some (body_in o))
  in_spelled None h = tt
  in_spelled (Some tail) h = reading_spelled tail (body_at tail) (h tail refl) refl

  section_tail : (bs : List ℕ) (rva : ℕ) (s : Section) (o : Option ℕ) → AreBytes bs → (tail : List ℕ) → option_map (λ at. take (s.raw_size - (rva - s.rva)) (drop at bs)) o ≡ Some tail → AreBytes tail
  section_tail bs rva s None fits tail e = absurd cc
  section_tail bs rva s (Some at) fits tail e =
      let same : take (s.raw_size - (rva - s.rva)) (drop at bs) ≡ tail = cc in
      subst AreBytes same (bytes-take (s.raw_size - (rva - s.rva)) (drop at bs) (bytes-drop at bs fits))

  sections_tail : (bs : List ℕ) (rva : ℕ) (o : Option Section) → AreBytes bs → (tail : List ℕ) → option_and_then (tail_in bs rva) o ≡ Some tail → AreBytes tail
  unfolding tail_in
  sections_tail bs rva None fits tail e = absurd cc
  sections_tail bs rva (Some s) fits tail e = section_tail bs rva s (place_in rva 0 s) fits tail e

  tail_bytes : (bs : List ℕ) (rva : ℕ) → AreBytes bs → (tail : List ℕ) → image_tail bs rva ≡ Some tail → AreBytes tail
  unfolding image_tail
  tail_bytes bs rva fits tail e = sections_tail bs rva (section_of (sections_of bs) rva) fits tail e

  body_or : (bs : List ℕ) (rva : ℕ) (b : Bool) → AreBytes bs → HasBody (if b then None else Some (body_in (image_tail bs rva)))
  body_or bs rva true fits = tt
  body_or bs rva false fits = in_spelled (image_tail bs rva) (tail_bytes bs rva fits)

  body_spelled : (bs : List ℕ) (rva : ℕ) → AreBytes bs → HasBody (body_by bs rva)
  unfolding body_by
  body_spelled bs rva fits = body_or bs rva (rva == 0) fits

  -- ---- rows

  all_first : {A : Type 0} (P : A → Type 0) (row : ℕ → A) → ((r : ℕ) → P (row r)) → (n : ℕ) → All P (first_rows row n)
  unfolding first_rows
  all_first P row h zero = All-nil P
  all_first P row h (suc n) = All-push P (first_rows row n) (row (suc n)) (all_first P row h n) (h (suc n))

  module _ (bs : List ℕ) (fits : AreBytes bs) where
    abbrev m : List ℕ
    m = metadata_of bs

    blob : (t c r : ℕ) → AreBytes (blob_in m t c r)
    blob t c r = in_bytes m t c r (metadata_bytes bs fits)

    field_spelled : (r : ℕ) → HasSpelling IsField (field_row m r).signature
    unfolding field_row
    field_spelled r = known_spelled IsField field_of_blob readers.fields (blob_in m FIELD 2 r) (blob FIELD 2 r)

    method_spelled : (r : ℕ) → HasSpelling IsMethod (method_def_row bs m r).signature
    unfolding method_def_row
    method_spelled r = known_spelled IsMethod method_of_blob readers.methods (blob_in m METHOD_DEF 4 r) (blob METHOD_DEF 4 r)

    code_spelled : (r : ℕ) → HasBody (method_def_row bs m r).body
    unfolding method_def_row
    code_spelled r = body_spelled bs (number_in m METHOD_DEF 0 r) fits

    ref_spelled : (r : ℕ) → HasMemberSpelling (member_ref_row m r).signature
    unfolding member_ref_row
    ref_spelled r = member_spelled (blob_in m MEMBER_REF 2 r) (blob MEMBER_REF 2 r)

    locals_spelled : (r : ℕ) → HasSpelling AreLocals (stand_alone_sig_row m r).signature
    unfolding stand_alone_sig_row
    locals_spelled r = known_spelled AreLocals locals_of_blob readers.locals (blob_in m STAND_ALONE_SIG 0 r) (blob STAND_ALONE_SIG 0 r)

    property_spelled : (r : ℕ) → HasSpelling IsProperty (property_row m r).signature
    unfolding property_row
    property_spelled r = known_spelled IsProperty property_of_blob readers.properties (blob_in m PROPERTY 2 r) (blob PROPERTY 2 r)

    type_spelled : (r : ℕ) → HasSpelling (IsType levels) (type_spec_row m r).signature
    unfolding type_spec_row
    type_spelled r = known_spelled (IsType levels) type_of_blob readers.types (blob_in m TYPE_SPEC 0 r) (blob TYPE_SPEC 0 r)

    instance_spelled : (r : ℕ) → HasSpelling IsInstance (method_spec_row m r).instantiation
    unfolding method_spec_row
    instance_spelled r = known_spelled IsInstance instance_of_blob readers.instances (blob_in m METHOD_SPEC 1 r) (blob METHOD_SPEC 1 r)

    rows_spelled : CanWriteRows (record_at bs)
    unfolding record_at
    rows_spelled = record {
      fields = all_first (λ (row : FieldRow). HasSpelling IsField row.signature) (field_row m) field_spelled (count_of m FIELD);
      methods = all_first (λ (row : MethodDefRow). HasSpelling IsMethod row.signature) (method_def_row bs m) method_spelled (count_of m METHOD_DEF);
      members = all_first (λ (row : MemberRefRow). HasMemberSpelling row.signature) (member_ref_row m) ref_spelled (count_of m MEMBER_REF);
      locals = all_first (λ (row : StandAloneSigRow). HasSpelling AreLocals row.signature) (stand_alone_sig_row m) locals_spelled (count_of m STAND_ALONE_SIG);
      properties = all_first (λ (row : PropertyRow). HasSpelling IsProperty row.signature) (property_row m) property_spelled (count_of m PROPERTY);
      types = all_first (λ (row : TypeSpecRow). HasSpelling (IsType levels) row.signature) (type_spec_row m) type_spelled (count_of m TYPE_SPEC);
      instances = all_first (λ (row : MethodSpecRow). HasSpelling IsInstance row.instantiation) (method_spec_row m) instance_spelled (count_of m METHOD_SPEC);
    }

    bodies_spelled : All (λ m. HasBody m.body) (record_at bs).method_def
    unfolding record_at
    bodies_spelled = all_first (λ (row : MethodDefRow). HasBody row.body) (method_def_row bs m) code_spelled (count_of m METHOD_DEF)

    record_spelled : CanWrite (record_at bs)
    record_spelled = record { rows = rows_spelled; bodies = bodies_spelled }

  pub files_spelled : FilesAreSpelled
  files_spelled bs rec fits has = subst CanWrite (sym has.is) (record_spelled bs fits)
