-- A file's record, where it is as the layout has it, can be laid out.
use Rattle.std.proofs.Common.{◌≡◌, ◌↔◌, ℕ, suc, ◌≤◌, Bool, true, false, cond, List, None, Some, length, sym, subst, ◌∙◌, arith}
use Rattle.std.specs.Prelude.{slice_get}
use Rattle.il_base.specs.declared.sig.Sig.{Sig}
use Rattle.il_base.specs.declared.sig.MethodSig.{MethodSig}
use Rattle.il_base.specs.blob_grammar.Laws.{AreBytes, IsSpelled, Reads}
use Rattle.il_base.specs.blob_grammar.Signatures.{levels, IsType, IsMethod, IsProperty, IsField, AreLocals, IsInstance}
use Rattle.il_base.specs.blob_grammar.Reading.{type_of_blob, method_of_blob, property_of_blob, field_of_blob, locals_of_blob, instance_of_blob}
use Rattle.il_base.specs.blob_grammar.Values.{FitsType, FitsMethod, FitsProperty, FitRow}
use Rattle.il_base.specs.cli_format.Demand.{first_fault}
use Rattle.il_base.specs.cli_format.Image.{metadata_of, cli_flags_of, subsystem_of, entry_token_of}
use Rattle.il_base.specs.cli_format.Tables.{rows_of}
use Rattle.il_base.specs.cli_format.Metadata.{tables_stream}
use Rattle.il_base.specs.declared.world_model.known.Known.{Known}
use Rattle.il_base.specs.declared.world_model.known.Known.TheVariants.{Good, Bad}
use Rattle.il_base.specs.declared.world_model.expr.MemberSig.TheVariants as member
use Rattle.il_base.specs.declared.world_model.types.TypeSpecRow.{TypeSpecRow}
use Rattle.il_base.specs.declared.world_model.members.FieldRow.{FieldRow}
use Rattle.il_base.specs.declared.world_model.members.MethodDefRow.{MethodDefRow}
use Rattle.il_base.specs.declared.world_model.members.MemberRefRow.{MemberRefRow}
use Rattle.il_base.specs.declared.world_model.members.StandAloneSigRow.{StandAloneSigRow}
use Rattle.il_base.specs.declared.world_model.members.PropertyRow.{PropertyRow}
use Rattle.il_base.specs.declared.world_model.members.MethodSpecRow.{MethodSpecRow}
use Rattle.il_base.specs.declared.world_model.record.AsmRec.{AsmRec}
use Rattle.il_base.specs.world_model.Records.{IsRecord}
use Rattle.rules.specs.record_format.Cells.{blob_in, number_in, count_of}
use Rattle.rules.specs.record_format.Parts.{known_of, known_map, begins_field, member_of_blob}
use Rattle.rules.specs.record_format.Types.{module_row, type_def_row, type_spec_row, assembly_row}
use Rattle.rules.specs.record_format.Members.{field_row, method_def_row, member_ref_row, stand_alone_sig_row, property_row, method_spec_row}
use Rattle.rules.specs.record_format.Record.{record_at, record_demands, HasRecord}
use Rattle.file_laws.specs.layout_laws.Parts.{IsGood, FitsMember, MethodFits}
use Rattle.file_laws.specs.layout_laws.OfFile.{IsKnown, HasReading, AsLaid}
use Rattle.file_laws.specs.layout_laws.CanBeLaid.{HeaderFits, CanBeLaid}
use Rattle.file_laws.proofs.lemmas.layout_laws.FileCells.{number_below}
use Rattle.file_laws.proofs.lemmas.layout_laws.FileDemands.{il_only, not_native, singles, length_rows, row_at}
use Rattle.file_laws.proofs.lemmas.layout_laws.FileParts.{good_fits, body_fits, sound}
use Rattle.file_laws.proofs.lemmas.layout_laws.FileTables.{blob, file_tables}

-- what the grammars of signatures say
pub record Grammars : Type 0 where
  pub types : Reads (IsType levels) type_of_blob
  pub methods : Reads IsMethod method_of_blob
  pub properties : Reads IsProperty property_of_blob
  pub fields : Reads IsField field_of_blob
  pub locals : Reads AreLocals locals_of_blob
  pub instances : Reads IsInstance instance_of_blob
  pub type_values : (s : Sig) → FitsType levels s ↔ IsSpelled (IsType levels) s
  pub method_values : (m : MethodSig) → FitsMethod m ↔ IsSpelled IsMethod m
  pub property_values : (m : MethodSig) → FitsProperty m ↔ IsSpelled IsProperty m
  pub field_values : (s : Sig) → FitsType levels s ↔ IsSpelled IsField s
  pub local_values : (ss : List Sig) → FitRow ss ↔ IsSpelled AreLocals ss
  pub instance_values : (ss : List Sig) → FitRow ss ↔ IsSpelled IsInstance ss

field_member : (k : Known Sig) → (IsKnown k → IsGood (FitsType levels) k) → IsKnown (known_map member.Field k) → IsGood FitsMember (known_map member.Field k)
field_member (Good s) fits known = fits tt
field_member (Bad why) fits known = absurd known

method_member : (k : Known MethodSig) → (IsKnown k → IsGood FitsMethod k) → IsKnown (known_map member.Method k) → IsGood FitsMember (known_map member.Method k)
method_member (Good s) fits known = fits tt
method_member (Bad why) fits known = absurd known

module _ (g : Grammars) (bs : List ℕ) (bytes : AreBytes bs) (meets : first_fault (record_demands bs) ≡ None) (as_laid : AsLaid (record_at bs)) (is : IsRecord (record_at bs)) where
  abbrev m : List ℕ
  m = metadata_of bs

  header : HeaderFits (record_at bs)
  unfolding record_at cli_flags_of subsystem_of entry_token_of
  header = record {
    bits = number_below 4 bs _ bytes (omega arith);
    il_only = il_only bs meets;
    not_native = not_native bs meets;
    entry = number_below 4 bs _ bytes (omega arith);
    subsystem = number_below 2 bs _ bytes (omega arith);
    descriptor = as_laid.descriptor;
  }

  one_module : length (record_at bs).«module» ≡ 1
  unfolding record_at count_of
  one_module = length_rows (module_row m) (rows_of (tables_stream m) 0x00) ∙ (singles bs meets).0

  one_assembly : length (record_at bs).assembly ≡ 1
  unfolding record_at count_of
  one_assembly = length_rows (assembly_row m) (rows_of (tables_stream m) 0x20) ∙ (singles bs meets).1

  some_type : 1 ≤ length (record_at bs).type_def
  unfolding record_at count_of
  some_type = omega (arith, length_rows (type_def_row m) (rows_of (tables_stream m) 0x02), (singles bs meets).2)

  -- ---- signatures

  field_good : (k : ℕ) (row : FieldRow) → slice_get (record_at bs).field k ≡ Some row → IsGood (FitsType levels) row.signature
  unfolding record_at count_of field_row
  field_good k row e =
      let found = row_at (field_row m) (rows_of (tables_stream m) 0x04) k row e in
      let known : IsKnown (field_row m (suc k)).signature = subst (λ (x : FieldRow). IsKnown x.signature) (sym found.1) (as_laid.known.fields k row e) in
      subst (λ (x : FieldRow). IsGood (FitsType levels) x.signature) found.1 (good_fits (FitsType levels) IsField field_of_blob g.fields g.field_values (blob_in m 0x04 2 (suc k)) (blob bs bytes 0x04 2 (suc k)).bytes known)

  method_def_good : (k : ℕ) (row : MethodDefRow) → slice_get (record_at bs).method_def k ≡ Some row → IsGood FitsMethod row.signature
  unfolding record_at count_of method_def_row
  method_def_good k row e =
      let found = row_at (method_def_row bs m) (rows_of (tables_stream m) 0x06) k row e in
      let known : IsKnown (method_def_row bs m (suc k)).signature = subst (λ (x : MethodDefRow). IsKnown x.signature) (sym found.1) (as_laid.known.methods k row e) in
      subst (λ (x : MethodDefRow). IsGood FitsMethod x.signature) found.1 (good_fits FitsMethod IsMethod method_of_blob g.methods g.method_values (blob_in m 0x06 4 (suc k)) (blob bs bytes 0x06 4 (suc k)).bytes known)

  stand_alone_sig_good : (k : ℕ) (row : StandAloneSigRow) → slice_get (record_at bs).stand_alone_sig k ≡ Some row → IsGood FitRow row.signature
  unfolding record_at count_of stand_alone_sig_row
  stand_alone_sig_good k row e =
      let found = row_at (stand_alone_sig_row m) (rows_of (tables_stream m) 0x11) k row e in
      let known : IsKnown (stand_alone_sig_row m (suc k)).signature = subst (λ (x : StandAloneSigRow). IsKnown x.signature) (sym found.1) (as_laid.known.locals k row e) in
      subst (λ (x : StandAloneSigRow). IsGood FitRow x.signature) found.1 (good_fits FitRow AreLocals locals_of_blob g.locals g.local_values (blob_in m 0x11 0 (suc k)) (blob bs bytes 0x11 0 (suc k)).bytes known)

  property_good : (k : ℕ) (row : PropertyRow) → slice_get (record_at bs).property k ≡ Some row → IsGood FitsProperty row.signature
  unfolding record_at count_of property_row
  property_good k row e =
      let found = row_at (property_row m) (rows_of (tables_stream m) 0x17) k row e in
      let known : IsKnown (property_row m (suc k)).signature = subst (λ (x : PropertyRow). IsKnown x.signature) (sym found.1) (as_laid.known.properties k row e) in
      subst (λ (x : PropertyRow). IsGood FitsProperty x.signature) found.1 (good_fits FitsProperty IsProperty property_of_blob g.properties g.property_values (blob_in m 0x17 2 (suc k)) (blob bs bytes 0x17 2 (suc k)).bytes known)

  type_spec_good : (k : ℕ) (row : TypeSpecRow) → slice_get (record_at bs).type_spec k ≡ Some row → IsGood (FitsType levels) row.signature
  unfolding record_at count_of type_spec_row
  type_spec_good k row e =
      let found = row_at (type_spec_row m) (rows_of (tables_stream m) 0x1b) k row e in
      let known : IsKnown (type_spec_row m (suc k)).signature = subst (λ (x : TypeSpecRow). IsKnown x.signature) (sym found.1) (as_laid.known.types k row e) in
      subst (λ (x : TypeSpecRow). IsGood (FitsType levels) x.signature) found.1 (good_fits (FitsType levels) (IsType levels) type_of_blob g.types g.type_values (blob_in m 0x1b 0 (suc k)) (blob bs bytes 0x1b 0 (suc k)).bytes known)

  method_spec_good : (k : ℕ) (row : MethodSpecRow) → slice_get (record_at bs).method_spec k ≡ Some row → IsGood FitRow row.instantiation
  unfolding record_at count_of method_spec_row
  method_spec_good k row e =
      let found = row_at (method_spec_row m) (rows_of (tables_stream m) 0x2b) k row e in
      let known : IsKnown (method_spec_row m (suc k)).instantiation = subst (λ (x : MethodSpecRow). IsKnown x.instantiation) (sym found.1) (as_laid.known.instances k row e) in
      subst (λ (x : MethodSpecRow). IsGood FitRow x.instantiation) found.1 (good_fits FitRow IsInstance instance_of_blob g.instances g.instance_values (blob_in m 0x2b 1 (suc k)) (blob bs bytes 0x2b 1 (suc k)).bytes known)

  member_by : (b : List ℕ) → AreBytes b → (test : Bool) → IsKnown (cond test (known_map member.Field (known_of (field_of_blob b))) (known_map member.Method (known_of (method_of_blob b))))
      → IsGood FitsMember (cond test (known_map member.Field (known_of (field_of_blob b))) (known_map member.Method (known_of (method_of_blob b))))
  member_by b h true known = field_member (known_of (field_of_blob b)) (good_fits (FitsType levels) IsField field_of_blob g.fields g.field_values b h) known
  member_by b h false known = method_member (known_of (method_of_blob b)) (good_fits FitsMethod IsMethod method_of_blob g.methods g.method_values b h) known

  member_fits : (b : List ℕ) → AreBytes b → IsKnown (member_of_blob b) → IsGood FitsMember (member_of_blob b)
  unfolding member_of_blob
  member_fits b h known = member_by b h (begins_field b) known

  member_ref_good : (k : ℕ) (row : MemberRefRow) → slice_get (record_at bs).member_ref k ≡ Some row → IsGood FitsMember row.signature
  unfolding record_at count_of member_ref_row
  member_ref_good k row e =
      let found = row_at (member_ref_row m) (rows_of (tables_stream m) 0x0a) k row e in
      let known : IsKnown (member_ref_row m (suc k)).signature = subst (λ (x : MemberRefRow). IsKnown x.signature) (sym found.1) (as_laid.known.members k row e) in
      subst (λ (x : MemberRefRow). IsGood FitsMember x.signature) found.1 (member_fits (blob_in m 0x0a 2 (suc k)) (blob bs bytes 0x0a 2 (suc k)).bytes known)

  -- ---- bodies

  method_fits : (k : ℕ) (row : MethodDefRow) → slice_get (record_at bs).method_def k ≡ Some row → MethodFits row
  unfolding record_at count_of method_def_row
  method_fits k row e =
      let found = row_at (method_def_row bs m) (rows_of (tables_stream m) 0x06) k row e in
      let known : HasReading (method_def_row bs m (suc k)).body = subst (λ (x : MethodDefRow). HasReading x.body) (sym found.1) (as_laid.known.bodies k row e) in
      subst (λ (x : MethodDefRow). MethodFits x) found.1
      (record { body = body_fits bs (number_in m 0x06 0 (suc k)) bytes known; sound = sound bs (number_in m 0x06 0 (suc k)) known })

  -- ---- all of it

  pub file_can : CanBeLaid (record_at bs)
  file_can = record {
    header = header;
    one_module = one_module;
    one_assembly = one_assembly;
    some_type = some_type;
    is_record = is;
    tables = file_tables bs bytes as_laid;
    signatures = record {
      fields = field_good;
      methods = method_def_good;
      members = member_ref_good;
      locals = stand_alone_sig_good;
      properties = property_good;
      types = type_spec_good;
      instances = method_spec_good;
    };
    methods = method_fits;
    field_data = as_laid.field_data;
    body_rvas = as_laid.body_rvas;
    data_rvas = as_laid.data_rvas;
    texts = as_laid.texts;
  }

pub file_law : Grammars → (bs : List ℕ) (rec : AsmRec) → AreBytes bs → HasRecord bs rec → IsRecord rec → AsLaid rec → CanBeLaid rec
file_law g bs rec bytes h is as_laid =
    subst CanBeLaid (sym h.is) (file_can g bs bytes h.meets (subst AsLaid h.is as_laid) (subst IsRecord h.is is))
