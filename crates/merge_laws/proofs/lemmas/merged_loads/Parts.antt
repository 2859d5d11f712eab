-- Signatures and bodies of what is left fit, where those of kept rows have a reading and each has a spelling.
use Rattle.std.proofs.Common.{◌≡◌, ◌↔◌, ℕ, List, map, Bool, Option, Some, None, sym, ap, ◌∙◌}
use Rattle.std.specs.Prelude.{All}
use Rattle.std.specs.List.{Contains}
use Rattle.std.proofs.lemmas.List.Elements.{All-contains}
use Rattle.il_base.specs.declared.body.Body.{Body}
use Rattle.il_base.specs.declared.sig.Sig.{Sig}
use Rattle.il_base.specs.declared.sig.MethodSig.{MethodSig}
use Rattle.il_base.specs.blob_grammar.Laws.{IsSpelled}
use Rattle.il_base.specs.blob_grammar.Signatures.{levels, IsType, IsMethod, IsProperty, IsField, AreLocals, IsInstance}
use Rattle.il_base.specs.blob_grammar.Values.{FitsType, FitsMethod, FitsProperty, FitRow}
use Rattle.il_base.specs.declared.world_model.known.Known.{Known}
use Rattle.il_base.specs.declared.world_model.known.Known.TheVariants.{Good, Bad}
use Rattle.il_base.specs.declared.world_model.expr.MemberSig.{MemberSig}
use Rattle.il_base.specs.declared.world_model.expr.MemberSig.TheVariants as member
use Rattle.il_base.specs.declared.world_model.types.TypeSpecRow.{TypeSpecRow}
use Rattle.il_base.specs.declared.world_model.members.FieldRow.{FieldRow}
use Rattle.il_base.specs.declared.world_model.members.MethodDefRow.{MethodDefRow}
use Rattle.il_base.specs.declared.world_model.members.MemberRefRow.{MemberRefRow}
use Rattle.il_base.specs.declared.world_model.members.MethodSpecRow.{MethodSpecRow}
use Rattle.il_base.specs.declared.world_model.members.StandAloneSigRow.{StandAloneSigRow}
use Rattle.il_base.specs.declared.world_model.members.PropertyRow.{PropertyRow}
use Rattle.il_base.specs.declared.world_model.record.AsmRec.{AsmRec}
use Rattle.il_base.specs.world_model.Records.{Each}
use Rattle.rules.specs.link_rules.Cycles.{listed}
use Rattle.record_writer.specs.row_writer.CanWrite.{HasSpelling, HasMemberSpelling}
use Rattle.record_writer.specs.CanWrite.{HasBody, CanWrite}
use Rattle.file_laws.specs.layout_laws.Parts.{IsGood, FitsMember, SignaturesFit, FitsBody, MethodFits}
use Rattle.file_laws.specs.layout_laws.OfFile.{IsKnown, HasReading}
use Rattle.rules.specs.merge_rules.Numbers.{kept_methods}
use Rattle.rules.specs.merge_rules.Keys.{InstanceKey}
use Rattle.rules.specs.merge_rules.Refs.{Output, own_method_sig, own_field_sig, method_at, field_at, MemberKey, a_method, a_field, an_absent, type_specs, member_refs, method_specs, locals_sigs, method_token, new_sig, new_method_sig, key_token, parent_token, method_name, field_name, type_spec_rows, member_ref_row, member_ref_rows, method_spec_rows, locals_rows}
use Rattle.rules.specs.merge_rules.Moved.{moved_method_row}
use Rattle.rules.specs.merge_rules.Restricted.{moved_methods}
use Rattle.merge_laws.proofs.lemmas.merged_record.Lists.{place_in}
use Rattle.merge_laws.proofs.lemmas.merged_record.Rows.{from_places}
use Rattle.merge_laws.proofs.lemmas.merged_record.Sizes.{left}
use Rattle.merge_laws.specs.merged_loads.Laws.{PartsStand}
use Rattle.merge_laws.proofs.lemmas.merged_loads.Lists.{Every, every_one, every_flat, every_map, each_row_of}
use Rattle.merge_laws.proofs.lemmas.merged_loads.Addresses.{is_placed}

-- what fits is what has a spelling
pub record Values : Type 0 where
  pub types : (s : Sig) → FitsType levels s ↔ IsSpelled (IsType levels) s
  pub methods : (m : MethodSig) → FitsMethod m ↔ IsSpelled IsMethod m
  pub properties : (m : MethodSig) → FitsProperty m ↔ IsSpelled IsProperty m
  pub fields : (s : Sig) → FitsType levels s ↔ IsSpelled IsField s
  pub locals : (ss : List Sig) → FitRow ss ↔ IsSpelled AreLocals ss
  pub instances : (ss : List Sig) → FitRow ss ↔ IsSpelled IsInstance ss

-- ---- signatures

module _ {A : Type 0} (P : A → Type 0) (grammar : A → List ℕ → Type 0) (values : (x : A) → P x ↔ IsSpelled grammar x) where
  good_by : (k : Known A) → IsKnown k → HasSpelling grammar k → IsGood P k
  good_by (Good x) known spelled = (values x).1 spelled
  good_by (Bad why) known spelled = absurd known

  each_good : {R : Type 0} (part : R → Known A) (rows : List R) → Each (λ row. IsKnown (part row)) rows → All (λ row. HasSpelling grammar (part row)) rows → Each (λ row. IsGood P (part row)) rows
  each_good part rows known spelled k row e = good_by (part row) (known k row e) (All-contains (λ r. HasSpelling grammar (part r)) rows row spelled (place_in rows k row e))

member_by : Values → (k : Known MemberSig) → IsKnown k → HasMemberSpelling k → IsGood FitsMember k
member_by v (Good (member.Method s)) known spelled = (v.methods s).1 spelled
member_by v (Good (member.Field s)) known spelled = (v.fields s).1 spelled
member_by v (Bad why) known spelled = absurd known

-- ---- signatures of reference rows have a reading

abbrev SpecKnown : TypeSpecRow → Type 0
SpecKnown row = IsKnown row.signature

abbrev LocalsKnown : StandAloneSigRow → Type 0
LocalsKnown row = IsKnown row.signature

abbrev InstanceKnown : MethodSpecRow → Type 0
InstanceKnown row = IsKnown row.instantiation

abbrev MemberKnown : MemberRefRow → Type 0
MemberKnown row = IsKnown row.signature

module _ (o : Output) where
  specs_known : Every SpecKnown (type_spec_rows o)
  unfolding type_spec_rows
  specs_known = every_map SpecKnown (λ s. record { signature = Good (new_sig o s) }) (type_specs o.recs o.mets) (λ s c. tt)

  locals_known : Every LocalsKnown (locals_rows o)
  unfolding locals_rows
  locals_known = every_map LocalsKnown (λ ss. record { signature = Good (map (new_sig o) ss) }) (locals_sigs o.mets) (λ ss c. tt)

  instances_known : Every InstanceKnown (method_spec_rows o)
  unfolding method_spec_rows
  instances_known = every_map InstanceKnown (λ (i : InstanceKey). record { method = method_token o i.method; instantiation = Good (map (new_sig o) i.args) }) (method_specs o.mets) (λ i c. tt)

  member_known : (m : MemberKey) → Every MemberKnown (member_ref_row o m)
  member_known (a_method m e) =
      every_flat MemberKnown (λ at. map (λ s. record { class = parent_token o e; name = method_name o.recs at; signature = Good (member.Method (new_method_sig o s)) }) (own_method_sig o.recs at)) (listed (method_at o.recs m))
      (λ at c. every_map MemberKnown (λ s. record { class = parent_token o e; name = method_name o.recs at; signature = Good (member.Method (new_method_sig o s)) }) (own_method_sig o.recs at) (λ s d. tt))
  member_known (a_field f e) =
      every_flat MemberKnown (λ at. map (λ s. record { class = parent_token o e; name = field_name o.recs at; signature = Good (member.Field (new_sig o s)) }) (own_field_sig o.recs at)) (listed (field_at o.recs f))
      (λ at c. every_map MemberKnown (λ s. record { class = parent_token o e; name = field_name o.recs at; signature = Good (member.Field (new_sig o s)) }) (own_field_sig o.recs at) (λ s d. tt))
  member_known (an_absent p name s) = every_one MemberKnown (record { class = key_token o p; name = name; signature = Good (member.Method (new_method_sig o s)) }) tt

  members_known : Every MemberKnown (member_ref_rows o)
  unfolding member_ref_rows
  members_known = every_flat MemberKnown (member_ref_row o) (member_refs o.mets) (λ m c. member_known m)

-- ---- bodies

body_by : (b : Option (Known Body)) → HasReading b → HasBody b → FitsBody b
body_by None known spelled = tt
body_by (Some (Good b)) known spelled = spelled
body_by (Some (Bad why)) known spelled = absurd known

module _ (internal : Bool) (o : Output) (primary : AsmRec) where
  abbrev out : AsmRec
  out = left internal o primary

  -- no fault is left in a body
  sound : (row : MethodDefRow) → Contains out.method_def row → row.bad_at ≡ 0
  sound row c =
      let p = is_placed (moved_methods o) row c in
      let r = from_places o.recs (λ rec. rec.method_def) (moved_method_row o) (kept_methods o.recs o.kept) p.old p.there in
      let none : p.old.bad_at ≡ 0 = sym (ap (λ (m : MethodDefRow). m.bad_at) r.made) in
      sym (ap (λ (m : MethodDefRow). m.bad_at) p.is) ∙ none

  module _ (v : Values) (parts : PartsStand out) (can : CanWrite out) where
    pub signatures_fit : SignaturesFit out
    signatures_fit = record {
      fields = each_good (FitsType levels) IsField v.fields (λ (row : FieldRow). row.signature) out.field parts.fields can.rows.fields;
      methods = each_good FitsMethod IsMethod v.methods (λ (row : MethodDefRow). row.signature) out.method_def parts.methods can.rows.methods;
      members = λ k row e. member_by v row.signature (members_known o row (place_in out.member_ref k row e)) (All-contains (λ (r : MemberRefRow). HasMemberSpelling r.signature) out.member_ref row can.rows.members (place_in out.member_ref k row e));
      locals = each_good FitRow AreLocals v.locals (λ (row : StandAloneSigRow). row.signature) out.stand_alone_sig (each_row_of LocalsKnown out.stand_alone_sig (locals_known o)) can.rows.locals;
      properties = each_good FitsProperty IsProperty v.properties (λ (row : PropertyRow). row.signature) out.property parts.properties can.rows.properties;
      types = each_good (FitsType levels) (IsType levels) v.types (λ (row : TypeSpecRow). row.signature) out.type_spec (each_row_of SpecKnown out.type_spec (specs_known o)) can.rows.types;
      instances = each_good FitRow IsInstance v.instances (λ (row : MethodSpecRow). row.instantiation) out.method_spec (each_row_of InstanceKnown out.method_spec (instances_known o)) can.rows.instances;
    }

    pub methods_fit : Each MethodFits out.method_def
    methods_fit k row e = record {
      body = body_by row.body (parts.bodies k row e) (All-contains (λ (m : MethodDefRow). HasBody m.body) out.method_def row can.bodies (place_in out.method_def k row e));
      sound = sound row (place_in out.method_def k row e);
    }
