-- Each token in a signature of what is left is of a type, where numbers of types in what is met are those of types that have tokens.
use Rattle.std.proofs.Common.{◌≡◌, ℕ, List, [], ◌∷◌, ◌++◌, map, Bool, Some}
use Rattle.std.specs.Prelude.{slice_get}
use Rattle.std.specs.List.{Contains, flat_map}
use Rattle.std.proofs.lemmas.List.Elements.{Contains-append_left}
use Rattle.il_base.specs.declared.sig.Sig.{Sig}
use Rattle.il_base.specs.declared.sig.MethodSig.{MethodSig}
use Rattle.il_base.specs.blob_grammar.Values.{IsTypeToken}
use Rattle.il_base.specs.declared.world_model.known.Known.{Known}
use Rattle.il_base.specs.declared.world_model.known.Known.TheVariants.{Good, Bad}
use Rattle.il_base.specs.declared.world_model.expr.MemberSig.TheVariants as member
use Rattle.il_base.specs.declared.world_model.types.TypeSpecRow.{TypeSpecRow}
use Rattle.il_base.specs.declared.world_model.members.FieldRow.{FieldRow}
use Rattle.il_base.specs.declared.world_model.members.MethodDefRow.{MethodDefRow}
use Rattle.il_base.specs.declared.world_model.members.MemberRefRow.{MemberRefRow}
use Rattle.il_base.specs.declared.world_model.members.MethodSpecRow.{MethodSpecRow}
use Rattle.il_base.specs.declared.world_model.members.StandAloneSigRow.{StandAloneSigRow}
use Rattle.il_base.specs.declared.world_model.members.PropertyRow.{PropertyRow}
use Rattle.il_base.specs.declared.world_model.record.AsmRec.{AsmRec}
use Rattle.il_base.specs.world_model.Records.{Each}
use Rattle.rules.specs.file_layout.Bodies.{rvas_behind}
use Rattle.rules.specs.declared.link_rules.row_at.RowAt.{RowAt}
use Rattle.rules.specs.link_rules.Cycles.{listed}
use Rattle.rules.specs.link_rules.Members.{methods_in, fields_in}
use Rattle.rules.specs.type_rules.Rows.{rec_at}
use Rattle.base_laws.proofs.lemmas.known_laws.Lists.{none_in, first_in, to_flat, to_map, to_option, from_listed}
use Rattle.rules.specs.mark_rules.Bodies.{body_of}
use Rattle.rules.specs.mark_rules.Places.{method_item, field_item, prop_item, props_in}
use Rattle.rules.specs.merge_rules.Numbers.{Kept, kept_methods, kept_fields, kept_properties}
use Rattle.rules.specs.merge_rules.Keys.{TypeKey, named, spec, MethodKey, own_method, found_method, absent_method, FieldKey, own_field, found_field, InstanceKey, same_sig, same_sigs, same_instance, expr_key, world_sig, world_sigs, world_method_sig}
use Rattle.rules.specs.merge_rules.Order.{Met, met_type, met_sig, met_method, met_field, met_instance, met_locals, met_good_sig, met_method_sig, met_body}
use Rattle.rules.specs.merge_rules.Refs.{Output, each_once, own_method_sig, own_field_sig, method_at, field_at, spec_of_key, spec_of_method, spec_of_field, specs_of_met, type_specs, MemberKey, a_method, a_field, an_absent, same_member, member_of_method, member_of_field, members_of_met, member_refs, instances_of_met, method_specs, locals_of_met, locals_sigs, method_token, numbers_in, new_sig, new_method_sig, key_token, parent_token, method_name, field_name, type_spec_rows, member_ref_row, member_ref_rows, method_spec_rows, locals_rows}
use Rattle.rules.specs.merge_rules.Moved.{moved_sig, moved_method_sig, moved_field_row, moved_method_row, moved_property_row}
use Rattle.rules.specs.merge_rules.Restricted.{each_at, bodies_of, placed_methods, moved_methods, restricted_by, output_of}
use Rattle.merge_laws.specs.merged_record.Laws.{InputsAreRecords, OwnersAreKept}
use Rattle.merge_laws.proofs.lemmas.merged_record.Lists.{place_in}
use Rattle.merge_laws.proofs.lemmas.merged_record.Rows.{IsKept, from_kept}
use Rattle.merge_laws.proofs.lemmas.merged_owners.Every.{Every, all_none, all_one, all_more, all_join, all_flat, all_option, all_map}
use Rattle.trim_laws.specs.merged_scopes.Numbers.{numbers_of_sigs, numbers_of_method_sig, numbers_of_key, numbers_of_owner, numbers_of_method, numbers_of_field, numbers_of_met}
use Rattle.trim_laws.proofs.lemmas.kept_parts.Mets.{method_row_met, field_row_met, property_row_met}
use Rattle.trim_laws.specs.spelled_parts.Laws.{AreTypeTokens, tokens_in, tokens_of_method, tokens_of_member, known_tokens, SignaturesName}
use Rattle.trim_laws.proofs.lemmas.spelled_parts.Left.{each_all, rvas_all}
use Rattle.trim_laws.proofs.lemmas.spelled_parts.Lists as spelled
use Rattle.trim_laws.proofs.lemmas.spelled_trims.Numbers.{Numbered, left_of, right_of, sig_tokens, sigs_tokens}

-- ---- lists

each_of : {A : Type 0} (P : A → Type 0) (xs : List A) → Every P xs → Each P xs
each_of P xs h k x e = h.each x (place_in xs k x e)

type_tokens : (ns : List ℕ) → Every IsTypeToken ns → AreTypeTokens ns
type_tokens ns h n c = h.each n c

-- the records of two modules that say the same of each element
spelled_every : {A : Type 0} (P : A → Type 0) (xs : List A) → Every P xs → spelled.Every P xs
spelled_every P xs h = record { each = h.each }

own_every : {A : Type 0} (P : A → Type 0) (xs : List A) → spelled.Every P xs → Every P xs
own_every P xs h = record { each = h.each }

once : {A : Type 0} (P : A → Type 0) (same : A → A → Bool) (xs : List A) → Every P xs → Every P (each_once same xs)
once P same xs h = own_every P (each_once same xs) (each_all P same xs (spelled_every P xs h))

module _ (o : Output) where
  abbrev N : ℕ → Type 0
  N n = Numbered o n

  abbrev SigN : Sig → Type 0
  SigN s = Every N (numbers_in s)

  abbrev MethodN : MethodSig → Type 0
  MethodN s = Every N (numbers_of_method_sig s)

  abbrev RowN : List Sig → Type 0
  RowN ss = Every N (numbers_of_sigs ss)

  -- ---- what reference rows are made of

  key_specs : (k : TypeKey) → Every N (numbers_of_key k) → Every SigN (spec_of_key k)
  key_specs (named t) h = all_none SigN
  key_specs (spec s) h = all_one SigN s h

  flat_specs : (ks : List TypeKey) → Every N (flat_map numbers_of_key ks) → Every SigN (flat_map spec_of_key ks)
  flat_specs [] h = all_none SigN
  flat_specs (k ∷ ks) h =
      all_join SigN (spec_of_key k) (flat_map spec_of_key ks) (key_specs k (left_of N (numbers_of_key k) (flat_map numbers_of_key ks) h)) (flat_specs ks (right_of N (numbers_of_key k) (flat_map numbers_of_key ks) h))

  flat_methods : (ss : List MethodSig) → Every N (flat_map numbers_of_method_sig ss) → Every MethodN ss
  flat_methods [] h = all_none MethodN
  flat_methods (s ∷ ss) h =
      all_more MethodN s ss (left_of N (numbers_of_method_sig s) (flat_map numbers_of_method_sig ss) h) (flat_methods ss (right_of N (numbers_of_method_sig s) (flat_map numbers_of_method_sig ss) h))

  flat_fields : (ss : List Sig) → Every N (numbers_of_sigs ss) → Every SigN ss
  flat_fields [] h = all_none SigN
  flat_fields (s ∷ ss) h = all_more SigN s ss (left_of N (numbers_in s) (numbers_of_sigs ss) h) (flat_fields ss (right_of N (numbers_in s) (numbers_of_sigs ss) h))

  module _ (recs : List AsmRec) where
    abbrev MemberN : MemberKey → Type 0
    MemberN (a_method m e) = Every MethodN (flat_map (own_method_sig recs) (listed (method_at recs m)))
    MemberN (a_field f e) = Every SigN (flat_map (own_field_sig recs) (listed (field_at recs f)))
    MemberN (an_absent p name s) = MethodN s

    method_specs_n : (k : MethodKey) → Every N (numbers_of_method recs k) → Every SigN (spec_of_method recs k)
    method_specs_n (own_method m) h = all_none SigN
    method_specs_n (found_method m e) h =
        flat_specs (listed (expr_key recs e)) (left_of N (numbers_of_owner recs e) (flat_map numbers_of_method_sig (flat_map (own_method_sig recs) (listed (method_at recs m)))) h)
    method_specs_n (absent_method p name s) h = key_specs p (left_of N (numbers_of_key p) (numbers_of_method_sig s) h)

    field_specs_n : (k : FieldKey) → Every N (numbers_of_field recs k) → Every SigN (spec_of_field recs k)
    field_specs_n (own_field f) h = all_none SigN
    field_specs_n (found_field f e) h = flat_specs (listed (expr_key recs e)) (left_of N (numbers_of_owner recs e) (numbers_of_sigs (flat_map (own_field_sig recs) (listed (field_at recs f)))) h)

    met_specs : (x : Met) → Every N (numbers_of_met recs x) → Every SigN (specs_of_met recs x)
    met_specs (met_type k) h = key_specs k h
    met_specs (met_sig s) h = all_none SigN
    met_specs (met_method k) h = method_specs_n k h
    met_specs (met_field k) h = field_specs_n k h
    met_specs (met_instance i) h = method_specs_n i.method (left_of N (numbers_of_method recs i.method) (numbers_of_sigs i.args) h)
    met_specs (met_locals ss) h = all_none SigN

    method_members : (k : MethodKey) → Every N (numbers_of_method recs k) → Every MemberN (member_of_method k)
    method_members (own_method m) h = all_none MemberN
    method_members (found_method m e) h =
        let sigs : List MethodSig = flat_map (own_method_sig recs) (listed (method_at recs m)) in
        all_one MemberN (a_method m e) (flat_methods sigs (right_of N (numbers_of_owner recs e) (flat_map numbers_of_method_sig sigs) h))
    method_members (absent_method p name s) h = all_one MemberN (an_absent p name s) (right_of N (numbers_of_key p) (numbers_of_method_sig s) h)

    field_members : (k : FieldKey) → Every N (numbers_of_field recs k) → Every MemberN (member_of_field k)
    field_members (own_field f) h = all_none MemberN
    field_members (found_field f e) h =
        let sigs : List Sig = flat_map (own_field_sig recs) (listed (field_at recs f)) in
        all_one MemberN (a_field f e) (flat_fields sigs (right_of N (numbers_of_owner recs e) (numbers_of_sigs sigs) h))

    met_members : (x : Met) → Every N (numbers_of_met recs x) → Every MemberN (members_of_met x)
    met_members (met_type k) h = all_none MemberN
    met_members (met_sig s) h = all_none MemberN
    met_members (met_method k) h = method_members k h
    met_members (met_field k) h = field_members k h
    met_members (met_instance i) h = method_members i.method (left_of N (numbers_of_method recs i.method) (numbers_of_sigs i.args) h)
    met_members (met_locals ss) h = all_none MemberN

    abbrev ArgsN : InstanceKey → Type 0
    ArgsN i = RowN i.args

    met_instances : (x : Met) → Every N (numbers_of_met recs x) → Every ArgsN (instances_of_met x)
    met_instances (met_type k) h = all_none ArgsN
    met_instances (met_sig s) h = all_none ArgsN
    met_instances (met_method k) h = all_none ArgsN
    met_instances (met_field k) h = all_none ArgsN
    met_instances (met_instance i) h = all_one ArgsN i (right_of N (numbers_of_method recs i.method) (numbers_of_sigs i.args) h)
    met_instances (met_locals ss) h = all_none ArgsN

    met_local_rows : (x : Met) → Every N (numbers_of_met recs x) → Every RowN (locals_of_met x)
    met_local_rows (met_type k) h = all_none RowN
    met_local_rows (met_sig s) h = all_none RowN
    met_local_rows (met_method k) h = all_none RowN
    met_local_rows (met_field k) h = all_none RowN
    met_local_rows (met_instance i) h = all_none RowN
    met_local_rows (met_locals ss) h = all_one RowN ss h

    module _ (mets : List Met) (h : (x : Met) → Contains mets x → Every N (numbers_of_met recs x)) where
      specs_n : Every SigN (type_specs recs mets)
      unfolding type_specs
      specs_n = once SigN same_sig (flat_map (specs_of_met recs) mets) (all_flat SigN (specs_of_met recs) mets (λ x c. met_specs x (h x c)))

      members_n : Every MemberN (member_refs mets)
      unfolding member_refs
      members_n = once MemberN same_member (flat_map members_of_met mets) (all_flat MemberN members_of_met mets (λ x c. met_members x (h x c)))

      instances_n : Every ArgsN (method_specs mets)
      unfolding method_specs
      instances_n = once ArgsN same_instance (flat_map instances_of_met mets) (all_flat ArgsN instances_of_met mets (λ x c. met_instances x (h x c)))

      locals_n : Every RowN (locals_sigs mets)
      unfolding locals_sigs
      locals_n = once RowN same_sigs (flat_map locals_of_met mets) (all_flat RowN locals_of_met mets (λ x c. met_local_rows x (h x c)))

  -- ---- tokens of signatures that are written

  field_tokens : (s : Sig) → SigN s → AreTypeTokens (numbers_in (new_sig o s))
  field_tokens s h = type_tokens (numbers_in (new_sig o s)) (sig_tokens o s h)

  method_tokens : (s : MethodSig) → MethodN s → AreTypeTokens (tokens_of_method (new_method_sig o s))
  method_tokens s h = type_tokens (tokens_of_method (new_method_sig o s)) (sigs_tokens o (s.ret ∷ s.params) h)

  row_tokens : (ss : List Sig) → RowN ss → AreTypeTokens (tokens_in (map (new_sig o) ss))
  row_tokens ss h = type_tokens (tokens_in (map (new_sig o) ss)) (sigs_tokens o ss h)

  -- ---- reference rows

  abbrev SpecNamed : TypeSpecRow → Type 0
  SpecNamed row = AreTypeTokens (known_tokens numbers_in row.signature)

  abbrev MemberNamed : MemberRefRow → Type 0
  MemberNamed row = AreTypeTokens (known_tokens tokens_of_member row.signature)

  abbrev InstanceNamed : MethodSpecRow → Type 0
  InstanceNamed row = AreTypeTokens (known_tokens tokens_in row.instantiation)

  abbrev LocalsNamed : StandAloneSigRow → Type 0
  LocalsNamed row = AreTypeTokens (known_tokens tokens_in row.signature)

  abbrev FieldNamed : FieldRow → Type 0
  FieldNamed row = AreTypeTokens (known_tokens numbers_in row.signature)

  abbrev MethodNamed : MethodDefRow → Type 0
  MethodNamed row = AreTypeTokens (known_tokens tokens_of_method row.signature)

  abbrev PropertyNamed : PropertyRow → Type 0
  PropertyNamed row = AreTypeTokens (known_tokens tokens_of_method row.signature)

  -- what two lists have one of, of the first
  in_flat : {A B : Type 0} (P : B → Type 0) (g : A → List B) (xs : List A) → Every P (flat_map g xs) → (x : A) → Contains xs x → Every P (g x)
  in_flat P g xs h x c = record { each = λ y d. h.each y (to_flat g xs y (record { item = x; there = c; inside = d })) }

  member_row : (m : MemberKey) → MemberN o.recs m → Every MemberNamed (member_ref_row o m)
  member_row (a_method m e) h =
      all_flat MemberNamed (λ at. map (λ s. record { class = parent_token o e; name = method_name o.recs at; signature = Good (member.Method (new_method_sig o s)) }) (own_method_sig o.recs at)) (listed (method_at o.recs m))
      (λ at c.
      all_map MemberNamed (λ s. record { class = parent_token o e; name = method_name o.recs at; signature = Good (member.Method (new_method_sig o s)) }) (own_method_sig o.recs at)
      (λ s d. method_tokens s ((in_flat MethodN (own_method_sig o.recs) (listed (method_at o.recs m)) h at c).each s d)))
  member_row (a_field f e) h =
      all_flat MemberNamed (λ at. map (λ s. record { class = parent_token o e; name = field_name o.recs at; signature = Good (member.Field (new_sig o s)) }) (own_field_sig o.recs at)) (listed (field_at o.recs f))
      (λ at c.
      all_map MemberNamed (λ s. record { class = parent_token o e; name = field_name o.recs at; signature = Good (member.Field (new_sig o s)) }) (own_field_sig o.recs at)
      (λ s d. field_tokens s ((in_flat SigN (own_field_sig o.recs) (listed (field_at o.recs f)) h at c).each s d)))
  member_row (an_absent p name s) h = all_one MemberNamed (record { class = key_token o p; name = name; signature = Good (member.Method (new_method_sig o s)) }) (method_tokens s h)

  module _ (mets : (x : Met) → Contains o.mets x → Every N (numbers_of_met o.recs x)) where
    specs_named : Every SpecNamed (type_spec_rows o)
    unfolding type_spec_rows
    specs_named = all_map SpecNamed (λ s. record { signature = Good (new_sig o s) }) (type_specs o.recs o.mets) (λ s c. field_tokens s ((specs_n o.recs o.mets mets).each s c))

    members_named : Every MemberNamed (member_ref_rows o)
    unfolding member_ref_rows
    members_named = all_flat MemberNamed (member_ref_row o) (member_refs o.mets) (λ m c. member_row m ((members_n o.recs o.mets mets).each m c))

    instances_named : Every InstanceNamed (method_spec_rows o)
    unfolding method_spec_rows
    instances_named =
        all_map InstanceNamed (λ (i : InstanceKey). record { method = method_token o i.method; instantiation = Good (map (new_sig o) i.args) }) (method_specs o.mets) (λ i c. row_tokens i.args ((instances_n o.recs o.mets mets).each i c))

    locals_named : Every LocalsNamed (locals_rows o)
    unfolding locals_rows
    locals_named = all_map LocalsNamed (λ ss. record { signature = Good (map (new_sig o) ss) }) (locals_sigs o.mets) (λ ss c. row_tokens ss ((locals_n o.recs o.mets mets).each ss c))

-- ---- signatures of kept rows

-- rows at kept places
kept_all : {R B : Type 0} (P : B → Type 0) (recs : List AsmRec) (rows : AsmRec → List R) (f : RowAt → AsmRec → R → B) (places : List RowAt)
    → ((at : RowAt) (rec : AsmRec) (row : R) → Contains places at → slice_get recs at.asm ≡ Some rec → slice_get (rows rec) at.row ≡ Some row → P (f at rec row)) → Every P (each_at recs rows f places)
kept_all P recs rows f places h =
    all_flat P (λ (at : RowAt). flat_map (λ (rec : AsmRec). map (f at rec) (listed (slice_get (rows rec) at.row))) (listed (rec_at recs at))) places
    (λ at c.
    all_option P (λ (rec : AsmRec). map (f at rec) (listed (slice_get (rows rec) at.row))) (rec_at recs at)
    (λ rec there. all_map P (f at rec) (listed (slice_get (rows rec) at.row)) (λ row d. h at rec row c there (from_listed (slice_get (rows rec) at.row) row d))))

module _ (recs : List AsmRec) (kept : Kept) (records : InputsAreRecords recs) (owners : OwnersAreKept recs kept) (mets : (x : Met) → Contains (output_of recs kept).mets x → Every (Numbered (output_of recs kept)) (numbers_of_met recs x)) where
  abbrev out : Output
  out = output_of recs kept

  abbrev Q : ℕ → Type 0
  Q n = Numbered out n

  field_kept : (at : RowAt) → Contains (kept_fields recs kept) at → IsKept fields_in (field_item recs) recs kept at
  unfolding kept_fields
  field_kept at c = from_kept fields_in (field_item recs) recs kept at c

  method_kept : (at : RowAt) → Contains (kept_methods recs kept) at → IsKept methods_in (method_item recs) recs kept at
  unfolding kept_methods
  method_kept at c = from_kept methods_in (method_item recs) recs kept at c

  property_kept : (at : RowAt) → Contains (kept_properties recs kept) at → IsKept props_in (prop_item recs) recs kept at
  unfolding kept_properties
  property_kept at c = from_kept props_in (prop_item recs) recs kept at c

  -- a signature that a kept row has is met
  field_named : (at : RowAt) (rec : AsmRec) (k : Known Sig) → ((x : Met) → Contains (met_good_sig recs at.asm rec k) x → Contains out.mets x) → AreTypeTokens (known_tokens numbers_in (moved_sig out at.asm rec k))
  unfolding output_of
  field_named at rec (Good s) met =
      let x : Sig = world_sig recs at.asm rec s in
      field_tokens out x (mets (met_sig x) (met (met_sig x) (first_in (met_sig x) [])))
  field_named at rec (Bad why) met = λ n c. absurd (none_in n c)

  method_named : (at : RowAt) (rec : AsmRec) (k : Known MethodSig) → ((x : Met) → Contains (met_method_sig recs at.asm rec k) x → Contains out.mets x) → AreTypeTokens (known_tokens tokens_of_method (moved_method_sig out at.asm rec k))
  unfolding output_of
  method_named at rec (Good s) met =
      let x : MethodSig = world_method_sig recs at.asm rec s in
      let ss : List Sig = world_sigs recs at.asm rec (s.ret ∷ s.params) in
      method_tokens out x (sigs_met ss (λ y c. mets (met_sig y) (met (met_sig y) (Contains-append_left (map met_sig ss) [] (met_sig y) (to_map met_sig ss y c)))))
    where
      sigs_met : (ss : List Sig) → ((y : Sig) → Contains ss y → Every Q (numbers_in y)) → Every Q (numbers_of_sigs ss)
      sigs_met ss h = all_flat Q numbers_in ss h
  method_named at rec (Bad why) met = λ n c. absurd (none_in n c)

  fields_named : Every (FieldNamed out) (each_at recs (λ rec. rec.field) (moved_field_row out) (kept_fields recs kept))
  fields_named =
      kept_all (FieldNamed out) recs (λ rec. rec.field) (moved_field_row out) (kept_fields recs kept)
      (λ at rec row c there is.
      let k = field_kept at c in
      field_named at rec row.signature
      (λ x d.
      field_row_met recs kept records owners at k.rec k.input k.below k.passes x
      (to_option (λ (r : AsmRec). flat_map (λ (f : FieldRow). met_good_sig recs at.asm r f.signature) (listed (slice_get r.field at.row))) (rec_at recs at) rec x there
      (to_option (λ (f : FieldRow). met_good_sig recs at.asm rec f.signature) (slice_get rec.field at.row) row x is d))))

  methods_named : Every (MethodNamed out) (placed_methods (moved_methods out))
  unfolding output_of
  methods_named =
      own_every (MethodNamed out) (placed_methods (moved_methods out))
      (rvas_all (MethodNamed out) (λ rva m h. h) (rvas_behind [] (bodies_of (moved_methods out))) (moved_methods out)
      (spelled_every (MethodNamed out) (moved_methods out)
      (kept_all (MethodNamed out) recs (λ rec. rec.method_def) (moved_method_row out) (kept_methods recs kept)
      (λ at rec row c there is.
      let k = method_kept at c in
      method_named at rec row.signature
      (λ x d.
      method_row_met recs kept records owners at k.rec k.input k.below k.passes x
      (to_option (λ (r : AsmRec). flat_map (λ (m : MethodDefRow). met_method_sig recs at.asm r m.signature ++ flat_map (met_body recs at.asm r) (body_of m)) (listed (slice_get r.method_def at.row))) (rec_at recs at) rec x there
      (to_option (λ (m : MethodDefRow). met_method_sig recs at.asm rec m.signature ++ flat_map (met_body recs at.asm rec) (body_of m)) (slice_get rec.method_def at.row) row x is
      (Contains-append_left (met_method_sig recs at.asm rec row.signature) (flat_map (met_body recs at.asm rec) (body_of row)) x d))))))))

  properties_named : Every (PropertyNamed out) (each_at recs (λ rec. rec.property) (moved_property_row out) (kept_properties recs kept))
  properties_named =
      kept_all (PropertyNamed out) recs (λ rec. rec.property) (moved_property_row out) (kept_properties recs kept)
      (λ at rec row c there is.
      let k = property_kept at c in
      method_named at rec row.signature
      (λ x d.
      property_row_met recs kept records owners at k.rec k.input k.below k.passes x
      (to_option (λ (r : AsmRec). flat_map (λ (p : PropertyRow). met_method_sig recs at.asm r p.signature) (listed (slice_get r.property at.row))) (rec_at recs at) rec x there
      (to_option (λ (p : PropertyRow). met_method_sig recs at.asm rec p.signature) (slice_get rec.property at.row) row x is d))))

  pub all_named : (internal : Bool) (primary : AsmRec) → SignaturesName (restricted_by internal out (placed_methods (moved_methods out)) primary)
  unfolding output_of
  all_named internal primary =
      let left : AsmRec = restricted_by internal out (placed_methods (moved_methods out)) primary in
      record {
        fields = each_of (FieldNamed out) left.field fields_named;
        methods = each_of (MethodNamed out) left.method_def methods_named;
        members = each_of (MemberNamed out) left.member_ref (members_named out mets);
        locals = each_of (LocalsNamed out) left.stand_alone_sig (locals_named out mets);
        properties = each_of (PropertyNamed out) left.property properties_named;
        types = each_of (SpecNamed out) left.type_spec (specs_named out mets);
        instances = each_of (InstanceNamed out) left.method_spec (instances_named out mets);
      }
