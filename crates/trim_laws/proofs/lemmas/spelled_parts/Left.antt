-- What is left of records that have spellings has them, where each token in its signatures is of a type.
use Rattle.std.proofs.Common.{◌≡◌, ℕ, suc, List, [], ◌∷◌, ◌++◌, map, Bool, Some, refl, sym, subst}
use Rattle.std.specs.Prelude.{All, slice_get}
use Rattle.std.specs.List.{flat_map, list_any}
use Rattle.std.proofs.lemmas.List.Elements.{All-nil, All-cons}
use Rattle.il_base.specs.declared.sig.Sig.{Sig}
use Rattle.il_base.specs.declared.sig.MethodSig.{MethodSig}
use Rattle.il_base.specs.blob_grammar.Signatures.{levels, IsType, IsMethod, IsProperty, IsField, AreLocals, IsInstance}
use Rattle.il_base.specs.declared.world_model.known.Known.{Known}
use Rattle.il_base.specs.declared.world_model.known.Known.TheVariants.{Good, Bad}
use Rattle.il_base.specs.declared.world_model.expr.TypeExpr.{TypeExpr, out-TypeExpr}
use Rattle.il_base.specs.declared.world_model.expr.TypeExpr.TheOpen.{TypeExpr-F}
use Rattle.il_base.specs.declared.world_model.expr.MemberSig.TheVariants as member
use Rattle.il_base.specs.declared.world_model.types.TypeSpecRow.{TypeSpecRow}
use Rattle.il_base.specs.declared.world_model.members.FieldRow.{FieldRow}
use Rattle.il_base.specs.declared.world_model.members.MethodDefRow.{MethodDefRow}
use Rattle.il_base.specs.declared.world_model.members.MemberRefRow.{MemberRefRow}
use Rattle.il_base.specs.declared.world_model.members.MethodSpecRow.{MethodSpecRow}
use Rattle.il_base.specs.declared.world_model.members.StandAloneSigRow.{StandAloneSigRow}
use Rattle.il_base.specs.declared.world_model.members.PropertyRow.{PropertyRow}
use Rattle.il_base.specs.declared.world_model.record.AsmRec.{AsmRec}
use Rattle.il_base.specs.world_model.Records.{Each}
use Rattle.il_base.specs.world_model.Worlds.{prim_type}
use Rattle.rules.specs.file_layout.Bodies.{rvas_behind}
use Rattle.rules.specs.declared.link_rules.row_at.RowAt.{RowAt}
use Rattle.rules.specs.link_rules.Cycles.{listed}
use Rattle.rules.specs.type_rules.Rows.{rec_at}
use Rattle.record_writer.specs.row_writer.CanWrite.{HasSpelling, HasMemberSpelling}
use Rattle.record_writer.specs.CanWrite.{HasBody, CanWrite}
use Rattle.rules.specs.merge_rules.Numbers.{Kept, kept_methods, kept_fields, kept_properties}
use Rattle.rules.specs.merge_rules.Keys.{TypeKey, named, spec, MethodKey, own_method, found_method, absent_method, FieldKey, own_field, found_field, InstanceKey, same_sig, same_sigs, same_instance, made_sig, expr_key_in, expr_key, world_sig, world_method_sig}
use Rattle.rules.specs.merge_rules.Order.{Met, met_type, met_sig, met_method, met_field, met_instance, met_locals}
use Rattle.rules.specs.merge_rules.Refs.{Output, met_once, all_once, each_once, known_list, own_method_sig, own_field_sig, method_at, field_at, spec_of_key, spec_of_method, spec_of_field, specs_of_met, type_specs, MemberKey, a_method, a_field, an_absent, same_member, member_of_method, member_of_field, members_of_met, member_refs, instances_of_met, method_specs, locals_of_met, locals_sigs, method_token, numbers_in, new_sig, new_method_sig, key_token, parent_token, method_name, field_name, type_spec_rows, member_ref_row, member_ref_rows, method_spec_rows, locals_rows}
use Rattle.rules.specs.merge_rules.Moved.{moved_sig, moved_method_sig, moved_field_row, moved_method_row, moved_property_row}
use Rattle.rules.specs.merge_rules.Restricted.{each_at, put_rva, with_rvas, bodies_of, placed_methods, moved_methods, restricted_by, output_of, restricted}
use Rattle.merge_laws.proofs.lemmas.merged_record.Lists.{first_in, later_in, place_in, map_some}
use Rattle.trim_laws.specs.spelled_parts.Laws.{AreTypeTokens, tokens_in, tokens_of_method, tokens_of_member, known_tokens, SignaturesName, LeftIsSpelled}
use Rattle.trim_laws.proofs.lemmas.spelled_parts.Lists.{Every, all_none, all_one, all_more, all_join, all_either, all_by, all_flat, all_option, all_map, all_listed}
use Rattle.trim_laws.proofs.lemmas.spelled_parts.Shapes.{Shape, RowShape, MethodShape, type_fits, row_fits, method_fits, property_fits}
use Rattle.trim_laws.proofs.lemmas.spelled_parts.Retokened.{world_shape, world_method_shape, new_shape, new_row_shape, new_method_shape}
use Rattle.trim_laws.proofs.lemmas.spelled_parts.Bodies.{has_body_stays}
use Rattle.trim_laws.proofs.lemmas.spelled_parts.Exprs.{made_shape}
use Rattle.trim_laws.proofs.lemmas.spelled_parts.Owners.{IsOwner}
use Rattle.trim_laws.proofs.lemmas.spelled_parts.Recs.{Values, IfGood, PropertyShape, shapes_of}
use Rattle.trim_laws.proofs.lemmas.spelled_parts.Mets.{KeyShape, MethodKeyShape, FieldKeyShape, InstanceShape, MetShape, HaveShapes, mets_shape}

-- ---- lists

all_of : {A : Type 0} (P : A → Type 0) (xs : List A) → Each P xs → All P xs
all_of P [] h = All-nil P
all_of P (x ∷ xs) h = All-cons P x xs (h 0 x refl) (all_of P xs (λ k y e. h (suc k) y e))

-- a table whose rows have a spelling where their tokens are of types
all_from : {A : Type 0} (T H : A → Type 0) (xs : List A) → Every (λ x. T x → H x) xs → Each T xs → All H xs
all_from T H xs h t = all_of H xs (λ k x e. h.each x (place_in xs k x e) (t k x e))

-- each once, as first met
module _ {A : Type 0} (P : A → Type 0) (same : A → A → Bool) where
  once_all : (xs ys : List A) → Every P xs → Every P ys → Every P (all_once same xs ys)
  once_all xs [] h k = h
  once_all xs (y ∷ ys) h k =
      once_all (met_once same xs y) ys (all_either P (list_any (same y) xs) xs (xs ++ y ∷ []) h (all_join P xs (y ∷ []) h (all_one P y (k.each y (first_in y ys)))))
      (record { each = λ z c. k.each z (later_in y ys z c) })

  pub each_all : (xs : List A) → Every P xs → Every P (each_once same xs)
  each_all xs h = once_all [] xs (all_none P) h

-- rows at places
places_all : {R B : Type 0} (P : B → Type 0) (recs : List AsmRec) (rows : AsmRec → List R) (f : RowAt → AsmRec → R → B) (places : List RowAt)
    → ((at : RowAt) (rec : AsmRec) (row : R) → slice_get recs at.asm ≡ Some rec → slice_get (rows rec) at.row ≡ Some row → P (f at rec row)) → Every P (each_at recs rows f places)
places_all P recs rows f places h =
    all_flat P (λ (at : RowAt). flat_map (λ (rec : AsmRec). map (f at rec) (listed (slice_get (rows rec) at.row))) (listed (rec_at recs at))) places
    (λ at c.
    all_option P (λ (rec : AsmRec). map (f at rec) (listed (slice_get (rows rec) at.row))) (rec_at recs at)
    (λ rec there. all_listed P (f at rec) (slice_get (rows rec) at.row) (λ row is. h at rec row there is)))

-- addresses are given to methods in order
pub rvas_all : (P : MethodDefRow → Type 0) → ((rva : ℕ) (m : MethodDefRow) → P m → P (put_rva rva m)) → (rvas : List ℕ) (ms : List MethodDefRow) → Every P ms → Every P (with_rvas rvas ms)
unfolding with_rvas
rvas_all P put [] ms h = all_none P
rvas_all P put (rva ∷ rvas) [] h = all_none P
rvas_all P put (rva ∷ rvas) (m ∷ ms) h =
    all_more P (put_rva rva m) (with_rvas rvas ms) (put rva m (h.each m (first_in m ms))) (rvas_all P put rvas ms (record { each = λ x c. h.each x (later_in m ms x c) }))

-- ---- owners

expr_shape : (recs : List AsmRec) (e : TypeExpr) (x : TypeExpr-F TypeExpr) (k : TypeKey) → IsOwner e → expr_key_in recs e x ≡ Some k → KeyShape k
expr_shape recs e (TypeExpr-F.Def t) k h g = let same : named t ≡ k = cc in subst KeyShape same tt
expr_shape recs e (TypeExpr-F.Prim n) k h g = let m = map_some named (prim_type recs n) k g in subst KeyShape m.2 tt
expr_shape recs e (TypeExpr-F.Inst t args) k h g = let same : spec (made_sig recs e) ≡ k = cc in subst KeyShape same (made_shape recs levels e h.fine h.low)
expr_shape recs e (TypeExpr-F.Array x) k h g = let same : spec (made_sig recs e) ≡ k = cc in subst KeyShape same (made_shape recs levels e h.fine h.low)
expr_shape recs e (TypeExpr-F.ByRef x) k h g = let same : spec (made_sig recs e) ≡ k = cc in subst KeyShape same (made_shape recs levels e h.fine h.low)
expr_shape recs e (TypeExpr-F.Var n) k h g = let same : spec (made_sig recs e) ≡ k = cc in subst KeyShape same (made_shape recs levels e h.fine h.low)
expr_shape recs e (TypeExpr-F.MVar n) k h g = let same : spec (made_sig recs e) ≡ k = cc in subst KeyShape same (made_shape recs levels e h.fine h.low)
expr_shape recs e (TypeExpr-F.Mod required by x) k h g = let same : spec (made_sig recs e) ≡ k = cc in subst KeyShape same (made_shape recs levels e h.fine h.low)

owner_shape : (recs : List AsmRec) (e : TypeExpr) (k : TypeKey) → IsOwner e → expr_key recs e ≡ Some k → KeyShape k
unfolding expr_key
owner_shape recs e k h g = expr_shape recs e (out-TypeExpr e) k h g

-- ---- what reference rows are made of

key_specs : (k : TypeKey) → KeyShape k → Every (Shape levels) (spec_of_key k)
key_specs (named t) h = all_none (Shape levels)
key_specs (spec s) h = all_one (Shape levels) s h

abbrev MemberKeyShape : MemberKey → Type 0
MemberKeyShape (a_method m e) = Unit {0}
MemberKeyShape (a_field f e) = Unit {0}
MemberKeyShape (an_absent p name s) = MethodShape s

method_members : (k : MethodKey) → MethodKeyShape k → Every MemberKeyShape (member_of_method k)
method_members (own_method m) h = all_none MemberKeyShape
method_members (found_method m e) h = all_one MemberKeyShape (a_method m e) tt
method_members (absent_method p name s) h = all_one MemberKeyShape (an_absent p name s) h.1

field_members : (k : FieldKey) → Every MemberKeyShape (member_of_field k)
field_members (own_field f) = all_none MemberKeyShape
field_members (found_field f e) = all_one MemberKeyShape (a_field f e) tt

met_members : (x : Met) → MetShape x → Every MemberKeyShape (members_of_met x)
met_members (met_type k) h = all_none MemberKeyShape
met_members (met_sig s) h = all_none MemberKeyShape
met_members (met_method k) h = method_members k h
met_members (met_field k) h = field_members k
met_members (met_instance i) h = method_members i.method h.0
met_members (met_locals ss) h = all_none MemberKeyShape

met_instances : (x : Met) → MetShape x → Every InstanceShape (instances_of_met x)
met_instances (met_type k) h = all_none InstanceShape
met_instances (met_sig s) h = all_none InstanceShape
met_instances (met_method k) h = all_none InstanceShape
met_instances (met_field k) h = all_none InstanceShape
met_instances (met_instance i) h = all_one InstanceShape i h
met_instances (met_locals ss) h = all_none InstanceShape

met_local_rows : (x : Met) → MetShape x → Every RowShape (locals_of_met x)
met_local_rows (met_type k) h = all_none RowShape
met_local_rows (met_sig s) h = all_none RowShape
met_local_rows (met_method k) h = all_none RowShape
met_local_rows (met_field k) h = all_none RowShape
met_local_rows (met_instance i) h = all_none RowShape
met_local_rows (met_locals ss) h = all_one RowShape ss h

module _ (recs : List AsmRec) where
  owner_specs : (e : TypeExpr) → IsOwner e → Every (Shape levels) (flat_map spec_of_key (listed (expr_key recs e)))
  owner_specs e h = all_option (Shape levels) spec_of_key (expr_key recs e) (λ k g. key_specs k (owner_shape recs e k h g))

  method_specs_shape : (k : MethodKey) → MethodKeyShape k → Every (Shape levels) (spec_of_method recs k)
  method_specs_shape (own_method m) h = all_none (Shape levels)
  method_specs_shape (found_method m e) h = owner_specs e h
  method_specs_shape (absent_method p name s) h = key_specs p h.0

  field_specs_shape : (k : FieldKey) → FieldKeyShape k → Every (Shape levels) (spec_of_field recs k)
  field_specs_shape (own_field f) h = all_none (Shape levels)
  field_specs_shape (found_field f e) h = owner_specs e h

  met_specs : (x : Met) → MetShape x → Every (Shape levels) (specs_of_met recs x)
  met_specs (met_type k) h = key_specs k h
  met_specs (met_sig s) h = all_none (Shape levels)
  met_specs (met_method k) h = method_specs_shape k h
  met_specs (met_field k) h = field_specs_shape k h
  met_specs (met_instance i) h = method_specs_shape i.method h.0
  met_specs (met_locals ss) h = all_none (Shape levels)

  module _ (mets : List Met) (h : Every MetShape mets) where
    specs_shape : Every (Shape levels) (type_specs recs mets)
    unfolding type_specs
    specs_shape = each_all (Shape levels) same_sig (flat_map (specs_of_met recs) mets) (all_flat (Shape levels) (specs_of_met recs) mets (λ x c. met_specs x (h.each x c)))

    members_shape : Every MemberKeyShape (member_refs mets)
    unfolding member_refs
    members_shape = each_all MemberKeyShape same_member (flat_map members_of_met mets) (all_flat MemberKeyShape members_of_met mets (λ x c. met_members x (h.each x c)))

    instances_shape : Every InstanceShape (method_specs mets)
    unfolding method_specs
    instances_shape = each_all InstanceShape same_instance (flat_map instances_of_met mets) (all_flat InstanceShape instances_of_met mets (λ x c. met_instances x (h.each x c)))

    locals_shape : Every RowShape (locals_sigs mets)
    unfolding locals_sigs
    locals_shape = each_all RowShape same_sigs (flat_map locals_of_met mets) (all_flat RowShape locals_of_met mets (λ x c. met_local_rows x (h.each x c)))

-- ---- the rows

module _ (v : Values) (o : Output) where
  -- signatures of kept rows
  moved_field : (a : ℕ) (rec : AsmRec) (k : Known Sig) → IfGood (Shape levels) k → AreTypeTokens (known_tokens numbers_in (moved_sig o a rec k)) → HasSpelling IsField (moved_sig o a rec k)
  moved_field a rec (Good s) h t =
      (v.fields (new_sig o (world_sig o.recs a rec s))).0 (type_fits levels (new_sig o (world_sig o.recs a rec s)) (new_shape o levels (world_sig o.recs a rec s) (world_shape o.recs a rec levels s h)) t)
  moved_field a rec (Bad why) h t = tt

  moved_method : (a : ℕ) (rec : AsmRec) (k : Known MethodSig) → IfGood MethodShape k → AreTypeTokens (known_tokens tokens_of_method (moved_method_sig o a rec k)) → HasSpelling IsMethod (moved_method_sig o a rec k)
  moved_method a rec (Good s) h t =
      (v.methods (new_method_sig o (world_method_sig o.recs a rec s))).0
      (method_fits (new_method_sig o (world_method_sig o.recs a rec s)) (new_method_shape o (world_method_sig o.recs a rec s) (world_method_shape o.recs a rec s h)) t)
  moved_method a rec (Bad why) h t = tt

  moved_property : (a : ℕ) (rec : AsmRec) (k : Known MethodSig) → IfGood PropertyShape k → AreTypeTokens (known_tokens tokens_of_method (moved_method_sig o a rec k)) → HasSpelling IsProperty (moved_method_sig o a rec k)
  moved_property a rec (Good s) h t =
      (v.properties (new_method_sig o (world_method_sig o.recs a rec s))).0
      (property_fits (new_method_sig o (world_method_sig o.recs a rec s)) h.plain (new_method_shape o (world_method_sig o.recs a rec s) (world_method_shape o.recs a rec s h.shape)) t)
  moved_property a rec (Bad why) h t = tt

  abbrev FieldSpelled : FieldRow → Type 0
  FieldSpelled row = AreTypeTokens (known_tokens numbers_in row.signature) → HasSpelling IsField row.signature

  abbrev MethodSpelled : MethodDefRow → Type 0
  MethodSpelled row = AreTypeTokens (known_tokens tokens_of_method row.signature) → HasSpelling IsMethod row.signature

  abbrev BodySpelled : MethodDefRow → Type 0
  BodySpelled row = HasBody row.body

  abbrev PropertySpelled : PropertyRow → Type 0
  PropertySpelled row = AreTypeTokens (known_tokens tokens_of_method row.signature) → HasSpelling IsProperty row.signature

  abbrev SpecSpelled : TypeSpecRow → Type 0
  SpecSpelled row = AreTypeTokens (known_tokens numbers_in row.signature) → HasSpelling (IsType levels) row.signature

  abbrev MemberSpelled : MemberRefRow → Type 0
  MemberSpelled row = AreTypeTokens (known_tokens tokens_of_member row.signature) → HasMemberSpelling row.signature

  abbrev InstanceSpelled : MethodSpecRow → Type 0
  InstanceSpelled row = AreTypeTokens (known_tokens tokens_in row.instantiation) → HasSpelling IsInstance row.instantiation

  abbrev LocalsSpelled : StandAloneSigRow → Type 0
  LocalsSpelled row = AreTypeTokens (known_tokens tokens_in row.signature) → HasSpelling AreLocals row.signature

  module _ (shapes : HaveShapes o.recs) where
    fields_spelled : (places : List RowAt) → Every FieldSpelled (each_at o.recs (λ rec. rec.field) (moved_field_row o) places)
    fields_spelled places = places_all FieldSpelled o.recs (λ rec. rec.field) (moved_field_row o) places (λ at rec row there is. moved_field at.asm rec row.signature ((shapes at.asm rec there).fields at.row row is))

    methods_spelled : Every MethodSpelled (placed_methods (moved_methods o))
    methods_spelled =
        rvas_all MethodSpelled (λ rva m h. h) (rvas_behind [] (bodies_of (moved_methods o))) (moved_methods o)
        (places_all MethodSpelled o.recs (λ rec. rec.method_def) (moved_method_row o) (kept_methods o.recs o.kept) (λ at rec row there is. moved_method at.asm rec row.signature ((shapes at.asm rec there).methods at.row row is)))

    bodies_spelled : Every BodySpelled (placed_methods (moved_methods o))
    bodies_spelled =
        rvas_all BodySpelled (λ rva m h. h) (rvas_behind [] (bodies_of (moved_methods o))) (moved_methods o)
        (places_all BodySpelled o.recs (λ rec. rec.method_def) (moved_method_row o) (kept_methods o.recs o.kept) (λ at rec row there is. has_body_stays o at.asm rec row.body ((shapes at.asm rec there).bodies at.row row is)))

    properties_spelled : (places : List RowAt) → Every PropertySpelled (each_at o.recs (λ rec. rec.property) (moved_property_row o) places)
    properties_spelled places =
        places_all PropertySpelled o.recs (λ rec. rec.property) (moved_property_row o) places (λ at rec row there is. moved_property at.asm rec row.signature ((shapes at.asm rec there).properties at.row row is))

    -- ---- signatures of members that are named

    own_methods : (at : RowAt) → Every MethodShape (own_method_sig o.recs at)
    own_methods at =
        all_option MethodShape (λ (rec : AsmRec). flat_map (λ (m : MethodDefRow). map (world_method_sig o.recs at.asm rec) (known_list m.signature)) (listed (slice_get rec.method_def at.row))) (rec_at o.recs at)
        (λ rec there.
        all_option MethodShape (λ (m : MethodDefRow). map (world_method_sig o.recs at.asm rec) (known_list m.signature)) (slice_get rec.method_def at.row)
        (λ m is. known_methods at.asm rec m.signature ((shapes at.asm rec there).methods at.row m is)))
      where
        known_methods : (a : ℕ) (rec : AsmRec) (k : Known MethodSig) → IfGood MethodShape k → Every MethodShape (map (world_method_sig o.recs a rec) (known_list k))
        known_methods a rec (Good s) h = all_one MethodShape (world_method_sig o.recs a rec s) (world_method_shape o.recs a rec s h)
        known_methods a rec (Bad why) h = all_none MethodShape

    own_fields : (at : RowAt) → Every (Shape levels) (own_field_sig o.recs at)
    own_fields at =
        all_option (Shape levels) (λ (rec : AsmRec). flat_map (λ (f : FieldRow). map (world_sig o.recs at.asm rec) (known_list f.signature)) (listed (slice_get rec.field at.row))) (rec_at o.recs at)
        (λ rec there.
        all_option (Shape levels) (λ (f : FieldRow). map (world_sig o.recs at.asm rec) (known_list f.signature)) (slice_get rec.field at.row)
        (λ f is. known_fields at.asm rec f.signature ((shapes at.asm rec there).fields at.row f is)))
      where
        known_fields : (a : ℕ) (rec : AsmRec) (k : Known Sig) → IfGood (Shape levels) k → Every (Shape levels) (map (world_sig o.recs a rec) (known_list k))
        known_fields a rec (Good s) h = all_one (Shape levels) (world_sig o.recs a rec s) (world_shape o.recs a rec levels s h)
        known_fields a rec (Bad why) h = all_none (Shape levels)

    method_ref : (s : MethodSig) → MethodShape s → AreTypeTokens (tokens_of_method (new_method_sig o s)) → HasMemberSpelling (Good (member.Method (new_method_sig o s)))
    method_ref s h t = (v.methods (new_method_sig o s)).0 (method_fits (new_method_sig o s) (new_method_shape o s h) t)

    field_ref : (s : Sig) → Shape levels s → AreTypeTokens (numbers_in (new_sig o s)) → HasMemberSpelling (Good (member.Field (new_sig o s)))
    field_ref s h t = (v.fields (new_sig o s)).0 (type_fits levels (new_sig o s) (new_shape o levels s h) t)

    member_row : (m : MemberKey) → MemberKeyShape m → Every MemberSpelled (member_ref_row o m)
    member_row (a_method m e) h =
        all_flat MemberSpelled (λ at. map (λ s. record { class = parent_token o e; name = method_name o.recs at; signature = Good (member.Method (new_method_sig o s)) }) (own_method_sig o.recs at)) (listed (method_at o.recs m))
        (λ at c.
        all_map MemberSpelled (λ s. record { class = parent_token o e; name = method_name o.recs at; signature = Good (member.Method (new_method_sig o s)) }) (own_method_sig o.recs at)
        (λ s d. method_ref s ((own_methods at).each s d)))
    member_row (a_field f e) h =
        all_flat MemberSpelled (λ at. map (λ s. record { class = parent_token o e; name = field_name o.recs at; signature = Good (member.Field (new_sig o s)) }) (own_field_sig o.recs at)) (listed (field_at o.recs f))
        (λ at c.
        all_map MemberSpelled (λ s. record { class = parent_token o e; name = field_name o.recs at; signature = Good (member.Field (new_sig o s)) }) (own_field_sig o.recs at)
        (λ s d. field_ref s ((own_fields at).each s d)))
    member_row (an_absent p name s) h = all_one MemberSpelled (record { class = key_token o p; name = name; signature = Good (member.Method (new_method_sig o s)) }) (method_ref s h)

    module _ (mets : Every MetShape o.mets) where
      specs_spelled : Every SpecSpelled (type_spec_rows o)
      unfolding type_spec_rows
      specs_spelled =
          all_map SpecSpelled (λ s. record { signature = Good (new_sig o s) }) (type_specs o.recs o.mets)
          (λ s c t. (v.types (new_sig o s)).0 (type_fits levels (new_sig o s) (new_shape o levels s ((specs_shape o.recs o.mets mets).each s c)) t))

      members_spelled : Every MemberSpelled (member_ref_rows o)
      unfolding member_ref_rows
      members_spelled = all_flat MemberSpelled (member_ref_row o) (member_refs o.mets) (λ m c. member_row m ((members_shape o.recs o.mets mets).each m c))

      instances_spelled : Every InstanceSpelled (method_spec_rows o)
      unfolding method_spec_rows
      instances_spelled =
          all_map InstanceSpelled (λ (i : InstanceKey). record { method = method_token o i.method; instantiation = Good (map (new_sig o) i.args) }) (method_specs o.mets)
          (λ i c t. (v.instances (map (new_sig o) i.args)).0 (row_fits (map (new_sig o) i.args) (new_row_shape o i.args ((instances_shape o.recs o.mets mets).each i c).1) t))

      locals_spelled : Every LocalsSpelled (locals_rows o)
      unfolding locals_rows
      locals_spelled =
          all_map LocalsSpelled (λ ss. record { signature = Good (map (new_sig o) ss) }) (locals_sigs o.mets)
          (λ ss c t. (v.locals (map (new_sig o) ss)).0 (row_fits (map (new_sig o) ss) (new_row_shape o ss ((locals_shape o.recs o.mets mets).each ss c)) t))

      -- ---- the record

      by_rows : (internal : Bool) (primary : AsmRec) → SignaturesName (restricted_by internal o (placed_methods (moved_methods o)) primary) → CanWrite (restricted_by internal o (placed_methods (moved_methods o)) primary)
      by_rows internal primary t =
          let left : AsmRec = restricted_by internal o (placed_methods (moved_methods o)) primary in
          record {
            rows = record {
              fields = all_from (λ (row : FieldRow). AreTypeTokens (known_tokens numbers_in row.signature)) (λ (row : FieldRow). HasSpelling IsField row.signature) left.field (fields_spelled (kept_fields o.recs o.kept)) t.fields;
              methods = all_from (λ (row : MethodDefRow). AreTypeTokens (known_tokens tokens_of_method row.signature)) (λ (row : MethodDefRow). HasSpelling IsMethod row.signature) left.method_def methods_spelled t.methods;
              members = all_from (λ (row : MemberRefRow). AreTypeTokens (known_tokens tokens_of_member row.signature)) (λ (row : MemberRefRow). HasMemberSpelling row.signature) left.member_ref members_spelled t.members;
              locals = all_from (λ (row : StandAloneSigRow). AreTypeTokens (known_tokens tokens_in row.signature)) (λ (row : StandAloneSigRow). HasSpelling AreLocals row.signature) left.stand_alone_sig locals_spelled t.locals;
              properties = all_from (λ (row : PropertyRow). AreTypeTokens (known_tokens tokens_of_method row.signature)) (λ (row : PropertyRow). HasSpelling IsProperty row.signature) left.property
                  (properties_spelled (kept_properties o.recs o.kept)) t.properties;
              types = all_from (λ (row : TypeSpecRow). AreTypeTokens (known_tokens numbers_in row.signature)) (λ (row : TypeSpecRow). HasSpelling (IsType levels) row.signature) left.type_spec specs_spelled t.types;
              instances = all_from (λ (row : MethodSpecRow). AreTypeTokens (known_tokens tokens_in row.instantiation)) (λ (row : MethodSpecRow). HasSpelling IsInstance row.instantiation) left.method_spec instances_spelled t.instances;
            };
            bodies = all_by BodySpelled left.method_def bodies_spelled;
          }

-- ---- the law

module _ (v : Values) where
  of_recs : (recs : List AsmRec) (kept : Kept) → HaveShapes recs → HaveShapes (output_of recs kept).recs
  unfolding output_of
  of_recs recs kept h = h

  pub left_spelled : LeftIsSpelled
  unfolding restricted
  left_spelled internal recs kept left is spelled few t =
      let o : Output = output_of recs kept in
      let shapes : HaveShapes recs = λ a rec there. shapes_of v rec (spelled a rec there) in
      let m = map_some (restricted_by internal o (placed_methods (moved_methods o))) (slice_get recs 0) left is in
      subst CanWrite m.2 (by_rows v o (of_recs recs kept shapes) (mets_shape recs shapes few kept) internal m.0 (subst SignaturesName (sym m.2) t))
