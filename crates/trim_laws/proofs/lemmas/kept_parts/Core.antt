-- No part of an item of the core library names a type that only modifiers use (II.7.1.1).
use Rattle.std.proofs.Common.{◌≡◌, ◌<◌, ℕ, zero, suc, Bool, true, false, List, [], ◌∷◌, ◌++◌, length, map, not, Option, Some, None, refl, sym, ap, subst, ◌∙◌, inl, inr}
use Rattle.std.specs.Prelude.{slice_get, ◌==◌, ◌||◌, if◌then◌else◌}
use Rattle.std.specs.List.{Contains, flat_map}
use Rattle.std.specs.Option.{option_and_then}
use Rattle.std.proofs.lemmas.Bool.{and_parts, eqb-true}
use Rattle.il_base.specs.declared.ids.TypeId.{TypeId}
use Rattle.il_base.specs.declared.ids.Item.{Item}
use Rattle.il_base.specs.declared.ids.Item.TheVariants as item
use Rattle.il_base.specs.declared.sig.Sig.{Sig, fold-roll-Sig, roll-Sig}
use Rattle.il_base.specs.declared.sig.Sig.TheFolds.{map-Sig}
use Rattle.il_base.specs.declared.sig.Sig.TheOpen.{Sig-F}
use Rattle.il_base.specs.declared.sig.Sig.TheVariants as sig
use Rattle.il_base.specs.declared.sig.MethodSig.{MethodSig}
use Rattle.il_base.specs.declared.body.Body.{Body}
use Rattle.il_base.specs.declared.table.TheConstants as table
use Rattle.il_base.specs.declared.world_model.known.Known.{Known}
use Rattle.il_base.specs.declared.world_model.known.Known.TheVariants.{Good, Bad}
use Rattle.il_base.specs.declared.world_model.known.BadKind.{BadKind}
use Rattle.il_base.specs.declared.world_model.expr.TypeExpr.{TypeExpr}
use Rattle.il_base.specs.declared.world_model.types.TypeDefRow.{TypeDefRow}
use Rattle.il_base.specs.declared.world_model.types.GenericParamRow.{GenericParamRow}
use Rattle.il_base.specs.declared.world_model.types.InterfaceImplRow.{InterfaceImplRow}
use Rattle.il_base.specs.declared.world_model.members.FieldRow.{FieldRow}
use Rattle.il_base.specs.declared.world_model.members.MethodDefRow.{MethodDefRow}
use Rattle.il_base.specs.declared.world_model.members.PropertyRow.{PropertyRow}
use Rattle.il_base.specs.declared.world_model.members.EventRow.{EventRow}
use Rattle.il_base.specs.declared.world_model.record.AsmRec.{AsmRec}
use Rattle.il_base.specs.world_model.Tokens.{token_of, table_of, index_in}
use Rattle.il_base.specs.world_model.Worlds.{known_map, known_then, sig_expr}
use Rattle.il_base.specs.declared.core_table.shape.CoreMethod.{CoreMethod}
use Rattle.il_base.specs.declared.core_table.shape.CoreField.{CoreField}
use Rattle.il_base.specs.declared.core_table.shape.CoreParams.{CoreParams}
use Rattle.il_base.specs.declared.core_table.shape.CoreParams.TheVariants.{Zero, One, Two, Three, Four}
use Rattle.il_base.specs.declared.core_table.shape.CoreSig.{CoreSig}
use Rattle.il_base.specs.declared.core_table.shape.CoreSig.TheVariants as core
use Rattle.il_base.specs.core_table.Record.{sig_of, params_of, signature_of, field_row, method_row, record_with, core_record}
use Rattle.rules.specs.declared.link_rules.core_type_name.CoreTypeName.{CoreTypeName}
use Rattle.rules.specs.declared.link_rules.row_at.RowAt.{RowAt}
use Rattle.rules.specs.declared.link_rules.member_type.MethodType.{MethodType}
use Rattle.rules.specs.link_rules.CoreNames.{modifiers_layer, modifiers, missing_names, core_with}
use Rattle.rules.specs.link_rules.Cycles.{listed}
use Rattle.rules.specs.link_rules.Linked.{assemblies}
use Rattle.rules.specs.link_rules.Signatures.{names_at, named_type, spec_type_at, token_type, method_type}
use Rattle.base_laws.proofs.lemmas.type_laws.Within.{In}
use Rattle.rules.specs.type_rules.Rows.{rec_at, each_row}
use Rattle.base_laws.proofs.lemmas.known_laws.Lists.{none_in, from_flat, from_map, one_is, head_or}
use Rattle.rules.specs.mark_rules.Facts.{Fact}
use Rattle.rules.specs.mark_rules.Facts.Fact.{marked}
use Rattle.rules.specs.mark_rules.Places.{row_of}
use Rattle.rules.specs.mark_rules.Naming as naming
use Rattle.rules.specs.mark_rules.Naming.{Part, bad_part, good_part, type_parts, of_expr, of_named, of_known, of_parts, parts_of, sig_parts, method_type_parts, method_sig_parts, type_token_part}
use Rattle.rules.specs.mark_rules.Naming.Named.{type}
use Rattle.rules.specs.mark_rules.Types.{constraints_of_param, constraints_of, extends_of, parts_of_type, parts_of_field, parts_of_impl}
use Rattle.rules.specs.mark_rules.Bodies.{body_of, is_read, body_parts}
use Rattle.rules.specs.mark_rules.Calls.{row_parts, parts_of_method}
use Rattle.rules.specs.mark_rules.Properties.{parts_of_property, parts_of_event}
use Rattle.rules.specs.mark_rules.Shown.{parts_of_item}
use Rattle.run_laws.specs.marked_laws.Flags.{is_added}
use Rattle.rules.specs.merge_rules.Keys.{class_number, world_layer, world_sig}
use Rattle.rules.specs.merge_rules.Refs.{numbers_in}
use Rattle.merge_laws.proofs.lemmas.merged_owners.Every.{Every, all_none, all_one, all_join, all_either, all_option, all_map}
use Rattle.merge_laws.proofs.lemmas.merged_references.Lists.{contained, contains}
use Rattle.merge_laws.proofs.lemmas.merged_signatures.Reading.{good_map, good_then}
use Rattle.trim_laws.proofs.lemmas.added_names.Modifiers.{is_listed, IsFine}
use Rattle.trim_laws.proofs.lemmas.added_names.Listed.{is_low_token, low_names, class_listed}
use Rattle.trim_laws.proofs.lemmas.added_names.Owners.{core_here}
use Rattle.trim_laws.proofs.lemmas.added_names.Core.{has_low_base, base_low, LowMethod, method_low, method_fine, LowField, field_low, field_fine}
use Rattle.rules.specs.merged_world_rules.Merge.{Merge, before}
use Rattle.trim_laws.specs.kept_parts.Laws.{CoreStaysPlain}
use Rattle.trim_laws.proofs.lemmas.kept_parts.Named.{reads_all, named_has, method_part}

none_of : {A : Type 0} (xs : List A) (k : ℕ) (x : A) → xs ≡ [] → slice_get xs k ≡ Some x → ⊥
none_of [] k x e f = absurd (cc)
none_of (y ∷ xs) k x e f = absurd (cc)

not_true : (b : Bool) → not b ≡ true → b ≡ false
not_true true h = absurd (cc)
not_true false h = refl

module _ (names : List CoreTypeName) where
  abbrev whole : AsmRec
  whole = core_with core_record names

  no_params : whole.generic_param ≡ []
  unfolding core_with core_record record_with
  no_params = refl

  no_properties : whole.property ≡ []
  unfolding core_with core_record record_with
  no_properties = refl

  no_events : whole.event ≡ []
  unfolding core_with core_record record_with
  no_events = refl

  no_impls : whole.interface_impl ≡ []
  unfolding core_with core_record record_with
  no_impls = refl

module _ (inputs : List AsmRec) where
  abbrev recs : List AsmRec
  recs = assemblies inputs

  abbrev added : List CoreTypeName
  added = missing_names (inputs ++ core_record ∷ [])

  abbrev Fine : Part → Type 0
  Fine p = (f : Fact) → Contains (of_known of_named p.named) f → is_added recs f ≡ false

  abbrev All : List Part → Type 0
  All ps = Every Fine ps

  expr_fine : (e : TypeExpr) → ((t : TypeId) → Contains (naming.types_in e) t → is_listed recs (suc t.0) ≡ true) → (f : Fact) → Contains (of_expr e) f → is_added recs f ≡ false
  expr_fine e h f c =
      let m = from_map (λ (u : TypeId). marked (item.Typ u)) (naming.types_in e) f c in
      subst (λ (x : Fact). is_added recs x ≡ false) m.2 (not_true (is_added recs (marked (item.Typ m.0))) (h m.0 m.1))

  module _ (a : ℕ) (rec : AsmRec) (there : slice_get recs a ≡ Some rec) (last : suc a ≡ length recs) where
    is : rec ≡ core_with core_record added
    is = core_here inputs a rec there last

    -- ---- signatures

    world_is : (x : Sig-F Sig) (s : Sig) → roll-Sig x ≡ s → world_sig recs a rec s ≡ world_layer recs a rec (map-Sig Sig Sig (world_sig recs a rec) x)
    unfolding world_sig
    world_is x s e = ap (world_sig recs a rec) (sym e) ∙ fold-roll-Sig Sig (world_layer recs a rec) x

    modifiers_are : (x : Sig-F Sig) (s : Sig) → roll-Sig x ≡ s → modifiers s ≡ modifiers_layer (map-Sig Sig (List ℕ) modifiers x)
    unfolding modifiers
    modifiers_are x s e = ap modifiers (sym e) ∙ fold-roll-Sig (List ℕ) modifiers_layer x

    named_plain : (v : Bool) (token : ℕ) → modifiers (world_sig recs a rec (sig.Named v token)) ≡ []
    named_plain v token =
        let k : ℕ = class_number recs a rec token in
        ap modifiers (world_is (Sig-F.Named v token) (sig.Named v token) (sig.rolls-Named v token)) ∙ modifiers_are (Sig-F.Named v k) (sig.Named v k) (sig.rolls-Named v k)

    prim_plain : (n : ℕ) → modifiers (world_sig recs a rec (sig.Prim n)) ≡ []
    prim_plain n = ap modifiers (world_is (Sig-F.Prim n) (sig.Prim n) (sig.rolls-Prim n)) ∙ modifiers_are (Sig-F.Prim n) (sig.Prim n) (sig.rolls-Prim n)

    mvar_plain : (n : ℕ) → modifiers (world_sig recs a rec (sig.MVar n)) ≡ []
    mvar_plain n = ap modifiers (world_is (Sig-F.MVar n) (sig.MVar n) (sig.rolls-MVar n)) ∙ modifiers_are (Sig-F.MVar n) (sig.MVar n) (sig.rolls-MVar n)

    array_plain : (s : Sig) → modifiers (world_sig recs a rec s) ≡ [] → modifiers (world_sig recs a rec (sig.Array s)) ≡ []
    array_plain s plain =
        let w : Sig = world_sig recs a rec s in
        ap modifiers (world_is (Sig-F.Array s) (sig.Array s) (sig.rolls-Array s)) ∙ modifiers_are (Sig-F.Array w) (sig.Array w) (sig.rolls-Array w) ∙ plain

    plain_sig : (c : CoreSig) → modifiers (world_sig recs a rec (sig_of c)) ≡ []
    plain_sig (core.Prim n) = prim_plain n
    plain_sig (core.Class token) = named_plain false token
    plain_sig (core.Value token) = named_plain true token
    plain_sig (core.Prims n) = array_plain (sig.Prim n) (prim_plain n)
    plain_sig (core.Classes token) = array_plain (sig.Named false token) (named_plain false token)
    plain_sig (core.MVar n) = mvar_plain n

    sig_listed : (s : Sig) (e : TypeExpr) (t : TypeId) → IsFine recs (world_sig recs a rec s) → modifiers (world_sig recs a rec s) ≡ [] → sig_expr (names_at recs a rec) s ≡ Good e → Contains (naming.types_in e) t
        → is_listed recs (suc t.0) ≡ true
    sig_listed s e t fine none h c =
        elim (fine.each (suc t.0) (contained (numbers_in (world_sig recs a rec s)) (suc t.0) (reads_all recs a rec s e h t c))) [
          | inl l ↦ l
          | inr i ↦ absurd (subst (λ (ms : List ℕ). In (suc t.0) ms) none i)
        ]

    -- each is one of the table's
    abbrev IsCoreSig : Sig → Type 0
    IsCoreSig s = (c : CoreSig) × (sig_of c ≡ s)

    params_core : (ps : CoreParams) (s : Sig) → Contains (params_of ps) s → IsCoreSig s
    unfolding params_of
    params_core Zero s c = absurd (none_in s c)
    params_core (One x) s c = (x, one_is (sig_of x) s c)
    params_core (Two x y) s c = elim (head_or (sig_of x) (sig_of y ∷ []) s c) [ inl e ↦ (x, e) | inr d ↦ (y, one_is (sig_of y) s d) ]
    params_core (Three x y z) s c =
        elim (head_or (sig_of x) (sig_of y ∷ sig_of z ∷ []) s c) [
          | inl e ↦ (x, e)
          | inr d ↦ elim (head_or (sig_of y) (sig_of z ∷ []) s d) [ inl e ↦ (y, e) | inr g ↦ (z, one_is (sig_of z) s g) ]
        ]
    params_core (Four x y z w) s c =
        elim (head_or (sig_of x) (sig_of y ∷ sig_of z ∷ sig_of w ∷ []) s c) [
          | inl e ↦ (x, e)
          | inr d ↦ elim (head_or (sig_of y) (sig_of z ∷ sig_of w ∷ []) s d) [
            | inl e ↦ (y, e)
            | inr g ↦ elim (head_or (sig_of z) (sig_of w ∷ []) s g) [ inl e ↦ (z, e) | inr h ↦ (w, one_is (sig_of w) s h) ]
          ]
        ]

    method_core : (m : CoreMethod) (s : Sig) → Contains ((signature_of m).ret ∷ (signature_of m).params) s → IsCoreSig s
    unfolding signature_of
    method_core m s c = elim (head_or (sig_of m.ret) (params_of m.params) s c) [ inl e ↦ (m.ret, e) | inr d ↦ params_core m.params s d ]

    core_plain : (s : Sig) → IsCoreSig s → modifiers (world_sig recs a rec s) ≡ []
    core_plain s h = subst (λ (x : Sig). modifiers (world_sig recs a rec x) ≡ []) h.1 (plain_sig h.0)

    -- ---- methods and fields

    bad_fine : (place : ℕ) (why : BadKind) → Fine (bad_part place why)
    bad_fine place why f c = absurd (none_in f c)

    one_good : {A : Type 0} (x y : A) (k : Known A) → k ≡ Good x → k ≡ Good y → x ≡ y
    one_good x y k e f = let g : Good x ≡ Good y = sym e ∙ f in cc

    row_sig : (m : CoreMethod) → (method_row m).signature ≡ Good (signature_of m)
    unfolding method_row
    row_sig m = refl

    row_body : (m : CoreMethod) → body_of (method_row m) ≡ []
    unfolding method_row
    row_body m = refl

    field_sig : (x : CoreField) → (field_row x).signature ≡ Good (sig_of x.signature)
    unfolding field_row
    field_sig x = refl

    method_by : (place : ℕ) (row : MethodDefRow) (low : LowMethod added row) (k : Known MethodType) → known_then (method_type (names_at recs a rec)) row.signature ≡ k → All (parts_of place (method_type_parts place) k)
    method_by place row low (Bad why) h = all_one Fine (bad_part place why) (bad_fine place why)
    method_by place row low (Good t) h =
        let m : CoreMethod = low.method in
        let g = good_then (method_type (names_at recs a rec)) row.signature t h in
        let same : g.from ≡ signature_of m = one_good g.from (signature_of m) row.signature g.is (ap (λ (r : MethodDefRow). r.signature) low.is ∙ row_sig m) in
        all_map Fine (λ e. good_part place (type e)) (t.ret ∷ t.params)
        (λ e d f c.
        let y = method_part recs a rec g.from t e g.gives d in
        let own : Contains ((signature_of m).ret ∷ (signature_of m).params) y.0 = subst (λ (x : MethodSig). Contains (x.ret ∷ x.params) y.0) same y.1 in
        expr_fine e
        (λ u i.
        sig_listed y.0 e u (method_fine inputs a rec there m y.0 low.low (contained ((signature_of m).ret ∷ (signature_of m).params) y.0 own)) (core_plain y.0 (method_core m y.0 own)) y.2 i) f c)

    field_by : (place : ℕ) (row : FieldRow) (low : LowField added row) (k : Known TypeExpr) → known_then (sig_expr (names_at recs a rec)) row.signature ≡ k → All (parts_of place (λ e. type_parts place (e ∷ [])) k)
    field_by place row low (Bad why) h = all_one Fine (bad_part place why) (bad_fine place why)
    field_by place row low (Good e) h =
        let x : CoreField = low.field in
        let g = good_then (sig_expr (names_at recs a rec)) row.signature e h in
        let same : g.from ≡ sig_of x.signature = one_good g.from (sig_of x.signature) row.signature g.is (ap (λ (r : FieldRow). r.signature) low.is ∙ field_sig x) in
        let reads : sig_expr (names_at recs a rec) (sig_of x.signature) ≡ Good e = subst (λ (s : Sig). sig_expr (names_at recs a rec) s ≡ Good e) same g.gives in
        all_one Fine (good_part place (type e))
        (λ f c. expr_fine e (λ u i. sig_listed (sig_of x.signature) e u (field_fine inputs a rec there x low.low) (plain_sig x.signature) reads i) f c)

    -- ---- bases

    low_table : (token : ℕ) → is_low_token token ≡ true → (table_of token == table.TYPE_SPEC) ≡ false
    low_table token low = ap (λ (n : ℕ). n == table.TYPE_SPEC) (eqb-true (table_of token) 0x02 (and_parts (table_of token == 0x02) _ low).0)

    token_is : (token : ℕ) → is_low_token token ≡ true → token_type recs a rec token ≡ named_type recs a rec token
    unfolding token_type
    token_is token low = ap (λ (b : Bool). if b then spec_type_at recs a rec (option_and_then (slice_get rec.type_spec) (index_in table.TYPE_SPEC token)) else named_type recs a rec token) (low_table token low)

    token_by : (place token : ℕ) (k : Known TypeExpr) → is_low_token token ≡ true → token_type recs a rec token ≡ k → Fine (record { token = place; at = 0; named = known_map type k })
    token_by place token (Bad why) low h f c = absurd (none_in f c)
    token_by place token (Good e) low h f c =
        expr_fine e
        (λ t d.
        let n : class_number recs a rec token ≡ suc t.0 = named_has recs a rec token e t (sym (token_is token low) ∙ h) d in
        subst (λ (j : ℕ). is_listed recs j ≡ true) n (class_listed inputs a rec token (λ at g. low_names inputs a rec there token at low g))) f c

    extends_part : (place token : ℕ) (b : Bool) → (token == 0) ≡ b → (b || is_low_token token) ≡ true → All (if b then [] else type_token_part recs a rec place 0 token ∷ [])
    extends_part place token true e low = all_none Fine
    extends_part place token false e low = all_one Fine (type_token_part recs a rec place 0 token) (token_by place token (token_type recs a rec token) low refl)

    base_is : (k : ℕ) (t : TypeDefRow) → slice_get rec.type_def k ≡ Some t → has_low_base t ≡ true
    base_is k t e = base_low added k t (subst (λ (r : AsmRec). slice_get r.type_def k ≡ Some t) is e)

    no_constraints : (owner : ℕ) → All (constraints_of recs a rec owner)
    unfolding constraints_of
    no_constraints owner = subst (λ (ps : List GenericParamRow). All (each_row (constraints_of_param recs a rec owner) ps)) (sym (ap (λ (r : AsmRec). r.generic_param) is ∙ no_params added)) (all_none Fine)

  -- ---- items

  module _ (at : RowAt) (last : suc at.asm ≡ length recs) where
    type_parts_fine : All (parts_of_type recs at)
    unfolding parts_of_type
    type_parts_fine =
        all_option Fine (λ (rec : AsmRec). extends_of recs at rec ++ constraints_of recs at.asm rec (token_of table.TYPE_DEF (suc at.row))) (rec_at recs at)
        (λ rec there.
        all_join Fine (extends_of recs at rec) (constraints_of recs at.asm rec (token_of table.TYPE_DEF (suc at.row)))
        (all_option Fine (λ (t : TypeDefRow). if t.extends == 0 then [] else type_token_part recs at.asm rec (token_of table.TYPE_DEF (suc at.row)) 0 t.extends ∷ []) (slice_get rec.type_def at.row)
        (λ t e. extends_part at.asm rec there last (token_of table.TYPE_DEF (suc at.row)) t.extends (t.extends == 0) refl (base_is at.asm rec there last at.row t e)))
        (no_constraints at.asm rec there last (token_of table.TYPE_DEF (suc at.row))))

    method_parts_fine : All (parts_of_method recs at)
    unfolding parts_of_method
    method_parts_fine =
        all_option Fine (λ (rec : AsmRec). flat_map (row_parts recs at rec) (listed (slice_get rec.method_def at.row))) (rec_at recs at)
        (λ rec there.
        all_option Fine (row_parts recs at rec) (slice_get rec.method_def at.row)
        (λ row e.
        let place : ℕ = token_of table.METHOD_DEF (suc at.row) in
        let low = method_low added at.row row (subst (λ (r : AsmRec). slice_get r.method_def at.row ≡ Some row) (is at.asm rec there last) e) in
        let none : body_of row ≡ [] = ap body_of low.is ∙ row_body at.asm rec there last low.method in
        all_join Fine (method_sig_parts recs at.asm rec place row.signature ++ constraints_of recs at.asm rec place) (flat_map (body_parts recs at.asm rec place (is_read row.signature)) (body_of row))
        (all_join Fine (method_sig_parts recs at.asm rec place row.signature) (constraints_of recs at.asm rec place)
        (method_by at.asm rec there last place row low (known_then (method_type (names_at recs at.asm rec)) row.signature) refl) (no_constraints at.asm rec there last place))
        (subst (λ (bs : List Body). All (flat_map (body_parts recs at.asm rec place (is_read row.signature)) bs)) (sym none) (all_none Fine))))

    field_parts_fine : All (parts_of_field recs at)
    unfolding parts_of_field
    field_parts_fine =
        all_option Fine (λ (rec : AsmRec). flat_map (λ (f : FieldRow). sig_parts recs at.asm rec (token_of table.FIELD (suc at.row)) f.signature) (listed (slice_get rec.field at.row))) (rec_at recs at)
        (λ rec there.
        all_option Fine (λ (f : FieldRow). sig_parts recs at.asm rec (token_of table.FIELD (suc at.row)) f.signature) (slice_get rec.field at.row)
        (λ row e.
        let low = field_low added at.row row (subst (λ (r : AsmRec). slice_get r.field at.row ≡ Some row) (is at.asm rec there last) e) in
        field_by at.asm rec there last (token_of table.FIELD (suc at.row)) row low (known_then (sig_expr (names_at recs at.asm rec)) row.signature) refl))

    property_parts_fine : All (parts_of_property recs at)
    unfolding parts_of_property
    property_parts_fine =
        all_option Fine (λ (rec : AsmRec). flat_map (λ (p : PropertyRow). method_sig_parts recs at.asm rec (token_of table.PROPERTY (suc at.row)) p.signature) (listed (slice_get rec.property at.row))) (rec_at recs at)
        (λ rec there.
        all_option Fine (λ (p : PropertyRow). method_sig_parts recs at.asm rec (token_of table.PROPERTY (suc at.row)) p.signature) (slice_get rec.property at.row)
        (λ row e. absurd (none_of rec.property at.row row (ap (λ (r : AsmRec). r.property) (is at.asm rec there last) ∙ no_properties added) e)))

    event_parts_fine : All (parts_of_event recs at)
    unfolding parts_of_event
    event_parts_fine =
        all_option Fine (λ (rec : AsmRec). flat_map (λ (x : EventRow). type_token_part recs at.asm rec (token_of table.EVENT (suc at.row)) 0 x.event_type ∷ []) (listed (slice_get rec.event at.row))) (rec_at recs at)
        (λ rec there.
        all_option Fine (λ (x : EventRow). type_token_part recs at.asm rec (token_of table.EVENT (suc at.row)) 0 x.event_type ∷ []) (slice_get rec.event at.row)
        (λ row e. absurd (none_of rec.event at.row row (ap (λ (r : AsmRec). r.event) (is at.asm rec there last) ∙ no_events added) e)))

    impl_parts_fine : All (parts_of_impl recs at)
    unfolding parts_of_impl
    impl_parts_fine =
        all_option Fine (λ (rec : AsmRec). flat_map (λ (x : InterfaceImplRow). type_token_part recs at.asm rec (token_of table.INTERFACE_IMPL (suc at.row)) 0 x.interface ∷ []) (listed (slice_get rec.interface_impl at.row))) (rec_at recs at)
        (λ rec there.
        all_option Fine (λ (x : InterfaceImplRow). type_token_part recs at.asm rec (token_of table.INTERFACE_IMPL (suc at.row)) 0 x.interface ∷ []) (slice_get rec.interface_impl at.row)
        (λ row e. absurd (none_of rec.interface_impl at.row row (ap (λ (r : AsmRec). r.interface_impl) (is at.asm rec there last) ∙ no_impls added) e)))

    item_fine : (i : Item) → All (parts_of_item recs i at)
    item_fine (item.Asm a) = all_none Fine
    item_fine (item.Typ t) = type_parts_fine
    item_fine (item.Method m) = method_parts_fine
    item_fine (item.Field f) = field_parts_fine
    item_fine (item.Prop p) = property_parts_fine
    item_fine (item.Event e) = event_parts_fine
    item_fine (item.Impl i) = impl_parts_fine

pub core_is_plain : CoreStaysPlain
core_is_plain m i at f home last c =
    let p = from_flat (λ (q : Part). of_known of_named q.named) (parts_of_item (before m) i at) f c in
    (item_fine m.inputs at last i).each p.item p.there f p.inside
