-- What is met comes to a row of the output: a name that only modifiers use (II.7.1.1) is a modifier of a signature that is written.
use Rattle.std.proofs.Common.{◌≡◌, ◌<◌, ℕ, zero, suc, List, [], ◌∷◌, ◌++◌, length, map, Bool, true, false, not, Option, Some, None, ◌⊎◌, inl, inr, refl, sym, ap, subst, ◌∙◌, ◌||◌}
use Rattle.std.specs.Prelude.{slice_get, ⊤, Contains, ◌==◌, if◌then◌else◌}
use Rattle.std.specs.List.{flat_map}
use Rattle.std.specs.Option.{option_map, option_and_then}
use Rattle.il_base.specs.declared.ids.TypeId.{TypeId}
use Rattle.il_base.specs.declared.sig.Sig.{Sig}
use Rattle.il_base.specs.declared.sig.MethodSig.{MethodSig}
use Rattle.il_base.specs.declared.table.TheConstants as table
use Rattle.il_base.specs.declared.world_model.known.Known.{Known}
use Rattle.il_base.specs.declared.world_model.known.Known.TheVariants.{Good, Bad}
use Rattle.il_base.specs.declared.world_model.expr.TypeExpr.{TypeExpr, out-TypeExpr}
use Rattle.il_base.specs.declared.world_model.expr.TypeExpr.TheFolds.{map-TypeExpr}
use Rattle.il_base.specs.declared.world_model.expr.TypeExpr.TheOpen.{TypeExpr-F}
use Rattle.il_base.specs.declared.world_model.expr.MethodUse.{MethodUse}
use Rattle.il_base.specs.declared.world_model.expr.FieldUse.{FieldUse}
use Rattle.il_base.specs.declared.world_model.types.TypeSpecRow.{TypeSpecRow}
use Rattle.il_base.specs.declared.world_model.members.FieldRow.{FieldRow}
use Rattle.il_base.specs.declared.world_model.members.MethodDefRow.{MethodDefRow}
use Rattle.il_base.specs.declared.world_model.members.PropertyRow.{PropertyRow}
use Rattle.il_base.specs.declared.world_model.record.AsmRec.{AsmRec}
use Rattle.il_base.specs.world_model.Tokens.{table_of, index_in}
use Rattle.il_base.specs.world_model.Worlds.{prim_type}
use Rattle.rules.specs.declared.link_rules.row_at.RowAt.{RowAt}
use Rattle.rules.specs.link_rules.CoreNames.{all_modifiers}
use Rattle.rules.specs.link_rules.Members.{methods_in, fields_in}
use Rattle.rules.specs.link_rules.Cycles.{listed}
use Rattle.rules.specs.link_rules.Linked.{assemblies}
use Rattle.rules.specs.type_rules.Rows.{rec_at}
use Rattle.base_laws.proofs.lemmas.type_laws.Within.{In, listed_in, in_map, flat_in}
use Rattle.base_laws.proofs.lemmas.type_laws.Places.{place_within}
use Rattle.base_laws.proofs.lemmas.known_laws.Lists.{map_some}
use Rattle.rules.specs.mark_rules.Naming.{method_named, field_named}
use Rattle.rules.specs.mark_rules.Places.{method_item, field_item, prop_item, props_in}
use Rattle.run_laws.proofs.lemmas.marked_laws.Members.{filtered}
use Rattle.rules.specs.merge_rules.Numbers.{Kept, rows_of_kind, kept_methods, kept_fields, kept_properties}
use Rattle.rules.specs.merge_rules.Keys.{TypeKey, named, spec, class_number, numbered_key, spec_key, type_key, world_sig, world_sigs, world_method_sig, MethodKey, own_method, found_method, absent_method, FieldKey, own_field, found_field, InstanceKey, good, is_plain_owner, method_key_of, field_key_of, method_key, field_key, expr_key_in, expr_key, made_sig}
use Rattle.rules.specs.merge_rules.Order.{Met, met_type, met_sig, met_method, met_field, met_instance, met_locals}
use Rattle.rules.specs.merge_rules.Refs.{Output, types_of_sig}
use Rattle.rules.specs.merge_rules.Moved.{moved_field_row, moved_method_row, moved_property_row}
use Rattle.rules.specs.merge_rules.Restricted.{each_at, put_rva, placed_methods, moved_methods}
use Rattle.merge_laws.proofs.lemmas.merged_places.Worlds.{placed_get}
use Rattle.merge_laws.proofs.lemmas.merged_references.Lists.{contained}
use Rattle.merge_laws.proofs.lemmas.merged_references.Left.{IsLeft, left_methods, left_fields}
use Rattle.merge_laws.proofs.lemmas.merged_references.Kept.{row_in}
use Rattle.trim_laws.proofs.lemmas.added_names.Modifiers.{is_listed, IsFine}
use Rattle.trim_laws.proofs.lemmas.added_names.Listed.{input_listed, prim_listed}
use Rattle.trim_laws.proofs.lemmas.added_names.Plain.{plain_layer, is_plain, Plain, plain_out, made_fine}
use Rattle.trim_laws.proofs.lemmas.added_names.Owners.{method_owner_plain, field_owner_plain}
use Rattle.trim_laws.proofs.lemmas.added_names.Sources.{Source, Holds}
use Rattle.trim_laws.proofs.lemmas.added_names.Core.{in_place}
use Rattle.trim_laws.proofs.lemmas.added_names.Members.{input_fine}
use Rattle.trim_laws.proofs.lemmas.added_names.Used.{mapped, IsUsed, more, of_sig, by_field, by_method, by_property, in_method, good_sig, good_method}

-- an item's place
in_at : {A : Type 0} (x : A) (xs : List A) → In x xs → (k : ℕ) × (slice_get xs k ≡ Some x)
in_at x [] h = absurd h
in_at x (y ∷ xs) (inl e) = (0, ap (λ z. Some z) (sym e))
in_at x (y ∷ xs) (inr h) = let m = in_at x xs h in (suc m.0, m.1)

good_is : {A : Type 0} (x : Known A) (y : A) → good x ≡ Some y → x ≡ Good y
good_is (Good z) y e = let same : z ≡ y = cc in ap Good same
good_is (Bad why) y e = absurd (cc)

-- a row that is made of one at a place
each_in : {R B : Type 0} (recs : List AsmRec) (rows : AsmRec → List R) (f : RowAt → AsmRec → R → B) (places : List RowAt) (at : RowAt) (rec : AsmRec) (x : R) → In at places → rec_at recs at ≡ Some rec → slice_get (rows rec) at.row ≡ Some x
    → In (f at rec x) (each_at recs rows f places)
each_in recs rows f places at rec x h e g =
    flat_in (λ (at : RowAt). flat_map (λ (rec : AsmRec). map (f at rec) (listed (slice_get (rows rec) at.row))) (listed (rec_at recs at))) (f at rec x) at places h
    (flat_in (λ (rec : AsmRec). map (f at rec) (listed (slice_get (rows rec) at.row))) (f at rec x) rec (listed (rec_at recs at)) (listed_in rec (rec_at recs at) e)
    (mapped (f at rec) x (listed (slice_get (rows rec) at.row)) (listed_in x (slice_get (rows rec) at.row) g)))

module _ (recs : List AsmRec) where
  pub record AllFine (ss : List Sig) : Type 0 where
    pub each : (s : Sig) → In s ss → IsFine recs s

  abbrev pub FineKey : TypeKey → Type 0
  FineKey (named t) = is_listed recs (suc t.0) ≡ true
  FineKey (spec s) = IsFine recs s

  abbrev pub FineMethod : MethodKey → Type 0
  FineMethod (own_method m) = ⊤
  FineMethod (found_method m e) = Plain recs e
  FineMethod (absent_method p name s) = FineKey p × AllFine (s.ret ∷ s.params)

  abbrev pub FineField : FieldKey → Type 0
  FineField (own_field m) = ⊤
  FineField (found_field m e) = Plain recs e

  -- a signature of a row comes to one; of the others their types are fine
  abbrev pub FineMet : Output → AsmRec → Met → Type 0
  FineMet o left (met_type k) = FineKey k
  FineMet o left (met_sig s) = (t : TypeId) → In t (types_of_sig s) → IsUsed recs o t (all_modifiers left)
  FineMet o left (met_method k) = FineMethod k
  FineMet o left (met_field k) = FineField k
  FineMet o left (met_instance i) = FineMethod i.method × AllFine i.args
  FineMet o left (met_locals ss) = AllFine ss

module _ (inputs : List AsmRec) where
  abbrev recs : List AsmRec
  recs = assemblies inputs

  -- ---- keys

  number_key : (n : ℕ) (k : TypeKey) → is_listed recs n ≡ true → numbered_key n ≡ Some k → FineKey recs k
  number_key zero k l e = absurd (cc)
  number_key (suc t) k l e = let same : named (record { 0 = t }) ≡ k = cc in subst (FineKey recs) same l

  pub expr_fine_by : (e : TypeExpr) (k : TypeKey) (x : TypeExpr-F TypeExpr) → plain_layer recs (map-TypeExpr TypeExpr Bool (is_plain recs) x) ≡ true → Plain recs e → expr_key_in recs e x ≡ Some k → FineKey recs k
  expr_fine_by e k (TypeExpr-F.Def t) l p h = let same : named t ≡ k = cc in subst (FineKey recs) same l
  expr_fine_by e k (TypeExpr-F.Prim n) l p h = let m = map_some named (prim_type recs n) k h in subst (FineKey recs) m.2 (prim_listed inputs n m.0 m.1)
  expr_fine_by e k (TypeExpr-F.Inst t args) l p h = let same : spec (made_sig recs e) ≡ k = cc in subst (FineKey recs) same (made_fine recs e p)
  expr_fine_by e k (TypeExpr-F.Array x) l p h = let same : spec (made_sig recs e) ≡ k = cc in subst (FineKey recs) same (made_fine recs e p)
  expr_fine_by e k (TypeExpr-F.ByRef x) l p h = let same : spec (made_sig recs e) ≡ k = cc in subst (FineKey recs) same (made_fine recs e p)
  expr_fine_by e k (TypeExpr-F.Var n) l p h = let same : spec (made_sig recs e) ≡ k = cc in subst (FineKey recs) same (made_fine recs e p)
  expr_fine_by e k (TypeExpr-F.MVar n) l p h = let same : spec (made_sig recs e) ≡ k = cc in subst (FineKey recs) same (made_fine recs e p)
  expr_fine_by e k (TypeExpr-F.Mod required by x) l p h = let same : spec (made_sig recs e) ≡ k = cc in subst (FineKey recs) same (made_fine recs e p)

  pub expr_fine : (e : TypeExpr) (k : TypeKey) → Plain recs e → expr_key recs e ≡ Some k → FineKey recs k
  unfolding expr_key
  expr_fine e k p h = expr_fine_by e k (out-TypeExpr e) (sym (plain_out recs e) ∙ p) p h

  module _ (a : ℕ) (rec : AsmRec) (src : Source recs a rec) where
    spec_fine : (k : TypeKey) (o : Option TypeSpecRow) → spec_key recs a rec o ≡ Some k → FineKey recs k
    spec_fine k None h = absurd (cc)
    spec_fine k (Some row) h = by_sig row.signature h
      where
        by_sig : (s : Known Sig) → spec_key recs a rec (Some (record { signature = s })) ≡ Some k → FineKey recs k
        by_sig (Good s) h = let same : spec (world_sig recs a rec s) ≡ k = cc in subst (FineKey recs) same (input_fine inputs a rec src.there src.input s)
        by_sig (Bad why) h = absurd (cc)

    key_by : (token : ℕ) (k : TypeKey) (b : Bool)
        → (if b then spec_key recs a rec (option_and_then (slice_get rec.type_spec) (index_in table.TYPE_SPEC token)) else numbered_key (class_number recs a rec token)) ≡ Some k → FineKey recs k
    key_by token k true h = spec_fine k (option_and_then (slice_get rec.type_spec) (index_in table.TYPE_SPEC token)) h
    key_by token k false h = number_key (class_number recs a rec token) k (input_listed inputs a rec src.there src.input token) h

    key_fine : (token : ℕ) (k : TypeKey) → type_key recs a rec token ≡ Some k → FineKey recs k
    unfolding type_key
    key_fine token k h = key_by token k (table_of token == table.TYPE_SPEC) h

    sigs_fine : (ss : List Sig) → AllFine recs (world_sigs recs a rec ss)
    sigs_fine ss = record {
      each = λ s h. let m = in_map (world_sig recs a rec) s ss h in subst (λ (x : Sig). IsFine recs x) (sym m.2) (input_fine inputs a rec src.there src.input m.0);
    }

    -- ---- members

    method_if : (b : Bool) (u : MethodUse) → Plain recs u.owner → FineMethod recs (if b then own_method u.method else found_method u.method u.owner)
    method_if true u h = tt
    method_if false u h = h

    method_by : (own : Bool) (u : MethodUse) → (own ≡ false → Plain recs u.owner) → FineMethod recs (method_key_of recs own u)
    method_by true u h = tt
    method_by false u h = method_if (is_plain_owner recs u.owner) u (h refl)

    method_fine : (token : ℕ) (k : MethodKey) → (table_of token == table.METHOD_SPEC) ≡ false → method_key recs a rec token ≡ Some k → FineMethod recs k
    unfolding method_key
    method_fine token k s h =
        let m = map_some (method_key_of recs (table_of token == table.METHOD_DEF)) (good (method_named recs a rec token)) k h in
        subst (FineMethod recs) m.2 (method_by (table_of token == table.METHOD_DEF) m.0 (method_owner_plain inputs a rec src.there src.input token m.0 (good_is (method_named recs a rec token) m.0 m.1) s))

    field_if : (b : Bool) (u : FieldUse) → Plain recs u.owner → FineField recs (if b then own_field u.field else found_field u.field u.owner)
    field_if true u h = tt
    field_if false u h = h

    field_by : (own : Bool) (u : FieldUse) → (own ≡ false → Plain recs u.owner) → FineField recs (field_key_of recs own u)
    field_by true u h = tt
    field_by false u h = field_if (is_plain_owner recs u.owner) u (h refl)

    field_fine : (token : ℕ) (k : FieldKey) → field_key recs a rec token ≡ Some k → FineField recs k
    unfolding field_key
    field_fine token k h =
        let m = map_some (field_key_of recs (table_of token == table.FIELD)) (good (field_named recs a rec token)) k h in
        subst (FineField recs) m.2 (field_by (table_of token == table.FIELD) m.0 (field_owner_plain inputs a rec src.there src.input token m.0 (good_is (field_named recs a rec token) m.0 m.1)))

  -- ---- signatures of kept rows

  module _ (internal : Bool) (kept : Kept) (mets : List Met) (left : AsmRec) where
    abbrev pub o : Output
    o = record { recs = recs; kept = kept; mets = mets }

    module _ (l : IsLeft internal o left) where
      module _ (at : RowAt) (rec : AsmRec) (src : Source recs at.asm rec) where
        field_there : (f : FieldRow) → slice_get rec.field at.row ≡ Some f → kept (field_item recs at) ≡ true → In (moved_field_row o at rec f) left.field
        unfolding kept_fields
        field_there f e k =
            subst (λ (rows : List FieldRow). In (moved_field_row o at rec f) rows) (sym (left_fields internal o left l))
            (each_in recs (λ rec. rec.field) (moved_field_row o) (kept_fields recs kept) at rec f
            (filtered (λ at. kept (field_item recs at)) at (rows_of_kind fields_in recs) (row_in fields_in recs at rec src.there (place_within rec.field at.row f e) src.input) k) src.there e)

        field_sig : (f : FieldRow) (s : Sig) → slice_get rec.field at.row ≡ Some f → kept (field_item recs at) ≡ true → f.signature ≡ Good s → (t : TypeId) → In t (types_of_sig (world_sig recs at.asm rec s)) → IsUsed recs o t (all_modifiers left)
        field_sig f s e k g t h =
            more recs o t _ (all_modifiers left)
            (λ i. by_field left _ (moved_field_row o at rec f) (field_there f e k) (good_sig recs o t _ f.signature s g i))
            (of_sig recs o t (world_sig recs at.asm rec s) (input_fine inputs at.asm rec src.there src.input s) h)

        moved_there : (m : MethodDefRow) → slice_get rec.method_def at.row ≡ Some m → kept (method_item recs at) ≡ true → In (moved_method_row o at rec m) (moved_methods o)
        unfolding kept_methods
        moved_there m e k =
            each_in recs (λ rec. rec.method_def) (moved_method_row o) (kept_methods recs kept) at rec m
            (filtered (λ at. kept (method_item recs at)) at (rows_of_kind methods_in recs) (row_in methods_in recs at rec src.there (place_within rec.method_def at.row m e) src.input) k) src.there e

        method_there : (m : MethodDefRow) → slice_get rec.method_def at.row ≡ Some m → kept (method_item recs at) ≡ true → (rva : ℕ) × In (put_rva rva (moved_method_row o at rec m)) left.method_def
        method_there m e k =
            let p = in_at (moved_method_row o at rec m) (moved_methods o) (moved_there m e k) in
            let q = placed_get (moved_methods o) p.0 (moved_method_row o at rec m) p.1 in
            (q.0, subst (λ (rows : List MethodDefRow). In (put_rva q.0 (moved_method_row o at rec m)) rows) (sym (left_methods internal o left l)) (in_place (placed_methods (moved_methods o)) p.0 (put_rva q.0 (moved_method_row o at rec m)) q.1))

        abbrev moved : MethodSig → MethodSig
        moved g = world_method_sig recs at.asm rec g

        method_sig : (m : MethodDefRow) (g : MethodSig) (s : Sig) → slice_get rec.method_def at.row ≡ Some m → kept (method_item recs at) ≡ true → m.signature ≡ Good g → Contains (g.ret ∷ g.params) s
            → (t : TypeId) → In t (types_of_sig (world_sig recs at.asm rec s)) → IsUsed recs o t (all_modifiers left)
        method_sig m g s e k f c t h =
            let r = method_there m e k in
            more recs o t _ (all_modifiers left)
            (λ i.
            by_method left _ (put_rva r.0 (moved_method_row o at rec m)) r.1
            (good_method recs o t _ m.signature g f (in_method recs o t (world_sig recs at.asm rec s) (moved g) (mapped (world_sig recs at.asm rec) s (g.ret ∷ g.params) (contained (g.ret ∷ g.params) s c)) i)))
            (of_sig recs o t (world_sig recs at.asm rec s) (input_fine inputs at.asm rec src.there src.input s) h)

        property_there : (p : PropertyRow) → slice_get rec.property at.row ≡ Some p → kept (prop_item recs at) ≡ true → In (moved_property_row o at rec p) left.property
        unfolding kept_properties
        property_there p e k =
            subst (λ (rows : List PropertyRow). In (moved_property_row o at rec p) rows) (sym (ap (λ (r : AsmRec). r.property) l.is))
            (each_in recs (λ rec. rec.property) (moved_property_row o) (kept_properties recs kept) at rec p
            (filtered (λ at. kept (prop_item recs at)) at (rows_of_kind props_in recs) (row_in props_in recs at rec src.there (place_within rec.property at.row p e) src.input) k) src.there e)

        property_sig : (p : PropertyRow) (g : MethodSig) (s : Sig) → slice_get rec.property at.row ≡ Some p → kept (prop_item recs at) ≡ true → p.signature ≡ Good g → Contains (g.ret ∷ g.params) s
            → (t : TypeId) → In t (types_of_sig (world_sig recs at.asm rec s)) → IsUsed recs o t (all_modifiers left)
        property_sig p g s e k f c t h =
            more recs o t _ (all_modifiers left)
            (λ i.
            by_property left _ (moved_property_row o at rec p) (property_there p e k)
            (good_method recs o t _ p.signature g f (in_method recs o t (world_sig recs at.asm rec s) (moved g) (mapped (world_sig recs at.asm rec) s (g.ret ∷ g.params) (contained (g.ret ∷ g.params) s c)) i)))
            (of_sig recs o t (world_sig recs at.asm rec s) (input_fine inputs at.asm rec src.there src.input s) h)

      -- ---- all that is met

      pub all_fine : Holds recs kept (FineMet recs o left)
      all_fine = record {
        types = λ a rec token k src e. key_fine a rec src token k e;
        field_sigs = λ at rec f s src e k g. field_sig at rec src f s e k g;
        method_sigs = λ at rec m g s src e k f c. method_sig at rec src m g s e k f c;
        property_sigs = λ at rec p g s src e k f c. property_sig at rec src p g s e k f c;
        locals = λ a rec ss src. sigs_fine a rec src ss;
        methods = λ a rec token m src s e. method_fine a rec src token m s e;
        fields = λ a rec token f src e. field_fine a rec src token f e;
        instances = λ a rec token m args src s e. (method_fine a rec src token m s e, sigs_fine a rec src args);
        absents = λ a rec token p name s src e. (key_fine a rec src token p e, sigs_fine a rec src (s.ret ∷ s.params));
      }
