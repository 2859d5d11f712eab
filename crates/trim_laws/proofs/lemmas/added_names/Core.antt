-- The tokens in the core library's rows and signatures are those of its table's types.
use Rattle.std.proofs.Common.{◌≡◌, ◌<◌, ℕ, zero, suc, List, [], ◌∷◌, ◌++◌, length, map, Bool, true, false, Option, Some, None, ◌⊎◌, inl, inr, refl, sym, ap, subst, ◌∙◌, ◌&&◌, ◌||◌, eqb-true}
use Rattle.std.specs.Prelude.{slice_get, ◌==◌, if◌then◌else◌}
use Rattle.std.specs.List.{list_all}
use Rattle.std.specs.Option.{option_and_then}
use Rattle.std.proofs.lemmas.Bool.{and_parts}
use Rattle.std.proofs.lemmas.List.Folds.{list_all-append}
use Rattle.il_base.specs.declared.sig.Sig.{Sig, fold-roll-Sig, roll-Sig}
use Rattle.il_base.specs.declared.sig.Sig.TheFolds.{map-Sig}
use Rattle.il_base.specs.declared.sig.Sig.TheOpen.{Sig-F}
use Rattle.il_base.specs.declared.sig.Sig.TheVariants as sig
use Rattle.il_base.specs.declared.sig.MethodSig.{MethodSig}
use Rattle.il_base.specs.declared.world_model.known.Known.TheVariants.{Good}
use Rattle.il_base.specs.declared.world_model.expr.TypeExpr.{TypeExpr}
use Rattle.il_base.specs.declared.world_model.types.TypeDefRow.{TypeDefRow}
use Rattle.il_base.specs.declared.world_model.members.FieldRow.{FieldRow}
use Rattle.il_base.specs.declared.world_model.members.MethodDefRow.{MethodDefRow}
use Rattle.il_base.specs.declared.world_model.record.AsmRec.{AsmRec}
use Rattle.il_base.specs.world_model.Tokens.{table_of, index_in}
use Rattle.il_base.specs.declared.core_table.shape.CoreField.{CoreField}
use Rattle.il_base.specs.declared.core_table.shape.CoreMethod.{CoreMethod}
use Rattle.il_base.specs.declared.core_table.shape.CoreParams.{CoreParams}
use Rattle.il_base.specs.declared.core_table.shape.CoreParams.TheVariants.{Zero, One, Two, Three, Four}
use Rattle.il_base.specs.declared.core_table.shape.CoreSig.{CoreSig}
use Rattle.il_base.specs.declared.core_table.shape.CoreSig.TheVariants as core
use Rattle.il_base.specs.declared.core_table.shape.CoreType.{CoreType}
use Rattle.il_base.specs.declared.core_table.types.TheConstants.{TYPES}
use Rattle.il_base.specs.core_table.Members.{fields_of, methods_of}
use Rattle.il_base.specs.core_table.Record.{sig_of, params_of, signature_of, field_row, method_row, all_fields, all_methods, type_row, type_rows, record_with, core_record}
use Rattle.rules.specs.declared.link_rules.core_type_name.CoreTypeName.{CoreTypeName}
use Rattle.rules.specs.link_rules.CoreNames.{added_row, core_with}
use Rattle.rules.specs.link_rules.Signatures.{named_type, spec_type_at, token_type}
use Rattle.rules.specs.link_rules.Linked.{assemblies}
use Rattle.base_laws.proofs.lemmas.type_laws.Within.{In, in_parts, in_map}
use Rattle.rules.specs.merge_rules.Keys.{class_number, world_layer, world_sig}
use Rattle.trim_laws.proofs.lemmas.added_names.Modifiers.{fine_none, fine_one, IsFine, of_layer}
use Rattle.trim_laws.proofs.lemmas.added_names.Listed.{is_low_token, low_names, class_listed}
use Rattle.trim_laws.proofs.lemmas.added_names.Plain.{Plain}
use Rattle.trim_laws.proofs.lemmas.added_names.Tokens.{row_plain}

-- ---- tests

abbrev pub has_low_base : TypeDefRow → Bool
has_low_base t = t.extends == 0 || is_low_token t.extends

abbrev is_low_sig : CoreSig → Bool
is_low_sig (core.Prim n) = true
is_low_sig (core.Class token) = is_low_token token
is_low_sig (core.Value token) = is_low_token token
is_low_sig (core.Prims n) = true
is_low_sig (core.Classes token) = is_low_token token
is_low_sig (core.MVar n) = true

abbrev are_low : CoreParams → Bool
are_low Zero = true
are_low (One a) = is_low_sig a
are_low (Two a b) = is_low_sig a && is_low_sig b
are_low (Three a b c) = is_low_sig a && is_low_sig b && is_low_sig c
are_low (Four a b c d) = is_low_sig a && is_low_sig b && is_low_sig c && is_low_sig d

abbrev is_low_method : CoreMethod → Bool
is_low_method m = is_low_sig m.ret && are_low m.params

abbrev is_low_field : CoreField → Bool
is_low_field f = is_low_sig f.signature

abbrev is_low_type : CoreType → Bool
is_low_type t = list_all is_low_method (methods_of t.members) && list_all is_low_field (fields_of t.members)

bases_low : list_all has_low_base core_record.type_def ≡ true
unfolding core_record record_with type_rows type_row
bases_low = refl

types_low : list_all is_low_type TYPES ≡ true
unfolding methods_of fields_of
types_low = refl

-- ---- rows

all_in : {A : Type 0} (p : A → Bool) (xs : List A) (x : A) → list_all p xs ≡ true → In x xs → p x ≡ true
all_in p [] x h i = absurd i
all_in p (y ∷ xs) x h (inl e) = ap p e ∙ (and_parts (p y) (list_all p xs) h).0
all_in p (y ∷ xs) x h (inr i) = all_in p xs x (and_parts (p y) (list_all p xs) h).1 i

pub in_place : {A : Type 0} (xs : List A) (k : ℕ) (x : A) → slice_get xs k ≡ Some x → In x xs
in_place [] k x e = absurd (cc)
in_place (y ∷ xs) zero x e = inl cc
in_place (y ∷ xs) (suc k) x e = inr (in_place xs k x e)

added_low : (names : List CoreTypeName) → list_all has_low_base (map (added_row core_record) names) ≡ true
added_low [] = refl
added_low (x ∷ names) = added_low names

module _ (names : List CoreTypeName) where
  abbrev whole : AsmRec
  whole = core_with core_record names

  rows_are : whole.type_def ≡ core_record.type_def ++ map (added_row core_record) names
  unfolding core_with
  rows_are = refl

  all_low : list_all has_low_base whole.type_def ≡ true
  all_low = ap (list_all has_low_base) rows_are ∙ list_all-append has_low_base core_record.type_def (map (added_row core_record) names) ∙ (λ i. bases_low i && added_low names i)

  pub base_low : (k : ℕ) (t : TypeDefRow) → slice_get whole.type_def k ≡ Some t → has_low_base t ≡ true
  base_low k t e = all_in has_low_base whole.type_def t all_low (in_place whole.type_def k t e)

  -- ---- members

  pub record LowMethod (row : MethodDefRow) : Type 0 where
    pub method : CoreMethod
    pub low : is_low_method method ≡ true
    pub is : row ≡ method_row method

  pub record LowField (row : FieldRow) : Type 0 where
    pub field : CoreField
    pub low : is_low_field field ≡ true
    pub is : row ≡ field_row field

  method_by : (row : MethodDefRow) (t : CoreType) (ts : List CoreType) → is_low_type t ≡ true → (In row (all_methods ts) → LowMethod row) → In row (map method_row (methods_of t.members)) ⊎ In row (all_methods ts) → LowMethod row
  method_by row t ts low more (inl h) =
      let m = in_map method_row row (methods_of t.members) h in
      record { method = m.0; low = all_in is_low_method (methods_of t.members) m.0 (and_parts (list_all is_low_method (methods_of t.members)) (list_all is_low_field (fields_of t.members)) low).0 m.1; is = m.2 }
  method_by row t ts low more (inr h) = more h

  methods_low : (row : MethodDefRow) (ts : List CoreType) → list_all is_low_type ts ≡ true → In row (all_methods ts) → LowMethod row
  unfolding all_methods
  methods_low row [] low h = absurd h
  methods_low row (t ∷ ts) low h =
      let p = and_parts (is_low_type t) (list_all is_low_type ts) low in
      method_by row t ts p.0 (methods_low row ts p.1) (in_parts row (map method_row (methods_of t.members)) (all_methods ts) h)

  field_by : (row : FieldRow) (t : CoreType) (ts : List CoreType) → is_low_type t ≡ true → (In row (all_fields ts) → LowField row) → In row (map field_row (fields_of t.members)) ⊎ In row (all_fields ts) → LowField row
  field_by row t ts low more (inl h) =
      let m = in_map field_row row (fields_of t.members) h in
      record { field = m.0; low = all_in is_low_field (fields_of t.members) m.0 (and_parts (list_all is_low_method (methods_of t.members)) (list_all is_low_field (fields_of t.members)) low).1 m.1; is = m.2 }
  field_by row t ts low more (inr h) = more h

  fields_low : (row : FieldRow) (ts : List CoreType) → list_all is_low_type ts ≡ true → In row (all_fields ts) → LowField row
  unfolding all_fields
  fields_low row [] low h = absurd h
  fields_low row (t ∷ ts) low h =
      let p = and_parts (is_low_type t) (list_all is_low_type ts) low in
      field_by row t ts p.0 (fields_low row ts p.1) (in_parts row (map field_row (fields_of t.members)) (all_fields ts) h)

  pub method_low : (k : ℕ) (row : MethodDefRow) → slice_get whole.method_def k ≡ Some row → LowMethod row
  unfolding core_with core_record record_with
  method_low k row e = methods_low row TYPES types_low (in_place (all_methods TYPES) k row e)

  pub field_low : (k : ℕ) (row : FieldRow) → slice_get whole.field k ≡ Some row → LowField row
  unfolding core_with core_record record_with
  field_low k row e = fields_low row TYPES types_low (in_place (all_fields TYPES) k row e)

-- ---- what they name

module _ (inputs : List AsmRec) (a : ℕ) (rec : AsmRec) (there : slice_get (assemblies inputs) a ≡ Some rec) where
  abbrev recs : List AsmRec
  recs = assemblies inputs

  low_class : (token : ℕ) → is_low_token token ≡ true → (table_of token == 0x1b) ≡ false
  low_class token low =
      let t : table_of token ≡ 0x02 = eqb-true (table_of token) 0x02 (and_parts (table_of token == 0x02) _ low).0 in
      ap (λ (n : ℕ). n == 0x1b) t

  -- the base of a type
  pub base_plain : (token : ℕ) (e : TypeExpr) → is_low_token token ≡ true → token_type recs a rec token ≡ Good e → Plain recs e
  unfolding token_type
  base_plain token e low h =
      row_plain inputs a rec token e (λ at f. low_names inputs a rec there token at low f)
      (sym (ap (λ (b : Bool). if b then spec_type_at recs a rec (option_and_then (slice_get rec.type_spec) (index_in 0x1b token)) else named_type recs a rec token) (low_class token low)) ∙ h)

  -- ---- signatures

  world_is : (x : Sig-F Sig) (s : Sig) → roll-Sig x ≡ s → world_sig recs a rec s ≡ world_layer recs a rec (map-Sig Sig Sig (world_sig recs a rec) x)
  unfolding world_sig
  world_is x s e = ap (world_sig recs a rec) (sym e) ∙ fold-roll-Sig Sig (world_layer recs a rec) x

  prim_fine : (n : ℕ) → IsFine recs (world_sig recs a rec (sig.Prim n))
  prim_fine n = subst (λ (s : Sig). IsFine recs s) (sym (world_is (Sig-F.Prim n) (sig.Prim n) (sig.rolls-Prim n))) (of_layer recs (Sig-F.Prim n) (sig.Prim n) (sig.rolls-Prim n) (fine_none recs []))

  named_fine : (v : Bool) (token : ℕ) → is_low_token token ≡ true → IsFine recs (world_sig recs a rec (sig.Named v token))
  named_fine v token low =
      let k : ℕ = class_number recs a rec token in
      subst (λ (s : Sig). IsFine recs s) (sym (world_is (Sig-F.Named v token) (sig.Named v token) (sig.rolls-Named v token)))
      (of_layer recs (Sig-F.Named v k) (sig.Named v k) (sig.rolls-Named v k) (fine_one recs k (class_listed inputs a rec token (λ at f. low_names inputs a rec there token at low f))))

  mvar_fine : (n : ℕ) → IsFine recs (world_sig recs a rec (sig.MVar n))
  mvar_fine n = subst (λ (s : Sig). IsFine recs s) (sym (world_is (Sig-F.MVar n) (sig.MVar n) (sig.rolls-MVar n))) (of_layer recs (Sig-F.MVar n) (sig.MVar n) (sig.rolls-MVar n) (fine_none recs []))

  array_fine : (s : Sig) → IsFine recs (world_sig recs a rec s) → IsFine recs (world_sig recs a rec (sig.Array s))
  array_fine s fine =
      let w : Sig = world_sig recs a rec s in
      subst (λ (s : Sig). IsFine recs s) (sym (world_is (Sig-F.Array s) (sig.Array s) (sig.rolls-Array s))) (of_layer recs (Sig-F.Array w) (sig.Array w) (sig.rolls-Array w) fine)

  sig_fine : (c : CoreSig) → is_low_sig c ≡ true → IsFine recs (world_sig recs a rec (sig_of c))
  sig_fine (core.Prim n) low = prim_fine n
  sig_fine (core.Class token) low = named_fine false token low
  sig_fine (core.Value token) low = named_fine true token low
  sig_fine (core.Prims n) low = array_fine (sig.Prim n) (prim_fine n)
  sig_fine (core.Classes token) low = array_fine (sig.Named false token) (named_fine false token low)
  sig_fine (core.MVar n) low = mvar_fine n

  -- a parameter of a low list
  param_by : (s : Sig) (c : CoreSig) (P : Type 0) → is_low_sig c ≡ true → (P → IsFine recs (world_sig recs a rec s)) → (s ≡ sig_of c) ⊎ P → IsFine recs (world_sig recs a rec s)
  param_by s c P low more (inl e) = subst (λ (x : Sig). IsFine recs (world_sig recs a rec x)) (sym e) (sig_fine c low)
  param_by s c P low more (inr h) = more h

  params_fine : (ps : CoreParams) (s : Sig) → are_low ps ≡ true → In s (params_of ps) → IsFine recs (world_sig recs a rec s)
  unfolding params_of
  params_fine Zero s low h = absurd h
  params_fine (One x) s low h = param_by s x ⊥ low (λ g. absurd g) h
  params_fine (Two x y) s low h =
      let p = and_parts (is_low_sig x) (is_low_sig y) low in
      param_by s x (In s (sig_of y ∷ [])) p.0 (param_by s y ⊥ p.1 (λ g. absurd g)) h
  params_fine (Three x y z) s low h =
      let p = and_parts (is_low_sig x && is_low_sig y) (is_low_sig z) low in
      let q = and_parts (is_low_sig x) (is_low_sig y) p.0 in
      param_by s x (In s (sig_of y ∷ sig_of z ∷ [])) q.0 (param_by s y (In s (sig_of z ∷ [])) q.1 (param_by s z ⊥ p.1 (λ g. absurd g))) h
  params_fine (Four x y z w) s low h =
      let p = and_parts (is_low_sig x && is_low_sig y && is_low_sig z) (is_low_sig w) low in
      let q = and_parts (is_low_sig x && is_low_sig y) (is_low_sig z) p.0 in
      let r = and_parts (is_low_sig x) (is_low_sig y) q.0 in
      param_by s x (In s (sig_of y ∷ sig_of z ∷ sig_of w ∷ [])) r.0
      (param_by s y (In s (sig_of z ∷ sig_of w ∷ [])) r.1 (param_by s z (In s (sig_of w ∷ [])) q.1 (param_by s w ⊥ p.1 (λ g. absurd g)))) h

  -- the return and the parameters of a method of the core library
  pub method_fine : (m : CoreMethod) (s : Sig) → is_low_method m ≡ true → In s ((signature_of m).ret ∷ (signature_of m).params) → IsFine recs (world_sig recs a rec s)
  unfolding signature_of
  method_fine m s low h =
      let p = and_parts (is_low_sig m.ret) (are_low m.params) low in
      param_by s m.ret (In s (params_of m.params)) p.0 (params_fine m.params s p.1) h

  pub field_fine : (f : CoreField) → is_low_field f ≡ true → IsFine recs (world_sig recs a rec (sig_of f.signature))
  field_fine f low = sig_fine f.signature low
