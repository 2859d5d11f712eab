-- Signatures of the core library's members are primitives, types of its own table, vectors of these and parameters of methods; its methods have no bodies.
use Rattle.std.proofs.Common.{◌≡◌, ℕ, ◌/◌, List, [], ◌∷◌, map, Bool, true, false, ◌&&◌, inl, refl, arith, eqb-true, ltb-true}
use Rattle.std.specs.Prelude.{All, ◌==◌, nat_lt}
use Rattle.std.specs.List.{list_all}
use Rattle.std.proofs.lemmas.Bool.{and_parts}
use Rattle.std.proofs.lemmas.List.Elements.{All-nil}
use Rattle.il_base.specs.declared.sig.Sig.{Sig}
use Rattle.il_base.specs.declared.sig.Sig.TheVariants as sig
use Rattle.il_base.specs.blob_grammar.Signatures.{is_primitive, levels, IsType, IsMethod, IsProperty, IsField, AreLocals, IsInstance}
use Rattle.il_base.specs.blob_grammar.Values.{FitsType, FitTypes, FitRow, FitsMethod, primitive, named, of_method, vector, none, more}
use Rattle.il_base.specs.declared.world_model.members.FieldRow.{FieldRow}
use Rattle.il_base.specs.declared.world_model.members.MethodDefRow.{MethodDefRow}
use Rattle.il_base.specs.declared.world_model.members.MemberRefRow.{MemberRefRow}
use Rattle.il_base.specs.declared.world_model.members.MethodSpecRow.{MethodSpecRow}
use Rattle.il_base.specs.declared.world_model.members.StandAloneSigRow.{StandAloneSigRow}
use Rattle.il_base.specs.declared.world_model.members.PropertyRow.{PropertyRow}
use Rattle.il_base.specs.declared.world_model.types.TypeSpecRow.{TypeSpecRow}
use Rattle.il_base.specs.declared.core_table.shape.CoreField.{CoreField}
use Rattle.il_base.specs.declared.core_table.shape.CoreMethod.{CoreMethod}
use Rattle.il_base.specs.declared.core_table.shape.CoreParams.{CoreParams}
use Rattle.il_base.specs.declared.core_table.shape.CoreParams.TheVariants.{Zero, One, Two, Three, Four}
use Rattle.il_base.specs.declared.core_table.shape.CoreSig.{CoreSig}
use Rattle.il_base.specs.declared.core_table.shape.CoreSig.TheVariants as core
use Rattle.il_base.specs.declared.core_table.shape.CoreType.{CoreType}
use Rattle.il_base.specs.declared.core_table.types.TheConstants.{TYPES}
use Rattle.il_base.specs.core_table.Members.{fields_of, methods_of}
use Rattle.il_base.specs.core_table.Record.{sig_of, params_of, signature_of, field_row, method_row, all_fields, all_methods, record_with, core_record}
use Rattle.rules.specs.declared.link_rules.core_type_name.CoreTypeName.{CoreTypeName}
use Rattle.rules.specs.link_rules.CoreNames.{core_with}
use Rattle.record_writer.specs.row_writer.CanWrite.{HasSpelling, HasMemberSpelling, CanWriteRows}
use Rattle.record_writer.specs.CanWrite.{HasBody}
use Rattle.trim_laws.specs.spelled_parts.Laws.{CoreIsSpelled}
use Rattle.trim_laws.proofs.lemmas.spelled_parts.Lists.{Every, all_none, all_more, all_join, all_map, all_by}
use Rattle.trim_laws.proofs.lemmas.spelled_parts.Recs.{Values}

-- ---- a test of the table

abbrev is_type : ℕ → Bool
is_type token = token / 16777216 == 2

abbrev is_short : ℕ → Bool
is_short n = nat_lt n 536870912

abbrev fits_sig : CoreSig → Bool
fits_sig (core.Prim n) = is_primitive n
fits_sig (core.Class token) = is_type token
fits_sig (core.Value token) = is_type token
fits_sig (core.Prims n) = is_primitive n
fits_sig (core.Classes token) = is_type token
fits_sig (core.MVar n) = is_short n

abbrev fit_params : CoreParams → Bool
fit_params Zero = true
fit_params (One a) = fits_sig a
fit_params (Two a b) = fits_sig a && fits_sig b
fit_params (Three a b c) = fits_sig a && fits_sig b && fits_sig c
fit_params (Four a b c d) = fits_sig a && fits_sig b && fits_sig c && fits_sig d

abbrev fits_method : CoreMethod → Bool
fits_method m = is_short m.type_params && fits_sig m.ret && fit_params m.params

abbrev fits_field : CoreField → Bool
fits_field f = fits_sig f.signature

abbrev fits_members : CoreType → Bool
fits_members t = list_all fits_method (methods_of t.members) && list_all fits_field (fields_of t.members)

all_fit : list_all fits_members TYPES ≡ true
unfolding methods_of fields_of
all_fit = refl

-- ---- what passes it

sig_fits : (c : CoreSig) → fits_sig c ≡ true → FitsType levels (sig_of c)
sig_fits (core.Prim n) h = primitive levels n h
sig_fits (core.Class token) h = named levels false token (inl (eqb-true (token / 16777216) 2 h))
sig_fits (core.Value token) h = named levels true token (inl (eqb-true (token / 16777216) 2 h))
sig_fits (core.Prims n) h = vector 63 (sig.Prim n) (primitive 63 n h)
sig_fits (core.Classes token) h = vector 63 (sig.Named false token) (named 63 false token (inl (eqb-true (token / 16777216) 2 h)))
sig_fits (core.MVar n) h = of_method levels n (ltb-true n 536870912 h)

one_more : (c : CoreSig) (ss : List Sig) → fits_sig c ≡ true → FitTypes levels ss → FitTypes levels (sig_of c ∷ ss)
one_more c ss h t = more levels (sig_of c) ss (sig_fits c h) t

params_fit : (ps : CoreParams) → fit_params ps ≡ true → FitRow (params_of ps)
unfolding params_of
params_fit Zero h = record { count = omega arith; each = none levels }
params_fit (One a) h = record { count = omega arith; each = one_more a [] h (none levels) }
params_fit (Two a b) h = let p = and_parts (fits_sig a) (fits_sig b) h in record { count = omega arith; each = one_more a (sig_of b ∷ []) p.0 (one_more b [] p.1 (none levels)) }
params_fit (Three a b c) h =
    let q = and_parts (fits_sig a && fits_sig b) (fits_sig c) h in
    let p = and_parts (fits_sig a) (fits_sig b) q.0 in
    record { count = omega arith; each = one_more a (sig_of b ∷ sig_of c ∷ []) p.0 (one_more b (sig_of c ∷ []) p.1 (one_more c [] q.1 (none levels))) }
params_fit (Four a b c d) h =
    let r = and_parts (fits_sig a && fits_sig b && fits_sig c) (fits_sig d) h in
    let q = and_parts (fits_sig a && fits_sig b) (fits_sig c) r.0 in
    let p = and_parts (fits_sig a) (fits_sig b) q.0 in
    record { count = omega arith; each = one_more a (sig_of b ∷ sig_of c ∷ sig_of d ∷ []) p.0 (one_more b (sig_of c ∷ sig_of d ∷ []) p.1 (one_more c (sig_of d ∷ []) q.1 (one_more d [] r.1 (none levels)))) }

method_fits : (m : CoreMethod) → fits_method m ≡ true → FitsMethod (signature_of m)
unfolding signature_of
method_fits m h =
    let p = and_parts (is_short m.type_params && fits_sig m.ret) (fit_params m.params) h in
    let q = and_parts (is_short m.type_params) (fits_sig m.ret) p.0 in
    record { generic = ltb-true m.type_params 536870912 q.0; ret = sig_fits m.ret q.1; params = params_fit m.params p.1 }

-- ---- rows

passing : {A : Type 0} (test : A → Bool) (xs : List A) → list_all test xs ≡ true → Every (λ x. test x ≡ true) xs
passing test [] h = all_none (λ x. test x ≡ true)
passing test (x ∷ xs) h = let p = and_parts (test x) (list_all test xs) h in all_more (λ y. test y ≡ true) x xs p.0 (passing test xs p.1)

module _ (v : Values) where
  abbrev MethodSpelled : MethodDefRow → Type 0
  MethodSpelled row = HasSpelling IsMethod row.signature

  abbrev NoBody : MethodDefRow → Type 0
  NoBody row = HasBody row.body

  abbrev FieldSpelled : FieldRow → Type 0
  FieldSpelled row = HasSpelling IsField row.signature

  method_spelled : (m : CoreMethod) → fits_method m ≡ true → MethodSpelled (method_row m)
  unfolding method_row
  method_spelled m h = (v.methods (signature_of m)).0 (method_fits m h)

  no_body : (m : CoreMethod) → NoBody (method_row m)
  unfolding method_row
  no_body m = tt

  field_spelled : (f : CoreField) → fits_field f ≡ true → FieldSpelled (field_row f)
  unfolding field_row
  field_spelled f h = (v.fields (sig_of f.signature)).0 (sig_fits f.signature h)

  methods_spelled : (ts : List CoreType) → list_all fits_members ts ≡ true → Every MethodSpelled (all_methods ts)
  unfolding all_methods
  methods_spelled [] h = all_none MethodSpelled
  methods_spelled (t ∷ ts) h =
      let p = and_parts (fits_members t) (list_all fits_members ts) h in
      let q = and_parts (list_all fits_method (methods_of t.members)) (list_all fits_field (fields_of t.members)) p.0 in
      let all = passing fits_method (methods_of t.members) q.0 in
      all_join MethodSpelled (map method_row (methods_of t.members)) (all_methods ts) (all_map MethodSpelled method_row (methods_of t.members) (λ m c. method_spelled m (all.each m c))) (methods_spelled ts p.1)

  no_bodies : (ts : List CoreType) → Every NoBody (all_methods ts)
  unfolding all_methods
  no_bodies [] = all_none NoBody
  no_bodies (t ∷ ts) = all_join NoBody (map method_row (methods_of t.members)) (all_methods ts) (all_map NoBody method_row (methods_of t.members) (λ m c. no_body m)) (no_bodies ts)

  fields_spelled : (ts : List CoreType) → list_all fits_members ts ≡ true → Every FieldSpelled (all_fields ts)
  unfolding all_fields
  fields_spelled [] h = all_none FieldSpelled
  fields_spelled (t ∷ ts) h =
      let p = and_parts (fits_members t) (list_all fits_members ts) h in
      let q = and_parts (list_all fits_method (methods_of t.members)) (list_all fits_field (fields_of t.members)) p.0 in
      let all = passing fits_field (fields_of t.members) q.1 in
      all_join FieldSpelled (map field_row (fields_of t.members)) (all_fields ts) (all_map FieldSpelled field_row (fields_of t.members) (λ f c. field_spelled f (all.each f c))) (fields_spelled ts p.1)

  rows_spelled : (names : List CoreTypeName) → CanWriteRows (core_with core_record names)
  unfolding core_with core_record record_with
  rows_spelled names = record {
    fields = all_by FieldSpelled (all_fields TYPES) (fields_spelled TYPES all_fit);
    methods = all_by MethodSpelled (all_methods TYPES) (methods_spelled TYPES all_fit);
    members = All-nil (λ (row : MemberRefRow). HasMemberSpelling row.signature);
    locals = All-nil (λ (row : StandAloneSigRow). HasSpelling AreLocals row.signature);
    properties = All-nil (λ (row : PropertyRow). HasSpelling IsProperty row.signature);
    types = All-nil (λ (row : TypeSpecRow). HasSpelling (IsType levels) row.signature);
    instances = All-nil (λ (row : MethodSpecRow). HasSpelling IsInstance row.instantiation);
  }

  bodies_spelled : (names : List CoreTypeName) → All NoBody (core_with core_record names).method_def
  unfolding core_with core_record record_with
  bodies_spelled names = all_by NoBody (all_methods TYPES) (no_bodies TYPES)

  pub core_spelled : CoreIsSpelled
  core_spelled names = record { rows = rows_spelled names; bodies = bodies_spelled names }
