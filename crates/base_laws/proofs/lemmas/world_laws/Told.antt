-- What the links of types, methods and fields tell of the rows of tokens.
use Rattle.std.proofs.Common.{◌≡◌, ◌<◌, ℕ, ◌+◌, ◌==◌, List, length, map, Option, Some, None, refl, sym, ap, subst, ◌∙◌, arith}
use Rattle.std.specs.Prelude.{slice_get}
use Rattle.std.specs.List.{range_with_len}
use Rattle.std.specs.Option.{option_map}
use Rattle.std.proofs.lemmas.List.{length-append}
use Rattle.il_base.specs.declared.table.TheConstants.{TYPE_REF, TYPE_DEF, TYPE_SPEC}
use Rattle.il_base.specs.declared.world_model.known.Known.{Known}
use Rattle.il_base.specs.declared.world_model.known.Known.TheVariants.{Good}
use Rattle.il_base.specs.declared.world_model.expr.TypeExpr.{TypeExpr}
use Rattle.il_base.specs.declared.world_model.expr.MethodUse.{MethodUse}
use Rattle.il_base.specs.declared.world_model.expr.FieldUse.{FieldUse}
use Rattle.il_base.specs.declared.world_model.types.TypeSpecRow.{TypeSpecRow}
use Rattle.il_base.specs.declared.world_model.members.MemberRefRow.{MemberRefRow}
use Rattle.il_base.specs.declared.world_model.members.MethodSpecRow.{MethodSpecRow}
use Rattle.il_base.specs.declared.world_model.record.AsmRec.{AsmRec}
use Rattle.il_base.specs.declared.world_model.world.TypeLink.{TypeLink}
use Rattle.il_base.specs.declared.world_model.world.MethodLink.{MethodLink}
use Rattle.il_base.specs.declared.world_model.world.FieldLink.{FieldLink}
use Rattle.il_base.specs.world_model.Tokens.{table_of, index_in}
use Rattle.il_base.specs.world_model.Worlds.{row_below, behind, rows_before, type_rows, type_row, method_rows, method_row, field_rows, field_row, link_place, type_link_at, method_at, field_at}
use Rattle.rules.specs.link_rules.Types.{at_row, ref_definition, added_type}
use Rattle.rules.specs.link_rules.Signatures.{definition_expr, known_expr, spec_type}
use Rattle.rules.specs.link_rules.Members.{method_def_use, field_def_use, method_ref_use, field_ref_use, method_spec_use}
use Rattle.rules.specs.link_rules.Faults.{numbered}
use Rattle.rules.specs.link_rules.Linked.{assemblies, type_link, method_link, field_link, types_of, methods_of, fields_of, links_from, world_in}
use Rattle.base_laws.proofs.lemmas.link_laws.Lists.{get_front, get_range, length_range, get_numbered, length_numbered}
use Rattle.base_laws.proofs.lemmas.link_laws.Places.{link_in}
use Rattle.base_laws.specs.world_laws.Tokens.{InWorlds, type_of_row, method_of_row, field_of_row, TellsTypes, TellsMethods, TellsFields}
use Rattle.base_laws.proofs.lemmas.world_laws.Found.{get_after, first_of_three, second_of_three, third_of_three, length_of_three, told, told_front, told_after, told_rows, by_two, by_three}

-- the links of an assembly stand where the links of its rows begin
record Stands {L : Type 0} (links own : List L) (before count : ℕ) : Type 0 where
  at : (k : ℕ) → k < count → slice_get links (before + k) ≡ slice_get own k

mapped : {A B C : Type 0} (f : B → C) (g : A → B) (o : Option A) → option_map f (option_map g o) ≡ option_map (λ x. f (g x)) o
mapped f g None = refl
mapped f g (Some x) = refl

-- ---- methods

module _ (all : List AsmRec) (a : ℕ) (rec : AsmRec) where
  abbrev method_def : ℕ → MethodLink
  method_def k = method_link a 0x06 k (method_def_use all a rec k)

  abbrev method_ref : ℕ → MemberRefRow → MethodLink
  method_ref k row = method_link a 0x0a k (method_ref_use all a rec row)

  abbrev method_spec : ℕ → MethodSpecRow → MethodLink
  method_spec k row = method_link a 0x2b k (method_spec_use all a rec row)

  abbrev method_defs : List MethodLink
  method_defs = map method_def (range_with_len 0 (length rec.method_def))

  abbrev method_refs : List MethodLink
  method_refs = numbered method_ref 0 rec.member_ref

  abbrev method_specs : List MethodLink
  method_specs = numbered method_spec 0 rec.method_spec

  long_methods : length (methods_of all a rec) ≡ method_rows rec
  unfolding methods_of
  long_methods =
      length_of_three method_defs method_refs method_specs
      ∙ rw (length_range method_def (length rec.method_def) 0, length_numbered method_ref rec.member_ref 0, length_numbered method_spec rec.method_spec 0) refl

  method_def_at : (k : ℕ) → k < length rec.method_def → slice_get (methods_of all a rec) k ≡ Some (method_def k)
  unfolding methods_of
  method_def_at k lt =
      let long = length_range method_def (length rec.method_def) 0 in
      first_of_three method_defs method_refs method_specs k (omega arith) ∙ get_range method_def (length rec.method_def) 0 k k (omega arith) lt

  method_ref_at : (k : ℕ) → k < length rec.member_ref → slice_get (methods_of all a rec) (length rec.method_def + k) ≡ option_map (method_ref k) (slice_get rec.member_ref k)
  unfolding methods_of
  method_ref_at k lt =
      let long = length_numbered method_ref rec.member_ref 0 in
      second_of_three method_defs method_refs method_specs (length rec.method_def) k (length_range method_def (length rec.method_def) 0) (omega arith)
      ∙ get_numbered method_ref rec.member_ref 0 k k (omega arith)

  method_spec_at : (k : ℕ) → slice_get (methods_of all a rec) (length rec.method_def + length rec.member_ref + k) ≡ option_map (method_spec k) (slice_get rec.method_spec k)
  unfolding methods_of
  method_spec_at k =
      third_of_three method_defs method_refs method_specs (length rec.method_def) (length rec.member_ref) k (length_range method_def (length rec.method_def) 0) (length_numbered method_ref rec.member_ref 0)
      ∙ get_numbered method_spec rec.method_spec 0 k k (omega arith)

abbrev method_to : MethodLink → Known MethodUse
method_to l = l.to

module _ (all : List AsmRec) (links : List MethodLink) (before a : ℕ) (rec : AsmRec) (stands : Stands links (methods_of all a rec) before (method_rows rec)) where
  method_def_told : (k : ℕ) → k < length rec.method_def → option_map method_to (slice_get links (before + k)) ≡ Some (method_def_use all a rec k)
  method_def_told k lt = ap (option_map method_to) (stands.at k (omega arith) ∙ method_def_at all a rec k lt)

  method_ref_told : (k : ℕ) → k < length rec.member_ref → option_map method_to (slice_get links (before + (length rec.method_def + k))) ≡ option_map (method_ref_use all a rec) (slice_get rec.member_ref k)
  method_ref_told k lt =
      ap (option_map method_to) (stands.at (length rec.method_def + k) (omega arith) ∙ method_ref_at all a rec k lt) ∙ mapped method_to (method_ref all a rec k) (slice_get rec.member_ref k)

  method_spec_told : (k : ℕ) → k < length rec.method_spec
      → option_map method_to (slice_get links (before + (length rec.method_def + length rec.member_ref + k))) ≡ option_map (method_spec_use all a rec) (slice_get rec.method_spec k)
  method_spec_told k lt =
      ap (option_map method_to) (stands.at (length rec.method_def + length rec.member_ref + k) (omega arith) ∙ method_spec_at all a rec k)
      ∙ mapped method_to (method_spec all a rec k) (slice_get rec.method_spec k)

  method_told : (token : ℕ) → told links method_to before (method_row rec token) ≡ method_of_row all a rec token
  unfolding method_row method_of_row
  method_told token =
      by_three links method_to before (row_below (length rec.method_def) (index_in 0x06 token)) (behind (length rec.method_def) (row_below (length rec.member_ref) (index_in 0x0a token)))
      (behind (length rec.method_def + length rec.member_ref) (row_below (length rec.method_spec) (index_in 0x2b token))) _ _ _ (table_of token == 0x06) (table_of token == 0x0a)
      (told_front links method_to before (length rec.method_def) (method_def_use all a rec) method_def_told (index_in 0x06 token))
      (told_rows links method_to before rec.member_ref (method_ref_use all a rec) (length rec.method_def) method_ref_told (index_in 0x0a token))
      (told_rows links method_to before rec.method_spec (method_spec_use all a rec) (length rec.method_def + length rec.member_ref) method_spec_told (index_in 0x2b token))

tells_methods : (all : List AsmRec) → TellsMethods (world_in all)
unfolding method_at link_place world_in
tells_methods all a rec is token =
    let stands : Stands (links_from (methods_of all) 0 all) (methods_of all a rec) (rows_before method_rows all a) (method_rows rec) =
    record { at = λ k below. link_in (methods_of all) method_rows (long_methods all) all 0 a a rec is (omega arith) k below } in
    rw is (method_told all (links_from (methods_of all) 0 all) (rows_before method_rows all a) a rec stands token)

pub all_methods : InWorlds TellsMethods
all_methods w is = subst TellsMethods (sym is.linked) (tells_methods (assemblies is.inputs))

-- ---- fields

module _ (all : List AsmRec) (a : ℕ) (rec : AsmRec) where
  abbrev field_def : ℕ → FieldLink
  field_def k = field_link a 0x04 k (field_def_use all a rec k)

  abbrev field_ref : ℕ → MemberRefRow → FieldLink
  field_ref k row = field_link a 0x0a k (field_ref_use all a rec row)

  abbrev field_defs : List FieldLink
  field_defs = map field_def (range_with_len 0 (length rec.field))

  abbrev field_refs : List FieldLink
  field_refs = numbered field_ref 0 rec.member_ref

  long_fields : length (fields_of all a rec) ≡ field_rows rec
  unfolding fields_of
  long_fields = length-append field_defs field_refs ∙ rw (length_range field_def (length rec.field) 0, length_numbered field_ref rec.member_ref 0) refl

  field_def_at : (k : ℕ) → k < length rec.field → slice_get (fields_of all a rec) k ≡ Some (field_def k)
  unfolding fields_of
  field_def_at k lt =
      let long = length_range field_def (length rec.field) 0 in
      get_front field_defs field_refs k (omega arith) ∙ get_range field_def (length rec.field) 0 k k (omega arith) lt

  field_ref_at : (k : ℕ) → slice_get (fields_of all a rec) (length rec.field + k) ≡ option_map (field_ref k) (slice_get rec.member_ref k)
  unfolding fields_of
  field_ref_at k =
      get_after field_defs field_refs (length rec.field) k (length_range field_def (length rec.field) 0) ∙ get_numbered field_ref rec.member_ref 0 k k (omega arith)

abbrev field_to : FieldLink → Known FieldUse
field_to l = l.to

module _ (all : List AsmRec) (links : List FieldLink) (before a : ℕ) (rec : AsmRec) (stands : Stands links (fields_of all a rec) before (field_rows rec)) where
  field_def_told : (k : ℕ) → k < length rec.field → option_map field_to (slice_get links (before + k)) ≡ Some (field_def_use all a rec k)
  field_def_told k lt = ap (option_map field_to) (stands.at k (omega arith) ∙ field_def_at all a rec k lt)

  field_ref_told : (k : ℕ) → k < length rec.member_ref → option_map field_to (slice_get links (before + (length rec.field + k))) ≡ option_map (field_ref_use all a rec) (slice_get rec.member_ref k)
  field_ref_told k lt =
      ap (option_map field_to) (stands.at (length rec.field + k) (omega arith) ∙ field_ref_at all a rec k) ∙ mapped field_to (field_ref all a rec k) (slice_get rec.member_ref k)

  field_told : (token : ℕ) → told links field_to before (field_row rec token) ≡ field_of_row all a rec token
  unfolding field_row field_of_row
  field_told token =
      by_two links field_to before (row_below (length rec.field) (index_in 0x04 token)) (behind (length rec.field) (row_below (length rec.member_ref) (index_in 0x0a token))) _ _ (table_of token == 0x04)
      (told_front links field_to before (length rec.field) (field_def_use all a rec) field_def_told (index_in 0x04 token))
      (told_rows links field_to before rec.member_ref (field_ref_use all a rec) (length rec.field) field_ref_told (index_in 0x0a token))

tells_fields : (all : List AsmRec) → TellsFields (world_in all)
unfolding field_at link_place world_in
tells_fields all a rec is token =
    let stands : Stands (links_from (fields_of all) 0 all) (fields_of all a rec) (rows_before field_rows all a) (field_rows rec) =
    record { at = λ k below. link_in (fields_of all) field_rows (long_fields all) all 0 a a rec is (omega arith) k below } in
    rw is (field_told all (links_from (fields_of all) 0 all) (rows_before field_rows all a) a rec stands token)

pub all_fields : InWorlds TellsFields
all_fields w is = subst TellsFields (sym is.linked) (tells_fields (assemblies is.inputs))

-- ---- types

module _ (all : List AsmRec) (a : ℕ) (rec : AsmRec) where
  abbrev type_ref : ℕ → TypeLink
  type_ref k = type_link a TYPE_REF k (known_expr all (ref_definition all a rec k)) (added_type all a rec k)

  abbrev type_def : ℕ → TypeLink
  type_def k = type_link a TYPE_DEF k (Good (definition_expr all (at_row a k))) None

  abbrev type_spec : ℕ → TypeSpecRow → TypeLink
  type_spec k row = type_link a TYPE_SPEC k (spec_type all a rec row) None

  abbrev type_refs : List TypeLink
  type_refs = map type_ref (range_with_len 0 (length rec.type_ref))

  abbrev type_defs : List TypeLink
  type_defs = map type_def (range_with_len 0 (length rec.type_def))

  abbrev type_specs : List TypeLink
  type_specs = numbered type_spec 0 rec.type_spec

  long_types : length (types_of all a rec) ≡ type_rows rec
  unfolding types_of
  long_types =
      length_of_three type_refs type_defs type_specs
      ∙ rw (length_range type_ref (length rec.type_ref) 0, length_range type_def (length rec.type_def) 0, length_numbered type_spec rec.type_spec 0) refl

  type_ref_at : (k : ℕ) → k < length rec.type_ref → slice_get (types_of all a rec) k ≡ Some (type_ref k)
  unfolding types_of
  type_ref_at k lt =
      let long = length_range type_ref (length rec.type_ref) 0 in
      first_of_three type_refs type_defs type_specs k (omega arith) ∙ get_range type_ref (length rec.type_ref) 0 k k (omega arith) lt

  type_def_at : (k : ℕ) → k < length rec.type_def → slice_get (types_of all a rec) (length rec.type_ref + k) ≡ Some (type_def k)
  unfolding types_of
  type_def_at k lt =
      let long = length_range type_def (length rec.type_def) 0 in
      second_of_three type_refs type_defs type_specs (length rec.type_ref) k (length_range type_ref (length rec.type_ref) 0) (omega arith)
      ∙ get_range type_def (length rec.type_def) 0 k k (omega arith) lt

  type_spec_at : (k : ℕ) → slice_get (types_of all a rec) (length rec.type_ref + length rec.type_def + k) ≡ option_map (type_spec k) (slice_get rec.type_spec k)
  unfolding types_of
  type_spec_at k =
      third_of_three type_refs type_defs type_specs (length rec.type_ref) (length rec.type_def) k (length_range type_ref (length rec.type_ref) 0) (length_range type_def (length rec.type_def) 0)
      ∙ get_numbered type_spec rec.type_spec 0 k k (omega arith)

abbrev type_to : TypeLink → Known TypeExpr
type_to l = l.to

module _ (all : List AsmRec) (links : List TypeLink) (before a : ℕ) (rec : AsmRec) (stands : Stands links (types_of all a rec) before (type_rows rec)) where
  type_ref_told : (k : ℕ) → k < length rec.type_ref → option_map type_to (slice_get links (before + k)) ≡ Some (known_expr all (ref_definition all a rec k))
  type_ref_told k lt = ap (option_map type_to) (stands.at k (omega arith) ∙ type_ref_at all a rec k lt)

  type_def_told : (k : ℕ) → k < length rec.type_def → option_map type_to (slice_get links (before + (length rec.type_ref + k))) ≡ Some (Good (definition_expr all (at_row a k)))
  type_def_told k lt = ap (option_map type_to) (stands.at (length rec.type_ref + k) (omega arith) ∙ type_def_at all a rec k lt)

  type_spec_told : (k : ℕ) → k < length rec.type_spec
      → option_map type_to (slice_get links (before + (length rec.type_ref + length rec.type_def + k))) ≡ option_map (spec_type all a rec) (slice_get rec.type_spec k)
  type_spec_told k lt =
      ap (option_map type_to) (stands.at (length rec.type_ref + length rec.type_def + k) (omega arith) ∙ type_spec_at all a rec k)
      ∙ mapped type_to (type_spec all a rec k) (slice_get rec.type_spec k)

  type_told : (token : ℕ) → told links type_to before (type_row rec token) ≡ type_of_row all a rec token
  unfolding type_row type_of_row
  type_told token =
      by_three links type_to before (row_below (length rec.type_ref) (index_in 0x01 token)) (behind (length rec.type_ref) (row_below (length rec.type_def) (index_in 0x02 token)))
      (behind (length rec.type_ref + length rec.type_def) (row_below (length rec.type_spec) (index_in 0x1b token))) _ _ _ (table_of token == 0x01) (table_of token == 0x02)
      (told_front links type_to before (length rec.type_ref) (λ k. known_expr all (ref_definition all a rec k)) type_ref_told (index_in 0x01 token))
      (told_after links type_to before (length rec.type_def) (λ k. Good (definition_expr all (at_row a k))) (length rec.type_ref) type_def_told (index_in 0x02 token))
      (told_rows links type_to before rec.type_spec (spec_type all a rec) (length rec.type_ref + length rec.type_def) type_spec_told (index_in 0x1b token))

tells_types : (all : List AsmRec) → TellsTypes (world_in all)
unfolding type_link_at link_place world_in
tells_types all a rec is token =
    let stands : Stands (links_from (types_of all) 0 all) (types_of all a rec) (rows_before type_rows all a) (type_rows rec) =
    record { at = λ k below. link_in (types_of all) type_rows (long_types all) all 0 a a rec is (omega arith) k below } in
    rw is (type_told all (links_from (types_of all) 0 all) (rows_before type_rows all a) a rec stands token)

pub all_types : InWorlds TellsTypes
all_types w is = subst TellsTypes (sym is.linked) (tells_types (assemblies is.inputs))
