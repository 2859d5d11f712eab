-- Names of the core library that modifiers use and that it doesn't have (II.7.1.1): they are added to it as types without
-- members, since a modifier is part of a signature whether its type is there or not.
use Rattle.std.specs.Prelude.{ℕ, suc, ◌+◌, List, [], ◌∷◌, ◌++◌, length, map, Option, Some, None, slice_get, ◌==◌, ◌&&◌, Bool, false, if◌then◌else◌}
use Rattle.std.specs.List.{flat_map}
use Rattle.std.specs.Option.{option_and_then}
use Rattle.il_base.specs.declared.table.TheConstants.{TYPE_REF}
use Rattle.il_base.specs.declared.sig.Sig.{Sig, fold-Sig}
use Rattle.il_base.specs.declared.sig.Sig.TheOpen.{Sig-F}
use Rattle.il_base.specs.declared.sig.MethodSig.{MethodSig}
use Rattle.il_base.specs.declared.world_model.known.Known.{Known}
use Rattle.il_base.specs.declared.world_model.known.Known.TheVariants.{Good, Bad}
use Rattle.il_base.specs.declared.world_model.expr.MemberSig.{MemberSig}
use Rattle.il_base.specs.declared.world_model.expr.MemberSig.TheVariants as member
use Rattle.il_base.specs.declared.world_model.types.TypeRefRow.{TypeRefRow}
use Rattle.il_base.specs.declared.world_model.types.TypeDefRow.{TypeDefRow}
use Rattle.il_base.specs.declared.world_model.members.FieldRow.{FieldRow}
use Rattle.il_base.specs.declared.world_model.members.MethodDefRow.{MethodDefRow}
use Rattle.il_base.specs.declared.world_model.members.MemberRefRow.{MemberRefRow}
use Rattle.il_base.specs.declared.world_model.members.StandAloneSigRow.{StandAloneSigRow}
use Rattle.il_base.specs.declared.world_model.members.PropertyRow.{PropertyRow}
use Rattle.il_base.specs.declared.world_model.types.TypeSpecRow.{TypeSpecRow}
use Rattle.il_base.specs.declared.world_model.members.MethodSpecRow.{MethodSpecRow}
use Rattle.il_base.specs.declared.world_model.record.AsmRec.{AsmRec}
use Rattle.il_base.specs.world_model.Tokens.{index_in}
use Rattle.il_base.specs.world_model.Core.{same_name}
use Rattle.il_base.specs.declared.core_table.tokens.TheConstants.{OBJECT, STATIC_TYPE}
use Rattle.rules.specs.declared.link_rules.core_type_name.CoreTypeName.{CoreTypeName}
use Rattle.rules.specs.link_rules.Types.{ends_at, scope_assembly}
use Rattle.rules.specs.link_rules.Cycles.{add_all, listed}

-- ---- modifiers

-- the tokens of the modifiers in a signature, in order
abbrev pub modifiers_layer : Sig-F (List ℕ) → List ℕ
modifiers_layer (Sig-F.Prim n) = []
modifiers_layer (Sig-F.Named value token) = []
modifiers_layer (Sig-F.Array x) = x
modifiers_layer (Sig-F.ByRef x) = x
modifiers_layer (Sig-F.Inst value token args) = flat_map (λ xs. xs) args
modifiers_layer (Sig-F.Var n) = []
modifiers_layer (Sig-F.MVar n) = []
modifiers_layer (Sig-F.Mod required token x) = token ∷ x
modifiers_layer (Sig-F.Pinned x) = x

unfoldable pub modifiers : Sig → List ℕ
modifiers = fold-Sig (List ℕ) modifiers_layer

unfoldable pub modifiers_of : List Sig → List ℕ
modifiers_of sigs = flat_map modifiers sigs

abbrev pub method_modifiers : MethodSig → List ℕ
method_modifiers s = modifiers s.ret ++ modifiers_of s.params

abbrev pub member_modifiers : MemberSig → List ℕ
member_modifiers (member.Field s) = modifiers s
member_modifiers (member.Method s) = method_modifiers s

abbrev pub in_good : {A : Type 0} → (A → List ℕ) → Known A → List ℕ
in_good tokens (Good x) = tokens x
in_good tokens (Bad why) = []

-- the tokens of the modifiers in the signatures of an assembly that have a reading, table by table
unfoldable pub all_modifiers : AsmRec → List ℕ
all_modifiers rec =
    flat_map (λ (r : FieldRow). in_good modifiers r.signature) rec.field
    ++ flat_map (λ (r : MethodDefRow). in_good method_modifiers r.signature) rec.method_def
    ++ flat_map (λ (r : MemberRefRow). in_good member_modifiers r.signature) rec.member_ref
    ++ flat_map (λ (r : StandAloneSigRow). in_good modifiers_of r.signature) rec.stand_alone_sig
    ++ flat_map (λ (r : PropertyRow). in_good method_modifiers r.signature) rec.property
    ++ flat_map (λ (r : TypeSpecRow). in_good modifiers r.signature) rec.type_spec
    ++ flat_map (λ (r : MethodSpecRow). in_good modifiers_of r.instantiation) rec.method_spec

-- ---- names that the core library lacks

abbrev pub same_core_name : CoreTypeName → CoreTypeName → Bool
same_core_name x y = same_name x.name y.name && same_name x.namespace y.namespace

abbrev pub is_last : List AsmRec → Option ℕ → Bool
is_last all None = false
is_last all (Some a) = suc a == length all

-- whether the search for a name that isn't nested ends in the core library, the last assembly, and finds nothing there
unfoldable pub is_missing : List AsmRec → Option ℕ → List ℕ → List ℕ → Bool
is_missing all scope namespace name = is_last all (option_and_then (ends_at all (length all) namespace name) scope)

-- the name in a TypeRef row, where it leads to the core library, directly or through forwarders, and that has no type of the name
abbrev pub missing_name : List AsmRec → ℕ → AsmRec → TypeRefRow → List CoreTypeName
missing_name all a rec row =
    if is_missing all (scope_assembly all a rec row) row.namespace row.name
    then record { namespace = row.namespace; name = row.name } ∷ [] else []

abbrev pub missing_at : List AsmRec → ℕ → AsmRec → ℕ → List CoreTypeName
missing_at all a rec token =
    flat_map (missing_name all a rec) (listed (option_and_then (slice_get rec.type_ref) (index_in TYPE_REF token)))

abbrev pub missing_in : List AsmRec → ℕ → AsmRec → List CoreTypeName
missing_in all a rec = flat_map (missing_at all a rec) (all_modifiers rec)

abbrev pub missing_from : List AsmRec → ℕ → List AsmRec → List CoreTypeName
missing_from all a [] = []
missing_from all a (rec ∷ recs) = missing_in all a rec ++ missing_from all (suc a) recs

-- all missing names, each once, in the order in which they are met; the last assembly is the core library without added types
unfoldable pub missing_names : List AsmRec → List CoreTypeName
missing_names all = add_all same_core_name [] (missing_from all 0 all)

-- ---- the core library with them

-- the row of an added type: public, abstract and sealed, as .NET has IsVolatile or IsExternalInit
abbrev pub added_row : AsmRec → CoreTypeName → TypeDefRow
added_row core x = record {
  flags = STATIC_TYPE;
  name = x.name;
  namespace = x.namespace;
  extends = OBJECT;
  field_list_first = length core.field + 1;
  field_list_end = length core.field + 1;
  method_list_first = length core.method_def + 1;
  method_list_end = length core.method_def + 1;
}

unfoldable pub core_with : AsmRec → List CoreTypeName → AsmRec
core_with core names = record core { type_def = core.type_def ++ map (added_row core) names }
