-- Value types in the fields of value types, as ids, by the links of type tokens.
use Rattle.std.specs.Prelude.{ℕ, suc, ◌-◌, List, [], ◌∷◌, ◌++◌, length, Option, Some, None, slice_get, unwrap_or, nat_eq, ◌&&◌, ◌||◌, Bool, false, not, if◌then◌else◌}
use Rattle.std.specs.List.{flat_map}
use Rattle.il_base.specs.declared.world_model.known.Known.{Known}
use Rattle.il_base.specs.declared.ids.TypeId.{TypeId}
use Rattle.il_base.specs.declared.sig.Sig.{Sig}
use Rattle.il_base.specs.declared.world_model.tokens.TheConstants.{FIRST_TYPE_DEF}
use Rattle.il_base.specs.declared.world_model.expr.TypeExpr.{TypeExpr, fold-TypeExpr}
use Rattle.il_base.specs.declared.world_model.expr.TypeExpr.TheOpen.{TypeExpr-F}
use Rattle.il_base.specs.declared.world_model.types.TypeDefRow.{TypeDefRow}
use Rattle.il_base.specs.declared.world_model.members.FieldRow.{FieldRow}
use Rattle.il_base.specs.declared.world_model.record.AsmRec.{AsmRec}
use Rattle.il_base.specs.declared.world_model.world.TypeLink.{TypeLink}
use Rattle.il_base.specs.world_model.Worlds.{known_then, sig_expr, names_by, type_id}
use Rattle.il_base.specs.declared.core_table.tokens.TheConstants.{VALUE_TYPE, ENUM}
use Rattle.rules.specs.link_rules.Members.{good_type, run_of}
use Rattle.rules.specs.link_rules.Cycles.{listed, is_static_field}
use Rattle.rules.specs.link_rules.Faults.{numbered}
use Rattle.rules.specs.link_rules.Linked.{links_from}
use Rattle.link_faults.specs.Supertypes.{base_target}

-- ---- which types are value types (II.13)

-- the id of a type of the core library, whether it is there or not
abbrev pub core_type : List AsmRec → ℕ → TypeId
core_type all token = type_id all (length all - 1) (token - FIRST_TYPE_DEF)

abbrev pub is_core_type : List AsmRec → ℕ → Option ℕ → Bool
is_core_type all token None = false
is_core_type all token (Some id) = nat_eq id (core_type all token).0

-- whether the type in this row of an assembly is System.Enum
abbrev pub is_enum_itself : List AsmRec → ℕ → ℕ → Bool
is_enum_itself all a k = nat_eq (suc a) (length all) && nat_eq k (ENUM - FIRST_TYPE_DEF)

abbrev pub is_value : List AsmRec → List TypeLink → ℕ → ℕ → TypeDefRow → Bool
is_value all links a k t =
    (is_core_type all VALUE_TYPE (base_target all links a t) && not (is_enum_itself all a k)) || is_core_type all ENUM (base_target all links a t)

-- a flag for each type, in the order of ids: whether it is a value type
abbrev pub all_values : List AsmRec → List TypeLink → List Bool
all_values all links = links_from (λ a (rec : AsmRec). numbered (is_value all links a) 0 rec.type_def) 0 all

-- ---- value types in a type

abbrev pub flagged : List Bool → ℕ → List ℕ
flagged values id = if unwrap_or (slice_get values id) false then id ∷ [] else []

abbrev pub with_parts : List ℕ → List ℕ → List ℕ
with_parts [] parts = []
with_parts (id ∷ ids) parts = id ∷ ids ++ parts

abbrev pub held_layer : List Bool → TypeExpr-F (List ℕ) → List ℕ
held_layer values (TypeExpr-F.Def t) = flagged values t.0
held_layer values (TypeExpr-F.Inst t args) = with_parts (flagged values t.0) (flat_map (λ ids. ids) args)
held_layer values (TypeExpr-F.Mod required by ids) = ids
held_layer values _ = []

unfoldable pub held_in : List Bool → TypeExpr → List ℕ
held_in values = fold-TypeExpr (List ℕ) (held_layer values)

-- ---- value types in fields

abbrev pub field_type : List AsmRec → List TypeLink → ℕ → Known Sig → Option TypeExpr
field_type all links a signature = good_type (known_then (sig_expr (names_by all links a)) signature)

abbrev pub held_in_field : List AsmRec → List TypeLink → List Bool → ℕ → FieldRow → List ℕ
held_in_field all links values a f = if is_static_field f then [] else flat_map (held_in values) (listed (field_type all links a f.signature))

abbrev pub held_by : List AsmRec → List TypeLink → List Bool → ℕ → AsmRec → ℕ → TypeDefRow → List ℕ
held_by all links values a rec k t =
    if is_value all links a k t then flat_map (held_in_field all links values a) (run_of t.field_list_first t.field_list_end rec.field) else []

abbrev pub all_held : List AsmRec → List TypeLink → List Bool → List (List ℕ)
all_held all links values = links_from (λ a (rec : AsmRec). numbered (held_by all links values a rec) 0 rec.type_def) 0 all
