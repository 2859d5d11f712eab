-- What the links of a world tell of a token: what linking says of the row that the token names, and nothing where no such row
-- is there. Assemblies are counted from 0.
use Rattle.std.specs.Prelude.{◌≡◌, ℕ, List, length, Option, Some, slice_get, ◌==◌, if◌then◌else◌}
use Rattle.std.specs.Option.{option_map, option_and_then}
use Rattle.il_base.specs.declared.table.TheConstants.{TYPE_REF, TYPE_DEF, TYPE_SPEC, FIELD, METHOD_DEF, MEMBER_REF, METHOD_SPEC}
use Rattle.il_base.specs.declared.world_model.known.Known.{Known}
use Rattle.il_base.specs.declared.world_model.known.Known.TheVariants.{Good}
use Rattle.il_base.specs.declared.world_model.expr.TypeExpr.{TypeExpr}
use Rattle.il_base.specs.declared.world_model.expr.MethodUse.{MethodUse}
use Rattle.il_base.specs.declared.world_model.expr.FieldUse.{FieldUse}
use Rattle.il_base.specs.declared.world_model.record.AsmRec.{AsmRec}
use Rattle.il_base.specs.declared.world_model.world.World.{World}
use Rattle.il_base.specs.world_model.Tokens.{table_of, index_in}
use Rattle.il_base.specs.world_model.Worlds.{known_or, row_below, types_in, type_at, method_at, field_at}
use Rattle.rules.specs.link_rules.Types.{at_row, ref_definition}
use Rattle.rules.specs.link_rules.Signatures.{definition_expr, known_expr, spec_type, token_type}
use Rattle.rules.specs.link_rules.Members.{methods_in, fields_in, method_def_use, field_def_use, method_ref_use, field_ref_use, method_spec_use}
use Rattle.rules.specs.link_rules.Linked.{IsWorld}
use Rattle.rules.specs.mark_rules.Naming.{method_named, field_named}

-- a property holds of each world that a link gave
abbrev pub InWorlds : (World → Type 0) → Type 0
InWorlds P = (w : World) → IsWorld w → P w

-- a property holds of each token of each assembly of a world
abbrev pub OfTokens : World → (ℕ → AsmRec → ℕ → Type 0) → Type 0
OfTokens w P = (a : ℕ) (rec : AsmRec) → slice_get w.recs a ≡ Some rec → (token : ℕ) → P a rec token

-- ---- the row that a token names; None where no such row is there

-- of a TypeRef, TypeDef or TypeSpec token (II.22.38, II.22.37, II.22.39)
unfoldable pub type_of_row : List AsmRec → ℕ → AsmRec → ℕ → Option (Known TypeExpr)
type_of_row recs a rec token =
    if table_of token == TYPE_REF then option_map (λ k. known_expr recs (ref_definition recs a rec k)) (row_below (length rec.type_ref) (index_in TYPE_REF token))
    else if table_of token == TYPE_DEF then option_map (λ k. Good (definition_expr recs (at_row a k))) (row_below (types_in rec) (index_in TYPE_DEF token))
    else option_map (spec_type recs a rec) (option_and_then (slice_get rec.type_spec) (index_in TYPE_SPEC token))

-- of a MethodDef, MemberRef or MethodSpec token (II.22.26, II.22.25, II.22.29)
unfoldable pub method_of_row : List AsmRec → ℕ → AsmRec → ℕ → Option (Known MethodUse)
method_of_row recs a rec token =
    if table_of token == METHOD_DEF then option_map (method_def_use recs a rec) (row_below (methods_in rec) (index_in METHOD_DEF token))
    else if table_of token == MEMBER_REF then option_map (method_ref_use recs a rec) (option_and_then (slice_get rec.member_ref) (index_in MEMBER_REF token))
    else option_map (method_spec_use recs a rec) (option_and_then (slice_get rec.method_spec) (index_in METHOD_SPEC token))

-- of a Field or MemberRef token (II.22.15, II.22.25)
unfoldable pub field_of_row : List AsmRec → ℕ → AsmRec → ℕ → Option (Known FieldUse)
field_of_row recs a rec token =
    if table_of token == FIELD then option_map (field_def_use recs a rec) (row_below (fields_in rec) (index_in FIELD token))
    else option_map (field_ref_use recs a rec) (option_and_then (slice_get rec.member_ref) (index_in MEMBER_REF token))

-- ---- what links tell of rows

abbrev pub TellsTypes : World → Type 0
TellsTypes w = OfTokens w (λ a rec token. type_at w a token ≡ type_of_row w.recs a rec token)

abbrev pub TellsMethods : World → Type 0
TellsMethods w = OfTokens w (λ a rec token. method_at w a token ≡ method_of_row w.recs a rec token)

abbrev pub TellsFields : World → Type 0
TellsFields w = OfTokens w (λ a rec token. field_at w a token ≡ field_of_row w.recs a rec token)

-- ---- what links tell of parts of an item, as the rules of marking name them; a token of no row names nothing by either

abbrev pub NamesTypes : World → Type 0
NamesTypes w = OfTokens w (λ a rec token. known_or (type_at w a token) ≡ token_type w.recs a rec token)

abbrev pub NamesMethods : World → Type 0
NamesMethods w = OfTokens w (λ a rec token. known_or (method_at w a token) ≡ method_named w.recs a rec token)

abbrev pub NamesFields : World → Type 0
NamesFields w = OfTokens w (λ a rec token. known_or (field_at w a token) ≡ field_named w.recs a rec token)
