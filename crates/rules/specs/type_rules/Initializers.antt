-- The initializer of a type (II.10.5.3): the first method of its run that is named `.cctor`, is static, has no `this`, no
-- parameters and no type parameters, and returns void.
use Rattle.std.specs.Prelude.{ℕ, List, [], ◌∷◌, codes, Option, slice_get, ◌==◌, ◌&&◌, Bool, true, false, not}
use Rattle.std.specs.Option.{option_map, option_and_then}
use Rattle.il_base.specs.declared.element.TheConstants.{VOID}
use Rattle.il_base.specs.declared.world_model.known.Known.{Known}
use Rattle.il_base.specs.declared.world_model.known.Known.TheVariants.{Good, Bad}
use Rattle.il_base.specs.declared.world_model.expr.TypeExpr.{TypeExpr, fold-TypeExpr}
use Rattle.il_base.specs.declared.world_model.expr.TypeExpr.TheOpen.{TypeExpr-F}
use Rattle.il_base.specs.declared.world_model.types.TypeDefRow.{TypeDefRow}
use Rattle.il_base.specs.declared.world_model.members.MethodDefRow.{MethodDefRow}
use Rattle.il_base.specs.declared.world_model.record.AsmRec.{AsmRec}
use Rattle.il_base.specs.world_model.Core.{same_name}
use Rattle.il_base.specs.world_model.Worlds.{known_then}
use Rattle.rules.specs.declared.link_rules.row_at.RowAt.{RowAt}
use Rattle.rules.specs.declared.link_rules.member_type.MethodType.{MethodType}
use Rattle.rules.specs.link_rules.Types.{at_row}
use Rattle.rules.specs.link_rules.Signatures.{names_at, method_type}
use Rattle.rules.specs.link_rules.Members.{find_in_run}
use Rattle.rules.specs.type_rules.Slots.{is_static}

abbrev pub void_layer : TypeExpr-F Bool → Bool
void_layer (TypeExpr-F.Prim n) = n == VOID
void_layer (TypeExpr-F.Mod required by x) = x
void_layer _ = false

-- whether a type is void, modifiers aside
unfoldable pub is_void : TypeExpr → Bool
is_void = fold-TypeExpr Bool void_layer

abbrev pub are_none : {A : Type 0} → List A → Bool
are_none [] = true
are_none (x ∷ xs) = false

abbrev pub takes_and_gives_nothing : Known MethodType → Bool
takes_and_gives_nothing (Good m) = not m.this && m.generic == 0 && are_none m.params && is_void m.ret
takes_and_gives_nothing (Bad why) = false

abbrev pub is_initializer : List AsmRec → ℕ → AsmRec → MethodDefRow → Bool
is_initializer recs a rec m =
    same_name m.name (codes ".cctor") && is_static m && takes_and_gives_nothing (known_then (method_type (names_at recs a rec)) m.signature)

abbrev pub initializer_in : List AsmRec → RowAt → AsmRec → TypeDefRow → Option RowAt
initializer_in recs at rec t =
    option_map (at_row at.asm) (find_in_run (is_initializer recs at.asm rec) t.method_list_first t.method_list_end rec.method_def)

unfoldable pub initializer : List AsmRec → RowAt → Option RowAt
initializer recs at =
    option_and_then (λ (rec : AsmRec). option_and_then (initializer_in recs at rec) (slice_get rec.type_def at.row)) (slice_get recs at.asm)
