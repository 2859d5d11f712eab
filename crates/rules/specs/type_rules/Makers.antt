-- The constructor by which reflection makes an object (II.10.5.1): the first method of a type's own run that is named `.ctor`, is
-- public, takes `this` and nothing else, has no type parameters, and returns void.
use Rattle.std.specs.Prelude.{ℕ, List, codes, Option, slice_get, ◌==◌, ◌&&◌, Bool, false, not}
use Rattle.std.specs.Option.{option_map, option_and_then}
use Rattle.il_base.specs.declared.world_model.known.Known.{Known}
use Rattle.il_base.specs.declared.world_model.known.Known.TheVariants.{Good, Bad}
use Rattle.il_base.specs.declared.world_model.types.TypeDefRow.{TypeDefRow}
use Rattle.il_base.specs.declared.world_model.members.MethodDefRow.{MethodDefRow}
use Rattle.il_base.specs.declared.world_model.record.AsmRec.{AsmRec}
use Rattle.il_base.specs.world_model.Core.{same_name}
use Rattle.il_base.specs.world_model.Worlds.{known_then}
use Rattle.rules.specs.declared.link_rules.row_at.RowAt.{RowAt}
use Rattle.rules.specs.declared.link_rules.member_type.MethodType.{MethodType}
use Rattle.rules.specs.link_rules.Types.{at_row}
use Rattle.rules.specs.link_rules.Signatures.{names_at, method_type}
use Rattle.rules.specs.link_rules.Members.{find_in_run}
use Rattle.rules.specs.type_rules.Initializers.{are_none, is_void}
use Rattle.rules.specs.type_rules.Slots.{is_static, is_public}

abbrev pub takes_this_alone : Known MethodType → Bool
takes_this_alone (Good m) = m.this && m.generic == 0 && are_none m.params && is_void m.ret
takes_this_alone (Bad why) = false

abbrev pub is_maker : List AsmRec → ℕ → AsmRec → MethodDefRow → Bool
is_maker recs a rec m =
    same_name m.name (codes ".ctor") && is_public m && not (is_static m) && takes_this_alone (known_then (method_type (names_at recs a rec)) m.signature)

abbrev pub maker_in : List AsmRec → RowAt → AsmRec → TypeDefRow → Option RowAt
maker_in recs at rec t =
    option_map (at_row at.asm) (find_in_run (is_maker recs at.asm rec) t.method_list_first t.method_list_end rec.method_def)

-- the constructor of the type in a row
unfoldable pub maker : List AsmRec → RowAt → Option RowAt
maker recs at =
    option_and_then (λ (rec : AsmRec). option_and_then (maker_in recs at rec) (slice_get rec.type_def at.row)) (slice_get recs at.asm)
