-- What the tokens of types name in the world of a merge's output alone.
use Rattle.std.specs.Prelude.{◌≡◌, ◌<◌, suc, length, Some, Contains}
use Rattle.il_base.specs.declared.ids.TypeId.{TypeId}
use Rattle.il_base.specs.declared.world_model.known.Known.TheVariants.{Good}
use Rattle.il_base.specs.declared.core_table.types.TheConstants.{TYPE_COUNT}
use Rattle.rules.specs.declared.link_rules.row_at.RowAt.{RowAt}
use Rattle.rules.specs.link_rules.Signatures.{definition_expr, named_type}
use Rattle.rules.specs.link_rules.Members.{type_home}
use Rattle.rules.specs.merge_rules.Order.{Met}
use Rattle.rules.specs.merge_rules.Refs.{type_token, types_of_met}
use Rattle.rules.specs.change_rules.Moves.{move_expr}
use Rattle.rules.specs.merged_world_rules.Merge.{Merge, IsMerge, before, after, output}
use Rattle.rules.specs.merged_world_rules.NewNumbers.{rho_of}
use Rattle.merge_laws.specs.merged_references.Written.{HasReferenceRows, IsWritten, KeepsMet}

-- A type that is written is named by its token, under its new number; of the core library one that isn't added for modifiers alone.
abbrev pub TypesNamed : Type 0
TypesNamed =
    (m : Merge) → IsMerge m → HasReferenceRows m → (t : TypeId) (at : RowAt) → IsWritten m t → type_home (before m) t ≡ Some at → (suc at.asm ≡ length (before m) → at.row < TYPE_COUNT)
    → named_type (after m) 0 m.left (type_token (output m) t) ≡ Good (move_expr (rho_of m) (definition_expr (before m) at))

-- A type in what is met is written, where what is met of inputs is kept.
abbrev pub MetWritten : Type 0
MetWritten =
    (m : Merge) → IsMerge m → HasReferenceRows m → (x : Met) (t : TypeId) (at : RowAt) → Contains (output m).mets x → Contains (types_of_met (before m) x) t → type_home (before m) t ≡ Some at → KeepsMet m x
    → IsWritten m t
