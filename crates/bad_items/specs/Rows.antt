-- The flaws of marked items, in pieces.
use Rattle.std.specs.Prelude.{ℕ, suc, List, [], ◌∷◌, ◌++◌, Bool, Option, Some, None, ◌&&◌, ◌||◌, nat_lt, nat_eq}
use Rattle.std.specs.List.{flat_map}
use Rattle.il_base.specs.declared.ids.Item.{Item}
use Rattle.il_base.specs.declared.ids.Item.TheVariants as item
use Rattle.il_base.specs.declared.table.TheConstants.{METHOD_DEF}
use Rattle.il_base.specs.declared.world_model.known.BadKind.TheVariants.{Unresolved}
use Rattle.il_base.specs.declared.world_model.expr.MethodUse.{MethodUse}
use Rattle.il_base.specs.declared.world_model.members.MethodImplRow.{MethodImplRow}
use Rattle.il_base.specs.declared.world_model.record.AsmRec.{AsmRec}
use Rattle.il_base.specs.world_model.Tokens.{token_of}
use Rattle.rules.specs.declared.link_rules.row_at.RowAt.{RowAt}
use Rattle.rules.specs.link_rules.Types.{at_row}
use Rattle.rules.specs.link_rules.Members.{generic_method}
use Rattle.rules.specs.link_rules.Cycles.{listed}
use Rattle.rules.specs.type_rules.Slots.{type_of_method}
use Rattle.rules.specs.type_rules.Rows.{rec_at}
use Rattle.rules.specs.mark_rules.Places.{type_item}
use Rattle.rules.specs.mark_rules.BadItems.{Flaw, flaw, rank, part_flaws, own_flaws, attribute_flaws, ImplRow, declaration_flaw}
use Rattle.base_laws.specs.flaw_laws.Listed.{row_flaws, impl_flaws_in}

-- ---- the order

abbrev pub before_in_row : Flaw → Flaw → Bool
before_in_row x y = nat_lt x.offset y.offset || nat_eq x.offset y.offset && nat_lt (rank x.kind) (rank y.kind)

-- ---- the entry

abbrev pub entry_flaw : List AsmRec → RowAt → List Flaw
entry_flaw recs at = by_type (type_of_method recs at)
  where
    by_type : Option RowAt → List Flaw
    by_type (Some t) = []
    by_type None = flaw at (token_of METHOD_DEF (suc at.row)) 0 Unresolved ∷ []

-- ---- an item in a row

abbrev pub flaws_in : List AsmRec → Item → RowAt → AsmRec → List Flaw
flaws_in recs i at rec = part_flaws recs i at ++ own_flaws recs i at rec ++ attribute_flaws recs i at rec

abbrev pub flaws_at : List AsmRec → Item → RowAt → List Flaw
flaws_at recs i at = flat_map (flaws_in recs i at) (listed (rec_at recs at))

-- ---- rows of MethodImpl

-- with the class in a row and a body
abbrev pub impl_row : List AsmRec → ℕ → AsmRec → ℕ → MethodImplRow → ℕ → MethodUse → ImplRow
impl_row recs a rec k row c u = record { class = type_item recs (at_row a c); body = item.Method u.method; flaws = declaration_flaw (at_row a k) k (generic_method recs a rec row.declaration) }

-- with a class and a body, if any
abbrev pub kept_flaws : List AsmRec → (Item → Bool) → ℕ → AsmRec → ℕ → MethodImplRow → Option ℕ → Option MethodUse → List Flaw
kept_flaws recs have a rec k row class body =
    flat_map (λ c. flat_map (λ u. row_flaws have (impl_row recs a rec k row c u)) (listed body)) (listed class)

-- of an assembly in a place
abbrev pub impl_flaws_at : List AsmRec → (Item → Bool) → ℕ → Option AsmRec → List Flaw
impl_flaws_at recs have a rec = flat_map (impl_flaws_in recs have a) (listed rec)
