-- Interface rows that go: what they name isn't kept, and implies nothing that is (II.22.23).
use Rattle.std.specs.Prelude.{◌≡◌, ℕ, suc, List, [], ◌∷◌, Some, slice_get, Bool, false, IsTrue}
use Rattle.std.specs.List.{Contains, list_any}
use Rattle.il_base.specs.declared.table.TheConstants.{TYPE_DEF}
use Rattle.il_base.specs.declared.world_model.expr.TypeExpr.{TypeExpr}
use Rattle.il_base.specs.declared.world_model.types.TypeDefRow.{TypeDefRow}
use Rattle.il_base.specs.declared.world_model.types.InterfaceImplRow.{InterfaceImplRow}
use Rattle.il_base.specs.declared.world_model.record.AsmRec.{AsmRec}
use Rattle.il_base.specs.world_model.Tokens.{token_of}
use Rattle.rules.specs.declared.link_rules.row_at.RowAt.{RowAt}
use Rattle.rules.specs.link_rules.Types.{at_row}
use Rattle.rules.specs.link_rules.Cycles.{led_to, same_row, home_of, interface_of, interface_rows}
use Rattle.rules.specs.change_rules.Change.{Keep}
use Rattle.rules.specs.world_change_rules.Places.{keeps_type_row}

-- none of the interfaces that one leads to by its rows in n steps, itself among them, is kept
abbrev pub Goes : Keep → List AsmRec → TypeExpr → Type 0
Goes k recs e =
    (n : ℕ) (home y : RowAt) → home_of recs e ≡ Some home → IsTrue (list_any (same_row y) (led_to same_row (interface_rows recs) n (home ∷ [])))
    → keeps_type_row k recs y ≡ false

-- an interface row of a kept type is kept where its interface is kept, or implies one that is
pub record KeepsImplied (k : Keep) (kept : RowAt → Bool) (recs : List AsmRec) : Type 0 where
  pub gone : (at : RowAt) (rec : AsmRec) (t : TypeDefRow) (n : ℕ) (row : InterfaceImplRow) (e : TypeExpr) → IsTrue (keeps_type_row k recs at) → slice_get recs at.asm ≡ Some rec
      → slice_get rec.type_def at.row ≡ Some t → slice_get rec.interface_impl n ≡ Some row → kept (at_row at.asm n) ≡ false → Contains (interface_of recs at.asm rec (token_of TYPE_DEF (suc at.row)) row) e → Goes k recs e
