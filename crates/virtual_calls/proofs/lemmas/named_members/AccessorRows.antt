-- The accessors of a property or an event, by the rows of MethodSemantics that belong to it.
use Rattle.std.proofs.Common.{◌≡◌, ℕ, suc, List, [], ◌∷◌, ◌++◌, map, Bool, true, false, Option, Some, None, refl, sym, ap, ◌∙◌, append-nil}
use Rattle.std.specs.Prelude.{◌==◌, slice_get, if◌then◌else◌}
use Rattle.std.specs.List.{flat_map, filter}
use Rattle.std.specs.Option.{option_map_or}
use Rattle.il_base.specs.declared.table.TheConstants.{METHOD_DEF}
use Rattle.std.proofs.lemmas.List.{map-append}
use Rattle.il_base.specs.declared.world_model.members.MethodSemanticsRow.{MethodSemanticsRow}
use Rattle.il_base.specs.declared.world_model.record.AsmRec.{AsmRec}
use Rattle.il_base.specs.world_model.Tokens.{token_of, index_in}
use Rattle.rules.specs.declared.link_rules.row_at.RowAt.{RowAt}
use Rattle.rules.specs.link_rules.Types.{at_row}
use Rattle.rules.specs.link_rules.Cycles.{listed}
use Rattle.rules.specs.type_rules.Searches.{accessors, has_owner, accessor_of}
use Rattle.type_tables.specs.declared.tables.RowTables.{RowTables}
use Rattle.type_tables.specs.Groups.{rows_with}
use Rattle.type_tables.specs.Tables.{AreRowTables}
use Rattle.type_tables.proofs.Grouped.{flat_grouped}
use Rattle.virtual_calls.specs.named_members.Accessors.{owned_at, method_of, method_under}

map_flat : {X A B : Type 0} (f : A → B) (g : X → List A) (xs : List X) → map f (flat_map g xs) ≡ flat_map (λ x. map f (g x)) xs
map_flat f g [] = refl
map_flat f g (x ∷ xs) = map-append f (g x) (flat_map g xs) ∙ ap (λ (ys : List _). map f (g x) ++ ys) (map_flat f g xs)

if_named : (rec : AsmRec) (asm : ℕ) (b : Bool) (o : Option ℕ)
    → map (at_row asm) (if b then filter (has_owner rec) (listed o) else []) ≡ (if b then map (at_row asm) (filter (has_owner rec) (listed o)) else [])
if_named rec asm true o = refl
if_named rec asm false o = refl

pub accessors_found : (recs : List AsmRec) (rec : AsmRec) (tables : RowTables) → AreRowTables rec tables → (table : ℕ) (at : RowAt) → slice_get recs at.asm ≡ Some rec
    → flat_map (method_under rec at.asm) (rows_with tables.semantics (token_of table (suc at.row))) ≡ accessors recs table at
accessors_found recs rec tables are table at e =
    let token : ℕ = token_of table (suc at.row) in
    let f : MethodSemanticsRow → List RowAt = λ row. map (at_row at.asm) (accessor_of rec token row) in
    flat_grouped (λ (r : MethodSemanticsRow). r.association) token rec.method_semantics tables.semantics are.semantics (method_of rec at.asm) f
    (λ row. if_named rec at.asm (row.association == token) (index_in METHOD_DEF row.method))
    ∙ sym (map_flat (at_row at.asm) (accessor_of rec token) rec.method_semantics)
    ∙ sym (append-nil (map (at_row at.asm) (flat_map (accessor_of rec token) rec.method_semantics)))
    ∙ ap (λ (o : Option AsmRec). flat_map (λ (r : AsmRec). map (at_row at.asm) (flat_map (accessor_of r token) r.method_semantics)) (listed o)) (sym e)

-- ---- a row of MethodSemantics

module _ (rec : AsmRec) (asm k : ℕ) (found : List RowAt) where
  pub under_none : slice_get rec.method_semantics k ≡ None → found ≡ found ++ method_under rec asm k
  under_none e = sym (append-nil found) ∙ ap (λ (o : Option MethodSemanticsRow). found ++ option_map_or (method_of rec asm) o []) (sym e)

  pub under_bad : (row : MethodSemanticsRow) → slice_get rec.method_semantics k ≡ Some row → index_in METHOD_DEF row.method ≡ None → found ≡ found ++ method_under rec asm k
  under_bad row e h =
      sym (append-nil found) ∙ ap (λ (o : Option ℕ). found ++ map (at_row asm) (filter (has_owner rec) (listed o))) (sym h)
      ∙ ap (λ (o : Option MethodSemanticsRow). found ++ option_map_or (method_of rec asm) o []) (sym e)

  pub under_one : (row : MethodSemanticsRow) (r : ℕ) → slice_get rec.method_semantics k ≡ Some row → index_in METHOD_DEF row.method ≡ Some r → found ++ owned_at rec asm r ≡ found ++ method_under rec asm k
  under_one row r e h =
      ap (λ (o : Option ℕ). found ++ map (at_row asm) (filter (has_owner rec) (listed o))) (sym h)
      ∙ ap (λ (o : Option MethodSemanticsRow). found ++ option_map_or (method_of rec asm) o []) (sym e)
