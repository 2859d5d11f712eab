-- The accessors of a property of one kind, by the rows of MethodSemantics that belong to it.
use Rattle.std.proofs.Common.{◌≡◌, ℕ, suc, List, [], ◌∷◌, ◌++◌, Bool, true, false, Option, Some, None, refl, sym, ap, ◌∙◌, append-nil}
use Rattle.std.specs.Prelude.{◌==◌, slice_get, if◌then◌else◌}
use Rattle.std.specs.List.{flat_map, filter}
use Rattle.std.specs.Option.{option_map_or}
use Rattle.il_base.specs.Flags.{has_flag}
use Rattle.il_base.specs.declared.table.TheConstants.{METHOD_DEF, PROPERTY}
use Rattle.il_base.specs.declared.world_model.members.MethodSemanticsRow.{MethodSemanticsRow}
use Rattle.il_base.specs.declared.world_model.record.AsmRec.{AsmRec}
use Rattle.il_base.specs.world_model.Tokens.{token_of, index_in}
use Rattle.rules.specs.link_rules.Cycles.{listed}
use Rattle.rules.specs.type_rules.Searches.{has_owner}
use Rattle.rules.specs.view_rules.Answers.{accessor_by}
use Rattle.type_tables.specs.declared.tables.RowTables.{RowTables}
use Rattle.type_tables.specs.Groups.{rows_with}
use Rattle.type_tables.specs.Tables.{AreRowTables}
use Rattle.type_tables.proofs.Grouped.{flat_grouped}
use Rattle.cil_world.specs.world_types.Accessors.{owned, flagged, flagged_at}

if_both : {A : Type 0} (b c : Bool) (xs : List A) → (if b then (if c then xs else []) else []) ≡ (if c then (if b then xs else []) else [])
if_both true true xs = refl
if_both true false xs = refl
if_both false true xs = refl
if_both false false xs = refl

pub accessors_found : (rec : AsmRec) (tables : RowTables) → AreRowTables rec tables → (flag property : ℕ)
    → flat_map (flagged_at flag rec) (rows_with tables.semantics (token_of PROPERTY (suc property))) ≡ flat_map (accessor_by flag rec (token_of PROPERTY (suc property))) rec.method_semantics
accessors_found rec tables are flag property =
    let token : ℕ = token_of PROPERTY (suc property) in
    flat_grouped (λ (r : MethodSemanticsRow). r.association) token rec.method_semantics tables.semantics are.semantics (flagged flag rec) (accessor_by flag rec token)
    (λ row. if_both (has_flag row.semantics flag) (row.association == token) (filter (has_owner rec) (listed (index_in METHOD_DEF row.method))))

-- ---- a row of MethodSemantics

module _ (flag : ℕ) (rec : AsmRec) (k : ℕ) (found : List ℕ) where
  pub under_none : slice_get rec.method_semantics k ≡ None → found ≡ found ++ flagged_at flag rec k
  under_none e = sym (append-nil found) ∙ ap (λ (o : Option MethodSemanticsRow). found ++ option_map_or (flagged flag rec) o []) (sym e)

  module _ (row : MethodSemanticsRow) (e : slice_get rec.method_semantics k ≡ Some row) where
    pub under_other : has_flag row.semantics flag ≡ false → found ≡ found ++ flagged_at flag rec k
    under_other h = sym (append-nil found) ∙ rw (e, h) refl

    pub under_bad : has_flag row.semantics flag ≡ true → index_in METHOD_DEF row.method ≡ None → found ≡ found ++ flagged_at flag rec k
    under_bad h i = sym (append-nil found) ∙ rw (e, h, i) refl

    pub under_one : has_flag row.semantics flag ≡ true → (r : ℕ) → index_in METHOD_DEF row.method ≡ Some r → found ++ owned rec r ≡ found ++ flagged_at flag rec k
    under_one h r i = rw (e, h, i) refl
