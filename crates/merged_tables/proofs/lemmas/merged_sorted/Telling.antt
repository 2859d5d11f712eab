-- What is made of rows with the output's tokens and their new owners is what the definition makes of them.
use Rattle.std.proofs.Common.{◌≡◌, ℕ, List, [], ◌∷◌, ◌++◌, map, Option, Some, None, refl, ap, sym, ◌∙◌}
use Rattle.std.proofs.lemmas.List.{append-nil}
use Rattle.std.specs.Prelude.{slice_get}
use Rattle.std.specs.List.{flat_map}
use Rattle.il_base.specs.declared.world_model.record.AsmRec.{AsmRec}
use Rattle.rules.specs.link_rules.Cycles.{listed}
use Rattle.rules.specs.type_rules.Rows.{rec_at}
use Rattle.rules.specs.merge_rules.Rows as rows
use Rattle.rules.specs.merge_rules.Refs.{Output}
use Rattle.rules.specs.merge_rules.Restricted.{each_at, each_sorted, new_impl, new_generic_param, new_constraint}
use Rattle.merge_plan.specs.declared.moved_parts.tokens.NewTokens.{NewTokens}
use Rattle.merge_plan.specs.moved_parts.Laws.{AreNewTokens}
use Rattle.merged_tables.specs.merged_members.Members.{made_of}
use Rattle.merged_tables.specs.merged_members.Laws.{HasTokens, HaveTokens}
use Rattle.merge_plan.specs.declared.kept_tables.order.SortedRow.{SortedRow}
use Rattle.merge_plan.specs.declared.kept_tables.tables.KeptTables.{KeptTables}
use Rattle.merge_plan.specs.kept_tables.Order.{sorted_of}
use Rattle.merge_plan.specs.kept_tables.Kept.{AreKept}
use Rattle.merged_tables.specs.merged_sorted.Owned.{interface_by, generic_param_of, constraint_by}
use Rattle.merged_tables.specs.merged_sorted.Laws.{AreSorted}

-- a list of rows and their meaning
module _ {B : Type 0} (f : SortedRow → List B) (g : rows.SortedRow → List B) (same : (x : SortedRow) → f x ≡ g (sorted_of x)) where
  each_same : (xs : List SortedRow) → flat_map f xs ≡ flat_map g (map sorted_of xs)
  each_same [] = refl
  each_same (x ∷ xs) = λ i. same x i ++ each_same xs i

module _ (o : Output) (tokens : List NewTokens) (have : HaveTokens o tokens) where
  module _ {R B : Type 0} (of : AsmRec → List R) (f : ℕ → NewTokens → R → B) (g : ℕ → ℕ → AsmRec → R → B)
      (same : (owner a : ℕ) (rec : AsmRec) (t : NewTokens) → AreNewTokens o a rec t → (row : R) → f owner t row ≡ g owner a rec row) where
    row_same : (owner a : ℕ) (rec : AsmRec) (t : NewTokens) → AreNewTokens o a rec t → (row : Option R) → map (f owner t) (listed row) ≡ map (g owner a rec) (listed row)
    row_same owner a rec t are None = refl
    row_same owner a rec t are (Some row) = ap (λ (x : B). x ∷ []) (same owner a rec t are row)

    with_tokens : (x : rows.SortedRow) (rec : AsmRec) → HasTokens o tokens x.at.asm rec
        → flat_map (λ (t : NewTokens). map (f x.owner t) (listed (slice_get (of rec) x.at.row))) (listed (slice_get tokens x.at.asm))
        ≡ map (g x.owner x.at.asm rec) (listed (slice_get (of rec) x.at.row))
    with_tokens x rec has =
        ap (λ (t : Option NewTokens). flat_map (λ (t : NewTokens). map (f x.owner t) (listed (slice_get (of rec) x.at.row))) (listed t)) has.there
        ∙ append-nil (map (f x.owner has.new) (listed (slice_get (of rec) x.at.row)))
        ∙ row_same x.owner x.at.asm rec has.new has.are (slice_get (of rec) x.at.row)

    found_same : (x : rows.SortedRow) (r : Option AsmRec) → slice_get o.recs x.at.asm ≡ r
        → flat_map (λ (rec : AsmRec). flat_map (λ (t : NewTokens). map (f x.owner t) (listed (slice_get (of rec) x.at.row))) (listed (slice_get tokens x.at.asm))) (listed r)
        ≡ flat_map (λ (rec : AsmRec). map (g x.owner x.at.asm rec) (listed (slice_get (of rec) x.at.row))) (listed r)
    found_same x None e = refl
    found_same x (Some rec) e = ap (λ (ys : List B). ys ++ []) (with_tokens x rec (have x.at.asm rec e))

    one_same : (x : rows.SortedRow) → made_of of (λ t rec row. f x.owner t row) o.recs tokens x.at ≡ each_at o.recs of (λ at rec row. g x.owner at.asm rec row) (x.at ∷ [])
    one_same x = found_same x (rec_at o.recs x.at) refl ∙ sym (append-nil _)

    pub all_same : (xs : List SortedRow) → flat_map (λ (x : SortedRow). made_of of (λ t rec row. f x.owner t row) o.recs tokens x.at) xs ≡ each_sorted o.recs of g (map sorted_of xs)
    all_same xs = each_same _ _ (λ x. one_same (sorted_of x)) xs

  module _ (t : KeptTables) (are : AreKept o.recs o.kept t) where
    params_same : (xs : List SortedRow) → flat_map (generic_param_of o.recs) xs ≡ each_sorted o.recs (λ rec. rec.generic_param) new_generic_param (map sorted_of xs)
    params_same xs = each_same _ _ (λ x. sym (append-nil (generic_param_of o.recs x))) xs

    pub all_tell : AreSorted o tokens t
    all_tell = record {
      interfaces = all_same (λ rec. rec.interface_impl) interface_by (new_impl o) (λ owner a rec new are row. λ i. record { class = owner; interface = are.types row.interface i }) t.interfaces.rows.items
          ∙ ap (each_sorted o.recs (λ rec. rec.interface_impl) (new_impl o)) are.interfaces.rows;
      generic_params = params_same t.generic_params.rows.items ∙ ap (each_sorted o.recs (λ rec. rec.generic_param) new_generic_param) are.generic_params.rows;
      constraints = all_same (λ rec. rec.generic_param_constraint) constraint_by (new_constraint o) (λ owner a rec new are row. λ i. record { owner = owner; constraint = are.types row.constraint i }) t.constraints.rows.items
          ∙ ap (each_sorted o.recs (λ rec. rec.generic_param_constraint) (new_constraint o)) are.constraints.rows;
    }
