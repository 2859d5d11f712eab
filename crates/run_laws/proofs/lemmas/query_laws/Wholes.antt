-- A kept type with its bases moves as a whole; the nearest type of the core library stays; value types stay value types.
use Rattle.std.proofs.Common.{◌≡◌, ℕ, zero, suc, ◌+◌, Bool, true, false, List, [], ◌∷◌, Option, Some, None, refl, sym, ap, ◌∙◌, arith}
use Rattle.std.specs.Prelude.{IsTrue, ◌&&◌, ◌||◌, not}
use Rattle.std.specs.List.{list_all, list_any}
use Rattle.std.specs.Option.{option_map, option_and_then}
use Rattle.std.specs.Cmp.{first_so, second_so}
use Rattle.il_base.specs.declared.core_table.tokens.TheConstants.{VALUE_TYPE, ENUM}
use Rattle.il_base.specs.declared.world_model.expr.TypeExpr.{TypeExpr}
use Rattle.il_base.specs.declared.world_model.record.AsmRec.{AsmRec}
use Rattle.rules.specs.declared.link_rules.row_at.RowAt.{RowAt}
use Rattle.rules.specs.link_rules.Members.{base_at, base_of, bases_from, with_bases, type_count}
use Rattle.rules.specs.link_rules.Cycles.{listed, home_of, extends_core, is_core_row_at, is_value_type}
use Rattle.base_laws.specs.walk_laws.Walks.{BasesWhole}
use Rattle.rules.specs.view_rules.Answers.{core_name_at, nearest_core}
use Rattle.rules.specs.change_rules.Change.{Change}
use Rattle.rules.specs.change_rules.Moves.{move_expr, move_exprs}
use Rattle.rules.specs.change_rules.Keeps.{keeps_expr}
use Rattle.rules.specs.world_change_rules.Places.{Places, keeps_type_row}
use Rattle.rules.specs.world_change_rules.Rows.{RowsMove, is_table_type}
use Rattle.rules.specs.world_change_rules.Kept.{KeepsRows}
use Rattle.run_laws.proofs.lemmas.query_laws.Homes.{home_moved, home_kept}
use Rattle.run_laws.proofs.lemmas.query_laws.Bases.{base_kept, bases_moved}

and_so : (a b : Bool) → IsTrue a → IsTrue b → IsTrue (a && b)
and_so true b h g = g
and_so false b h g = absurd (cc)

module _ (k : Change) (kept : RowAt → Bool) (p : Places) (after before : List AsmRec) (r : RowsMove k kept p after before) (keeps : KeepsRows k.keep kept before) where
  abbrev Kept : TypeExpr → Bool
  Kept = keeps_expr k.keep

  pub bases_kept : (n : ℕ) (e : TypeExpr) → IsTrue (Kept e) → IsTrue (list_all Kept (bases_from before n e))
  unfolding bases_from
  bases_kept zero e h = refl
  bases_kept (suc n) e h =
      and_so (Kept e) (list_all Kept (rest (base_of before e))) h (rest_kept (λ b g. bases_kept n b g) (base_of before e) (λ b is. base_kept k kept p after before r keeps e b h is))
    where
      rest : Option TypeExpr → List TypeExpr
      rest o = elim o [ None ↦ [] | Some b ↦ bases_from before n b ]

      rest_kept : ((b : TypeExpr) → IsTrue (Kept b) → IsTrue (list_all Kept (bases_from before n b))) → (o : Option TypeExpr) → ((b : TypeExpr) → o ≡ Some b → IsTrue (Kept b)) → IsTrue (list_all Kept (rest o))
      rest_kept again None g = refl
      rest_kept again (Some b) g = again b (g b refl)

  pub with_bases_kept : (e : TypeExpr) → IsTrue (Kept e) → IsTrue (list_all Kept (with_bases before e))
  with_bases_kept e h = bases_kept (type_count before) e h

  module _ (later : BasesWhole after) (earlier : BasesWhole before) where
    pub with_bases_moved : (e : TypeExpr) → IsTrue (Kept e) → with_bases after (move_expr k.rho e) ≡ move_exprs k.rho (with_bases before e)
    with_bases_moved e h =
        let n : ℕ = type_count after + type_count before in
        sym (later n (move_expr k.rho e) (omega arith)) ∙ bases_moved k kept p after before r keeps n e h ∙ ap (move_exprs k.rho) (earlier n e (omega arith))

    -- ---- the nearest type of the core library

    core_by : (o : Option RowAt) → ((at : RowAt) → o ≡ Some at → IsTrue (keeps_type_row k.keep before at))
        → option_and_then (core_name_at after) (option_map p.typ o) ≡ option_and_then (core_name_at before) o
    core_by None h = refl
    core_by (Some at) h = (r.types at (h at refl)).core_name

    core_home : (e : TypeExpr) → IsTrue (Kept e) → option_and_then (core_name_at after) (home_of after (move_expr k.rho e)) ≡ option_and_then (core_name_at before) (home_of before e)
    core_home e h = ap (option_and_then (core_name_at after)) (home_moved k kept p after before r keeps e h) ∙ core_by (home_of before e) (λ at is. home_kept k kept p after before r keeps e at h is)

    nearest_moved : (es : List TypeExpr) → IsTrue (list_all Kept es) → nearest_core after (move_exprs k.rho es) ≡ nearest_core before es
    nearest_moved [] h = refl
    nearest_moved (e ∷ es) h =
        let here = core_home e (first_so (Kept e) (list_all Kept es) h) in
        let later = nearest_moved es (second_so (Kept e) (list_all Kept es) h) in
        rw (here, later) refl

    pub kin_moved : (e : TypeExpr) → IsTrue (Kept e) → nearest_core after (with_bases after (move_expr k.rho e)) ≡ nearest_core before (with_bases before e)
    kin_moved e h = ap (nearest_core after) (with_bases_moved e h) ∙ nearest_moved (with_bases before e) (with_bases_kept e h)

  -- ---- value types (II.13)

  core_row_by : (token : ℕ) → IsTrue (is_table_type token) → (o : Option RowAt) → ((at : RowAt) → o ≡ Some at → IsTrue (keeps_type_row k.keep before at))
      → list_any (is_core_row_at after token) (listed (option_map p.typ o)) ≡ list_any (is_core_row_at before token) (listed o)
  core_row_by token t None h = refl
  core_row_by token t (Some at) h = ap (λ (b : Bool). b || false) ((r.types at (h at refl)).core_row token t)

  extends_by : (token : ℕ) → IsTrue (is_table_type token) → (o : Option TypeExpr) → ((e : TypeExpr) → o ≡ Some e → IsTrue (Kept e))
      → list_any (is_core_row_at after token) (listed (option_and_then (home_of after) (option_map (move_expr k.rho) o)))
      ≡ list_any (is_core_row_at before token) (listed (option_and_then (home_of before) o))
  extends_by token t None h = refl
  extends_by token t (Some e) h =
      ap (λ (o : Option RowAt). list_any (is_core_row_at after token) (listed o)) (home_moved k kept p after before r keeps e (h e refl))
      ∙ core_row_by token t (home_of before e) (λ at is. home_kept k kept p after before r keeps e at (h e refl) is)

  pub extends_moved : (token : ℕ) → IsTrue (is_table_type token) → (at : RowAt) → IsTrue (keeps_type_row k.keep before at) → extends_core after token (p.typ at) ≡ extends_core before token at
  extends_moved token t at h =
      ap (λ (o : Option TypeExpr). list_any (is_core_row_at after token) (listed (option_and_then (home_of after) o))) ((r.types at h).base)
      ∙ extends_by token t (base_at before at) (λ e is. keeps.bases at e h is)

  pub value_type_moved : (at : RowAt) → IsTrue (keeps_type_row k.keep before at) → is_value_type after (p.typ at) ≡ is_value_type before at
  unfolding is_value_type
  value_type_moved at h = λ i. (extends_moved VALUE_TYPE refl at h i && not ((r.types at h).core_row ENUM refl i)) || extends_moved ENUM refl at h i
