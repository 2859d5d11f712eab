-- The bases of a kept type move with it, and are kept (II.10.1).
use Rattle.std.proofs.Common.{◌≡◌, ℕ, zero, suc, Bool, List, [], ◌∷◌, map, Option, Some, None, refl, sym, ap, subst, ◌∙◌}
use Rattle.std.proofs.Common as common
use Rattle.std.specs.Prelude.{IsTrue}
use Rattle.std.specs.Option.{option_map, option_and_then}
use Rattle.il_base.specs.declared.world_model.expr.TypeExpr.{TypeExpr}
use Rattle.il_base.specs.declared.world_model.record.AsmRec.{AsmRec}
use Rattle.il_base.specs.world_model.Exprs.{subst as put_in}
use Rattle.rules.specs.declared.link_rules.row_at.RowAt.{RowAt}
use Rattle.rules.specs.link_rules.Members.{args_of, base_at, base_of, bases_from}
use Rattle.rules.specs.link_rules.Cycles.{home_of}
use Rattle.rules.specs.change_rules.Change.{Change}
use Rattle.rules.specs.change_rules.Moves.{move_expr, move_exprs}
use Rattle.rules.specs.change_rules.Keeps.{keeps_expr}
use Rattle.base_laws.proofs.lemmas.change_laws.Subst.{subst_moves, subst_stays}
use Rattle.rules.specs.world_change_rules.Places.{Places, keeps_type_row}
use Rattle.rules.specs.world_change_rules.Rows.{RowsMove}
use Rattle.rules.specs.world_change_rules.Kept.{KeepsRows}
use Rattle.run_laws.proofs.lemmas.query_laws.Homes.{args_shown, args_moved, home_moved, home_kept}

module _ (k : Change) (kept : RowAt → Bool) (p : Places) (after before : List AsmRec) (r : RowsMove k kept p after before) (keeps : KeepsRows k.keep kept before) where
  -- what is in a definition, with the arguments of a type put in
  pub put_moved : (e b : TypeExpr) → put_in (args_of (move_expr k.rho e)) [] (move_expr k.rho b) ≡ move_expr k.rho (put_in (args_of e) [] b)
  put_moved e b = ap (λ (args : List TypeExpr). put_in args [] (move_expr k.rho b)) (args_moved k e) ∙ sym (subst_moves k.rho (args_of e) [] b)

  pub put_kept : (e b : TypeExpr) → IsTrue (keeps_expr k.keep e) → IsTrue (keeps_expr k.keep b) → IsTrue (keeps_expr k.keep (put_in (args_of e) [] b))
  put_kept e b h g = (subst_stays k.keep (args_of e) [] (args_shown k.keep e h) refl b).kept g

  pub put_list_moved : (e : TypeExpr) (bs : List TypeExpr) → map (put_in (args_of (move_expr k.rho e)) []) (move_exprs k.rho bs) ≡ move_exprs k.rho (map (put_in (args_of e) []) bs)
  put_list_moved e [] = refl
  put_list_moved e (b ∷ bs) = λ i. put_moved e b i ∷ put_list_moved e bs i

  base_by : (e : TypeExpr) (o : Option RowAt) → ((at : RowAt) → o ≡ Some at → IsTrue (keeps_type_row k.keep before at))
      → option_map (put_in (args_of (move_expr k.rho e)) []) (option_and_then (base_at after) (option_map p.typ o))
      ≡ option_map (move_expr k.rho) (option_map (put_in (args_of e) []) (option_and_then (base_at before) o))
  base_by e None h = refl
  base_by e (Some at) h = ap (option_map (put_in (args_of (move_expr k.rho e)) [])) ((r.types at (h at refl)).base) ∙ mapped (base_at before at)
    where
      mapped : (b : Option TypeExpr) → option_map (put_in (args_of (move_expr k.rho e)) []) (option_map (move_expr k.rho) b) ≡ option_map (move_expr k.rho) (option_map (put_in (args_of e) []) b)
      mapped None = refl
      mapped (Some b) = ap (λ (x : TypeExpr). Some x) (put_moved e b)

  pub base_moved : (e : TypeExpr) → IsTrue (keeps_expr k.keep e) → base_of after (move_expr k.rho e) ≡ option_map (move_expr k.rho) (base_of before e)
  unfolding base_of
  base_moved e h =
      ap (λ (o : Option RowAt). option_map (put_in (args_of (move_expr k.rho e)) []) (option_and_then (base_at after) o)) (home_moved k kept p after before r keeps e h)
      ∙ base_by e (home_of before e) (λ at is. home_kept k kept p after before r keeps e at h is)

  kept_by : (e b : TypeExpr) (o : Option RowAt) → ((at : RowAt) → o ≡ Some at → IsTrue (keeps_type_row k.keep before at)) → IsTrue (keeps_expr k.keep e)
      → option_map (put_in (args_of e) []) (option_and_then (base_at before) o) ≡ Some b → IsTrue (keeps_expr k.keep b)
  kept_by e b None h g is = absurd (cc)
  kept_by e b (Some at) h g is = of_base (base_at before at) refl is
    where
      of_base : (o : Option TypeExpr) → base_at before at ≡ o → option_map (put_in (args_of e) []) o ≡ Some b → IsTrue (keeps_expr k.keep b)
      of_base None t u = absurd (cc)
      of_base (Some c) t u =
          let same : put_in (args_of e) [] c ≡ b = cc in
          common.subst (λ (x : TypeExpr). IsTrue (keeps_expr k.keep x)) same (put_kept e c g (keeps.bases at c (h at refl) t))

  pub base_kept : (e b : TypeExpr) → IsTrue (keeps_expr k.keep e) → base_of before e ≡ Some b → IsTrue (keeps_expr k.keep b)
  unfolding base_of
  base_kept e b h is = kept_by e b (home_of before e) (λ at o. home_kept k kept p after before r keeps e at h o) h is

  pub bases_moved : (n : ℕ) (e : TypeExpr) → IsTrue (keeps_expr k.keep e) → bases_from after n (move_expr k.rho e) ≡ move_exprs k.rho (bases_from before n e)
  unfolding bases_from
  bases_moved zero e h = refl
  bases_moved (suc n) e h = ap (λ (xs : List TypeExpr). move_expr k.rho e ∷ xs) (ap next (base_moved e h) ∙ rest (λ b g. bases_moved n b g) (base_of before e) (λ b is. base_kept e b h is))
    where
      next : Option TypeExpr → List TypeExpr
      next o = elim o [ None ↦ [] | Some b ↦ bases_from after n b ]

      rest : ((b : TypeExpr) → IsTrue (keeps_expr k.keep b) → bases_from after n (move_expr k.rho b) ≡ move_exprs k.rho (bases_from before n b))
          → (o : Option TypeExpr) → ((b : TypeExpr) → o ≡ Some b → IsTrue (keeps_expr k.keep b))
          → next (option_map (move_expr k.rho) o) ≡ move_exprs k.rho (elim o [ None ↦ [] | Some b ↦ bases_from before n b ])
      rest again None g = refl
      rest again (Some b) g = again b (g b refl)
