-- What is so of a definition and of each base's, where it is so of a type's.
use Rattle.std.proofs.Common.{◌≡◌, ℕ, zero, suc, List, [], Option, Some, None, ◌⊎◌, inl, inr, refl, sym, ap, subst, ◌∙◌}
use Rattle.std.specs.Option.{option_map, option_and_then}
use Rattle.il_base.specs.declared.world_model.expr.TypeExpr.{TypeExpr}
use Rattle.il_base.specs.declared.world_model.record.AsmRec.{AsmRec}
use Rattle.il_base.specs.world_model.Exprs as exprs
use Rattle.rules.specs.declared.link_rules.row_at.RowAt.{RowAt}
use Rattle.rules.specs.link_rules.Members.{args_of, base_at, base_of, bases_from}
use Rattle.rules.specs.link_rules.Cycles.{home_of}
use Rattle.rules.specs.link_rules.Linked.{assemblies, link_fault_of}
use Rattle.base_laws.proofs.lemmas.type_laws.Within.{In}
use Rattle.base_laws.proofs.lemmas.type_laws.Upwards.{has_base, kept_home}
use Rattle.base_laws.proofs.lemmas.type_laws.Ways.{top, top_home, top_class, arrays}

module _ (inputs : List AsmRec) (sound : link_fault_of inputs ≡ None) (P : RowAt → Type 0) where
  abbrev recs : List AsmRec
  recs = assemblies inputs

  -- of the definition of a type, where it has one
  abbrev pub Holds : TypeExpr → Type 0
  Holds e = (at : RowAt) → home_of recs e ≡ Some at → P at

  module _ (step : (x to : RowAt) (b : TypeExpr) → P x → base_at recs x ≡ Some b → home_of recs b ≡ Some to → P to) where
    base_from : (e b : TypeExpr) (home : RowAt) (o : Option TypeExpr) → P home → base_at recs home ≡ o → option_map (exprs.subst (args_of e) []) o ≡ Some b → Holds b
    base_from e b home None is at f to there = absurd (cc)
    base_from e b home (Some x) is at f to there =
        let same : exprs.subst (args_of e) [] x ≡ b = cc in
        step home to x is at
        (sym (kept_home recs (top inputs sound) (top_home inputs sound) (top_class inputs sound) (arrays inputs sound) (args_of e) x (has_base recs home x at).named) ∙ ap (home_of recs) same ∙ there)

    base_by : (e b : TypeExpr) (o : Option RowAt) → ((at : RowAt) → o ≡ Some at → P at) → option_map (exprs.subst (args_of e) []) (option_and_then (base_at recs) o) ≡ Some b → Holds b
    base_by e b None is f = absurd (cc)
    base_by e b (Some home) is f = base_from e b home (base_at recs home) (is home refl) refl f

    base_holds : (e b : TypeExpr) → Holds e → base_of recs e ≡ Some b → Holds b
    unfolding base_of
    base_holds e b is f = base_by e b (home_of recs e) is f

    rest_holds : (n : ℕ) (e x : TypeExpr) (o : Option TypeExpr) → base_of recs e ≡ o → Holds e → ((b : TypeExpr) → Holds b → In x (bases_from recs n b) → Holds x)
        → (x ≡ e) ⊎ In x (elim o [ None ↦ [] | Some b ↦ bases_from recs n b ]) → Holds x
    rest_holds n e x o f is more (inl same) = subst Holds (sym same) is
    rest_holds n e x None f is more (inr i) = absurd i
    rest_holds n e x (Some b) f is more (inr i) = more b (base_holds e b is f) i

    pub bases_hold : (n : ℕ) (e x : TypeExpr) → Holds e → In x (bases_from recs n e) → Holds x
    unfolding bases_from
    bases_hold zero e x is i = absurd i
    bases_hold (suc n) e x is i = rest_holds n e x (base_of recs e) refl is (λ b h j. bases_hold n b x h j) i
