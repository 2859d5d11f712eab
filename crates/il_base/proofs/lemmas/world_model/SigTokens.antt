-- What a signature names depends on what tokens of other tables than TypeSpec name.
use Rattle.std.proofs.Common.{◌≡◌, ◌≢◌, ℕ, Bool, true, false, if◌then◌else◌, ◌==◌, List, Option, refl, sym, ap, ◌∙◌}
use mathlib.Core.Bool.{true≢false}
use Rattle.std.proofs.lemmas.Bool.{eq-eqb}
use Rattle.il_base.specs.declared.ids.TypeId.{TypeId}
use Rattle.il_base.specs.declared.sig.Sig.{Sig, fold-Sig}
use Rattle.il_base.specs.declared.sig.Sig.TheOpen.{Sig-F}
use Rattle.il_base.specs.declared.world_model.known.Known.{Known}
use Rattle.il_base.specs.declared.world_model.expr.TypeExpr.{TypeExpr}
use Rattle.il_base.specs.declared.world_model.record.AsmRec.{AsmRec}
use Rattle.il_base.specs.declared.world_model.world.TypeLink.{TypeLink}
use Rattle.il_base.specs.world_model.Tokens.{table_of}
use Rattle.il_base.specs.world_model.Exprs.{subst}
use Rattle.il_base.specs.world_model.Worlds.{known_map, known_then, known_or, type_link_at, prim_type, all_known, instance_of, modified, Names, named_in, definition_of, definition_named, found_or_named, modifier_named, added_link_at, sig_layer, sig_expr, expr_by}

-- what the tokens of an assembly name
abbrev Types : Type 0
Types = ℕ → Option (Known TypeExpr)

-- the same at each token that isn't one of TypeSpec
abbrev Agree : Types → Types → Type 0
Agree types others = (token : ℕ) → table_of token ≢ 0x1b → types token ≡ others token

choice : (b : Bool) (x y z : Known TypeExpr) → (b ≡ false → y ≡ z) → (if b then x else y) ≡ (if b then x else z)
choice true x y z h = refl
choice false x y z h = h refl

module _ (types others : Types) (agree : Agree types others) where
  named_same : (token : ℕ) → named_in types token ≡ named_in others token
  unfolding named_in
  named_same token =
      choice (table_of token == 0x1b) _ (known_or (types token)) (known_or (others token)) (λ (h : (table_of token == 0x1b) ≡ false). ap known_or (agree token (λ e. true≢false (sym (eq-eqb (table_of token) 0x1b e) ∙ h))))

  module _ (core added : ℕ → Option TypeId) where
    abbrev these : Names
    these = record { types = types; core = core; added = added }

    abbrev those : Names
    those = record { types = others; core = core; added = added }

    definition_same : (token : ℕ) → definition_named these token ≡ definition_named those token
    unfolding definition_named
    definition_same token = ap (known_then (definition_of core)) (named_same token)

    modifier_same : (token : ℕ) → modifier_named these token ≡ modifier_named those token
    unfolding modifier_named
    modifier_same token = ap (found_or_named (added token)) (definition_same token)

    layer_same : (x : Sig-F (Known TypeExpr)) → sig_layer these x ≡ sig_layer those x
    layer_same (Sig-F.Prim n) = refl
    layer_same (Sig-F.Named value token) = named_same token
    layer_same (Sig-F.Array x) = refl
    layer_same (Sig-F.ByRef x) = refl
    layer_same (Sig-F.Inst value token args) = ap (λ (t : Known TypeId). instance_of t (all_known args)) (definition_same token)
    layer_same (Sig-F.Var n) = refl
    layer_same (Sig-F.MVar n) = refl
    layer_same (Sig-F.Mod required token x) = ap (λ (t : Known TypeId). modified required t x) (modifier_same token)
    layer_same (Sig-F.Pinned x) = refl

    pub sig_same : (s : Sig) → sig_expr these s ≡ sig_expr those s
    unfolding sig_expr
    sig_same s = λ i. fold-Sig (Known TypeExpr) (λ x. layer_same x i) s

pub expr_same : (recs : List AsmRec) (links others : List TypeLink) (a : ℕ) (targs margs : List TypeExpr) → Agree (type_link_at recs links a) (type_link_at recs others a) → ((token : ℕ) → added_link_at recs links a token ≡ added_link_at recs others a token) → (s : Sig) → expr_by recs links a targs margs s ≡ expr_by recs others a targs margs s
unfolding expr_by
expr_same recs links others a targs margs agree same s =
    ap (known_map (subst targs margs)) (sig_same (type_link_at recs links a) (type_link_at recs others a) agree (prim_type recs) (added_link_at recs links a) s
    ∙ ap (λ (f : ℕ → Option TypeId). sig_expr (record { types = type_link_at recs others a; core = prim_type recs; added = f }) s) (λ i token. same token i))
