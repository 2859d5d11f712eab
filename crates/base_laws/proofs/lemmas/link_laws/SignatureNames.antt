-- A signature names the same under two sets of names that agree on each of its tokens.
use Rattle.std.proofs.Common.{◌≡◌, ℕ, map, Option, refl, ap, ◌∙◌}
use Rattle.std.proofs.Math.Path.{fun_ext}
use Rattle.il_base.specs.declared.ids.TypeId.{TypeId}
use Rattle.il_base.specs.declared.sig.Sig.{Sig, fold-Sig}
use Rattle.il_base.specs.declared.sig.Sig.TheOpen.{Sig-F}
use Rattle.il_base.specs.declared.sig.MethodSig.{MethodSig}
use Rattle.il_base.specs.declared.world_model.known.Known.{Known}
use Rattle.il_base.specs.declared.world_model.expr.TypeExpr.{TypeExpr}
use Rattle.il_base.specs.world_model.Worlds.{Names, known_map, known_then, all_known, named_in, definition_of, definition_named, found_or_named, modifier_named, instance_of, modified, sig_layer, sig_expr}
use Rattle.rules.specs.declared.link_rules.member_type.MethodType.{MethodType}
use Rattle.rules.specs.link_rules.Signatures.{method_type, method_type_of}

-- they name the same types, have the same primitives' definitions, and the same types for modifiers alone
pub record SameNames (m n : Names) : Type 0 where
  pub types : (token : ℕ) → named_in m.types token ≡ named_in n.types token
  pub core : m.core ≡ n.core
  pub added : (token : ℕ) → m.added token ≡ n.added token

same_definition : (m n : Names) → SameNames m n → (token : ℕ) → definition_named m token ≡ definition_named n token
unfolding definition_named
same_definition m n same token =
    ap (λ (f : ℕ → Option TypeId). known_then (definition_of f) (named_in m.types token)) same.core
    ∙ ap (known_then (definition_of n.core)) (same.types token)

same_modifier : (m n : Names) → SameNames m n → (token : ℕ) → modifier_named m token ≡ modifier_named n token
unfolding modifier_named
same_modifier m n same token =
    ap (λ (t : Option TypeId). found_or_named t (definition_named m token)) (same.added token)
    ∙ ap (found_or_named (n.added token)) (same_definition m n same token)

same_layer : (m n : Names) → SameNames m n → (x : Sig-F (Known TypeExpr)) → sig_layer m x ≡ sig_layer n x
same_layer m n same (Sig-F.Prim p) = refl
same_layer m n same (Sig-F.Named value token) = same.types token
same_layer m n same (Sig-F.Array x) = refl
same_layer m n same (Sig-F.ByRef x) = refl
same_layer m n same (Sig-F.Inst value token args) = ap (λ (t : Known TypeId). instance_of t (all_known args)) (same_definition m n same token)
same_layer m n same (Sig-F.Var p) = refl
same_layer m n same (Sig-F.MVar p) = refl
same_layer m n same (Sig-F.Mod required token x) = ap (λ (t : Known TypeId). modified required t x) (same_modifier m n same token)
same_layer m n same (Sig-F.Pinned x) = refl

pub same_sig_expr : (m n : Names) → SameNames m n → sig_expr m ≡ sig_expr n
unfolding sig_expr
same_sig_expr m n same = ap (fold-Sig (Known TypeExpr)) (fun_ext (same_layer m n same))

pub same_signature : (m n : Names) → SameNames m n → (s : Sig) → sig_expr m s ≡ sig_expr n s
same_signature m n same s = ap (λ (f : Sig → Known TypeExpr). f s) (same_sig_expr m n same)

-- what a method's signature names, by what its types name
type_by : MethodSig → (Sig → Known TypeExpr) → Known MethodType
type_by s f = known_then (λ (ret : TypeExpr). known_map (λ params. method_type_of s ret params) (all_known (map f s.params))) (f s.ret)

pub same_method : (m n : Names) → SameNames m n → (s : MethodSig) → method_type m s ≡ method_type n s
unfolding method_type type_by
same_method m n same s = ap (type_by s) (same_sig_expr m n same)
