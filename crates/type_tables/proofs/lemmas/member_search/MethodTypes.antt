-- A method's signature with arguments of the type put in.
use Rattle.std.proofs.Common.{◌≡◌, ℕ, List, [], ◌∷◌, map, refl, ap, ◌∙◌}
use Rattle.il_base.specs.declared.sig.Sig.{Sig}
use Rattle.il_base.specs.declared.sig.MethodSig.{MethodSig}
use Rattle.il_base.specs.declared.world_model.known.Known.{Known}
use Rattle.il_base.specs.declared.world_model.known.Known.TheVariants.{Good, Bad}
use Rattle.il_base.specs.declared.world_model.expr.TypeExpr.{TypeExpr}
use Rattle.il_base.specs.declared.world_model.record.AsmRec.{AsmRec}
use Rattle.il_base.specs.declared.world_model.world.TypeLink.{TypeLink}
use Rattle.il_base.specs.world_model.Exprs.{subst}
use Rattle.il_base.specs.world_model.Worlds.{Names, known_map, known_then, all_known, names_by, sig_expr, expr_by}
use Rattle.rules.specs.declared.link_rules.member_type.MethodType.{MethodType}
use Rattle.rules.specs.link_rules.Signatures.{names_at, method_type_of, method_type, subst_method}
use Rattle.type_tables.proofs.lemmas.member_search.SubstNone.{subst_none, subst_all_none}

-- what is put into each of some types is put into all

into_more : (f : TypeExpr → TypeExpr) (e : TypeExpr) (k : Known (List TypeExpr))
    → known_map (λ ys. f e ∷ ys) (known_map (map f) k) ≡ known_map (map f) (known_map (λ ys. e ∷ ys) k)
into_more f e (Good es) = refl
into_more f e (Bad why) = refl

into_next : (f : TypeExpr → TypeExpr) (g : Sig → Known TypeExpr) (k : Known TypeExpr) (ss : List Sig)
    → all_known (map (λ s. known_map f (g s)) ss) ≡ known_map (map f) (all_known (map g ss))
    → known_then (λ y. known_map (λ ys. y ∷ ys) (all_known (map (λ s. known_map f (g s)) ss))) (known_map f k)
    ≡ known_map (map f) (known_then (λ y. known_map (λ ys. y ∷ ys) (all_known (map g ss))) k)
into_next f g (Good e) ss h = ap (known_map (λ ys. f e ∷ ys)) h ∙ into_more f e (all_known (map g ss))
into_next f g (Bad why) ss h = refl

pub into_all : (f : TypeExpr → TypeExpr) (g : Sig → Known TypeExpr) (ss : List Sig)
    → all_known (map (λ s. known_map f (g s)) ss) ≡ known_map (map f) (all_known (map g ss))
into_all f g [] = refl
into_all f g (s ∷ ss) = into_next f g (g s) ss (into_all f g ss)

-- a signature whose types are these
abbrev pub signature_of : MethodSig → Known TypeExpr → Known (List TypeExpr) → Known MethodType
signature_of s ret params = known_then (λ (r : TypeExpr). known_map (λ ps. method_type_of s r ps) params) ret

into_params : (targs : List TypeExpr) (s : MethodSig) (e : TypeExpr) (params : Known (List TypeExpr))
    → signature_of s (Good (subst targs [] e)) (known_map (map (subst targs [])) params) ≡ known_map (subst_method targs) (signature_of s (Good e) params)
unfolding subst_method
into_params targs s e (Good es) = refl
into_params targs s e (Bad why) = refl

into_signature : (targs : List TypeExpr) (s : MethodSig) (ret : Known TypeExpr) (params : Known (List TypeExpr))
    → signature_of s (known_map (subst targs []) ret) (known_map (map (subst targs [])) params) ≡ known_map (subst_method targs) (signature_of s ret params)
into_signature targs s (Good e) params = into_params targs s e params
into_signature targs s (Bad why) params = refl

module _ (all : List AsmRec) (links : List TypeLink) (a : ℕ) (targs : List TypeExpr) where
  pub method_type_by : (s : MethodSig)
      → signature_of s (expr_by all links a targs [] s.ret) (all_known (map (expr_by all links a targs []) s.params))
      ≡ known_map (subst_method targs) (method_type (names_by all links a) s)
  unfolding expr_by method_type
  method_type_by s =
      let names : Names = names_by all links a in
      ap (signature_of s (known_map (subst targs []) (sig_expr names s.ret))) (into_all (subst targs []) (sig_expr names) s.params)
      ∙ into_signature targs s (sig_expr names s.ret) (all_known (map (sig_expr names) s.params))

  -- as names_at has them, where the links tell so
  pub method_type_at : (rec : AsmRec) (s : MethodSig) (ret : Known TypeExpr) (params : Known (List TypeExpr))
      → method_type (names_by all links a) s ≡ method_type (names_at all a rec) s
      → ret ≡ expr_by all links a targs [] s.ret → params ≡ all_known (map (expr_by all links a targs []) s.params)
      → signature_of s ret params ≡ known_map (subst_method targs) (method_type (names_at all a rec) s)
  method_type_at rec s ret params tell r p =
      (λ i. signature_of s (r i) (p i)) ∙ method_type_by s ∙ ap (known_map (subst_method targs)) tell

-- no arguments put in

pub type_none : (k : Known TypeExpr) → known_map (subst [] []) k ≡ k
type_none (Good e) = ap Good (subst_none e)
type_none (Bad why) = refl

pub types_none : (k : Known (List TypeExpr)) → known_map (map (subst [] [])) k ≡ k
types_none (Good es) = ap Good (subst_all_none es)
types_none (Bad why) = refl

pub method_none : (k : Known MethodType) → known_map (subst_method []) k ≡ k
unfolding subst_method
method_none (Good m) = λ i. Good (record { this = m.this; generic = m.generic; ret = subst_none m.ret i; params = subst_all_none m.params i })
method_none (Bad why) = refl

-- the types of signatures without arguments, as names_at has them, where the links tell so

type_at : (all : List AsmRec) (links : List TypeLink) (a : ℕ) (names : Names) (s : Sig) → sig_expr (names_by all links a) s ≡ sig_expr names s
    → expr_by all links a [] [] s ≡ sig_expr names s
unfolding expr_by
type_at all links a names s tell = type_none (sig_expr (names_by all links a) s) ∙ tell

pub types_at : (all : List AsmRec) (links : List TypeLink) (a : ℕ) (names : Names) → ((s : Sig) → sig_expr (names_by all links a) s ≡ sig_expr names s)
    → (ss : List Sig) → map (expr_by all links a [] []) ss ≡ map (sig_expr names) ss
types_at all links a names tell [] = refl
types_at all links a names tell (s ∷ ss) = λ i. type_at all links a names s (tell s) i ∷ types_at all links a names tell ss i
