-- The test of signatures for equality says true exactly where they are equal.
use Rattle.std.proofs.Common.{◌≡◌, Bool, true, false, nat_eq, ◌&&◌, List, [], ◌∷◌, map, refl, sym, ap, subst, ◌∙◌}
use Rattle.std.specs.Bool.{Decides}
use Rattle.std.specs.Cmp.{first_so, second_so}
use Rattle.std.specs.Cmp.Lexicographic.{pointwise_decides}
use Rattle.std.proofs.lemmas.Bool.{eq-eqb, eqb-true, and_from}
use Rattle.il_base.specs.declared.sig.Sig.{Sig, fold-roll-Sig, ind-Sig, out-Sig, roll-Sig, roll-out-Sig, out-roll-Sig}
use Rattle.il_base.specs.declared.sig.Sig.TheFolds.{map-Sig}
use Rattle.il_base.specs.declared.sig.Sig.TheOpen.{Sig-F}
use Rattle.il_base.specs.declared.sig.MethodSig.{MethodSig}
use Rattle.il_base.specs.world_model.Exprs.{same_bool}
use Rattle.rules.specs.merge_rules.Keys.{all_same, same_in, same_layer, same_sig, same_sigs, same_method_sig}

pub same_bools : (a b : Bool) → same_bool a b ≡ true → a ≡ b
same_bools true true h = refl
same_bools true false h = sym h
same_bools false true h = h
same_bools false false h = refl

own_bool : (a : Bool) → same_bool a a ≡ true
own_bool true = refl
own_bool false = refl

-- a part with what is known of it
abbrev Known : (Sig → Type 0) → Type 0
Known P = (s : Sig) × P s

abbrev IsOnly : Sig → Type 0
IsOnly a = (b : Sig) → same_sig a b ≡ true → a ≡ b

abbrev IsSelf : Sig → Type 0
IsSelf a = same_sig a a ≡ true

rolled : (x : Sig-F Sig) (b : Sig) → same_sig (roll-Sig x) b ≡ same_in (map-Sig Sig (Sig → Bool) same_sig x) (out-Sig b)
unfolding same_sig
rolled x b = ap (λ (f : Sig → Bool). f b) (fold-roll-Sig (Sig → Bool) same_layer x)

only_args : (xs : List (Known IsOnly)) (ys : List Sig) → all_same (map same_sig (map (λ s. s.0) xs)) ys ≡ true → map (λ s. s.0) xs ≡ ys
only_args [] [] h = refl
only_args [] (b ∷ ys) h = cc
only_args (a ∷ xs) [] h = cc
only_args (a ∷ xs) (b ∷ ys) h =
    let s : Bool = same_sig a.0 b in
    let r : Bool = all_same (map same_sig (map (λ s. s.0) xs)) ys in
    λ i. a.1 b (first_so s r h) i ∷ only_args xs ys (second_so s r h) i

only_layer : (y : Sig-F (Known IsOnly)) (l : Sig-F Sig) →
    same_in (map-Sig Sig (Sig → Bool) same_sig (map-Sig (Known IsOnly) Sig (λ s. s.0) y)) l ≡ true → map-Sig (Known IsOnly) Sig (λ s. s.0) y ≡ l
only_layer (Sig-F.Prim n) (Sig-F.Prim m) h = ap Sig-F.Prim (eqb-true n m h)
only_layer (Sig-F.Named v t) (Sig-F.Named w u) h =
    let s : Bool = same_bool v w in
    let r : Bool = nat_eq t u in
    λ i. Sig-F.Named (same_bools v w (first_so s r h) i) (eqb-true t u (second_so s r h) i)
only_layer (Sig-F.Array a) (Sig-F.Array b) h = ap Sig-F.Array (a.1 b h)
only_layer (Sig-F.ByRef a) (Sig-F.ByRef b) h = ap Sig-F.ByRef (a.1 b h)
only_layer (Sig-F.Inst v t xs) (Sig-F.Inst w u ys) h =
    let s : Bool = same_bool v w in
    let r : Bool = nat_eq t u in
    let q : Bool = all_same (map same_sig (map (λ s. s.0) xs)) ys in
    let front : (s && r) ≡ true = first_so (s && r) q h in
    λ i. Sig-F.Inst (same_bools v w (first_so s r front) i) (eqb-true t u (second_so s r front) i) (only_args xs ys (second_so (s && r) q h) i)
only_layer (Sig-F.Var n) (Sig-F.Var m) h = ap Sig-F.Var (eqb-true n m h)
only_layer (Sig-F.MVar n) (Sig-F.MVar m) h = ap Sig-F.MVar (eqb-true n m h)
only_layer (Sig-F.Mod p t a) (Sig-F.Mod q u b) h =
    let s : Bool = same_bool p q in
    let r : Bool = nat_eq t u in
    let z : Bool = same_sig a.0 b in
    let front : (s && r) ≡ true = first_so (s && r) z h in
    λ i. Sig-F.Mod (same_bools p q (first_so s r front) i) (eqb-true t u (second_so s r front) i) (a.1 b (second_so (s && r) z h) i)
only_layer (Sig-F.Pinned a) (Sig-F.Pinned b) h = ap Sig-F.Pinned (a.1 b h)
only_layer (Sig-F.Prim n) _ h = cc
only_layer (Sig-F.Named v t) _ h = cc
only_layer (Sig-F.Array a) _ h = cc
only_layer (Sig-F.ByRef a) _ h = cc
only_layer (Sig-F.Inst v t xs) _ h = cc
only_layer (Sig-F.Var n) _ h = cc
only_layer (Sig-F.MVar n) _ h = cc
only_layer (Sig-F.Mod p t a) _ h = cc
only_layer (Sig-F.Pinned a) _ h = cc

only_rolled : (y : Sig-F (Known IsOnly)) → IsOnly (roll-Sig (map-Sig (Known IsOnly) Sig (λ s. s.0) y))
only_rolled y b h = ap roll-Sig (only_layer y (out-Sig b) (sym (rolled (map-Sig (Known IsOnly) Sig (λ s. s.0) y) b) ∙ h)) ∙ roll-out-Sig b

pub same_only : (a b : Sig) → same_sig a b ≡ true → a ≡ b
same_only = ind-Sig IsOnly (λ x y is. subst (λ z. IsOnly (roll-Sig z)) is (only_rolled y))

own_args : (xs : List (Known IsSelf)) → all_same (map same_sig (map (λ s. s.0) xs)) (map (λ s. s.0) xs) ≡ true
own_args [] = refl
own_args (a ∷ xs) = λ i. a.1 i && own_args xs i

own_layer : (y : Sig-F (Known IsSelf)) →
    same_in (map-Sig Sig (Sig → Bool) same_sig (map-Sig (Known IsSelf) Sig (λ s. s.0) y)) (map-Sig (Known IsSelf) Sig (λ s. s.0) y) ≡ true
own_layer (Sig-F.Prim n) = eq-eqb n n refl
own_layer (Sig-F.Named v t) = λ i. own_bool v i && eq-eqb t t refl i
own_layer (Sig-F.Array a) = a.1
own_layer (Sig-F.ByRef a) = a.1
own_layer (Sig-F.Inst v t xs) = λ i. (own_bool v i && eq-eqb t t refl i) && own_args xs i
own_layer (Sig-F.Var n) = eq-eqb n n refl
own_layer (Sig-F.MVar n) = eq-eqb n n refl
own_layer (Sig-F.Mod p t a) = λ i. (own_bool p i && eq-eqb t t refl i) && a.1 i
own_layer (Sig-F.Pinned a) = a.1

own_rolled : (y : Sig-F (Known IsSelf)) → IsSelf (roll-Sig (map-Sig (Known IsSelf) Sig (λ s. s.0) y))
own_rolled y =
    let x : Sig-F Sig = map-Sig (Known IsSelf) Sig (λ s. s.0) y in
    rolled x (roll-Sig x) ∙ ap (same_in (map-Sig Sig (Sig → Bool) same_sig x)) (out-roll-Sig x) ∙ own_layer y

pub same_self : (a : Sig) → same_sig a a ≡ true
same_self = ind-Sig IsSelf (λ x y is. subst (λ z. IsSelf (roll-Sig z)) is (own_rolled y))

pub sig_decides : (a b : Sig) → Decides (same_sig a b) (a ≡ b)
sig_decides a b = (same_only a b, λ e. subst (λ (x : Sig). same_sig a x ≡ true) e (same_self a))

pub sigs_decide : (xs ys : List Sig) → Decides (same_sigs xs ys) (xs ≡ ys)
unfolding same_sigs
sigs_decide = pointwise_decides sig_decides

pub method_sig_decides : (m n : MethodSig) → Decides (same_method_sig m n) (m ≡ n)
method_sig_decides m n =
    let p : Bool = same_bool m.this n.this in
    let q : Bool = nat_eq m.generic n.generic in
    let r : Bool = same_sig m.ret n.ret in
    let s : Bool = same_sigs m.params n.params in (
      λ h.
          let pqr : (p && q && r) ≡ true = first_so (p && q && r) s h in
          let pq : (p && q) ≡ true = first_so (p && q) r pqr in
          let this : m.this ≡ n.this = same_bools m.this n.this (first_so p q pq) in
          let generic : m.generic ≡ n.generic = eqb-true m.generic n.generic (second_so p q pq) in
          let ret : m.ret ≡ n.ret = (sig_decides m.ret n.ret).0 (second_so (p && q) r pqr) in
          let params : m.params ≡ n.params = (sigs_decide m.params n.params).0 (second_so (p && q && r) s h) in
          λ i. record { this = this i; generic = generic i; ret = ret i; params = params i },
      λ e.
          let this : p ≡ true = ap (λ (x : MethodSig). same_bool m.this x.this) (sym e) ∙ own_bool m.this in
          let generic : q ≡ true = eq-eqb m.generic n.generic (ap (λ (x : MethodSig). x.generic) e) in
          let ret : r ≡ true = (sig_decides m.ret n.ret).1 (ap (λ (x : MethodSig). x.ret) e) in
          let params : s ≡ true = (sigs_decide m.params n.params).1 (ap (λ (x : MethodSig). x.params) e) in
          and_from (p && q && r) s (and_from (p && q) r (and_from p q this generic) ret) params,
    )
