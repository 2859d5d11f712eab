-- Types and members are the same where their lists of numbers are.
use Rattle.std.proofs.Common.{◌≡◌, ℕ, suc, Bool, true, false, nat_eq, ◌&&◌, List, [], ◌∷◌, ◌++◌, length, map, Option, Some, None, refl, sym, ap, subst, ◌∙◌, append_assoc}
use Rattle.std.specs.Bool.{Decides}
use Rattle.std.specs.Cmp.{first_so, second_so}
use Rattle.std.specs.List.{flat_map}
use Rattle.std.proofs.lemmas.List.{append-nil, length-map}
use Rattle.std.specs.Str.{bytes_eq}
use Rattle.std.proofs.lemmas.Bool.{eqb-true, eq-eqb, and_from}
use Rattle.std.proofs.lemmas.Bool.Decides.{same_from_decides}
use Rattle.std.proofs.lemmas.Slice.Eq.{bytes_eq-Decides}
use Rattle.il_base.specs.declared.world_model.expr.TypeExpr.{TypeExpr, fold-roll-TypeExpr, ind-TypeExpr, out-TypeExpr, roll-TypeExpr, roll-out-TypeExpr}
use Rattle.il_base.specs.declared.world_model.expr.TypeExpr.TheFolds.{map-TypeExpr}
use Rattle.il_base.specs.declared.world_model.expr.TypeExpr.TheOpen.{TypeExpr-F}
use Rattle.il_base.specs.world_model.Core.{same_name}
use Rattle.il_base.specs.world_model.Exprs.{same_bool, same_expr, same_exprs}
use Rattle.il_base.proofs.lemmas.world_model.SameExpr.{same_decides, all_decide}
use Rattle.rules.specs.declared.link_rules.member_type.MethodType.{MethodType}
use Rattle.rules.specs.link_rules.Types.{same_place}
use Rattle.rules.specs.link_rules.Signatures.{same_method_type}
use Rattle.rules.specs.link_rules.Cycles.{listed}
use Rattle.rules.specs.link_rules.Faults.{TypeKey, same_type_key, MemberKey, same_member_key}
use Rattle.link_faults.specs.Codes.{bit, code_layer, type_code, method_code, with_text, member_code, type_key_code}

-- ---- types

-- two types, and what follows them
abbrev Both : {A : Type 0} → A → A → List ℕ → List ℕ → Type 0
Both x y r s = (x ≡ y) × (r ≡ s)

abbrev IsDistinct : TypeExpr → Type 0
IsDistinct x = (y : TypeExpr) (r s : List ℕ) → type_code x ++ r ≡ type_code y ++ s → Both x y r s

abbrev Part : Type 0
Part = (e : TypeExpr) × IsDistinct e

abbrev whole : TypeExpr-F Part → TypeExpr-F TypeExpr
whole y = map-TypeExpr Part TypeExpr (λ e. e.0) y

abbrev coded : TypeExpr-F TypeExpr → List ℕ
coded x = code_layer (map-TypeExpr TypeExpr (List ℕ) type_code x)

same_bools : (a b : Bool) → same_bool a b ≡ true → a ≡ b
same_bools true true h = refl
same_bools true false h = sym h
same_bools false true h = h
same_bools false false h = refl

own_bool : (a : Bool) → same_bool a a ≡ true
own_bool true = refl
own_bool false = refl

bit_same : (b c : Bool) → bit b ≡ bit c → b ≡ c
bit_same true true e = refl
bit_same false false e = refl
bit_same true false e = cc
bit_same false true e = cc

args_distinct : (xs : List Part) (ys : List TypeExpr) (r s : List ℕ) → length xs ≡ length ys
    → flat_map (λ code. code) (map type_code (map (λ e. e.0) xs)) ++ r ≡ flat_map (λ code. code) (map type_code ys) ++ s → Both (map (λ e. e.0) xs) ys r s
args_distinct [] [] r s l e = (refl, e)
args_distinct [] (y ∷ ys) r s l e = cc
args_distinct (x ∷ xs) [] r s l e = cc
args_distinct (x ∷ xs) (y ∷ ys) r s l e =
    let xr : List ℕ = flat_map (λ code. code) (map type_code (map (λ e. e.0) xs)) in
    let yr : List ℕ = flat_map (λ code. code) (map type_code ys) in
    let f = x.1 y (xr ++ r) (yr ++ s) (sym (append_assoc (type_code x.0) xr r) ∙ e ∙ append_assoc (type_code y) yr s) in
    let g = args_distinct xs ys r s (let m : suc (length xs) ≡ suc (length ys) = l in cc) f.1 in
    (λ i. f.0 i ∷ g.0 i, g.1)

layer_distinct : (y : TypeExpr-F Part) (l : TypeExpr-F TypeExpr) (r s : List ℕ) → coded (whole y) ++ r ≡ coded l ++ s → Both (whole y) l r s
layer_distinct (TypeExpr-F.Prim n) (TypeExpr-F.Prim m) r s e = (let f : n ≡ m = cc in ap TypeExpr-F.Prim f, cc)
layer_distinct (TypeExpr-F.Def t) (TypeExpr-F.Def u) r s e = (let f : t.0 ≡ u.0 = cc in ap (λ (n : ℕ). TypeExpr-F.Def (record { 0 = n })) f, cc)
layer_distinct (TypeExpr-F.Inst t xs) (TypeExpr-F.Inst u ys) r s e =
    let f : t.0 ≡ u.0 = cc in
    let m : length (map type_code (map (λ e. e.0) xs)) ≡ length (map type_code ys) = cc in
    let l : length xs ≡ length ys = sym (length-map (map (λ e. e.0) xs) type_code ∙ length-map xs (λ e. e.0)) ∙ m ∙ length-map ys type_code in
    let g = args_distinct xs ys r s l cc in
    (λ i. TypeExpr-F.Inst (record { 0 = f i }) (g.0 i), g.1)
layer_distinct (TypeExpr-F.Array x) (TypeExpr-F.Array y) r s e = (let f = x.1 y r s cc in (ap TypeExpr-F.Array f.0, f.1))
layer_distinct (TypeExpr-F.ByRef x) (TypeExpr-F.ByRef y) r s e = (let f = x.1 y r s cc in (ap TypeExpr-F.ByRef f.0, f.1))
layer_distinct (TypeExpr-F.Var n) (TypeExpr-F.Var m) r s e = (let f : n ≡ m = cc in ap TypeExpr-F.Var f, cc)
layer_distinct (TypeExpr-F.MVar n) (TypeExpr-F.MVar m) r s e = (let f : n ≡ m = cc in ap TypeExpr-F.MVar f, cc)
layer_distinct (TypeExpr-F.Mod required by x) (TypeExpr-F.Mod asked other y) r s e =
    let f : bit required ≡ bit asked = cc in
    let g : by.0 ≡ other.0 = cc in
    let h = x.1 y r s cc in
    (λ i. TypeExpr-F.Mod (bit_same required asked f i) (record { 0 = g i }) (h.0 i), h.1)
layer_distinct (TypeExpr-F.Prim n) _ r s e = cc
layer_distinct (TypeExpr-F.Def t) _ r s e = cc
layer_distinct (TypeExpr-F.Inst t xs) _ r s e = cc
layer_distinct (TypeExpr-F.Array a) _ r s e = cc
layer_distinct (TypeExpr-F.ByRef a) _ r s e = cc
layer_distinct (TypeExpr-F.Var n) _ r s e = cc
layer_distinct (TypeExpr-F.MVar n) _ r s e = cc
layer_distinct (TypeExpr-F.Mod required by a) _ r s e = cc

rolled_distinct : (y : TypeExpr-F Part) → IsDistinct (roll-TypeExpr (whole y))
unfolding type_code
rolled_distinct y b r s e =
    let f : type_code (roll-TypeExpr (whole y)) ≡ coded (whole y) = fold-roll-TypeExpr (List ℕ) code_layer (whole y) in
    let g : type_code b ≡ coded (out-TypeExpr b) = ap type_code (sym (roll-out-TypeExpr b)) ∙ fold-roll-TypeExpr (List ℕ) code_layer (out-TypeExpr b) in
    let h = layer_distinct y (out-TypeExpr b) r s (ap (λ (xs : List ℕ). xs ++ r) (sym f) ∙ e ∙ ap (λ (xs : List ℕ). xs ++ s) g) in
    (ap roll-TypeExpr h.0 ∙ roll-out-TypeExpr b, h.1)

pub type_distinct : (x y : TypeExpr) (r s : List ℕ) → type_code x ++ r ≡ type_code y ++ s → Both x y r s
type_distinct = ind-TypeExpr IsDistinct (λ x y is. subst (λ z. IsDistinct (roll-TypeExpr z)) is (rolled_distinct y))

pub types_distinct : (xs ys : List TypeExpr) (r s : List ℕ) → length xs ≡ length ys → flat_map type_code xs ++ r ≡ flat_map type_code ys ++ s → Both xs ys r s
types_distinct [] [] r s l e = (refl, e)
types_distinct [] (y ∷ ys) r s l e = cc
types_distinct (x ∷ xs) [] r s l e = cc
types_distinct (x ∷ xs) (y ∷ ys) r s l e =
    let f = type_distinct x y (flat_map type_code xs ++ r) (flat_map type_code ys ++ s) (sym (append_assoc (type_code x) (flat_map type_code xs) r) ∙ e ∙ append_assoc (type_code y) (flat_map type_code ys) s) in
    let g = types_distinct xs ys r s (let m : suc (length xs) ≡ suc (length ys) = l in cc) f.1 in
    (λ i. f.0 i ∷ g.0 i, g.1)

-- the test that finds two equal, by their lists
module _ {A : Type 0} (same : A → A → Bool) (code : A → List ℕ) (decides : (x y : A) → Decides (same x y) (x ≡ y)) (distinct : (x y : A) → code x ≡ code y → x ≡ y) where
  pub same_by_code : (x y : A) → same x y ≡ bytes_eq (code x) (code y)
  same_by_code x y =
      let d = bytes_eq-Decides (code x) (code y) in
      same_from_decides (same x y) (bytes_eq (code x) (code y)) (decides x y) (λ h. distinct x y (d.0 h), λ e. d.1 (ap code e))

-- ---- signatures of methods

method_distinct : (m n : MethodType) → method_code m ≡ method_code n → m ≡ n
unfolding method_code
method_distinct m n e =
    let this : bit m.this ≡ bit n.this = cc in
    let generic : m.generic ≡ n.generic = cc in
    let count : length m.params ≡ length n.params = cc in
    let ret = type_distinct m.ret n.ret (flat_map type_code m.params) (flat_map type_code n.params) cc in
    let params = types_distinct m.params n.params [] [] count (append-nil (flat_map type_code m.params) ∙ ret.1 ∙ sym (append-nil (flat_map type_code n.params))) in
    λ i. record { this = bit_same m.this n.this this i; generic = generic i; ret = ret.0 i; params = params.0 i }

-- ---- texts

text_distinct_by : (a b r s : List ℕ) → length a ≡ length b → a ++ r ≡ b ++ s → Both a b r s
text_distinct_by [] [] r s l e = (refl, e)
text_distinct_by [] (y ∷ b) r s l e = cc
text_distinct_by (x ∷ a) [] r s l e = cc
text_distinct_by (x ∷ a) (y ∷ b) r s l e =
    let h : x ≡ y = cc in
    let g = text_distinct_by a b r s (let m : suc (length a) ≡ suc (length b) = l in cc) (cc) in
    (λ i. h i ∷ g.0 i, g.1)

text_distinct : (a b r s : List ℕ) → with_text a r ≡ with_text b s → Both a b r s
text_distinct a b r s e = text_distinct_by a b r s (cc) (cc)

-- ---- members

member_distinct : {A : Type 0} (code : A → List ℕ) → ((x y : A) → code x ≡ code y → x ≡ y) → (a b : MemberKey A) → member_code code a ≡ member_code code b → a ≡ b
unfolding member_code
member_distinct code distinct a b e =
    let owner : a.owner ≡ b.owner = cc in
    let rest : with_text a.name (code a.signature) ≡ with_text b.name (code b.signature) = cc in
    let name = text_distinct a.name b.name (code a.signature) (code b.signature) rest in
    λ i. record { owner = owner i; name = name.0 i; signature = distinct a.signature b.signature name.1 i }

listed_same : (o p : Option ℕ) → listed o ≡ listed p → o ≡ p
listed_same None None e = refl
listed_same None (Some n) e = cc
listed_same (Some n) None e = cc
listed_same (Some n) (Some m) e = let f : n ≡ m = cc in ap (λ (k : ℕ). Some k) f

type_key_distinct : (a b : TypeKey) → type_key_code a ≡ type_key_code b → a ≡ b
unfolding type_key_code
type_key_distinct a b e =
    let namespace = text_distinct a.namespace b.namespace (with_text a.name (listed a.encloser)) (with_text b.name (listed b.encloser)) e in
    let name = text_distinct a.name b.name (listed a.encloser) (listed b.encloser) namespace.1 in
    λ i. record { namespace = namespace.0 i; name = name.0 i; encloser = listed_same a.encloser b.encloser name.1 i }

-- ---- the tests that find two equal

method_decides : (m n : MethodType) → Decides (same_method_type m n) (m ≡ n)
unfolding same_method_type
method_decides m n =
    let p : Bool = same_bool m.this n.this in
    let q : Bool = nat_eq m.generic n.generic in
    let r : Bool = same_expr m.ret n.ret in
    let s : Bool = same_exprs m.params n.params in (
      λ h.
          let pqr : (p && q && r) ≡ true = first_so (p && q && r) s h in
          let pq : (p && q) ≡ true = first_so (p && q) r pqr in
          let this : m.this ≡ n.this = same_bools m.this n.this (first_so p q pq) in
          let generic : m.generic ≡ n.generic = eqb-true m.generic n.generic (second_so p q pq) in
          let ret : m.ret ≡ n.ret = (same_decides m.ret n.ret).0 (second_so (p && q) r pqr) in
          let params : m.params ≡ n.params = (all_decide m.params n.params).0 (second_so (p && q && r) s h) in
          λ i. record { this = this i; generic = generic i; ret = ret i; params = params i },
      λ e.
          let this : p ≡ true = ap (λ (x : MethodType). same_bool m.this x.this) (sym e) ∙ own_bool m.this in
          let generic : q ≡ true = eq-eqb m.generic n.generic (ap (λ (x : MethodType). x.generic) e) in
          let ret : r ≡ true = (same_decides m.ret n.ret).1 (ap (λ (x : MethodType). x.ret) e) in
          let params : s ≡ true = (all_decide m.params n.params).1 (ap (λ (x : MethodType). x.params) e) in
          and_from (p && q && r) s (and_from (p && q) r (and_from p q this generic) ret) params,
    )

member_decides : {A : Type 0} (same : A → A → Bool) → ((x y : A) → Decides (same x y) (x ≡ y)) → (a b : MemberKey A) → Decides (same_member_key same a b) (a ≡ b)
member_decides {A} same decides a b =
    let p : Bool = nat_eq a.owner b.owner in
    let q : Bool = same_name a.name b.name in
    let r : Bool = same a.signature b.signature in (
      λ h.
          let pq : (p && q) ≡ true = first_so (p && q) r h in
          let owner : a.owner ≡ b.owner = eqb-true a.owner b.owner (first_so p q pq) in
          let name : a.name ≡ b.name = (bytes_eq-Decides a.name b.name).0 (second_so p q pq) in
          let signature : a.signature ≡ b.signature = (decides a.signature b.signature).0 (second_so (p && q) r h) in
          λ i. record { owner = owner i; name = name i; signature = signature i },
      λ e.
          let owner : p ≡ true = eq-eqb a.owner b.owner (ap (λ (x : MemberKey A). x.owner) e) in
          let name : q ≡ true = (bytes_eq-Decides a.name b.name).1 (ap (λ (x : MemberKey A). x.name) e) in
          let signature : r ≡ true = (decides a.signature b.signature).1 (ap (λ (x : MemberKey A). x.signature) e) in
          and_from (p && q) r (and_from p q owner name) signature,
    )

place_decides : (o p : Option ℕ) → Decides (same_place o p) (o ≡ p)
place_decides None None = (λ h. refl, λ e. refl)
place_decides None (Some k) = (λ h. cc, λ e. cc)
place_decides (Some j) None = (λ h. cc, λ e. cc)
place_decides (Some j) (Some k) = (λ h. ap (λ (n : ℕ). Some n) (eqb-true j k h), λ e. eq-eqb j k (let f : j ≡ k = cc in f))

type_key_decides : (a b : TypeKey) → Decides (same_type_key a b) (a ≡ b)
type_key_decides a b =
    let p : Bool = same_name a.name b.name in
    let q : Bool = same_name a.namespace b.namespace in
    let r : Bool = same_place a.encloser b.encloser in (
      λ h.
          let pq : (p && q) ≡ true = first_so (p && q) r h in
          let name : a.name ≡ b.name = (bytes_eq-Decides a.name b.name).0 (first_so p q pq) in
          let namespace : a.namespace ≡ b.namespace = (bytes_eq-Decides a.namespace b.namespace).0 (second_so p q pq) in
          let encloser : a.encloser ≡ b.encloser = (place_decides a.encloser b.encloser).0 (second_so (p && q) r h) in
          λ i. record { namespace = namespace i; name = name i; encloser = encloser i },
      λ e.
          let name : p ≡ true = (bytes_eq-Decides a.name b.name).1 (ap (λ (x : TypeKey). x.name) e) in
          let namespace : q ≡ true = (bytes_eq-Decides a.namespace b.namespace).1 (ap (λ (x : TypeKey). x.namespace) e) in
          let encloser : r ≡ true = (place_decides a.encloser b.encloser).1 (ap (λ (x : TypeKey). x.encloser) e) in
          and_from (p && q) r (and_from p q name namespace) encloser,
    )

pub field_key_by_code : (a b : MemberKey TypeExpr) → same_member_key same_expr a b ≡ bytes_eq (member_code type_code a) (member_code type_code b)
field_key_by_code =
    same_by_code (same_member_key same_expr) (member_code type_code) (member_decides same_expr same_decides)
    (member_distinct type_code (λ x y e. (type_distinct x y [] [] (ap (λ (xs : List ℕ). xs ++ []) e)).0))

pub method_key_by_code : (a b : MemberKey MethodType) → same_member_key same_method_type a b ≡ bytes_eq (member_code method_code a) (member_code method_code b)
method_key_by_code = same_by_code (same_member_key same_method_type) (member_code method_code) (member_decides same_method_type method_decides) (member_distinct method_code method_distinct)

pub type_key_by_code : (a b : TypeKey) → same_type_key a b ≡ bytes_eq (type_key_code a) (type_key_code b)
type_key_by_code = same_by_code same_type_key type_key_code type_key_decides type_key_distinct
