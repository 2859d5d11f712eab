-- Items that are told from each other by tests: what is the same is equal, so each that is met is among those that are written once.
use Rattle.std.proofs.Common.{◌≡◌, ℕ, suc, Bool, true, nat_eq, ◌&&◌, List, [], ◌∷◌, Some, inl, inr, refl, sym, ap, subst, ◌∙◌}
use Rattle.std.specs.Prelude.{slice_get}
use Rattle.std.specs.Bool.{Decides}
use Rattle.std.specs.Cmp.{first_so, second_so}
use Rattle.std.proofs.lemmas.Bool.{eqb-true, eq-eqb}
use Rattle.std.proofs.lemmas.Slice.Eq.{bytes_eq-Decides}
use Rattle.il_base.specs.declared.sig.MethodSig.{MethodSig}
use Rattle.il_base.specs.declared.world_model.expr.TypeExpr.{TypeExpr}
use Rattle.il_base.specs.world_model.Core.{same_name}
use Rattle.il_base.specs.world_model.Exprs.{same_expr}
use Rattle.il_base.proofs.lemmas.world_model.SameExpr.{same_decides}
use Rattle.base_laws.proofs.lemmas.type_laws.Within.{In}
use Rattle.rules.specs.merge_rules.Keys.{TypeKey, named, spec, same_type, MethodKey, own_method, found_method, absent_method, same_method, InstanceKey, same_instance, same_sigs, same_method_sig}
use Rattle.rules.specs.merge_rules.Refs.{MemberKey, a_method, a_field, an_absent, same_member, each_once}
use Rattle.token_keys.proofs.lemmas.key_codes.SameSig.{sig_decides, sigs_decide, method_sig_decides}
use Rattle.merge_laws.proofs.lemmas.merged_references.Lists.{Placed, has_place}
use Rattle.trim_laws.proofs.lemmas.added_names.Core.{in_place}

-- a test that says true of equal ones alone, and of each and itself
decides_by : {A : Type 0} (same : A → A → Bool) → ((x y : A) → same x y ≡ true → x ≡ y) → ((x : A) → same x x ≡ true) → (x y : A) → Decides (same x y) (x ≡ y)
decides_by same only self x y = (only x y, λ e. subst (λ z. same x z ≡ true) e (self x))

own_number : (n : ℕ) → nat_eq n n ≡ true
own_number n = eq-eqb n n refl

own_expr : (e : TypeExpr) → same_expr e e ≡ true
own_expr e = (same_decides e e).1 refl

own_name : (name : List ℕ) → same_name name name ≡ true
own_name name = (bytes_eq-Decides name name).1 refl

own_signature : (s : MethodSig) → same_method_sig s s ≡ true
own_signature s = (method_sig_decides s s).1 refl

-- ---- types

type_only : (x y : TypeKey) → same_type x y ≡ true → x ≡ y
type_only (named t) (named u) h = λ i. named (record { 0 = eqb-true t.0 u.0 h i })
type_only (named t) (spec r) h = cc
type_only (spec s) (named u) h = cc
type_only (spec s) (spec r) h = ap spec ((sig_decides s r).0 h)

type_self : (x : TypeKey) → same_type x x ≡ true
type_self (named t) = own_number t.0
type_self (spec s) = (sig_decides s s).1 refl

-- ---- methods

method_only : (x y : MethodKey) → same_method x y ≡ true → x ≡ y
method_only (own_method m) (own_method n) h = λ i. own_method (record { 0 = eqb-true m.0 n.0 h i })
method_only (own_method m) (found_method n f) h = cc
method_only (own_method m) (absent_method q y r) h = cc
method_only (found_method m e) (own_method n) h = cc
method_only (found_method m e) (found_method n f) h =
    let a : Bool = nat_eq m.0 n.0 in
    let b : Bool = same_expr e f in
    λ i. found_method (record { 0 = eqb-true m.0 n.0 (first_so a b h) i }) ((same_decides e f).0 (second_so a b h) i)
method_only (found_method m e) (absent_method q y r) h = cc
method_only (absent_method p x s) (own_method n) h = cc
method_only (absent_method p x s) (found_method n f) h = cc
method_only (absent_method p x s) (absent_method q y r) h =
    let a : Bool = same_type p q in
    let b : Bool = same_name x y in
    let c : Bool = same_method_sig s r in
    let ab : (a && b) ≡ true = first_so (a && b) c h in
    λ i. absent_method (type_only p q (first_so a b ab) i) ((bytes_eq-Decides x y).0 (second_so a b ab) i) ((method_sig_decides s r).0 (second_so (a && b) c h) i)

method_self : (x : MethodKey) → same_method x x ≡ true
method_self (own_method m) = own_number m.0
method_self (found_method m e) = λ i. own_number m.0 i && own_expr e i
method_self (absent_method p x s) = λ i. (type_self p i && own_name x i) && own_signature s i

-- ---- instances

instance_only : (x y : InstanceKey) → same_instance x y ≡ true → x ≡ y
instance_only x y h =
    let a : Bool = same_method x.method y.method in
    let b : Bool = same_sigs x.args y.args in
    λ i. record { method = method_only x.method y.method (first_so a b h) i; args = (sigs_decide x.args y.args).0 (second_so a b h) i }

instance_self : (x : InstanceKey) → same_instance x x ≡ true
instance_self x = λ i. method_self x.method i && (sigs_decide x.args x.args).1 refl i

pub instances_decide : (x y : InstanceKey) → Decides (same_instance x y) (x ≡ y)
instances_decide = decides_by same_instance instance_only instance_self

-- ---- members

member_only : (x y : MemberKey) → same_member x y ≡ true → x ≡ y
member_only (a_method m e) (a_method n f) h =
    let a : Bool = nat_eq m.0 n.0 in
    let b : Bool = same_expr e f in
    λ i. a_method (record { 0 = eqb-true m.0 n.0 (first_so a b h) i }) ((same_decides e f).0 (second_so a b h) i)
member_only (a_method m e) (a_field n f) h = cc
member_only (a_method m e) (an_absent q y r) h = cc
member_only (a_field m e) (a_method n f) h = cc
member_only (a_field m e) (a_field n f) h =
    let a : Bool = nat_eq m.0 n.0 in
    let b : Bool = same_expr e f in
    λ i. a_field (record { 0 = eqb-true m.0 n.0 (first_so a b h) i }) ((same_decides e f).0 (second_so a b h) i)
member_only (a_field m e) (an_absent q y r) h = cc
member_only (an_absent p x s) (a_method n f) h = cc
member_only (an_absent p x s) (a_field n f) h = cc
member_only (an_absent p x s) (an_absent q y r) h =
    let a : Bool = same_type p q in
    let b : Bool = same_name x y in
    let c : Bool = same_method_sig s r in
    let ab : (a && b) ≡ true = first_so (a && b) c h in
    λ i. an_absent (type_only p q (first_so a b ab) i) ((bytes_eq-Decides x y).0 (second_so a b ab) i) ((method_sig_decides s r).0 (second_so (a && b) c h) i)

member_self : (x : MemberKey) → same_member x x ≡ true
member_self (a_method m e) = λ i. own_number m.0 i && own_expr e i
member_self (a_field m e) = λ i. own_number m.0 i && own_expr e i
member_self (an_absent p x s) = λ i. (type_self p i && own_name x i) && own_signature s i

pub members_decide : (x y : MemberKey) → Decides (same_member x y) (x ≡ y)
members_decide = decides_by same_member member_only member_self

-- ---- each once

pub in_once : {A : Type 0} (same : A → A → Bool) (decides : (x y : A) → Decides (same x y) (x ≡ y)) (ys : List A) (x : A) → In x ys → In x (each_once same ys)
in_once same decides ys x h =
    let p : Placed (same x) (each_once same ys) = has_place same ys x ((decides x x).1 refl) h in
    in_place (each_once same ys) p.index x (p.there ∙ ap (λ y. Some y) (sym ((decides x p.item).0 p.passes)))
