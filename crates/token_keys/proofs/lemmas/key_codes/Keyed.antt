-- Types, members and instances are the same where their codes are.
use Rattle.std.proofs.Common.{◌≡◌, ℕ, suc, Bool, true, nat_eq, ◌&&◌, List, [], ◌∷◌, ◌++◌, length, refl, sym, ap, subst, ◌∙◌, append_assoc}
use Rattle.std.specs.Bool.{Decides}
use Rattle.std.specs.Cmp.{first_so, second_so}
use Rattle.std.proofs.lemmas.Bool.{eqb-true, eq-eqb}
use Rattle.std.proofs.lemmas.Slice.Eq.{bytes_eq-Decides}
use Rattle.il_base.specs.declared.sig.MethodSig.{MethodSig}
use Rattle.il_base.specs.declared.world_model.expr.TypeExpr.{TypeExpr}
use Rattle.il_base.specs.world_model.Core.{same_name}
use Rattle.il_base.specs.world_model.Exprs.{same_expr}
use Rattle.il_base.proofs.lemmas.world_model.SameExpr.{same_decides}
use Rattle.link_faults.specs.Codes.{with_text}
use Rattle.link_faults.proofs.Distinct.{type_distinct, same_by_code}
use Rattle.rules.specs.merge_rules.Keys.{TypeKey, named, spec, same_type, MethodKey, own_method, found_method, absent_method, same_method, FieldKey, own_field, found_field, same_field, InstanceKey, same_instance, same_sigs, same_method_sig}
use Rattle.rules.specs.merge_rules.Refs.{MemberKey, a_method, a_field, an_absent, same_member}
use Rattle.token_keys.specs.key_codes.Codes.{sigs_code, method_sig_code}
use Rattle.token_keys.specs.key_codes.KeyCodes.{type_key_code, method_key_code, field_key_code, instance_key_code, member_key_code}
use Rattle.token_keys.specs.key_codes.Laws.{AreKeyCodes}
use Rattle.token_keys.proofs.lemmas.key_codes.SameSig.{sig_decides, sigs_decide, method_sig_decides}
use Rattle.token_keys.proofs.lemmas.key_codes.Distinct.{Both, alone, sig_distinct, sigs_distinct, method_sig_distinct}

-- a test that says true of equal ones alone, and of each and itself
decides_by : {A : Type 0} (same : A → A → Bool) → ((x y : A) → same x y ≡ true → x ≡ y) → ((x : A) → same x x ≡ true) → (x y : A) → Decides (same x y) (x ≡ y)
decides_by same only self x y = (only x y, λ e. subst (λ z. same x z ≡ true) e (self x))

own_number : (n : ℕ) → nat_eq n n ≡ true
own_number n = eq-eqb n n refl

own_expr : (e : TypeExpr) → same_expr e e ≡ true
own_expr e = (same_decides e e).1 refl

own_name : (name : List ℕ) → same_name name name ≡ true
own_name name = (bytes_eq-Decides name name).1 refl

own_signature : (s : MethodSig) → same_method_sig s s ≡ true
own_signature s = (method_sig_decides s s).1 refl

-- ---- types

type_only : (x y : TypeKey) → same_type x y ≡ true → x ≡ y
type_only (named t) (named u) h = λ i. named (record { 0 = eqb-true t.0 u.0 h i })
type_only (named t) (spec r) h = cc
type_only (spec s) (named u) h = cc
type_only (spec s) (spec r) h = ap spec ((sig_decides s r).0 h)

type_self : (x : TypeKey) → same_type x x ≡ true
type_self (named t) = own_number t.0
type_self (spec s) = (sig_decides s s).1 refl

type_key_distinct : (x y : TypeKey) (r s : List ℕ) → type_key_code x ++ r ≡ type_key_code y ++ s → Both x y r s
type_key_distinct (named t) (named u) r s e = (let f : t.0 ≡ u.0 = cc in λ i. named (record { 0 = f i }), cc)
type_key_distinct (named t) (spec b) r s e = cc
type_key_distinct (spec a) (named u) r s e = cc
type_key_distinct (spec a) (spec b) r s e = (let f = sig_distinct a b r s cc in (ap spec f.0, f.1))

-- ---- texts

text_distinct_by : (a b r s : List ℕ) → length a ≡ length b → a ++ r ≡ b ++ s → Both a b r s
text_distinct_by [] [] r s l e = (refl, e)
text_distinct_by [] (y ∷ b) r s l e = cc
text_distinct_by (x ∷ a) [] r s l e = cc
text_distinct_by (x ∷ a) (y ∷ b) r s l e =
    let h : x ≡ y = cc in
    let g = text_distinct_by a b r s (let m : suc (length a) ≡ suc (length b) = l in cc) (let f : a ++ r ≡ b ++ s = cc in f) in
    (λ i. h i ∷ g.0 i, g.1)

text_distinct : (a b r s : List ℕ) → with_text a r ≡ with_text b s → Both a b r s
text_distinct a b r s e =
    let l : length a ≡ length b = cc in
    let f : a ++ r ≡ b ++ s = cc in
    text_distinct_by a b r s l f

-- ---- what names nothing: a parent, a name and a signature

abbrev absent_code : TypeKey → List ℕ → MethodSig → List ℕ
absent_code p name s = type_key_code p ++ with_text name (method_sig_code s)

pub record Absents (p q : TypeKey) (x y : List ℕ) (m n : MethodSig) (r s : List ℕ) : Type 0 where
  pub parents : p ≡ q
  pub names : x ≡ y
  pub signatures : m ≡ n
  pub others : r ≡ s

absent_distinct : (p q : TypeKey) (x y : List ℕ) (m n : MethodSig) (r s : List ℕ) → absent_code p x m ++ r ≡ absent_code q y n ++ s → Absents p q x y m n r s
absent_distinct p q x y m n r s e =
    let a : List ℕ = method_sig_code m in
    let b : List ℕ = method_sig_code n in
    let f = type_key_distinct p q (with_text x a ++ r) (with_text y b ++ s) (sym (append_assoc (type_key_code p) (with_text x a) r) ∙ e ∙ append_assoc (type_key_code q) (with_text y b) s) in
    let g = text_distinct x y (a ++ r) (b ++ s) (ap (λ (k : List ℕ). length x ∷ k) (sym (append_assoc x a r)) ∙ f.1 ∙ ap (λ (k : List ℕ). length y ∷ k) (append_assoc y b s)) in
    let h = method_sig_distinct m n r s g.1 in
    record { parents = f.0; names = g.0; signatures = h.0; others = h.1 }

-- ---- methods

method_only : (x y : MethodKey) → same_method x y ≡ true → x ≡ y
method_only (own_method m) (own_method n) h = λ i. own_method (record { 0 = eqb-true m.0 n.0 h i })
method_only (own_method m) (found_method n f) h = cc
method_only (own_method m) (absent_method q y r) h = cc
method_only (found_method m e) (own_method n) h = cc
method_only (found_method m e) (found_method n f) h =
    let a : Bool = nat_eq m.0 n.0 in
    let b : Bool = same_expr e f in
    λ i. found_method (record { 0 = eqb-true m.0 n.0 (first_so a b h) i }) ((same_decides e f).0 (second_so a b h) i)
method_only (found_method m e) (absent_method q y r) h = cc
method_only (absent_method p x s) (own_method n) h = cc
method_only (absent_method p x s) (found_method n f) h = cc
method_only (absent_method p x s) (absent_method q y r) h =
    let a : Bool = same_type p q in
    let b : Bool = same_name x y in
    let c : Bool = same_method_sig s r in
    let ab : (a && b) ≡ true = first_so (a && b) c h in
    λ i. absent_method (type_only p q (first_so a b ab) i) ((bytes_eq-Decides x y).0 (second_so a b ab) i) ((method_sig_decides s r).0 (second_so (a && b) c h) i)

method_self : (x : MethodKey) → same_method x x ≡ true
method_self (own_method m) = own_number m.0
method_self (found_method m e) = λ i. own_number m.0 i && own_expr e i
method_self (absent_method p x s) = λ i. (type_self p i && own_name x i) && own_signature s i

method_key_distinct : (x y : MethodKey) (r s : List ℕ) → method_key_code x ++ r ≡ method_key_code y ++ s → Both x y r s
method_key_distinct (own_method m) (own_method n) r s e = (let f : m.0 ≡ n.0 = cc in λ i. own_method (record { 0 = f i }), cc)
method_key_distinct (own_method m) (found_method n b) r s e = cc
method_key_distinct (own_method m) (absent_method q y b) r s e = cc
method_key_distinct (found_method m a) (own_method n) r s e = cc
method_key_distinct (found_method m a) (found_method n b) r s e =
    let f : m.0 ≡ n.0 = cc in
    let g = type_distinct a b r s cc in
    (λ i. found_method (record { 0 = f i }) (g.0 i), g.1)
method_key_distinct (found_method m a) (absent_method q y b) r s e = cc
method_key_distinct (absent_method p x a) (own_method n) r s e = cc
method_key_distinct (absent_method p x a) (found_method n b) r s e = cc
method_key_distinct (absent_method p x a) (absent_method q y b) r s e =
    let f = absent_distinct p q x y a b r s cc in
    (λ i. absent_method (f.parents i) (f.names i) (f.signatures i), f.others)

-- ---- fields

field_only : (x y : FieldKey) → same_field x y ≡ true → x ≡ y
field_only (own_field m) (own_field n) h = λ i. own_field (record { 0 = eqb-true m.0 n.0 h i })
field_only (own_field m) (found_field n f) h = cc
field_only (found_field m e) (own_field n) h = cc
field_only (found_field m e) (found_field n f) h =
    let a : Bool = nat_eq m.0 n.0 in
    let b : Bool = same_expr e f in
    λ i. found_field (record { 0 = eqb-true m.0 n.0 (first_so a b h) i }) ((same_decides e f).0 (second_so a b h) i)

field_self : (x : FieldKey) → same_field x x ≡ true
field_self (own_field m) = own_number m.0
field_self (found_field m e) = λ i. own_number m.0 i && own_expr e i

field_key_distinct : (x y : FieldKey) (r s : List ℕ) → field_key_code x ++ r ≡ field_key_code y ++ s → Both x y r s
field_key_distinct (own_field m) (own_field n) r s e = (let f : m.0 ≡ n.0 = cc in λ i. own_field (record { 0 = f i }), cc)
field_key_distinct (own_field m) (found_field n b) r s e = cc
field_key_distinct (found_field m a) (own_field n) r s e = cc
field_key_distinct (found_field m a) (found_field n b) r s e =
    let f : m.0 ≡ n.0 = cc in
    let g = type_distinct a b r s cc in
    (λ i. found_field (record { 0 = f i }) (g.0 i), g.1)

-- ---- instances

instance_only : (x y : InstanceKey) → same_instance x y ≡ true → x ≡ y
instance_only x y h =
    let a : Bool = same_method x.method y.method in
    let b : Bool = same_sigs x.args y.args in
    λ i. record { method = method_only x.method y.method (first_so a b h) i; args = (sigs_decide x.args y.args).0 (second_so a b h) i }

instance_self : (x : InstanceKey) → same_instance x x ≡ true
instance_self x = λ i. method_self x.method i && (sigs_decide x.args x.args).1 refl i

instance_key_distinct : (x y : InstanceKey) (r s : List ℕ) → instance_key_code x ++ r ≡ instance_key_code y ++ s → Both x y r s
instance_key_distinct x y r s e =
    let f = method_key_distinct x.method y.method (sigs_code x.args ++ r) (sigs_code y.args ++ s)
    (sym (append_assoc (method_key_code x.method) (sigs_code x.args) r) ∙ e ∙ append_assoc (method_key_code y.method) (sigs_code y.args) s) in
    let g = sigs_distinct x.args y.args r s f.1 in
    (λ i. record { method = f.0 i; args = g.0 i }, g.1)

-- ---- rows of MemberRef

member_only : (x y : MemberKey) → same_member x y ≡ true → x ≡ y
member_only (a_method m e) (a_method n f) h =
    let a : Bool = nat_eq m.0 n.0 in
    let b : Bool = same_expr e f in
    λ i. a_method (record { 0 = eqb-true m.0 n.0 (first_so a b h) i }) ((same_decides e f).0 (second_so a b h) i)
member_only (a_method m e) (a_field n f) h = cc
member_only (a_method m e) (an_absent q y r) h = cc
member_only (a_field m e) (a_method n f) h = cc
member_only (a_field m e) (a_field n f) h =
    let a : Bool = nat_eq m.0 n.0 in
    let b : Bool = same_expr e f in
    λ i. a_field (record { 0 = eqb-true m.0 n.0 (first_so a b h) i }) ((same_decides e f).0 (second_so a b h) i)
member_only (a_field m e) (an_absent q y r) h = cc
member_only (an_absent p x s) (a_method n f) h = cc
member_only (an_absent p x s) (a_field n f) h = cc
member_only (an_absent p x s) (an_absent q y r) h =
    let a : Bool = same_type p q in
    let b : Bool = same_name x y in
    let c : Bool = same_method_sig s r in
    let ab : (a && b) ≡ true = first_so (a && b) c h in
    λ i. an_absent (type_only p q (first_so a b ab) i) ((bytes_eq-Decides x y).0 (second_so a b ab) i) ((method_sig_decides s r).0 (second_so (a && b) c h) i)

member_self : (x : MemberKey) → same_member x x ≡ true
member_self (a_method m e) = λ i. own_number m.0 i && own_expr e i
member_self (a_field m e) = λ i. own_number m.0 i && own_expr e i
member_self (an_absent p x s) = λ i. (type_self p i && own_name x i) && own_signature s i

member_key_distinct : (x y : MemberKey) (r s : List ℕ) → member_key_code x ++ r ≡ member_key_code y ++ s → Both x y r s
member_key_distinct (a_method m a) (a_method n b) r s e =
    let f : m.0 ≡ n.0 = cc in
    let g = type_distinct a b r s cc in
    (λ i. a_method (record { 0 = f i }) (g.0 i), g.1)
member_key_distinct (a_method m a) (a_field n b) r s e = cc
member_key_distinct (a_method m a) (an_absent q y b) r s e = cc
member_key_distinct (a_field m a) (a_method n b) r s e = cc
member_key_distinct (a_field m a) (a_field n b) r s e =
    let f : m.0 ≡ n.0 = cc in
    let g = type_distinct a b r s cc in
    (λ i. a_field (record { 0 = f i }) (g.0 i), g.1)
member_key_distinct (a_field m a) (an_absent q y b) r s e = cc
member_key_distinct (an_absent p x a) (a_method n b) r s e = cc
member_key_distinct (an_absent p x a) (a_field n b) r s e = cc
member_key_distinct (an_absent p x a) (an_absent q y b) r s e =
    let f = absent_distinct p q x y a b r s cc in
    (λ i. an_absent (f.parents i) (f.names i) (f.signatures i), f.others)

-- ---- all of them

pub all_tell : AreKeyCodes
all_tell = record {
  types = same_by_code same_type type_key_code (decides_by same_type type_only type_self) (alone type_key_code type_key_distinct);
  methods = same_by_code same_method method_key_code (decides_by same_method method_only method_self) (alone method_key_code method_key_distinct);
  fields = same_by_code same_field field_key_code (decides_by same_field field_only field_self) (alone field_key_code field_key_distinct);
  instances = same_by_code same_instance instance_key_code (decides_by same_instance instance_only instance_self) (alone instance_key_code instance_key_distinct);
  members = same_by_code same_member member_key_code (decides_by same_member member_only member_self) (alone member_key_code member_key_distinct);
}
