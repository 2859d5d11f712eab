-- Signatures are the same where their codes are.
use Rattle.std.proofs.Common.{◌≡◌, ℕ, suc, Bool, true, false, List, [], ◌∷◌, ◌++◌, length, map, refl, sym, ap, subst, ◌∙◌, append_assoc}
use Rattle.std.specs.List.{flat_map}
use Rattle.std.proofs.lemmas.List.{length-map}
use Rattle.il_base.specs.declared.sig.Sig.{Sig, fold-roll-Sig, ind-Sig, out-Sig, roll-Sig, roll-out-Sig}
use Rattle.il_base.specs.declared.sig.Sig.TheFolds.{map-Sig}
use Rattle.il_base.specs.declared.sig.Sig.TheOpen.{Sig-F}
use Rattle.il_base.specs.declared.sig.MethodSig.{MethodSig}
use Rattle.rules.specs.merge_rules.Keys.{same_sig, same_sigs, same_method_sig}
use Rattle.link_faults.specs.Codes.{bit}
use Rattle.link_faults.proofs.Distinct.{same_by_code}
use Rattle.token_keys.specs.key_codes.Codes.{code_layer, sig_code, sigs_code, method_sig_code}
use Rattle.token_keys.specs.key_codes.Laws.{AreCodes}
use Rattle.token_keys.proofs.lemmas.key_codes.SameSig.{sig_decides, sigs_decide, method_sig_decides}

-- two, and what follows them
abbrev pub Both : {A : Type 0} → A → A → List ℕ → List ℕ → Type 0
Both x y r s = (x ≡ y) × (r ≡ s)

abbrev IsDistinct : Sig → Type 0
IsDistinct x = (y : Sig) (r s : List ℕ) → sig_code x ++ r ≡ sig_code y ++ s → Both x y r s

abbrev Part : Type 0
Part = (e : Sig) × IsDistinct e

abbrev whole : Sig-F Part → Sig-F Sig
whole y = map-Sig Part Sig (λ e. e.0) y

abbrev coded : Sig-F Sig → List ℕ
coded x = code_layer (map-Sig Sig (List ℕ) sig_code x)

pub bit_same : (b c : Bool) → bit b ≡ bit c → b ≡ c
bit_same true true e = refl
bit_same false false e = refl
bit_same true false e = cc
bit_same false true e = cc

args_distinct : (xs : List Part) (ys : List Sig) (r s : List ℕ) → length xs ≡ length ys
    → flat_map (λ code. code) (map sig_code (map (λ e. e.0) xs)) ++ r ≡ flat_map (λ code. code) (map sig_code ys) ++ s → Both (map (λ e. e.0) xs) ys r s
args_distinct [] [] r s l e = (refl, e)
args_distinct [] (y ∷ ys) r s l e = cc
args_distinct (x ∷ xs) [] r s l e = cc
args_distinct (x ∷ xs) (y ∷ ys) r s l e =
    let xr : List ℕ = flat_map (λ code. code) (map sig_code (map (λ e. e.0) xs)) in
    let yr : List ℕ = flat_map (λ code. code) (map sig_code ys) in
    let f = x.1 y (xr ++ r) (yr ++ s) (sym (append_assoc (sig_code x.0) xr r) ∙ e ∙ append_assoc (sig_code y) yr s) in
    let g = args_distinct xs ys r s (let m : suc (length xs) ≡ suc (length ys) = l in cc) f.1 in
    (λ i. f.0 i ∷ g.0 i, g.1)

layer_distinct : (y : Sig-F Part) (l : Sig-F Sig) (r s : List ℕ) → coded (whole y) ++ r ≡ coded l ++ s → Both (whole y) l r s
layer_distinct (Sig-F.Prim n) (Sig-F.Prim m) r s e = (let f : n ≡ m = cc in ap Sig-F.Prim f, cc)
layer_distinct (Sig-F.Named v t) (Sig-F.Named w u) r s e =
    let f : bit v ≡ bit w = cc in
    let g : t ≡ u = cc in
    (λ i. Sig-F.Named (bit_same v w f i) (g i), cc)
layer_distinct (Sig-F.Array x) (Sig-F.Array y) r s e = (let f = x.1 y r s cc in (ap Sig-F.Array f.0, f.1))
layer_distinct (Sig-F.ByRef x) (Sig-F.ByRef y) r s e = (let f = x.1 y r s cc in (ap Sig-F.ByRef f.0, f.1))
layer_distinct (Sig-F.Inst v t xs) (Sig-F.Inst w u ys) r s e =
    let b : bit v ≡ bit w = cc in
    let f : t ≡ u = cc in
    let m : length (map sig_code (map (λ e. e.0) xs)) ≡ length (map sig_code ys) = cc in
    let l : length xs ≡ length ys = sym (length-map (map (λ e. e.0) xs) sig_code ∙ length-map xs (λ e. e.0)) ∙ m ∙ length-map ys sig_code in
    let g = args_distinct xs ys r s l cc in
    (λ i. Sig-F.Inst (bit_same v w b i) (f i) (g.0 i), g.1)
layer_distinct (Sig-F.Var n) (Sig-F.Var m) r s e = (let f : n ≡ m = cc in ap Sig-F.Var f, cc)
layer_distinct (Sig-F.MVar n) (Sig-F.MVar m) r s e = (let f : n ≡ m = cc in ap Sig-F.MVar f, cc)
layer_distinct (Sig-F.Mod p t x) (Sig-F.Mod q u y) r s e =
    let f : bit p ≡ bit q = cc in
    let g : t ≡ u = cc in
    let h = x.1 y r s cc in
    (λ i. Sig-F.Mod (bit_same p q f i) (g i) (h.0 i), h.1)
layer_distinct (Sig-F.Pinned x) (Sig-F.Pinned y) r s e = (let f = x.1 y r s cc in (ap Sig-F.Pinned f.0, f.1))
layer_distinct (Sig-F.Prim n) _ r s e = cc
layer_distinct (Sig-F.Named v t) _ r s e = cc
layer_distinct (Sig-F.Array a) _ r s e = cc
layer_distinct (Sig-F.ByRef a) _ r s e = cc
layer_distinct (Sig-F.Inst v t xs) _ r s e = cc
layer_distinct (Sig-F.Var n) _ r s e = cc
layer_distinct (Sig-F.MVar n) _ r s e = cc
layer_distinct (Sig-F.Mod p t a) _ r s e = cc
layer_distinct (Sig-F.Pinned a) _ r s e = cc

rolled_distinct : (y : Sig-F Part) → IsDistinct (roll-Sig (whole y))
unfolding sig_code
rolled_distinct y b r s e =
    let f : sig_code (roll-Sig (whole y)) ≡ coded (whole y) = fold-roll-Sig (List ℕ) code_layer (whole y) in
    let g : sig_code b ≡ coded (out-Sig b) = ap sig_code (sym (roll-out-Sig b)) ∙ fold-roll-Sig (List ℕ) code_layer (out-Sig b) in
    let h = layer_distinct y (out-Sig b) r s (ap (λ (xs : List ℕ). xs ++ r) (sym f) ∙ e ∙ ap (λ (xs : List ℕ). xs ++ s) g) in
    (ap roll-Sig h.0 ∙ roll-out-Sig b, h.1)

pub sig_distinct : (x y : Sig) (r s : List ℕ) → sig_code x ++ r ≡ sig_code y ++ s → Both x y r s
sig_distinct = ind-Sig IsDistinct (λ x y is. subst (λ z. IsDistinct (roll-Sig z)) is (rolled_distinct y))

each_distinct : (xs ys : List Sig) (r s : List ℕ) → length xs ≡ length ys → flat_map sig_code xs ++ r ≡ flat_map sig_code ys ++ s → Both xs ys r s
each_distinct [] [] r s l e = (refl, e)
each_distinct [] (y ∷ ys) r s l e = cc
each_distinct (x ∷ xs) [] r s l e = cc
each_distinct (x ∷ xs) (y ∷ ys) r s l e =
    let f = sig_distinct x y (flat_map sig_code xs ++ r) (flat_map sig_code ys ++ s) (sym (append_assoc (sig_code x) (flat_map sig_code xs) r) ∙ e ∙ append_assoc (sig_code y) (flat_map sig_code ys) s) in
    let g = each_distinct xs ys r s (let m : suc (length xs) ≡ suc (length ys) = l in cc) f.1 in
    (λ i. f.0 i ∷ g.0 i, g.1)

pub sigs_distinct : (xs ys : List Sig) (r s : List ℕ) → sigs_code xs ++ r ≡ sigs_code ys ++ s → Both xs ys r s
sigs_distinct xs ys r s e =
    let l : length xs ≡ length ys = cc in
    each_distinct xs ys r s l cc

pub method_sig_distinct : (m n : MethodSig) (r s : List ℕ) → method_sig_code m ++ r ≡ method_sig_code n ++ s → Both m n r s
method_sig_distinct m n r s e =
    let this : bit m.this ≡ bit n.this = cc in
    let generic : m.generic ≡ n.generic = cc in
    let rest : (sig_code m.ret ++ sigs_code m.params) ++ r ≡ (sig_code n.ret ++ sigs_code n.params) ++ s = cc in
    let ret = sig_distinct m.ret n.ret (sigs_code m.params ++ r) (sigs_code n.params ++ s) (sym (append_assoc (sig_code m.ret) (sigs_code m.params) r) ∙ rest ∙ append_assoc (sig_code n.ret) (sigs_code n.params) s) in
    let params = sigs_distinct m.params n.params r s ret.1 in
    (λ i. record { this = bit_same m.this n.this this i; generic = generic i; ret = ret.0 i; params = params.0 i }, params.1)

-- where nothing follows
pub alone : {A : Type 0} (code : A → List ℕ) → ((x y : A) (r s : List ℕ) → code x ++ r ≡ code y ++ s → Both x y r s) → (x y : A) → code x ≡ code y → x ≡ y
alone code distinct x y e = (distinct x y [] [] (ap (λ (xs : List ℕ). xs ++ []) e)).0

pub all_tell : AreCodes
all_tell = record {
  sigs = same_by_code same_sig sig_code sig_decides (alone sig_code sig_distinct);
  lists = same_by_code same_sigs sigs_code sigs_decide (alone sigs_code sigs_distinct);
  methods = same_by_code same_method_sig method_sig_code method_sig_decides (alone method_sig_code method_sig_distinct);
}
