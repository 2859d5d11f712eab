-- The numbers of a method's signature, by its parts.
use Rattle.std.proofs.Common.{◌≡◌, ℕ, suc, List, [], ◌∷◌, ◌++◌, length, map, Option, Some, refl, sym, ap, ◌∙◌}
use Rattle.std.specs.List.{flat_map}
use Rattle.std.specs.Option.{option_map}
use Rattle.std.proofs.lemmas.List.{length-map}
use Rattle.il_base.specs.declared.sig.Sig.{Sig}
use Rattle.il_base.specs.declared.sig.MethodSig.{MethodSig}
use Rattle.il_base.specs.declared.world_model.known.Known.{Known}
use Rattle.il_base.specs.declared.world_model.known.Known.TheVariants.{Good, Bad}
use Rattle.il_base.specs.declared.world_model.expr.TypeExpr.{TypeExpr}
use Rattle.il_base.specs.world_model.Worlds.{Names, known_map, known_then, all_known, sig_expr}
use Rattle.rules.specs.link_rules.Signatures.{method_type, method_type_of}
use Rattle.rules.specs.link_rules.Members.{good_type}
use Rattle.link_faults.specs.Codes.{bit, type_code, method_code}
use Rattle.link_faults.specs.Keys.{good, code_of_parts}

-- as many are known as there are
known_step : {A : Type 0} (x : Known A) (ks : Known (List A)) (n : ℕ) (xs : List A) → ((ys : List A) → ks ≡ Good ys → length ys ≡ n)
    → known_then (λ y. known_map (λ ys. y ∷ ys) ks) x ≡ Good xs → length xs ≡ suc n
known_step (Bad why) ks n xs h e = cc
known_step (Good x) (Bad why) n xs h e = cc
known_step (Good x) (Good ys) n xs h e = let f : x ∷ ys ≡ xs = cc in sym (ap length f) ∙ ap suc (h ys refl)

known_length : {A : Type 0} (ks : List (Known A)) (xs : List A) → all_known ks ≡ Good xs → length xs ≡ length ks
known_length [] xs e = let f : [] ≡ xs = cc in ap length (sym f)
known_length (k ∷ ks) xs e = known_step k (all_known ks) (length ks) xs (known_length ks) e

parts_by : (s : MethodSig) (ret : Known TypeExpr) (params : Known (List TypeExpr)) → ((xs : List TypeExpr) → params ≡ Good xs → length xs ≡ length s.params)
    → code_of_parts s (option_map type_code (good_type ret)) (option_map (flat_map type_code) (good params))
    ≡ option_map method_code (good (known_then (λ (r : TypeExpr). known_map (λ ps. method_type_of s r ps) params) ret))
unfolding method_code
parts_by s (Bad why) params h = refl
parts_by s (Good ret) (Bad why) h = refl
parts_by s (Good ret) (Good params) h = ap (λ (n : ℕ). Some (bit s.this ∷ s.generic ∷ n ∷ type_code ret ++ flat_map type_code params)) (sym (h params refl))

pub parts_are : (names : Names) (s : MethodSig)
    → code_of_parts s (option_map type_code (good_type (sig_expr names s.ret))) (option_map (flat_map type_code) (good (all_known (map (sig_expr names) s.params))))
    ≡ option_map method_code (good (method_type names s))
unfolding method_type
parts_are names s =
    parts_by s (sig_expr names s.ret) (all_known (map (sig_expr names) s.params)) (λ xs e. known_length (map (sig_expr names) s.params) xs e ∙ length-map s.params (sig_expr names))

pub parts_found : (names : Names) (s : MethodSig) (types : List Sig) (code ret params : Option (List ℕ)) → types ≡ s.params → ret ≡ option_map type_code (good_type (sig_expr names s.ret))
    → params ≡ option_map (flat_map type_code) (good (all_known (map (sig_expr names) types))) → code ≡ code_of_parts s ret params → code ≡ option_map method_code (good (method_type names s))
parts_found names s types code ret params d e f g =
    g ∙ (λ i. code_of_parts s (e i) (f i)) ∙ ap (λ (ss : List Sig). code_of_parts s (option_map type_code (good_type (sig_expr names s.ret))) (option_map (flat_map type_code) (good (all_known (map (sig_expr names) ss))))) d
    ∙ parts_are names s
