-- What is so of the numbers of types in what is met is so of the types.
use Rattle.std.proofs.Common.{◌≡◌, ℕ, zero, suc, List, [], ◌∷◌, ◌++◌, refl, subst, arith}
use Rattle.std.specs.List.{flat_map}
use Rattle.std.proofs.lemmas.List.Elements.{Contains-append_left, Contains-append_right}
use Rattle.il_base.specs.declared.ids.TypeId.{TypeId}
use Rattle.il_base.specs.declared.sig.Sig.{Sig}
use Rattle.il_base.specs.declared.sig.MethodSig.{MethodSig}
use Rattle.il_base.specs.declared.world_model.expr.TypeExpr.{TypeExpr}
use Rattle.il_base.specs.declared.world_model.record.AsmRec.{AsmRec}
use Rattle.rules.specs.link_rules.Cycles.{listed}
use Rattle.rules.specs.merge_rules.Keys.{TypeKey, named, spec, MethodKey, own_method, found_method, absent_method, FieldKey, own_field, found_field, expr_key}
use Rattle.rules.specs.merge_rules.Order.{Met, met_type, met_sig, met_method, met_field, met_instance, met_locals}
use Rattle.rules.specs.merge_rules.Refs.{numbers_in, type_of_number, types_of_sig, types_of_sigs, types_of_key, types_of_method_sig, types_of_owner, types_of_method, types_of_field, types_of_met, own_method_sig, own_field_sig, method_at, field_at}
use Rattle.merge_laws.proofs.lemmas.merged_owners.Every.{Every, all_none, all_one, all_join, all_flat}
use Rattle.trim_laws.specs.merged_scopes.Numbers.{numbers_of_sigs, numbers_of_method_sig, numbers_of_key, numbers_of_owner, numbers_of_method, numbers_of_field, numbers_of_met}

left_of : {A : Type 0} (P : A → Type 0) (xs ys : List A) → Every P (xs ++ ys) → Every P xs
left_of P xs ys h = record { each = λ y c. h.each y (Contains-append_left xs ys y c) }

right_of : {A : Type 0} (P : A → Type 0) (xs ys : List A) → Every P (xs ++ ys) → Every P ys
right_of P xs ys h = record { each = λ y c. h.each y (Contains-append_right xs ys y c) }

module _ (P : TypeId → Type 0) where
  -- what is so of the type that a number stands for
  abbrev pub Number : ℕ → Type 0
  Number n = (t : TypeId) → n ≡ suc t.0 → P t

  pub of_number : (t : TypeId) → P t → Number (suc t.0)
  of_number t h u e = let same : t ≡ u = (λ i. record { 0 = less t.0 u.0 e i }) in subst P same h
    where
      less : (n m : ℕ) → suc n ≡ suc m → n ≡ m
      less n m e = omega (arith, e)

  pub no_number : Number 0
  no_number t e = absurd (omega (arith, e))

  number_types : (n : ℕ) → Number n → Every P (type_of_number n)
  number_types zero h = all_none P
  number_types (suc t) h = all_one P (record { 0 = t }) (h (record { 0 = t }) refl)

  sig_types : (s : Sig) → Every Number (numbers_in s) → Every P (types_of_sig s)
  sig_types s h = all_flat P type_of_number (numbers_in s) (λ n c. number_types n (h.each n c))

  flat_types : {A : Type 0} (f : A → List ℕ) (g : A → List TypeId) → ((x : A) → Every Number (f x) → Every P (g x)) → (xs : List A) → Every Number (flat_map f xs) → Every P (flat_map g xs)
  flat_types f g each [] h = all_none P
  flat_types f g each (x ∷ xs) h =
      all_join P (g x) (flat_map g xs) (each x (left_of Number (f x) (flat_map f xs) h)) (flat_types f g each xs (right_of Number (f x) (flat_map f xs) h))

  sigs_types : (ss : List Sig) → Every Number (numbers_of_sigs ss) → Every P (types_of_sigs ss)
  sigs_types ss h = flat_types numbers_in types_of_sig sig_types ss h

  method_sig_types : (s : MethodSig) → Every Number (numbers_of_method_sig s) → Every P (types_of_method_sig s)
  method_sig_types s h = sigs_types (s.ret ∷ s.params) h

  key_types : (k : TypeKey) → Every Number (numbers_of_key k) → Every P (types_of_key k)
  key_types (named t) h = all_one P t (h.each (suc t.0) (0, omega arith, refl) t refl)
  key_types (spec s) h = sig_types s h

  module _ (recs : List AsmRec) where
    owner_types : (e : TypeExpr) → Every Number (numbers_of_owner recs e) → Every P (types_of_owner recs e)
    owner_types e h = flat_types numbers_of_key types_of_key key_types (listed (expr_key recs e)) h

    method_types : (k : MethodKey) → Every Number (numbers_of_method recs k) → Every P (types_of_method recs k)
    method_types (own_method m) h = all_none P
    method_types (found_method m e) h =
        let sigs : List MethodSig = flat_map (own_method_sig recs) (listed (method_at recs m)) in
        all_join P (types_of_owner recs e) (flat_map types_of_method_sig sigs) (owner_types e (left_of Number (numbers_of_owner recs e) (flat_map numbers_of_method_sig sigs) h))
        (flat_types numbers_of_method_sig types_of_method_sig method_sig_types sigs (right_of Number (numbers_of_owner recs e) (flat_map numbers_of_method_sig sigs) h))
    method_types (absent_method p name s) h =
        all_join P (types_of_key p) (types_of_method_sig s) (key_types p (left_of Number (numbers_of_key p) (numbers_of_method_sig s) h)) (method_sig_types s (right_of Number (numbers_of_key p) (numbers_of_method_sig s) h))

    field_types : (k : FieldKey) → Every Number (numbers_of_field recs k) → Every P (types_of_field recs k)
    field_types (own_field f) h = all_none P
    field_types (found_field f e) h =
        let sigs : List Sig = flat_map (own_field_sig recs) (listed (field_at recs f)) in
        all_join P (types_of_owner recs e) (types_of_sigs sigs) (owner_types e (left_of Number (numbers_of_owner recs e) (numbers_of_sigs sigs) h)) (sigs_types sigs (right_of Number (numbers_of_owner recs e) (numbers_of_sigs sigs) h))

    pub met_types : (x : Met) → Every Number (numbers_of_met recs x) → Every P (types_of_met recs x)
    met_types (met_type k) h = key_types k h
    met_types (met_sig s) h = sig_types s h
    met_types (met_method k) h = method_types k h
    met_types (met_field k) h = field_types k h
    met_types (met_instance i) h =
        all_join P (types_of_method recs i.method) (types_of_sigs i.args) (method_types i.method (left_of Number (numbers_of_method recs i.method) (numbers_of_sigs i.args) h))
        (sigs_types i.args (right_of Number (numbers_of_method recs i.method) (numbers_of_sigs i.args) h))
    met_types (met_locals ss) h = sigs_types ss h
