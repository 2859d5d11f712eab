-- What is so of the types in what is met, and of each number that names one, is so of the numbers.
use Rattle.std.proofs.Common.{◌≡◌, ◌≤◌, ℕ, zero, suc, List, [], ◌∷◌, ◌++◌, map, refl, sym, ap, subst, ◌∙◌, arith}
use Rattle.std.specs.List.{Contains, flat_map}
use Rattle.std.proofs.lemmas.List.Elements.{Contains-append_left, Contains-append_right}
use Rattle.il_base.specs.declared.ids.TypeId.{TypeId}
use Rattle.il_base.specs.declared.sig.Sig.{Sig, fold-Sig, fold-roll-Sig, ind-Sig, roll-Sig}
use Rattle.il_base.specs.declared.sig.Sig.TheFolds.{map-Sig}
use Rattle.il_base.specs.declared.sig.Sig.TheOpen.{Sig-F}
use Rattle.il_base.specs.declared.sig.Sig.TheVariants as sig
use Rattle.il_base.specs.declared.sig.MethodSig.{MethodSig}
use Rattle.il_base.specs.blob_grammar.Values.{IsTypeToken}
use Rattle.il_base.specs.declared.world_model.expr.TypeExpr.{TypeExpr}
use Rattle.il_base.specs.declared.world_model.record.AsmRec.{AsmRec}
use Rattle.rules.specs.link_rules.Cycles.{listed}
use Rattle.base_laws.proofs.lemmas.known_laws.Lists.{first_in, to_flat}
use Rattle.rules.specs.merge_rules.Keys.{TypeKey, named, spec, MethodKey, own_method, found_method, absent_method, FieldKey, own_field, found_field, expr_key}
use Rattle.rules.specs.merge_rules.Order.{Met, met_type, met_sig, met_method, met_field, met_instance, met_locals}
use Rattle.rules.specs.merge_rules.Refs.{Output, numbers_layer, numbers_in, type_of_number, types_of_sig, types_of_sigs, types_of_key, types_of_method_sig, types_of_owner, types_of_method, types_of_field, types_of_met, own_method_sig, own_field_sig, method_at, field_at, type_token, number_token, new_sig_layer, new_sig}
use Rattle.merge_laws.proofs.lemmas.merged_owners.Every.{Every, all_none, all_one, all_more, all_join}
use Rattle.trim_laws.specs.merged_scopes.Numbers.{numbers_of_sigs, numbers_of_method_sig, numbers_of_key, numbers_of_owner, numbers_of_method, numbers_of_field, numbers_of_met}

pub left_of : {A : Type 0} (P : A → Type 0) (xs ys : List A) → Every P (xs ++ ys) → Every P xs
left_of P xs ys h = record { each = λ y c. h.each y (Contains-append_left xs ys y c) }

pub right_of : {A : Type 0} (P : A → Type 0) (xs ys : List A) → Every P (xs ++ ys) → Every P ys
right_of P xs ys h = record { each = λ y c. h.each y (Contains-append_right xs ys y c) }

module _ (o : Output) where
  -- a type that has a token, and a number whose token is one
  abbrev pub Typed : TypeId → Type 0
  Typed t = IsTypeToken (type_token o t)

  abbrev pub Numbered : ℕ → Type 0
  Numbered n = IsTypeToken (number_token o n)

  abbrev pub Named : ℕ → Type 0
  Named n = 1 ≤ n

  number_typed : (n : ℕ) → Named n → ((t : TypeId) → Contains (type_of_number n) t → Typed t) → Numbered n
  number_typed zero h g = absurd (omega arith)
  number_typed (suc t) h g = g (record { 0 = t }) (first_in (record { 0 = t }) [])

  sig_numbered : (s : Sig) → Every Typed (types_of_sig s) → Every Named (numbers_in s) → Every Numbered (numbers_in s)
  sig_numbered s t h = record { each = λ n c. number_typed n (h.each n c) (λ u d. t.each u (to_flat type_of_number (numbers_in s) u (record { item = n; there = c; inside = d }))) }

  flat_numbered : {A : Type 0} (f : A → List ℕ) (g : A → List TypeId) → ((x : A) → Every Typed (g x) → Every Named (f x) → Every Numbered (f x)) → (xs : List A) → Every Typed (flat_map g xs) → Every Named (flat_map f xs)
      → Every Numbered (flat_map f xs)
  flat_numbered f g each [] t h = all_none Numbered
  flat_numbered f g each (x ∷ xs) t h =
      all_join Numbered (f x) (flat_map f xs) (each x (left_of Typed (g x) (flat_map g xs) t) (left_of Named (f x) (flat_map f xs) h))
      (flat_numbered f g each xs (right_of Typed (g x) (flat_map g xs) t) (right_of Named (f x) (flat_map f xs) h))

  sigs_numbered : (ss : List Sig) → Every Typed (types_of_sigs ss) → Every Named (numbers_of_sigs ss) → Every Numbered (numbers_of_sigs ss)
  sigs_numbered ss t h = flat_numbered numbers_in types_of_sig sig_numbered ss t h

  method_sig_numbered : (s : MethodSig) → Every Typed (types_of_method_sig s) → Every Named (numbers_of_method_sig s) → Every Numbered (numbers_of_method_sig s)
  method_sig_numbered s t h = sigs_numbered (s.ret ∷ s.params) t h

  key_numbered : (k : TypeKey) → Every Typed (types_of_key k) → Every Named (numbers_of_key k) → Every Numbered (numbers_of_key k)
  key_numbered (named u) t h = all_one Numbered (suc u.0) (t.each u (first_in u []))
  key_numbered (spec s) t h = sig_numbered s t h

  module _ (recs : List AsmRec) where
    owner_numbered : (e : TypeExpr) → Every Typed (types_of_owner recs e) → Every Named (numbers_of_owner recs e) → Every Numbered (numbers_of_owner recs e)
    owner_numbered e t h = flat_numbered numbers_of_key types_of_key key_numbered (listed (expr_key recs e)) t h

    method_numbered : (k : MethodKey) → Every Typed (types_of_method recs k) → Every Named (numbers_of_method recs k) → Every Numbered (numbers_of_method recs k)
    method_numbered (own_method m) t h = all_none Numbered
    method_numbered (found_method m e) t h =
        let sigs : List MethodSig = flat_map (own_method_sig recs) (listed (method_at recs m)) in
        all_join Numbered (numbers_of_owner recs e) (flat_map numbers_of_method_sig sigs)
        (owner_numbered e (left_of Typed (types_of_owner recs e) (flat_map types_of_method_sig sigs) t) (left_of Named (numbers_of_owner recs e) (flat_map numbers_of_method_sig sigs) h))
        (flat_numbered numbers_of_method_sig types_of_method_sig method_sig_numbered sigs (right_of Typed (types_of_owner recs e) (flat_map types_of_method_sig sigs) t) (right_of Named (numbers_of_owner recs e) (flat_map numbers_of_method_sig sigs) h))
    method_numbered (absent_method p name s) t h =
        all_join Numbered (numbers_of_key p) (numbers_of_method_sig s)
        (key_numbered p (left_of Typed (types_of_key p) (types_of_method_sig s) t) (left_of Named (numbers_of_key p) (numbers_of_method_sig s) h))
        (method_sig_numbered s (right_of Typed (types_of_key p) (types_of_method_sig s) t) (right_of Named (numbers_of_key p) (numbers_of_method_sig s) h))

    field_numbered : (k : FieldKey) → Every Typed (types_of_field recs k) → Every Named (numbers_of_field recs k) → Every Numbered (numbers_of_field recs k)
    field_numbered (own_field f) t h = all_none Numbered
    field_numbered (found_field f e) t h =
        let sigs : List Sig = flat_map (own_field_sig recs) (listed (field_at recs f)) in
        all_join Numbered (numbers_of_owner recs e) (numbers_of_sigs sigs)
        (owner_numbered e (left_of Typed (types_of_owner recs e) (types_of_sigs sigs) t) (left_of Named (numbers_of_owner recs e) (numbers_of_sigs sigs) h))
        (sigs_numbered sigs (right_of Typed (types_of_owner recs e) (types_of_sigs sigs) t) (right_of Named (numbers_of_owner recs e) (numbers_of_sigs sigs) h))

    pub met_numbered : (x : Met) → Every Typed (types_of_met recs x) → Every Named (numbers_of_met recs x) → Every Numbered (numbers_of_met recs x)
    met_numbered (met_type k) t h = key_numbered k t h
    met_numbered (met_sig s) t h = sig_numbered s t h
    met_numbered (met_method k) t h = method_numbered k t h
    met_numbered (met_field k) t h = field_numbered k t h
    met_numbered (met_instance i) t h =
        all_join Numbered (numbers_of_method recs i.method) (numbers_of_sigs i.args)
        (method_numbered i.method (left_of Typed (types_of_method recs i.method) (types_of_sigs i.args) t) (left_of Named (numbers_of_method recs i.method) (numbers_of_sigs i.args) h))
        (sigs_numbered i.args (right_of Typed (types_of_method recs i.method) (types_of_sigs i.args) t) (right_of Named (numbers_of_method recs i.method) (numbers_of_sigs i.args) h))
    met_numbered (met_locals ss) t h = sigs_numbered ss t h

  -- ---- the tokens of a signature that is written

  abbrev Moves : Sig → Type 0
  Moves s = Every Numbered (numbers_in s) → Every IsTypeToken (numbers_in (new_sig o s))

  abbrev Part : Type 0
  Part = (s : Sig) × Moves s

  numbers_are : (x : Sig-F Sig) (s : Sig) → roll-Sig x ≡ s → numbers_in s ≡ numbers_layer (map-Sig Sig (List ℕ) numbers_in x)
  unfolding numbers_in
  numbers_are x s e = ap (fold-Sig (List ℕ) numbers_layer) (sym e) ∙ fold-roll-Sig (List ℕ) numbers_layer x

  layer : (x : Sig-F Sig) (s : Sig) → roll-Sig x ≡ s → Every IsTypeToken (numbers_layer (map-Sig Sig (List ℕ) numbers_in x)) → Every IsTypeToken (numbers_in s)
  layer x s e h = subst (Every IsTypeToken) (sym (numbers_are x s e)) h

  head : (n : ℕ) (ns : List ℕ) → Every Numbered (n ∷ ns) → IsTypeToken (number_token o n)
  head n ns h = h.each n (first_in n ns)

  tail : (n : ℕ) (ns : List ℕ) → Every Numbered (n ∷ ns) → Every Numbered ns
  tail n ns h = right_of Numbered (n ∷ []) ns h

  args_move : (xs : List Part) → Every Numbered (flat_map (λ ns. ns) (map numbers_in (map (λ x. x.0) xs))) → Every IsTypeToken (flat_map (λ ns. ns) (map numbers_in (map (new_sig o) (map (λ x. x.0) xs))))
  args_move [] h = all_none IsTypeToken
  args_move (x ∷ xs) h =
      let ns : List ℕ = numbers_in x.0 in
      let more : List ℕ = flat_map (λ ms. ms) (map numbers_in (map (λ y. y.0) xs)) in
      all_join IsTypeToken (numbers_in (new_sig o x.0)) (flat_map (λ ms. ms) (map numbers_in (map (new_sig o) (map (λ y. y.0) xs)))) (x.1 (left_of Numbered ns more h)) (args_move xs (right_of Numbered ns more h))

  layer_move : (y : Sig-F Part) → Every Numbered (numbers_layer (map-Sig Sig (List ℕ) numbers_in (map-Sig Part Sig (λ x. x.0) y))) → Every IsTypeToken (numbers_in (new_sig_layer o (map-Sig Sig Sig (new_sig o) (map-Sig Part Sig (λ x. x.0) y))))
  layer_move (Sig-F.Prim n) h = layer (Sig-F.Prim n) (sig.Prim n) (sig.rolls-Prim n) (all_none IsTypeToken)
  layer_move (Sig-F.Named v n) h = let k : ℕ = number_token o n in layer (Sig-F.Named v k) (sig.Named v k) (sig.rolls-Named v k) (all_one IsTypeToken k (head n [] h))
  layer_move (Sig-F.Array x) h = layer (Sig-F.Array (new_sig o x.0)) (sig.Array (new_sig o x.0)) (sig.rolls-Array (new_sig o x.0)) (x.1 h)
  layer_move (Sig-F.ByRef x) h = layer (Sig-F.ByRef (new_sig o x.0)) (sig.ByRef (new_sig o x.0)) (sig.rolls-ByRef (new_sig o x.0)) (x.1 h)
  layer_move (Sig-F.Inst v n xs) h =
      let k : ℕ = number_token o n in
      let ss : List Sig = map (new_sig o) (map (λ x. x.0) xs) in
      let more : List ℕ = flat_map (λ ns. ns) (map numbers_in (map (λ x. x.0) xs)) in
      layer (Sig-F.Inst v k ss) (sig.Inst v k ss) (sig.rolls-Inst v k ss) (all_more IsTypeToken k (flat_map (λ ns. ns) (map numbers_in ss)) (head n more h) (args_move xs (tail n more h)))
  layer_move (Sig-F.Var n) h = layer (Sig-F.Var n) (sig.Var n) (sig.rolls-Var n) (all_none IsTypeToken)
  layer_move (Sig-F.MVar n) h = layer (Sig-F.MVar n) (sig.MVar n) (sig.rolls-MVar n) (all_none IsTypeToken)
  layer_move (Sig-F.Mod required n x) h =
      let k : ℕ = number_token o n in
      layer (Sig-F.Mod required k (new_sig o x.0)) (sig.Mod required k (new_sig o x.0)) (sig.rolls-Mod required k (new_sig o x.0))
      (all_more IsTypeToken k (numbers_in (new_sig o x.0)) (head n (numbers_in x.0) h) (x.1 (tail n (numbers_in x.0) h)))
  layer_move (Sig-F.Pinned x) h = layer (Sig-F.Pinned (new_sig o x.0)) (sig.Pinned (new_sig o x.0)) (sig.rolls-Pinned (new_sig o x.0)) (x.1 h)

  rolled : (y : Sig-F Part) → Moves (roll-Sig (map-Sig Part Sig (λ x. x.0) y))
  unfolding new_sig
  rolled y h =
      let x : Sig-F Sig = map-Sig Part Sig (λ x. x.0) y in
      subst (λ (s : Sig). Every IsTypeToken (numbers_in s)) (sym (fold-roll-Sig Sig (new_sig_layer o) x)) (layer_move y (subst (Every Numbered) (numbers_are x (roll-Sig x) refl) h))

  pub sig_tokens : (s : Sig) → Every Numbered (numbers_in s) → Every IsTypeToken (numbers_in (new_sig o s))
  sig_tokens = ind-Sig Moves (λ x y is. subst (λ z. Moves (roll-Sig z)) is (rolled y))

  pub sigs_tokens : (ss : List Sig) → Every Numbered (flat_map numbers_in ss) → Every IsTypeToken (flat_map numbers_in (map (new_sig o) ss))
  sigs_tokens [] h = all_none IsTypeToken
  sigs_tokens (s ∷ ss) h =
      all_join IsTypeToken (numbers_in (new_sig o s)) (flat_map numbers_in (map (new_sig o) ss)) (sig_tokens s (left_of Numbered (numbers_in s) (flat_map numbers_in ss) h)) (sigs_tokens ss (right_of Numbered (numbers_in s) (flat_map numbers_in ss) h))
