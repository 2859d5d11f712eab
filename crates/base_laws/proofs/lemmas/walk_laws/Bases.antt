-- In a linked world a chain of bases passes each definition once, and System.Object's only at its end.
use Rattle.std.proofs.Common.{◌≡◌, ℕ, zero, suc, ◌<◌, ◌≤◌, Bool, true, false, List, [], ◌∷◌, ◌++◌, Option, Some, None, inl, inr, refl, sym, ap, subst, ◌∙◌, arith}
use Rattle.std.specs.List.{flat_map, IsDistinct, AllByRecursion}
use Rattle.std.specs.Option.{option_map, option_and_then}
use Rattle.std.proofs.lemmas.Map.Keys.{IsDistinct-cons}
use Rattle.il_base.specs.declared.world_model.expr.TypeExpr.{TypeExpr}
use Rattle.il_base.specs.declared.world_model.record.AsmRec.{AsmRec}
use Rattle.il_base.specs.world_model.Exprs as exprs
use Rattle.rules.specs.declared.link_rules.row_at.RowAt.{RowAt}
use Rattle.rules.specs.link_rules.Members.{args_of, base_at, base_of, bases_from, type_count}
use Rattle.rules.specs.link_rules.Cycles.{listed, same_row, home_of, base_rows}
use Rattle.rules.specs.link_rules.Linked.{assemblies, link_fault_of}
use Rattle.base_laws.specs.walk_laws.Walks.{InLinked, BasesWhole, BasesOnce}
use Rattle.base_laws.proofs.lemmas.type_laws.Within.{In, in_flat, in_listed}
use Rattle.base_laws.proofs.lemmas.type_laws.Reaching.{Leads, Walks}
use Rattle.base_laws.proofs.lemmas.type_laws.Places.{rows_decide, id_below}
use Rattle.base_laws.proofs.lemmas.type_laws.Upwards.{ways, to_base, to_top, has_base, step_base, kept_home}
use Rattle.base_laws.proofs.lemmas.type_laws.Ways.{top, top_home, top_class, top_base, arrays, home_of_type, top_type, never, no_long_way}
use Rattle.base_laws.proofs.lemmas.walk_laws.Chains.{raised}

module _ (inputs : List AsmRec) (sound : link_fault_of inputs ≡ None) where
  abbrev pub recs : List AsmRec
  recs = assemblies inputs

  abbrev pub object : RowAt
  object = top inputs sound

  -- ---- a step to the base

  -- which a type with a definition other than System.Object's makes
  pub record BaseStep (e b : TypeExpr) : Type 0 where
    pub home : RowAt
    pub is : home_of recs e ≡ Some home
    pub below : home ≡ object → ⊥
    pub leads : (to : RowAt) → home_of recs b ≡ Some to → In to (base_rows recs home)

  not_object : (home : RowAt) (x : TypeExpr) → base_at recs home ≡ Some x → home ≡ object → ⊥
  not_object home x at same = let f : None ≡ Some x = sym (top_base inputs sound) ∙ ap (base_at recs) (sym same) ∙ at in cc

  based_at : (e b : TypeExpr) (home : RowAt) (o : Option TypeExpr) → home_of recs e ≡ Some home → base_at recs home ≡ o → option_map (exprs.subst (args_of e) []) o ≡ Some b → BaseStep e b
  based_at e b home None h at f = cc
  based_at e b home (Some x) h at f =
      let n = (has_base recs home x at).named in
      let same : exprs.subst (args_of e) [] x ≡ b = cc in
      record {
        home = home;
        is = h;
        below = not_object home x at;
        leads = λ to is. step_base recs home to x at
            (sym (kept_home recs object (top_home inputs sound) (top_class inputs sound) (arrays inputs sound) (args_of e) x n) ∙ ap (home_of recs) same ∙ is);
      }

  based_by : (e b : TypeExpr) (o : Option RowAt) → home_of recs e ≡ o → option_map (exprs.subst (args_of e) []) (option_and_then (base_at recs) o) ≡ Some b → BaseStep e b
  based_by e b None h f = cc
  based_by e b (Some home) h f = based_at e b home (base_at recs home) h refl f

  pub to_its_base : (e b : TypeExpr) → base_of recs e ≡ Some b → BaseStep e b
  unfolding base_of
  to_its_base e b f = based_by e b (home_of recs e) refl f

  -- ---- a chain of bases

  abbrev Chain : ℕ → TypeExpr → Type 0
  Chain zero e = Unit {0}
  Chain (suc n) e = (b : TypeExpr) × (base_of recs e ≡ Some b) × Chain n b

  record Climb (n : ℕ) (e : TypeExpr) : Type 0 where
    home : RowAt
    is : home_of recs e ≡ Some home
    walks : Walks (ways recs object) n home

  climb : (n : ℕ) (e : TypeExpr) → Chain (suc n) e → Climb (suc n) e
  climb zero e c = let s = to_its_base e c.0 c.1 in record { home = s.home; is = s.is; walks = (object, to_top recs object s.home s.below, tt) }
  climb (suc n) e c =
      let s = to_its_base e c.0 c.1 in
      let m = climb n c.0 c.2 in
      record { home = s.home; is = s.is; walks = (m.home, to_base recs object s.home m.home (s.leads m.home m.is), m.walks) }

  no_chain_by : (n : ℕ) (e : TypeExpr) → type_count recs ≡ n → Chain n e → ⊥
  no_chain_by zero e z c = let lt = id_below recs object (top_type inputs sound) in omega (arith, z)
  no_chain_by (suc n) e z c =
      let m = climb n e c in
      no_long_way inputs sound m.home (home_of_type inputs sound e m.home m.is) (subst (λ (k : ℕ). Walks (ways recs object) k m.home) (sym z) m.walks)

  -- ---- a greater bound

  grown_by : (n m : ℕ) (e : TypeExpr) (o : Option TypeExpr) → base_of recs e ≡ o → (Chain (suc n) e → ⊥) → ((b : TypeExpr) → (Chain n b → ⊥) → bases_from recs m b ≡ bases_from recs n b)
      → ◌≡◌ {A = List TypeExpr} (e ∷ elim o [ None ↦ [] | Some b ↦ bases_from recs m b ]) (e ∷ elim o [ None ↦ [] | Some b ↦ bases_from recs n b ])
  grown_by n m e None f none more = refl
  grown_by n m e (Some b) f none more = ap (λ (bs : List TypeExpr). e ∷ bs) (more b (λ c. none (b, f, c)))

  grown : (n m : ℕ) (e : TypeExpr) → n ≤ m → (Chain n e → ⊥) → bases_from recs m e ≡ bases_from recs n e
  unfolding bases_from
  grown zero m e le none = absurd (none tt)
  grown (suc n) zero e le none = absurd (omega arith)
  grown (suc n) (suc m) e le none = grown_by n m e (base_of recs e) refl none (λ b. grown n m b (omega arith))

  pub whole : BasesWhole recs
  whole n e le = grown (type_count recs) n e le (no_chain_by (type_count recs) e refl)

  -- ---- the definitions of the bases

  pub record Below (n : ℕ) (b : TypeExpr) (h : RowAt) : Type 0 where
    pub home : RowAt
    pub is : home_of recs b ≡ Some home
    pub steps : ℕ
    pub few : steps < n
    pub leads : Leads (base_rows recs) steps home h

  later : (n : ℕ) (b e : TypeExpr) (h : RowAt) (o : Option TypeExpr) → base_of recs b ≡ o → In e (elim o [ None ↦ [] | Some c ↦ bases_from recs n c ])
      → ((c : TypeExpr) → In e (bases_from recs n c) → Below n c h) → Below (suc n) b h
  later n b e h None f i more = absurd i
  later n b e h (Some c) f i more =
      let w = more c i in
      let s = to_its_base b c f in
      let lt = w.few in
      record { home = s.home; is = s.is; steps = suc w.steps; few = omega arith; leads = (w.home, s.leads w.home w.is, w.leads) }

  pub among : (n : ℕ) (b e : TypeExpr) (h : RowAt) → In e (bases_from recs n b) → home_of recs e ≡ Some h → Below n b h
  unfolding bases_from
  among zero b e h i f = absurd i
  among (suc n) b e h (inl same) f = record { home = h; is = ap (home_of recs) (sym same) ∙ f; steps = 0; few = omega arith; leads = refl }
  among (suc n) b e h (inr i) f = later n b e h (base_of recs b) refl i (λ c j. among n c e h j f)

  -- ---- each definition once

  abbrev definitions : List TypeExpr → List RowAt
  definitions es = flat_map (λ b. listed (home_of recs b)) es

  abbrev rest : ℕ → Option TypeExpr → List TypeExpr
  rest n o = elim o [ None ↦ [] | Some b ↦ bases_from recs n b ]

  differs_by : (x y : RowAt) (b : Bool) → same_row x y ≡ b → (x ≡ y → ⊥) → b ≡ false
  differs_by x y true is other = absurd (other ((rows_decide x y).0 is))
  differs_by x y false is other = refl

  differs : (n : ℕ) (e b : TypeExpr) (h y : RowAt) → base_of recs e ≡ Some b → home_of recs e ≡ Some h → n < type_count recs → In y (definitions (bases_from recs n b)) → same_row h y ≡ false
  differs n e b h y f is lt i =
      let m = in_flat (λ c. listed (home_of recs c)) y (bases_from recs n b) i in
      let w = among n b m.0 y m.1 (in_listed y (home_of recs m.0) m.2) in
      let s = to_its_base e b f in
      let few = w.few in
      let same : s.home ≡ h = (let g : Some s.home ≡ Some h = sym s.is ∙ is in cc) in
      differs_by h y (same_row h y) refl
      (λ k.
      let way : Leads (base_rows recs) (suc w.steps) s.home y = (w.home, s.leads w.home w.is, w.leads) in
      let round : Leads (base_rows recs) (suc w.steps) h h = subst (λ (z : RowAt). Leads (base_rows recs) (suc w.steps) h z) (sym k) (subst (λ (z : RowAt). Leads (base_rows recs) (suc w.steps) z y) same way) in
      never inputs sound w.steps h (home_of_type inputs sound e h is) (omega arith) (raised (base_rows recs) (ways recs object) (to_base recs object) (suc w.steps) h h round))

  all_from : (P : RowAt → Type 0) (xs : List RowAt) → ((x : RowAt) → In x xs → P x) → AllByRecursion P xs
  all_from P [] h = tt
  all_from P (x ∷ xs) h = (h x (inl refl), all_from P xs (λ y i. h y (inr i)))

  none_twice : IsDistinct same_row []
  unfolding IsDistinct
  none_twice = tt

  rest_once : (n : ℕ) (o : Option TypeExpr) → ((b : TypeExpr) → IsDistinct same_row (definitions (bases_from recs n b))) → IsDistinct same_row (definitions (rest n o))
  rest_once n None more = none_twice
  rest_once n (Some b) more = more b

  rest_differs : (n : ℕ) (e : TypeExpr) (h y : RowAt) (o : Option TypeExpr) → base_of recs e ≡ o → home_of recs e ≡ Some h → n < type_count recs → In y (definitions (rest n o)) → same_row h y ≡ false
  rest_differs n e h y None f is lt i = absurd i
  rest_differs n e h y (Some b) f is lt i = differs n e b h y f is lt i

  first_by : (n : ℕ) (e : TypeExpr) (o : Option RowAt) → home_of recs e ≡ o → n < type_count recs → IsDistinct same_row (definitions (rest n (base_of recs e))) → IsDistinct same_row (listed o ++ definitions (rest n (base_of recs e)))
  first_by n e None is lt more = more
  first_by n e (Some h) is lt more =
      IsDistinct-cons same_row h (definitions (rest n (base_of recs e)))
      (all_from (λ (y : RowAt). same_row h y ≡ false) (definitions (rest n (base_of recs e))) (λ y i. rest_differs n e h y (base_of recs e) refl is lt i)) more

  once_by : (n : ℕ) (e : TypeExpr) → n ≤ type_count recs → IsDistinct same_row (definitions (bases_from recs n e))
  unfolding bases_from
  once_by zero e le = none_twice
  once_by (suc n) e le = first_by n e (home_of recs e) refl (omega arith) (rest_once n (base_of recs e) (λ b. once_by n b (omega arith)))

  pub once : BasesOnce recs
  once e = once_by (type_count recs) e (omega arith)

pub all_whole : InLinked BasesWhole
all_whole inputs sound = whole inputs sound

pub all_once : InLinked BasesOnce
all_once inputs sound = once inputs sound
