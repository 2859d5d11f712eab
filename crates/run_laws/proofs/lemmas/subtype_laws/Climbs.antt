-- What steps up from a kept type lead to: kept types, which move, and interfaces that go with all that they imply.
use Rattle.std.proofs.Common.{◌≡◌, Bool, true, false, List, [], ◌∷◌, ◌++◌, map, Option, Some, None, ◌⊎◌, inl, inr, refl, sym, ap, subst, ◌∙◌}
use Rattle.std.specs.Prelude.{IsTrue, ◌||◌}
use Rattle.std.specs.List.{list_any, filter}
use Rattle.std.specs.Option.{option_map, option_and_then}
use Rattle.std.proofs.lemmas.Bool.{true≢false}
use Rattle.std.proofs.lemmas.List.{map-append}
use Rattle.il_base.specs.declared.ids.TypeId.{TypeId}
use Rattle.il_base.specs.declared.world_model.expr.TypeExpr.{TypeExpr, out-TypeExpr, roll-TypeExpr, roll-out-TypeExpr}
use Rattle.il_base.specs.declared.world_model.expr.TypeExpr.TheOpen.{TypeExpr-F}
use Rattle.il_base.specs.declared.world_model.expr.TypeExpr.TheVariants as expr
use Rattle.il_base.specs.declared.world_model.record.AsmRec.{AsmRec}
use Rattle.il_base.specs.world_model.Exprs.{subst as put}
use Rattle.rules.specs.declared.link_rules.row_at.RowAt.{RowAt}
use Rattle.rules.specs.link_rules.Members.{array_type, args_of, base_at, base_of}
use Rattle.rules.specs.link_rules.Cycles.{listed, home_of, is_interface_at, is_interface}
use Rattle.rules.specs.link_rules.Linked.{assemblies, link_fault_of}
use Rattle.rules.specs.type_rules.Subtypes.{put_in, bases_of, interfaces_of, up_in, up}
use Rattle.base_laws.proofs.lemmas.type_laws.Within.{In, in_parts, in_listed, in_map}
use Rattle.base_laws.proofs.lemmas.type_laws.Upwards.{has_base}
use Rattle.base_laws.proofs.lemmas.type_laws.Ways.{arrays}
use Rattle.rules.specs.change_rules.Change.{Change}
use Rattle.rules.specs.change_rules.Moves.{move_type, move_expr, move_exprs}
use Rattle.rules.specs.change_rules.Keeps.{Names, keeps_expr}
use Rattle.base_laws.proofs.lemmas.change_laws.Exprs.{moved_in, out_moved, move_def}
use Rattle.base_laws.proofs.lemmas.change_laws.Subst.{names_def}
use Rattle.rules.specs.world_change_rules.Places.{Places}
use Rattle.rules.specs.world_change_rules.Rows.{RowsMove}
use Rattle.rules.specs.world_change_rules.Kept.{KeepsRows}
use Rattle.run_laws.proofs.lemmas.query_laws.Bases.{base_moved, base_kept}
use Rattle.run_laws.specs.subtype_laws.Gone.{KeepsImplied}
use Rattle.run_laws.proofs.lemmas.subtype_laws.Filtered.{filter_both, filter_all}
use Rattle.run_laws.proofs.lemmas.subtype_laws.Steps.{Gone, gone_steps, gone_unkept, kept_interfaces_of, interfaces_filtered, interfaces_split, interfaces_kept, interfaces_moved}

-- the base in a list
based : (recs : List AsmRec) (x : TypeExpr) (o : Option TypeExpr) → put_in x (listed o) ≡ listed (option_map (put (args_of x) []) o)
based recs x None = refl
based recs x (Some b) = refl

pub bases_are : (recs : List AsmRec) (x : TypeExpr) → bases_of recs x ≡ listed (base_of recs x)
unfolding base_of
bases_are recs x = based recs x (option_and_then (base_at recs) (home_of recs x))

listed_moved : (f : TypeExpr → TypeExpr) (o : Option TypeExpr) → listed (option_map f o) ≡ map f (listed o)
listed_moved f None = refl
listed_moved f (Some x) = refl

module _ (k : Change) (kept : RowAt → Bool) (p : Places) (after inputs : List AsmRec) (sound : link_fault_of inputs ≡ None) (r : RowsMove k kept p after (assemblies inputs)) (keeps : KeepsRows k.keep kept (assemblies inputs))
    (implied : KeepsImplied k.keep kept (assemblies inputs)) where
  abbrev pub before : List AsmRec
  before = assemblies inputs

  abbrev pub K : TypeExpr → Bool
  K = keeps_expr k.keep

  abbrev pub Goes : TypeExpr → Type 0
  Goes = Gone k kept inputs sound keeps implied

  abbrev pub kept_of : TypeExpr → List TypeExpr
  kept_of = kept_interfaces_of k kept inputs sound keeps implied p after r

  -- ---- bases

  base_in : (x b : TypeExpr) → K x ≡ true → In b (bases_of before x) → K b ≡ true
  base_in x b h i = base_kept k kept p after before r keeps x b h (in_listed b (base_of before x) (subst (λ (zs : List TypeExpr). In b zs) (bases_are before x) i))

  bases_move : (x : TypeExpr) → K x ≡ true → bases_of after (move_expr k.rho x) ≡ move_exprs k.rho (bases_of before x)
  bases_move x h =
      bases_are after (move_expr k.rho x) ∙ ap listed (base_moved k kept p after before r keeps x h) ∙ listed_moved (move_expr k.rho) (base_of before x) ∙ ap (move_exprs k.rho) (sym (bases_are before x))

  -- one that goes is an interface, so it has no base
  no_base_by : (x b : TypeExpr) (home : RowAt) (o : Option RowAt) → o ≡ Some home → is_interface_at before home ≡ true → In b (put_in x (listed (option_and_then (base_at before) o))) → ⊥
  no_base_by x b home None is c i = absurd (cc)
  no_base_by x b home (Some at) is c i =
      let same : at ≡ home = cc in
      let m = in_map (put (args_of x) []) b (listed (base_at before at)) i in
      true≢false (sym c ∙ sym (ap (is_interface_at before) same) ∙ (has_base before at m.0 (in_listed m.0 (base_at before at) m.1)).class)

  no_base : (x b : TypeExpr) → Goes x → In b (bases_of before x) → ⊥
  no_base x b g i = no_base_by x b g.home (home_of before x) g.is g.interface i

  -- ---- a step up

  abbrev kept_in : TypeExpr → TypeExpr-F TypeExpr → List TypeExpr
  kept_in x (TypeExpr-F.Array z) = listed (option_map (λ t. expr.Def t) (array_type before))
  kept_in x _ = bases_of before x ++ kept_of x

  unfoldable pub kept_up : TypeExpr → List TypeExpr
  kept_up x = kept_in x (out-TypeExpr x)

  array_kept : (t : TypeId) → array_type before ≡ Some t → K (expr.Def t) ≡ true
  array_kept t e = keeps_def (keeps.array t e)
    where
      keeps_def : IsTrue (k.keep.typ t.0) → K (expr.Def t) ≡ true
      keeps_def h = ap (λ (n : Names). n.kept) (names_def k.keep t) ∙ h

  plain_filtered : (x : TypeExpr) → K x ≡ true → filter K (bases_of before x ++ interfaces_of before x) ≡ bases_of before x ++ kept_of x
  plain_filtered x h =
      filter_both K (bases_of before x) (interfaces_of before x)
      ∙ (λ i. filter_all K (bases_of before x) (λ b j. base_in x b h j) i ++ interfaces_filtered k kept inputs sound keeps implied p after r x h i)

  array_ones : (o : Option TypeId) → array_type before ≡ o → (y : TypeExpr) → In y (listed (option_map (λ t. expr.Def t) o)) → K y ≡ true
  array_ones None e y i = absurd i
  array_ones (Some t) e y (inl same) = ap K same ∙ array_kept t e
  array_ones (Some t) e y (inr i) = absurd i

  filtered_in : (x : TypeExpr) → K x ≡ true → (o : TypeExpr-F TypeExpr) → filter K (up_in before x o) ≡ kept_in x o
  filtered_in x h (TypeExpr-F.Prim n) = plain_filtered x h
  filtered_in x h (TypeExpr-F.Def t) = plain_filtered x h
  filtered_in x h (TypeExpr-F.Inst t args) = plain_filtered x h
  filtered_in x h (TypeExpr-F.Array z) = filter_all K (listed (option_map (λ t. expr.Def t) (array_type before))) (array_ones (array_type before) refl)
  filtered_in x h (TypeExpr-F.ByRef z) = plain_filtered x h
  filtered_in x h (TypeExpr-F.Var n) = plain_filtered x h
  filtered_in x h (TypeExpr-F.MVar n) = plain_filtered x h
  filtered_in x h (TypeExpr-F.Mod required by z) = plain_filtered x h

  pub up_filtered : (x : TypeExpr) → K x ≡ true → filter K (up before x) ≡ kept_up x
  unfolding up kept_up
  up_filtered x h = filtered_in x h (out-TypeExpr x)

  -- ---- each is kept, or goes

  plain_by : (x y : TypeExpr) → K x ≡ true → In y (bases_of before x) ⊎ In y (interfaces_of before x) → (K y ≡ true) ⊎ Goes y
  plain_by x y h (inl i) = inl (base_in x y h i)
  plain_by x y h (inr i) = interfaces_split k kept inputs sound keeps implied p after r x y h i

  plain_split : (x y : TypeExpr) → K x ≡ true → In y (bases_of before x ++ interfaces_of before x) → (K y ≡ true) ⊎ Goes y
  plain_split x y h i = plain_by x y h (in_parts y (bases_of before x) (interfaces_of before x) i)

  split_in : (x y : TypeExpr) → K x ≡ true → (o : TypeExpr-F TypeExpr) → In y (up_in before x o) → (K y ≡ true) ⊎ Goes y
  split_in x y h (TypeExpr-F.Prim n) i = plain_split x y h i
  split_in x y h (TypeExpr-F.Def t) i = plain_split x y h i
  split_in x y h (TypeExpr-F.Inst t args) i = plain_split x y h i
  split_in x y h (TypeExpr-F.Array z) i = inl (array_ones (array_type before) refl y i)
  split_in x y h (TypeExpr-F.ByRef z) i = plain_split x y h i
  split_in x y h (TypeExpr-F.Var n) i = plain_split x y h i
  split_in x y h (TypeExpr-F.MVar n) i = plain_split x y h i
  split_in x y h (TypeExpr-F.Mod required by z) i = plain_split x y h i

  pub up_split : (x y : TypeExpr) → K x ≡ true → In y (up before x) → (K y ≡ true) ⊎ Goes y
  unfolding up
  up_split x y h i = split_in x y h (out-TypeExpr x) i

  -- what stands above one that goes does too
  gone_by : (x y : TypeExpr) → Goes x → In y (bases_of before x) ⊎ In y (interfaces_of before x) → Goes y
  gone_by x y g (inl i) = absurd (no_base x y g i)
  gone_by x y g (inr i) = gone_steps k kept inputs sound keeps implied x y g i

  gone_plain : (x y : TypeExpr) → Goes x → In y (bases_of before x ++ interfaces_of before x) → Goes y
  gone_plain x y g i = gone_by x y g (in_parts y (bases_of before x) (interfaces_of before x) i)

  goes_interface_by : (o : Option RowAt) (home : RowAt) → o ≡ Some home → is_interface_at before home ≡ true → list_any (is_interface_at before) (listed o) ≡ true
  goes_interface_by None home e c = absurd (cc)
  goes_interface_by (Some at) home e c = let same : at ≡ home = cc in ap (λ (b : Bool). b || false) (ap (is_interface_at before) same ∙ c)

  pub goes_interface : (x : TypeExpr) → Goes x → is_interface before x ≡ true
  unfolding is_interface
  goes_interface x g = goes_interface_by (home_of before x) g.home g.is g.interface

  gone_in : (x y : TypeExpr) → Goes x → (o : TypeExpr-F TypeExpr) → roll-TypeExpr o ≡ x → In y (up_in before x o) → Goes y
  gone_in x y g (TypeExpr-F.Prim n) e i = gone_plain x y g i
  gone_in x y g (TypeExpr-F.Def t) e i = gone_plain x y g i
  gone_in x y g (TypeExpr-F.Inst t args) e i = gone_plain x y g i
  gone_in x y g (TypeExpr-F.Array z) e i = absurd (true≢false (sym (goes_interface x g) ∙ ap (is_interface before) (sym e ∙ expr.rolls-Array z) ∙ arrays inputs sound z))
  gone_in x y g (TypeExpr-F.ByRef z) e i = gone_plain x y g i
  gone_in x y g (TypeExpr-F.Var n) e i = gone_plain x y g i
  gone_in x y g (TypeExpr-F.MVar n) e i = gone_plain x y g i
  gone_in x y g (TypeExpr-F.Mod required by z) e i = gone_plain x y g i

  pub up_gone : (x y : TypeExpr) → Goes x → In y (up before x) → Goes y
  unfolding up
  up_gone x y g i = gone_in x y g (out-TypeExpr x) (roll-out-TypeExpr x) i

  -- ---- they move

  plain_moved : (x : TypeExpr) → K x ≡ true → bases_of after (move_expr k.rho x) ++ interfaces_of after (move_expr k.rho x) ≡ move_exprs k.rho (bases_of before x ++ kept_of x)
  plain_moved x h =
      (λ i. bases_move x h i ++ interfaces_moved k kept inputs sound keeps implied p after r x h i) ∙ sym (map-append (move_expr k.rho) (bases_of before x) (kept_of x))

  array_moved : (o : Option TypeId) → listed (option_map (λ t. expr.Def t) (option_map (move_type k.rho) o)) ≡ move_exprs k.rho (listed (option_map (λ t. expr.Def t) o))
  array_moved None = refl
  array_moved (Some t) = ap (λ (e : TypeExpr). e ∷ []) (sym (move_def k.rho t))

  moved_by : (x : TypeExpr) → K x ≡ true → (o : TypeExpr-F TypeExpr) → up_in after (move_expr k.rho x) (moved_in k.rho o) ≡ move_exprs k.rho (kept_in x o)
  moved_by x h (TypeExpr-F.Prim n) = plain_moved x h
  moved_by x h (TypeExpr-F.Def t) = plain_moved x h
  moved_by x h (TypeExpr-F.Inst t args) = plain_moved x h
  moved_by x h (TypeExpr-F.Array z) = ap (λ (o : Option TypeId). listed (option_map (λ t. expr.Def t) o)) r.core.array ∙ array_moved (array_type before)
  moved_by x h (TypeExpr-F.ByRef z) = plain_moved x h
  moved_by x h (TypeExpr-F.Var n) = plain_moved x h
  moved_by x h (TypeExpr-F.MVar n) = plain_moved x h
  moved_by x h (TypeExpr-F.Mod required by z) = plain_moved x h

  pub up_moved : (x : TypeExpr) → K x ≡ true → up after (move_expr k.rho x) ≡ move_exprs k.rho (kept_up x)
  unfolding up kept_up
  up_moved x h = ap (up_in after (move_expr k.rho x)) (out_moved k.rho x) ∙ moved_by x h (out-TypeExpr x)

  -- ---- what is kept of them is kept

  kept_parts : (x y : TypeExpr) → K x ≡ true → In y (bases_of before x) ⊎ In y (kept_of x) → K y ≡ true
  kept_parts x y h (inl i) = base_in x y h i
  kept_parts x y h (inr i) = interfaces_kept k kept inputs sound keeps implied p after r x y h i

  kept_by : (x y : TypeExpr) → K x ≡ true → (o : TypeExpr-F TypeExpr) → In y (kept_in x o) → K y ≡ true
  kept_by x y h (TypeExpr-F.Prim n) i = kept_parts x y h (in_parts y (bases_of before x) (kept_of x) i)
  kept_by x y h (TypeExpr-F.Def t) i = kept_parts x y h (in_parts y (bases_of before x) (kept_of x) i)
  kept_by x y h (TypeExpr-F.Inst t args) i = kept_parts x y h (in_parts y (bases_of before x) (kept_of x) i)
  kept_by x y h (TypeExpr-F.Array z) i = array_ones (array_type before) refl y i
  kept_by x y h (TypeExpr-F.ByRef z) i = kept_parts x y h (in_parts y (bases_of before x) (kept_of x) i)
  kept_by x y h (TypeExpr-F.Var n) i = kept_parts x y h (in_parts y (bases_of before x) (kept_of x) i)
  kept_by x y h (TypeExpr-F.MVar n) i = kept_parts x y h (in_parts y (bases_of before x) (kept_of x) i)
  kept_by x y h (TypeExpr-F.Mod required by z) i = kept_parts x y h (in_parts y (bases_of before x) (kept_of x) i)

  pub up_kept : (x y : TypeExpr) → K x ≡ true → In y (kept_up x) → K y ≡ true
  unfolding kept_up
  up_kept x y h i = kept_by x y h (out-TypeExpr x) i

  pub goes_unkept : (x : TypeExpr) → Goes x → K x ≡ false
  goes_unkept x g = gone_unkept k kept inputs sound keeps implied p after r x g
