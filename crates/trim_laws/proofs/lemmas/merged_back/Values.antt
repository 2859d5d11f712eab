-- The value types in a moved type are places of those in the type (II.13).
use Rattle.std.proofs.Common.{◌≡◌, ℕ, List, [], ◌∷◌, map, Bool, true, false, Option, Some, None, ◌⊎◌, inl, inr, refl, sym, ap, subst, ◌∙◌}
use Rattle.std.specs.Prelude.{IsTrue, ◌&&◌, ◌||◌, not, if◌then◌else◌}
use Rattle.std.specs.List.{list_any, flat_map}
use Rattle.std.specs.Option.{option_and_then}
use Rattle.std.proofs.lemmas.Bool.{and_parts, and_from, or_cases, or_left, or_right}
use Rattle.il_base.specs.declared.ids.TypeId.{TypeId}
use Rattle.il_base.specs.declared.core_table.tokens.TheConstants.{VALUE_TYPE, ENUM}
use Rattle.il_base.specs.declared.world_model.expr.TypeExpr.{TypeExpr, roll-TypeExpr, fold-roll-TypeExpr, ind-TypeExpr}
use Rattle.il_base.specs.declared.world_model.expr.TypeExpr.TheFolds.{map-TypeExpr}
use Rattle.il_base.specs.declared.world_model.expr.TypeExpr.TheOpen.{TypeExpr-F}
use Rattle.il_base.specs.declared.world_model.record.AsmRec.{AsmRec}
use Rattle.rules.specs.declared.link_rules.row_at.RowAt.{RowAt}
use Rattle.rules.specs.link_rules.Members.{type_home, base_at}
use Rattle.rules.specs.link_rules.Cycles.{listed, home_of, is_core_row_at, extends_core, is_value_type, value_row, value_rows, instance_rows, values_layer, values_in}
use Rattle.base_laws.proofs.lemmas.type_laws.Within.{In, in_front, in_behind, in_parts}
use Rattle.rules.specs.change_rules.Change.{Keep, Undone}
use Rattle.rules.specs.change_rules.Moves.{move_type, move_expr, move_exprs}
use Rattle.base_laws.proofs.lemmas.change_laws.Exprs.{moved_in, move_rolled, With, plain_parts}
use Rattle.rules.specs.world_change_rules.Rows.{is_table_type}
use Rattle.rules.specs.merged_world_rules.Merge.{Merge, IsMerge, before, after}
use Rattle.rules.specs.merged_world_rules.NewNumbers.{rho_of, back_of, places_of}
use Rattle.rules.specs.merged_world_rules.Kept.{HasFlags}
use Rattle.merge_laws.specs.merged_rows_move.Premises.{ReadsTokens, HasGoodBases}
use Rattle.merge_laws.proofs.lemmas.merged_rows_move.Whole.{bases, marks}
use Rattle.trim_laws.proofs.lemmas.merged_back.Homes.{stands, stands_keeps, led_back}
use Rattle.trim_laws.proofs.lemmas.merged_back.Graphs.{mapped_some, then_some, home_comes}

-- ---- tests

listed_any : {A : Type 0} (p : A → Bool) (o : Option A) → list_any p (listed o) ≡ true → (x : A) × (o ≡ Some x) × (p x ≡ true)
listed_any p None h = absurd (cc)
listed_any p (Some x) h = (x, refl, or_none (p x) h)
  where
    or_none : (b : Bool) → (b || false) ≡ true → b ≡ true
    or_none true e = refl
    or_none false e = absurd (cc)

any_listed : {A : Type 0} (p : A → Bool) (o : Option A) (x : A) → o ≡ Some x → p x ≡ true → list_any p (listed o) ≡ true
any_listed p o x e h = ap (λ y. list_any p (listed y)) e ∙ or_left (p x) false h

-- ---- lists of what an instance has

in_instance : (xs parts : List RowAt) (z : RowAt) → In z (instance_rows xs parts) → In z xs ⊎ ((x : RowAt) × In x xs × In z parts)
in_instance [] parts z h = absurd h
in_instance (x ∷ xs) parts z h = elim (in_parts z (x ∷ xs) parts h) [ inl i ↦ inl i | inr i ↦ inr (x, inl refl, i) ]

instance_first : (xs parts : List RowAt) (z : RowAt) → In z xs → In z (instance_rows xs parts)
instance_first [] parts z h = absurd h
instance_first (x ∷ xs) parts z h = in_front z (x ∷ xs) parts h

instance_part : (xs parts : List RowAt) (x z : RowAt) → In x xs → In z parts → In z (instance_rows xs parts)
instance_part [] parts x z h i = absurd h
instance_part (y ∷ xs) parts x z h i = in_behind z (y ∷ xs) parts i

module _ (m : Merge) (is : IsMerge m) (k : Keep) (kept : RowAt → Bool) (flags : HasFlags m k kept) (undone : Undone (back_of m) (rho_of m)) (reads : ReadsTokens m) (good : HasGoodBases m) where
  abbrev mv : TypeExpr → TypeExpr
  mv e = move_expr (rho_of m) e

  -- ---- a value type stays one

  extends_back : (token : ℕ) → IsTrue (is_table_type token) → (x : RowAt) → IsTrue (stands m k x) → extends_core (after m) token ((places_of m).typ x) ≡ true → extends_core (before m) token x ≡ true
  extends_back token table x h e =
      let r = listed_any (is_core_row_at (after m) token) (option_and_then (home_of (after m)) (base_at (after m) ((places_of m).typ x))) e in
      let b = then_some (home_of (after m)) (base_at (after m) ((places_of m).typ x)) r.0 r.1 in
      let o = mapped_some (move_expr (rho_of m)) (base_at (before m) x) b.0 (sym (bases m k kept is flags reads good x (stands_keeps m k x h)) ∙ b.1) in
      let w = home_comes m is k kept flags undone o.0 r.0 (ap (home_of (after m)) o.2 ∙ b.2) in
      let core = ((marks m k kept is flags).types w.at (stands_keeps m k w.at w.stays)).core_row token table in
      any_listed (is_core_row_at (before m) token) (option_and_then (home_of (before m)) (base_at (before m) x)) w.at
      (ap (option_and_then (home_of (before m))) o.1 ∙ w.is_it)
      (sym core ∙ ap (is_core_row_at (after m) token) w.moved ∙ r.2)

  pub value_back : (x : RowAt) → IsTrue (stands m k x) → is_value_type (after m) ((places_of m).typ x) ≡ true → is_value_type (before m) x ≡ true
  unfolding is_value_type
  value_back x h e = elim (or_cases (extends_core (after m) VALUE_TYPE ((places_of m).typ x) && not (is_core_row_at (after m) ENUM ((places_of m).typ x))) (extends_core (after m) ENUM ((places_of m).typ x)) e) [
    | inl p ↦
        let q = and_parts (extends_core (after m) VALUE_TYPE ((places_of m).typ x)) (not (is_core_row_at (after m) ENUM ((places_of m).typ x))) p in
        let core = ((marks m k kept is flags).types x (stands_keeps m k x h)).core_row ENUM refl in
        or_left (extends_core (before m) VALUE_TYPE x && not (is_core_row_at (before m) ENUM x)) (extends_core (before m) ENUM x)
        (and_from (extends_core (before m) VALUE_TYPE x) (not (is_core_row_at (before m) ENUM x)) (extends_back VALUE_TYPE refl x h q.0) (ap not (sym core) ∙ q.1))
    | inr p ↦ or_right (extends_core (before m) VALUE_TYPE x && not (is_core_row_at (before m) ENUM x)) (extends_core (before m) ENUM x) (extends_back ENUM refl x h p)
  ]

  -- ---- the value types in a type

  pub record From (xs : List RowAt) (z : RowAt) : Type 0 where
    pub at : RowAt
    pub inside : In at xs
    pub stays : IsTrue (stands m k at)
    pub moved : (places_of m).typ at ≡ z

  row_if : (recs : List AsmRec) (at z : RowAt) (b : Bool) → is_value_type recs at ≡ b → In z (if b then at ∷ [] else []) → (z ≡ at) × (is_value_type recs at ≡ true)
  row_if recs at z true e (inl same) = (same, e)
  row_if recs at z true e (inr h) = absurd h
  row_if recs at z false e h = absurd h

  one_row : (recs : List AsmRec) (at : RowAt) → is_value_type recs at ≡ true → In at (value_row recs at)
  one_row recs at e = subst (λ (b : Bool). In at (if b then at ∷ [] else [])) (sym e) (inl refl)

  rows_by : (recs : List AsmRec) (o : Option RowAt) (z : RowAt) → In z (value_rows recs o) → (o ≡ Some z) × (is_value_type recs z ≡ true)
  rows_by recs None z h = absurd h
  rows_by recs (Some at) z h =
      let r = row_if recs at z (is_value_type recs at) refl h in
      (ap (λ (x : RowAt). Some x) (sym r.0), ap (is_value_type recs) r.0 ∙ r.1)

  by_rows : (recs : List AsmRec) (o : Option RowAt) (at : RowAt) → o ≡ Some at → is_value_type recs at ≡ true → In at (value_rows recs o)
  by_rows recs o at e h = subst (λ (o : Option RowAt). In at (value_rows recs o)) (sym e) (one_row recs at h)

  def_from : (t : TypeId) (z : RowAt) → In z (value_rows (after m) (type_home (after m) (move_type (rho_of m) t))) → From (value_rows (before m) (type_home (before m) t)) z
  def_from t z h =
      let r = rows_by (after m) (type_home (after m) (move_type (rho_of m) t)) z h in
      let l = led_back m is k kept flags t.0 z r.0 in
      record { at = l.at; inside = by_rows (before m) (type_home (before m) t) l.at l.home (value_back l.at l.stays (ap (is_value_type (after m)) l.moved ∙ r.1)); stays = l.stays; moved = l.moved }

  abbrev Leads : TypeExpr → Type 0
  Leads e = (z : RowAt) → In z (values_in (after m) (mv e)) → From (values_in (before m) e) z

  values_of : (recs : List AsmRec) (x : TypeExpr-F TypeExpr) → values_in recs (roll-TypeExpr x) ≡ values_layer recs (map-TypeExpr TypeExpr (List RowAt) (values_in recs) x)
  unfolding values_in
  values_of recs x = fold-roll-TypeExpr (List RowAt) (values_layer recs) x

  args_from : (xs : List (With Leads)) (z : RowAt) → In z (flat_map (λ ys. ys) (map (values_in (after m)) (move_exprs (rho_of m) (map (λ e. e.0) xs)))) → From (flat_map (λ ys. ys) (map (values_in (before m)) (map (λ e. e.0) xs))) z
  args_from [] z h = absurd h
  args_from (x ∷ xs) z h =
      let now : List RowAt = values_in (before m) x.0 in
      let later : List RowAt = flat_map (λ ys. ys) (map (values_in (before m)) (map (λ e. e.0) xs)) in
      elim (in_parts z (values_in (after m) (mv x.0)) (flat_map (λ ys. ys) (map (values_in (after m)) (move_exprs (rho_of m) (map (λ e. e.0) xs)))) h) [
        | inl i ↦ let f = x.1 z i in record { at = f.at; inside = in_front f.at now later f.inside; stays = f.stays; moved = f.moved }
        | inr i ↦ let f = args_from xs z i in record { at = f.at; inside = in_behind f.at now later f.inside; stays = f.stays; moved = f.moved }
      ]

  inst_from : (t : TypeId) (xs : List (With Leads)) (z : RowAt)
      → In z (instance_rows (value_rows (after m) (type_home (after m) (move_type (rho_of m) t))) (flat_map (λ ys. ys) (map (values_in (after m)) (move_exprs (rho_of m) (map (λ e. e.0) xs)))))
      → From (instance_rows (value_rows (before m) (type_home (before m) t)) (flat_map (λ ys. ys) (map (values_in (before m)) (map (λ e. e.0) xs)))) z
  inst_from t xs z h =
      let own : List RowAt = value_rows (before m) (type_home (before m) t) in
      let parts : List RowAt = flat_map (λ ys. ys) (map (values_in (before m)) (map (λ e. e.0) xs)) in
      elim (in_instance (value_rows (after m) (type_home (after m) (move_type (rho_of m) t))) (flat_map (λ ys. ys) (map (values_in (after m)) (move_exprs (rho_of m) (map (λ e. e.0) xs)))) z h) [
        | inl i ↦ let f = def_from t z i in record { at = f.at; inside = instance_first own parts f.at f.inside; stays = f.stays; moved = f.moved }
        | inr r ↦
            let f = def_from t r.0 r.1 in
            let g = args_from xs z r.2 in
            record { at = g.at; inside = instance_part own parts f.at g.at f.inside g.inside; stays = g.stays; moved = g.moved }
      ]

  layer_from : (y : TypeExpr-F (With Leads)) (z : RowAt) → In z (values_layer (after m) (map-TypeExpr TypeExpr (List RowAt) (values_in (after m)) (moved_in (rho_of m) (plain_parts Leads y))))
      → From (values_layer (before m) (map-TypeExpr TypeExpr (List RowAt) (values_in (before m)) (plain_parts Leads y))) z
  layer_from (TypeExpr-F.Prim n) z h = absurd h
  layer_from (TypeExpr-F.Def t) z h = def_from t z h
  layer_from (TypeExpr-F.Inst t xs) z h = inst_from t xs z h
  layer_from (TypeExpr-F.Array x) z h = absurd h
  layer_from (TypeExpr-F.ByRef x) z h = absurd h
  layer_from (TypeExpr-F.Var n) z h = absurd h
  layer_from (TypeExpr-F.MVar n) z h = absurd h
  layer_from (TypeExpr-F.Mod required by x) z h = x.1 z h

  rolled_from : (y : TypeExpr-F (With Leads)) → Leads (roll-TypeExpr (plain_parts Leads y))
  rolled_from y z h =
      let x : TypeExpr-F TypeExpr = plain_parts Leads y in
      let i = subst (λ (zs : List RowAt). In z zs) (ap (values_in (after m)) (move_rolled (rho_of m) x) ∙ values_of (after m) (moved_in (rho_of m) x)) h in
      let f = layer_from y z i in
      record { at = f.at; inside = subst (λ (ws : List RowAt). In f.at ws) (sym (values_of (before m) x)) f.inside; stays = f.stays; moved = f.moved }

  pub values_from : (e : TypeExpr) (z : RowAt) → In z (values_in (after m) (mv e)) → From (values_in (before m) e) z
  values_from e = ind-TypeExpr Leads (λ x y same. subst (λ w. Leads (roll-TypeExpr w)) same (rolled_from y)) e
