-- The bases and interfaces of the place of a kept type are places of those that it has (II.22.37, II.22.23).
use Rattle.std.proofs.Common.{◌≡◌, ℕ, suc, List, [], ◌∷◌, Bool, true, false, Option, Some, None, inl, inr, refl, sym, ap, subst, ◌∙◌}
use Rattle.std.specs.Prelude.{IsTrue, slice_get, if◌then◌else◌}
use Rattle.std.specs.List.{flat_map}
use Rattle.std.specs.Option.{option_map, option_and_then}
use Rattle.il_base.specs.declared.table.TheConstants.{TYPE_DEF}
use Rattle.il_base.specs.declared.world_model.expr.TypeExpr.{TypeExpr, out-TypeExpr}
use Rattle.il_base.specs.declared.world_model.expr.TypeExpr.TheOpen.{TypeExpr-F}
use Rattle.il_base.specs.declared.world_model.types.InterfaceImplRow.{InterfaceImplRow}
use Rattle.il_base.specs.declared.world_model.record.AsmRec.{AsmRec}
use Rattle.il_base.specs.world_model.Tokens.{token_of}
use Rattle.rules.specs.declared.link_rules.row_at.RowAt.{RowAt}
use Rattle.rules.specs.link_rules.Types.{at_row}
use Rattle.rules.specs.link_rules.Members.{type_home, owner_in, owner_of, base_at}
use Rattle.rules.specs.link_rules.Cycles.{listed, home_of, interface_of, interfaces_in, interfaces_at, base_rows, interface_rows}
use Rattle.rules.specs.type_rules.Rows.{each_from}
use Rattle.base_laws.proofs.lemmas.type_laws.Within.{In, in_front, in_behind, in_parts, in_map, in_flat, flat_in}
use Rattle.base_laws.proofs.lemmas.type_laws.Upwards.{base_step, step_base, interface_step, step_interface}
use Rattle.rules.specs.change_rules.Change.{Keep, Undone}
use Rattle.rules.specs.change_rules.Moves.{move_type, move_expr}
use Rattle.base_laws.proofs.lemmas.change_laws.Exprs.{moved_in, out_moved}
use Rattle.rules.specs.world_change_rules.Rows.{kept_interface_of, kept_interfaces_in, kept_interfaces_at}
use Rattle.rules.specs.merged_world_rules.Merge.{Merge, IsMerge, before, after}
use Rattle.rules.specs.merged_world_rules.NewNumbers.{rho_of, back_of, places_of}
use Rattle.rules.specs.merged_world_rules.Kept.{HasFlags}
use Rattle.merge_laws.specs.merged_links.Cycles.{StepsBack}
use Rattle.merge_laws.proofs.lemmas.merged_links.Cycles.{to_in, from_in}
use Rattle.merge_laws.specs.merged_rows_move.Premises.{ReadsTokens, HasGoodBases, HasGoodInterfaces}
use Rattle.merge_laws.proofs.lemmas.merged_rows_move.Core.{core_moves}
use Rattle.merge_laws.proofs.lemmas.merged_rows_move.Whole.{bases, interfaces}
use Rattle.trim_laws.proofs.lemmas.merged_back.Homes.{stands, stands_keeps, led_back}

-- ---- options

pub mapped_some : {A B : Type 0} (f : A → B) (o : Option A) (y : B) → option_map f o ≡ Some y → (x : A) × (o ≡ Some x) × (f x ≡ y)
mapped_some f None y e = absurd (cc)
mapped_some f (Some x) y e = (x, refl, cc)

pub then_some : {A B : Type 0} (f : A → Option B) (o : Option A) (y : B) → option_and_then f o ≡ Some y → (x : A) × (o ≡ Some x) × (f x ≡ Some y)
then_some f None y e = absurd (cc)
then_some f (Some x) y e = (x, refl, e)

-- ---- the kept interface rows are some of all

module _ (recs : List AsmRec) (kept : RowAt → Bool) where
  kept_by : (a : ℕ) (rec : AsmRec) (token k : ℕ) (row : InterfaceImplRow) (e : TypeExpr) (b : Bool) → In e (if b then interface_of recs a rec token row else []) → In e (interface_of recs a rec token row)
  kept_by a rec token k row e true h = h
  kept_by a rec token k row e false h = absurd h

  rows_in_by : (a : ℕ) (rec : AsmRec) (token k : ℕ) (rows : List InterfaceImplRow) (e : TypeExpr) → In e (each_from (kept_interface_of recs kept a rec token) k rows) → In e (flat_map (interface_of recs a rec token) rows)
  rows_in_by a rec token k [] e h = absurd h
  rows_in_by a rec token k (row ∷ rows) e h = elim (in_parts e (kept_interface_of recs kept a rec token k row) (each_from (kept_interface_of recs kept a rec token) (suc k) rows) h) [
    | inl i ↦ in_front e (interface_of recs a rec token row) (flat_map (interface_of recs a rec token) rows) (kept_by a rec token k row e (kept (at_row a k)) i)
    | inr i ↦ in_behind e (interface_of recs a rec token row) (flat_map (interface_of recs a rec token) rows) (rows_in_by a rec token (suc k) rows e i)
  ]

  pub some_of_all : (at : RowAt) (e : TypeExpr) → In e (kept_interfaces_at recs kept at) → In e (interfaces_at recs at)
  unfolding kept_interfaces_at interfaces_at
  some_of_all at e h =
      let r = in_flat (kept_interfaces_in recs kept at) e (listed (slice_get recs at.asm)) h in
      flat_in (interfaces_in recs at) e r.0 (listed (slice_get recs at.asm)) r.1 (rows_in_by at.asm r.0 (token_of TYPE_DEF (suc at.row)) 0 r.0.interface_impl e r.2)

module _ (m : Merge) (is : IsMerge m) (k : Keep) (kept : RowAt → Bool) (flags : HasFlags m k kept) (undone : Undone (back_of m) (rho_of m)) where
  -- ---- the definition of a moved type

  owner_in_moved : (x : TypeExpr-F TypeExpr) → owner_in (after m) (moved_in (rho_of m) x) ≡ option_map (move_type (rho_of m)) (owner_in (before m) x)
  owner_in_moved (TypeExpr-F.Prim n) = (core_moves m is k kept flags undone).prims n
  owner_in_moved (TypeExpr-F.Def t) = refl
  owner_in_moved (TypeExpr-F.Inst t args) = refl
  owner_in_moved (TypeExpr-F.Array x) = (core_moves m is k kept flags undone).array
  owner_in_moved (TypeExpr-F.ByRef x) = refl
  owner_in_moved (TypeExpr-F.Var n) = refl
  owner_in_moved (TypeExpr-F.MVar n) = refl
  owner_in_moved (TypeExpr-F.Mod required by x) = refl

  owner_moved : (e : TypeExpr) → owner_of (after m) (move_expr (rho_of m) e) ≡ option_map (move_type (rho_of m)) (owner_of (before m) e)
  unfolding owner_of
  owner_moved e = ap (owner_in (after m)) (out_moved (rho_of m) e) ∙ owner_in_moved (out-TypeExpr e)

  -- a type of the inputs that stays, with its place
  pub record Comes (o : Option RowAt) (z : RowAt) : Type 0 where
    pub at : RowAt
    pub is_it : o ≡ Some at
    pub stays : IsTrue (stands m k at)
    pub moved : (places_of m).typ at ≡ z

  pub home_comes : (e : TypeExpr) (z : RowAt) → home_of (after m) (move_expr (rho_of m) e) ≡ Some z → Comes (home_of (before m) e) z
  home_comes e z h =
      let t = then_some (type_home (after m)) (option_map (move_type (rho_of m)) (owner_of (before m) e)) z (ap (option_and_then (type_home (after m))) (sym (owner_moved e)) ∙ h) in
      let u = mapped_some (move_type (rho_of m)) (owner_of (before m) e) t.0 t.1 in
      let l = led_back m is k kept flags u.0.0 z (ap (type_home (after m)) u.2 ∙ t.2) in
      record { at = l.at; is_it = ap (option_and_then (type_home (before m))) u.1 ∙ l.home; stays = l.stays; moved = l.moved }

  -- ---- bases

  pub bases_lead : ReadsTokens m → HasGoodBases m → StepsBack (places_of m).typ (stands m k) (base_rows (before m)) (base_rows (after m))
  bases_lead reads good x z h c =
      let s = base_step (after m) ((places_of m).typ x) z (to_in (base_rows (after m) ((places_of m).typ x)) z c) in
      let b = mapped_some (move_expr (rho_of m)) (base_at (before m) x) s.0 (sym (bases m k kept is flags reads good x (stands_keeps m k x h)) ∙ s.1) in
      let w = home_comes b.0 z (ap (home_of (after m)) b.2 ∙ s.2) in
      (w.at, from_in (base_rows (before m) x) w.at (step_base (before m) x w.at b.0 b.1 w.is_it), w.stays, w.moved)

  -- ---- interfaces

  pub interfaces_lead : ReadsTokens m → HasGoodInterfaces m k → StepsBack (places_of m).typ (stands m k) (interface_rows (before m)) (interface_rows (after m))
  interfaces_lead reads good x z h c =
      let s = interface_step (after m) ((places_of m).typ x) z (to_in (interface_rows (after m) ((places_of m).typ x)) z c) in
      let i = subst (λ (es : List TypeExpr). In s.0 es) (interfaces m k kept is flags reads good x (stands_keeps m k x h)) s.1 in
      let e = in_map (move_expr (rho_of m)) s.0 (kept_interfaces_at (before m) kept x) i in
      let w = home_comes e.0 z (ap (home_of (after m)) (sym e.2) ∙ s.2) in
      (w.at, from_in (interface_rows (before m) x) w.at (step_interface (before m) x w.at e.0 (some_of_all (before m) kept x e.0 e.1) w.is_it), w.stays, w.moved)
