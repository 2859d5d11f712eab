-- The numbers of types in what is met stand for types of the world or for references that name nothing.
use Rattle.std.proofs.Common.{◌≡◌, ◌<◌, ◌≤◌, ℕ, zero, suc, ◌+◌, List, [], ◌∷◌, length, map, Bool, true, nat_lt, Option, Some, None, refl, sym, ap, subst, ◌∙◌, ◌&&◌, arith}
use Rattle.std.specs.Prelude.{slice_get, IsTrue}
use Rattle.std.specs.List.{flat_map, list_all}
use Rattle.std.specs.Option.{option_and_then}
use Rattle.std.specs.Cmp.{first_so, second_so}
use Rattle.std.proofs.lemmas.Bool.{and_from, ltb-true}
use Rattle.il_base.specs.declared.ids.TypeId.{TypeId}
use Rattle.il_base.specs.declared.sig.Sig.{Sig, fold-Sig, fold-roll-Sig, ind-Sig, roll-Sig}
use Rattle.il_base.specs.declared.sig.Sig.TheFolds.{map-Sig}
use Rattle.il_base.specs.declared.sig.Sig.TheOpen.{Sig-F}
use Rattle.il_base.specs.declared.sig.Sig.TheVariants as sig
use Rattle.il_base.specs.declared.table.TheConstants.{TYPE_REF}
use Rattle.il_base.specs.declared.world_model.known.Known.{Known}
use Rattle.il_base.specs.declared.world_model.known.Known.TheVariants.{Good, Bad}
use Rattle.il_base.specs.declared.world_model.expr.TypeExpr.{TypeExpr, fold-roll-TypeExpr, ind-TypeExpr, out-TypeExpr, roll-TypeExpr}
use Rattle.il_base.specs.declared.world_model.expr.TypeExpr.TheFolds.{map-TypeExpr}
use Rattle.il_base.specs.declared.world_model.expr.TypeExpr.TheOpen.{TypeExpr-F}
use Rattle.il_base.specs.declared.world_model.record.AsmRec.{AsmRec}
use Rattle.il_base.specs.world_model.Tokens.{index_in}
use Rattle.il_base.specs.world_model.Worlds.{prim_type}
use Rattle.rules.specs.declared.link_rules.row_at.RowAt.{RowAt}
use Rattle.rules.specs.link_rules.Types.{at_row, added_by}
use Rattle.rules.specs.link_rules.Signatures.{named_type}
use Rattle.base_laws.proofs.lemmas.known_laws.Lists.{map_some}
use Rattle.run_laws.proofs.lemmas.marked_laws.Places.{position_below}
use Rattle.rules.specs.change_rules.Keeps.{Names, both, names_layer, names_of}
use Rattle.base_laws.proofs.lemmas.change_laws.Exprs.{With, plain_parts}
use Rattle.base_laws.proofs.lemmas.change_laws.Subst.{names_rolled}
use Rattle.run_laws.proofs.lemmas.query_laws.Homes.{names_out}
use Rattle.rules.specs.merge_rules.Absent.{reference_rows, reads_same, first_same, absent_type}
use Rattle.rules.specs.merge_rules.Keys.{number_of, number_or, absent_number, found_or, class_number, modifier_number, world_layer, world_sig, is_value, made_layer, made_sig}
use Rattle.rules.specs.merge_rules.Refs.{numbers_layer, numbers_in, type_of_number, types_of_sig}
use Rattle.merge_laws.proofs.lemmas.merged_owners.Every.{Every, all_none, all_one, all_more, all_join, all_flat}
use Rattle.merge_laws.proofs.lemmas.merged_standing.Low.{bound, below, Low, IsLow, prim_low, named_low, added_low}

module _ (recs : List AsmRec) where
  -- after the types of the world are the references that name nothing
  abbrev pub most : ℕ
  most = bound recs + length (reference_rows recs)

  abbrev pub Within : ℕ → Type 0
  Within n = n ≤ most

  abbrev pub IsThere : TypeId → Type 0
  IsThere t = t.0 < most

  pub low_there : (t : TypeId) → IsLow recs t → IsThere t
  low_there t h = let lt = ltb-true t.0 (bound recs) h in omega (arith, lt)

  -- ---- types of signatures

  number_there : (n : ℕ) → Within n → Every IsThere (type_of_number n)
  number_there zero h = all_none IsThere
  number_there (suc t) h = all_one IsThere (record { 0 = t }) (omega (arith, h))

  pub sig_there : (s : Sig) → Every Within (numbers_in s) → Every IsThere (types_of_sig s)
  sig_there s h = all_flat IsThere type_of_number (numbers_in s) (λ n c. number_there n (h.each n c))

  numbers_are : (x : Sig-F Sig) (s : Sig) → roll-Sig x ≡ s → numbers_in s ≡ numbers_layer (map-Sig Sig (List ℕ) numbers_in x)
  unfolding numbers_in
  numbers_are x s e = ap (fold-Sig (List ℕ) numbers_layer) (sym e) ∙ fold-roll-Sig (List ℕ) numbers_layer x

  of_layer : (x : Sig-F Sig) (s : Sig) → roll-Sig x ≡ s → Every Within (numbers_layer (map-Sig Sig (List ℕ) numbers_in x)) → Every Within (numbers_in s)
  of_layer x s e h = subst (Every Within) (sym (numbers_are x s e)) h

  -- ---- numbers of tokens

  abbrev number_in : TypeExpr-F TypeExpr → ℕ
  number_in (TypeExpr-F.Def t) = suc t.0
  number_in (TypeExpr-F.Prim n) = elim (prim_type recs n) [ Some t ↦ suc t.0 | None ↦ 0 ]
  number_in _ = 0

  number_is : (e : TypeExpr) → number_of recs (Good e) ≡ number_in (out-TypeExpr e)
  number_is e = refl

  prim_within : (n : ℕ) (o : Option TypeId) → prim_type recs n ≡ o → Within (elim o [ Some t ↦ suc t.0 | None ↦ 0 ])
  prim_within n None e = omega arith
  prim_within n (Some t) e = let lt = low_there t (prim_low recs n t e) in omega (arith, lt)

  in_within : (x : TypeExpr-F TypeExpr) → IsTrue (both (names_layer (below recs) (map-TypeExpr TypeExpr Names (names_of (below recs)) x))) → Within (number_in x)
  in_within (TypeExpr-F.Prim n) h = prim_within n (prim_type recs n) refl
  in_within (TypeExpr-F.Def t) h = let lt = low_there t (first_so (nat_lt t.0 (bound recs)) (nat_lt t.0 (bound recs)) h) in omega (arith, lt)
  in_within (TypeExpr-F.Inst t args) h = omega arith
  in_within (TypeExpr-F.Array x) h = omega arith
  in_within (TypeExpr-F.ByRef x) h = omega arith
  in_within (TypeExpr-F.Var n) h = omega arith
  in_within (TypeExpr-F.MVar n) h = omega arith
  in_within (TypeExpr-F.Mod required by x) h = omega arith

  known_within : (k : Known TypeExpr) → ((e : TypeExpr) → k ≡ Good e → Low recs e) → Within (number_of recs k)
  known_within (Good e) h = in_within (out-TypeExpr e) (sym (ap both (names_out (below recs) e)) ∙ h e refl)
  known_within (Bad why) h = omega arith

  absent_by : (o : Option TypeId) → ((t : TypeId) → o ≡ Some t → IsThere t) → Within (number_or o 0)
  absent_by None h = omega arith
  absent_by (Some t) h = let lt = h t refl in omega (arith, lt)

  pub absent_there : (at : RowAt) (t : TypeId) → absent_type recs at ≡ Some t → IsThere t
  unfolding absent_type
  absent_there at t e =
      let m = map_some (λ k. record { 0 = bound recs + k }) (first_same recs at) t e in
      let lt = position_below (reads_same recs (length (reference_rows recs)) at) (reference_rows recs) m.0 m.1 in
      subst IsThere m.2 (omega (arith, lt))

  absent_within : (a : ℕ) (o : Option ℕ) → Within (number_or (option_and_then (λ k. absent_type recs (at_row a k)) o) 0)
  absent_within a None = omega arith
  absent_within a (Some k) = absent_by (absent_type recs (at_row a k)) (absent_there (at_row a k))

  found_within : (n other : ℕ) → Within n → Within other → Within (found_or n other)
  found_within zero other h g = g
  found_within (suc t) other h g = h

  module _ (a : ℕ) (rec : AsmRec) (there : slice_get recs a ≡ Some rec) where
    pub class_within : (token : ℕ) → Within (class_number recs a rec token)
    unfolding class_number
    class_within token =
        found_within (number_of recs (named_type recs a rec token)) (absent_number recs a token) (known_within (named_type recs a rec token) (named_low recs a rec there token)) (absent_within a (index_in TYPE_REF token))

    modifier_by : (token : ℕ) (o : Option TypeId) → added_by recs a rec token ≡ o → Within (number_or o (class_number recs a rec token))
    modifier_by token None e = class_within token
    modifier_by token (Some t) e = let lt = low_there t (added_low recs a rec there token t e) in omega (arith, lt)

    modifier_within : (token : ℕ) → Within (modifier_number recs a rec token)
    modifier_within token = modifier_by token (added_by recs a rec token) refl

    -- ---- signatures

    abbrev world : Sig → Sig
    world = world_sig recs a rec

    abbrev IsFine : Sig → Type 0
    IsFine s = Every Within (numbers_in (world s))

    abbrev Part : Type 0
    Part = (s : Sig) × IsFine s

    args_fine : (xs : List Part) → Every Within (flat_map (λ ns. ns) (map numbers_in (map world (map (λ x. x.0) xs))))
    args_fine [] = all_none Within
    args_fine (x ∷ xs) = all_join Within (numbers_in (world x.0)) (flat_map (λ ns. ns) (map numbers_in (map world (map (λ x. x.0) xs)))) x.1 (args_fine xs)

    layer_fine : (y : Sig-F Part) → Every Within (numbers_in (world_layer recs a rec (map-Sig Sig Sig world (map-Sig Part Sig (λ x. x.0) y))))
    layer_fine (Sig-F.Prim n) = of_layer (Sig-F.Prim n) (sig.Prim n) (sig.rolls-Prim n) (all_none Within)
    layer_fine (Sig-F.Named v token) =
        let k : ℕ = class_number recs a rec token in of_layer (Sig-F.Named v k) (sig.Named v k) (sig.rolls-Named v k) (all_one Within k (class_within token))
    layer_fine (Sig-F.Array x) = of_layer (Sig-F.Array (world x.0)) (sig.Array (world x.0)) (sig.rolls-Array (world x.0)) x.1
    layer_fine (Sig-F.ByRef x) = of_layer (Sig-F.ByRef (world x.0)) (sig.ByRef (world x.0)) (sig.rolls-ByRef (world x.0)) x.1
    layer_fine (Sig-F.Inst v token xs) =
        let k : ℕ = class_number recs a rec token in
        let ss : List Sig = map world (map (λ x. x.0) xs) in
        of_layer (Sig-F.Inst v k ss) (sig.Inst v k ss) (sig.rolls-Inst v k ss) (all_more Within k (flat_map (λ ns. ns) (map numbers_in ss)) (class_within token) (args_fine xs))
    layer_fine (Sig-F.Var n) = of_layer (Sig-F.Var n) (sig.Var n) (sig.rolls-Var n) (all_none Within)
    layer_fine (Sig-F.MVar n) = of_layer (Sig-F.MVar n) (sig.MVar n) (sig.rolls-MVar n) (all_none Within)
    layer_fine (Sig-F.Mod required token x) =
        let k : ℕ = modifier_number recs a rec token in
        of_layer (Sig-F.Mod required k (world x.0)) (sig.Mod required k (world x.0)) (sig.rolls-Mod required k (world x.0)) (all_more Within k (numbers_in (world x.0)) (modifier_within token) x.1)
    layer_fine (Sig-F.Pinned x) = of_layer (Sig-F.Pinned (world x.0)) (sig.Pinned (world x.0)) (sig.rolls-Pinned (world x.0)) x.1

    rolled : (y : Sig-F Part) → IsFine (roll-Sig (map-Sig Part Sig (λ x. x.0) y))
    unfolding world_sig
    rolled y = subst (λ (s : Sig). Every Within (numbers_in s)) (sym (fold-roll-Sig Sig (world_layer recs a rec) (map-Sig Part Sig (λ x. x.0) y))) (layer_fine y)

    pub world_fine : (s : Sig) → Every Within (numbers_in (world_sig recs a rec s))
    world_fine = ind-Sig IsFine (λ x y is. subst (λ z. IsFine (roll-Sig z)) is (rolled y))

  -- ---- signatures that are made of types

  abbrev made : TypeExpr → Sig
  made = made_sig recs

  abbrev IsMade : TypeExpr → Type 0
  IsMade e = Low recs e → Every Within (numbers_in (made e))

  suc_within : (t : TypeId) → IsLow recs t → Within (suc t.0)
  suc_within t h = let lt = low_there t h in omega (arith, lt)

  args_made : (xs : List (With IsMade)) → list_all both (map (names_of (below recs)) (map (λ x. x.0) xs)) ≡ true → Every Within (flat_map (λ ns. ns) (map numbers_in (map made (map (λ x. x.0) xs))))
  args_made [] h = all_none Within
  args_made (x ∷ xs) h =
      let first : Bool = both (names_of (below recs) x.0) in
      let rest : Bool = list_all both (map (names_of (below recs)) (map (λ x. x.0) xs)) in
      all_join Within (numbers_in (made x.0)) (flat_map (λ ns. ns) (map numbers_in (map made (map (λ x. x.0) xs)))) (x.1 (first_so first rest h)) (args_made xs (second_so first rest h))

  layer_made : (y : TypeExpr-F (With IsMade)) → IsTrue (both (names_layer (below recs) (map-TypeExpr TypeExpr Names (names_of (below recs)) (plain_parts IsMade y))))
      → Every Within (numbers_in (made_layer recs (map-TypeExpr TypeExpr Sig made (plain_parts IsMade y))))
  layer_made (TypeExpr-F.Prim n) h = of_layer (Sig-F.Prim n) (sig.Prim n) (sig.rolls-Prim n) (all_none Within)
  layer_made (TypeExpr-F.Def t) h =
      let v : Bool = is_value recs t in
      of_layer (Sig-F.Named v (suc t.0)) (sig.Named v (suc t.0)) (sig.rolls-Named v (suc t.0)) (all_one Within (suc t.0) (suc_within t (first_so (nat_lt t.0 (bound recs)) (nat_lt t.0 (bound recs)) h)))
  layer_made (TypeExpr-F.Inst t xs) h =
      let v : Bool = is_value recs t in
      let ss : List Sig = map made (map (λ x. x.0) xs) in
      let b : Bool = nat_lt t.0 (bound recs) in
      let all : Bool = list_all both (map (names_of (below recs)) (map (λ x. x.0) xs)) in
      let g = first_so (b && all) (b && all) h in
      of_layer (Sig-F.Inst v (suc t.0) ss) (sig.Inst v (suc t.0) ss) (sig.rolls-Inst v (suc t.0) ss)
      (all_more Within (suc t.0) (flat_map (λ ns. ns) (map numbers_in ss)) (suc_within t (first_so b all g)) (args_made xs (second_so b all g)))
  layer_made (TypeExpr-F.Array x) h = of_layer (Sig-F.Array (made x.0)) (sig.Array (made x.0)) (sig.rolls-Array (made x.0)) (x.1 h)
  layer_made (TypeExpr-F.ByRef x) h = of_layer (Sig-F.ByRef (made x.0)) (sig.ByRef (made x.0)) (sig.rolls-ByRef (made x.0)) (x.1 h)
  layer_made (TypeExpr-F.Var n) h = of_layer (Sig-F.Var n) (sig.Var n) (sig.rolls-Var n) (all_none Within)
  layer_made (TypeExpr-F.MVar n) h = of_layer (Sig-F.MVar n) (sig.MVar n) (sig.rolls-MVar n) (all_none Within)
  layer_made (TypeExpr-F.Mod required by x) h =
      let b : Bool = nat_lt by.0 (bound recs) in
      let n : Names = names_of (below recs) x.0 in
      let p = first_so (b && n.kept) (b && n.shown) h in
      let q = second_so (b && n.kept) (b && n.shown) h in
      of_layer (Sig-F.Mod required (suc by.0) (made x.0)) (sig.Mod required (suc by.0) (made x.0)) (sig.rolls-Mod required (suc by.0) (made x.0))
      (all_more Within (suc by.0) (numbers_in (made x.0)) (suc_within by (first_so b n.kept p)) (x.1 (and_from n.kept n.shown (second_so b n.kept p) (second_so b n.shown q))))

  rolled_made : (y : TypeExpr-F (With IsMade)) → IsMade (roll-TypeExpr (plain_parts IsMade y))
  unfolding made_sig
  rolled_made y h =
      subst (λ (s : Sig). Every Within (numbers_in s)) (sym (fold-roll-TypeExpr Sig (made_layer recs) (plain_parts IsMade y)))
      (layer_made y (sym (ap both (names_rolled (below recs) (plain_parts IsMade y))) ∙ h))

  pub made_fine : (e : TypeExpr) → Low recs e → Every Within (numbers_in (made_sig recs e))
  made_fine = ind-TypeExpr IsMade (λ x y is. subst (λ z. IsMade (roll-TypeExpr z)) is (rolled_made y))
