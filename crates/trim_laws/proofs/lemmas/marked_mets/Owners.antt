-- The types of what is written for the type in which a member is found: those that the type names, and of the core library.
use Rattle.std.proofs.Common.{◌≡◌, suc, Bool, List, [], ◌∷◌, ◌++◌, map, Some, refl, sym, subst}
use Rattle.std.specs.List.{flat_map}
use Rattle.il_base.specs.declared.ids.TypeId.{TypeId}
use Rattle.il_base.specs.declared.sig.Sig.{Sig}
use Rattle.il_base.specs.declared.sig.Sig.TheOpen.{Sig-F}
use Rattle.il_base.specs.declared.sig.Sig.TheVariants as sig
use Rattle.il_base.specs.declared.world_model.expr.TypeExpr.{TypeExpr, fold-roll-TypeExpr, ind-TypeExpr, out-TypeExpr, roll-TypeExpr, roll-out-TypeExpr}
use Rattle.il_base.specs.declared.world_model.expr.TypeExpr.TheFolds.{map-TypeExpr}
use Rattle.il_base.specs.declared.world_model.expr.TypeExpr.TheOpen.{TypeExpr-F}
use Rattle.il_base.specs.declared.world_model.record.AsmRec.{AsmRec}
use Rattle.il_base.specs.world_model.Worlds.{prim_type}
use Rattle.base_laws.proofs.lemmas.known_laws.Lists.{first_in, later_in, map_some}
use Rattle.rules.specs.mark_rules.Naming as naming
use Rattle.base_laws.proofs.lemmas.change_laws.Exprs.{With, plain_parts}
use Rattle.rules.specs.merge_rules.Numbers.{Kept}
use Rattle.rules.specs.merge_rules.Keys.{TypeKey, named, spec, is_value, made_layer, made_sig, expr_key_in, expr_key}
use Rattle.rules.specs.merge_rules.Refs.{numbers_in, types_of_key, types_of_owner}
use Rattle.std.proofs.lemmas.List.Elements.{Contains-append_left, Contains-append_right}
use Rattle.merge_laws.proofs.lemmas.merged_owners.Every.{all_none, all_one, all_more, all_join, all_option}
use Rattle.trim_laws.proofs.lemmas.marked_mets.Stays.{Stays, StayAll, Stay}
use Rattle.trim_laws.proofs.lemmas.marked_mets.Tokens.{NumberStays, types_are, suc_stays, prim_stays}
use Rattle.trim_laws.proofs.lemmas.marked_mets.Signatures.{NumbersStay, of_layer, sig_types}

module _ (recs : List AsmRec) (kept : Kept) where
  abbrev made : TypeExpr → Sig
  made = made_sig recs

  abbrev IsMade : TypeExpr → Type 0
  IsMade e = Stay recs kept e → NumbersStay recs kept (numbers_in (made e))

  abbrev plain : List (With IsMade) → List TypeExpr
  plain xs = map (λ x. x.0) xs

  front : (ts us : List TypeId) → StayAll recs kept (ts ++ us) → StayAll recs kept ts
  front ts us h = record { each = λ u c. h.each u (Contains-append_left ts us u c) }

  back : (ts us : List TypeId) → StayAll recs kept (ts ++ us) → StayAll recs kept us
  back ts us h = record { each = λ u c. h.each u (Contains-append_right ts us u c) }

  head : (t : TypeId) (ts : List TypeId) → StayAll recs kept (t ∷ ts) → Stays recs kept t
  head t ts h = h.each t (first_in t ts)

  tail : (t : TypeId) (ts : List TypeId) → StayAll recs kept (t ∷ ts) → StayAll recs kept ts
  tail t ts h = record { each = λ u c. h.each u (later_in t ts u c) }

  args_made : (xs : List (With IsMade)) → StayAll recs kept (flat_map (λ ts. ts) (map naming.types_in (plain xs))) → NumbersStay recs kept (flat_map (λ ns. ns) (map numbers_in (map made (plain xs))))
  args_made [] h = all_none (NumberStays recs kept)
  args_made (x ∷ xs) h =
      let rest : List TypeId = flat_map (λ ts. ts) (map naming.types_in (plain xs)) in
      all_join (NumberStays recs kept) (numbers_in (made x.0)) (flat_map (λ ns. ns) (map numbers_in (map made (plain xs)))) (x.1 (front (naming.types_in x.0) rest h)) (args_made xs (back (naming.types_in x.0) rest h))

  layer_made : (y : TypeExpr-F (With IsMade)) → StayAll recs kept (naming.types_layer (map-TypeExpr TypeExpr (List TypeId) naming.types_in (plain_parts IsMade y)))
      → NumbersStay recs kept (numbers_in (made_layer recs (map-TypeExpr TypeExpr Sig made (plain_parts IsMade y))))
  layer_made (TypeExpr-F.Prim n) h = of_layer (NumberStays recs kept) (Sig-F.Prim n) (sig.Prim n) (sig.rolls-Prim n) (all_none (NumberStays recs kept))
  layer_made (TypeExpr-F.Def t) h =
      let v : Bool = is_value recs t in
      of_layer (NumberStays recs kept) (Sig-F.Named v (suc t.0)) (sig.Named v (suc t.0)) (sig.rolls-Named v (suc t.0)) (all_one (NumberStays recs kept) (suc t.0) (suc_stays recs kept t (head t [] h)))
  layer_made (TypeExpr-F.Inst t xs) h =
      let v : Bool = is_value recs t in
      let ss : List Sig = map made (plain xs) in
      let rest : List TypeId = flat_map (λ ts. ts) (map naming.types_in (plain xs)) in
      of_layer (NumberStays recs kept) (Sig-F.Inst v (suc t.0) ss) (sig.Inst v (suc t.0) ss) (sig.rolls-Inst v (suc t.0) ss)
      (all_more (NumberStays recs kept) (suc t.0) (flat_map (λ ns. ns) (map numbers_in ss)) (suc_stays recs kept t (head t rest h)) (args_made xs (tail t rest h)))
  layer_made (TypeExpr-F.Array x) h = of_layer (NumberStays recs kept) (Sig-F.Array (made x.0)) (sig.Array (made x.0)) (sig.rolls-Array (made x.0)) (x.1 h)
  layer_made (TypeExpr-F.ByRef x) h = of_layer (NumberStays recs kept) (Sig-F.ByRef (made x.0)) (sig.ByRef (made x.0)) (sig.rolls-ByRef (made x.0)) (x.1 h)
  layer_made (TypeExpr-F.Var n) h = of_layer (NumberStays recs kept) (Sig-F.Var n) (sig.Var n) (sig.rolls-Var n) (all_none (NumberStays recs kept))
  layer_made (TypeExpr-F.MVar n) h = of_layer (NumberStays recs kept) (Sig-F.MVar n) (sig.MVar n) (sig.rolls-MVar n) (all_none (NumberStays recs kept))
  layer_made (TypeExpr-F.Mod required by x) h =
      of_layer (NumberStays recs kept) (Sig-F.Mod required (suc by.0) (made x.0)) (sig.Mod required (suc by.0) (made x.0)) (sig.rolls-Mod required (suc by.0) (made x.0))
      (all_more (NumberStays recs kept) (suc by.0) (numbers_in (made x.0)) (suc_stays recs kept by (head by (naming.types_in x.0) h)) (x.1 (tail by (naming.types_in x.0) h)))

  rolled : (y : TypeExpr-F (With IsMade)) → IsMade (roll-TypeExpr (plain_parts IsMade y))
  unfolding made_sig
  rolled y h =
      subst (λ (s : Sig). NumbersStay recs kept (numbers_in s)) (sym (fold-roll-TypeExpr Sig (made_layer recs) (plain_parts IsMade y)))
      (layer_made y (subst (StayAll recs kept) (types_are (plain_parts IsMade y) (roll-TypeExpr (plain_parts IsMade y)) refl) h))

  made_stays : (e : TypeExpr) → IsMade e
  made_stays = ind-TypeExpr IsMade (λ x y is. subst (λ z. IsMade (roll-TypeExpr z)) is (rolled y))

  -- ---- keys of owners

  spec_stays : (e : TypeExpr) → Stay recs kept e → StayAll recs kept (types_of_key (spec (made_sig recs e)))
  spec_stays e h = sig_types recs kept (made_sig recs e) (made_stays e h)

  key_in : (e : TypeExpr) (x : TypeExpr-F TypeExpr) (k : TypeKey) → roll-TypeExpr x ≡ e → expr_key_in recs e x ≡ Some k → Stay recs kept e → StayAll recs kept (types_of_key k)
  key_in e (TypeExpr-F.Def t) k is h stay =
      let same : named t ≡ k = cc in
      subst (λ (y : TypeKey). StayAll recs kept (types_of_key y)) same (subst (StayAll recs kept) (types_are (TypeExpr-F.Def t) e is) stay)
  key_in e (TypeExpr-F.Prim n) k is h stay =
      let m = map_some named (prim_type recs n) k h in
      subst (λ (y : TypeKey). StayAll recs kept (types_of_key y)) m.2 (all_one (Stays recs kept) m.0 (prim_stays recs kept n m.0 m.1))
  key_in e (TypeExpr-F.Inst t args) k is h stay = let same : spec (made_sig recs e) ≡ k = cc in subst (λ (y : TypeKey). StayAll recs kept (types_of_key y)) same (spec_stays e stay)
  key_in e (TypeExpr-F.Array x) k is h stay = let same : spec (made_sig recs e) ≡ k = cc in subst (λ (y : TypeKey). StayAll recs kept (types_of_key y)) same (spec_stays e stay)
  key_in e (TypeExpr-F.ByRef x) k is h stay = let same : spec (made_sig recs e) ≡ k = cc in subst (λ (y : TypeKey). StayAll recs kept (types_of_key y)) same (spec_stays e stay)
  key_in e (TypeExpr-F.Var n) k is h stay = let same : spec (made_sig recs e) ≡ k = cc in subst (λ (y : TypeKey). StayAll recs kept (types_of_key y)) same (spec_stays e stay)
  key_in e (TypeExpr-F.MVar n) k is h stay = let same : spec (made_sig recs e) ≡ k = cc in subst (λ (y : TypeKey). StayAll recs kept (types_of_key y)) same (spec_stays e stay)
  key_in e (TypeExpr-F.Mod required by x) k is h stay = let same : spec (made_sig recs e) ≡ k = cc in subst (λ (y : TypeKey). StayAll recs kept (types_of_key y)) same (spec_stays e stay)

  -- the types of an owner that names types that stay
  pub owner_stays : (e : TypeExpr) → Stay recs kept e → StayAll recs kept (types_of_owner recs e)
  unfolding expr_key
  owner_stays e h = all_option (Stays recs kept) types_of_key (expr_key recs e) (λ k is. key_in e (out-TypeExpr e) k (roll-out-TypeExpr e) is h)
