-- What is kept of the type definitions of some assemblies, by their ids.
use Rattle.std.proofs.Common.{◌≡◌, ◌<◌, ◌≤◌, ℕ, suc, ◌+◌, ◌-◌, Bool, true, false, nat_lt, List, [], ◌∷◌, ◌++◌, Some, refl, ap, ◌∙◌, arith, rules}
use Rattle.std.specs.Prelude.{slice_get, if◌then◌else◌}
use Rattle.std.specs.Option.{option_map}
use Rattle.il_base.specs.declared.ids.TypeId.{TypeId}
use Rattle.il_base.specs.declared.world_model.record.AsmRec.{AsmRec}
use Rattle.il_base.specs.world_model.Worlds.{types_in}
use Rattle.rules.specs.link_rules.Types.{at_row}
use Rattle.rules.specs.link_rules.Members.{home_from}
use Rattle.base_laws.proofs.lemmas.link_laws.Lists.{get_front, get_range, length_range}
use Rattle.base_laws.proofs.lemmas.world_laws.Found.{get_after}
use Rattle.cil_world.specs.world_layouts.Kinds.{kind_at, kinds_in, kinds_from}
use Rattle.cil_world.specs.world_layouts.Settled.{kind_of}

module _ (all : List AsmRec) where
  kept_by : (rec : AsmRec) (recs : List AsmRec) (a n : ℕ) (b : Bool) → nat_lt n (types_in rec) ≡ b
      → slice_get (kinds_from all (suc a) recs) (n - types_in rec) ≡ option_map (kind_at all) (home_from types_in (suc a) recs (n - types_in rec))
      → slice_get (kinds_in all a rec ++ kinds_from all (suc a) recs) n ≡ option_map (kind_at all) (if b then Some (at_row a n) else home_from types_in (suc a) recs (n - types_in rec))
  kept_by rec recs a n true is more =
      let lt : n < types_in rec = search rules in
      let long = length_range (λ k. kind_at all (at_row a k)) (types_in rec) 0 in
      get_front (kinds_in all a rec) (kinds_from all (suc a) recs) n (omega arith)
      ∙ get_range (λ k. kind_at all (at_row a k)) (types_in rec) 0 n n (omega arith) lt
  kept_by rec recs a n false is more =
      let ge : types_in rec ≤ n = search rules in
      let place : n ≡ types_in rec + (n - types_in rec) = omega arith in
      ap (slice_get (kinds_in all a rec ++ kinds_from all (suc a) recs)) place
      ∙ get_after (kinds_in all a rec) (kinds_from all (suc a) recs) (types_in rec) (n - types_in rec) (length_range (λ k. kind_at all (at_row a k)) (types_in rec) 0)
      ∙ more

  kept_from : (recs : List AsmRec) (a n : ℕ) → slice_get (kinds_from all a recs) n ≡ option_map (kind_at all) (home_from types_in a recs n)
  unfolding home_from kinds_from
  kept_from [] a n = refl
  kept_from (rec ∷ recs) a n = kept_by rec recs a n (nat_lt n (types_in rec)) refl (kept_from recs (suc a) (n - types_in rec))

-- the kind of a type
pub kept : (recs : List AsmRec) (t : TypeId) → slice_get (kinds_from recs 0 recs) t.0 ≡ kind_of recs t
kept recs t = kept_from recs recs 0 t.0
