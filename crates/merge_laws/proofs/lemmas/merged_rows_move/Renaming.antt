-- A kept type whose text can be printed keeps its name where none of them collides.
use Rattle.std.proofs.Common.{◌≡◌, Bool, true, false, cond, List, [], ◌∷◌, ◌++◌, Option, Some, None, refl, sym, ap, ◌∙◌}
use Rattle.std.specs.Prelude.{find, ◌||◌, if◌then◌else◌}
use Rattle.std.specs.Option.{option_and_then}
use Rattle.il_base.specs.declared.ids.TypeId.{TypeId}
use Rattle.il_base.specs.declared.world_model.record.AsmRec.{AsmRec}
use Rattle.il_base.specs.world_model.Worlds.{type_id}
use Rattle.rules.specs.declared.link_rules.row_at.RowAt.{RowAt}
use Rattle.rules.specs.link_rules.Cycles.{same_row}
use Rattle.rules.specs.merge_rules.Names.{NewName, rival, named_by, fresh_name, names_from, new_names, is_public, Collision, collides, or_later, collision_from, collision}
use Rattle.rules.specs.merge_rules.Moved.{is_renamed}
use Rattle.merge_laws.proofs.lemmas.merged_places.Rows.{rows_one}

-- ---- a search that finds nothing

found_by : {A : Type 0} (t : A → Bool) (x : A) (rest more : Option A) (b : Bool) → cond b (Some x) rest ≡ None → (rest ≡ None → more ≡ None) → cond b (Some x) more ≡ None
found_by t x rest more true e h = absurd (cc)
found_by t x rest more false e h = h e

one_by : {A : Type 0} (x : A) (b : Bool) → b ≡ false → cond b (Some x) None ≡ None
one_by x true e = absurd (cc)
one_by x false e = refl

still_none : {A : Type 0} (t : A → Bool) (xs : List A) (y : A) → find t xs ≡ None → t y ≡ false → find t (xs ++ y ∷ []) ≡ None
still_none t [] y none e = one_by y (t y) e
still_none t (x ∷ xs) y none e = found_by t x (find t xs) (find t (xs ++ y ∷ [])) (t x) none (λ g. still_none t xs y g e)

-- ---- no collision

later_none : (a b : Option Collision) → or_later a b ≡ None → (a ≡ None) × (b ≡ None)
later_none None b e = (refl, e)
later_none (Some c) b e = absurd (cc)

if_none : {A : Type 0} (b : Bool) (x : A) → (if b then Some x else None) ≡ None → b ≡ false
if_none true x e = absurd (cc)
if_none false x e = refl

or_none : (a b : Bool) → (a || b) ≡ false → b ≡ false
or_none true b e = absurd (cc)
or_none false b e = e

module _ (recs : List AsmRec) (shown : TypeId → Bool) (kept : List RowAt) (at : RowAt) (seen : shown (type_id recs at.asm at.row) ≡ true) where
  differs : (x : RowAt) (b : Bool) → shown (type_id recs x.asm x.row) ≡ false → same_row at x ≡ b → b ≡ false
  differs x true e t = let bad : true ≡ false = sym seen ∙ ap (λ (y : RowAt). shown (type_id recs y.asm y.row)) (rows_one at x t) ∙ e in absurd (cc)
  differs x false e t = refl

  named_step : (names : List NewName) (x : RowAt) (o : Option RowAt) → option_and_then (collides recs shown x) o ≡ None → find (is_renamed at) names ≡ None → find (is_renamed at) (named_by recs kept names x o) ≡ None
  named_step names x None apart none = none
  named_step names x (Some r) apart none =
      let hidden = or_none (is_public recs x) (shown (type_id recs x.asm x.row)) (if_none (is_public recs x || shown (type_id recs x.asm x.row)) (record { first = r; second = x }) apart) in
      still_none (is_renamed at) names (record { typ = x; name = fresh_name recs kept names x }) none (differs x (same_row at x) hidden refl)

  never_named : (earlier rest : List RowAt) (names : List NewName) → collision_from recs shown earlier rest ≡ None → find (is_renamed at) names ≡ None → find (is_renamed at) (names_from recs kept earlier names rest) ≡ None
  never_named earlier [] names apart none = none
  never_named earlier (x ∷ rest) names apart none =
      let both = later_none (option_and_then (collides recs shown x) (rival recs earlier x)) (collision_from recs shown (earlier ++ x ∷ []) rest) apart in
      never_named (earlier ++ x ∷ []) rest (named_by recs kept names x (rival recs earlier x)) both.1 (named_step names x (rival recs earlier x) both.0 none)

  pub keeps_name : collision recs shown kept ≡ None → find (is_renamed at) (new_names recs kept) ≡ None
  unfolding collision new_names
  keeps_name apart = never_named [] kept [] apart refl
