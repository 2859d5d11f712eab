-- New names and the first collision by the types that need a new name.
use Rattle.std.proofs.Common.{◌≡◌, List, [], ◌∷◌, ◌++◌, map, Bool, true, false, cond, Option, Some, None, refl, ap, ◌∙◌}
use Rattle.std.specs.Prelude.{find, if◌then◌else◌}
use Rattle.std.specs.Option.{option_map, option_and_then}
use Rattle.il_base.specs.declared.ids.TypeId.{TypeId}
use Rattle.il_base.specs.declared.world_model.record.AsmRec.{AsmRec}
use Rattle.rules.specs.declared.link_rules.row_at.RowAt.{RowAt}
use Rattle.rules.specs.link_rules.Cycles.{listed}
use Rattle.rules.specs.merge_rules.Names.{NewName, rival, named_by, names_from, new_names, collides, or_later, collision_from, collision}
use Rattle.merge_plan.specs.declared.contests.Contest.{Contest}
use Rattle.merge_plan.specs.Contests.{contest, contests_from, names_by, is_refused, collision_of, collision_by}

-- ---- names

named_once : (recs : List AsmRec) (kept : List RowAt) (names : List NewName) (at : RowAt) (o : Option RowAt) (cs : List Contest)
    → names_by recs kept names (map (contest at) (listed o) ++ cs) ≡ names_by recs kept (named_by recs kept names at o) cs
named_once recs kept names at None cs = refl
named_once recs kept names at (Some r) cs = refl

names_are : (recs : List AsmRec) (kept earlier : List RowAt) (names : List NewName) (rest : List RowAt)
    → names_by recs kept names (contests_from recs earlier rest) ≡ names_from recs kept earlier names rest
names_are recs kept earlier names [] = refl
names_are recs kept earlier names (at ∷ rest) =
    named_once recs kept names at (rival recs earlier at) (contests_from recs (earlier ++ at ∷ []) rest)
    ∙ names_are recs kept (earlier ++ at ∷ []) (named_by recs kept names at (rival recs earlier at)) rest

pub all_names : (recs : List AsmRec) (kept : List RowAt) → names_by recs kept [] (contests_from recs [] kept) ≡ new_names recs kept
unfolding new_names
all_names recs kept = names_are recs kept [] [] kept

-- ---- collisions

module _ (recs : List AsmRec) (shown : TypeId → Bool) where
  refused_or : (b : Bool) (c : Contest) (rest : Option Contest) → option_map collision_of (cond b (Some c) rest) ≡ or_later (if b then Some (collision_of c) else None) (option_map collision_of rest)
  refused_or true c rest = refl
  refused_or false c rest = refl

  refused_once : (at : RowAt) (o : Option RowAt) (cs : List Contest)
      → collision_by recs shown (map (contest at) (listed o) ++ cs) ≡ or_later (option_and_then (collides recs shown at) o) (collision_by recs shown cs)
  refused_once at None cs = refl
  refused_once at (Some r) cs = refused_or (is_refused recs shown (contest at r)) (contest at r) (find (is_refused recs shown) cs)

  collisions_are : (earlier rest : List RowAt) → collision_by recs shown (contests_from recs earlier rest) ≡ collision_from recs shown earlier rest
  collisions_are earlier [] = refl
  collisions_are earlier (at ∷ rest) =
      refused_once at (rival recs earlier at) (contests_from recs (earlier ++ at ∷ []) rest)
      ∙ ap (or_later (option_and_then (collides recs shown at) (rival recs earlier at))) (collisions_are (earlier ++ at ∷ []) rest)

  pub first_collision : (kept : List RowAt) → collision_by recs shown (contests_from recs [] kept) ≡ collision recs shown kept
  unfolding collision
  first_collision kept = collisions_are [] kept
