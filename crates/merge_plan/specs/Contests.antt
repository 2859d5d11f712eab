-- Contests: types with the full name of an earlier type of another assembly, in order; the new names and the first collision that
-- they make.
use Rattle.std.specs.Prelude.{◌||◌, Bool, List, [], ◌∷◌, ◌++◌, map, find, Option}
use Rattle.std.specs.Option.{option_map}
use Rattle.il_base.specs.declared.bits.Bits.{Bits}
use Rattle.il_base.specs.declared.ids.TypeId.{TypeId}
use Rattle.il_base.specs.declared.world_model.record.AsmRec.{AsmRec}
use Rattle.il_base.specs.world_model.Worlds.{type_id}
use Rattle.rules.specs.declared.link_rules.row_at.RowAt.{RowAt}
use Rattle.rules.specs.link_rules.Cycles.{listed}
use Rattle.rules.specs.merge_rules.Names.{NewName, Collision, rival, fresh_name, is_public}
use Rattle.merge_plan.specs.declared.contests.Contest.{Contest}
use Rattle.merge_plan.specs.Kept.{has_flag}

abbrev pub contest : RowAt → RowAt → Contest
contest at r = record { first = r; second = at }

abbrev pub contests_of : List AsmRec → List RowAt → RowAt → List Contest
contests_of recs earlier at = map (contest at) (listed (rival recs earlier at))

abbrev pub contests_from : List AsmRec → List RowAt → List RowAt → List Contest
contests_from recs earlier [] = []
contests_from recs earlier (at ∷ rest) = contests_of recs earlier at ++ contests_from recs (earlier ++ at ∷ []) rest

-- the new names of these types, after those that there are
abbrev pub names_by : List AsmRec → List RowAt → List NewName → List Contest → List NewName
names_by recs kept names [] = names
names_by recs kept names (c ∷ cs) =
    names_by recs kept (names ++ record { typ = c.second; name = fresh_name recs kept names c.second } ∷ []) cs

-- the shown types, by a flag for each id
abbrev pub shown_by : Bits → TypeId → Bool
shown_by bits t = has_flag bits t.0

-- a type that can't be renamed
abbrev pub is_refused : List AsmRec → (TypeId → Bool) → Contest → Bool
is_refused recs shown c = is_public recs c.second || shown (type_id recs c.second.asm c.second.row)

abbrev pub collision_of : Contest → Collision
collision_of c = record { first = c.first; second = c.second }

abbrev pub collision_by : List AsmRec → (TypeId → Bool) → List Contest → Option Collision
collision_by recs shown cs = option_map collision_of (find (is_refused recs shown) cs)
