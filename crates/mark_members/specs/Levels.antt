-- Types that are still to be visited, the last one first.
use Rattle.std.specs.Prelude.{ℕ, zero, suc, ◌+◌, List, [], ◌∷◌, ◌++◌}
use Rattle.std.specs.List.{sum_by}
use Rattle.il_base.specs.declared.ids.Item.{Item}
use Rattle.il_base.specs.declared.world_model.record.AsmRec.{AsmRec}
use Rattle.rules.specs.declared.link_rules.row_at.RowAt.{RowAt}
use Rattle.rules.specs.mark_rules.Members.{nested_in, whole_within}
use Rattle.mark_members.specs.declared.levels.Level.{Level}

abbrev pub level : ℕ → RowAt → Level
level n at = record { at = at; levels = n }

-- types as they are put at the end, the last one first
unfoldable pub pushed : ℕ → List RowAt → List Level
pushed n [] = []
pushed n (at ∷ ats) = pushed n ats ++ level n at ∷ []

-- all that these types hold, with the types nested in them
unfoldable pub left_items : List AsmRec → List Level → List Item
left_items recs [] = []
left_items recs (l ∷ ls) = left_items recs ls ++ whole_within recs l.levels l.at

-- the number of types that are visited for a type, at most so many levels deep
unfoldable pub size_within : List AsmRec → ℕ → RowAt → ℕ
size_within recs zero at = 1
size_within recs (suc n) at = suc (sum_by (size_within recs n) (nested_in recs at))

unfoldable pub total : List AsmRec → List Level → ℕ
total recs [] = 0
total recs (l ∷ ls) = total recs ls + size_within recs l.levels l.at
