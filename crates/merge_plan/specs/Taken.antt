-- Full names that are taken: the old ones of kept top-level types, and the new ones.
use Rattle.std.specs.Prelude.{◌≡◌, ℕ, Bool, List, bytes_eq}
use Rattle.std.specs.List.{list_any}
use Rattle.il_base.specs.declared.world_model.record.AsmRec.{AsmRec}
use Rattle.rules.specs.declared.link_rules.row_at.RowAt.{RowAt}
use Rattle.rules.specs.merge_rules.Names.{NewName, has_name}
use Rattle.merge_plan.specs.declared.taken.Taken.{Taken}

abbrev pub has_in : Taken → List ℕ → Bool
has_in taken name = list_any (λ other. bytes_eq name other.items) taken.names.keys

-- the taken names are those of these kept types, and those of these new names
abbrev pub AreTaken : List AsmRec → List RowAt → List NewName → Taken → Type 0
AreTaken recs kept names taken = (full : List ℕ) → has_in taken full ≡ has_name recs kept names full
