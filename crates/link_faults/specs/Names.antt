-- The first duplicate name of an assembly, with a test for the names that were met.
use Rattle.std.specs.Prelude.{ℕ, suc, List, [], ◌∷◌, Bool, true, ◌||◌, Option, Some, None, if◌then◌else◌}
use Rattle.il_base.specs.declared.world_model.record.AsmRec.{AsmRec}
use Rattle.il_base.specs.world_model.Core.{same_name, is_core_name}
use Rattle.rules.specs.declared.link_rules.link_error.LinkError.{LinkError}
use Rattle.rules.specs.declared.link_rules.link_error.LinkError.TheVariants as fault
use Rattle.rules.specs.link_rules.Faults.{own_name}

abbrev pub taken_by : (List ℕ → Bool) → ℕ → List AsmRec → Option LinkError
taken_by met i [] = None
taken_by met i (rec ∷ recs) =
    if is_core_name (own_name rec) || met (own_name rec) then Some (fault.Bad i 14 0)
    else taken_by (λ name. if same_name (own_name rec) name then true else met name) (suc i) recs
