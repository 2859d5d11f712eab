-- The demands on an image as demands on an assembly.
use Rattle.std.proofs.Common.{◌≡◌, Bool, true, false, cond, List, [], ◌∷◌, Option, Some, refl}
use Rattle.std.specs.Prelude.{map}
use Rattle.std.specs.Option.{option_map}
use Rattle.il_base.specs.declared.ids.BadAt.{BadAt}
use Rattle.il_base.specs.declared.cli_format.error.TablesError.{TablesError}
use Rattle.il_base.specs.declared.cli_format.error.TablesError.TheVariants.{Bad}
use Rattle.il_base.specs.cli_format.Demand.{Demand, first_fault}
use Rattle.rules.specs.record_format.Record.{as_demand}

map_step : (b : Bool) (e : BadAt) (f : Option BadAt) (g : Option TablesError) → g ≡ option_map (λ e. Bad e) f → cond b g (Some (Bad e)) ≡ option_map (λ e. Bad e) (cond b f (Some e))
map_step true e f g p = p
map_step false e f g p = refl

pub mapped_fault : (ds : List (Demand BadAt)) → first_fault (map as_demand ds) ≡ option_map (λ e. Bad e) (first_fault ds)
unfolding first_fault
mapped_fault [] = refl
mapped_fault (d ∷ ds) = map_step d.holds d.refusal (first_fault ds) (first_fault (map as_demand ds)) (mapped_fault ds)

pub ruleset mapped = (mapped_fault)
