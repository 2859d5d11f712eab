-- What was found of all that is carried.
use Rattle.std.specs.Prelude.{◌≡◌, ℕ, true, Bool, ◌&&◌, nat_lt, ◌↔◌}
use Rattle.closure.specs.Facts.{facts_in}
use Rattle.value_flow.specs.declared.slot_flow.moves.Flowing.{Flowing}
use Rattle.value_flow.specs.declared.slot_flow.walks.Reached.{Reached}
use Rattle.rules.specs.flow_rules.Carrying.{Carried}
use Rattle.value_flow.specs.slot_flow.Facts.{flow_in, number}

-- whether a source is found in a slot at an instruction
abbrev pub is_found : Reached → ℕ → ℕ → ℕ → Bool
is_found r at slot source =
    nat_lt at r.places && nat_lt slot r.slots && nat_lt source r.count && facts_in r.bits (number r.slots r.count at slot source)

-- exactly what is carried
pub record IsReached (f : Flowing) (r : Reached) : Type 0 where
  pub slots : r.slots ≡ f.slots
  pub count : r.count ≡ f.count
  pub exact : (i slot s : ℕ) → is_found r i slot s ≡ true ↔ Carried ℕ (flow_in f) i slot s
