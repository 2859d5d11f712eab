-- What files were taken as.
use Rattle.std.specs.Prelude.{◌≡◌, ℕ, List, None}
use Rattle.il_base.specs.declared.world_model.world.World.{World}
use Rattle.rules.specs.link_rules.Linked.{world_of}
use Rattle.inputs.specs.Files.{input_fault, records}

-- the world of files that no limit and no demand refuses
pub record IsTaken (files : List (List ℕ)) (w : World) : Type 0 where
  pub sound : input_fault files ≡ None
  pub world : w ≡ world_of (records files)
