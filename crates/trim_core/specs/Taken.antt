-- Files, and the world that they were taken as.
use Rattle.std.specs.Prelude.{◌≡◌, ℕ, List, Some, None, slice_get}
use Rattle.il_base.specs.blob_grammar.Laws.{AreBytes}
use Rattle.il_base.specs.declared.world_model.world.World.{World}
use Rattle.rules.specs.link_rules.Linked.{world_of}
use Rattle.inputs.specs.Files.{input_fault, records}

-- the world of files that no limit and no demand refuses
pub record IsTaken (files : List (List ℕ)) (w : World) : Type 0 where
  pub sound : input_fault files ≡ None
  pub world : w ≡ world_of (records files)

-- each file is bytes
abbrev pub Bytes : List (List ℕ) → Type 0
Bytes files = (a : ℕ) (f : List ℕ) → slice_get files a ≡ Some f → AreBytes f
