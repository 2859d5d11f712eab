-- A world and the elements of descriptors.
use Rattle.std.specs.Prelude.{List}
use Rattle.il_base.specs.declared.world_model.record.AsmRec.{AsmRec}
use Rattle.descriptor_file.specs.declared.root.Root.{Root}

pub record Described : Type 0 where
  pub recs : List AsmRec
  pub roots : List Root
