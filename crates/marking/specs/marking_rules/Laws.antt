-- The laws of the two lists: they have the facts that follow from each fact.
use Rattle.std.specs.Prelude.{ℕ, List, Bool, ◌⊎◌, ◌↔◌}
use Rattle.std.specs.List.{Contains}
use Rattle.il_base.specs.declared.world_model.world.World.{World}
use Rattle.descriptor_file.specs.declared.root.Root.{Root}
use Rattle.closure.specs.Facts.{IsWithin}
use Rattle.mark_numbers.specs.mark_laws.Brings.{Brings}
use Rattle.marking.specs.marking_rules.Lists.{alone_list, joined_list}

abbrev pub ListsBring : Type 0
ListsBring = (w : World) (roots : List Root) (have : ℕ → Bool) (n c : ℕ) → Contains (alone_list w roots n) c ⊎ Contains (joined_list w have n) c ↔ Brings w roots have n c

-- where more facts are known, no fewer follow
abbrev pub JoinedMore : Type 0
JoinedMore = (w : World) (few many : ℕ → Bool) (n c : ℕ) → IsWithin few many → Contains (joined_list w few n) c → Contains (joined_list w many n) c
