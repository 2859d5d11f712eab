-- The facts that follow from the fact with a number, as numbers of facts that are there.
use Rattle.std.specs.Prelude.{ℕ, List, Bool}
use Rattle.std.specs.List.{flat_map}
use Rattle.il_base.specs.declared.world_model.record.AsmRec.{AsmRec}
use Rattle.il_base.specs.declared.world_model.world.World.{World}
use Rattle.descriptor_file.specs.declared.root.Root.{Root}
use Rattle.rules.specs.link_rules.Cycles.{listed}
use Rattle.rules.specs.mark_rules.Facts.{Fact}
use Rattle.rules.specs.mark_rules.Marking.{one}
use Rattle.mark_numbers.specs.Numbers.{number_there, fact_numbered}
use Rattle.base_laws.specs.known_laws.Known.{fact_with}
use Rattle.marking.specs.mark_known.Facts.{known_in}

abbrev pub number_list : List AsmRec → Fact → List ℕ
number_list recs f = listed (number_there recs f)

abbrev pub numbers_in : List AsmRec → List Fact → List ℕ
numbers_in recs fs = flat_map (number_list recs) fs

abbrev pub alone_by : List AsmRec → List Root → Fact → List ℕ
alone_by recs roots a = numbers_in recs (one recs roots a)

abbrev pub joined_by : List AsmRec → (ℕ → Bool) → Fact → List ℕ
joined_by recs have a = numbers_in recs (fact_with recs (known_in recs have) a)

-- the numbers that follow from one number alone
abbrev pub alone_list : World → List Root → ℕ → List ℕ
alone_list w roots n = flat_map (alone_by w.recs roots) (listed (fact_numbered w n))

-- the numbers that follow from one number with the facts of a set
abbrev pub joined_list : World → (ℕ → Bool) → ℕ → List ℕ
joined_list w have n = flat_map (joined_by w.recs have) (listed (fact_numbered w n))
