-- A merge that keeps exactly what is marked, of files that link, where nothing that is marked has a flaw, and the file of what is left
-- passes no limit.
use Rattle.std.specs.Prelude.{◌≡◌, ◌↔◌, List, Option, None, Bool, false, not, ◌||◌, IsTrue, if◌then◌else◌}
use Rattle.std.specs.List.{list_any}
use Rattle.std.specs.Option.{is_some}
use Rattle.il_base.specs.declared.ids.Item.TheVariants as item
use Rattle.descriptor_file.specs.declared.root.Root.{Root}
use Rattle.rules.specs.declared.link_rules.row_at.RowAt.{RowAt}
use Rattle.rules.specs.link_rules.Members.{type_home}
use Rattle.rules.specs.link_rules.Cycles.{listed}
use Rattle.rules.specs.mark_rules.Facts.{Fact}
use Rattle.rules.specs.mark_rules.Facts.Fact.{marked}
use Rattle.rules.specs.mark_rules.Marking.{Marks}
use Rattle.rules.specs.mark_rules.BadItems.{IsFirstFlaw}
use Rattle.mark_numbers.specs.Numbers.{is_there}
use Rattle.rules.specs.record_layout.Limits.{limit_of}
use Rattle.run_laws.specs.marked_laws.Flags.{is_added}
use Rattle.merge_laws.specs.merged_owners.Laws.{AreMarked, AreKept}
use Rattle.merge_laws.specs.merged_loads.Laws.{AreOfFiles}
use Rattle.rules.specs.merged_world_rules.Merge.{Merge, IsMerge, before}
use Rattle.rules.specs.merged_world_rules.NewNumbers.{type_core}

pub record IsMarkedMerge (m : Merge) (entry : Option RowAt) (roots : List Root) : Type 0 where
  pub merge : IsMerge m
  pub files : AreOfFiles m.inputs
  pub marked : AreMarked (before m) entry roots m.kept
  pub all : AreKept (before m) entry roots m.kept
  pub good : IsFirstFlaw (before m) entry (Marks (before m) entry roots) None
  pub within : limit_of m.left ≡ None

-- ---- flags of facts

-- flags that are exact for facts whose item or type is there
abbrev pub AreFacts : Merge → Option RowAt → List Root → (Fact → Bool) → Type 0
AreFacts m entry roots holds = (f : Fact) → IsTrue (is_there (before m) f) → IsTrue (holds f) ↔ Marks (before m) entry roots f

-- whether the output's world has the type of the core library that a fact is of
abbrev pub stays_there : Merge → Fact → Bool
stays_there m (marked (item.Typ t)) = list_any (λ (at : RowAt). is_some ((type_core m).to at.row)) (listed (type_home (before m) t))
stays_there m _ = false

-- A flag for each fact. One of a name that only modifiers use (II.7.1.1) says whether the output's world has it; of what isn't there each is set.
unfoldable pub flags_of : Merge → (Fact → Bool) → Fact → Bool
flags_of m holds f = if is_added (before m) f then stays_there m f else not (is_there (before m) f) || holds f
