-- What marked rows lead to is marked, in a world of files that link.
use Rattle.std.specs.Prelude.{◌≡◌, List, Option, None, Bool}
use Rattle.il_base.specs.declared.world_model.record.AsmRec.{AsmRec}
use Rattle.rules.specs.declared.link_rules.row_at.RowAt.{RowAt}
use Rattle.rules.specs.link_rules.Linked.{assemblies, link_fault_of}
use Rattle.descriptor_file.specs.declared.root.Root.{Root}
use Rattle.rules.specs.mark_rules.Facts.{Fact}
use Rattle.rules.specs.world_change_rules.Kept.{KeepsRows}
use Rattle.run_laws.specs.dispatch_laws.Kept.{KeepsImpls}
use Rattle.run_laws.specs.subtype_laws.Gone.{KeepsImplied}
use Rattle.run_laws.specs.marked_laws.Flags.{HasMarks, keep_of, kept_of, RunsEnd, NestsWithin}

abbrev pub ForMarked : ((recs : List AsmRec) (has : Fact → Bool) → Type 0) → Type 0
ForMarked P =
    (inputs : List AsmRec) (entry : Option RowAt) (roots : List Root) (has : Fact → Bool) → link_fault_of inputs ≡ None → HasMarks (assemblies inputs) entry roots has → P (assemblies inputs) has

abbrev pub MarkedRows : Type 0
MarkedRows = ForMarked (λ recs has. RunsEnd recs → NestsWithin recs → KeepsRows (keep_of recs has) (kept_of recs has) recs)

abbrev pub MarkedInterfaces : Type 0
MarkedInterfaces = ForMarked (λ recs has. KeepsImplied (keep_of recs has) (kept_of recs has) recs)

abbrev pub MarkedImpls : Type 0
MarkedImpls = ForMarked (λ recs has. KeepsImpls (keep_of recs has) recs)
