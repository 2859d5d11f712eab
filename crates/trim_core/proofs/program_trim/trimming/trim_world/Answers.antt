use Rattle.std.proofs.Common.{Option, sym, subst}
use Rattle.std.specs.Option.{option_map}
use Rattle.rules.specs.mark_rules.Marking.{Marks}
use Rattle.rules.specs.mark_rules.BadItems.{IsFirstFlaw}
use Rattle.bad_items.specs.declared.mark_flaws.flaw.Flaw.{Flaw}
use Rattle.bad_items.specs.mark_flaws.Told.{flaw_told}
use Rattle.trim_core.specs.declared.program_trim.answers.TrimFault.{TrimFault}
use Rattle.trim_core.specs.program_trim.Trim.{IsFlawedAt, RefusesWorld}
use Rattle.trim_core.specs.program_trim.Programs.{place_of}
use Rattle.trim_core.proofs.lemmas.program_trim.Joined.{refused}
use Rattle.trim_core.proofs.program_trim.trimming.trim_world.Goals as goal

pub returns-in-Some : goal.returns-in-Some
returns-in-Some c =
    let recs = c.args.world.now.recs in
    let entry = c.args.entry in
    let roots = c.args.roots.now in
    let flaw = c.in-Some.flaw in
    let first : IsFlawedAt recs entry roots (place_of flaw) flaw.kind =
    subst (λ (f : Option Flaw). IsFirstFlaw recs entry (Marks recs entry roots) (option_map flaw_told f)) c.in-Some.is (c.in_ok-needs.ensures.flaw c.requires.there) in
    subst (λ (e : TrimFault). RefusesWorld recs entry roots c.args.internal e) (sym c.refusal_of.ensures)
    (refused recs entry roots c.args.internal (place_of flaw) flaw.kind first)
