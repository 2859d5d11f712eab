use Rattle.std.proofs.Common.{List, sym, ap, ◌∙◌}
use Rattle.il_base.specs.declared.world_model.record.AsmRec.{AsmRec}
use Rattle.rules.specs.mark_rules.Places.{row_of}
use Rattle.mark_dependencies.specs.Lookups.{recs_in}
use Rattle.mark_dependencies.proofs.Needing.{one_needed, none_needed}
use Rattle.mark_dependencies.proofs.dependencies.add_dependency_needs.Goals as goal

pub returns-in_ok-add_dependency_facts-in-Some : goal.returns-in_ok-add_dependency_facts-in-Some
returns-in_ok-add_dependency_facts-in-Some c =
    one_needed (recs_in c.args.lookup.now) c.args.item c.in-Some.at c.as_slice-listed.result.now _ c.args.facts.now
    (sym c.in-Some.is ∙ c.in_ok-found.ensures ∙ ap (λ (recs : List AsmRec). row_of recs c.args.item) c.as_slice-all.ensures) (c.as_slice-listed.ensures ∙ c.requires.needed)
    c.in_ok-add_dependency_facts-in-Some.ensures

pub returns-in-None : goal.returns-in-None
returns-in-None c =
    none_needed (recs_in c.args.lookup.now) c.args.item c.args.facts.now
    (sym c.in-None.is ∙ c.in_ok-found.ensures ∙ ap (λ (recs : List AsmRec). row_of recs c.args.item) c.as_slice-all.ensures)
