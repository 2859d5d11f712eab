use Rattle.std.proofs.Common.{ℕ, Option, sym, subst}
use Rattle.rules.specs.mark_rules.Marking.{Marks}
use Rattle.rules.specs.mark_rules.NotYet.{IsFirstNotYet}
use Rattle.mark_parts.specs.mark_tables.Assemblies.{all_of}
use Rattle.bad_items.proofs.Waiting.{first}
use Rattle.bad_items.proofs.not_yet.first_not_yet.Goals as goal

pub returns : goal.returns
returns c = λ entry roots is.
    let recs = all_of c.args.marker.now in
    subst (λ (asm : Option ℕ). IsFirstNotYet recs (Marks recs entry roots) asm) (sym c.in_ok-asm.ensures) (first recs entry roots c.args.marked.now is)
