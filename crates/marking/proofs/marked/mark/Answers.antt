use Rattle.std.proofs.Common.{List, subst}
use Rattle.il_base.specs.declared.world_model.record.AsmRec.{AsmRec}
use Rattle.mark_numbers.specs.Starts.{AreStarts}
use Rattle.mark_parts.specs.mark_tables.Assemblies.{all_of}
use Rattle.marking.proofs.Numbered.{is_marked}
use Rattle.marking.proofs.marked.mark.Goals as goal

pub returns : goal.returns
returns g c =
    let starts = c.in_ok-starts.starts in
    is_marked (all_of c.args.marker.now) starts (subst (λ (rs : List AsmRec). AreStarts rs starts) c.as_slice.ensures c.in_ok-starts.ensures) c.args.entry (g.N.NamedRules.roots_of c.args.named.now)
    c.in_ok-set.set c.in_ok-set.ensures
