use Rattle.mark_parts.specs.mark_tables.Assemblies.{all_of}
use Rattle.requirements.specs.generic_sites.Asked.{target_of, asked_kinds}
use Rattle.requirements.proofs.lemmas.generic_sites.Looping.{one_more}
use Rattle.requirements.proofs.generic_sites.arguments.+arguing.Goals as goal

pub put_all-loop-i-preserved : goal.put_all-loop-i-preserved
put_all-loop-i-preserved t c =
    let recs = all_of c.args.annotated.now.marker.now in
    one_more recs c.args.within.owner c.args.within.place (target_of c.args.generic) (asked_kinds recs c.args.generic) c.args.args.now c.loop-i.i _ c.loop-i.sites c.put_asked.new.sites c.put_type.new.sites _
    c.loop-i-test.true c.index-args-i.is c.in_ok-put_asked.ensures c.in_ok-put_type.ensures c.loop-i.invariant
