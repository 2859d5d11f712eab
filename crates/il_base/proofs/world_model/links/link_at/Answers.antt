use Rattle.std.proofs.Common.{◌<◌, ◌≤◌, length, sym, refl, ◌∙◌, arith}
use Rattle.std.proofs.lemmas.Option.{slice_get_past, slice_get_read}
use Rattle.il_base.proofs.lemmas.world_model.Linked.{no_assembly, in_assembly}
use Rattle.il_base.proofs.world_model.links.link_at.Goals as goal

pub returns-in-None : goal.returns-in-None
returns-in-None g c =
    let h : length c.args.recs.now ≤ c.args.a.0 = omega (arith, c.in-None.ensures.lookup) in
    sym (no_assembly c.args.kind c.args.recs.now c.args.links.now c.args.a.0 c.args.token (slice_get_past c.args.recs.now c.args.a.0 h))

pub returns-in-Some : goal.returns-in-Some
returns-in-Some g c =
    let h : c.args.a.0 < length c.args.recs.now = omega (arith, c.in-Some.ensures.lookup) in
    let found = slice_get_read c.args.recs.now (length c.args.recs.now) c.args.a.0 c.in-Some.rec.now refl h c.in-Some.ensures.lookup.1 in
    rw c.behind_all.ensures at c.among.ensures ∙ in_assembly c.args.kind c.args.recs.now c.args.links.now c.args.a.0 c.args.token c.in-Some.rec.now found
