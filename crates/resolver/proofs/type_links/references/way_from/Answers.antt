use Rattle.std.proofs.Common.{◌∙◌, ◌+◌, ◌-◌, ap, sym, List, length, map, arith}
use Rattle.std.proofs.lemmas.List.{map_push}
use Rattle.il_base.specs.declared.world_model.types.TypeRefRow.{TypeRefRow}
use Rattle.rules.specs.link_rules.Types.{ref_type}
use Rattle.resolver.specs.type_links.References.{come_down}
use Rattle.resolver.proofs.lemmas.type_links.Walks.{named_lost, named_top, named_nested, named_end, come_push}
use Rattle.resolver.proofs.type_links.references.way_from.Goals as goal

pub returns-in-None : goal.returns-in-None
returns-in-None c = λ all a.
    let rows = length c.args.rec.now.type_ref in
    c.loop.invariant all a ∙ ap (come_down all (map (λ row. row.now) c.loop.nested.items))
    (named_lost all a c.args.rec.now (rows - c.loop.counter) (rows - (c.loop.counter + 1)) c.loop.at (omega arith) c.in-None.ensures.value)

pub returns-in-None-index_in : goal.returns-in-None-index_in
returns-in-None-index_in c = λ all a.
    let rows = length c.args.rec.now.type_ref in
    c.loop.invariant all a ∙ ap (come_down all (map (λ row. row.now) c.loop.nested.items))
    (named_top all a c.args.rec.now (rows - c.loop.counter) (rows - (c.loop.counter + 1)) c.loop.at c.in-Some.row.now (omega arith) c.in-Some.ensures.value c.in-None-index_in.ensures)

pub loop-preserved : goal.loop-preserved
loop-preserved c = λ all a.
    let rows = length c.args.rec.now.type_ref in
    c.loop.invariant all a ∙ ap (come_down all (map (λ row. row.now) c.loop.nested.items))
    (named_nested all a c.args.rec.now (rows - c.loop.counter) (rows - (c.loop.counter + 1)) c.loop.at c.in-Some.row.now c.in-Some-index_in.outer (omega arith) c.in-Some.ensures.value c.in-Some-index_in.ensures)
    ∙ sym (ap (λ (rs : List TypeRefRow). come_down all rs (ref_type all a c.args.rec.now (rows - (c.loop.counter + 1)) c.in-Some-index_in.outer))
    (ap (map (λ row. row.now)) c.in_ok-push-in-Some-index_in.ensures.items ∙ map_push (λ row. row.now) c.loop.nested.items c.in-Some.row)
    ∙ come_push all (map (λ row. row.now) c.loop.nested.items) c.in-Some.row.now (ref_type all a c.args.rec.now (rows - (c.loop.counter + 1)) c.in-Some-index_in.outer))

pub returns : goal.returns
returns c = λ all a.
    c.loop.invariant all a ∙ ap (come_down all (map (λ row. row.now) c.loop.nested.items))
    (named_end all a c.args.rec.now (length c.args.rec.now.type_ref - c.loop.counter) c.loop.at (omega arith))
