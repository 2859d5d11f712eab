use Rattle.std.proofs.Common.{◌∙◌, ap, sym, List, map}
use Rattle.std.proofs.lemmas.List.{map_push}
use Rattle.il_base.specs.declared.world_model.types.TypeRefRow.{TypeRefRow}
use Rattle.resolver.specs.type_links.References.{come_down}
use Rattle.resolver.proofs.lemmas.type_links.Walks.{come_push}
use Rattle.resolver.proofs.type_links.index.TypeIndex.come_down.Goals as goal

pub loop-row-preserved : goal.loop-row-preserved
loop-row-preserved c =
    let all = c.args.self.now.all.now in
    ap (come_down all (map (λ row. row.now) c.pop.new.self.items)) c.nested_type-around.ensures
    ∙ sym (ap (λ (rows : List TypeRefRow). come_down all rows c.loop-row.around) (ap (map (λ row. row.now)) c.in-Some.ensures.items ∙ map_push (λ row. row.now) c.pop.new.self.items c.in-Some.row)
    ∙ come_push all (map (λ row. row.now) c.pop.new.self.items) c.in-Some.row.now c.loop-row.around)
    ∙ c.loop-row.invariant
