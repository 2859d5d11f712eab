use Rattle.std.proofs.Common.{List, ap, ◌∙◌}
use Rattle.il_base.specs.declared.world_model.record.AsmRec.{AsmRec}
use Rattle.merged_tables.specs.merged_impls.Impls.{method_impls_by}
use Rattle.merged_tables.specs.Parts.{output_in}
use Rattle.merged_tables.proofs.maps.map_rows.Goals as goal

pub returns : goal.returns
returns c =
    let p = c.args.parts.now in
    let o = output_in p in
    let are = c.requires in
    let told = c.maps_tell.ensures o p.tables.now are.tables in
    record {
      properties = c.in_ok-properties.ensures ∙ told.properties;
      events = c.in_ok-events.ensures ∙ told.events;
      impls = c.in_ok-impls.ensures ∙ ap (λ (recs : List AsmRec). method_impls_by recs o.kept p.tables.now p.tokens.now) are.same ∙ c.impls_tell.ensures o p.tokens.now p.tables.now are.tokens are.tables;
    }
