use Rattle.std.proofs.Common.{sym}
use Rattle.mark_parts.specs.mark_tables.Assemblies.{all_of, rec_of}
use Rattle.mark_parts.proofs.lemmas.mark_rows.Mapping.{no_events, events_grouped}
use Rattle.mark_parts.proofs.mark_rows.members.events_of_type.Goals as goal

pub returns-in_default : goal.returns-in_default
returns-in_default c =
    let none = no_events (all_of c.args.marker.now) c.args.at (sym c.in_default.ensures.there) in
    cc

pub returns : goal.returns
returns c =
    let asm = c.in-Some.asm in
    events_grouped (all_of c.args.marker.now) c.args.at (rec_of asm) (sym c.in-Some.ensures.there) asm.of_types.now.events c.in-Some.ensures.is.is.of_types.events
    c.in_ok-token.token c.in_ok-token.ensures c.rows_with-maps.result.now c.rows_with-maps.ensures c.in_ok-rows.rows.items c.in_ok-rows.ensures
