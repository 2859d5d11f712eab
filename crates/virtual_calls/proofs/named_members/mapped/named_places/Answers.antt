use Rattle.std.proofs.Common.{◌∙◌}
use Rattle.virtual_calls.proofs.lemmas.named_members.MapRows.{named_in_map}
use Rattle.virtual_calls.proofs.named_members.mapped.named_places.Goals as goal

pub returns : goal.returns
returns c = (rw (c.map_rows-rows.ensures, c.in_ok-token.ensures) at c.in_ok-found.ensures) ∙ named_in_map c.args.rec.now c.args.tables.now c.requires c.args.at c.args.wanted.now c.args.mapped
