use Rattle.type_tables.proofs.lemmas.member_search.Owning.{field_owners}
use Rattle.type_tables.proofs.member_search.owners.field_owners.Goals as goal

pub returns : goal.returns
returns c =
    field_owners c.args.rec.now c.in_ok-runs.runs.items c.in_ok-owners.owners.items c.in_ok-runs.ensures (rw (c.as_slice.ensures.value, c.len.ensures) at c.in_ok-owners.ensures)
