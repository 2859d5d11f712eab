use Rattle.std.proofs.Common.{sym}
use Rattle.type_tables.specs.member_search.Names.{AreNames}
use Rattle.type_tables.proofs.lemmas.member_search.Zips.{zip_as_long, zip_at}
use Rattle.type_tables.proofs.member_search.members.member_at.Goals as goal

pub bounds-linked-at : goal.bounds-linked-at
bounds-linked-at c = zip_as_long AreNames c.args.linked.now.all.now c.args.linked.now.names.now c.requires.names c.args.at.asm c.in-Some.rec.now (sym c.in-Some.ensures)

pub member_in-requires-clause-scope : goal.member_in-requires-clause-scope
member_in-requires-clause-scope c = record { linked = c.requires; here = sym c.in-Some.ensures }

pub member_in-requires-clause-names : goal.member_in-requires-clause-names
member_in-requires-clause-names c = zip_at AreNames c.args.linked.now.all.now c.args.linked.now.names.now c.requires.names c.args.at.asm c.in-Some.rec.now c.index-linked-at.result (sym c.in-Some.ensures)
