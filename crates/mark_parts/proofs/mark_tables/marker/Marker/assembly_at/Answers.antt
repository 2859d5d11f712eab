use Rattle.std.proofs.Common.{◌≡◌, sym, subst}
use Rattle.std.specs.List.{AllZip}
use Rattle.type_tables.proofs.lemmas.member_search.Zips.{zip_as_long, zip_at}
use Rattle.mark_parts.specs.declared.mark_tables.owners.OwnerRows.{OwnerRows}
use Rattle.mark_parts.specs.mark_tables.Owners.{AreOwnerRows}
use Rattle.mark_parts.proofs.mark_tables.marker.Marker.assembly_at.Goals as goal

pub bounds-made-asm : goal.bounds-made-asm
bounds-made-asm c =
    rw c.as_slice-made.ensures.value
    (zip_as_long AreOwnerRows c.args.self.now.tables.world.now.recs c.args.self.now.rows.items c.requires.rows c.args.asm c.in_ok-rows.rows.scope.rec.now (sym c.in_ok-rows.ensures.there))

pub returns-clause-is : goal.returns-clause-is
returns-clause-is c =
    let all : AllZip AreOwnerRows c.args.self.now.tables.world.now.recs c.as_slice-made.result.now = rw c.as_slice-made.ensures.value c.requires.rows in
    record {
      is = record {
        world = c.requires.tables.world;
        recs = c.in_ok-rows.ensures.are.all;
        scope = c.in_ok-rows.ensures.are.scope;
        of_types = c.in_ok-rows.ensures.are.tables;
        owners = subst (λ (t : OwnerRows). AreOwnerRows c.in_ok-rows.rows.scope.rec.now t) (sym c.index-made-asm.is)
            (zip_at AreOwnerRows c.args.self.now.tables.world.now.recs c.as_slice-made.result.now all c.args.asm c.in_ok-rows.rows.scope.rec.now c.index-made-asm.result (sym c.in_ok-rows.ensures.there));
      };
      recs = c.in_ok-rows.ensures.are.all;
      place = c.in_ok-rows.ensures.are.asm;
    }
