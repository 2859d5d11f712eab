use Rattle.std.proofs.Common.{◌≡◌, Some, refl, sym, ap, subst, ◌∙◌}
use Rattle.std.specs.Prelude.{slice_get}
use Rattle.std.specs.List.{AllZip}
use Rattle.type_tables.proofs.lemmas.member_search.Zips.{zip_as_long, zip_at}
use Rattle.type_tables.specs.declared.tables.RowTables.{RowTables}
use Rattle.type_tables.specs.Tables.{AreRowTables}
use Rattle.type_tables.proofs.tables.Tables.rows_at.Goals as goal

pub bounds-made-asm : goal.bounds-made-asm
bounds-made-asm c =
    rw c.as_slice-made.ensures.value
    (zip_as_long AreRowTables c.args.self.now.world.now.recs c.args.self.now.rows.items c.requires.rows c.args.asm c.in_ok-rec.rec.now
    (ap (λ recs. slice_get recs c.args.asm) (sym c.linked-linked.ensures.all) ∙ sym c.in_ok-rec.ensures))

pub returns-clause-are : goal.returns-clause-are
returns-clause-are c =
    let there : slice_get c.args.self.now.world.now.recs c.args.asm ≡ Some c.in_ok-rec.rec.now =
    ap (λ recs. slice_get recs c.args.asm) (sym c.linked-linked.ensures.all) ∙ sym c.in_ok-rec.ensures in
    let all : AllZip AreRowTables c.args.self.now.world.now.recs c.as_slice-made.result.now = rw c.as_slice-made.ensures.value c.requires.rows in
    record {
      scope = record { linked = c.linked-linked.ensures.is; here = sym c.in_ok-rec.ensures };
      all = c.linked-linked.ensures.all;
      asm = refl;
      tables = subst (λ (t : RowTables). AreRowTables c.in_ok-rec.rec.now t) (sym c.index-made-asm.is)
          (zip_at AreRowTables c.args.self.now.world.now.recs c.as_slice-made.result.now all c.args.asm c.in_ok-rec.rec.now c.index-made-asm.result there);
    }
