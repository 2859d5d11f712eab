use Rattle.std.proofs.Common.{ap, ◌∙◌, sym, map}
use Rattle.rules.specs.file_layout.Interning.{added}
use Rattle.record_writer.proofs.lemmas.metadata_writer.Items.{inserted, there}
use Rattle.record_writer.proofs.metadata_writer.pool.Pool.add.Goals as goal

pub returns-in_ok-insert : goal.returns-in_ok-insert
returns-in_ok-insert c =
    ap (map (λ v. v.items)) c.in_ok-insert.ensures.keys
    ∙ inserted (λ v. v.items) c.self.inside.set.keys c.in_ok-from_slice.field-0
    ∙ (λ i. added (c.self.view_is i) (c.in_ok-from_slice.ensures.items i))

pub returns-else-not-contains : goal.returns-else-not-contains
returns-else-not-contains c =
    sym c.self.view_is
    ∙ there (λ v. v.items) c.self.inside.set.keys c.args.item.now (sym c.if-not-contains.false ∙ c.contains.ensures)
    ∙ (λ i. added (c.self.view_is i) c.args.item.now)
