use Rattle.std.proofs.Common.{◌≡◌, length, sym, ap, ◌∙◌}
use Rattle.rules.specs.merge_rules.Absent.{reference_rows, reads_same}
use Rattle.token_keys.specs.absent_types.Named.{named_in, has_name, placed_from, first_placed}
use Rattle.token_keys.proofs.lemmas.absent_types.Firsts.{first_named, none_first}
use Rattle.token_keys.proofs.absent_types.references.References.first_same.Goals as goal

pub returns-in_default : goal.returns-in_default
returns-in_default c = sym (none_first c.args.self.now.index.now.all.now c.args.at (sym c.in_default.ensures))

pub returns : goal.returns
returns c =
    let recs = c.args.self.now.index.now.all.now in
    let name = c.in-Some.row.now.name in
    let most : c.most.result ≡ length (reference_rows recs) = c.most.ensures ∙ ap length c.requires.rows in
    let rows : c.rows_named-rows.result.now ≡ placed_from (has_name recs name) 0 (reference_rows recs) =
    c.rows_named-rows.ensures ∙ ap (named_in c.args.self.now.named) c.as_slice.ensures ∙ c.requires.named name ∙ ap (placed_from (has_name recs name) 0) c.requires.rows in
    c.in_ok-place.ensures ∙ (λ i. first_placed (reads_same recs (most i) c.args.at) (rows i)) ∙ first_named recs c.args.at c.in-Some.row.now (sym c.in-Some.ensures)
