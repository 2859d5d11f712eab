use Rattle.std.proofs.Common.{◌≡◌, ◌%◌, List, [], length, ap, ◌∙◌}
use Rattle.il_base.specs.declared.world_model.members.MethodDefRow.{MethodDefRow}
use Rattle.rules.specs.declared.link_rules.row_at.RowAt.{RowAt}
use Rattle.rules.specs.file_layout.Bodies.{code_behind}
use Rattle.rules.specs.merge_rules.Numbers.{kept_methods}
use Rattle.rules.specs.merge_rules.Restricted.{placed_methods, moved_methods, bodies_of, field_rvas}
use Rattle.merged_tables.specs.merged_members.Members.{methods_by}
use Rattle.merged_tables.specs.Parts.{output_in}
use Rattle.merged_tables.proofs.placed.placed_rows.Goals as goal

pub returns : goal.returns
returns c =
    let p = c.args.parts.now in
    let o = output_in p in
    let tokens = p.tokens.now in
    let tables = p.tables.now in
    let are = c.requires in
    let kept = are.tables.items in
    let told = c.members_tell.ensures o tokens are.tokens in
    let rows : c.in_ok-rows.rows ≡ moved_methods o =
    c.in_ok-rows.ensures ∙ ap (methods_by o.recs tokens tables.items.params) (c.rows-kept_methods.ensures ∙ kept.methods)
    ∙ ap (λ (params : List RowAt). methods_by o.recs tokens params (kept_methods o.recs o.kept)) kept.params ∙ told.methods in
    let placed = c.in_ok-placed.ensures in
    let methods : c.in_ok-placed.placed.rows ≡ placed_methods (moved_methods o) = placed.rows ∙ ap placed_methods rows in
    record {
      methods = methods;
      field_rvas = c.in_ok-field_rvas.ensures ∙ c.field_rvas_tell.ensures o tables are.tables c.in_ok-placed.placed.size
          ∙ ap (field_rvas o) (placed.size ∙ ap (λ (ms : List MethodDefRow). length (code_behind [] (bodies_of ms)) % 4294967296) methods)
          ∙ c.modulo_tells.ensures o (length (code_behind [] (bodies_of (placed_methods (moved_methods o)))));
    }
