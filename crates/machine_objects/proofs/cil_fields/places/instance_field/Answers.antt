use Rattle.std.proofs.Common.{sym, ap, ◌∙◌}
use Rattle.std.specs.Prelude.{Option}
use Rattle.std.specs.Option.{option_map}
use Rattle.il_base.specs.declared.world_model.expr.TypeExpr.{TypeExpr}
use Rattle.rules.specs.step_rules.Fields.{cell_for, layout_of}
use Rattle.machine_words.specs.cil_closing.Callees.{accessed_by}
use Rattle.machine_objects.proofs.lemmas.cil_fields.FieldTypes.{typed_path, typed}
use Rattle.machine_objects.proofs.cil_fields.places.instance_field.Goals as goal

pub returns-in_default : goal.returns-in_default
returns-in_default g c = λ cells.
    let a = accessed_by c.args.a.now in
    ap (λ (x : Option TypeExpr). option_map (typed_path c.args.at a) x) (sym c.in_default.is ∙ c.in_ok-found.ensures)
    ∙ typed c.args.at a (layout_of (cell_for a) ((g.Q.Answers.queries c.args.q.now).cells c.args.of.now))

pub returns : goal.returns
returns g c = λ cells.
    let a = accessed_by c.args.a.now in
    let path = ap (λ (x : Option TypeExpr). option_map (typed_path c.args.at a) x) (sym c.in-Some.is ∙ c.in_ok-found.ensures)
    ∙ typed c.args.at a (layout_of (cell_for a) ((g.Q.Answers.queries c.args.q.now).cells c.args.of.now)) in
    rw c.new.ensures path
