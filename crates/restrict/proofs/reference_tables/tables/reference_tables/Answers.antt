use Rattle.std.proofs.Common.{◌≡◌, ap, ◌∙◌}
use Rattle.rules.specs.merge_rules.Refs.{assembly_refs}
use Rattle.token_keys.specs.signature_rows.Rows.{type_specs_by, locals_by}
use Rattle.reference_rows.specs.reference_assemblies.Assemblies.{assemblies_by}
use Rattle.reference_rows.specs.Types.{recs_in, type_ref_rows_by}
use Rattle.restrict.proofs.reference_tables.tables.reference_tables.Goals as goal

pub returns : goal.returns
returns c = λ o are.
    let parts = c.args.parts.now in
    let t = parts.keys.types in
    let told = c.types_tell.ensures o t are.keys.types in
    let rows = c.signatures_tell.ensures.rows o parts.numbers.now are.numbers in
    let members = c.member_rows_tell.ensures o parts are in
    let assemblies : c.in_ok-assemblies.assemblies ≡ assembly_refs o.recs o.mets =
    c.in_ok-assemblies.ensures ∙ ap (assemblies_by (recs_in t)) c.firsts.ensures ∙ told.assemblies in
    record {
      assemblies = assemblies;
      types = c.in_ok-types.ensures ∙ ap (type_ref_rows_by t) c.as_slice.ensures ∙ told.rows c.in_ok-assemblies.assemblies assemblies;
      specs = c.in_ok-specs.ensures ∙ ap (type_specs_by parts.numbers.now) (c.firsts-2.ensures ∙ are.keys.specs) ∙ rows.type_specs_are;
      members = c.in_ok-members.ensures ∙ members.member_refs;
      instances = c.in_ok-instances.ensures ∙ members.method_specs;
      locals = c.in_ok-locals.ensures ∙ ap (locals_by parts.numbers.now) (c.firsts-3.ensures ∙ are.keys.locals) ∙ rows.locals_are;
    }
