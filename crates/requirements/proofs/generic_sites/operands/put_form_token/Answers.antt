use Rattle.mark_parts.specs.mark_tables.Assemblies.{all_of}
use Rattle.requirements.proofs.lemmas.generic_sites.Naming.{form_sites}
use Rattle.requirements.proofs.generic_sites.operands.put_form_token.Goals as goal

pub returns : goal.returns
returns c =
    let row = c.args.row.now in
    form_sites (all_of c.args.annotated.now.marker.now) row.asm row.rec.now row.owner row.token c.args.at c.args.token c.args.form c.at-within.result c.names_of-names.result c.args.sites.now c.put_token.new.sites
    c.at-within.ensures c.names_of-names.ensures c.in_ok-put_token.ensures
