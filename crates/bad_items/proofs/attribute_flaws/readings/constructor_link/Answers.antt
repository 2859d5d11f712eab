use Rattle.std.proofs.Common.{List, ap, ◌∙◌}
use Rattle.il_base.specs.declared.world_model.record.AsmRec.{AsmRec}
use Rattle.rules.specs.mark_rules.Naming.{method_named}
use Rattle.attribute_values.specs.attribute_kinds.Sites.{place_in, rec_in}
use Rattle.bad_items.proofs.attribute_flaws.readings.constructor_link.Goals as goal

pub returns : goal.returns
returns c =
    let site = c.args.site.now in
    c.method_link-link.ensures ∙ ap (λ (recs : List AsmRec). method_named recs (place_in site) (rec_in site) c.args.token) c.requires.recs
