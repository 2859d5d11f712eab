use Rattle.std.proofs.Common.{List, sym, ap, ◌∙◌}
use Rattle.il_base.specs.declared.world_model.record.AsmRec.{AsmRec}
use Rattle.rules.specs.link_rules.Types.{at_row}
use Rattle.rules.specs.type_rules.Slots.{type_of_method}
use Rattle.rules.specs.mark_rules.KeepList.{row_in}
use Rattle.keep_lists.specs.Lists.{place_in}
use Rattle.keep_lists.proofs.members.method_owner.Goals as goal

pub returns : goal.returns
returns c =
    c.row_in-owner.ensures
    ∙ ap row_in (c.in_ok-found.ensures ∙ ap (λ (recs : List AsmRec). type_of_method recs (at_row (place_in c.args.s.now) c.args.row)) (sym c.requires.recs))
