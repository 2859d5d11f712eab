use Rattle.std.proofs.Common.{List, slice_get, sym, ap, ◌∙◌}
use Rattle.std.proofs.lemmas.Option.{slice_get_within}
use Rattle.il_base.specs.declared.world_model.record.AsmRec.{AsmRec}
use Rattle.rules.specs.link_rules.Types.{at_row, is_added}
use Rattle.type_names.proofs.Within.{none_added, id_found}
use Rattle.type_names.proofs.names.TypeNames.type_along.Goals as goal

pub is_added-requires : goal.is_added-requires
is_added-requires c =
    let here = sym (c.in-Some.ensures.value ∙ ap (λ (recs : List AsmRec). slice_get recs c.args.at) c.self.invariant.0) in
    rw c.recs-recs.ensures (slice_get_within c.self.inside.world c.args.at c.in-Some.types.now here)

pub returns-then-is_added : goal.returns-then-is_added
returns-then-is_added c =
    let here = sym (c.in-Some.ensures.value ∙ ap (λ (recs : List AsmRec). slice_get recs c.args.at) c.self.invariant.0) in
    let is = ap (λ (recs : List AsmRec). is_added recs (at_row c.args.at c.in-Some-along.row)) (sym c.recs-recs.ensures) ∙ sym c.is_added.ensures ∙ c.if-is_added.true in
    rw (← c.self.view_is) (none_added c.self.inside.world c.args.path.now c.args.at c.in-Some-along.row c.in-Some.types.now here c.in-Some-along.ensures is)

pub returns-else-is_added : goal.returns-else-is_added
returns-else-is_added c =
    let here = sym (c.in-Some.ensures.value ∙ ap (λ (recs : List AsmRec). slice_get recs c.args.at) c.self.invariant.0) in
    let is = ap (λ (recs : List AsmRec). is_added recs (at_row c.args.at c.in-Some-along.row)) (sym c.recs-recs.ensures) ∙ sym c.is_added.ensures ∙ c.if-is_added.false in
    rw (← c.self.view_is)
    (id_found c.self.inside.world c.args.path.now c.args.at c.in-Some-along.row c.in-Some.types.now _ c.self.invariant.1 here c.in-Some-along.ensures is (rw c.recs-recs.ensures at c.type_id.ensures))
