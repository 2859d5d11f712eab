use Rattle.il_base.specs.world_model.Worlds.{names_by}
use Rattle.link_faults.proofs.Parts.{parts_found}
use Rattle.link_faults.proofs.member_keys.code_of_signature.Goals as goal

pub returns : goal.returns
returns c =
    parts_found (names_by c.args.scope.now.all.now c.args.scope.now.links.now c.args.asm.0) c.args.signature.now c.as_slice.result.now c.in_ok-code.code c.in_ok-ret.ret c.in_ok-params.params
    c.as_slice.ensures c.in_ok-ret.ensures c.in_ok-params.ensures c.in_ok-code.ensures
