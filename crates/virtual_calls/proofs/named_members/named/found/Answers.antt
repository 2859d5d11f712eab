use Rattle.std.proofs.Common.{sym, ◌∙◌}
use Rattle.virtual_calls.proofs.lemmas.named_members.Gathering.{found_is}
use Rattle.virtual_calls.proofs.named_members.named.found.Goals as goal

pub returns : goal.returns
returns c = c.in_ok-members.ensures ∙ sym (found_is c.args.tables.now.world.now.recs c.args.wanted.now c.args.types.now c.args.kind)
