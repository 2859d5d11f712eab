use Rattle.std.proofs.Common.{sym}
use Rattle.token_keys.proofs.Plain.{plain_here, plain_gone}
use Rattle.mark_parts.specs.mark_tables.Assemblies.{all_of, rec_of}
use Rattle.token_keys.proofs.members.is_plain.Goals as goal

pub returns-in_default : goal.returns-in_default
returns-in_default c = plain_gone (all_of c.args.marker.now) c.args.at (sym c.in_default.ensures.there)

pub returns : goal.returns
returns c =
    let asm = c.in-Some.asm in
    plain_here (all_of c.args.marker.now) c.args.at (rec_of asm) (sym c.in-Some.ensures.there) asm.owners.now.params c.in-Some.ensures.is.is.owners.params c.in_ok-token.token c.in_ok-token.ensures
    c.rows_with.result.now c.rows_with.ensures
