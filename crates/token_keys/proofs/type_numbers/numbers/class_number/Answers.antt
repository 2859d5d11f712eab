use Rattle.mark_parts.specs.mark_tables.Assemblies.{recs_of, place_of, rec_of}
use Rattle.token_keys.proofs.lemmas.type_numbers.Finding.{class_there}
use Rattle.token_keys.proofs.type_numbers.numbers.class_number.Goals as goal

pub returns-then-named-ne0 : goal.returns-then-named-ne0
returns-then-named-ne0 c =
    let asm = c.args.asm.now in
    class_there (recs_of asm) (place_of asm) (rec_of asm) c.args.token c.in_ok-named.named c.in_ok-named.ensures c.if-named-ne0.true
