use Rattle.std.proofs.Common.{ℕ, List, ◌++◌, ap, ◌∙◌}
use Rattle.mark_parts.specs.mark_tables.Assemblies.{recs_of, place_of, rec_of}
use Rattle.keep_lists.proofs.Inputs.{name_here}
use Rattle.keep_lists.proofs.texts.put_type_text.Goals as goal

pub returns : goal.returns
returns c =
    let asm = c.args.asm.now in
    c.in_ok-put_name.ensures ∙ ap (λ (text : List ℕ). c.args.out.now ++ text) (name_here (recs_of asm) (place_of asm) c.args.row (rec_of asm) c.requires.scope.here)
