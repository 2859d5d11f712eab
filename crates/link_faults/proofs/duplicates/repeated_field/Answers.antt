use Rattle.std.proofs.Common.{ℕ, List, Option, ap, ◌∙◌}
use Rattle.std.specs.Prelude.{bytes_eq}
use Rattle.rules.specs.link_rules.Faults.{first_repeat, repeated_row}
use Rattle.link_faults.proofs.Keyed.{field_repeated}
use Rattle.link_faults.proofs.duplicates.repeated_field.Goals as goal

pub returns : goal.returns
returns c =
    c.in_ok-found.ensures ∙ ap (λ (codes : List (Option (List ℕ))). repeated_row c.args.asm.0 0x04 (first_repeat bytes_eq codes)) (c.deref.ensures.value ∙ c.in_ok-codes.ensures)
    ∙ field_repeated c.args.scope.now.all.now c.args.scope.now.links.now c.args.asm.0 c.args.rec.now c.requires.there c.requires.told.signatures
