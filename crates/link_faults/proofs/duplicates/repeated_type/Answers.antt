use Rattle.std.proofs.Common.{ℕ, List, Option, ap, ◌∙◌}
use Rattle.std.specs.Prelude.{bytes_eq}
use Rattle.rules.specs.link_rules.Faults.{first_repeat, repeated_row}
use Rattle.link_faults.proofs.Keyed.{type_repeated}
use Rattle.link_faults.proofs.duplicates.repeated_type.Goals as goal

pub returns : goal.returns
returns c =
    c.in_ok-found.ensures ∙ ap (λ (codes : List (Option (List ℕ))). repeated_row c.args.file 0x02 (first_repeat bytes_eq codes)) (c.deref.ensures.value ∙ c.in_ok-codes.ensures)
    ∙ type_repeated c.args.file c.args.rec.now
