use Rattle.std.proofs.Common.{ℕ, ◌∷◌, ◌-◌, length, take, drop, ap, ◌∙◌}
use Rattle.mark_dependencies.proofs.Naming.{plain_none, plain_cut}
use Rattle.mark_dependencies.proofs.names.plain.Goals as goal

pub returns-in-empty : goal.returns-in-empty
returns-in-empty c = c.new.ensures ∙ plain_none c.args.name.now c.in-empty.len_below

pub returns-in_ok-text-in-len1-up : goal.returns-in_ok-text-in-len1-up
returns-in_ok-text-in-len1-up c =
    plain_cut c.args.name.now c.in_ok-text-in-len1-up.text 0 c.in-len1-up.len_at_least
    (c.in_ok-text-in-len1-up.ensures ∙ ap (λ (n : ℕ). n ∷ take (length c.args.name.now - 1) (drop 1 c.args.name.now)) c.first_letter.ensures)
