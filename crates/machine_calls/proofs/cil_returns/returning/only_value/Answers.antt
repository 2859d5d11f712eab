use Rattle.std.proofs.Common.{◌≡◌, length, reverse, get_or, ap, ◌∙◌, arith}
use Rattle.machine_calls.proofs.lemmas.cil_returns.Alone.{alone}
use Rattle.machine_calls.proofs.cil_returns.returning.only_value.Goals as goal

pub returns : goal.returns
returns c =
    let one : length (reverse c.args.stack.now) ≡ 1 = omega (arith, ap length c.as_slice-items.ensures) in
    alone c.args.stack.now c.index-items-0.result one (c.index-items-0.is ∙ ap (λ xs. get_or xs 0 c.index-items-0.result) c.as_slice-items.ensures)
