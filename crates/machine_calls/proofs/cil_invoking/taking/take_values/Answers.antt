use Rattle.std.proofs.Common.{◌≡◌, ◌-◌, ◌≤◌, length, take, drop, reverse, refl, ap, ◌∙◌, arith}
use Rattle.std.proofs.lemmas.List.{length-reverse}
use Rattle.machine_calls.proofs.lemmas.cil_invoking.TopValues.{taken_split, taken_none}
use Rattle.machine_calls.proofs.cil_invoking.taking.take_values.Goals as goal

pub returns-then-count-n : goal.returns-then-count-n
returns-then-count-n c = (taken_none c.args.n c.args.stack.now (omega (arith, c.len-count.ensures)), refl)

pub split_off-requires : goal.split_off-requires
split_off-requires c =
    let e : length c.into_vec-items.result.items ≡ length c.args.stack.now = ap length (c.into_vec-items.ensures ∙ ap reverse c.replace.ensures.value) ∙ length-reverse c.args.stack.now in
    omega (arith, c.into_vec-items.result.ok, c.len-count.ensures, e)

pub returns : goal.returns
returns c =
    let all = c.args.stack.now in
    let items : c.into_vec-items.result.items ≡ reverse all = c.into_vec-items.ensures ∙ ap reverse c.replace.ensures.value in
    let count : c.len-count.result ≡ length all = c.len-count.ensures in
    let within : c.args.n ≤ length all = omega (arith, count) in
    let values : c.from_vec-2.result ≡ drop (length all - c.args.n) (reverse all) = c.from_vec-2.ensures ∙ c.in_ok-values.ensures.tail ∙ ap (λ xs. drop (c.len-count.result - c.args.n) xs) items ∙ ap (λ k. drop (k - c.args.n) (reverse all)) count in
    let left : c.from_vec.result ≡ reverse (take (length all - c.args.n) (reverse all)) = c.from_vec.ensures ∙ ap reverse (c.in_ok-values.ensures.items ∙ ap (λ xs. take (c.len-count.result - c.args.n) xs) items ∙ ap (λ k. take (k - c.args.n) (reverse all)) count) in
    rw (values, left) (taken_split c.args.n all within)
