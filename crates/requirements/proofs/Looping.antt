-- One more argument of a call.
use Rattle.std.proofs.Common.{◌≡◌, ℕ, suc, ◌+◌, ◌-◌, ◌<◌, List, ◌++◌, sym, ap, ◌∙◌, arith, append_assoc}
use Rattle.il_base.specs.declared.ids.MethodId.{MethodId}
use Rattle.rules.specs.declared.site_rules.site.Site.{Site}
use Rattle.rules.specs.site_rules.Values.{Flowed}
use Rattle.rules.specs.site_rules.Bodies.{argument_site, arguments_from}

pub one_argument : (f : Flowed) (offset : ℕ) (m : MethodId) (n j : ℕ) (before after goal : List Site) → j < n
    → after ≡ before ++ argument_site f offset m n j
    → before ++ arguments_from f offset m n j (n - j) ≡ goal
    → after ++ arguments_from f offset m n (j + 1) (n - (j + 1)) ≡ goal
one_argument f offset m n j before after goal h e so_far =
    let z : n - j ≡ suc (n - (j + 1)) = omega arith in
    let rest : List Site = arguments_from f offset m n (j + 1) (n - (j + 1)) in
    ap (λ (v : List Site). v ++ rest) e ∙ append_assoc before (argument_site f offset m n j) rest
    ∙ sym (ap (λ (k : ℕ). before ++ arguments_from f offset m n j k) z) ∙ so_far
