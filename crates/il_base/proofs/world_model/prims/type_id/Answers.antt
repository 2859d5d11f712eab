use Rattle.std.proofs.Common.{◌≡◌, ℕ, ◌+◌, min, take, sum_by, ap, ◌∙◌, arith}
use Rattle.il_base.specs.world_model.Worlds.{rows_before, types_in}
use Rattle.il_base.proofs.lemmas.world_model.Counting.{before_cut}
use Rattle.il_base.proofs.world_model.prims.type_id.Goals as goal
use Rattle.il_base.proofs.world_model.prims.type_id.Goals.{After-saturating_add-id}

counted : (c : After-saturating_add-id) → c.count_types-before.result ≡ min (rows_before types_in c.args.recs.now c.args.at) 18446744073709551615
counted c =
    c.count_types-before.ensures ∙ ap (λ (n : ℕ). min (sum_by types_in (take n c.args.recs.now)) 18446744073709551615) c.min.ensures
    ∙ ap (λ (n : ℕ). min n 18446744073709551615) (before_cut types_in c.args.recs.now c.args.at)

pub returns-then-id-lt4294967296 : goal.returns-then-id-lt4294967296
returns-then-id-lt4294967296 c =
    let e = counted ((goal.at.returns-then-id-lt4294967296 c).After-saturating_add-id) in
    let same : c.saturating_add-id.result ≡ rows_before types_in c.args.recs.now c.args.at + c.args.row = omega (arith, e) in
    ap (λ (n : ℕ). record { 0 = n }) same

pub returns-else-id-lt4294967296 : goal.returns-else-id-lt4294967296
returns-else-id-lt4294967296 c = let e = counted ((goal.at.returns-else-id-lt4294967296 c).After-saturating_add-id) in omega (arith, e)
