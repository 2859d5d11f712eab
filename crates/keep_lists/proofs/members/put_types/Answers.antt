use Rattle.std.proofs.Common.{ℕ, ◌+◌, ◌++◌, drop, List, sym, ap, ◌∙◌}
use Rattle.il_base.specs.declared.world_model.types.TypeDefRow.{TypeDefRow}
use Rattle.rules.specs.type_rules.Rows.{each_from}
use Rattle.mark_items.proofs.lemmas.mark_calls.Finding.{each_next, each_end}
use Rattle.keep_lists.specs.Lists.{recs_in, place_in, rec_in, kept_in, type_line}
use Rattle.keep_lists.proofs.members.put_types.Goals as goal

pub loop-k-preserved : goal.loop-k-preserved
loop-k-preserved c =
    let s = c.args.s.now in
    let f : ℕ → TypeDefRow → List ℕ = λ k t. type_line (recs_in s) (kept_in s) (place_in s) (rec_in s) k in
    ap (λ (text : List ℕ). text ++ each_from f (c.loop-k.k + 1) (drop (c.loop-k.k + 1) c.args.rows.now)) c.in_ok-put_kept_type.ensures
    ∙ each_next f c.args.rows.now c.loop-k.k c.index-rows-k.result c.loop-k.out c.loop-k-test.true c.index-rows-k.is ∙ c.loop-k.invariant

pub returns : goal.returns
returns c =
    let s = c.args.s.now in
    let f : ℕ → TypeDefRow → List ℕ = λ k t. type_line (recs_in s) (kept_in s) (place_in s) (rec_in s) k in
    sym (each_end f c.args.rows.now c.loop-k.k c.loop-k.out c.loop-k-test.false) ∙ c.loop-k.invariant
