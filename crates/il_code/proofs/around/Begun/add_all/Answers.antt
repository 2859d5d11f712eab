use Rattle.std.proofs.Common.{◌≡◌, ℕ, ◌+◌, ◌-◌, drop, sym, ap, ◌∙◌, subst, arith}
use Rattle.std.proofs.lemmas.List.{get_or-take, get_or-drop}
use Rattle.std.proofs.lemmas.Option.{slice_get-get_or}
use Rattle.il_code.specs.declared.blocks.Block.{Block}
use Rattle.il_code.specs.Around.{HasBegun}
use Rattle.il_code.proofs.Looks.{just, no_block}
use Rattle.il_code.proofs.around.Begun.add_all.Goals as goal

pub loop-b-preserved : goal.loop-b-preserved
loop-b-preserved c place has =
    let blocks = c.args.blocks.now in
    let from = c.args.from in
    let i = c.loop-b.b-index in
    let part = get_or-take (c.args.to - from) (drop from blocks) i no_block (omega arith) ∙ get_or-drop from blocks i no_block in
    let look = slice_get-get_or blocks (from + i) no_block (omega arith) ∙ ap (λ (b : Block). just b) (sym part) in
    let one_more : from + i + 1 ≡ from + (i + 1) = omega arith in
    subst (λ (n : ℕ). HasBegun blocks n place c.add.new.self) one_more (c.in_ok-add.ensures blocks (from + i) place look (c.loop-b.invariant place has))
