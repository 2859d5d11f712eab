use Rattle.std.proofs.Common.{◌≡◌, ℕ, ◌+◌, ◌≤◌, List, length, drop, Ok, sym, subst, arith, ap, ◌∙◌}
use Rattle.std.proofs.lemmas.List.{take_rest, length-drop}
use Rattle.il_base.specs.declared.body.Instr.{Instr}
use Rattle.il_base.specs.body_grammar.Instructions.{instr_at, code_after, code_at}
use Rattle.il_code.specs.Gives.{Fails}
use Rattle.il_code.proofs.CodeLoop.{goes_on, ends, is_done}
use Rattle.il_code.proofs.instructions.code.Goals as goal

pub loop-at-init : goal.loop-at-init
loop-at-init c = (length c.args.bytes.now, omega arith, omega arith, ap (λ before. code_after (length c.args.bytes.now) c.args.base 0 before c.args.bytes.now) c.new-code.ensures)

pub returns-in-Err : goal.returns-in-Err
returns-in-Err c =
    let i = c.loop-at.invariant in
    let fails = subst (λ (x : List ℕ). Fails c.in-Err.error (instr_at c.loop-at.at (c.args.base + c.loop-at.at) x)) (take_rest c.args.bytes.now c.loop-at.at) c.in-Err.ensures.gives in
    ends c.in-Err.error i.0 c.args.base c.loop-at.at c.loop-at.code c.args.bytes.now (code_at c.args.base c.args.bytes.now) c.loop-at-test.true i.1 fails i.3

pub loop-at-preserved : goal.loop-at-preserved
loop-at-preserved c =
    let i = c.loop-at.invariant in
    let bs = c.args.bytes.now in
    let at = c.loop-at.at in
    let rest = take_rest bs at in
    let read : instr_at at (c.args.base + at) (drop at bs) ≡ Ok (c.in-Ok.read.0, c.in-Ok.read.1) =
    ap (λ (x : List ℕ). instr_at at (c.args.base + at) x) (sym rest) ∙ c.in-Ok.ensures.gives in
    let within : c.in-Ok.read.1 ≤ length (drop at bs) = subst (λ (x : List ℕ). c.in-Ok.read.1 ≤ length x) rest c.in-Ok.ensures.within.1 in
    let more = goes_on i.0 c.args.base at c.loop-at.code bs c.in-Ok.read.0 c.in-Ok.read.1 (code_at c.args.base bs) c.loop-at-test.true i.1 c.in-Ok.ensures.within.0 read i.3 in (
      more.0,
      more.1,
      omega (arith, length-drop at bs),
      ap (λ (before : List Instr). code_after more.0 c.args.base (at + c.in-Ok.read.1) before (drop (at + c.in-Ok.read.1) bs)) c.in_ok-push.ensures.ok ∙ more.2,
    )

pub returns : goal.returns
returns c =
    let i = c.loop-at.invariant in
    is_done i.0 c.args.base c.loop-at.at c.loop-at.code c.args.bytes.now (code_at c.args.base c.args.bytes.now) c.loop-at-test.false i.3
