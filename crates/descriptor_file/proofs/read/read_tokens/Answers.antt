use Rattle.std.proofs.Common.{◌≡◌, ◌<◌, ◌≤◌, ◌-◌, length, drop, refl, length-drop, true, false, Some, None, sym, ◌∙◌, ap, arith}
use Rattle.descriptor_file.specs.Tokens.{is_space}
use Rattle.descriptor_file.specs.Grammar.{is_done}
use Rattle.descriptor_file.specs.Reading.{token_step}
use Rattle.descriptor_file.proofs.Steps.{past_space, refused, past_token, done, front}
use Rattle.descriptor_file.proofs.read.read_tokens.Goals as goal

pub loop-at-preserved-then-is_space : goal.loop-at-preserved-then-is_space
loop-at-preserved-then-is_space c = record {
  within = omega arith;
  reads = sym (past_space c.args.bytes.now c.loop-at.spaced c.loop-at.at c.loop-at.state c.loop-at-test.true
      (ap is_space (sym (front c.args.bytes.now c.after-rest.result.now c.loop-at.at c.after-rest.ensures)) ∙ sym c.is_space.ensures ∙ c.if-is_space.true)) ∙ c.loop-at.invariant.reads;
}

pub returns-in-None-clause-value : goal.returns-in-None-clause-value
returns-in-None-clause-value c =
    let none : None ≡ token_step c.loop-at.state c.loop-at.spaced c.loop-at.at (drop c.loop-at.at c.args.bytes.now) =
    rw (c.in-None.is, c.after-rest.ensures) at c.in_ok-take_token.ensures.value in
    sym c.loop-at.invariant.reads ∙ refused c.args.bytes.now c.loop-at.spaced c.loop-at.at c.loop-at.state c.loop-at-test.true
    (ap is_space (sym (front c.args.bytes.now c.after-rest.result.now c.loop-at.at c.after-rest.ensures)) ∙ sym c.is_space.ensures ∙ c.if-is_space.false) (sym none)

pub loop-at-preserved : goal.loop-at-preserved
loop-at-preserved c =
    let some : Some (c.take_token.new.state, c.in-Some.size) ≡ token_step c.loop-at.state c.loop-at.spaced c.loop-at.at (drop c.loop-at.at c.args.bytes.now) =
    rw (c.in-Some.is, c.after-rest.ensures) at c.in_ok-take_token.ensures.value in
    let within : (0 < c.in-Some.size) × (c.in-Some.size ≤ length (drop c.loop-at.at c.args.bytes.now)) = rw (c.in-Some.is, c.after-rest.ensures) at c.in_ok-take_token.ensures.within in
    let short : c.in-Some.size ≤ length c.args.bytes.now - c.loop-at.at = rw length-drop at within.1 in
    record {
      within = omega arith;
      reads = sym (past_token c.args.bytes.now c.loop-at.spaced c.loop-at.at c.loop-at.state c.loop-at-test.true c.take_token.new.state c.in-Some.size
          (ap is_space (sym (front c.args.bytes.now c.after-rest.result.now c.loop-at.at c.after-rest.ensures)) ∙ sym c.is_space.ensures ∙ c.if-is_space.false) (sym some) within.0 within.1)
          ∙ c.loop-at.invariant.reads;
    }

pub returns-then-not-is_done-clause-value : goal.returns-then-not-is_done-clause-value
returns-then-not-is_done-clause-value c =
    let e : c.loop-at.at ≡ length c.args.bytes.now = omega arith in
    let f : is_done c.loop-at.state.place c.loop-at.state.spot ≡ false = sym c.is_done.ensures ∙ c.if-not-is_done.true in
    sym c.loop-at.invariant.reads ∙ done c.args.bytes.now c.loop-at.spaced c.loop-at.at c.loop-at.state e ∙ rw f refl

pub returns-clause-value : goal.returns-clause-value
returns-clause-value c =
    let e : c.loop-at.at ≡ length c.args.bytes.now = omega arith in
    let f : is_done c.loop-at.state.place c.loop-at.state.spot ≡ true = sym c.is_done.ensures ∙ c.if-not-is_done.false in
    sym c.loop-at.invariant.reads ∙ done c.args.bytes.now c.loop-at.spaced c.loop-at.at c.loop-at.state e ∙ rw f refl
