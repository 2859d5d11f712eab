use Rattle.std.proofs.Common.{◌≡◌, ◌+◌, ℕ, List, length, drop, sym, ◌∙◌, subst, arith, true, false}
use Rattle.std.specs.Option.{option_map}
use Rattle.descriptor_file.specs.Tokens.{place_of}
use Rattle.descriptor_file.specs.Values.{begins}
use Rattle.descriptor_file.proofs.Places.{found, past, none}
use Rattle.descriptor_file.proofs.lexer.place_of.Goals as goal

pub returns-then-starts_with-clause-value : goal.returns-then-starts_with-clause-value
returns-then-starts_with-clause-value c =
    found c.args.text.now c.args.bytes.now c.loop-i.i c.loop-i-test.true c.loop-i.invariant
    (subst (λ (xs : List ℕ). begins c.args.text.now xs ≡ true) c.after.ensures (sym c.starts_with.ensures.value ∙ c.if-starts_with.true))

pub loop-i-preserved : goal.loop-i-preserved
loop-i-preserved c =
    past c.args.text.now c.args.bytes.now c.loop-i.i c.loop-i-test.true c.loop-i.invariant
    (subst (λ (xs : List ℕ). begins c.args.text.now xs ≡ false) c.after.ensures (sym c.starts_with.ensures.value ∙ c.if-starts_with.false))

pub returns-clause-value : goal.returns-clause-value
returns-clause-value c =
    let e : c.loop-i.i ≡ length c.args.bytes.now = omega arith in
    none c.args.text.now c.args.bytes.now (subst (λ (n : ℕ). place_of c.args.text.now c.args.bytes.now ≡ option_map (λ m. m + n) (place_of c.args.text.now (drop n c.args.bytes.now))) e c.loop-i.invariant)
