use Rattle.std.proofs.Common.{◌≡◌, ◌++◌, rules}
use Rattle.attr_blobs.specs.Writing.{arg_bytes}
use Rattle.attr_blobs.proofs.Layers.{fixed_step, fixed_short, fixed_done, extends_more}
use Rattle.attr_blobs.proofs.write.put_fixed.Goals as goal

pub returns-then-i-args-clause-ok : goal.returns-then-i-args-clause-ok
returns-then-i-args-clause-ok c = fixed_short c.args.params.now c.args.args.now c.loop-i.i c.loop-i.out.items _ c.if-i-args.true c.loop-i.invariant.so_far

pub loop-i-preserved : goal.loop-i-preserved
loop-i-preserved c =
    let n : c.put_arg.new.out.items ≡ c.loop-i.out.items ++ arg_bytes c.index-args-i.result c.index-params-i.result = search rules in
    record {
      extends = extends_more _ _ _ _ c.loop-i.invariant.extends n;
      so_far = fixed_step c.args.params.now c.args.args.now c.loop-i.i c.index-params-i.result c.index-args-i.result c.loop-i.out.items _ _ c.loop-i-test.true c.index-params-i.is c.if-i-args.false c.index-args-i.is n c.loop-i.invariant.so_far;
    }

pub returns-clause-ok : goal.returns-clause-ok
returns-clause-ok c = fixed_done c.args.params.now c.args.args.now c.loop-i.i c.loop-i.out.items _ c.loop-i-test.false c.loop-i.invariant.so_far
