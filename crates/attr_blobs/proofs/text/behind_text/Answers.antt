use Rattle.attr_blobs.proofs.Texts.{text_cut, text_bad, text_on, text_done, rest_on, rest_within}
use Rattle.attr_blobs.proofs.text.behind_text.Goals as goal

pub returns-in_default-clause-gives : goal.returns-in_default-clause-gives
returns-in_default-clause-gives c = text_cut c.args.size c.loop-i.i c.loop-i.now c.loop-i.rest.now _ c.loop-i-test.true c.in_default.len_below c.loop-i.invariant.so_far

pub returns-in-None-clause-gives : goal.returns-in-None-clause-gives
returns-in-None-clause-gives c = text_bad c.args.size c.loop-i.i c.loop-i.now c.loop-i.rest.now _ c.loop-i-test.true c.in-len1-up.len_at_least c.in-None.ensures c.loop-i.invariant.so_far

pub loop-i-preserved : goal.loop-i-preserved
loop-i-preserved c = record {
  so_far = text_on c.args.size c.loop-i.i c.loop-i.now c.in-Some.next c.loop-i.rest.now _ c.loop-i-test.true c.in-len1-up.len_at_least c.in-Some.ensures c.loop-i.invariant.so_far;
  rest = rest_on c.args.bytes.now c.loop-i.rest.now c.loop-i.i c.loop-i.invariant.rest;
  within = rest_within c.args.bytes.now c.loop-i.rest.now c.loop-i.i c.loop-i.invariant.rest c.in-len1-up.len_at_least;
}

pub returns-clause-gives : goal.returns-clause-gives
returns-clause-gives c = text_done c.args.size c.loop-i.i c.loop-i.now c.loop-i.rest.now _ c.loop-i-test.false c.loop-i.invariant.so_far
