use Rattle.machine_words.proofs.lemmas.cil_objects.TextLemmas.{too_long, is_made}
use Rattle.std.proofs.Common.{arith}
use Rattle.machine_words.proofs.cil_objects.texts.made_text.Goals as goal

pub returns-then-len-gt-TEXT_LIMIT : goal.returns-then-len-gt-TEXT_LIMIT
returns-then-len-gt-TEXT_LIMIT c = too_long c.args.units c.args.st.now c.args.st.now (omega (arith, c.if-len-gt-TEXT_LIMIT.true, c.len.ensures))

pub returns : goal.returns
returns c = is_made c.args.units c.args.st.now c.add.new.self c.in_ok-at.at (omega (arith, c.if-len-gt-TEXT_LIMIT.false, c.len.ensures)) c.in_ok-at.ensures.ok c.in_ok-at.ensures.place
