-- A text begins where a character stands in front of a text.
use Rattle.std.proofs.Common.{◌<◌, length, sym, ◌∙◌, arith}
use Rattle.meta_tables.proofs.Utf8.{text_lead, goes_on, breaks_off}
use Rattle.meta_tables.proofs.texts.begins.Goals as goal

pub returns-then-is_text : goal.returns-then-is_text
returns-then-is_text c =
    let lt : c.args.next < length c.args.heap.now = omega arith in
    let lead = text_lead c.args.heap.now c.args.at c.args.next c.requires.order lt c.if-b-eq0.false c.requires.tails c.requires.lead in
    goes_on _ _ _ _ lead (sym c.is_text.ensures ∙ c.if-is_text.true) (c.requires.good c.args.next (omega arith) lt)

pub returns-else-is_text : goal.returns-else-is_text
returns-else-is_text c =
    let lt : c.args.next < length c.args.heap.now = omega arith in
    let lead = text_lead c.args.heap.now c.args.at c.args.next c.requires.order lt c.if-b-eq0.false c.requires.tails c.requires.lead in
    c.is_text.ensures ∙ breaks_off _ _ _ lead (sym c.is_text.ensures ∙ c.if-is_text.false)
