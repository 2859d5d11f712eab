use Rattle.std.proofs.Common.{[], ◌++◌, map, Some, sym, ap, ◌∙◌, map-id}
use Rattle.std.proofs.lemmas.List.{append-nil}
use Rattle.std.proofs.lemmas.Iterator.{YieldsList-from_chars}
use Rattle.std.proofs.lemmas.Iterator.Consumers.{YieldsList-end}
use Rattle.std.proofs.lemmas.Str.{utf16_chars-nil}
use Rattle.std.specs.Char.Utf16.{utf16_chars}
use Rattle.descriptor_texts.proofs.name_texts.units_of_text.Goals as goal

pub returns : goal.returns
returns c =
    let end = YieldsList-end (YieldsList-from_chars c.args.text.now c.utf8.text cc) c.loop-c.yielded _ c.loop-c.yielded_by _ _ c.in-None.is c.next.ensures.steps in
    sym (ap utf16_chars (append-nil c.loop-c.units)) ∙ c.loop-c.invariant []
    ∙ ap (λ ys. map (λ c. Some c) c.loop-c.yielded ++ ys) utf16_chars-nil ∙ append-nil (map (λ c. Some c) c.loop-c.yielded)
    ∙ ap (map (λ c. Some c)) (sym (map-id c.loop-c.yielded) ∙ end.0)
