use Rattle.std.proofs.Common.{Some, map, sym, ap, ◌∙◌}
use Rattle.std.specs.Str.{chars}
use Rattle.attr_blobs.specs.TypeNames.{name_of}
use Rattle.attr_blobs.proofs.Sizes.{text_named, text_malformed}
use Rattle.descriptor_texts.proofs.name_texts.name_of_text.Goals as goal

pub returns-in-Err : goal.returns-in-Err
returns-in-Err c = sym (text_malformed c.args.text.now c.in-Err.ensures.cases.0)

pub returns-in_ok-name-in-Ok : goal.returns-in_ok-name-in-Ok
returns-in_ok-name-in-Ok c =
    c.in_ok-name-in-Ok.ensures ∙ ap name_of (c.in_ok-units-in-Ok.ensures ∙ ap (λ t. map (λ l. Some l) (chars t)) c.in-Ok.ensures.cases.0) ∙ sym (text_named c.args.text.now c.in-Ok.ensures.cases.1)
