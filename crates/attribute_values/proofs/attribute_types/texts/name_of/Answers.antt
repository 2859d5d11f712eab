use Rattle.std.proofs.Common.{ℕ, List, ap, ◌∙◌}
use Rattle.std.specs.Char.Utf16.{utf16_chars}
use Rattle.attr_blobs.specs.TypeNames.{name_of}
use Rattle.attribute_values.proofs.lemmas.attribute_types.Letters.{text_back}
use Rattle.attribute_values.proofs.attribute_types.texts.name_of.Goals as goal

pub returns : goal.returns
returns c =
    c.in_ok-name.ensures ∙ ap (λ (units : List ℕ). name_of (utf16_chars units)) c.in_ok-units.ensures ∙ ap name_of (text_back c.args.text.now c.utf8.text)
