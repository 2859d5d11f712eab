use Rattle.std.proofs.Common.{◌≡◌, Some, map, sym, ◌∙◌, rules}
use Rattle.std.specs.Str.{chars}
use Rattle.attr_blobs.specs.TypeNames.{name_of}
use Rattle.attr_blobs.proofs.Sizes.{text_named, text_malformed}
use Rattle.attribute_values.proofs.attribute_types.texts.name_of_text.Goals as goal

pub returns-in-Err : goal.returns-in-Err
returns-in-Err c = sym (text_malformed c.args.text.now c.in-Err.ensures.cases.0)

pub returns-in_ok-name-in-Ok : goal.returns-in_ok-name-in-Ok
returns-in_ok-name-in-Ok c =
    let n : c.in_ok-name-in-Ok.name ≡ name_of (map (λ l. Some l) (chars c.args.text.now)) = search rules in
    n ∙ sym (text_named c.args.text.now c.in-Ok.ensures.cases.1)
