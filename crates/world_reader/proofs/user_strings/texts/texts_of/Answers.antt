-- The flags are those of the methods, one for each offset that a token can have.
use Rattle.std.proofs.Common.{◌≡◌, ◌∙◌, ℕ, List, length, min, ap}
use Rattle.il_base.specs.declared.cli_format.stream.StreamName.TheVariants.{UserStrings}
use Rattle.il_base.specs.cli_format.Image.{metadata_of}
use Rattle.il_base.specs.cli_format.Streams.{heap}
use Rattle.rules.specs.record_format.Texts.{text_offsets}
use Rattle.world_reader.specs.user_strings.Marks.{marks_of}
use Rattle.world_reader.proofs.lemmas.user_strings.Marks.{marks_few, texts_given}
use Rattle.world_reader.proofs.user_strings.texts.texts_of.Goals as goal

pub texts_marked-requires : goal.texts_marked-requires
texts_marked-requires c =
    let user : List ℕ = heap (metadata_of c.args.file.now) UserStrings in
    let are : c.as_slice.result.now ≡ marks_of c.min-count.result c.args.methods.now = c.as_slice.ensures.value ∙ c.in_ok-marks.ensures in
    let count : c.min-count.result ≡ text_offsets user = c.min-count.ensures ∙ ap (λ (xs : List ℕ). min (length xs) 16777216) c.user_strings.ensures in
    marks_few user c.args.methods.now c.min-count.result c.as_slice.result.now are count

pub returns : goal.returns
returns c =
    let user : List ℕ = heap (metadata_of c.args.file.now) UserStrings in
    let are : c.as_slice.result.now ≡ marks_of c.min-count.result c.args.methods.now = c.as_slice.ensures.value ∙ c.in_ok-marks.ensures in
    let count : c.min-count.result ≡ text_offsets user = c.min-count.ensures ∙ ap (λ (xs : List ℕ). min (length xs) 16777216) c.user_strings.ensures in
    texts_given c.texts_marked.result user c.args.methods.now c.min-count.result c.as_slice.result.now are count c.texts_marked.ensures
