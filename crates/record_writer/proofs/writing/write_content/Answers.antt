use Rattle.std.proofs.Common.{◌≡◌, ◌<◌, ◌^◌, List, ℕ, ◌++◌, length, ap, ◌∙◌, arith}
use Rattle.rules.specs.file_layout.Metadata.{metadata_bytes}
use Rattle.rules.specs.record_layout.Tables.{code_of}
use Rattle.rules.specs.record_layout.Laid.{streams_of, laid_length}
use Rattle.record_writer.specs.metadata_writer.Written.{IsPut}
use Rattle.record_writer.proofs.lemmas.metadata_writer.Whole.{put_as}
use Rattle.record_writer.proofs.Whole.{length_is, laid_is}
use Rattle.record_writer.proofs.Passed.{bytes_passed, none_passed}
use Rattle.record_writer.proofs.writing.write_content.Goals as goal

pub returns-then-found-gt-MOST-clause-refused : goal.returns-then-found-gt-MOST-clause-refused
returns-then-found-gt-MOST-clause-refused c =
    let code : c.deref.result.now ≡ code_of c.args.rec.now = c.deref.ensures.value ∙ c.requires.content.code in
    let metadata : IsPut c.deref-2.result.now (metadata_bytes (streams_of c.args.rec.now)) = put_as _ _ _ c.deref-2.ensures.value c.requires.content.metadata in
    let found : c.image_length-found.result ≡ laid_length c.args.rec.now = c.image_length-found.ensures.value ∙ length_is c.args.rec.now _ _ code metadata in
    bytes_passed c.args.rec.now c.image_length-found.result c.requires.rows c.requires.users found (omega arith)

pub returns-clause-within : goal.returns-clause-within
returns-clause-within c =
    let code : c.deref.result.now ≡ code_of c.args.rec.now = c.deref.ensures.value ∙ c.requires.content.code in
    let metadata : IsPut c.deref-2.result.now (metadata_bytes (streams_of c.args.rec.now)) = put_as _ _ _ c.deref-2.ensures.value c.requires.content.metadata in
    let found : c.image_length-found.result ≡ laid_length c.args.rec.now = c.image_length-found.ensures.value ∙ length_is c.args.rec.now _ _ code metadata in
    none_passed c.args.rec.now c.requires.rows c.requires.users (omega (arith, found))

pub returns-clause-written : goal.returns-clause-written
returns-clause-written c =
    let code : c.deref.result.now ≡ code_of c.args.rec.now = c.deref.ensures.value ∙ c.requires.content.code in
    let metadata : IsPut c.deref-2.result.now (metadata_bytes (streams_of c.args.rec.now)) = put_as _ _ _ c.deref-2.ensures.value c.requires.content.metadata in
    let short : length c.deref-2.result.now < 2 ^ 29 = omega (arith, c.image_length-found.ensures.most) in
    c.in_ok-append.ensures.ok
    ∙ ap (λ (bs : List ℕ). c.args.out.now.items ++ bs) (c.deref-3.ensures.value ∙ c.in_ok-file.ensures ∙ laid_is c.args.rec.now _ _ code metadata short)
