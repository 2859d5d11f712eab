use Rattle.std.proofs.Common.{◌∙◌}
use Rattle.record_writer.proofs.Whole.{put_of_record, code_from}
use Rattle.record_writer.proofs.writing.content_of.Goals as goal

pub returns : goal.returns
returns c = record {
  code = code_from c.args.rec.now _ _ _ _ c.in_ok-code.ensures.bytes c.in_ok-bodies.ensures.bytes c.as_slice.ensures c.as_slice-2.ensures;
  metadata = put_of_record c.args.rec.now c.in_ok-metadata.metadata.items _ _ (c.as_slice-3.ensures ∙ c.in_ok-tables.ensures.value) c.as_slice-4.ensures c.in_ok-metadata.ensures;
}
