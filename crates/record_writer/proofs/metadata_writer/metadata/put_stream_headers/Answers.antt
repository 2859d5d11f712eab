use Rattle.std.proofs.Common.{codes, ◌++◌}
use Rattle.rules.specs.file_layout.Bytes.{zeros}
use Rattle.rules.specs.file_layout.Metadata.{stream_headers}
use Rattle.record_writer.proofs.lemmas.byte_writer.Chains.{then_ok, five}
use Rattle.record_writer.proofs.lemmas.metadata_writer.Headers.{as_header}
use Rattle.record_writer.proofs.metadata_writer.metadata.put_stream_headers.Goals as goal

pub returns : goal.returns
unfolding stream_headers
returns c =
    then_ok _ _ c.put_stream_header-5.result
    (λ e. five _ _ _ _ _ _ _ _ _ _ _ c.in_ok-put_stream_header.ensures
    (as_header _ _ c.args.s.now.strings.now (codes "#Strings" ++ zeros 4) _ _ c.strings_at.ensures c.in_ok-put_stream_header-2.ensures)
    (as_header _ _ c.args.s.now.users.now (codes "#US" ++ zeros 1) _ _ c.users_at.ensures c.in_ok-put_stream_header-3.ensures)
    (as_header _ _ c.args.s.now.guids.now (codes "#GUID" ++ zeros 3) _ _ c.guids_at.ensures c.in_ok-put_stream_header-4.ensures)
    (as_header _ _ c.args.s.now.blobs.now (codes "#Blob" ++ zeros 3) _ _ c.blobs_at.ensures e))
    c.put_stream_header-5.ensures
