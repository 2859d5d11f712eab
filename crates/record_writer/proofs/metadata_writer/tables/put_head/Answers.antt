use Rattle.std.proofs.Common.{ℕ, ◌++◌, ◌∙◌, ap}
use Rattle.byteorder.specs.Endian.{little_bytes}
use Rattle.rules.specs.file_layout.TableStream.{head_bytes}
use Rattle.record_writer.proofs.lemmas.byte_writer.Chains.{then_ok, four}
use Rattle.record_writer.proofs.metadata_writer.tables.put_head.Goals as goal

pub returns : goal.returns
unfolding head_bytes
returns c =
    then_ok _ _ c.put_counts.result
    (four _ _ _ _ _ _ _ _ _ c.in_ok-extend_from_slice.ensures.items
    (c.in_ok-put_number.ensures ∙ ap (λ (n : ℕ). c.extend_from_slice.new.self.items ++ little_bytes 8 n) c.valid_bits.ensures)
    c.in_ok-put_number-2.ensures)
    c.put_counts.ensures
