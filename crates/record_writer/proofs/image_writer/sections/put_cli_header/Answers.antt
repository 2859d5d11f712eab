use Rattle.rules.specs.file_layout.Image.{cli_header}
use Rattle.record_writer.proofs.lemmas.byte_writer.Chains.{then_ok, four, as_word}
use Rattle.record_writer.proofs.image_writer.sections.put_cli_header.Goals as goal

pub returns : goal.returns
unfolding cli_header
returns c =
    then_ok _ _ c.put_zeros.result
    (four _ _ _ _ _ _ _ _ _ c.in_ok-put_cli_front.ensures (as_word _ _ _ _ c.from.ensures c.in_ok-put_word.ensures) (as_word _ _ _ _ c.from-2.ensures c.in_ok-put_word-2.ensures))
    c.put_zeros.ensures
