-- The name is the text of eight bytes that the arm reads.
use Rattle.std.proofs.Common.{rules, ◌≡◌, codes, sym, ap}
use Rattle.std.proofs.lemmas.Slice.Eq.{text_from_reads}
use Rattle.il_base.specs.cli_format.Streams.{named}
use Rattle.il_base.proofs.cli_format.stream.stream_name.Goals as goal

pub returns-in-35-2 : goal.returns-in-35-2
returns-in-35-2 c =
    let is : c.args.name.now ≡ codes "#Strings" = text_from_reads c.args.name.now (codes "#Strings") (search rules) (search rules) in
    sym (ap named is)
