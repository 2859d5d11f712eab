-- The texts so far.
use Rattle.std.proofs.Common.{◌≡◌}
use Rattle.il_base.specs.declared.cli_format.stream.StreamName.TheVariants.{UserStrings}
use Rattle.il_base.specs.cli_format.Image.{metadata_of}
use Rattle.il_base.specs.cli_format.Streams.{heap}
use Rattle.world_reader.specs.user_strings.Marks.{texts_marked}
use Rattle.world_reader.proofs.user_strings.texts.texts_marked.Given as goal

abbrev pub invariant-loop-at : goal.invariant-loop-at
invariant-loop-at l = l.texts ≡ texts_marked (heap (metadata_of l.file) UserStrings) l.marks l.at
