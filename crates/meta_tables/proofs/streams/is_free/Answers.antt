-- A stream is free where none of its bytes is taken.
use Rattle.std.proofs.Common.{ap, ◌∙◌}
use Rattle.meta_tables.specs.Held.{clear}
use Rattle.meta_tables.proofs.Taken.{clear_is_free}
use Rattle.meta_tables.proofs.streams.is_free.Goals as goal

pub returns : goal.returns
returns c = c.is_clear.ensures ∙ ap clear c.flags_of.ensures ∙ clear_is_free c.args.s.now c.args.earlier.now c.args.taken.now c.requires.taken c.requires.within
