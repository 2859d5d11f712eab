-- The sections passed so far are within the file.
use Rattle.std.proofs.Common.{◌≡◌, None}
use Rattle.il_base.specs.cli_format.Demand.{first_fault, each_below}
use Rattle.il_base.specs.cli_format.Image.{section_demands}
use Rattle.pe_image.proofs.sections.check_sections.Given as goal

abbrev pub invariant-loop-i : goal.invariant-loop-i
invariant-loop-i l = first_fault (each_below (section_demands l.bytes) l.i) ≡ None
