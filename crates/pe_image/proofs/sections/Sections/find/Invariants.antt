-- The RVA lies in none of the sections passed so far.
use Rattle.std.proofs.Common.{◌≡◌, ◌-◌}
use Rattle.il_base.specs.cli_format.Image.{sections_from, section_of, sections_of}
use Rattle.pe_image.proofs.sections.Sections.find.Given as goal

abbrev pub invariant-loop-i : goal.invariant-loop-i
invariant-loop-i l =
    section_of (sections_from l.self-inside.bytes.now (l.self-inside.count - l.i) l.i) l.rva
    ≡ section_of (sections_of l.self-inside.bytes.now) l.rva
