-- Flaws as the definitions of marking have them.
use Rattle.rules.specs.mark_rules.BadItems as rules
use Rattle.bad_items.specs.declared.mark_flaws.flaw.Flaw.{Flaw}

abbrev pub flaw_told : Flaw → rules.Flaw
flaw_told f = record { asm = f.asm; token = f.token; offset = f.offset; kind = f.kind }
