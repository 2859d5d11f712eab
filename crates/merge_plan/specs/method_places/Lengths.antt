-- How many bytes the parts of a body take; lists are counted modulo 2^32.
use Rattle.std.specs.Prelude.{ℕ, ◌+◌, ◌-◌, ◌*◌, ◌%◌, length, if◌then◌else◌}
use Rattle.il_base.specs.declared.body.Body.{Body}
use Rattle.il_base.specs.body_grammar.Bodies.{aligned, clause_size}
use Rattle.il_base.specs.body_grammar.BodySpelling.{has_section}

-- the bytes after a code of this size
abbrev pub section_size : Body → ℕ → ℕ
section_size b n =
    if has_section b then aligned (12 + n) - (12 + n) + (4 + clause_size b.fat_handlers * (length b.handlers % 4294967296)) else 0
