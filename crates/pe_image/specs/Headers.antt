-- What the headers of a file give.
use Rattle.std.specs.Prelude.{ℕ, List}
use Rattle.il_base.specs.cli_format.Image.{sections_place, section_count, directory_place, subsystem_of}
use Rattle.pe_image.specs.declared.headers.Headers.{Headers}

-- where its sections and directory 14 are
abbrev pub headers_of : List ℕ → Headers
headers_of bs = record { sections = sections_place bs; count = section_count bs; directory = directory_place bs; subsystem = subsystem_of bs }
