-- An assembly of a world in which attributes are read.
use Rattle.std.specs.Prelude.{◌≡◌, ℕ, List}
use Rattle.il_base.specs.declared.world_model.record.AsmRec.{AsmRec}
use Rattle.resolver.specs.type_links.Index.{IsIndex}
use Rattle.mark_parts.specs.mark_tables.Assemblies.{recs_of, place_of, rec_of, all_of, IsAssembly, IsMarker}
use Rattle.attribute_values.specs.declared.attribute_kinds.site.Site.{Site}

-- the assemblies of the world, the place of this one, and its record
abbrev pub recs_in : Site → List AsmRec
recs_in s = all_of s.marker.now

abbrev pub place_in : Site → ℕ
place_in s = place_of s.asm

abbrev pub rec_in : Site → AsmRec
rec_in s = rec_of s.asm

pub record IsSite (s : Site) : Type 0 where
  pub marker : IsMarker s.marker.now
  pub index : IsIndex s.index.now
  pub all : s.index.now.all.now ≡ recs_in s
  pub asm : IsAssembly s.asm
  pub recs : recs_of s.asm ≡ recs_in s
