-- An assembly of a world with the numbers of its tokens.
use Rattle.std.specs.Prelude.{◌≡◌, ℕ, List}
use Rattle.il_base.specs.declared.world_model.record.AsmRec.{AsmRec}
use Rattle.mark_parts.specs.mark_tables.Assemblies as assemblies
use Rattle.mark_parts.specs.mark_tables.Assemblies.{all_of, IsAssembly, IsMarker}
use Rattle.token_keys.specs.signature_rows.Laws.{AreNumbers}
use Rattle.token_keys.specs.declared.keys.Keys.{Keys}

-- all assemblies of the world, the place of this one, and its record
abbrev pub recs_of : Keys → List AsmRec
recs_of k = all_of k.marker.now

abbrev pub place_of : Keys → ℕ
place_of k = k.asm.scope.asm

abbrev pub rec_of : Keys → AsmRec
rec_of k = k.asm.scope.rec.now

pub record IsKeys (k : Keys) : Type 0 where
  pub marker : IsMarker k.marker.now
  pub asm : IsAssembly k.asm
  pub recs : assemblies.recs_of k.asm ≡ all_of k.marker.now
  pub numbers : AreNumbers (recs_of k) (place_of k) (rec_of k) k.numbers.now
