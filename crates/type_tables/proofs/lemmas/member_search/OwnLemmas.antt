-- Types of the core library, which is the last assembly.
use Rattle.std.proofs.Common.{◌≡◌, suc, ◌-◌, ◌≤◌, true, List, length, get_or, Some, None, refl, arith}
use Rattle.std.specs.Prelude.{◌==◌, slice_get}
use Rattle.std.proofs.lemmas.Bool.Decides.{nat_tests}
use Rattle.il_base.specs.declared.world_model.record.AsmRec.{AsmRec}
use Rattle.il_base.specs.declared.world_model.types.TypeDefRow.{TypeDefRow}
use Rattle.il_base.specs.world_model.Worlds.{prim_of}
use Rattle.il_base.proofs.lemmas.world_model.Counting.{core_last}
use Rattle.rules.specs.declared.link_rules.row_at.RowAt.{RowAt}
use Rattle.rules.specs.link_rules.Signatures.{prim_at}

module _ (recs : List AsmRec) (core : AsmRec) (at : RowAt) (some : 1 ≤ length recs) (is : core ≡ get_or recs (length recs - 1) core) (last : at.asm ≡ length recs - 1) where
  pub prim_in_core : (row : TypeDefRow) → Some row ≡ slice_get core.type_def at.row → prim_of row ≡ prim_at recs at
  prim_in_core row e =
      let here : (suc at.asm == length recs) ≡ true = grind (arith, nat_tests) in
      rw (here, ← core_last recs core some is, ← e) refl

  pub none_in_core : None ≡ slice_get core.type_def at.row → None ≡ prim_at recs at
  none_in_core e =
      let here : (suc at.asm == length recs) ≡ true = grind (arith, nat_tests) in
      rw (here, ← core_last recs core some is, ← e) refl
