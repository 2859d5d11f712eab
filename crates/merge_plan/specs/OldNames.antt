-- Types with their full names in the inputs.
use Rattle.std.specs.Prelude.{◌≡◌, List, map}
use Rattle.il_base.specs.declared.world_model.record.AsmRec.{AsmRec}
use Rattle.rules.specs.declared.link_rules.row_at.RowAt.{RowAt}
use Rattle.rules.specs.merge_rules.Names.{old_name}
use Rattle.merge_plan.specs.declared.full_names.OldName.{OldName}

abbrev pub types_of : List OldName → List RowAt
types_of old = map (λ (o : OldName). o.typ) old

-- each has the full name that its row has
pub record AreOldNames (recs : List AsmRec) (old : List OldName) : Type 0 where
  pub are : map (λ (o : OldName). o.full.items) old ≡ map (λ (o : OldName). old_name recs o.typ) old
