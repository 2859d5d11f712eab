-- A kept method of an input.
use Rattle.std.proofs.Common.{◌≡◌, ◌<◌, suc, List, [], ◌∷◌, length, Option, Some, true, sym, subst}
use Rattle.std.specs.Prelude.{slice_get}
use Rattle.std.specs.List.{Contains, flat_map}
use Rattle.il_base.specs.declared.body.Body.{Body}
use Rattle.il_base.specs.declared.world_model.known.Known.{Known}
use Rattle.il_base.specs.declared.world_model.known.Known.TheVariants.{Good, Bad}
use Rattle.il_base.specs.declared.world_model.members.MethodDefRow.{MethodDefRow}
use Rattle.il_base.specs.declared.world_model.record.AsmRec.{AsmRec}
use Rattle.rules.specs.declared.link_rules.row_at.RowAt.{RowAt}
use Rattle.rules.specs.link_rules.Cycles.{listed}
use Rattle.base_laws.proofs.lemmas.known_laws.Lists.{first_in}
use Rattle.rules.specs.mark_rules.Places.{method_item}
use Rattle.rules.specs.mark_rules.Bodies.{body_of}
use Rattle.rules.specs.merged_world_rules.Merge.{Merge, before}

pub record IsKept (m : Merge) (at : RowAt) (rec : AsmRec) (row : MethodDefRow) : Type 0 where
  pub there : slice_get (before m) at.asm ≡ Some rec
  pub input : suc at.asm < length (before m)
  pub is : slice_get rec.method_def at.row ≡ Some row
  pub keeps : m.kept (method_item (before m) at) ≡ true

-- a body that has a reading
abbrev good_bodies : Known Body → List Body
good_bodies (Good b) = b ∷ []
good_bodies (Bad why) = []

pub body_in : (row : MethodDefRow) (b : Body) → row.body ≡ Some (Good b) → Contains (body_of row) b
body_in row b e = subst (λ (x : Option (Known Body)). Contains (flat_map good_bodies (listed x)) b) (sym e) (first_in b [])
