-- Texts put at the end, one after the other.
use Rattle.std.proofs.Common.{◌≡◌, ℕ, List, [], ◌∷◌, ◌++◌, refl, append_assoc}
use Rattle.std.specs.Prelude.{codes, suc}
use Rattle.std.proofs.lemmas.List.{append-nil}
use Rattle.il_base.specs.declared.ids.TypeId.{TypeId}
use Rattle.il_base.specs.declared.world_model.record.AsmRec.{AsmRec}
use Rattle.rules.specs.declared.link_rules.row_at.RowAt.{RowAt}
use Rattle.trim_core.specs.Colliding.{collision_in, type_place, type_name}

pub none_more : {A : Type 0} (out : List A) → out ++ [] ≡ out
none_more out = append-nil out

-- `:` is 58
pub place_put : (out name token : List ℕ) → ((out ++ name) ++ 58 ∷ []) ++ token ≡ out ++ (name ++ codes ":" ++ token)
place_put out name token = simp append_assoc

-- a blank is 32
pub collision_put : (a b name : List ℕ) → (((([] ++ a) ++ 32 ∷ []) ++ b) ++ 32 ∷ []) ++ name ≡ a ++ codes " " ++ b ++ codes " " ++ name
collision_put a b name = refl
