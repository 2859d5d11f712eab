-- The flag of an item is that of its kind.
use Rattle.std.proofs.Common.{◌≡◌, ℕ, refl}
use Rattle.merge_plan.specs.declared.kept.KeptItems.{KeptItems}
use Rattle.merge_plan.specs.declared.kept.Kind.{Kind}
use Rattle.merge_plan.specs.declared.kept.Kind.TheVariants.{Types, Methods, Fields, Properties, Events, Interfaces}
use Rattle.merge_plan.specs.Kept.{has_flag, flags_of, item_of, kept_by}

pub flag_is : (k : KeptItems) (kind : Kind) (n : ℕ) → has_flag (flags_of k kind) n ≡ kept_by k (item_of kind n)
flag_is k Types n = refl
flag_is k Methods n = refl
flag_is k Fields n = refl
flag_is k Properties n = refl
flag_is k Events n = refl
flag_is k Interfaces n = refl
