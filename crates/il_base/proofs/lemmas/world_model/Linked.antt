-- Links by their places among those of their assembly.
use Rattle.std.proofs.Common.{◌≡◌, ℕ, zero, suc, ◌+◌, List, [], ◌∷◌, drop, take, sum_by, slice_get, Option, Some, None, refl, zero-add, arith}
use Rattle.std.specs.Option.{option_and_then}
use Rattle.il_base.specs.declared.world_model.links.LinkKind.{LinkKind}
use Rattle.il_base.specs.declared.world_model.record.AsmRec.{AsmRec}
use Rattle.il_base.specs.world_model.Worlds.{rows_before, behind, link_place}
use Rattle.il_base.proofs.lemmas.world_model.Counting.{before_is}
use Rattle.il_base.specs.world_model.Kinds.{rows_in, row_in, link_in}

pub no_assembly : {A : Type 0} (k : LinkKind) (recs : List AsmRec) (links : List A) (a token : ℕ) → slice_get recs a ≡ None → link_in k recs links a token ≡ None
unfolding link_place
no_assembly k recs links a token h = rw h refl

get_behind : {A : Type 0} (xs : List A) (n k : ℕ) → slice_get (drop n xs) k ≡ slice_get xs (n + k)
get_behind xs zero k = rw zero-add refl
get_behind [] (suc n) k = refl
get_behind (x ∷ xs) (suc n) k = let e : suc n + k ≡ suc (n + k) = omega arith in rw e (get_behind xs n k)

at_place : {A : Type 0} (links : List A) (n : ℕ) (at : Option ℕ) → option_and_then (slice_get (drop n links)) at ≡ option_and_then (slice_get links) (behind n at)
at_place links n None = refl
at_place links n (Some k) = get_behind links n k

pub in_assembly : {A : Type 0} (k : LinkKind) (recs : List AsmRec) (links : List A) (a token : ℕ) (rec : AsmRec) → slice_get recs a ≡ Some rec →
    option_and_then (slice_get (drop (sum_by (rows_in k) (take a recs)) links)) (row_in k rec token) ≡ link_in k recs links a token
unfolding link_place
in_assembly k recs links a token rec h = rw (h, before_is (rows_in k) recs a) (at_place links (rows_before (rows_in k) recs a) (row_in k rec token))
