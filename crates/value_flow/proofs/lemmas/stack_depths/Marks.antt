-- Depths as one of them is set.
use Rattle.std.proofs.Common.{◌≡◌, ℕ, zero, suc, ◌<◌, List, [], ◌∷◌, ◌⊎◌, inl, inr, refl, ap, slice_set, length, arith, replicate}
use Rattle.std.specs.Prelude.{Option, Some, None}
use Rattle.rules.specs.flow_rules.Depths.{depth_at}
use Rattle.value_flow.specs.stack_depths.Search.{missing}

pub below_length : (ds : List (Option ℕ)) (i d : ℕ) → depth_at ds i ≡ Some d → i < length ds
below_length [] i d e = cc
below_length (x ∷ ds) zero d e = omega arith
below_length (x ∷ ds) (suc i) d e = let h : i < length ds = below_length ds i d e in omega arith

pub still_there : (ds : List (Option ℕ)) (c f i d : ℕ) → depth_at ds c ≡ None → depth_at ds i ≡ Some d → depth_at (slice_set ds c (Some f)) i ≡ Some d
still_there [] c f i d n e = e
still_there (x ∷ ds) zero f zero d n e = cc
still_there (x ∷ ds) zero f (suc i) d n e = e
still_there (x ∷ ds) (suc c) f zero d n e = e
still_there (x ∷ ds) (suc c) f (suc i) d n e = still_there ds c f i d n e

pub now_there : (ds : List (Option ℕ)) (c f : ℕ) → c < length ds → depth_at (slice_set ds c (Some f)) c ≡ Some f
now_there [] c f h = absurd (omega arith)
now_there (x ∷ ds) zero f h = refl
now_there (x ∷ ds) (suc c) f h = now_there ds c f (omega arith)

same_depth : (f d : ℕ) → Some f ≡ Some d → d ≡ f
same_depth f d e = cc

next_place : (ds : List (Option ℕ)) (x : Option ℕ) (c f i d : ℕ) → (depth_at ds i ≡ Some d) ⊎ ((i ≡ c) × (d ≡ f)) → (depth_at ds i ≡ Some d) ⊎ ((suc i ≡ suc c) × (d ≡ f))
next_place ds x c f i d (inl h) = inl h
next_place ds x c f i d (inr h) = inr (ap suc h.0, h.1)

pub newly_there : (ds : List (Option ℕ)) (c f i d : ℕ) → depth_at (slice_set ds c (Some f)) i ≡ Some d → (depth_at ds i ≡ Some d) ⊎ ((i ≡ c) × (d ≡ f))
newly_there [] c f i d e = inl e
newly_there (x ∷ ds) zero f zero d e = inr (refl, same_depth f d e)
newly_there (x ∷ ds) zero f (suc i) d e = inl e
newly_there (x ∷ ds) (suc c) f zero d e = inl e
newly_there (x ∷ ds) (suc c) f (suc i) d e = next_place ds x c f i d (newly_there ds c f i d e)

pub one_fewer : (ds : List (Option ℕ)) (c f : ℕ) → c < length ds → depth_at ds c ≡ None → suc (missing (slice_set ds c (Some f))) ≡ missing ds
one_fewer [] c f h e = absurd (omega arith)
one_fewer (None ∷ ds) zero f h e = refl
one_fewer (Some d ∷ ds) zero f h e = cc
one_fewer (None ∷ ds) (suc c) f h e = ap suc (one_fewer ds c f (omega arith) e)
one_fewer (Some d ∷ ds) (suc c) f h e = one_fewer ds c f (omega arith) e

pub none_there : (n i d : ℕ) → depth_at (replicate n None) i ≡ Some d → ⊥
none_there zero i d e = cc
none_there (suc n) zero d e = cc
none_there (suc n) (suc i) d e = none_there n i d e
