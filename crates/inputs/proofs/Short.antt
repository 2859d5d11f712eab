-- Files that pass the limits.
use Rattle.std.proofs.Common.{◌≡◌, ℕ, zero, suc, ◌+◌, ◌<◌, ◌≤◌, ◌^◌, nat_le, List, [], ◌∷◌, length, Option, Some, None, slice_get, Bool, true, false, refl, sym, ap, ◌∙◌, arith, rules}
use Rattle.inputs.specs.declared.error.InputError.{InputError}
use Rattle.inputs.specs.Files.{or_fault, unless, count_fault, length_fault, sum_fault, limit_fault, AreShort}

pub front_passes : (a b : Option InputError) → or_fault a b ≡ None → a ≡ None
front_passes None b h = refl
front_passes (Some e) b h = h

pub rest_passes : (a b : Option InputError) → or_fault a b ≡ None → b ≡ None
rest_passes None b h = h
rest_passes (Some e) b h = search rules

pub holds : (b : Bool) (e : InputError) → unless b e ≡ None → b ≡ true
holds true e h = refl
holds false e h = search rules

pub short_at : (files : List (List ℕ)) (i : ℕ) (f : List ℕ) → AreShort files → slice_get files i ≡ Some f → length f < 2 ^ 32
unfolding AreShort
short_at [] i f short h = search rules
short_at (g ∷ gs) zero f short h = search rules
short_at (g ∷ gs) (suc i) f short h = short_at gs i f short.1 h

each_short : (files : List (List ℕ)) → length_fault files ≡ None → AreShort files
unfolding length_fault AreShort
each_short [] h = tt
each_short (f ∷ fs) h = (search rules, each_short fs (rest_passes _ _ h))

pub short_files : (files : List (List ℕ)) → limit_fault files ≡ None → AreShort files
short_files files h = each_short files (front_passes _ _ (rest_passes _ _ h))

pub few_files : (files : List (List ℕ)) → limit_fault files ≡ None → length files ≤ 64
few_files files h = search rules

pub all_pass : (a b c d : Option InputError) → a ≡ None → b ≡ None → c ≡ None → or_fault a (or_fault b (or_fault c d)) ≡ d
all_pass a b c d p q r = rw (p, q, r) refl
