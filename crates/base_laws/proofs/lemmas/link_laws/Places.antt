-- Where the links of an assembly stand among all.
use Rattle.std.proofs.Common.{◌≡◌, ◌<◌, ℕ, zero, suc, ◌+◌, List, [], ◌∷◌, ◌++◌, length, Some, ap, ◌∙◌, arith}
use Rattle.std.specs.Prelude.{slice_get}
use Rattle.il_base.specs.declared.world_model.record.AsmRec.{AsmRec}
use Rattle.il_base.specs.world_model.Worlds.{rows_before}
use Rattle.rules.specs.link_rules.Linked.{links_from}
use Rattle.base_laws.proofs.lemmas.link_laws.Lists.{get_front, get_behind}

-- a link of an assembly, after those of the assemblies before
pub link_in : {A : Type 0} (links : ℕ → AsmRec → List A) (count : AsmRec → ℕ) → ((i : ℕ) (r : AsmRec) → length (links i r) ≡ count r)
    → (recs : List AsmRec) (i a j : ℕ) (rec : AsmRec) → slice_get recs a ≡ Some rec → j ≡ i + a → (k : ℕ) → k < count rec
    → slice_get (links_from links i recs) (rows_before count recs a + k) ≡ slice_get (links j rec) k
unfolding rows_before
link_in links count all [] i a j rec is at k below = cc
link_in links count all (r ∷ recs) i zero j rec is at k below =
    let same : r ≡ rec = cc in
    let here : k < length (links i r) = rw (all i r, same) below in
    let from : i ≡ j = omega arith in
    ap (slice_get (links i r ++ links_from links (suc i) recs)) (omega arith) ∙ get_front (links i r) (links_from links (suc i) recs) k here
    ∙ ap (λ (n : ℕ). slice_get (links n r) k) from ∙ ap (λ (s : AsmRec). slice_get (links j s) k) same
link_in links count all (r ∷ recs) i (suc a) j rec is at k below =
    let long : count r + rows_before count recs a + k ≡ length (links i r) + (rows_before count recs a + k) = rw (all i r) (omega arith) in
    ap (slice_get (links i r ++ links_from links (suc i) recs)) long ∙ get_behind (links i r) (links_from links (suc i) recs) (rows_before count recs a + k)
    ∙ link_in links count all recs (suc i) a j rec is (omega arith) k below
