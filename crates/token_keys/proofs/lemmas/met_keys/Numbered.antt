-- Types are the same where their places are.
use Rattle.std.proofs.Common.{◌≡◌, ℕ, ap, bytes_eq}
use Rattle.std.proofs.lemmas.Bool.{eqb-true, eq-eqb}
use Rattle.il_base.specs.declared.ids.TypeId.{TypeId}
use Rattle.link_faults.proofs.Distinct.{same_by_code}
use Rattle.rules.specs.merge_rules.Refs.{same_id}
use Rattle.token_keys.specs.met_keys.Ids.{id_code}

id_distinct : (t u : TypeId) → id_code t ≡ id_code u → t ≡ u
id_distinct t u e = let f : t.0 ≡ u.0 = cc in ap (λ (n : ℕ). record { 0 = n }) f

pub by_id : (t u : TypeId) → same_id t u ≡ bytes_eq (id_code t) (id_code u)
by_id = same_by_code same_id id_code (λ t u. (λ h. ap (λ (n : ℕ). record { 0 = n }) (eqb-true t.0 u.0 h), λ e. eq-eqb t.0 u.0 (ap (λ (x : TypeId). x.0) e))) id_distinct
