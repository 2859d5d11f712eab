-- Rules that bring nothing but what each fact brings alone: what follows by them, as `closure` and as `queued_closure` have it.
use Rattle.std.proofs.Common.{ℕ, [], ◌⊎◌, inl, inr, arith}
use Rattle.std.specs.Prelude.{Bool, false, IsTrue, ◌↔◌}
use Rattle.std.specs.List.{Contains}
use Rattle.closure.specs.Facts.{Derived, root, brought}
use Rattle.closure.specs.queued_closure.Brings.{brings_by}

module _ (alone : ℕ → ℕ → Type 0) (roots : ℕ → Type 0) where
  abbrev Queued : ℕ → Type 0
  Queued c = Derived (brings_by alone (λ have n c. Contains [] c)) roots c

  abbrev Alone : ℕ → Type 0
  Alone c = Derived (λ have n c. alone n c) roots c

  none_queued : (n : ℕ) → IsTrue false → Queued n
  none_queued n t = absurd (cc)

  none_alone : (n : ℕ) → IsTrue false → Alone n
  none_alone n t = absurd (cc)

  one_more : (fact c : ℕ) → Alone fact → alone fact c ⊎ Contains [] c → Alone c
  one_more fact c d (inl t) = brought (λ n. false) none_alone d t
  one_more fact c d (inr (k, inside, e)) = absurd (omega arith)

  pub from_queued : {c : ℕ} → Queued c → Alone c
  from_queued (root {fact} t) = root t
  from_queued (brought {fact} {c} have known d t) = one_more fact c (from_queued d) t

  pub to_queued : {c : ℕ} → Alone c → Queued c
  to_queued (root {fact} t) = root t
  to_queued (brought {fact} {c} have known d t) = brought (λ n. false) none_queued (to_queued d) (inl t)

  pub same_found : (found : Bool) (c : ℕ) → (IsTrue found ↔ Queued c) → (IsTrue found ↔ Alone c)
  same_found found c e = (λ t. from_queued (e.0 t), λ d. e.1 (to_queued d))
