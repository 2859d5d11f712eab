-- A map that is filled table by table has what every token becomes, where any other token becomes 0.
use Rattle.std.proofs.Common.{◌≡◌, ℕ, Bool, true, false, refl, sym, ◌∙◌}
use Rattle.std.specs.Prelude.{if◌then◌else◌}

one : (number old : ℕ) (p : Bool) → (p ≡ false → old ≡ number) → (if p then number else old) ≡ number
one number old true else_is = refl
one number old false else_is = else_is refl

module _ (f empty : ℕ → ℕ) (none : (q : ℕ) → empty q ≡ 0) (a : ℕ → ℕ) (p : ℕ → Bool) (first : (q : ℕ) → a q ≡ (if p q then f q else empty q)) where
  pub whole_one : ((q : ℕ) → p q ≡ false → f q ≡ 0) → (q : ℕ) → a q ≡ f q
  whole_one zeros q = first q ∙ one (f q) (empty q) (p q) (λ e. none q ∙ sym (zeros q e))

  module _ (b : ℕ → ℕ) (r : ℕ → Bool) (second : (q : ℕ) → b q ≡ (if r q then f q else a q)) where
    pub whole_two : ((q : ℕ) → p q ≡ false → r q ≡ false → f q ≡ 0) → (q : ℕ) → b q ≡ f q
    whole_two zeros q = second q ∙ one (f q) (a q) (r q) (λ d. first q ∙ one (f q) (empty q) (p q) (λ e. none q ∙ sym (zeros q e d)))

    pub whole_three : (c : ℕ → ℕ) (s : ℕ → Bool) → ((q : ℕ) → c q ≡ (if s q then f q else b q)) → ((q : ℕ) → p q ≡ false → r q ≡ false → s q ≡ false → f q ≡ 0) → (q : ℕ) → c q ≡ f q
    whole_three c s third zeros q =
        third q
        ∙ one (f q) (b q) (s q) (λ g. second q ∙ one (f q) (a q) (r q) (λ d. first q ∙ one (f q) (empty q) (p q) (λ e. none q ∙ sym (zeros q e d g))))
