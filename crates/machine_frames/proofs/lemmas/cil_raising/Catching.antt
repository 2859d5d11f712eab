-- The search for a catch clause, one clause at a time.
use Rattle.std.proofs.Common.{◌≡◌, ℕ, suc, ◌+◌, ◌<◌, ◌≤◌, true, false, ◌&&◌, List, ◌∷◌, length, drop, get_or, refl, sym, ap, ◌∙◌, add-one}
use Rattle.std.proofs.Math.Seq.{drop-cons}
use Rattle.std.proofs.lemmas.List.{drop_all}
use Rattle.il_base.specs.declared.cil_values.resolved.Clause.{Clause}
use Rattle.il_base.specs.declared.cil_values.state.State.{State}
use Rattle.rules.specs.step_rules.Queries.{Queries}
use Rattle.rules.specs.step_rules.Words.{Here, in_try}
use Rattle.rules.specs.step_rules.Raising.{nothing_found, is_catch, caught_type, catches_by, clause_for}

module _ (q : Queries) (here : Here) (s : State) (a at : ℕ) (cs : List Clause) (n : ℕ) where
  pub past_all : length cs ≤ n → clause_for q here s a at n (drop n cs) ≡ nothing_found
  unfolding clause_for
  past_all past = ap (clause_for q here s a at n) (drop_all n cs past)

  module _ (c : Clause) (within : n < length cs) (is : c ≡ get_or cs n c) where
    here_first : drop n cs ≡ c ∷ drop (n + 1) cs
    here_first = rw add-one (drop-cons cs n c within ∙ ap (λ x. x ∷ drop (suc n) cs) (sym is))

    pub around : (is_catch c && in_try c at) ≡ true → clause_for q here s a at n (drop n cs) ≡ catches_by q s a n (caught_type q here c) (clause_for q here s a at (n + 1) (drop (n + 1) cs))
    unfolding clause_for
    around so = ap (clause_for q here s a at n) here_first ∙ rw (so, add-one) refl

    pub not_around : (is_catch c && in_try c at) ≡ false → clause_for q here s a at n (drop n cs) ≡ clause_for q here s a at (n + 1) (drop (n + 1) cs)
    unfolding clause_for
    not_around out = ap (clause_for q here s a at n) here_first ∙ rw (out, add-one) refl
