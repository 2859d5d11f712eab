-- The least of a list of flaws.
use Rattle.std.proofs.Common.{◌≡◌, List, [], ◌∷◌, ◌++◌, Bool, true, false, ◌⊎◌, inl, inr, Option, Some, None, refl, sym, subst, append_assoc}
use Rattle.std.specs.Prelude.{if◌then◌else◌}
use Rattle.std.specs.List.{Contains}
use Rattle.std.proofs.lemmas.List.{append-nil}
use Rattle.std.proofs.lemmas.List.Elements.{Contains-append_left, Contains-append_right, Contains-append_cases}
use Rattle.base_laws.proofs.lemmas.known_laws.Lists.{none_in, first_in, one_is}
use Rattle.rules.specs.mark_rules.BadItems.{Flaw, before}
use Rattle.base_laws.specs.flaw_laws.Listed.{earlier, first_from}
use Rattle.base_laws.proofs.lemmas.flaw_laws.Order.{before_trans, before_not}

not_true : (b : Bool) → (b ≡ true → ⊥) → b ≡ false
not_true true h = absurd (h refl)
not_true false h = refl

-- the least of these
abbrev pub IsLeast : List Flaw → Option Flaw → Type 0
IsLeast xs None = (g : Flaw) → Contains xs g → ⊥
IsLeast xs (Some f) = Contains xs f × ((g : Flaw) → Contains xs g → before g f ≡ false)

-- ---- one flaw more

module _ (xs : List Flaw) (g : Flaw) where
  abbrev More : List Flaw
  More = xs ++ g ∷ []

  split : (h : Flaw) → Contains More h → Contains xs h ⊎ (g ≡ h)
  split h c = elim (Contains-append_cases xs (g ∷ []) h c) [ inl l ↦ inl l | inr r ↦ inr (one_is g h r) ]

  here : Contains More g
  here = Contains-append_right xs (g ∷ []) g (first_in g [])

  not_itself : (h : Flaw) → g ≡ h → before h g ≡ false
  not_itself h e = not_true (before h g) (λ t. before_not g (subst (λ (x : Flaw). before x g ≡ true) (sym e) t))

  alone : ((h : Flaw) → Contains xs h → ⊥) → IsLeast More (Some g)
  alone none = (here, λ h c. elim (split h c) [ inl l ↦ absurd (none h l) | inr e ↦ not_itself h e ])

  stays : (f : Flaw) → IsLeast xs (Some f) → before g f ≡ false → IsLeast More (Some f)
  stays f least t = (
    Contains-append_left xs (g ∷ []) f least.0,
    λ h c. elim (split h c) [ inl l ↦ least.1 h l | inr e ↦ subst (λ (x : Flaw). before x f ≡ false) e t ],
  )

  comes : (f : Flaw) → IsLeast xs (Some f) → before g f ≡ true → IsLeast More (Some g)
  comes f least t = (
    here,
    λ h c.
        elim (split h c) [
          | inl l ↦ not_true (before h g) (λ s. no_both (before h f) (before_trans h g f s t) (least.1 h l))
          | inr e ↦ not_itself h e
        ],
  )
    where
      no_both : (b : Bool) → b ≡ true → b ≡ false → ⊥
      no_both b p q = cc

  by_test : (f : Flaw) → IsLeast xs (Some f) → (b : Bool) → before g f ≡ b → IsLeast More (if b then Some g else Some f)
  by_test f least true t = comes f least t
  by_test f least false t = stays f least t

  one_more : (best : Option Flaw) → IsLeast xs best → IsLeast More (earlier best g)
  one_more None none = alone none
  one_more (Some f) least = by_test f least (before g f) refl

-- ---- the whole list

all_more : (done : List Flaw) (best : Option Flaw) (xs : List Flaw) → IsLeast done best → IsLeast (done ++ xs) (first_from best xs)
unfolding first_from
all_more done best [] least = subst (λ (ys : List Flaw). IsLeast ys best) (sym (append-nil done)) least
all_more done best (x ∷ xs) least =
    subst (λ (ys : List Flaw). IsLeast ys (first_from (earlier best x) xs)) (append_assoc done (x ∷ []) xs) (all_more (done ++ x ∷ []) (earlier best x) xs (one_more done x best least))

pub first_least : (xs : List Flaw) → IsLeast xs (first_from None xs)
first_least xs = all_more [] None xs (λ g c. none_in g c)
