-- What holds at first is below the universe.
use Rattle.std.proofs.Common.{◌≡◌, ℕ, ◌+◌, ◌<◌, List, ◌++◌, ◌∙◌, ap, append_assoc, drop, length, get_or, sym, subst, ◌⊎◌, inl, inr}
use Rattle.std.specs.Prelude.{Option, None}
use Rattle.std.specs.List.{Contains}
use Rattle.std.proofs.lemmas.List.Elements.{Contains-append_cases, Contains-get_or}
use Rattle.value_flow.specs.declared.slot_flow.moves.Flowing.{Flowing}
use Rattle.rules.specs.flow_rules.Carrying.{held, born}
use Rattle.value_flow.specs.slot_flow.Facts.{flow_in, universe, fact_of, begin_facts, taken_facts, born_facts, place_facts, root_facts, numbered}
use Rattle.value_flow.specs.slot_flow.Laws.{fact_below, facts_below}
use Rattle.value_flow.proofs.lemmas.slot_flow.Lists.{Among, from_flat, AmongNumbered, from_numbered, numbered_step}
use Rattle.value_flow.proofs.lemmas.slot_flow.Rules.{born_facts_are}

module _ (f : Flowing) (c : ℕ) where
  either_below : (xs ys : List ℕ) → (Contains xs c → c < universe f) → (Contains ys c → c < universe f) → Contains (xs ++ ys) c → c < universe f
  either_below xs ys a b t = by (Contains-append_cases xs ys c t)
    where
      by : Contains xs c ⊎ Contains ys c → c < universe f
      by (inl h) = a h
      by (inr h) = b h

  begin_below : Contains (begin_facts f) c → c < universe f
  begin_below t =
      let a : AmongNumbered (λ slot s. fact_of f (held 0 slot s)) 0 f.begins.now c = from_numbered (λ slot s. fact_of f (held 0 slot s)) 0 f.begins.now c t in
      fact_below f (held 0 (0 + a.place) a.item) c a.inside

  taken_below : (i : ℕ) → Contains (taken_facts f i) c → c < universe f
  taken_below i t =
      let a : Among (λ slot. fact_of f (held i slot f.unknown)) f.taken.now c = from_flat (λ slot. fact_of f (held i slot f.unknown)) f.taken.now c t in
      fact_below f (held i a.item f.unknown) c a.inside

  born_below : (i : ℕ) → Contains (born_facts f i) c → c < universe f
  born_below i t = facts_below f (born (flow_in f) i) c (subst (λ (xs : List ℕ). Contains xs c) (born_facts_are f i) t)

  places_below : Contains (numbered (λ i (d : Option ℕ). place_facts f i) 0 f.depths.now) c → c < universe f
  places_below t =
      let a : AmongNumbered (λ i (d : Option ℕ). place_facts f i) 0 f.depths.now c = from_numbered (λ i (d : Option ℕ). place_facts f i) 0 f.depths.now c t in
      either_below (taken_facts f (0 + a.place)) (born_facts f (0 + a.place)) (taken_below (0 + a.place)) (born_below (0 + a.place)) a.inside

  pub root_below : Contains (root_facts f) c → c < universe f
  root_below t = either_below (begin_facts f) (numbered (λ i (d : Option ℕ). place_facts f i) 0 f.depths.now) begin_below places_below t

pub roots_below : (f : Flowing) (size : ℕ) (roots : List ℕ) → size ≡ universe f → roots ≡ root_facts f → (k d : ℕ) → k < length roots → get_or roots k d < size
roots_below f size roots whole same k d inside =
    subst (λ (x : ℕ). get_or roots k d < x) (sym whole)
    (root_below f (get_or roots k d) (subst (λ (xs : List ℕ). Contains xs (get_or roots k d)) same (Contains-get_or roots k d inside)))

-- one instruction more, as in a loop
pub places_more : (f : Flowing) (facts more : List ℕ) (i : ℕ) (whole : List ℕ) → i < length f.depths.now → more ≡ facts ++ place_facts f i
    → facts ++ numbered (λ i (d : Option ℕ). place_facts f i) i (drop i f.depths.now) ≡ whole
    → more ++ numbered (λ i (d : Option ℕ). place_facts f i) (i + 1) (drop (i + 1) f.depths.now) ≡ whole
places_more f facts more i whole inside e h =
    let rest : List ℕ = numbered (λ i (d : Option ℕ). place_facts f i) (i + 1) (drop (i + 1) f.depths.now) in
    ap (λ (xs : List ℕ). xs ++ rest) e ∙ append_assoc facts (place_facts f i) rest
    ∙ ap (λ (xs : List ℕ). facts ++ xs) (sym (numbered_step (λ i (d : Option ℕ). place_facts f i) f.depths.now i None inside)) ∙ h
