-- What is carried by rounds is what walks carry.
use Rattle.std.proofs.Common.{◌≡◌, ℕ, zero, suc, ◌+◌, ◌<◌, Bool, true, false, cond, List, [], ◌∷◌, ◌++◌, length, map, Option, Some, None, ◌⊎◌, inl, inr, refl, sym, ap, subst, ◌∙◌, arith}
use Rattle.std.specs.Prelude.{◌==◌, ◌&&◌, slice_get}
use Rattle.std.specs.Bool.{Decides}
use Rattle.std.specs.List.{Contains, filter, flat_map, range_with_len}
use Rattle.std.proofs.lemmas.Bool.{eqb-true, eq-eqb}
use Rattle.rules.specs.declared.flow_rules.exit.Exit.{Exit}
use Rattle.rules.specs.declared.flow_rules.moves.Move.{Move}
use Rattle.rules.specs.declared.flow_rules.source.Source.{Source}
use Rattle.rules.specs.flow_rules.Depths.{depth_at}
use Rattle.rules.specs.flow_rules.Sources.{same_source}
use Rattle.rules.specs.flow_rules.Carrying.{Flow, Held, held, sent, born, born_along, of_depth, is_slot, is_slot_by, Carried}
use Rattle.rules.specs.flow_rules.Rounds.{same_held, is_in_slot, sent_on, begun_from, held_at, held_first, held_found}
use Rattle.base_laws.proofs.lemmas.type_laws.Within.{In, in_front, in_behind, in_parts, in_filter, in_map, in_flat, flat_in, in_added, added_from}
use Rattle.base_laws.proofs.lemmas.type_laws.Reaching.{Leads, found, led}
use Rattle.base_laws.proofs.lemmas.walk_laws.Finds.{contains}
use Rattle.value_flow.proofs.Listing.{itself, same_is}
use Rattle.flow_laws.proofs.lemmas.Closing.{Closed}
use Rattle.flow_laws.proofs.lemmas.Depthing.{contained, each_true, both_true, below_depth}

-- ---- lists

filter_by : {A : Type 0} (p : A → Bool) (x y : A) (xs : List A) (b : Bool) → p y ≡ b → (In x xs → In x (filter p xs)) → In x (y ∷ xs) → p x ≡ true → In x (cond b (y ∷ filter p xs) (filter p xs))
filter_by p x y xs true e more (inl f) t = inl f
filter_by p x y xs true e more (inr h) t = inr (more h)
filter_by p x y xs false e more (inl f) t = let g : false ≡ true = sym e ∙ sym (ap p f) ∙ t in absurd (cc)
filter_by p x y xs false e more (inr h) t = more h

pub filter_in : {A : Type 0} (p : A → Bool) (x : A) (xs : List A) → In x xs → p x ≡ true → In x (filter p xs)
filter_in p x [] h t = absurd h
filter_in p x (y ∷ xs) h t = filter_by p x y xs (p y) refl (λ g. filter_in p x xs g t) h t

pub map_in : {A B : Type 0} (f : A → B) (x : A) (xs : List A) → In x xs → In (f x) (map f xs)
map_in f x [] h = absurd h
map_in f x (y ∷ xs) (inl e) = inl (ap f e)
map_in f x (y ∷ xs) (inr h) = inr (map_in f x xs h)

pub range_in : (k n j : ℕ) → j < n → In (k + j) (range_with_len k n)
range_in k zero j lt = absurd (omega arith)
range_in k (suc n) zero lt = inl (omega arith)
range_in k (suc n) (suc j) lt = let e : k + 1 + j ≡ k + suc j = omega arith in inr (subst (λ (m : ℕ). In m (range_with_len (k + 1) n)) e (range_in (k + 1) n j (omega arith)))

-- ---- a source in a slot

held_is : (x y : Held Source) → same_held x y ≡ true → x ≡ y
held_is x y e =
    let h : ((x.at == y.at && x.slot == y.slot) ≡ true) × (same_source x.source y.source ≡ true) = each_true (x.at == y.at && x.slot == y.slot) (same_source x.source y.source) e in
    let g : ((x.at == y.at) ≡ true) × ((x.slot == y.slot) ≡ true) = each_true (x.at == y.at) (x.slot == y.slot) h.0 in
    let a : x.at ≡ y.at = eqb-true x.at y.at g.0 in
    let b : x.slot ≡ y.slot = eqb-true x.slot y.slot g.1 in
    let c : x.source ≡ y.source = same_is x.source y.source h.1 in
    λ i. record { at = a i; slot = b i; source = c i }

held_itself : (x y : Held Source) → x ≡ y → same_held x y ≡ true
held_itself x y e =
    both_true (x.at == y.at && x.slot == y.slot) (same_source x.source y.source)
    (both_true (x.at == y.at) (x.slot == y.slot) (eq-eqb x.at y.at (λ i. (e i).at)) (eq-eqb x.slot y.slot (λ i. (e i).slot)))
    (subst (λ (s : Source). same_source x.source s ≡ true) (λ i. (e i).source) (itself x.source))

pub held_decides : (x y : Held Source) → Decides (same_held x y) (x ≡ y)
held_decides x y = (held_is x y, held_itself x y)

-- ---- at the start

record Begun (k : ℕ) (ss : List Source) (x : Held Source) : Type 0 where
  place : ℕ
  there : slice_get ss place ≡ Some x.source
  at : x.at ≡ 0
  slot : x.slot ≡ k + place

begun_back : (k : ℕ) (ss : List Source) (x : Held Source) → In x (begun_from k ss) → Begun k ss x
begun_back k [] x h = absurd h
begun_back k (s ∷ ss) x (inl e) = record { place = 0; there = ap (λ (t : Source). Some t) (sym (λ i. (e i).source)); at = λ i. (e i).at; slot = let f : x.slot ≡ k = λ i. (e i).slot in omega (arith, f) }
begun_back k (s ∷ ss) x (inr h) = let b = begun_back (k + 1) ss x h in let f = b.slot in record { place = suc b.place; there = b.there; at = b.at; slot = omega (arith, f) }

begun_there : (k j : ℕ) (ss : List Source) (s : Source) → slice_get ss j ≡ Some s → In (held 0 (k + j) s) (begun_from k ss)
begun_there k j [] s e = absurd (cc)
begun_there k zero (t ∷ ss) s e = let same : s ≡ t = cc in let f : k + 0 ≡ k = omega arith in inl (λ i. held 0 (f i) (same i))
begun_there k (suc j) (t ∷ ss) s e =
    let f : k + 1 + j ≡ k + suc j = omega arith in inr (subst (λ (n : ℕ). In (held 0 n s) (begun_from (k + 1) ss)) f (begun_there (k + 1) j ss s e))

slot_depth : (fixed slot : ℕ) (ds : List (Option ℕ)) (i : ℕ) (o : Option ℕ) → depth_at ds i ≡ o → is_slot_by fixed slot o ≡ true → i < length ds
slot_depth fixed slot ds i None e t = absurd (cc)
slot_depth fixed slot ds i (Some d) e t = below_depth ds i d e

-- ---- rounds

module _ (f : Flow Source) (rounds : ℕ) where
  abbrev Carries : Held Source → Type 0
  Carries x = Carried Source f x.at x.slot x.source

  abbrev finds : List (Held Source)
  finds = held_found f rounds

  carried_on : (k : ℕ) (x y : Held Source) → Carried Source f x.at x.slot x.source → Leads (sent_on f) k x y → Carried Source f y.at y.slot y.source
  carried_on zero x y c l = subst (λ (z : Held Source). Carried Source f z.at z.slot z.source) l c
  carried_on (suc k) x y c l =
      let h : (is_in_slot f l.0 ≡ true) × In l.0 (sent f x.at x.slot x.source) = in_filter l.0 (is_in_slot f) (sent f x.at x.slot x.source) l.1 in
      carried_on k l.0 y (Carried.sent_from x.at x.slot x.source c (contains (sent f x.at x.slot x.source) l.0 h.1) h.0) l.2

  carried_begun : (x : Held Source) → is_in_slot f x ≡ true → Begun 0 f.begins x → Carries x
  carried_begun x t b =
      let e : x.slot ≡ b.place = let g = b.slot in omega (arith, g) in
      let there : slice_get f.begins x.slot ≡ Some x.source = ap (slice_get f.begins) e ∙ b.there in
      let slot : is_slot f 0 x.slot ≡ true = subst (λ (n : ℕ). is_slot f n x.slot ≡ true) b.at t in
      subst (λ (n : ℕ). Carried Source f n x.slot x.source) (sym b.at) (Carried.begins there slot)

  carried_taken : (x : Held Source) (i slot : ℕ) → is_in_slot f x ≡ true → In slot f.taken → x ≡ held i slot f.unknown → Carries x
  carried_taken x i slot t h e =
      let there : is_slot f i slot ≡ true = subst (λ (y : Held Source). is_slot f y.at y.slot ≡ true) e t in
      subst (λ (y : Held Source). Carried Source f y.at y.slot y.source) (sym e) (Carried.taken (contains f.taken slot h) there)

  carried_at_by : (x : Held Source) (i : ℕ) → is_in_slot f x ≡ true → In x (map (λ slot. held i slot f.unknown) f.taken) ⊎ In x (born f i) → Carries x
  carried_at_by x i t (inl h) = let m = in_map (λ slot. held i slot f.unknown) x f.taken h in carried_taken x i m.0 t m.1 m.2
  carried_at_by x i t (inr h) = Carried.born_at i (contains (born f i) x h) t

  carried_at : (x : Held Source) (i : ℕ) → is_in_slot f x ≡ true → In x (held_at f i) → Carries x
  carried_at x i t h = carried_at_by x i t (in_parts x (map (λ slot. held i slot f.unknown) f.taken) (born f i) h)

  carried_first_by : (x : Held Source) → is_in_slot f x ≡ true → In x (begun_from 0 f.begins) ⊎ In x (flat_map (held_at f) (range_with_len 0 (length f.depths))) → Carries x
  carried_first_by x t (inl h) = carried_begun x t (begun_back 0 f.begins x h)
  carried_first_by x t (inr h) = let m = in_flat (held_at f) x (range_with_len 0 (length f.depths)) h in carried_at x m.0 t m.2

  abbrev starts : List (Held Source)
  starts = begun_from 0 f.begins ++ flat_map (held_at f) (range_with_len 0 (length f.depths))

  none_first : (x : Held Source) → In x [] ⊎ In x (filter (is_in_slot f) starts) → In x (filter (is_in_slot f) starts)
  none_first x (inl h) = absurd h
  none_first x (inr h) = h

  carried_first : (x : Held Source) → In x (held_first f) → Carries x
  carried_first x h =
      let g : In x (filter (is_in_slot f) starts) = none_first x (added_from same_held held_decides x [] (filter (is_in_slot f) starts) h) in
      let m : (is_in_slot f x ≡ true) × In x starts = in_filter x (is_in_slot f) starts g in
      carried_first_by x m.0 (in_parts x (begun_from 0 f.begins) (flat_map (held_at f) (range_with_len 0 (length f.depths))) m.1)

  pub find_carried : (x : Held Source) → In x (held_found f rounds) → Carried Source f x.at x.slot x.source
  unfolding held_found
  find_carried x h = let l = led same_held held_decides (sent_on f) rounds (held_first f) x h in carried_on l.steps l.from x (carried_first l.from l.is) l.leads

  -- ---- and back

  first_found : (x : Held Source) → In x (held_first f) → In x (held_found f rounds)
  unfolding held_found
  first_found x h = found same_held held_decides (sent_on f) rounds 0 x x (held_first f) (omega arith) h refl

  to_first : (x : Held Source) → is_in_slot f x ≡ true → In x starts → In x (held_found f rounds)
  to_first x t h = first_found x (in_added same_held held_decides x [] (filter (is_in_slot f) starts) (filter_in (is_in_slot f) x starts h t))

  to_place : (x : Held Source) (i : ℕ) → i < length f.depths → is_in_slot f x ≡ true → In x (held_at f i) → In x (held_found f rounds)
  to_place x i lt t h =
      let e : 0 + i ≡ i = omega arith in
      let there : In i (range_with_len 0 (length f.depths)) = subst (λ (n : ℕ). In n (range_with_len 0 (length f.depths))) e (range_in 0 (length f.depths) i lt) in
      to_first x t (in_behind x (begun_from 0 f.begins) (flat_map (held_at f) (range_with_len 0 (length f.depths))) (flat_in (held_at f) x i (range_with_len 0 (length f.depths)) there h))

  none_born : (o : Option ℕ) (e : Option Exit) (m : Option (Move Source)) (x : Held Source) (i : ℕ) → depth_at f.depths i ≡ o
      → Contains (of_depth (λ d (e : Exit) m. flat_map (born_along f d e m) e.steps) o e m) x → i < length f.depths
  none_born None e m x i is c = absurd (contained [] x c)
  none_born (Some d) e m x i is c = below_depth f.depths i d is

  module _ (whole : Closed (sent_on f) (held_found f rounds)) where
    pub carried_found : {i slot : ℕ} {s : Source} → Carried Source f i slot s → In (held i slot s) (held_found f rounds)
    carried_found (Carried.begins {slot} {s} e t) =
        let g : 0 + slot ≡ slot = omega arith in
        to_first (held 0 slot s) t
        (in_front (held 0 slot s) (begun_from 0 f.begins) (flat_map (held_at f) (range_with_len 0 (length f.depths))) (subst (λ (n : ℕ). In (held 0 n s) (begun_from 0 f.begins)) g (begun_there 0 slot f.begins s e)))
    carried_found (Carried.taken {i} {slot} c t) =
        to_place (held i slot f.unknown) i (slot_depth (length f.begins) slot f.depths i (depth_at f.depths i) refl t) t
        (in_front (held i slot f.unknown) (map (λ slot. held i slot f.unknown) f.taken) (born f i) (map_in (λ slot. held i slot f.unknown) slot f.taken (contained f.taken slot c)))
    carried_found (Carried.born_at i {j} {slot} {s} c t) =
        to_place (held j slot s) i (none_born (depth_at f.depths i) (slice_get f.exits i) (slice_get f.moves i) (held j slot s) i refl c) t
        (in_behind (held j slot s) (map (λ slot. held i slot f.unknown) f.taken) (born f i) (contained (born f i) (held j slot s) c))
    carried_found (Carried.sent_from i slot s {j} {to} {t} d c g) =
        whole (held i slot s) (held j to t) (carried_found d) (filter_in (is_in_slot f) (held j to t) (sent f i slot s) (contained (sent f i slot s) (held j to t) c) g)
