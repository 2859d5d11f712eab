-- What is carried is within the count of limit 6, so as many rounds find all of it.
use Rattle.std.proofs.Common.{◌≡◌, ℕ, zero, suc, ◌+◌, ◌*◌, ◌/◌, ◌%◌, ◌<◌, ◌≤◌, Bool, true, false, List, [], ◌∷◌, ◌++◌, length, length-append, replicate, Option, Some, None, ◌⊎◌, inl, inr, refl, sym, ap, subst, ◌∙◌, arith}
use Rattle.std.specs.Prelude.{◌||◌, min, slice_get}
use Rattle.std.specs.List.{Contains, list_any}
use Rattle.std.proofs.lemmas.Bool.{ltb-true, cases_lt}
use Rattle.std.proofs.lemmas.List.{length-replicate}
use Rattle.std.proofs.lemmas.Nat.{mul-add-lt, div-mul-add, mod-mul-add}
use Rattle.std.proofs.Math.Nat.{mul_comm, min-eq_left, min-eq_right}
use Rattle.il_base.specs.declared.ids.TypeId.{TypeId}
use Rattle.il_base.specs.declared.body.Instr.{Instr}
use Rattle.il_base.specs.declared.world_model.record.AsmRec.{AsmRec}
use Rattle.rules.specs.link_rules.Cycles.{listed}
use Rattle.rules.specs.declared.flow_rules.moves.Move.{Move}
use Rattle.rules.specs.declared.flow_rules.moves.Move.TheVariants as move
use Rattle.rules.specs.declared.flow_rules.source.Source.{Source}
use Rattle.rules.specs.declared.flow_rules.source.Source.TheVariants as source
use Rattle.rules.specs.flow_rules.Methods.{Setting}
use Rattle.rules.specs.flow_rules.Counts.{one_if}
use Rattle.rules.specs.flow_rules.Exits.{exits_from, exits_of}
use Rattle.rules.specs.flow_rules.Depths.{depth_at}
use Rattle.rules.specs.flow_rules.Sources.{turn}
use Rattle.rules.specs.flow_rules.Carrying.{Held, held, is_slot, is_slot_by, Carried}
use Rattle.rules.specs.flow_rules.Moves.{this_source, parameters_from, parameters, fixed_in, moves_of, begins_of, all_sources, sources_of, flow_of}
use Rattle.rules.specs.flow_rules.Flows.{deepest, slots_of, most_work, capped, work_of, CarriesAt}
use Rattle.rules.specs.flow_rules.Rounds.{same_held, sent_on, held_first, held_found, is_found}
use Rattle.value_flow.specs.Numbers.{number_in}
use Rattle.value_flow.proofs.lemmas.slot_flow.Lists.{contained}
use Rattle.value_flow.proofs.Related.{SameMove, loads, stores, twice, back, makes, turns, nothing, Related, CarriedToo, carried_too}
use Rattle.value_flow.proofs.Numbering.{opaque_listed, made_listed, turn_listed, begin_listed, numbered_listed, number_below}
use Rattle.value_flow.proofs.Flowing.{no_deeper}
use Rattle.base_laws.proofs.lemmas.type_laws.Within.{in_any, any_in}
use Rattle.flow_laws.specs.Laws.{SourcesFound}
use Rattle.flow_laws.proofs.lemmas.Closing.{Closed, closed}
use Rattle.flow_laws.proofs.lemmas.Depthing.{below_depth}
use Rattle.flow_laws.proofs.lemmas.Carrying.{held_decides, find_carried, carried_found}

-- ---- lengths

this_length : (b : Bool) → length (this_source b) ≡ one_if b
this_length true = refl
this_length false = refl

params_length : (k n : ℕ) → length (parameters_from k n) ≡ n
params_length k zero = refl
params_length k (suc n) = ap suc (params_length (k + 1) n)

begins_length : (s : Setting) → length (begins_of s) ≡ fixed_in s
begins_length s =
    let a : length (begins_of s) ≡ length (this_source s.own.this ++ parameters s.own.params) + length (replicate s.locals source.Null) =
    length-append (this_source s.own.this ++ parameters s.own.params) (replicate s.locals source.Null) in
    let b : length (this_source s.own.this ++ parameters s.own.params) ≡ length (this_source s.own.this) + length (parameters s.own.params) = length-append (this_source s.own.this) (parameters s.own.params) in
    let c : length (this_source s.own.this) ≡ one_if s.own.this = this_length s.own.this in
    let d : length (parameters s.own.params) ≡ s.own.params = params_length 0 s.own.params in
    let e : length (replicate s.locals source.Null) ≡ s.locals = length-replicate s.locals source.Null in
    omega arith

exits_length : (recs : List AsmRec) (s : Setting) (k : ℕ) (is : List Instr) → length (exits_from recs s k is) ≡ length is
exits_length recs s k [] = refl
exits_length recs s k (i ∷ is) = ap suc (exits_length recs s (k + 1) is)

code_length : (recs : List AsmRec) (s : Setting) → length (exits_of recs s) ≡ length s.body.code
unfolding exits_of
code_length recs s = exits_length recs s 0 s.body.code

-- ---- the count

abbrev U : ℕ
U = 18446744073709551615

uncapped_by : (n : ℕ) → (U < n) ⊎ (n ≤ U) → capped n ≤ most_work → n ≡ capped n
uncapped_by n (inr le) h = sym (min-eq_left le)
uncapped_by n (inl lt) h = let e : min n U ≡ U = min-eq_right (omega arith) in absurd (omega arith)

uncapped : (n : ℕ) → capped n ≤ most_work → n ≡ capped n
uncapped n h = uncapped_by n (cases_lt U n) h

grown : (a c : ℕ) → 0 < c → a ≤ a * c
grown a zero h = absurd (omega arith)
grown a (suc c) h = omega arith

first_by : (a c : ℕ) → 0 < c → (U < a) ⊎ (a ≤ U) → capped a * c ≤ most_work → a ≡ capped a
first_by a c h (inr le) m = sym (min-eq_left le)
first_by a c h (inl lt) m =
    let e : min a U ≡ U = min-eq_right (omega arith) in
    let g : U ≤ U * c = grown U c h in
    let f : capped a * c ≡ U * c = ap (λ (n : ℕ). n * c) e in
    absurd (omega arith)

work_by : (a c : ℕ) → 0 < c → capped (capped a * c) ≤ most_work → a * c ≡ capped (capped a * c)
work_by a c h m =
    let e : capped a * c ≡ capped (capped a * c) = uncapped (capped a * c) m in
    let f : a ≡ capped a = first_by a c h (cases_lt U a) (omega (arith, e, m)) in
    ap (λ (n : ℕ). n * c) f ∙ e

-- ---- a place, a slot and a source as one number

module _ (slots count : ℕ) where
  abbrev pub mixed : ℕ → ℕ → ℕ → ℕ
  mixed at slot k = (at * slots + slot) * count + k

  pub parts : (a b : ℕ) (s t : ℕ) (k l : ℕ) → s < slots → t < slots → k < count → l < count → mixed a s k ≡ mixed b t l → (a ≡ b) × (s ≡ t) × (k ≡ l)
  parts a b s t k l ls lt lk ll e =
      let outer : a * slots + s ≡ b * slots + t = sym (div-mul-add (a * slots + s) count k lk) ∙ ap (λ (n : ℕ). n / count) e ∙ div-mul-add (b * slots + t) count l ll in
      let last : k ≡ l = sym (mod-mul-add (a * slots + s) count k lk) ∙ ap (λ (n : ℕ). n % count) e ∙ mod-mul-add (b * slots + t) count l ll in
      let first : a ≡ b = sym (div-mul-add a slots s ls) ∙ ap (λ (n : ℕ). n / slots) outer ∙ div-mul-add b slots t lt in
      let middle : s ≡ t = sym (mod-mul-add a slots s ls) ∙ ap (λ (n : ℕ). n % slots) outer ∙ mod-mul-add b slots t lt in
      (first, middle, last)

-- ---- sources that are carried

module _ (recs : List AsmRec) (s : Setting) (owner : Option TypeId) (ds : List (Option ℕ)) where
  abbrev Listed : Source → Type 0
  Listed x = Contains (all_sources recs s owner) x

  record Both (x y : Source) : Type 0 where
    same : x ≡ y
    listed : Contains (all_sources recs s owner) x

  move_same : (i : ℕ) (m : Move Source) → slice_get (moves_of recs s owner) i ≡ Some m → SameMove Both m m
  move_same i (move.Load n) e = loads n
  move_same i (move.Store n) e = stores n
  move_same i move.Twice e = twice
  move_same i move.Back e = back
  move_same i (move.Make x) e = makes (record { same = refl; listed = made_listed recs s owner i x e })
  move_same i (move.Turn t) e = turns t
  move_same i move.Nothing e = nothing

  relates : Related Both (flow_of recs s owner ds) (flow_of recs s owner ds)
  relates = record {
    fixed = refl;
    depths = refl;
    exits = refl;
    taken = refl;
    begins = λ slot x e. record { item = x; there = e; related = record { same = refl; listed = begin_listed recs s owner x (contained (begins_of s) slot x e) } };
    moves = λ i m e. record { item = m; there = e; related = move_same i m e };
    unknown = record { same = refl; listed = opaque_listed recs s owner };
    turn = λ t x y r. record { same = ap (turn recs s.asm t) r.same; listed = turn_listed recs s owner t x r.listed };
  }

  source_listed : {i slot : ℕ} {x : Source} → Carried Source (flow_of recs s owner ds) i slot x → Contains (all_sources recs s owner) x
  source_listed {i} {slot} {x} c = let t : CarriedToo Both (flow_of recs s owner ds) (flow_of recs s owner ds) relates i slot x = carried_too Both (flow_of recs s owner ds) (flow_of recs s owner ds) relates c in t.related.listed

  abbrev index : Source → ℕ
  index = number_in (sources_of recs s owner)

  index_is : (x : Source) → Contains (all_sources recs s owner) x → slice_get (sources_of recs s owner) (number_in (sources_of recs s owner) x) ≡ Some x
  unfolding sources_of
  index_is x c = numbered_listed recs s owner x c

  index_below : (x : Source) → number_in (sources_of recs s owner) x < length (sources_of recs s owner)
  unfolding sources_of
  index_below x = number_below recs s owner x

  same_source_by : (x y : Source) → Contains (all_sources recs s owner) x → Contains (all_sources recs s owner) y → index x ≡ index y → x ≡ y
  same_source_by x y c d e = let f : Some x ≡ Some y = sym (index_is x c) ∙ ap (slice_get (sources_of recs s owner)) e ∙ index_is y d in cc

  -- ---- bounds

  there_of : {i slot : ℕ} {x : Source} → Carried Source (flow_of recs s owner ds) i slot x → is_slot (flow_of recs s owner ds) i slot ≡ true
  there_of (Carried.begins e t) = t
  there_of (Carried.taken e t) = t
  there_of (Carried.born_at i e t) = t
  there_of (Carried.sent_from i slot x c e t) = t

  at_by : (i slot : ℕ) (o : Option ℕ) → depth_at ds i ≡ o → is_slot_by (length (begins_of s)) slot o ≡ true → (i < length ds) × (slot < slots_of s ds)
  at_by i slot None e t = absurd (cc)
  at_by i slot (Some d) e t =
      let a : slot < length (begins_of s) + d = ltb-true slot (length (begins_of s) + d) t in
      let b : length (begins_of s) ≡ fixed_in s = begins_length s in
      let c : d ≤ deepest ds = no_deeper 0 ds i d e in
      (below_depth ds i d e, omega (arith, a, b, c))

  bounds : (i slot : ℕ) (x : Source) → Carried Source (flow_of recs s owner ds) i slot x → (i < length ds) × (slot < slots_of s ds)
  bounds i slot x c = at_by i slot (depth_at ds i) refl (there_of c)

  -- ---- numbers

  abbrev number : Held Source → ℕ
  number h = mixed (slots_of s ds) (length (sources_of recs s owner)) h.at h.slot (number_in (sources_of recs s owner) h.source)

  abbrev size : ℕ
  size = length (sources_of recs s owner) * (slots_of s ds * length ds)

  fits : (h : Held Source) → Carried Source (flow_of recs s owner ds) h.at h.slot h.source → number h < size
  fits h c =
      let b = bounds h.at h.slot h.source c in
      mul-add-lt (h.at * slots_of s ds + h.slot) (length (sources_of recs s owner)) (index h.source) (slots_of s ds * length ds) (mul-add-lt h.at (slots_of s ds) h.slot (length ds) b.0 b.1) (index_below h.source)

  one : (h g : Held Source) → Carried Source (flow_of recs s owner ds) h.at h.slot h.source → Carried Source (flow_of recs s owner ds) g.at g.slot g.source → number h ≡ number g → h ≡ g
  one h g c d e =
      let p = parts (slots_of s ds) (length (sources_of recs s owner)) h.at g.at h.slot g.slot (index h.source) (index g.source) (bounds h.at h.slot h.source c).1 (bounds g.at g.slot g.source d).1 (index_below h.source) (index_below g.source) e in
      let a : h.at ≡ g.at = p.0 in
      let b : h.slot ≡ g.slot = p.1 in
      let x : h.source ≡ g.source = same_source_by h.source g.source (source_listed c) (source_listed d) p.2 in
      λ i. record { at = a i; slot = b i; source = x i }

  finds_closed : Closed (sent_on (flow_of recs s owner ds)) (held_found (flow_of recs s owner ds) size)
  unfolding held_found
  finds_closed =
      closed same_held held_decides (sent_on (flow_of recs s owner ds)) number size (held_first (flow_of recs s owner ds))
      (λ h i. fits h (find_carried (flow_of recs s owner ds) size h i))
      (λ h g i j e. one h g (find_carried (flow_of recs s owner ds) size h i) (find_carried (flow_of recs s owner ds) size g j) e)

  -- ---- both ways

  abbrev Rounds : ℕ → ℕ → ℕ → Option Source → Bool
  Rounds rounds i slot o = list_any (is_found (flow_of recs s owner ds) rounds i slot) (listed o)

  only_one : (b : Bool) → (b || false) ≡ true → b ≡ true
  only_one true e = refl
  only_one false e = absurd (cc)

  one_only : (b : Bool) → b ≡ true → (b || false) ≡ true
  one_only true e = refl
  one_only false e = absurd (cc)

  to_walk : (i slot k : ℕ) (o : Option Source) → slice_get (sources_of recs s owner) k ≡ o → Rounds size i slot o ≡ true → CarriesAt recs s owner ds i slot k
  to_walk i slot k None e t = absurd (cc)
  to_walk i slot k (Some x) e t =
      let yes : is_found (flow_of recs s owner ds) size i slot x ≡ true = only_one (is_found (flow_of recs s owner ds) size i slot x) t in
      record {
        item = x;
        listed = e;
        carried = find_carried (flow_of recs s owner ds) size (held i slot x) (in_any same_held held_decides (held i slot x) (held_found (flow_of recs s owner ds) size) yes);
      }

  to_rounds : (i slot k : ℕ) → CarriesAt recs s owner ds i slot k → Rounds size i slot (slice_get (sources_of recs s owner) k) ≡ true
  to_rounds i slot k c =
      subst (λ (o : Option Source). Rounds size i slot o ≡ true) (sym c.listed)
      (one_only (is_found (flow_of recs s owner ds) size i slot c.item)
      (any_in same_held held_decides (held i slot c.item) (held_found (flow_of recs s owner ds) size) (carried_found (flow_of recs s owner ds) size finds_closed c.carried)))

  work_is : length ds ≡ length s.body.code → work_of recs s owner ds ≤ most_work → work_of recs s owner ds ≡ size
  unfolding work_of
  work_is e m =
      let below = index_below source.Opaque in
      let w : slots_of s ds * length s.body.code * length (sources_of recs s owner) ≡ capped (capped (slots_of s ds * length s.body.code) * length (sources_of recs s owner)) =
      work_by (slots_of s ds * length s.body.code) (length (sources_of recs s owner)) (omega (arith, below)) m in
      sym w ∙ ap (λ (n : ℕ). slots_of s ds * n * length (sources_of recs s owner)) (sym e) ∙ mul_comm (slots_of s ds * length ds) (length (sources_of recs s owner))

pub sources_are_found : SourcesFound
sources_are_found recs s owner ds is within i slot k =
    let e : length ds ≡ length s.body.code = is.one_each ∙ code_length recs s in
    let w : work_of recs s owner ds ≡ length (sources_of recs s owner) * (slots_of s ds * length ds) = work_is recs s owner ds e within in (
      λ t. to_walk recs s owner ds i slot k (slice_get (sources_of recs s owner) k) refl
          (subst (λ (n : ℕ). list_any (is_found (flow_of recs s owner ds) n i slot) (listed (slice_get (sources_of recs s owner) k)) ≡ true) w t),
      λ c. subst (λ (n : ℕ). list_any (is_found (flow_of recs s owner ds) n i slot) (listed (slice_get (sources_of recs s owner) k)) ≡ true) (sym w) (to_rounds recs s owner ds i slot k c),
    )
