-- The flow with numbers carries what the flow of the definition carries.
use Rattle.std.proofs.Common.{◌≡◌, ℕ, zero, suc, ◌+◌, ◌<◌, ◌≤◌, List, [], ◌∷◌, ◌++◌, length-append, replicate, map, max, length, arith, refl, sym, ap, ◌∙◌, subst, Bool, true, false}
use Rattle.std.specs.Prelude.{Option, Some, None, slice_get, unwrap_or}
use Rattle.std.specs.List.{Contains}
use Rattle.std.specs.Option.{option_map}
use Rattle.std.proofs.lemmas.Option.{slice_get-map}
use Rattle.std.proofs.lemmas.List.{length-map, length-replicate}
use Rattle.il_base.specs.declared.ids.TypeId.{TypeId}
use Rattle.il_base.specs.declared.world_model.record.AsmRec.{AsmRec}
use Rattle.rules.specs.flow_rules.Depths.{depth_at}
use Rattle.value_flow.specs.declared.slot_flow.moves.Flowing.{Flowing}
use Rattle.rules.specs.declared.flow_rules.moves.Turning.{Turning}
use Rattle.rules.specs.declared.flow_rules.moves.Turning.TheVariants as turning
use Rattle.rules.specs.declared.flow_rules.moves.Move.{Move}
use Rattle.rules.specs.declared.flow_rules.moves.Move.TheVariants as move
use Rattle.value_flow.specs.declared.slot_flow.walks.Reached.{Reached}
use Rattle.rules.specs.flow_rules.Carrying.{Carried}
use Rattle.value_flow.specs.slot_flow.Facts.{flow_in, turned, IsWithin}
use Rattle.value_flow.specs.slot_flow.Found.{is_found, IsReached}
use Rattle.value_flow.proofs.lemmas.slot_flow.Lists.{contained}
use Rattle.rules.specs.declared.flow_rules.source.Source.{Source}
use Rattle.rules.specs.declared.flow_rules.source.Source.TheVariants as source
use Rattle.rules.specs.flow_rules.Methods.{Setting}
use Rattle.rules.specs.flow_rules.Sources.{turn}
use Rattle.rules.specs.flow_rules.Counts.{one_if}
use Rattle.rules.specs.flow_rules.Moves.{this_source, parameters_from, parameters, fixed_in, moves_of, begins_of, sources_of, flow_of}
use Rattle.value_flow.specs.Numbers.{number_in, numbered_move}
use Rattle.rules.specs.flow_rules.Flows.{deepest_from, CarriesAt}
use Rattle.value_flow.specs.Flows.{IsNumbered, IsReachedOf}
use Rattle.value_flow.proofs.Related.{SameMove, loads, stores, twice, back, makes, turns, nothing, Beside, Related, CarriedToo, carried_too}
use Rattle.value_flow.proofs.Numbering.{opaque_listed, made_listed, turn_listed, begin_listed, numbered_listed, listed_back, places_same, number_below}

-- ---- what a mapped list has in a place

pub record Mapped {A B : Type 0} (f : A → B) (xs : List A) (k : ℕ) (y : B) : Type 0 where
  pub item : A
  pub there : slice_get xs k ≡ Some item
  pub taken : f item ≡ y

mapped_by : {A B : Type 0} (f : A → B) (xs : List A) (k : ℕ) (y : B) (o : Option A) → slice_get xs k ≡ o → option_map f o ≡ Some y → Mapped f xs k y
mapped_by f xs k y None e g = absurd (cc)
mapped_by f xs k y (Some x) e g = record { item = x; there = e; taken = cc }

pub mapped : {A B : Type 0} (f : A → B) (xs : List A) (k : ℕ) (y : B) → slice_get (map f xs) k ≡ Some y → Mapped f xs k y
mapped f xs k y e = mapped_by f xs k y (slice_get xs k) refl (sym (slice_get-map f xs k) ∙ e)

pub to_mapped : {A B : Type 0} (f : A → B) (xs : List A) (k : ℕ) (x : A) → slice_get xs k ≡ Some x → slice_get (map f xs) k ≡ Some (f x)
to_mapped f xs k x e = slice_get-map f xs k ∙ ap (option_map f) e

module _ (recs : List AsmRec) (s : Setting) (owner : Option TypeId) (depths : List (Option ℕ)) (f : Flowing) (is : IsNumbered recs s owner depths f) where
  abbrev sources : List Source
  sources = sources_of recs s owner

  abbrev num : Source → ℕ
  num = number_in (sources_of recs s owner)

  abbrev Is : Source → ℕ → Type 0
  Is x k = slice_get (sources_of recs s owner) k ≡ Some x

  abbrev Stands : ℕ → Source → Type 0
  Stands k x = slice_get (sources_of recs s owner) k ≡ Some x

  begin_is : (x : Source) → Contains (begins_of s) x → Is x (num x)
  unfolding sources_of
  begin_is x c = numbered_listed recs s owner x (begin_listed recs s owner x c)

  made_is : (i : ℕ) (x : Source) → slice_get (moves_of recs s owner) i ≡ Some (move.Make x) → Is x (num x)
  unfolding sources_of
  made_is i x e = numbered_listed recs s owner x (made_listed recs s owner i x e)

  opaque_is : Is source.Opaque (num source.Opaque)
  unfolding sources_of
  opaque_is = numbered_listed recs s owner source.Opaque (opaque_listed recs s owner)

  turn_is : (t : Turning) (x : Source) (k : ℕ) → Is x k → Is (turn recs s.asm t x) (num (turn recs s.asm t x))
  unfolding sources_of
  turn_is t x k e = numbered_listed recs s owner (turn recs s.asm t x) (turn_listed recs s owner t x (listed_back recs s owner k x e))

  same_places : (i j : ℕ) (x : Source) → Is x i → Is x j → i ≡ j
  unfolding sources_of
  same_places i j x a b = places_same recs s owner i j x a b

  num_below : (x : Source) → num x < length (sources_of recs s owner)
  unfolding sources_of
  num_below x = number_below recs s owner x

  -- turns

  handle_turned : (x : Source) (k : ℕ) → Is x k → turned f turning.FromHandle k ≡ num (turn recs s.asm turning.FromHandle x)
  handle_turned x k e =
      ap (λ (o : Option ℕ). unwrap_or o f.unknown)
      (ap (λ (xs : List ℕ). slice_get xs k) is.from_handle ∙ to_mapped (λ y. number_in (sources_of recs s owner) (turn recs s.asm turning.FromHandle y)) (sources_of recs s owner) k x e)

  text_turned : (x : Source) (k : ℕ) → Is x k → turned f turning.FromText k ≡ num (turn recs s.asm turning.FromText x)
  text_turned x k e =
      ap (λ (o : Option ℕ). unwrap_or o f.unknown)
      (ap (λ (xs : List ℕ). slice_get xs k) is.from_text ∙ to_mapped (λ y. number_in (sources_of recs s owner) (turn recs s.asm turning.FromText y)) (sources_of recs s owner) k x e)

  turned_is : (t : Turning) (x : Source) (k : ℕ) → Is x k → turned f t k ≡ num (turn recs s.asm t x)
  turned_is turning.FromHandle x k e = handle_turned x k e
  turned_is turning.FromText x k e = text_turned x k e

  turned_stands : (t : Turning) (x : Source) (k : ℕ) → Is x k → Is (turn recs s.asm t x) (turned f t k)
  turned_stands t x k e = subst (λ (n : ℕ). Is (turn recs s.asm t x) n) (sym (turned_is t x k e)) (turn_is t x k e)

  unknown_stands : Is source.Opaque f.unknown
  unknown_stands = subst (λ (n : ℕ). Is source.Opaque n) (sym is.unknown) opaque_is

  fixed_same : length (begins_of s) ≡ length f.begins.now
  fixed_same = sym (ap length is.begins ∙ length-map (begins_of s) (number_in (sources_of recs s owner)))

  -- from the definition to numbers

  begin_beside : (slot : ℕ) (x : Source) → slice_get (begins_of s) slot ≡ Some x → Beside f.begins.now slot (Is x)
  begin_beside slot x e = record {
    item = num x;
    there = ap (λ (xs : List ℕ). slice_get xs slot) is.begins ∙ to_mapped (number_in (sources_of recs s owner)) (begins_of s) slot x e;
    related = begin_is x (contained (begins_of s) slot x e);
  }

  same_by : (i : ℕ) (m : Move Source) → slice_get (moves_of recs s owner) i ≡ Some m → SameMove Is m (numbered_move (sources_of recs s owner) m)
  same_by i (move.Load n) e = loads n
  same_by i (move.Store n) e = stores n
  same_by i move.Twice e = twice
  same_by i move.Back e = back
  same_by i (move.Make x) e = makes (made_is i x e)
  same_by i (move.Turn t) e = turns t
  same_by i move.Nothing e = nothing

  move_beside : (i : ℕ) (m : Move Source) → slice_get (moves_of recs s owner) i ≡ Some m → Beside f.moves.now i (SameMove Is m)
  move_beside i m e = record {
    item = numbered_move (sources_of recs s owner) m;
    there = ap (λ (xs : List (Move ℕ)). slice_get xs i) is.moves ∙ to_mapped (numbered_move (sources_of recs s owner)) (moves_of recs s owner) i m e;
    related = same_by i m e;
  }

  relates : Related Is (flow_of recs s owner depths) (flow_in f)
  relates = record {
    fixed = fixed_same;
    depths = sym is.depths;
    exits = sym is.exits;
    taken = sym is.taken;
    begins = begin_beside;
    moves = move_beside;
    unknown = unknown_stands;
    turn = turned_stands;
  }

  -- and back

  begin_back : (slot k : ℕ) → slice_get f.begins.now slot ≡ Some k → Beside (begins_of s) slot (Stands k)
  begin_back slot k e =
      let m : Mapped (number_in (sources_of recs s owner)) (begins_of s) slot k =
      mapped (number_in (sources_of recs s owner)) (begins_of s) slot k (sym (ap (λ (xs : List ℕ). slice_get xs slot) is.begins) ∙ e) in
      record {
        item = m.item;
        there = m.there;
        related = subst (λ (n : ℕ). Is m.item n) m.taken (begin_is m.item (contained (begins_of s) slot m.item m.there));
      }

  back_by : (i : ℕ) (m : Move Source) → slice_get (moves_of recs s owner) i ≡ Some m → SameMove Stands (numbered_move (sources_of recs s owner) m) m
  back_by i (move.Load n) e = loads n
  back_by i (move.Store n) e = stores n
  back_by i move.Twice e = twice
  back_by i move.Back e = back
  back_by i (move.Make x) e = makes (made_is i x e)
  back_by i (move.Turn t) e = turns t
  back_by i move.Nothing e = nothing

  move_back : (i : ℕ) (n : Move ℕ) → slice_get f.moves.now i ≡ Some n → Beside (moves_of recs s owner) i (SameMove Stands n)
  move_back i n e =
      let m : Mapped (numbered_move (sources_of recs s owner)) (moves_of recs s owner) i n =
      mapped (numbered_move (sources_of recs s owner)) (moves_of recs s owner) i n (sym (ap (λ (xs : List (Move ℕ)). slice_get xs i) is.moves) ∙ e) in
      record { item = m.item; there = m.there; related = subst (λ (p : Move ℕ). SameMove Stands p m.item) m.taken (back_by i m.item m.there) }

  relates_back : Related Stands (flow_in f) (flow_of recs s owner depths)
  relates_back = record {
    fixed = sym fixed_same;
    depths = is.depths;
    exits = is.exits;
    taken = is.taken;
    begins = begin_back;
    moves = move_back;
    unknown = unknown_stands;
    turn = λ t k x e. turned_stands t x k e;
  }

  -- ---- both ways

  pub record CarriesSource (i slot k : ℕ) : Type 0 where
    pub item : Source
    pub stands : slice_get (sources_of recs s owner) k ≡ Some item
    pub carried : Carried Source (flow_of recs s owner depths) i slot item

  pub to_source : (i slot k : ℕ) → Carried ℕ (flow_in f) i slot k → CarriesSource i slot k
  to_source i slot k c =
      let t : CarriedToo Stands (flow_in f) (flow_of recs s owner depths) relates_back i slot k = carried_too Stands (flow_in f) (flow_of recs s owner depths) relates_back c in
      record { item = t.item; stands = t.related; carried = t.carried }

  pub from_source : (i slot k : ℕ) (x : Source) → slice_get (sources_of recs s owner) k ≡ Some x → Carried Source (flow_of recs s owner depths) i slot x → Carried ℕ (flow_in f) i slot k
  from_source i slot k x e c =
      let t : CarriedToo Is (flow_of recs s owner depths) (flow_in f) relates i slot x = carried_too Is (flow_of recs s owner depths) (flow_in f) relates c in
      subst (λ (n : ℕ). Carried ℕ (flow_in f) i slot n) (same_places t.item k x t.related e) t.carried

  -- ---- numbers are within their counts

  below_count : (n : ℕ) (x : Source) → num x ≡ n → n < f.count
  below_count n x e = subst (λ (c : ℕ). n < c) (sym is.count) (subst (λ (m : ℕ). m < length (sources_of recs s owner)) e (num_below x))

  begin_below : (slot n : ℕ) → slice_get f.begins.now slot ≡ Some n → n < f.count
  begin_below slot n e =
      let m : Mapped (number_in (sources_of recs s owner)) (begins_of s) slot n =
      mapped (number_in (sources_of recs s owner)) (begins_of s) slot n (sym (ap (λ (xs : List ℕ). slice_get xs slot) is.begins) ∙ e) in below_count n m.item m.taken

  make_below : (m : Move Source) (n : ℕ) → numbered_move (sources_of recs s owner) m ≡ move.Make n → n < f.count
  make_below (move.Load k) n e = absurd (cc)
  make_below (move.Store k) n e = absurd (cc)
  make_below move.Twice n e = absurd (cc)
  make_below move.Back n e = absurd (cc)
  make_below (move.Make x) n e = let same : num x ≡ n = cc in below_count n x same
  make_below (move.Turn t) n e = absurd (cc)
  make_below move.Nothing n e = absurd (cc)

  made_below : (i n : ℕ) → slice_get f.moves.now i ≡ Some (move.Make n) → n < f.count
  made_below i n e =
      let m : Mapped (numbered_move (sources_of recs s owner)) (moves_of recs s owner) i (move.Make n) =
      mapped (numbered_move (sources_of recs s owner)) (moves_of recs s owner) i (move.Make n) (sym (ap (λ (xs : List (Move ℕ)). slice_get xs i) is.moves) ∙ e) in make_below m.item n m.taken

  handle_below : (k n : ℕ) → slice_get f.from_handle.now k ≡ Some n → n < f.count
  handle_below k n e =
      let g : Source → ℕ = λ x. number_in (sources_of recs s owner) (turn recs s.asm turning.FromHandle x) in
      let m : Mapped g (sources_of recs s owner) k n = mapped g (sources_of recs s owner) k n (sym (ap (λ (xs : List ℕ). slice_get xs k) is.from_handle) ∙ e) in
      below_count n (turn recs s.asm turning.FromHandle m.item) m.taken

  text_below : (k n : ℕ) → slice_get f.from_text.now k ≡ Some n → n < f.count
  text_below k n e =
      let g : Source → ℕ = λ x. number_in (sources_of recs s owner) (turn recs s.asm turning.FromText x) in
      let m : Mapped g (sources_of recs s owner) k n = mapped g (sources_of recs s owner) k n (sym (ap (λ (xs : List ℕ). slice_get xs k) is.from_text) ∙ e) in
      below_count n (turn recs s.asm turning.FromText m.item) m.taken

-- the deepest stack is no less than any

more_deep : (d : ℕ) (ds : List (Option ℕ)) → d ≤ deepest_from d ds
more_deep d [] = omega arith
more_deep d (None ∷ ds) = more_deep d ds
more_deep d (Some e ∷ ds) = let a : max d e ≤ deepest_from (max d e) ds = more_deep (max d e) ds in omega arith

pub no_deeper : (d : ℕ) (ds : List (Option ℕ)) (i e : ℕ) → depth_at ds i ≡ Some e → e ≤ deepest_from d ds
no_deeper d [] i e h = absurd (cc)
no_deeper d (None ∷ ds) zero e h = absurd (cc)
no_deeper d (Some x ∷ ds) zero e h = let same : x ≡ e = cc in let a : max d x ≤ deepest_from (max d x) ds = more_deep (max d x) ds in omega arith
no_deeper d (None ∷ ds) (suc i) e h = no_deeper d ds i e h
no_deeper d (Some x ∷ ds) (suc i) e h = no_deeper (max d x) ds i e h

-- ---- what the code makes

this_length : (b : Bool) → length (this_source b) ≡ one_if b
this_length true = refl
this_length false = refl

params_length : (k n : ℕ) → length (parameters_from k n) ≡ n
params_length k zero = refl
params_length k (suc n) = ap suc (params_length (k + 1) n)

begins_length : (s : Setting) → length (begins_of s) ≡ fixed_in s
begins_length s =
    let a : length (begins_of s) ≡ length (this_source s.own.this ++ parameters s.own.params) + length (replicate s.locals source.Null) =
    length-append (this_source s.own.this ++ parameters s.own.params) (replicate s.locals source.Null) in
    let b : length (this_source s.own.this ++ parameters s.own.params) ≡ length (this_source s.own.this) + length (parameters s.own.params) = length-append (this_source s.own.this) (parameters s.own.params) in
    let c : length (this_source s.own.this) ≡ one_if s.own.this = this_length s.own.this in
    let d : length (parameters s.own.params) ≡ s.own.params = params_length 0 s.own.params in
    let e : length (replicate s.locals source.Null) ≡ s.locals = length-replicate s.locals source.Null in
    omega arith

module _ (recs : List AsmRec) (s : Setting) (owner : Option TypeId) (depths : List (Option ℕ)) (f : Flowing) (is : IsNumbered recs s owner depths f) where
  slot_within : (i d : ℕ) → depth_at f.depths.now i ≡ Some d → length f.begins.now + d ≤ f.slots
  slot_within i d e =
      let a : length (begins_of s) ≡ length f.begins.now = fixed_same recs s owner depths f is in
      let b : length (begins_of s) ≡ fixed_in s = begins_length s in
      let c : d ≤ deepest_from 0 depths = no_deeper 0 depths i d (subst (λ (ds : List (Option ℕ)). depth_at ds i ≡ Some d) is.depths e) in
      let g : f.slots ≡ fixed_in s + deepest_from 0 depths = is.slots in
      omega arith

  pub within : IsWithin f
  within = record {
    begins = begin_below recs s owner depths f is;
    made = made_below recs s owner depths f is;
    from_handle = handle_below recs s owner depths f is;
    from_text = text_below recs s owner depths f is;
    unknown = below_count recs s owner depths f is f.unknown source.Opaque (sym is.unknown);
    slots = slot_within;
  }

  pub reached_exactly : (r : Reached) → IsReached f r → IsReachedOf recs s owner depths r
  reached_exactly r e i slot k = (found, carries)
    where
      found : is_found r i slot k ≡ true → CarriesAt recs s owner depths i slot k
      found t = let c : CarriesSource recs s owner depths f is i slot k = to_source recs s owner depths f is i slot k ((e.exact i slot k).0 t) in record { item = c.item; listed = c.stands; carried = c.carried }

      carries : CarriesAt recs s owner depths i slot k → is_found r i slot k ≡ true
      carries h = (e.exact i slot k).1 (from_source recs s owner depths f is i slot k h.item h.listed h.carried)
