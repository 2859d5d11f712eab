-- The list of a body's sources holds all that its instructions make, and what these turn into.
use Rattle.std.proofs.Common.{◌≡◌, ℕ, zero, suc, ◌+◌, ◌<◌, ◌≤◌, List, [], ◌∷◌, ◌++◌, length, map, replicate, arith, refl, sym, ap, ◌∙◌, subst, ◌⊎◌, inl, inr, Bool, true, false}
use Rattle.std.specs.Prelude.{Option, Some, None, slice_get, unwrap_or}
use Rattle.std.specs.List.{Contains, flat_map, position_from}
use Rattle.std.specs.Option.{option_map}
use Rattle.std.proofs.lemmas.Option.{slice_get-map}
use Rattle.std.proofs.lemmas.List.Elements.{Contains-append_left, Contains-append_right, Contains-append_cases}
use Rattle.il_base.specs.declared.ids.TypeId.{TypeId}
use Rattle.il_base.specs.declared.body.Form.{Form}
use Rattle.il_base.specs.declared.body.Form.TheVariants as form
use Rattle.il_base.specs.declared.body.Operand.{Operand}
use Rattle.il_base.specs.declared.body.Instr.{Instr}
use Rattle.il_base.specs.declared.world_model.expr.MethodUse.{MethodUse}
use Rattle.il_base.specs.declared.world_model.record.AsmRec.{AsmRec}
use Rattle.rules.specs.link_rules.Cycles.{listed, add_all}
use Rattle.rules.specs.declared.flow_rules.moves.Turning.{Turning}
use Rattle.rules.specs.declared.flow_rules.moves.Turning.TheVariants as turning
use Rattle.rules.specs.declared.flow_rules.moves.Move.{Move}
use Rattle.rules.specs.declared.flow_rules.moves.Move.TheVariants as move
use Rattle.value_flow.proofs.lemmas.slot_flow.Lists.{tail_contains, contained, Among, from_flat, to_flat, from_map}
use Rattle.rules.specs.declared.flow_rules.source.Source.{Source}
use Rattle.rules.specs.declared.flow_rules.source.Source.TheVariants as source
use Rattle.rules.specs.flow_rules.Methods.{Setting}
use Rattle.rules.specs.flow_rules.Sources.{same_source, type_of_text, known_or_null, turn}
use Rattle.rules.specs.flow_rules.Moves.{parameters_from, parameters, this_source, begins_of, with_known, sources_made, return_of, sources_called, sources_by, all_sources, named_use, move_of, moves_of}
use Rattle.value_flow.specs.Numbers.{number_in}
use Rattle.value_flow.proofs.Listing.{new_comes, only_those, longer, PlaceOf, place_of, position_below, Distinct, all_distinct, none_distinct}

none : {A : Type 0} (s : Source) → Contains [] s → A
none s (k, inside, e) = absurd (omega arith)

one : (s t : Source) → Contains (s ∷ []) t → s ≡ t
one s t (zero, inside, e) = e
one s t (suc k, inside, e) = absurd (omega arith)

-- ---- what a source turns into

pub data Turned (recs : List AsmRec) (from : ℕ) : Source → Source → Type 0 where
  stays : (s : Source) → Turned recs from s s
  to_opaque : (s : Source) → Turned recs from s source.Opaque
  to_null : (s : Source) → Turned recs from s source.Null
  of_handle : (t : TypeId) → Turned recs from (source.KnownHandle t) (source.KnownType t)
  of_text : (x : List ℕ) (t : TypeId) → type_of_text recs from x ≡ Some t → Turned recs from (source.KnownText x) (source.KnownType t)

text_turned : (recs : List AsmRec) (from : ℕ) (x : List ℕ) (o : Option TypeId) → type_of_text recs from x ≡ o → Turned recs from (source.KnownText x) (known_or_null o)
text_turned recs from x None e = to_null (source.KnownText x)
text_turned recs from x (Some t) e = of_text x t e

turned : (recs : List AsmRec) (from : ℕ) (t : Turning) (s : Source) → Turned recs from s (turn recs from t s)
turned recs from turning.FromHandle (source.KnownType t) = to_opaque (source.KnownType t)
turned recs from turning.FromHandle (source.KnownHandle t) = of_handle t
turned recs from turning.FromHandle (source.KnownText x) = to_opaque (source.KnownText x)
turned recs from turning.FromHandle source.Null = to_opaque source.Null
turned recs from turning.FromHandle (source.Parameter n) = to_opaque (source.Parameter n)
turned recs from turning.FromHandle (source.Return m) = to_opaque (source.Return m)
turned recs from turning.FromHandle (source.Field f) = to_opaque (source.Field f)
turned recs from turning.FromHandle (source.TypeParam t n) = stays (source.TypeParam t n)
turned recs from turning.FromHandle (source.MethodParam n) = stays (source.MethodParam n)
turned recs from turning.FromHandle source.Opaque = to_opaque source.Opaque
turned recs from turning.FromText (source.KnownType t) = to_opaque (source.KnownType t)
turned recs from turning.FromText (source.KnownHandle t) = to_opaque (source.KnownHandle t)
turned recs from turning.FromText (source.KnownText x) = text_turned recs from x (type_of_text recs from x) refl
turned recs from turning.FromText source.Null = to_opaque source.Null
turned recs from turning.FromText (source.Parameter n) = stays (source.Parameter n)
turned recs from turning.FromText (source.Return m) = stays (source.Return m)
turned recs from turning.FromText (source.Field f) = stays (source.Field f)
turned recs from turning.FromText (source.TypeParam t n) = to_opaque (source.TypeParam t n)
turned recs from turning.FromText (source.MethodParam n) = to_opaque (source.MethodParam n)
turned recs from turning.FromText source.Opaque = to_opaque source.Opaque

-- ---- a source with what is known by it

module _ (recs : List AsmRec) (from : ℕ) where
  pub head_known : (s : Source) → Contains (with_known recs from s) s
  head_known (source.KnownType t) = (0, omega arith, refl)
  head_known (source.KnownHandle t) = (0, omega arith, refl)
  head_known (source.KnownText x) = (0, omega arith, refl)
  head_known source.Null = (0, omega arith, refl)
  head_known (source.Parameter n) = (0, omega arith, refl)
  head_known (source.Return m) = (0, omega arith, refl)
  head_known (source.Field f) = (0, omega arith, refl)
  head_known (source.TypeParam t n) = (0, omega arith, refl)
  head_known (source.MethodParam n) = (0, omega arith, refl)
  head_known source.Opaque = (0, omega arith, refl)

  alone : {A : Type 0} (s t : Source) → (s ≡ t → A) → Contains (s ∷ []) t → A
  alone s t f c = f (one s t c)

  handle_pair : (t u : TypeId) → Contains (source.KnownHandle t ∷ source.KnownType t ∷ []) (source.KnownHandle u) → Contains (source.KnownHandle t ∷ source.KnownType t ∷ []) (source.KnownType u)
  handle_pair t u (zero, inside, e) = let same : t ≡ u = cc in (1, omega arith, ap (λ (x : TypeId). source.KnownType x) same)
  handle_pair t u (suc zero, inside, e) = absurd (cc)
  handle_pair t u (suc (suc k), inside, e) = absurd (omega arith)

  no_handle : (ts : List TypeId) (u : TypeId) → Contains (map (λ t. source.KnownType t) ts) (source.KnownHandle u) → ⊥
  no_handle ts u c = let r : (t : TypeId) × Contains ts t × (source.KnownType t ≡ source.KnownHandle u) = from_map (λ t. source.KnownType t) ts (source.KnownHandle u) c in let e : source.KnownType r.0 ≡ source.KnownHandle u = r.2 in cc

  handle_text : (x : List ℕ) (ts : List TypeId) (u : TypeId) → Contains (source.KnownText x ∷ map (λ t. source.KnownType t) ts) (source.KnownHandle u) → ⊥
  handle_text x ts u (zero, inside, e) = cc
  handle_text x ts u (suc k, inside, e) = no_handle ts u (k, omega arith, e)

  handle_known : (s : Source) (u : TypeId) → Contains (with_known recs from s) (source.KnownHandle u) → Contains (with_known recs from s) (source.KnownType u)
  handle_known (source.KnownType t) u c = alone (source.KnownType t) (source.KnownHandle u) (λ e. absurd (cc)) c
  handle_known (source.KnownHandle t) u c = handle_pair t u c
  handle_known (source.KnownText x) u c = absurd (handle_text x (listed (type_of_text recs from x)) u c)
  handle_known source.Null u c = alone source.Null (source.KnownHandle u) (λ e. absurd (cc)) c
  handle_known (source.Parameter n) u c = alone (source.Parameter n) (source.KnownHandle u) (λ e. absurd (cc)) c
  handle_known (source.Return m) u c = alone (source.Return m) (source.KnownHandle u) (λ e. absurd (cc)) c
  handle_known (source.Field f) u c = alone (source.Field f) (source.KnownHandle u) (λ e. absurd (cc)) c
  handle_known (source.TypeParam t n) u c = alone (source.TypeParam t n) (source.KnownHandle u) (λ e. absurd (cc)) c
  handle_known (source.MethodParam n) u c = alone (source.MethodParam n) (source.KnownHandle u) (λ e. absurd (cc)) c
  handle_known source.Opaque u c = alone source.Opaque (source.KnownHandle u) (λ e. absurd (cc)) c

  text_pair : (t : TypeId) (x : List ℕ) → Contains (source.KnownHandle t ∷ source.KnownType t ∷ []) (source.KnownText x) → ⊥
  text_pair t x (zero, inside, e) = cc
  text_pair t x (suc zero, inside, e) = cc
  text_pair t x (suc (suc k), inside, e) = absurd (omega arith)

  no_text : (ts : List TypeId) (x : List ℕ) → Contains (map (λ t. source.KnownType t) ts) (source.KnownText x) → ⊥
  no_text ts x c = let r : (t : TypeId) × Contains ts t × (source.KnownType t ≡ source.KnownText x) = from_map (λ t. source.KnownType t) ts (source.KnownText x) c in let e : source.KnownType r.0 ≡ source.KnownText x = r.2 in cc

  named_in : (y : List ℕ) (o : Option TypeId) (v : TypeId) → o ≡ Some v → Contains (source.KnownText y ∷ map (λ t. source.KnownType t) (listed o)) (source.KnownType v)
  named_in y None v e = absurd (cc)
  named_in y (Some t) v e = let same : t ≡ v = cc in (1, omega arith, ap (λ (z : TypeId). source.KnownType z) same)

  text_text : (y x : List ℕ) (v : TypeId) → type_of_text recs from x ≡ Some v → Contains (with_known recs from (source.KnownText y)) (source.KnownText x) → Contains (with_known recs from (source.KnownText y)) (source.KnownType v)
  text_text y x v is (zero, inside, e) =
      let same : y ≡ x = cc in named_in y (type_of_text recs from y) v (ap (type_of_text recs from) same ∙ is)
  text_text y x v is (suc k, inside, e) = absurd (no_text (listed (type_of_text recs from y)) x (k, omega arith, e))

  text_known : (s : Source) (x : List ℕ) (v : TypeId) → type_of_text recs from x ≡ Some v → Contains (with_known recs from s) (source.KnownText x) → Contains (with_known recs from s) (source.KnownType v)
  text_known (source.KnownType t) x v is c = alone (source.KnownType t) (source.KnownText x) (λ e. absurd (cc)) c
  text_known (source.KnownHandle t) x v is c = absurd (text_pair t x c)
  text_known (source.KnownText y) x v is c = text_text y x v is c
  text_known source.Null x v is c = alone source.Null (source.KnownText x) (λ e. absurd (cc)) c
  text_known (source.Parameter n) x v is c = alone (source.Parameter n) (source.KnownText x) (λ e. absurd (cc)) c
  text_known (source.Return m) x v is c = alone (source.Return m) (source.KnownText x) (λ e. absurd (cc)) c
  text_known (source.Field f) x v is c = alone (source.Field f) (source.KnownText x) (λ e. absurd (cc)) c
  text_known (source.TypeParam t n) x v is c = alone (source.TypeParam t n) (source.KnownText x) (λ e. absurd (cc)) c
  text_known (source.MethodParam n) x v is c = alone (source.MethodParam n) (source.KnownText x) (λ e. absurd (cc)) c
  text_known source.Opaque x v is c = alone source.Opaque (source.KnownText x) (λ e. absurd (cc)) c

-- ---- parameters

param_only : (k n : ℕ) (s : Source) → Contains (parameters_from k n) s → (m : ℕ) × (s ≡ source.Parameter m)
param_only k zero s c = none s c
param_only k (suc n) s (zero, inside, e) = (k, sym e)
param_only k (suc n) s (suc j, inside, e) = param_only (k + 1) n s (j, omega arith, e)

-- ---- all sources

module _ (recs : List AsmRec) (s : Setting) (owner : Option TypeId) where
  abbrev base : List Source
  base = source.Null ∷ source.Opaque ∷ parameters s.own.params

  abbrev Listed : Source → Type 0
  Listed x = Contains (all_sources recs s owner) x

  in_base : (x : Source) → Contains base x → Listed x
  in_base x c = Contains-append_left base (flat_map (sources_by recs s owner) s.body.code) x c

  pub null_listed : Listed source.Null
  null_listed = in_base source.Null (0, omega arith, refl)

  pub opaque_listed : Listed source.Opaque
  opaque_listed = in_base source.Opaque (1, omega arith, refl)

  pub param_listed : (x : Source) → Contains (parameters s.own.params) x → Listed x
  param_listed x c = in_base x (tail_contains source.Null (source.Opaque ∷ parameters s.own.params) x (tail_contains source.Opaque (parameters s.own.params) x c))

  in_code : (i : Instr) (k : ℕ) (x : Source) → slice_get s.body.code k ≡ Some i → Contains (sources_by recs s owner i) x → Listed x
  in_code i k x e c = Contains-append_right base (flat_map (sources_by recs s owner) s.body.code) x (to_flat (sources_by recs s owner) s.body.code k i x e c)

  made_in : (i : Instr) (m : Move Source) (x : Source) → move_of recs s owner i ≡ m → m ≡ move.Make x → Contains (sources_by recs s owner i) x
  made_in i m x e f =
      Contains-append_left (sources_made recs s.asm (move_of recs s owner i)) (sources_called recs s i.form i.operand) x
      (subst (λ (n : Move Source). Contains (sources_made recs s.asm n) x) (sym (e ∙ f)) (head_known recs s.asm x))

  pub made_listed : (k : ℕ) (x : Source) → slice_get (moves_of recs s owner) k ≡ Some (move.Make x) → Listed x
  made_listed k x e = by (slice_get s.body.code k) refl (sym (slice_get-map (move_of recs s owner) s.body.code k) ∙ e)
    where
      by : (o : Option Instr) → slice_get s.body.code k ≡ o → option_map (move_of recs s owner) o ≡ Some (move.Make x) → Contains (all_sources recs s owner) x
      by None there is = absurd (cc)
      by (Some i) there is = let same : move_of recs s owner i ≡ move.Make x = cc in in_code i k x there (made_in i (move.Make x) x same refl)

  -- a source that a turn can change, with what it is changed into

  base_plain : (x : Source) → Contains base x → ((t : TypeId) → x ≡ source.KnownHandle t → ⊥) × ((y : List ℕ) → x ≡ source.KnownText y → ⊥)
  base_plain x (zero, inside, e) = (λ t f. cc, λ y f. cc)
  base_plain x (suc zero, inside, e) = (λ t f. cc, λ y f. cc)
  base_plain x (suc (suc k), inside, e) =
      let p : (m : ℕ) × (x ≡ source.Parameter m) = param_only 0 s.own.params x (k, omega arith, e) in
      let q : x ≡ source.Parameter p.0 = p.1 in (λ t f. cc, λ y f. cc)

  called_plain : (o : Option MethodUse) (x : Source) → Contains (return_of o) x → ((t : TypeId) → x ≡ source.KnownHandle t → ⊥) × ((y : List ℕ) → x ≡ source.KnownText y → ⊥)
  called_plain None x c = none x c
  called_plain (Some u) x c = let e : source.Return u.method ≡ x = one (source.Return u.method) x c in (λ t f. cc, λ y f. cc)

  form_plain : (f : Form) (o : Operand) (x : Source) → Contains (sources_called recs s f o) x → ((t : TypeId) → x ≡ source.KnownHandle t → ⊥) × ((y : List ℕ) → x ≡ source.KnownText y → ⊥)
  form_plain form.Call o x c = called_plain (named_use recs s o) x c
  form_plain _ o x c = none x c

  handle_made : (m : Move Source) (u : TypeId) → Contains (sources_made recs s.asm m) (source.KnownHandle u) → Contains (sources_made recs s.asm m) (source.KnownType u)
  handle_made (move.Make x) u c = handle_known recs s.asm x u c
  handle_made (move.Load n) u c = none (source.KnownHandle u) c
  handle_made (move.Store n) u c = none (source.KnownHandle u) c
  handle_made move.Twice u c = none (source.KnownHandle u) c
  handle_made move.Back u c = none (source.KnownHandle u) c
  handle_made (move.Turn t) u c = none (source.KnownHandle u) c
  handle_made move.Nothing u c = none (source.KnownHandle u) c

  text_made : (m : Move Source) (x : List ℕ) (v : TypeId) → type_of_text recs s.asm x ≡ Some v → Contains (sources_made recs s.asm m) (source.KnownText x) → Contains (sources_made recs s.asm m) (source.KnownType v)
  text_made (move.Make y) x v is c = text_known recs s.asm y x v is c
  text_made (move.Load n) x v is c = none (source.KnownText x) c
  text_made (move.Store n) x v is c = none (source.KnownText x) c
  text_made move.Twice x v is c = none (source.KnownText x) c
  text_made move.Back x v is c = none (source.KnownText x) c
  text_made (move.Turn t) x v is c = none (source.KnownText x) c
  text_made move.Nothing x v is c = none (source.KnownText x) c

  into_made : (i : Instr) (k : ℕ) (x : Source) → slice_get s.body.code k ≡ Some i → Contains (sources_made recs s.asm (move_of recs s owner i)) x → Listed x
  into_made i k x e c = in_code i k x e (Contains-append_left (sources_made recs s.asm (move_of recs s owner i)) (sources_called recs s i.form i.operand) x c)

  handle_by : (u : TypeId) → Contains base (source.KnownHandle u) ⊎ Contains (flat_map (sources_by recs s owner) s.body.code) (source.KnownHandle u) → Listed (source.KnownType u)
  handle_by u (inl c) = absurd ((base_plain (source.KnownHandle u) c).0 u refl)
  handle_by u (inr c) = of_code (from_flat (sources_by recs s owner) s.body.code (source.KnownHandle u) c)
    where
      of_parts : (i : Instr) (k : ℕ) → slice_get s.body.code k ≡ Some i
          → Contains (sources_made recs s.asm (move_of recs s owner i)) (source.KnownHandle u) ⊎ Contains (sources_called recs s i.form i.operand) (source.KnownHandle u) → Listed (source.KnownType u)
      of_parts i k e (inl h) = into_made i k (source.KnownType u) e (handle_made (move_of recs s owner i) u h)
      of_parts i k e (inr h) = absurd ((form_plain i.form i.operand (source.KnownHandle u) h).0 u refl)

      of_code : Among (sources_by recs s owner) s.body.code (source.KnownHandle u) → Listed (source.KnownType u)
      of_code a =
          of_parts a.item a.place a.there
          (Contains-append_cases (sources_made recs s.asm (move_of recs s owner a.item)) (sources_called recs s a.item.form a.item.operand) (source.KnownHandle u) a.inside)

  text_by : (x : List ℕ) (v : TypeId) → type_of_text recs s.asm x ≡ Some v → Contains base (source.KnownText x) ⊎ Contains (flat_map (sources_by recs s owner) s.body.code) (source.KnownText x)
      → Listed (source.KnownType v)
  text_by x v is (inl c) = absurd ((base_plain (source.KnownText x) c).1 x refl)
  text_by x v is (inr c) = of_code (from_flat (sources_by recs s owner) s.body.code (source.KnownText x) c)
    where
      of_parts : (i : Instr) (k : ℕ) → slice_get s.body.code k ≡ Some i
          → Contains (sources_made recs s.asm (move_of recs s owner i)) (source.KnownText x) ⊎ Contains (sources_called recs s i.form i.operand) (source.KnownText x) → Listed (source.KnownType v)
      of_parts i k e (inl h) = into_made i k (source.KnownType v) e (text_made (move_of recs s owner i) x v is h)
      of_parts i k e (inr h) = absurd ((form_plain i.form i.operand (source.KnownText x) h).1 x refl)

      of_code : Among (sources_by recs s owner) s.body.code (source.KnownText x) → Listed (source.KnownType v)
      of_code a =
          of_parts a.item a.place a.there
          (Contains-append_cases (sources_made recs s.asm (move_of recs s owner a.item)) (sources_called recs s a.item.form a.item.operand) (source.KnownText x) a.inside)

  by_turn : (x y : Source) → Turned recs s.asm x y → Listed x → Listed y
  by_turn _ _ (stays x) c = c
  by_turn _ _ (to_opaque x) c = opaque_listed
  by_turn _ _ (to_null x) c = null_listed
  by_turn _ _ (of_handle t) c = handle_by t (Contains-append_cases base (flat_map (sources_by recs s owner) s.body.code) (source.KnownHandle t) c)
  by_turn _ _ (of_text x t is) c = text_by x t is (Contains-append_cases base (flat_map (sources_by recs s owner) s.body.code) (source.KnownText x) c)

  pub turn_listed : (t : Turning) (x : Source) → Listed x → Listed (turn recs s.asm t x)
  turn_listed t x c = by_turn x (turn recs s.asm t x) (turned recs s.asm t x) c

  -- at the start

  null_only : (n : ℕ) (x : Source) → Contains (replicate n source.Null) x → source.Null ≡ x
  null_only zero x c = none x c
  null_only (suc n) x (zero, inside, e) = e
  null_only (suc n) x (suc k, inside, e) = null_only n x (k, omega arith, e)

  this_listed : (b : Bool) (x : Source) → Contains (this_source b) x → Listed x
  this_listed true x c = subst (λ (y : Source). Listed y) (one source.Opaque x c) opaque_listed
  this_listed false x c = none x c

  begin_by : (x : Source) → Contains (this_source s.own.this ++ parameters s.own.params) x ⊎ Contains (replicate s.locals source.Null) x → Listed x
  begin_by x (inr c) = subst (λ (y : Source). Listed y) (null_only s.locals x c) null_listed
  begin_by x (inl c) = front (Contains-append_cases (this_source s.own.this) (parameters s.own.params) x c)
    where
      front : Contains (this_source s.own.this) x ⊎ Contains (parameters s.own.params) x → Listed x
      front (inl h) = this_listed s.own.this x h
      front (inr h) = param_listed x h

  pub begin_listed : (x : Source) → Contains (begins_of s) x → Listed x
  begin_listed x c = begin_by x (Contains-append_cases (this_source s.own.this ++ parameters s.own.params) (replicate s.locals source.Null) x c)

  -- the list

  abbrev pub listing : List Source
  listing = add_all same_source [] (all_sources recs s owner)

  zero_plus : (n : ℕ) → 0 + n ≡ n
  zero_plus n = omega arith

  number_by : (x : Source) → PlaceOf listing x 0 → slice_get listing (number_in listing x) ≡ Some x
  number_by x p =
      let e : number_in listing x ≡ p.place = ap (λ (o : Option ℕ). unwrap_or o 1) p.found ∙ zero_plus p.place in
      subst (λ (n : ℕ). slice_get listing n ≡ Some x) (sym e) p.there

  pub numbered_listed : (x : Source) → Listed x → slice_get listing (number_in listing x) ≡ Some x
  numbered_listed x c = number_by x (place_of listing x 0 (new_comes [] (all_sources recs s owner) x c))

  back_by : (x : Source) → Contains [] x ⊎ Listed x → Listed x
  back_by x (inl c) = none x c
  back_by x (inr c) = c

  pub listed_back : (k : ℕ) (x : Source) → slice_get listing k ≡ Some x → Listed x
  listed_back k x e = back_by x (only_those [] (all_sources recs s owner) x (contained listing k x e))

  pub places_same : (i j : ℕ) (x : Source) → slice_get listing i ≡ Some x → slice_get listing j ≡ Some x → i ≡ j
  unfolding Distinct
  places_same = all_distinct [] (all_sources recs s owner) none_distinct

  two : 2 ≤ length listing
  two = longer (source.Null ∷ source.Opaque ∷ []) (parameters s.own.params ++ flat_map (sources_by recs s owner) s.body.code)

  below_of : (x : Source) (o : Option ℕ) → position_from (same_source x) 0 listing ≡ o → unwrap_or o 1 < length listing
  below_of x None e = let h : 2 ≤ length listing = two in omega arith
  below_of x (Some n) e = let h : n < 0 + length listing = position_below (same_source x) 0 listing n e in omega arith

  pub number_below : (x : Source) → number_in listing x < length listing
  number_below x = below_of x (position_from (same_source x) 0 listing) refl
