-- One step of a way into structs.
use Rattle.std.proofs.Common.{◌≡◌, refl, ℕ, ◌+◌, ◌<◌, ◌≤◌, List, [], ◌∷◌, length, get_or, drop}
use Rattle.std.specs.Prelude.{Option, Some, None, slice_get}
use Rattle.std.specs.Option.{option_map, option_and_then}
use Rattle.std.proofs.lemmas.List.{drop_more, drop_all}
use Rattle.il_base.specs.declared.cil_values.value.Value.{Value}
use Rattle.rules.specs.step_rules.Stores.{Parts, parts_of}
use Rattle.rules.specs.step_rules.Places.{value_in, with_struct, put_in}

abbrev pub part : ℕ → Option Parts → Option Value
part k o = option_and_then (λ (p : Parts). slice_get p.cells k) o

opened : (k : ℕ) (ks : List ℕ) (v : Value) → value_in (k ∷ ks) v ≡ option_and_then (λ (p : Parts). option_and_then (value_in ks) (slice_get p.cells k)) (parts_of v)
unfolding value_in
opened k ks v = refl

ended : (v : Value) → value_in [] v ≡ Some v
unfolding value_in
ended v = refl

goes : (k : ℕ) (ks : List ℕ) (w : Value) (o : Option Parts) → part k o ≡ Some w → option_and_then (λ (p : Parts). option_and_then (value_in ks) (slice_get p.cells k)) o ≡ value_in ks w
goes k ks w None e = absurd cc
goes k ks w (Some p) e = rw e refl

stops : (k : ℕ) (ks : List ℕ) (o : Option Parts) → part k o ≡ None → option_and_then (λ (p : Parts). option_and_then (value_in ks) (slice_get p.cells k)) o ≡ None
stops k ks None e = refl
stops k ks (Some p) e = rw e refl

pub step_in : (ks : List ℕ) (i : ℕ) (v w : Value) → i < length ks → part (get_or ks i 0) (parts_of v) ≡ Some w → value_in (drop i ks) v ≡ value_in (drop (i + 1) ks) w
step_in ks i v w p h = rw (drop_more ks i 0 p, opened (get_or ks i 0) (drop (i + 1) ks) v) (goes (get_or ks i 0) (drop (i + 1) ks) w (parts_of v) h)

pub none_in : (ks : List ℕ) (i : ℕ) (v : Value) → i < length ks → part (get_or ks i 0) (parts_of v) ≡ None → value_in (drop i ks) v ≡ None
none_in ks i v p h = rw (drop_more ks i 0 p, opened (get_or ks i 0) (drop (i + 1) ks) v) (stops (get_or ks i 0) (drop (i + 1) ks) (parts_of v) h)

pub end_in : (ks : List ℕ) (i : ℕ) (v : Value) → length ks ≤ i → value_in (drop i ks) v ≡ Some v
end_in ks i v p = rw (drop_all i ks p) (ended v)

-- ---- a value put at the end

put_opened : (k : ℕ) (ks : List ℕ) (new v : Value) → put_in (k ∷ ks) new v ≡ option_and_then (λ (p : Parts). option_map (with_struct p k) (option_and_then (put_in ks new) (slice_get p.cells k))) (parts_of v)
unfolding put_in
put_opened k ks new v = refl

put_ended : (new v : Value) → put_in [] new v ≡ Some new
unfolding put_in
put_ended new v = refl

put_stops : (k : ℕ) (ks : List ℕ) (new : Value) (o : Option Parts) → part k o ≡ None
    → option_and_then (λ (p : Parts). option_map (with_struct p k) (option_and_then (put_in ks new) (slice_get p.cells k))) o ≡ None
put_stops k ks new None e = refl
put_stops k ks new (Some p) e = rw e refl

put_fails : (k : ℕ) (ks : List ℕ) (new w : Value) (o : Option Parts) → part k o ≡ Some w → put_in ks new w ≡ None
    → option_and_then (λ (p : Parts). option_map (with_struct p k) (option_and_then (put_in ks new) (slice_get p.cells k))) o ≡ None
put_fails k ks new w None e h = refl
put_fails k ks new w (Some p) e h = rw (e, h) refl

put_goes : (k : ℕ) (ks : List ℕ) (new w x : Value) (o : Option Parts) → part k o ≡ Some w → put_in ks new w ≡ Some x
    → option_and_then (λ (p : Parts). option_map (with_struct p k) (option_and_then (put_in ks new) (slice_get p.cells k))) o ≡ option_map (λ (p : Parts). with_struct p k x) o
put_goes k ks new w x None e h = refl
put_goes k ks new w x (Some p) e h = rw (e, h) refl

pub none_put : (ks : List ℕ) (i : ℕ) (new v : Value) → i < length ks → part (get_or ks i 0) (parts_of v) ≡ None → put_in (drop i ks) new v ≡ None
none_put ks i new v p h = rw (drop_more ks i 0 p, put_opened (get_or ks i 0) (drop (i + 1) ks) new v) (put_stops (get_or ks i 0) (drop (i + 1) ks) new (parts_of v) h)

pub fails_put : (ks : List ℕ) (i : ℕ) (new v w : Value) → i < length ks → part (get_or ks i 0) (parts_of v) ≡ Some w
    → put_in (drop (i + 1) ks) new w ≡ None → put_in (drop i ks) new v ≡ None
fails_put ks i new v w p h g = rw (drop_more ks i 0 p, put_opened (get_or ks i 0) (drop (i + 1) ks) new v) (put_fails (get_or ks i 0) (drop (i + 1) ks) new w (parts_of v) h g)

pub step_put : (ks : List ℕ) (i : ℕ) (new v w x : Value) → i < length ks → part (get_or ks i 0) (parts_of v) ≡ Some w
    → put_in (drop (i + 1) ks) new w ≡ Some x → put_in (drop i ks) new v ≡ option_map (λ (p : Parts). with_struct p (get_or ks i 0) x) (parts_of v)
step_put ks i new v w x p h g = rw (drop_more ks i 0 p, put_opened (get_or ks i 0) (drop (i + 1) ks) new v) (put_goes (get_or ks i 0) (drop (i + 1) ks) new w x (parts_of v) h g)

pub end_put : (ks : List ℕ) (i : ℕ) (new v : Value) → length ks ≤ i → put_in (drop i ks) new v ≡ Some new
end_put ks i new v p = rw (drop_all i ks p) (put_ended new v)
