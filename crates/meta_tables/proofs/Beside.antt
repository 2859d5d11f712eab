-- Walks over streams.
use Rattle.std.proofs.Common.{◌≡◌, ℕ, zero, suc, ◌+◌, ◌<◌, ◌≤◌, Bool, true, false, cond, eqb, List, [], ◌∷◌, ◌++◌, length, drop, get_or, Option, Some, None, refl, sym, subst, inl, inr, arith}
use Rattle.std.specs.Prelude.{not, ◌&&◌, ◌==◌, nat_le, ◌⊎◌}
use Rattle.il_base.specs.declared.cli_format.stream.Stream.{Stream}
use Rattle.il_base.specs.declared.cli_format.stream.StreamName.{StreamName}
use Rattle.il_base.specs.cli_format.Streams.{agrees, name_number, stream_called, stream_at, nth_stream, header_place, header_size, version_length, streams_place, streams_before, streams_of, stream_count}
use Rattle.il_base.specs.declared.reason.TheConstants.{BAD_STREAM}
use Rattle.il_base.specs.cli_format.Demand.{demand, first_fault, each_below}
use Rattle.il_base.specs.cli_format.Metadata.{bad_at, header_fits, stream_fits, stream_demands, nth_stream_demands}
use Rattle.il_base.proofs.lemmas.cli_format.Faults.{none_of_both, one_held}
use Rattle.std.proofs.lemmas.Bool.{leb-true}
use Rattle.meta_tables.specs.Held.{StreamsWithin}
use Rattle.meta_tables.proofs.Lists.{drop_step, drop_end, if_true, if_false}

-- ---- the stream of a name

pub called_goes_on : (name : StreamName) (ts : List Stream) (i : ℕ) (d : Stream) → i < length ts → eqb (name_number (get_or ts i d).name) (name_number name) ≡ false
    → stream_called name (drop (i + 1) ts) ≡ stream_called name (drop i ts)
unfolding stream_called
called_goes_on name ts i d lt p = rw (drop_step ts i d lt) (sym (if_false (eqb (name_number (get_or ts i d).name) (name_number name)) (Some (get_or ts i d)) (stream_called name (drop (i + 1) ts)) p))

pub called_here : (name : StreamName) (ts : List Stream) (i : ℕ) (d : Stream) → i < length ts → eqb (name_number (get_or ts i d).name) (name_number name) ≡ true
    → stream_called name (drop i ts) ≡ Some (get_or ts i d)
unfolding stream_called
called_here name ts i d lt p = rw (drop_step ts i d lt) (if_true (eqb (name_number (get_or ts i d).name) (name_number name)) (Some (get_or ts i d)) (stream_called name (drop (i + 1) ts)) p)

pub called_end : (name : StreamName) (ts : List Stream) (i : ℕ) → length ts ≤ i → stream_called name (drop i ts) ≡ None
unfolding stream_called
called_end name ts i le = rw (drop_end ts i le) refl

pub ruleset calling = (called_goes_on, called_here, called_end)

-- ---- each stream lies in the metadata

and_first : (a b c : Bool) → (a && b && c) ≡ true → a ≡ true
and_first true b c p = refl
and_first false b c p = absurd cc

none_called : (name : StreamName) (s : Stream) → stream_called name [] ≡ Some s → ⊥
unfolding stream_called
none_called name s p = absurd cc

last_step : (b : Bool) (t s : Stream) → cond b (Some t) None ≡ Some s → (None ≡ Some s) ⊎ (t ≡ s)
last_step true t s p = inr (cc)
last_step false t s p = absurd cc

more_step : (b : Bool) (x s : Stream) (before after : Option Stream) (t : Stream) → cond b (Some x) after ≡ Some s → (after ≡ Some s → (before ≡ Some s) ⊎ (t ≡ s)) → (cond b (Some x) before ≡ Some s) ⊎ (t ≡ s)
more_step true x s before after t p f = inl p
more_step false x s before after t p f = f p

fits_within : (bs : List ℕ) (base h : ℕ) (earlier : List Stream) → first_fault (stream_demands bs base h earlier) ≡ None → (stream_at bs h).offset + (stream_at bs h).size ≤ length bs
unfolding stream_demands stream_fits name_number
fits_within bs base h earlier held =
    let both = none_of_both (demand (header_fits bs h) (bad_at (base + h) BAD_STREAM)) (demand (stream_fits bs (stream_at bs h) earlier) (bad_at (base + h) BAD_STREAM)) held in
    let fits = one_held (stream_fits bs (stream_at bs h) earlier) (bad_at (base + h) BAD_STREAM) both.1 in
    let first = and_first (nat_le ((stream_at bs h).offset + (stream_at bs h).size) (length bs)) (agrees (stream_at bs h) earlier) (not (name_number (stream_at bs h).name == 5)) fits in
    leb-true _ _ first

found_either : (name : StreamName) (xs : List Stream) (t s : Stream) → stream_called name (xs ++ t ∷ []) ≡ Some s → (stream_called name xs ≡ Some s) ⊎ (t ≡ s)
unfolding stream_called
found_either name [] t s p = last_step (eqb (name_number t.name) (name_number name)) t s p
found_either name (x ∷ xs) t s p = more_step (eqb (name_number x.name) (name_number name)) x s (stream_called name xs) (stream_called name (xs ++ t ∷ [])) t p (found_either name xs t s)

pub streams_within : (bs : List ℕ) (base n : ℕ) (name : StreamName) (s : Stream) → first_fault (each_below (nth_stream_demands bs base) n) ≡ None
    → stream_called name (streams_before bs n) ≡ Some s → s.offset + s.size ≤ length bs
unfolding each_below streams_before nth_stream_demands stream_demands stream_fits nth_stream
streams_within bs base zero name s held p = absurd (none_called name s p)
streams_within bs base (suc n) name s held p =
    let both = none_of_both (each_below (nth_stream_demands bs base) n) (nth_stream_demands bs base n) held in
    elim (found_either name (streams_before bs n) (nth_stream bs n) s p) [
      | inl before ↦ streams_within bs base n name s both.0 before
      | inr is ↦ subst (λ (x : Stream). x.offset + x.size ≤ length bs) is (fits_within bs base (header_place bs n) (streams_before bs n) both.1)
    ]

pub all_within : (bs : List ℕ) (base : ℕ) → first_fault (each_below (nth_stream_demands bs base) (stream_count bs)) ≡ None → StreamsWithin bs
unfolding streams_of
all_within bs base held = λ name s p. streams_within bs base (stream_count bs) name s held p

-- ---- one stream more

pub before_none : (bs : List ℕ) → streams_before bs 0 ≡ []
unfolding streams_before
before_none bs = refl

pub before_more : (bs : List ℕ) (i : ℕ) → streams_before bs (i + 1) ≡ streams_before bs i ++ nth_stream bs i ∷ []
unfolding streams_before
before_more bs i = let e : i + 1 ≡ suc i = omega arith in rw e refl

pub header_first : (bs : List ℕ) → header_place bs 0 ≡ 20 + version_length bs
unfolding header_place streams_place
header_first bs = refl

pub header_more : (bs : List ℕ) (i : ℕ) → header_place bs (i + 1) ≡ header_place bs i + header_size bs (header_place bs i)
unfolding header_place
header_more bs i = let e : i + 1 ≡ suc i = omega arith in rw e refl

pub ruleset listing = (before_none, before_more, header_first, header_more)
