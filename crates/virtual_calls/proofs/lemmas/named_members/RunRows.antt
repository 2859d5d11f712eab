-- The rows of a run that pass a test, by the places of all rows that pass it.
use Rattle.std.proofs.Common.{◌≡◌, ℕ, zero, suc, ◌+◌, ◌-◌, ◌≤◌, List, [], ◌∷◌, length, map, take, drop, nat_lt, Bool, true, false, cond, Option, Some, refl, sym, ap, ◌∙◌, arith, add-zero, zero-add}
use Rattle.std.specs.Prelude.{slice_get, ◌||◌, if◌then◌else◌}
use Rattle.std.specs.List.{list_any, filter, range_with_len}
use Rattle.std.proofs.lemmas.Bool.Decides.{nat_tests}
use Rattle.rules.specs.declared.link_rules.row_at.RowAt.{RowAt}
use Rattle.rules.specs.link_rules.Types.{at_row}
use Rattle.rules.specs.link_rules.Cycles.{listed}
use Rattle.type_tables.specs.declared.member_search.owners.Run.{Run}
use Rattle.type_tables.specs.member_search.Names.{places}
use Rattle.type_tables.proofs.lemmas.member_search.Places.{places_behind}
use Rattle.rules.specs.type_rules.Searches as searches
use Rattle.virtual_calls.specs.named_members.Runs.{before_end, GoesOver, AreInRun}

module _ {A : Type 0} (p : A → Bool) where
  -- ---- those before an end

  past_next : (b : Bool) (i end : ℕ) (ks : List ℕ) → end ≤ i → before_end end ks ≡ [] → before_end end (if b then i ∷ ks else ks) ≡ []
  past_next true i end ks h e = let past : nat_lt i end ≡ false = grind (arith, nat_tests) in rw past refl
  past_next false i end ks h e = e

  none_past : (xs : List A) (i end : ℕ) → end ≤ i → before_end end (places p i xs) ≡ []
  none_past [] i end h = refl
  none_past (x ∷ xs) i end h = past_next (p x) i end (places p (i + 1) xs) h (none_past xs (i + 1) end (omega arith))

  here_next : (b : Bool) (i end : ℕ) (ks rest : List ℕ) → nat_lt i end ≡ true → before_end end ks ≡ rest → before_end end (if b then i ∷ ks else ks) ≡ (if b then i ∷ rest else rest)
  here_next true i end ks rest h e = rw (h, e) refl
  here_next false i end ks rest h e = e

  cut_at_end : (xs : List A) (i end n : ℕ) → end - i ≡ n → before_end end (places p i xs) ≡ places p i (take n xs)
  cut_at_end xs i end zero e = none_past xs i end (omega arith)
  cut_at_end [] i end (suc n) e = refl
  cut_at_end (x ∷ xs) i end (suc n) e =
      let before : nat_lt i end ≡ true = grind (arith, nat_tests) in
      here_next (p x) i end (places p (i + 1) xs) (places p (i + 1) (take n xs)) before (cut_at_end xs (i + 1) end n (omega arith))

  -- ---- a test of places

  abbrev Fits : (ℕ → Bool) → ℕ → List A → Type 0
  Fits fits i xs = (k : ℕ) (x : A) → slice_get xs k ≡ Some x → fits (i + k) ≡ p x

  fit_next : (b c : Bool) (i : ℕ) (ks : List ℕ) → c ≡ b → cond c (i ∷ ks) ks ≡ (if b then i ∷ ks else ks)
  fit_next b c i ks e = rw e refl

  fitting : (fits : ℕ → Bool) (xs : List A) (i : ℕ) → Fits fits i xs → filter fits (range_with_len i (length xs)) ≡ places p i xs
  fitting fits [] i w = refl
  fitting fits (x ∷ xs) i w =
      let here : fits i ≡ p x = (rw add-zero at (w 0 x refl)) in
      let later : Fits fits (i + 1) xs = λ k y h. (let n : i + 1 + k ≡ i + suc k = omega arith in rw n (w (suc k) y h)) in
      let rest : filter fits (range_with_len (i + 1) (length xs)) ≡ places p (i + 1) xs = fitting fits xs (i + 1) later in
      ap (λ (ks : List ℕ). cond (fits i) (i ∷ ks) ks) rest ∙ fit_next (p x) (fits i) i (places p (i + 1) xs) here

  get_taken : (n : ℕ) (xs : List A) (k : ℕ) (x : A) → slice_get (take n xs) k ≡ Some x → slice_get xs k ≡ Some x
  get_taken zero xs k x e = cc
  get_taken (suc n) [] k x e = e
  get_taken (suc n) (y ∷ xs) zero x e = e
  get_taken (suc n) (y ∷ xs) (suc k) x e = get_taken n xs k x e

  get_dropped : (n : ℕ) (xs : List A) (k : ℕ) → slice_get (drop n xs) k ≡ slice_get xs (n + k)
  get_dropped zero xs k = rw zero-add refl
  get_dropped (suc n) [] k = refl
  get_dropped (suc n) (x ∷ xs) k = let e : suc n + k ≡ suc (n + k) = omega arith in rw e (get_dropped n xs k)

  abbrev passes : List A → ℕ → Bool
  passes xs k = list_any p (listed (slice_get xs k))

  one : (b : Bool) → (b || false) ≡ b
  one true = refl
  one false = refl

  passes_at : (xs : List A) (k : ℕ) (x : A) → slice_get xs k ≡ Some x → passes xs k ≡ p x
  passes_at xs k x e = ap (λ (o : Option A). list_any p (listed o)) e ∙ one (p x)

  -- ---- the rows of a run

  pub run_rows : (xs : List A) (rows : List ℕ) → rows ≡ places p 0 xs → (asm : ℕ) (run : Run) (found : List RowAt) → AreInRun asm rows run found
      → found ≡ map (at_row asm) (filter (passes xs) (searches.places run.first run.end xs))
  run_rows xs rows e asm run found are =
      let s : ℕ = run.first - 1 in
      let count : ℕ = run.end - run.first in
      let over : GoesOver (places p 0 xs) s are.n = rw e at are.over in
      let behind : drop are.n rows ≡ places p s (drop s xs) = ap (drop are.n) e ∙ places_behind p xs s are.n over.within over.before over.behind in
      let cut : before_end (s + count) (drop are.n rows) ≡ places p s (take count (drop s xs)) =
      ap (before_end (s + count)) behind ∙ cut_at_end (drop s xs) s (s + count) count (omega arith) in
      let fits : Fits (passes xs) s (take count (drop s xs)) =
      λ k x h. passes_at xs (s + k) x (sym (get_dropped s xs k) ∙ get_taken count (drop s xs) k x h) in
      are.are ∙ ap (map (at_row asm)) (cut ∙ sym (fitting (passes xs) (take count (drop s xs)) s fits))
