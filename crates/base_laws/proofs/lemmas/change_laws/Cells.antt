-- Cells of instances, of which those of fields that aren't kept go.
use Rattle.std.proofs.Common.{◌≡◌, ◌<◌, ◌+◌, arith, ℕ, zero, suc, List, [], ◌∷◌, length, map, Bool, true, false, not, Option, Some, None, refl, sym, ap, ◌∙◌}
use Rattle.std.specs.Prelude.{slice_get, slice_set, cond, nat_lt, IsTrue}
use Rattle.std.specs.List.{position, list_all, prefix_len}
use Rattle.std.specs.Option.{option_map, option_and_then}
use Rattle.std.specs.Cmp.{first_so, second_so}
use Rattle.std.proofs.lemmas.Bool.{eqb-true, and_from, ltb-true, lt-ltb}
use Rattle.std.proofs.lemmas.Bool.Decides.{same_from_decides, Decides-ltb}
use Rattle.std.proofs.lemmas.Option.{slice_get-map}
use Rattle.il_base.specs.declared.world_model.expr.TypeExpr.{TypeExpr}
use Rattle.il_base.specs.declared.cil_values.value.Value.{Value}
use Rattle.il_base.specs.declared.cil_values.layout.Cell.{Cell}
use Rattle.il_base.specs.declared.cil_values.layout.Layout.{Layout}
use Rattle.il_base.specs.declared.cil_values.layout.Cell.TheVariants.{Field as of_field, Message as message, Inner as inner}
use Rattle.rules.specs.step_rules.Queries.{Queries}
use Rattle.rules.specs.step_rules.Stores.{zeros_of}
use Rattle.rules.specs.step_rules.Places.{same_cell, cell_place, cell_of, set_if, with_cell}
use Rattle.rules.specs.change_rules.Keeping.{keep, rank}
use Rattle.rules.specs.change_rules.Change.{Keep, Change}
use Rattle.rules.specs.change_rules.Moves.{move_expr, move_value, move_values}
use Rattle.rules.specs.change_rules.Answers.{move_cell, move_layout}
use Rattle.rules.specs.change_rules.States.{keeps_cell, keeps_place, mask, move_cells}
use Rattle.rules.specs.change_rules.Keeps.{keeps_expr}
use Rattle.rules.specs.change_rules.Agree.{Agree}
use Rattle.base_laws.proofs.lemmas.change_laws.Same.{same_fields_moved}

-- ---- what flags keep

pub keep_rank : {A : Type 0} (flags : List Bool) (xs : List A) (m : ℕ) → slice_get flags m ≡ Some true → slice_get (keep flags xs) (rank flags m) ≡ slice_get xs m
unfolding keep rank
keep_rank [] xs m e = cc
keep_rank (b ∷ bs) [] m e = refl
keep_rank (true ∷ bs) (x ∷ xs) zero e = refl
keep_rank (false ∷ bs) (x ∷ xs) zero e = cc
keep_rank (true ∷ bs) (x ∷ xs) (suc m) e = keep_rank bs xs m e
keep_rank (false ∷ bs) (x ∷ xs) (suc m) e = keep_rank bs xs m e

pub keep_map : {A B : Type 0} (f : A → B) (flags : List Bool) (xs : List A) → keep flags (map f xs) ≡ map f (keep flags xs)
unfolding keep
keep_map f [] xs = refl
keep_map f (b ∷ bs) [] = refl
keep_map f (true ∷ bs) (x ∷ xs) = ap (λ ys. f x ∷ ys) (keep_map f bs xs)
keep_map f (false ∷ bs) (x ∷ xs) = keep_map f bs xs

pub keep_set : {A : Type 0} (flags : List Bool) (xs : List A) (m : ℕ) (x : A) → slice_get flags m ≡ Some true
    → slice_set (keep flags xs) (rank flags m) x ≡ keep flags (slice_set xs m x)
unfolding keep rank
keep_set [] xs m x e = cc
keep_set (b ∷ bs) [] m x e = refl
keep_set (true ∷ bs) (y ∷ ys) zero x e = refl
keep_set (false ∷ bs) (y ∷ ys) zero x e = cc
keep_set (true ∷ bs) (y ∷ ys) (suc m) x e = ap (λ zs. y ∷ zs) (keep_set bs ys m x e)
keep_set (false ∷ bs) (y ∷ ys) (suc m) x e = keep_set bs ys m x e

pub set_map : {A B : Type 0} (f : A → B) (xs : List A) (m : ℕ) (x : A) → slice_set (map f xs) m (f x) ≡ map f (slice_set xs m x)
set_map f [] m x = refl
set_map f (y ∷ ys) zero x = refl
set_map f (y ∷ ys) (suc m) x = ap (λ zs. f y ∷ zs) (set_map f ys m x)

-- what is kept after a store there
pub keep_all_set : {A : Type 0} (p : A → Bool) (flags : List Bool) (xs : List A) (m : ℕ) (x : A) → IsTrue (list_all p (keep flags xs)) → IsTrue (p x)
    → IsTrue (list_all p (keep flags (slice_set xs m x)))
unfolding keep
keep_all_set p [] xs m x a b = refl
keep_all_set p (f ∷ fs) [] m x a b = refl
keep_all_set p (true ∷ fs) (y ∷ ys) zero x a b = and_from (p x) _ b (second_so (p y) _ a)
keep_all_set p (false ∷ fs) (y ∷ ys) zero x a b = a
keep_all_set p (true ∷ fs) (y ∷ ys) (suc m) x a b = and_from (p y) _ (first_so (p y) _ a) (keep_all_set p fs ys m x (second_so (p y) _ a) b)
keep_all_set p (false ∷ fs) (y ∷ ys) (suc m) x a b = keep_all_set p fs ys m x a b

-- ---- the place of a cell

lt_suc : (n m : ℕ) → nat_lt (suc n) (suc m) ≡ nat_lt n m
lt_suc n m =
    same_from_decides (nat_lt (suc n) (suc m)) (nat_lt n m)
    (λ h. let f : suc n < suc m = ltb-true (suc n) (suc m) h in omega arith, λ (h : n < m). lt-ltb (suc n) (suc m) (omega arith)) (Decides-ltb n m)

place_by : (b : Bool) (n len : ℕ) (l : Bool) → nat_lt n len ≡ l
    → cond (nat_lt (cond (not b) (suc n) 0) (suc len)) (Some (cond (not b) (suc n) 0)) None ≡ cond b (Some 0) (option_map suc (cond l (Some n) None))
place_by true n len l e = ap (λ (x : Bool). cond x (Some 0) None) (lt-ltb 0 (suc len) (omega arith))
place_by false n len true e = ap (λ (x : Bool). cond x (Some (suc n)) None) (lt_suc n len ∙ e)
place_by false n len false e = ap (λ (x : Bool). cond x (Some (suc n)) None) (lt_suc n len ∙ e)

pub position_step : {A : Type 0} (p : A → Bool) (x : A) (xs : List A) → position p (x ∷ xs) ≡ cond (p x) (Some 0) (option_map suc (position p xs))
position_step p x xs =
    let n : ℕ = prefix_len (λ y. not (p y)) xs in
    let one : (1 + n) ≡ suc n = omega arith in
    ap (λ (z : ℕ). cond (nat_lt (cond (not (p x)) z 0) (suc (length xs))) (Some (cond (not (p x)) z 0)) None) one ∙ place_by (p x) n (length xs) _ refl

pub place_step : (c : Cell) (l : Layout) (ls : List Layout) → cell_place c (l ∷ ls) ≡ cond (same_cell c l.cell) (Some 0) (option_map suc (cell_place c ls))
unfolding cell_place
place_step c l ls = position_step (λ x. same_cell c x.cell) l ls

-- cells that are the same are kept alike
same_kept : (k : Keep) (c d : Cell) → same_cell c d ≡ true → IsTrue (keeps_cell k c) → IsTrue (keeps_cell k d)
same_kept k (of_field a) (of_field b) e h = let is : a ≡ b = eqb-true a b e in ap k.field (sym is) ∙ h
same_kept k c message e h = refl
same_kept k c inner e h = refl
same_kept k message (of_field b) e h = cc
same_kept k inner (of_field b) e h = cc

-- a kept cell has its place among the flags
first_flag : (k : Keep) (c : Cell) (l : Layout) (ls : List Layout) (p : ℕ) (s : Bool) (rest : Option ℕ) → same_cell c l.cell ≡ s → IsTrue (keeps_cell k c)
    → ((n : ℕ) → rest ≡ Some n → slice_get (mask k ls) n ≡ Some true) → cond s (Some 0) (option_map suc rest) ≡ Some p → slice_get (mask k (l ∷ ls)) p ≡ Some true
first_flag k c l ls zero true rest e h f is = ap (λ (b : Bool). Some b) (same_kept k c l.cell e h)
first_flag k c l ls (suc p) true rest e h f is = cc
first_flag k c l ls p false None e h f is = cc
first_flag k c l ls zero false (Some n) e h f is = cc
first_flag k c l ls (suc p) false (Some n) e h f is = f p cc

no_place : (c : Cell) (p : ℕ) → cell_place c [] ≡ Some p → ⊥
unfolding cell_place
no_place c p e = cc

pub place_flag : (k : Keep) (c : Cell) → IsTrue (keeps_cell k c) → (ls : List Layout) (p : ℕ) → cell_place c ls ≡ Some p → slice_get (mask k ls) p ≡ Some true
place_flag k c h [] p e = absurd (no_place c p e)
place_flag k c h (l ∷ ls) p e = first_flag k c l ls p (same_cell c l.cell) (cell_place c ls) refl h (place_flag k c h ls) (sym (place_step c l ls) ∙ e)

ranked_kept : (flags : List Bool) (s : Bool) (rest : Option ℕ)
    → cond s (Some 0) (option_map suc (option_map (rank flags) rest)) ≡ option_map (rank (true ∷ flags)) (cond s (Some 0) (option_map suc rest))
unfolding rank
ranked_kept flags true rest = refl
ranked_kept flags false None = refl
ranked_kept flags false (Some n) = refl

ranked_gone : (flags : List Bool) (rest : Option ℕ) → option_map (rank flags) rest ≡ option_map (rank (false ∷ flags)) (option_map suc rest)
unfolding rank
ranked_gone flags None = refl
ranked_gone flags (Some n) = refl

unlike : (k : Keep) (c d : Cell) (s : Bool) → same_cell c d ≡ s → IsTrue (keeps_cell k c) → keeps_cell k d ≡ false → s ≡ false
unlike k c d true e h f = sym (same_kept k c d e h) ∙ f
unlike k c d false e h f = refl

module _ (k : Change) where
  cells_same : (c d : Cell) → same_cell (move_cell k.rho c) (move_cell k.rho d) ≡ same_cell c d
  cells_same (of_field a) (of_field b) = same_fields_moved k.back k.rho k.undone a b
  cells_same (of_field a) message = refl
  cells_same (of_field a) inner = refl
  cells_same message (of_field b) = refl
  cells_same message message = refl
  cells_same message inner = refl
  cells_same inner (of_field b) = refl
  cells_same inner message = refl
  cells_same inner inner = refl

  abbrev Stay : List Layout → List Layout
  Stay ls = map (move_layout k.rho) (keep (mask k.keep ls) ls)

  abbrev PlaceMoves : Cell → List Bool → List Layout → List Layout → Type 0
  PlaceMoves c flags stay ls = cell_place (move_cell k.rho c) stay ≡ option_map (rank flags) (cell_place c ls)

  place_layer : (c : Cell) (l : Layout) (ls : List Layout) (b : Bool) → IsTrue (keeps_cell k.keep c) → keeps_place k.keep l ≡ b
      → PlaceMoves c (mask k.keep ls) (Stay ls) ls → PlaceMoves c (b ∷ mask k.keep ls) (map (move_layout k.rho) (keep (b ∷ mask k.keep ls) (l ∷ ls))) (l ∷ ls)
  unfolding keep
  place_layer c l ls true h e before =
      let s : Bool = same_cell c l.cell in
      let m : List Bool = mask k.keep ls in
      place_step (move_cell k.rho c) (move_layout k.rho l) (Stay ls)
      ∙ (λ i. cond (cells_same c l.cell i) (Some 0) (option_map suc (before i)))
      ∙ ranked_kept m s (cell_place c ls) ∙ ap (option_map (rank (true ∷ m))) (sym (place_step c l ls))
  place_layer c l ls false h e before =
      let m : List Bool = mask k.keep ls in
      let f : same_cell c l.cell ≡ false = unlike k.keep c l.cell (same_cell c l.cell) refl h e in
      before ∙ ranked_gone m (cell_place c ls)
      ∙ ap (option_map (rank (false ∷ m))) (sym (place_step c l ls ∙ ap (λ (s : Bool). cond s (Some 0) (option_map suc (cell_place c ls))) f))

  place_none : (c : Cell) → PlaceMoves c [] [] []
  unfolding cell_place
  place_none c = refl

  keep_none : Stay [] ≡ []
  unfolding keep
  keep_none = refl

  -- the place of a kept cell
  pub place_moved : (c : Cell) → IsTrue (keeps_cell k.keep c) → (ls : List Layout) → PlaceMoves c (mask k.keep ls) (Stay ls) ls
  place_moved c h [] = ap (cell_place (move_cell k.rho c)) keep_none ∙ place_none c
  place_moved c h (l ∷ ls) = place_layer c l ls (keeps_place k.keep l) h refl (place_moved c h ls)

  -- ---- read, written, at first

  read_at : (flags : List Bool) (cells : List Value) (p : Option ℕ) → ((n : ℕ) → p ≡ Some n → slice_get flags n ≡ Some true)
      → option_and_then (slice_get (keep flags (move_values k.rho cells))) (option_map (rank flags) p) ≡ option_map (move_value k.rho) (option_and_then (slice_get cells) p)
  read_at flags cells None h = refl
  read_at flags cells (Some n) h = keep_rank flags (move_values k.rho cells) n (h n refl) ∙ slice_get-map (move_value k.rho) cells n

  set_had : (v : Value) (flags : List Bool) (cells : List Value) (n : ℕ) (old : Option Value) → slice_get flags n ≡ Some true
      → option_map (λ (o : Value). slice_set (keep flags (move_values k.rho cells)) (rank flags n) (move_value k.rho v)) (option_map (move_value k.rho) old)
      ≡ option_map (λ (vs : List Value). keep flags (move_values k.rho vs)) (option_map (λ (o : Value). slice_set cells n v) old)
  set_had v flags cells n None h = refl
  set_had v flags cells n (Some o) h =
      ap (λ (vs : List Value). Some vs) (keep_set flags (move_values k.rho cells) n (move_value k.rho v) h ∙ ap (keep flags) (set_map (move_value k.rho) cells n v))

  set_at : (v : Value) (flags : List Bool) (cells : List Value) (p : Option ℕ) → ((n : ℕ) → p ≡ Some n → slice_get flags n ≡ Some true)
      → option_and_then (set_if (keep flags (move_values k.rho cells)) (move_value k.rho v)) (option_map (rank flags) p)
      ≡ option_map (λ (vs : List Value). keep flags (move_values k.rho vs)) (option_and_then (set_if cells v) p)
  set_at v flags cells None h = refl
  set_at v flags cells (Some n) h =
      let old : slice_get (keep flags (move_values k.rho cells)) (rank flags n) ≡ option_map (move_value k.rho) (slice_get cells n)
      = keep_rank flags (move_values k.rho cells) n (h n refl) ∙ slice_get-map (move_value k.rho) cells n in
      ap (option_map (λ (o : Value). slice_set (keep flags (move_values k.rho cells)) (rank flags n) (move_value k.rho v))) old
      ∙ set_had v flags cells n (slice_get cells n) (h n refl)

  zeros_moved : (ls : List Layout) → zeros_of (map (move_layout k.rho) ls) ≡ move_values k.rho (zeros_of ls)
  zeros_moved [] = refl
  zeros_moved (l ∷ ls) = ap (λ (vs : List Value). move_value k.rho l.zero ∷ vs) (zeros_moved ls)

  module _ (after before : Queries) (a : Agree k after before) (e : TypeExpr) (known : IsTrue (keeps_expr k.keep e)) where
    pub place_after : (c : Cell) → IsTrue (keeps_cell k.keep c)
        → cell_place (move_cell k.rho c) (after.cells (move_expr k.rho e)) ≡ option_map (rank (mask k.keep (before.cells e))) (cell_place c (before.cells e))
    place_after c h = ap (cell_place (move_cell k.rho c)) (a.cells e known) ∙ place_moved c h (before.cells e)

    pub cells_read : (cells : List Value) (c : Cell) → IsTrue (keeps_cell k.keep c)
        → cell_of after (move_expr k.rho e) (move_cells k before e cells) (move_cell k.rho c) ≡ option_map (move_value k.rho) (cell_of before e cells c)
    unfolding cell_of
    cells_read cells c h =
        ap (option_and_then (slice_get (move_cells k before e cells))) (place_after c h)
        ∙ read_at (mask k.keep (before.cells e)) cells (cell_place c (before.cells e)) (place_flag k.keep c h (before.cells e))

    pub cells_written : (cells : List Value) (c : Cell) (v : Value) → IsTrue (keeps_cell k.keep c)
        → with_cell after (move_expr k.rho e) (move_cells k before e cells) (move_cell k.rho c) (move_value k.rho v) ≡ option_map (move_cells k before e) (with_cell before e cells c v)
    unfolding with_cell
    cells_written cells c v h =
        ap (option_and_then (set_if (move_cells k before e cells) (move_value k.rho v))) (place_after c h)
        ∙ set_at v (mask k.keep (before.cells e)) cells (cell_place c (before.cells e)) (place_flag k.keep c h (before.cells e))

    pub zeros_move : zeros_of (after.cells (move_expr k.rho e)) ≡ move_cells k before e (zeros_of (before.cells e))
    zeros_move =
        let m : List Bool = mask k.keep (before.cells e) in
        ap zeros_of (a.cells e known) ∙ zeros_moved (keep m (before.cells e))
        ∙ ap (move_values k.rho) (sym (keep_map (λ (l : Layout). l.zero) m (before.cells e)))
        ∙ sym (keep_map (move_value k.rho) m (zeros_of (before.cells e)))
