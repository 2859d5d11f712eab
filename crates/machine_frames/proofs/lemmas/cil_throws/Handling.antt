-- Handlers, from the innermost on.
use Rattle.std.proofs.Common.{◌≡◌, ℕ, suc, ◌+◌, ◌-◌, ◌<◌, ◌≤◌, true, false, nat_eq, List, ◌∷◌, length, drop, reverse, Option, Some, None, get_or, refl, sym, ap, ◌∙◌, arith, add-one}
use Rattle.std.specs.Prelude.{slice_get, find}
use Rattle.std.specs.Option.{option_map}
use Rattle.std.proofs.Math.Seq.{drop-cons}
use Rattle.std.proofs.lemmas.List.{length-reverse, drop_all}
use Rattle.std.proofs.lemmas.Option.{slice_get_read}
use Rattle.il_base.specs.declared.cil_values.resolved.Clause.{Clause}
use Rattle.il_base.specs.declared.cil_values.frame.Running.{Running}
use Rattle.il_base.specs.declared.cil_values.frame.Reason.{Reason}
use Rattle.rules.specs.step_rules.Throws.{Placed, better, innermost_from, reason_of}
use Rattle.machine_frames.proofs.lemmas.cil_raising.Searching.{from_the_top, drop_next}

-- what is looked up from the end of the reversed list is the next of the list
next_from_end : {X : Type 0} (xs ys : List X) (k : ℕ) (x : X) → reverse xs ≡ ys → k < length ys → x ≡ get_or ys (length ys - (k + 1)) x → drop k xs ≡ x ∷ drop (k + 1) xs
next_from_end {X = X} xs ys k x is h at =
    let same : length ys ≡ length xs = rw (← is) (length-reverse xs) in
    let within : k < length xs = omega arith in
    let inside : length ys - (k + 1) < length ys = omega arith in
    let read : slice_get ys (length ys - (k + 1)) ≡ Some x = slice_get_read ys (length ys) (length ys - (k + 1)) x refl inside at in
    drop_next xs k x (sym read ∙ ap (λ (zs : List X). slice_get zs (length zs - (k + 1))) (sym is) ∙ from_the_top xs k within)

abbrev pub reason_on : ℕ → List Running → Option Reason
reason_on n rs = option_map (λ (r : Running). r.reason) (find (λ (r : Running). nat_eq r.clause n) rs)

pub reason_begins : (n : ℕ) (rs : List Running) → reason_on n rs ≡ reason_of n rs
unfolding reason_of
reason_begins n rs = refl

module _ (n : ℕ) (rs ys : List Running) (k : ℕ) (r : Running) (is : reverse rs ≡ ys) (h : k < length ys) (at : r ≡ get_or ys (length ys - (k + 1)) r) where
  pub reason_here : nat_eq r.clause n ≡ true → reason_on n (drop k rs) ≡ Some r.reason
  reason_here so = ap (reason_on n) (next_from_end rs ys k r is h at) ∙ rw so refl

  pub reason_further : nat_eq r.clause n ≡ false → reason_on n (drop k rs) ≡ reason_on n (drop (k + 1) rs)
  reason_further not_so = ap (reason_on n) (next_from_end rs ys k r is h at) ∙ rw not_so refl

pub reason_nowhere : (n : ℕ) (rs : List Running) (k : ℕ) → length rs ≤ k → reason_on n (drop k rs) ≡ None
reason_nowhere n rs k past = ap (reason_on n) (drop_all k rs past)

-- ---- the innermost handler

pub better_next : (at : ℕ) (best : Option Placed) (n : ℕ) (cs : List Clause) (c : Clause) → n < length cs → c ≡ get_or cs n c → innermost_from at best n (drop n cs) ≡ innermost_from at (better at n c best) (n + 1) (drop (n + 1) cs)
unfolding innermost_from
better_next at best n cs c h is = ap (innermost_from at best n) (drop-cons cs n c h ∙ ap (λ x. x ∷ drop (suc n) cs) (sym is)) ∙ rw add-one refl

pub none_left : (at : ℕ) (best : Option Placed) (n : ℕ) (cs : List Clause) → length cs ≤ n → innermost_from at best n (drop n cs) ≡ best
unfolding innermost_from
none_left at best n cs past = ap (innermost_from at best n) (drop_all n cs past)
