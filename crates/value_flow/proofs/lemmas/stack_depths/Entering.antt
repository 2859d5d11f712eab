-- An instruction that is entered at a depth, and the steps from one.
use Rattle.std.proofs.Common.{◌≡◌, ◌≢◌, ℕ, suc, ◌+◌, ◌<◌, ◌≤◌, List, [], ◌∷◌, ◌++◌, ◌⊎◌, inl, inr, Bool, true, false, refl, ap, sym, ◌∙◌, subst, slice_set, get_or, length, length-append, length-set, arith}
use Rattle.std.specs.Prelude.{Option, Some, None, slice_get}
use Rattle.std.proofs.lemmas.Option.{slice_get-get_or}
use Rattle.std.specs.List.{Contains}
use Rattle.std.proofs.lemmas.List.Elements.{Contains-append_left, Contains-push}
use borrow.Author.Count.{below_more}
use Rattle.rules.specs.declared.flow_rules.exit.Way.TheVariants as way
use Rattle.rules.specs.declared.flow_rules.exit.Step.{Step}
use Rattle.rules.specs.declared.flow_rules.exit.Exit.{Exit}
use Rattle.value_flow.specs.declared.stack_depths.search.Search.{Search}
use Rattle.rules.specs.flow_rules.Depths.{depth_at, depth_by, entered_by, arrives}
use Rattle.value_flow.specs.stack_depths.Search.{depth_in, missing, work_left, Enters, Takes, Clashes}
use Rattle.value_flow.proofs.lemmas.stack_depths.Lists.{mapped}
use Rattle.value_flow.proofs.lemmas.stack_depths.Marks.{still_there, now_there, newly_there, one_fewer}

-- ---- one instruction

abbrev pub searched : List (Option ℕ) → List ℕ → Search
searched found todo = record { found = found; todo = todo }

new_only : (found : List (Option ℕ)) (todo : List ℕ) (to f i d : ℕ) → (depth_at found i ≡ Some d) ⊎ ((i ≡ to) × (d ≡ f))
    → (depth_at found i ≡ Some d) ⊎ ((i ≡ to) × (d ≡ f) × Contains (todo ++ to ∷ []) i)
new_only found todo to f i d (inl h) = inl h
new_only found todo to f i d (inr h) = inr (h.0, h.1, subst (λ (n : ℕ). Contains (todo ++ to ∷ []) n) (sym h.0) (Contains-push todo to))

pub enters_new : (found : List (Option ℕ)) (todo : List ℕ) (to f : ℕ) → to < length found → depth_at found to ≡ None
    → Enters to f (searched found todo) (searched (slice_set found to (Some f)) (todo ++ to ∷ [])) true
enters_new found todo to f h n = record {
  one_each = length-set found to (Some f);
  keeps = λ i d e. still_there found to f i d n e;
  waits = λ i e. Contains-append_left todo (to ∷ []) i e;
  only = λ i d e. new_only found todo to f i d (newly_there found to f i d e);
  no_more = let k : suc (missing (slice_set found to (Some f))) ≡ missing found = one_fewer found to f h n in
      let l : length (todo ++ to ∷ []) ≡ length todo + 1 = length-append todo (to ∷ []) in omega arith;
  there = λ e. now_there found to f h;
  clash = λ e. cc;
}

pub enters_known : (s : Search) (to f d : ℕ) (ok : Bool) → depth_in s to ≡ Some d → (ok ≡ true → d ≡ f) → (ok ≡ false → d ≢ f) → Enters to f s s ok
enters_known s to f d ok e same other = record {
  one_each = refl;
  keeps = λ i g h. h;
  waits = λ i h. h;
  only = λ i g h. inl h;
  no_more = omega arith;
  there = λ h. e ∙ ap (λ (n : ℕ). Some n) (same h);
  clash = λ h. (d, e, other h);
}

-- ---- the steps from an instruction

pub takes_none : (d : ℕ) (e : Exit) (s : Search) → Takes d e 0 s s
takes_none d e s = record {
  one_each = refl;
  keeps = λ i g h. h;
  waits = λ i h. h;
  only = λ i g h. inl h;
  no_more = omega arith;
  done = λ k st h. absurd (omega arith);
}

module _ (d : ℕ) (e : Exit) (n : ℕ) (st : Step) (before mid after : Search) (here : slice_get e.steps n ≡ Some st)
    (p : Takes d e n before mid) where
  arrived : Contains (entered_by d e) (st.to, depth_by st.way d e)
  arrived = mapped (arrives d e) e.steps n st here

  only_old : (i g : ℕ) → Enters st.to (depth_by st.way d e) mid after true → (depth_in before i ≡ Some g) ⊎ (Contains (entered_by d e) (i, g) × Contains mid.todo i)
      → (depth_in before i ≡ Some g) ⊎ (Contains (entered_by d e) (i, g) × Contains after.todo i)
  only_old i g q (inl h) = inl h
  only_old i g q (inr h) = inr (h.0, q.waits i h.1)

  only_new : (i g : ℕ) → Enters st.to (depth_by st.way d e) mid after true → (depth_in mid i ≡ Some g) ⊎ ((i ≡ st.to) × (g ≡ depth_by st.way d e) × Contains after.todo i)
      → (depth_in before i ≡ Some g) ⊎ (Contains (entered_by d e) (i, g) × Contains after.todo i)
  only_new i g q (inl h) = only_old i g q (p.only i g h)
  only_new i g q (inr h) =
      let same : (st.to, depth_by st.way d e) ≡ (i, g) = (λ j. (sym h.0 j, sym h.1 j)) in
      inr (subst (λ (x : ℕ × ℕ). Contains (entered_by d e) x) same arrived, h.2)

  pub takes_more : Enters st.to (depth_by st.way d e) mid after true → Takes d e (n + 1) before after
  takes_more q = record {
    one_each = q.one_each ∙ p.one_each;
    keeps = λ i g h. q.keeps i g (p.keeps i g h);
    waits = λ i h. q.waits i (p.waits i h);
    only = λ i g h. only_new i g q (q.only i g h);
    no_more = let a : work_left after ≤ work_left mid = q.no_more in let b : work_left mid ≤ work_left before = p.no_more in omega arith;
    done = λ k s h. below_more (λ (m : ℕ). slice_get e.steps m ≡ Some s → depth_in after s.to ≡ Some (depth_by s.way d e)) n
        (λ m below there. q.keeps s.to (depth_by s.way d e) (p.done m s below there))
        (λ there. let same : st ≡ s = cc in subst (λ (x : Step). depth_in after x.to ≡ Some (depth_by x.way d e)) same (q.there refl)) k h;
  }

  clashed : (g : ℕ) → g ≢ depth_by st.way d e → (depth_in before st.to ≡ Some g) ⊎ (Contains (entered_by d e) (st.to, g) × Contains mid.todo st.to) → Clashes d e before
  clashed g apart (inl h) = record { place = st.to; one = depth_by st.way d e; other = g; enters = arrived; has = inl h; apart = λ same. apart (sym same) }
  clashed g apart (inr h) = record { place = st.to; one = depth_by st.way d e; other = g; enters = arrived; has = inr h.0; apart = λ same. apart (sym same) }

  pub takes_clash : Enters st.to (depth_by st.way d e) mid after false → Clashes d e before
  takes_clash q = let c : (g : ℕ) × (depth_in mid st.to ≡ Some g) × (g ≢ depth_by st.way d e) = q.clash refl in clashed c.0 c.2 (p.only st.to c.0 c.1)

-- ---- a step by its place in a list that is the instruction's

abbrev pub no_step : Step
no_step = record { to = 0; way = way.Next }

module _ (d : ℕ) (e : Exit) (n : ℕ) (before mid after : Search) (items : List Step) (f : ℕ) (same : items ≡ e.steps) (below : n < length items)
    (depth : f ≡ depth_by (get_or items n no_step).way d e) (p : Takes d e n before mid) where
  there : slice_get e.steps n ≡ Some (get_or items n no_step)
  there = subst (λ (xs : List Step). slice_get xs n ≡ Some (get_or items n no_step)) same (slice_get-get_or items n no_step below)

  entered_so : (ok : Bool) → Enters (get_or items n no_step).to f mid after ok → Enters (get_or items n no_step).to (depth_by (get_or items n no_step).way d e) mid after ok
  entered_so ok q = subst (λ (x : ℕ). Enters (get_or items n no_step).to x mid after ok) depth q

  pub takes_on : (ok : Bool) → ok ≡ true → Enters (get_or items n no_step).to f mid after ok → Takes d e (n + 1) before after
  takes_on true right q = takes_more d e n (get_or items n no_step) before mid after there p (entered_so true q)
  takes_on false right q = absurd (cc)

  pub takes_off : (ok : Bool) → ok ≡ false → Enters (get_or items n no_step).to f mid after ok → Clashes d e before
  takes_off true wrong q = absurd (cc)
  takes_off false wrong q = takes_clash d e n (get_or items n no_step) before mid after there p (entered_so false q)
