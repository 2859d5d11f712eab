-- The search as a whole.
use Rattle.std.proofs.Common.{◌≡◌, ◌≢◌, ℕ, ◌+◌, ◌<◌, ◌≤◌, List, [], ◌∷◌, ◌++◌, ◌⊎◌, inl, inr, Bool, true, false, refl, ap, sym, ◌∙◌, subst, length, length-append, arith, replicate}
use Rattle.std.specs.Prelude.{Option, Some, None, slice_get, MatchBool}
use Rattle.std.proofs.lemmas.Option.{slice_get_within}
use Rattle.std.specs.List.{Contains}
use Rattle.std.proofs.lemmas.List.Elements.{Contains-push_cases}
use Rattle.rules.specs.declared.flow_rules.exit.Exit.{Exit}
use Rattle.value_flow.specs.declared.stack_depths.search.Search.{Search}
use Rattle.rules.specs.flow_rules.Depths.{depth_at, depth_by, entered_by, entered, arrives, is_wrong, is_wrong_by, Reaches, start, goes, IsBad, wrong, apart, AreDepths}
use Rattle.value_flow.specs.stack_depths.Search.{depth_in, work_left, Enters, Takes, Clashes, IsSearch, IsSearchBut, IsSettled, GoesOn}
use Rattle.value_flow.proofs.lemmas.stack_depths.Lists.{Source, unmapped}
use Rattle.value_flow.proofs.lemmas.stack_depths.Marks.{none_there}
use Rattle.value_flow.proofs.lemmas.stack_depths.Entering.{searched}

-- ---- the first instruction

first_sound : (exits : List Exit) (found : List (Option ℕ)) (i d n : ℕ) → found ≡ replicate n None → (depth_at found i ≡ Some d) ⊎ ((i ≡ 0) × (d ≡ 0)) → Reaches exits i d
first_sound exits found i d n e (inl h) = absurd (none_there n i d (subst (λ (x : List (Option ℕ)). depth_at x i ≡ Some d) e h))
first_sound exits found i d n e (inr h) = rw (h.0, h.1) start

first_only : (before after : Search) (i d : ℕ) → (depth_in before i ≡ Some d) ⊎ ((i ≡ 0) × (d ≡ 0) × Contains after.todo i) → (depth_in before i ≡ Some d) ⊎ ((i ≡ 0) × (d ≡ 0))
first_only before after i d (inl h) = inl h
first_only before after i d (inr h) = inr (h.0, h.1)

first_waits : (exits : List Exit) (most : ℕ) (before after : Search) (i d n : ℕ) → before.found ≡ replicate n None
    → (depth_in before i ≡ Some d) ⊎ ((i ≡ 0) × (d ≡ 0) × Contains after.todo i) → Contains after.todo i ⊎ IsSettled exits most after i d
first_waits exits most before after i d n e (inl h) = absurd (none_there n i d (subst (λ (x : List (Option ℕ)). depth_at x i ≡ Some d) e h))
first_waits exits most before after i d n e (inr h) = inl h.2

first_there : (n : ℕ) (before after : Search) → before.found ≡ replicate n None → (ok : Bool) → Enters 0 0 before after ok → depth_in after 0 ≡ Some 0
first_there n before after e true q = q.there refl
first_there n before after e false q =
    let c : (d : ℕ) × (depth_in before 0 ≡ Some d) × (d ≢ 0) = q.clash refl in absurd (none_there n 0 c.0 (subst (λ (x : List (Option ℕ)). depth_at x 0 ≡ Some c.0) e c.1))

pub first : (exits : List Exit) (most n : ℕ) (before after : Search) → before.found ≡ replicate n None → length before.found ≡ length exits
    → (ok : Bool) → Enters 0 0 before after ok → IsSearch exits most after
first exits most n before after none each ok q = record {
  one_each = q.one_each ∙ each;
  start = first_there n before after none ok q;
  sound = λ i d h. first_sound exits before.found i d n none (first_only before after i d (q.only i d h));
  settled = λ i d h. first_waits exits most before after i d n none (q.only i d h);
}

-- ---- one that waits no longer

popped : (exits : List Exit) (most at : ℕ) (s : Search) (todo : List ℕ) (i d : ℕ) → s.todo ≡ todo ++ at ∷ [] → Contains s.todo i ⊎ IsSettled exits most s i d
    → (i ≡ at) ⊎ (Contains todo i ⊎ IsSettled exits most s i d)
popped exits most at s todo i d e (inl h) = by (Contains-push_cases todo at i (subst (λ (x : List ℕ). Contains x i) e h))
  where
    by : Contains todo i ⊎ (at ≡ i) → (i ≡ at) ⊎ (Contains todo i ⊎ IsSettled exits most s i d)
    by (inl g) = inr (inl g)
    by (inr g) = inl (sym g)
popped exits most at s todo i d e (inr h) = inr (inr h)

same_settled : (exits : List Exit) (most : ℕ) (s : Search) (todo : List ℕ) (i d : ℕ) → IsSettled exits most s i d → IsSettled exits most (searched s.found todo) i d
same_settled exits most s todo i d h = record { right = h.right; entered_all = h.entered_all }

popped_to : (exits : List Exit) (most at : ℕ) (s : Search) (todo : List ℕ) (i d : ℕ) → (i ≡ at) ⊎ (Contains todo i ⊎ IsSettled exits most s i d)
    → (i ≡ at) ⊎ (Contains todo i ⊎ IsSettled exits most (searched s.found todo) i d)
popped_to exits most at s todo i d (inl h) = inl h
popped_to exits most at s todo i d (inr (inl h)) = inr (inl h)
popped_to exits most at s todo i d (inr (inr h)) = inr (inr (same_settled exits most s todo i d h))

pub takes_off : (exits : List Exit) (most at : ℕ) (s : Search) (todo : List ℕ) → s.todo ≡ todo ++ at ∷ [] → IsSearch exits most s → IsSearchBut exits most at (searched s.found todo)
takes_off exits most at s todo e p = record {
  one_each = p.one_each;
  start = p.start;
  sound = p.sound;
  settled = λ i d h. popped_to exits most at s todo i d (popped exits most at s todo i d e (p.settled i d h));
}

-- ---- its steps

module _ (exits : List Exit) (most at : ℕ) (before : Search) (p : IsSearchBut exits most at before) where
  other_waits : (i d : ℕ) → depth_in before at ≡ None → depth_in before i ≡ Some d → (i ≡ at) ⊎ (Contains before.todo i ⊎ IsSettled exits most before i d)
      → Contains before.todo i ⊎ IsSettled exits most before i d
  other_waits i d none h (inl e) = let g : depth_in before at ≡ Some d = rw e at h in absurd (cc)
  other_waits i d none h (inr w) = w

  -- it has no depth
  pub visits_none : depth_in before at ≡ None → GoesOn exits most before before
  visits_none none = record {
    search = record { one_each = p.one_each; start = p.start; sound = p.sound; settled = λ i d h. other_waits i d none h (p.settled i d h) };
    no_more = omega arith;
  }

  module _ (d : ℕ) (here : depth_in before at ≡ Some d) where
    pub visits_wrong : is_wrong exits most at d ≡ true → IsBad exits most
    visits_wrong e = wrong (p.sound at d here) e

    module _ (e : Exit) (there : slice_get exits at ≡ Some e) where
      enters_at : (x : ℕ × ℕ) → Contains (entered_by d e) x → Contains (entered exits at d) x
      enters_at x h = rw there h

      reached : (i g : ℕ) → Contains (entered_by d e) (i, g) → Reaches exits i g
      reached i g h = goes (p.sound at d here) (enters_at (i, g) h)

      clash_by : (c : Clashes d e before) → (depth_in before c.place ≡ Some c.other) ⊎ Contains (entered_by d e) (c.place, c.other) → IsBad exits most
      clash_by c (inl h) = apart (reached c.place c.one c.enters) (p.sound c.place c.other h) c.apart
      clash_by c (inr h) = apart (reached c.place c.one c.enters) (reached c.place c.other h) c.apart

      pub visits_clash : Clashes d e before → IsBad exits most
      visits_clash c = clash_by c c.has

      module _ (after : Search) (right : is_wrong_by (length exits) most d e ≡ false) (q : Takes d e (length e.steps) before after) where
        sound_after : (i g : ℕ) → (depth_in before i ≡ Some g) ⊎ (Contains (entered_by d e) (i, g) × Contains after.todo i) → Reaches exits i g
        sound_after i g (inl h) = p.sound i g h
        sound_after i g (inr h) = reached i g h.0

        taken : (j f : ℕ) → Source (arrives d e) e.steps (j, f) → depth_in after j ≡ Some f
        taken j f s =
            let in' : s.place < length e.steps = slice_get_within e.steps s.place s.item s.there in
            let h : depth_in after s.item.to ≡ Some (depth_by s.item.way d e) = q.done s.place s.item in' s.there in
            let a : s.item.to ≡ j = ap (λ (x : ℕ × ℕ). x.0) s.taken in
            let b : depth_by s.item.way d e ≡ f = ap (λ (x : ℕ × ℕ). x.1) s.taken in
            subst (λ (n : ℕ). depth_in after n ≡ Some f) a (h ∙ ap (λ (n : ℕ). Some n) b)

        settled_here : IsSettled exits most after at d
        settled_here = record {
          right = rw there right;
          entered_all = λ j f h. taken j f (unmapped (arrives d e) e.steps (j, f) (rw there at h));
        }

        still_settled : (i g : ℕ) → IsSettled exits most before i g → IsSettled exits most after i g
        still_settled i g s = record { right = s.right; entered_all = λ j f h. q.keeps j f (s.entered_all j f h) }

        settled_old : (i g : ℕ) → depth_in before i ≡ Some g → (i ≡ at) ⊎ (Contains before.todo i ⊎ IsSettled exits most before i g) → Contains after.todo i ⊎ IsSettled exits most after i g
        settled_old i g h (inl e') =
            let same : depth_in before at ≡ Some g = rw e' at h in
            let depth : d ≡ g = cc in
            inr (subst (λ (n : ℕ). IsSettled exits most after n g) (sym e') (subst (λ (n : ℕ). IsSettled exits most after at n) depth settled_here))
        settled_old i g h (inr (inl w)) = inl (q.waits i w)
        settled_old i g h (inr (inr s)) = inr (still_settled i g s)

        settled_after : (i g : ℕ) → (depth_in before i ≡ Some g) ⊎ (Contains (entered_by d e) (i, g) × Contains after.todo i) → Contains after.todo i ⊎ IsSettled exits most after i g
        settled_after i g (inl h) = settled_old i g h (p.settled i g h)
        settled_after i g (inr h) = inl h.1

        visits : GoesOn exits most before after
        visits = record {
          search = record {
            one_each = q.one_each ∙ p.one_each;
            start = q.keeps 0 0 p.start;
            sound = λ i g h. sound_after i g (q.only i g h);
            settled = λ i g h. settled_after i g (q.only i g h);
          };
          no_more = q.no_more;
        }

      pub visits_either : (after : Search) (ok : Bool) → is_wrong_by (length exits) most d e ≡ false → MatchBool ok (Takes d e (length e.steps) before after) (Clashes d e before)
          → MatchBool ok (GoesOn exits most before after) (IsBad exits most)
      visits_either after true right q = visits after right q
      visits_either after false right c = visits_clash c

-- ---- the end

module _ (exits : List Exit) (most : ℕ) (s : Search) (p : IsSearch exits most s) (none : s.todo ≡ []) where
  settled_by : (i d : ℕ) → Contains s.todo i ⊎ IsSettled exits most s i d → IsSettled exits most s i d
  settled_by i d (inl h) = no_item (subst (λ (x : List ℕ). Contains x i) none h)
    where
      no_item : Contains [] i → IsSettled exits most s i d
      no_item (k, inside, e) = absurd (omega arith)
  settled_by i d (inr h) = h

  has_depth : (i d : ℕ) → Reaches exits i d → depth_in s i ≡ Some d
  has_depth _ _ start = p.start
  has_depth _ _ (goes {i} {d} {j} {f} r h) = (settled_by i d (p.settled i d (has_depth i d r))).entered_all j f h

  never_bad : IsBad exits most → ⊥
  never_bad (wrong {i} {d} r e) =
      let g : is_wrong exits most i d ≡ false = (settled_by i d (p.settled i d (has_depth i d r))).right in cc
  never_bad (apart {i} {d} {f} r t apart') =
      let a : depth_in s i ≡ Some d = has_depth i d r in let b : depth_in s i ≡ Some f = has_depth i f t in let same : d ≡ f = cc in apart' same

  pub all_found : AreDepths exits most s.found
  all_found = record { one_each = p.one_each; reached = λ i d. (p.sound i d, has_depth i d); right = never_bad }

-- a body without instructions has no depths
pub bad_none : (exits : List Exit) (most : ℕ) → length exits ≡ 0 → IsBad exits most
bad_none [] most e = wrong start refl
bad_none (x ∷ exits) most e = absurd (omega arith)

-- the work that is left falls by one that waits no longer
pub less_left : (before : Search) (todo : List ℕ) (at : ℕ) (after : Search) → before.todo ≡ todo ++ at ∷ [] → work_left after ≤ work_left (searched before.found todo)
    → work_left after < work_left before
less_left before todo at after e h =
    let l : length before.todo ≡ length (todo ++ at ∷ []) = ap length e in
    let m : length (todo ++ at ∷ []) ≡ length todo + 1 = length-append todo (at ∷ []) in omega arith
