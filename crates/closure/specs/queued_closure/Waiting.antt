-- What is known while facts wait: each fact of the set waits, or what it brings alone is in the set.
use Rattle.std.specs.Prelude.{◌≡◌, ℕ, ◌+◌, ◌<◌, ◌≤◌, Bool, true, false, ◌⊎◌, IsTrue, List, [], ◌∷◌, ◌++◌, length, if◌then◌else◌}
use Rattle.std.specs.List.{Contains}
use Rattle.closure.specs.Facts.{is_set, facts_in, Derived, IsClosed}
use Rattle.closure.specs.Rounds as closure
use Rattle.closure.specs.Rounds.{missing, Taken}
use Rattle.closure.specs.declared.queued_closure.found.Found.{Found}
use Rattle.closure.specs.queued_closure.Brings.{brings_by}

abbrev pub with_waiting : List Bool → List ℕ → ℕ → List ℕ
with_waiting flags waiting fact = if is_set flags fact then waiting else waiting ++ fact ∷ []

-- falls with each fact that doesn't wait any more: one that waits wasn't in before
abbrev pub work : List Bool → List ℕ → ℕ
work flags waiting = missing flags + missing flags + length waiting

abbrev pub work_left : Found → ℕ
work_left f = work f.set.flags f.waiting

-- what new facts do to the list of those that wait, where flags say what is in the set before and after
pub record Waits (flags : List Bool) (waiting : List ℕ) (after : List Bool) (later : List ℕ) (new : Bool) : Type 0 where
  pub stay : (n : ℕ) → Contains waiting n → Contains later n
  pub fresh : (n : ℕ) → IsTrue (is_set after n) → IsTrue (is_set flags n) ⊎ Contains later n
  pub there : (n : ℕ) → Contains later n → Contains waiting n ⊎ IsTrue (is_set after n)
  pub no_more : work after later ≤ work flags waiting
  pub same : new ≡ false → later ≡ waiting

-- after the first n of some facts were put in
pub record Puts (facts : List ℕ) (n : ℕ) (before after : Found) (new : Bool) : Type 0 where
  pub flags : closure.Puts facts n before.set.flags after.set.flags new
  pub waits : Waits before.set.flags before.waiting after.set.flags after.waiting new

-- the roots alone, all of which wait
pub record IsStart (universe : ℕ) (roots : List ℕ) (f : Found) : Type 0 where
  pub one_each : length f.set.flags ≡ universe
  pub holds : (n : ℕ) → Contains roots n → IsTrue (facts_in f.set n)
  pub only : (n : ℕ) → IsTrue (facts_in f.set n) → Contains roots n
  pub wait : (n : ℕ) → IsTrue (facts_in f.set n) → Contains f.waiting n
  pub there : (n : ℕ) → Contains f.waiting n → IsTrue (facts_in f.set n)

-- what is known
pub record IsKnown (alone : ℕ → ℕ → Type 0) (joined : (ℕ → Bool) → ℕ → ℕ → Type 0) (universe : ℕ) (roots : List ℕ) (f : Found) : Type 0 where
  pub one_each : length f.set.flags ≡ universe
  pub holds : (n : ℕ) → Contains roots n → IsTrue (facts_in f.set n)
  pub sound : (n : ℕ) → IsTrue (facts_in f.set n) → Derived (brings_by alone joined) (Contains roots) n
  pub settled : (n c : ℕ) → IsTrue (facts_in f.set n) → alone n c → IsTrue (facts_in f.set c) ⊎ Contains f.waiting n
  pub there : (n : ℕ) → Contains f.waiting n → IsTrue (facts_in f.set n)

pub record Drained (alone : ℕ → ℕ → Type 0) (joined : (ℕ → Bool) → ℕ → ℕ → Type 0) (universe : ℕ) (roots : List ℕ) (before after : Found) : Type 0 where
  pub known : IsKnown alone joined universe roots after
  pub fewer : missing after.set.flags ≤ missing before.set.flags
  pub none : after.waiting ≡ []

-- after some facts were taken with others
pub record Rounds (joined : (ℕ → Bool) → ℕ → ℕ → Type 0) (taken : ℕ → Type 0) (before after : Found) (new : Bool) : Type 0 where
  pub flags : Taken joined taken before.set.flags after.set.flags new
  pub waits : Waits before.set.flags before.waiting after.set.flags after.waiting new

pub record Steps (alone : ℕ → ℕ → Type 0) (joined : (ℕ → Bool) → ℕ → ℕ → Type 0) (universe : ℕ) (roots : List ℕ) (before after : Found) (new : Bool) : Type 0 where
  pub known : IsKnown alone joined universe roots after
  pub grows : new ≡ true → missing after.set.flags < missing before.set.flags
  pub closed : new ≡ false → IsClosed (brings_by alone joined) (facts_in after.set)
