-- What is known while the depths are searched: some instructions have a depth, and of these some wait for their steps.
use Rattle.std.specs.Prelude.{◌≡◌, ◌≢◌, ℕ, suc, ◌+◌, ◌<◌, ◌≤◌, ◌⊎◌, Bool, true, false, List, [], ◌∷◌, length, slice_get, Option, Some, None}
use Rattle.std.specs.List.{Contains}
use Rattle.rules.specs.declared.flow_rules.exit.Step.{Step}
use Rattle.rules.specs.declared.flow_rules.exit.Exit.{Exit}
use Rattle.value_flow.specs.declared.stack_depths.search.Search.{Search}
use Rattle.rules.specs.flow_rules.Depths.{depth_at, depth_by, entered, entered_by, is_wrong, Reaches}

abbrev pub depth_in : Search → ℕ → Option ℕ
depth_in s i = depth_at s.found i

-- how many instructions have no depth
abbrev pub missing : List (Option ℕ) → ℕ
missing [] = 0
missing (None ∷ depths) = suc (missing depths)
missing (Some d ∷ depths) = missing depths

-- falls with each instruction whose steps are taken: one that waits is one that had no depth before
abbrev pub work_left : Search → ℕ
work_left s = missing s.found + missing s.found + length s.todo

-- nothing goes wrong at an instruction, and what its steps enter has its depth
pub record IsSettled (exits : List Exit) (most : ℕ) (s : Search) (i d : ℕ) : Type 0 where
  pub right : is_wrong exits most i d ≡ false
  pub entered_all : (j f : ℕ) → Contains (entered exits i d) (j, f) → depth_in s j ≡ Some f

pub record IsSearch (exits : List Exit) (most : ℕ) (s : Search) : Type 0 where
  pub one_each : length s.found ≡ length exits
  pub start : depth_in s 0 ≡ Some 0
  pub sound : (i d : ℕ) → depth_in s i ≡ Some d → Reaches exits i d
  pub settled : (i d : ℕ) → depth_in s i ≡ Some d → Contains s.todo i ⊎ IsSettled exits most s i d

-- what an instruction that is entered at a depth adds
pub record Enters (to f : ℕ) (before after : Search) (ok : Bool) : Type 0 where
  pub one_each : length after.found ≡ length before.found
  pub keeps : (i d : ℕ) → depth_in before i ≡ Some d → depth_in after i ≡ Some d
  pub waits : (i : ℕ) → Contains before.todo i → Contains after.todo i
  pub only : (i d : ℕ) → depth_in after i ≡ Some d → (depth_in before i ≡ Some d) ⊎ ((i ≡ to) × (d ≡ f) × Contains after.todo i)
  pub no_more : work_left after ≤ work_left before
  pub there : ok ≡ true → depth_in after to ≡ Some f
  pub clash : ok ≡ false → (d : ℕ) × (depth_in before to ≡ Some d) × (d ≢ f)

-- what the first n steps from an instruction add
pub record Takes (d : ℕ) (e : Exit) (n : ℕ) (before after : Search) : Type 0 where
  pub one_each : length after.found ≡ length before.found
  pub keeps : (i g : ℕ) → depth_in before i ≡ Some g → depth_in after i ≡ Some g
  pub waits : (i : ℕ) → Contains before.todo i → Contains after.todo i
  pub only : (i g : ℕ) → depth_in after i ≡ Some g → (depth_in before i ≡ Some g) ⊎ (Contains (entered_by d e) (i, g) × Contains after.todo i)
  pub no_more : work_left after ≤ work_left before
  pub done : (k : ℕ) (s : Step) → k < n → slice_get e.steps k ≡ Some s → depth_in after s.to ≡ Some (depth_by s.way d e)

-- an instruction that a step enters has, or is entered by another step at, another depth
pub record Clashes (d : ℕ) (e : Exit) (before : Search) : Type 0 where
  pub place : ℕ
  pub one : ℕ
  pub other : ℕ
  pub enters : Contains (entered_by d e) (place, one)
  pub has : (depth_in before place ≡ Some other) ⊎ Contains (entered_by d e) (place, other)
  pub apart : one ≢ other

-- a search in which one instruction doesn't wait any more
pub record IsSearchBut (exits : List Exit) (most at : ℕ) (s : Search) : Type 0 where
  pub one_each : length s.found ≡ length exits
  pub start : depth_in s 0 ≡ Some 0
  pub sound : (i d : ℕ) → depth_in s i ≡ Some d → Reaches exits i d
  pub settled : (i d : ℕ) → depth_in s i ≡ Some d → (i ≡ at) ⊎ (Contains s.todo i ⊎ IsSettled exits most s i d)

pub record GoesOn (exits : List Exit) (most : ℕ) (before after : Search) : Type 0 where
  pub search : IsSearch exits most after
  pub no_more : work_left after ≤ work_left before
