-- The depth of the evaluation stack at each instruction (III.1.7.4, III.1.7.5): what walks from the first instruction find. A walk
-- begins with an empty stack, and goes along the steps from each instruction. Instructions are counted from 0.
use Rattle.std.specs.Prelude.{◌≡◌, ◌≢◌, ℕ, ◌+◌, ◌-◌, Bool, true, not, ◌||◌, nat_lt, nat_le, List, [], length, map, slice_get, Option, Some, None, ◌↔◌}
use Rattle.std.specs.List.{Contains, list_any}
use Rattle.rules.specs.declared.flow_rules.exit.Way.{Way}
use Rattle.rules.specs.declared.flow_rules.exit.Way.TheVariants as way
use Rattle.rules.specs.declared.flow_rules.exit.Step.{Step}
use Rattle.rules.specs.declared.flow_rules.exit.Exit.{Exit}

-- the depth where a step arrives, from an instruction that is reached at the depth d
abbrev pub depth_by : Way → ℕ → Exit → ℕ
depth_by way.Next d e = d - e.pops + e.pushes
depth_by way.Emptied d e = 0
depth_by way.Caught d e = 1
depth_by way.Unwound d e = 0

abbrev pub arrives : ℕ → Exit → Step → ℕ × ℕ
arrives d e s = (s.to, depth_by s.way d e)

-- where the steps from an instruction arrive, and at which depths
abbrev pub entered_by : ℕ → Exit → List (ℕ × ℕ)
entered_by d e = map (arrives d e) e.steps

abbrev pub entered_from : ℕ → Option Exit → List (ℕ × ℕ)
entered_from d None = []
entered_from d (Some e) = entered_by d e

abbrev pub entered : List Exit → ℕ → ℕ → List (ℕ × ℕ)
entered exits i d = entered_from d (slice_get exits i)

-- what the walks from the first instruction reach, each with its depth
pub data Reaches (exits : List Exit) : ℕ → ℕ → Type 0 where
  start : Reaches exits 0 0
  goes : {i d j f : ℕ} → Reaches exits i d → Contains (entered exits i d) (j, f) → Reaches exits j f

-- a step out of the instructions, or to a depth that passes the most that a body allows
abbrev pub is_wrong_step : ℕ → ℕ → ℕ → Exit → Step → Bool
is_wrong_step count most d e s = not (nat_lt s.to count) || not (nat_le (depth_by s.way d e) most)

-- a depth below 0, or a wrong step
abbrev pub is_wrong_by : ℕ → ℕ → ℕ → Exit → Bool
is_wrong_by count most d e = nat_lt d e.pops || list_any (is_wrong_step count most d e) e.steps

abbrev pub is_wrong_at : ℕ → ℕ → ℕ → Option Exit → Bool
is_wrong_at count most d None = true
is_wrong_at count most d (Some e) = is_wrong_by count most d e

-- whether an instruction goes wrong where it is reached at the depth d; there is none past the last
abbrev pub is_wrong : List Exit → ℕ → ℕ → ℕ → Bool
is_wrong exits most i d = is_wrong_at (length exits) most d (slice_get exits i)

-- A body has no depths where a walk comes to an instruction that goes wrong, or two walks reach one instruction at two depths.
pub data IsBad (exits : List Exit) (most : ℕ) : Type 0 where
  wrong : {i d : ℕ} → Reaches exits i d → is_wrong exits most i d ≡ true → IsBad exits most
  apart : {i d f : ℕ} → Reaches exits i d → Reaches exits i f → d ≢ f → IsBad exits most

-- the depth at an instruction in a list that has one for each; None for one that no walk reaches
abbrev pub or_no_depth : Option (Option ℕ) → Option ℕ
or_no_depth None = None
or_no_depth (Some depth) = depth

abbrev pub depth_at : List (Option ℕ) → ℕ → Option ℕ
depth_at depths i = or_no_depth (slice_get depths i)

-- the depths of a body: one for each instruction that a walk reaches, and nothing goes wrong
pub record AreDepths (exits : List Exit) (most : ℕ) (depths : List (Option ℕ)) : Type 0 where
  pub one_each : length depths ≡ length exits
  pub reached : (i d : ℕ) → depth_at depths i ≡ Some d ↔ Reaches exits i d
  pub right : IsBad exits most → ⊥
