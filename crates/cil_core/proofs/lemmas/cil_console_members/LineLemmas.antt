-- Lines of the input.
use Rattle.std.proofs.Common.{◌≡◌, ◌∙◌, refl, sym, ap, ℕ, List, [], ◌∷◌, ◌++◌, append_assoc, append-nil}
use Rattle.std.specs.Prelude.{Bool, true, false, ◌==◌, if◌then◌else◌}
use Rattle.rules.specs.step_rules.CoreConsole.{Line, add_unit, line_of}
use Rattle.cil_core.specs.cil_console_members.Lines.{before_line}

opened : (u : ℕ) (us : List ℕ) → line_of (u ∷ us) ≡ (if u == 10 then record { units = []; rest = us; ends = true } else add_unit u (line_of us))
unfolding line_of
opened u us = refl

none_left : line_of [] ≡ record { units = []; rest = []; ends = false }
unfolding line_of
none_left = refl

abbrev one_line : List ℕ → Bool → List ℕ → Line
one_line rest ends units = record { units = units; rest = rest; ends = ends }

-- the input has no LF any more
pub taken_all : (whole input units : List ℕ) → before_line units (line_of input) ≡ line_of whole → input ≡ [] → line_of whole ≡ record { units = units; rest = []; ends = false }
taken_all whole input units h e =
    let k : before_line units (line_of []) ≡ line_of whole = rw e at h in
    let l : before_line units (record { units = []; rest = []; ends = false }) ≡ line_of whole = rw none_left at k in
    sym l ∙ ap (one_line [] false) (append-nil units)

-- the next unit is an LF
pub taken_line : (whole input units us : List ℕ) (u : ℕ) → before_line units (line_of input) ≡ line_of whole → input ≡ u ∷ us → u ≡ 10
    → line_of whole ≡ record { units = units; rest = us; ends = true }
taken_line whole input units us u h e f =
    let k : before_line units (line_of (10 ∷ us)) ≡ line_of whole = rw (e, f) at h in
    let l : before_line units (record { units = []; rest = us; ends = true }) ≡ line_of whole = rw (opened 10 us) at k in
    sym l ∙ ap (one_line us true) (append-nil units)

-- the next unit is another one
pub taken_unit : (whole input units us : List ℕ) (u : ℕ) → before_line units (line_of input) ≡ line_of whole → input ≡ u ∷ us → (u == 10) ≡ false
    → before_line (units ++ u ∷ []) (line_of us) ≡ line_of whole
taken_unit whole input units us u h e f =
    ap (one_line (line_of us).rest (line_of us).ends) (append_assoc units (u ∷ []) (line_of us).units)
    ∙ sym (ap (before_line units) (ap line_of e ∙ rw (opened u us, f) refl)) ∙ h
