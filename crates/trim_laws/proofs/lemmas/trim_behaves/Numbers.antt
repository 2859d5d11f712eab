-- The new number of a kept method is its row in the output.
use Rattle.std.proofs.Common.{◌≡◌, ℕ, List, length, Option, Some, sym, ap, subst, ◌∙◌}
use Rattle.std.specs.Prelude.{unwrap_or}
use Rattle.std.specs.List.{Contains}
use Rattle.std.specs.Option.{option_and_then}
use Rattle.il_base.specs.declared.world_model.record.AsmRec.{AsmRec}
use Rattle.rules.specs.declared.link_rules.row_at.RowAt.{RowAt}
use Rattle.rules.specs.link_rules.Cycles.{same_row}
use Rattle.rules.specs.link_rules.Members.{home_from, methods_in}
use Rattle.rules.specs.mark_rules.Places.{method_item}
use Rattle.rules.specs.merge_rules.Numbers.{Kept, kept_methods, new_row}
use Rattle.merge_laws.proofs.lemmas.merged_record.Lists.{place_in}
use Rattle.merge_laws.proofs.lemmas.merged_record.Rows.{from_kept}
use Rattle.merge_laws.proofs.lemmas.merged_record.Tokens.{position_is, row_is}
use Rattle.rules.specs.merged_world_rules.Merge.{Merge, before}
use Rattle.rules.specs.merged_world_rules.Numbering.{in_inputs, in_all, number_at, other_number, new_number}
use Rattle.rules.specs.merged_world_rules.NewNumbers.{method_core, rho_of}
use Rattle.merge_laws.proofs.lemmas.merged_places.Rows.{IsThere, there_home}

-- a row that has a new one is a row
is_there : (recs : List AsmRec) (kept : Kept) (at : RowAt) (k : ℕ) → new_row (kept_methods recs kept) at ≡ Some k → IsThere methods_in recs at
unfolding kept_methods
is_there recs kept at k e =
    let p = position_is (same_row at) (kept_methods recs kept) k e in
    let inside : Contains (kept_methods recs kept) at = subst (Contains (kept_methods recs kept)) (sym (row_is at p.item p.passes)) (place_in (kept_methods recs kept) k p.item p.there) in
    let row = from_kept methods_in (method_item recs) recs kept at inside in
    record { rec = row.rec; here = row.input.there; below = row.below }

found : (rows : List RowAt) (o : Option RowAt) (at : RowAt) (k other : ℕ) → o ≡ Some at → new_row rows at ≡ Some k → unwrap_or (option_and_then (new_row rows) o) other ≡ k
found rows o at k other e f = ap (λ (x : Option RowAt). unwrap_or (option_and_then (new_row rows) x) other) e ∙ ap (λ (x : Option ℕ). unwrap_or x other) f

pub numbered : (m : Merge) (at : RowAt) (k : ℕ) → new_row (kept_methods (before m) m.kept) at ≡ Some k → (rho_of m).method (number_at methods_in (before m) at) ≡ k
unfolding new_number
numbered m at k e =
    let home : home_from methods_in 0 (before m) (number_at methods_in (before m) at) ≡ Some at = there_home methods_in (before m) at (is_there (before m) m.kept at k e) in
    let rows : List RowAt = kept_methods (before m) m.kept in
    let n : ℕ = number_at methods_in (before m) at in
    found rows (home_from methods_in 0 (before m) n) at k (other_number method_core (length rows) (in_inputs methods_in (before m)) (in_all methods_in (before m)) n) home e
