-- Rows of one assembly and of all inputs, in order.
use Rattle.std.proofs.Common.{◌≡◌, ℕ, suc, ◌+◌, ◌-◌, ◌<◌, ◌≤◌, List, [], ◌∷◌, ◌++◌, length, map, take, drop, refl, sym, ap, ◌∙◌, arith, append_assoc}
use Rattle.std.specs.List.{flat_map, range_with_len}
use Rattle.std.proofs.lemmas.List.{append-nil, drop_all}
use Rattle.il_base.specs.declared.world_model.record.AsmRec.{AsmRec}
use Rattle.rules.specs.declared.link_rules.row_at.RowAt.{RowAt}
use Rattle.rules.specs.link_rules.Types.{at_row}
use Rattle.rules.specs.merge_rules.Numbers.{inputs_from, inputs}
use Rattle.token_keys.specs.absent_types.Rows.{rows_of_one, rows_from}

pub range_next : (asm i count : ℕ) (xs : List RowAt) → i < count
    → (xs ++ at_row asm i ∷ []) ++ map (at_row asm) (range_with_len (i + 1) (count - (i + 1))) ≡ xs ++ map (at_row asm) (range_with_len i (count - i))
range_next asm i count xs below =
    let e : count - i ≡ suc (count - (i + 1)) = omega arith in
    rw e (append_assoc xs (at_row asm i ∷ []) (map (at_row asm) (range_with_len (i + 1) (count - (i + 1)))))

from_a : (a : ℕ) (recs : List AsmRec) → rows_from a (take (length recs - 1) recs) ≡ flat_map (λ (x : ℕ × AsmRec). rows_of_one x.0 x.1) (inputs_from a recs)
from_a a [] = refl
from_a a (rec ∷ []) = refl
from_a a (rec ∷ next ∷ recs) =
    let e : length (rec ∷ next ∷ recs) - 1 ≡ suc (length (next ∷ recs) - 1) = omega arith in
    let one : a + 1 ≡ suc a = omega arith in
    rw (e, one) (ap (λ (rows : List RowAt). rows_of_one a rec ++ rows) (from_a (suc a) (next ∷ recs)))

none_from : (recs : List AsmRec) (i : ℕ) → length recs ≤ i → rows_from i (drop i recs) ≡ []
none_from recs i past = rw (drop_all i recs past) refl

-- at the end of the loop over all inputs
pub all_end : (recs items : List AsmRec) (i : ℕ) (out : List RowAt) → items ≡ take (length recs - 1) recs → length items ≤ i → out ++ rows_from i (drop i items) ≡ rows_from 0 items
    → out ≡ flat_map (λ (x : ℕ × AsmRec). rows_of_one x.0 x.1) (inputs recs)
all_end recs items i out same past e =
    sym (append-nil out) ∙ ap (λ (xs : List RowAt). out ++ xs) (sym (none_from items i past)) ∙ e ∙ ap (rows_from 0) same ∙ from_a 0 recs
