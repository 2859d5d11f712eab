-- The search for a row that passes a test, over a range of rows.
use Rattle.std.proofs.Common.{◌≡◌, ℕ, suc, ◌+◌, ◌-◌, ◌<◌, Bool, false, refl, sym, ap, ◌∙◌, arith}
use Rattle.std.specs.List.{list_any, range_with_len}

-- where the first row of what is left doesn't pass
pub none_here : (p : ℕ → Bool) (start i count row : ℕ) (stays whole : Bool) → i < count → row ≡ start + i → stays ≡ p row → stays ≡ false
    → list_any p (range_with_len (start + i) (count - i)) ≡ whole → list_any p (range_with_len (start + (i + 1)) (count - (i + 1))) ≡ whole
none_here p start i count row stays whole below at is goes e =
    let z : count - i ≡ suc (count - (i + 1)) = omega arith in
    let f : start + (i + 1) ≡ start + i + 1 = omega arith in
    let here : p (start + i) ≡ false = ap p (sym at) ∙ sym is ∙ goes in
    let front : list_any p (range_with_len (start + i) (count - i)) ≡ list_any p (range_with_len (start + (i + 1)) (count - (i + 1))) = rw (z, f, here) refl in
    sym front ∙ e
