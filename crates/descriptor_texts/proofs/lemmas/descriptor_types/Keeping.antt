-- The first row of each name.
use Rattle.std.proofs.Common.{◌≡◌, ℕ, List, Bool, true, false, cond, Option, Some, None, is_some, refl, sym, ap, true≢false}
use Rattle.std.specs.Prelude.{bytes_eq}
use Rattle.std.specs.HashMap.{HashMap, get_by}
use Rattle.std.specs.Map.{update}
use Rattle.std.specs.Borrow.{Bor}
use Rattle.std.proofs.lemmas.Slice.Eq.{bytes_eq-Decides}
use Rattle.rules.specs.link_rules.Types.{or_else}
use Rattle.descriptor_texts.specs.descriptor_types.Rows.{row_if, row_in}

kept_if : (same : Bool) (at old : Option ℕ) (row : ℕ) → is_some at ≡ true → (same ≡ true → at ≡ old) → old ≡ or_else old (row_if same row)
kept_if true None old row h e = absurd (true≢false (sym h))
kept_if true (Some x) None row h e = cc (e refl)
kept_if true (Some x) (Some y) row h e = refl
kept_if false at None row h e = refl
kept_if false at (Some y) row h e = refl

put_if : (same : Bool) (at old new : Option ℕ) (row : ℕ) → is_some at ≡ false → (same ≡ true → at ≡ old) → new ≡ cond same (Some row) old → new ≡ or_else old (row_if same row)
put_if true (Some x) old new row h e n = absurd (true≢false h)
put_if true None None new row h e n = n
put_if true None (Some y) new row h e n = cc (e refl)
put_if false at None new row h e n = n
put_if false at (Some y) new row h e n = n

module _ {S : Type 0} (old new : HashMap (Bor (List ℕ)) ℕ S) (name : List ℕ) (row : ℕ) where
  alike : (q : List ℕ) → bytes_eq name q ≡ true → row_in old name ≡ row_in old q
  alike q e = ap (row_in old) ((bytes_eq-Decides name q).0 e)

  pub kept : is_some (row_in old name) ≡ true → (q : List ℕ) → row_in old q ≡ or_else (row_in old q) (row_if (bytes_eq name q) row)
  kept h q = kept_if (bytes_eq name q) (row_in old name) (row_in old q) row h (alike q)

  pub put : is_some (row_in old name) ≡ false → ((q : List ℕ) → get_by (λ key. bytes_eq q key.now) new ≡ update bytes_eq (λ ds. get_by (λ key. bytes_eq ds key.now) old) name (Some row) q)
      → (q : List ℕ) → row_in new q ≡ or_else (row_in old q) (row_if (bytes_eq name q) row)
  put h changes q = put_if (bytes_eq name q) (row_in old name) (row_in old q) (row_in new q) row h (alike q) (changes q)
