-- The first row of each full name.
use Rattle.std.proofs.Common.{◌≡◌, ℕ, Bool, true, false, cond, Option, Some, None, is_some, refl, sym, true≢false}
use Rattle.std.specs.HashMap.{HashMap, get}
use Rattle.std.specs.HashMap.Eq.{lookup_congr}
use Rattle.rules.specs.link_rules.Types.{or_else}
use Rattle.type_names.specs.declared.full_name.FullName.{FullName}
use Rattle.type_names.specs.FullNames.{same_full_name, row_if}
use Rattle.type_names.specs.FullNameLaws.{same_full_name_is_equality}

-- equal names have the same row
alike : {S : Type 0} (m : HashMap FullName ℕ S) (a b : FullName) → same_full_name a b ≡ true → get same_full_name m a ≡ get same_full_name m b
alike m a b h = lookup_congr same_full_name same_full_name_is_equality.congr m.entries a b h

kept_if : (same : Bool) (at old : Option ℕ) (row : ℕ) → is_some at ≡ true → (same ≡ true → at ≡ old) → old ≡ or_else old (row_if same row)
kept_if true None old row h e = absurd (true≢false (sym h))
kept_if true (Some x) None row h e = cc (e refl)
kept_if true (Some x) (Some y) row h e = refl
kept_if false at None row h e = refl
kept_if false at (Some y) row h e = refl

put_if : (same : Bool) (at old new : Option ℕ) (row : ℕ) → is_some at ≡ false → (same ≡ true → at ≡ old) → new ≡ cond same (Some row) old → new ≡ or_else old (row_if same row)
put_if true (Some x) old new row h e n = absurd (true≢false h)
put_if true None None new row h e n = n
put_if true None (Some y) new row h e n = cc (e refl)
put_if false at None new row h e n = n
put_if false at (Some y) new row h e n = n

pub kept : {S : Type 0} (m : HashMap FullName ℕ S) (key q : FullName) (row : ℕ) → is_some (get same_full_name m key) ≡ true → get same_full_name m q ≡ or_else (get same_full_name m q) (row_if (same_full_name key q) row)
kept m key q row h = kept_if (same_full_name key q) (get same_full_name m key) (get same_full_name m q) row h (alike m key q)

pub put : {S : Type 0} (m n : HashMap FullName ℕ S) (key q : FullName) (row : ℕ) → is_some (get same_full_name m key) ≡ false → get same_full_name n q ≡ cond (same_full_name key q) (Some row) (get same_full_name m q) →
    get same_full_name n q ≡ or_else (get same_full_name m q) (row_if (same_full_name key q) row)
put m n key q row h u = put_if (same_full_name key q) (get same_full_name m key) (get same_full_name m q) (get same_full_name n q) row h (alike m key q) u
