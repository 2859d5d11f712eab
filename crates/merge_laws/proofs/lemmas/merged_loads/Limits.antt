-- A record whose file passes no limit has few rows and few texts.
use Rattle.std.proofs.Common.{◌≡◌, ℕ, zero, suc, ◌<◌, ◌≤◌, Bool, true, false, cond, List, [], ◌∷◌, length, find, get_or, Option, Some, None, refl, arith}
use Rattle.std.specs.Prelude.{nat_lt}
use Rattle.std.proofs.lemmas.Bool.{ltb-false}
use Rattle.il_base.specs.cli_format.Metadata.{most_rows}
use Rattle.il_base.specs.declared.world_model.record.AsmRec.{AsmRec}
use Rattle.il_base.specs.world_model.Records.{table_sizes, rows_in}
use Rattle.rules.specs.file_layout.Heaps.{users_heap}
use Rattle.rules.specs.file_layout.Laid.{streams_with}
use Rattle.rules.specs.file_layout.Runs.{runs_have_spelling}
use Rattle.rules.specs.record_layout.Laid.{users_of, streams_of, laid_length}
use Rattle.rules.specs.record_layout.Limits.{most_users, users_length, long_table, limit_by, limit_of}

users_by : (users bytes : ℕ) (b : Bool) → nat_lt most_users users ≡ b → limit_by None true users bytes ≡ None → users ≤ most_users
users_by users bytes true e h = absurd cc
users_by users bytes false e h = ltb-false most_users users e

none_passed : (long : Option ℕ) (spelled : Bool) (users bytes : ℕ) → limit_by long spelled users bytes ≡ None → (long ≡ None) × (users ≤ most_users)
none_passed (Some rows) spelled users bytes h = absurd cc
none_passed None false users bytes h = absurd cc
none_passed None true users bytes h = (refl, users_by users bytes (nat_lt most_users users) refl h)

size_by : (n : ℕ) (sizes : List ℕ) (t : ℕ) (b : Bool) → nat_lt most_rows n ≡ b → (find (nat_lt most_rows) sizes ≡ None → (u : ℕ) → get_or sizes u 0 ≤ most_rows)
    → cond b (Some n) (find (nat_lt most_rows) sizes) ≡ None → get_or (n ∷ sizes) t 0 ≤ most_rows
size_by n sizes t true e more h = absurd cc
size_by n sizes zero false e more h = ltb-false most_rows n e
size_by n sizes (suc t) false e more h = more h t

sizes_few : (sizes : List ℕ) → find (nat_lt most_rows) sizes ≡ None → (t : ℕ) → get_or sizes t 0 ≤ most_rows
sizes_few [] h t = omega arith
sizes_few (n ∷ sizes) h t = size_by n sizes t (nat_lt most_rows n) refl (sizes_few sizes) h

tables_few : (rec : AsmRec) → long_table rec ≡ None → (t : ℕ) → rows_in rec t ≤ most_rows
unfolding long_table
tables_few rec h t = sizes_few (table_sizes rec) h t

-- no table of it has more rows than it may, so tokens can name each
pub rows_within : (rec : AsmRec) → long_table rec ≡ None → (t : ℕ) → rows_in rec t < 16777216
rows_within rec h t = let few : rows_in rec t ≤ most_rows = tables_few rec h t in omega arith

users_are : (rec : AsmRec) → users_length rec ≡ length (users_heap (users_of rec))
unfolding streams_of streams_with
users_are rec = refl

pub rows_few : (rec : AsmRec) → limit_of rec ≡ None → (t : ℕ) → rows_in rec t < 16777216
unfolding limit_of
rows_few rec h t =
    let none = none_passed (long_table rec) (runs_have_spelling rec) (users_length rec) (laid_length rec) h in
    let few : rows_in rec t ≤ most_rows = tables_few rec none.0 t in
    omega arith

pub users_few : (rec : AsmRec) → limit_of rec ≡ None → length (users_heap (users_of rec)) ≤ 16777216
unfolding limit_of
users_few rec h =
    let none = none_passed (long_table rec) (runs_have_spelling rec) (users_length rec) (laid_length rec) h in
    let few : users_length rec ≤ most_users = none.1 in
    let same = users_are rec in
    omega arith
