-- The first limit that a file passes, by what was looked at.
use Rattle.std.proofs.Common.{◌≡◌, ℕ, ◌<◌, ◌≤◌, Bool, true, false, Option, Some, None, refl, ap, ◌∙◌, lt-ltb, le-ltb}
use Rattle.std.specs.Prelude.{nat_lt}
use Rattle.il_base.specs.declared.limit.TheConstants.{ROWS, OUTPUT_LENGTH}
use Rattle.il_base.specs.declared.world_model.record.AsmRec.{AsmRec}
use Rattle.rules.specs.file_layout.Runs.{runs_have_spelling}
use Rattle.rules.specs.record_layout.Laid.{laid_length}
use Rattle.rules.specs.record_layout.Limits.{most_users, most_bytes, users_length, long_table, limit_by, limit_of}
use Rattle.record_writer.specs.Written.{rows_by, rows_over}

abbrev limit_as : Option ℕ → Option (ℕ × ℕ)
limit_as None = None
limit_as (Some n) = Some (ROWS, n)

rows_first : (long : Option ℕ) (spelled : Bool) (users bytes found : ℕ) → rows_by long spelled ≡ Some found → limit_by long spelled users bytes ≡ Some (ROWS, found)
rows_first (Some rows) spelled users bytes found e = ap limit_as e
rows_first None true users bytes found e = absurd cc
rows_first None false users bytes found e = ap limit_as e

no_rows : (long : Option ℕ) (spelled : Bool) (users bytes : ℕ) → rows_by long spelled ≡ None → limit_by long spelled users bytes ≡ limit_by None true users bytes
no_rows (Some rows) spelled users bytes e = absurd cc
no_rows None true users bytes e = refl
no_rows None false users bytes e = absurd cc

pub rows_passed : (rec : AsmRec) (found : ℕ) → rows_over rec ≡ Some found → limit_of rec ≡ Some (ROWS, found)
unfolding limit_of
rows_passed rec found e = rows_first (long_table rec) (runs_have_spelling rec) (users_length rec) (laid_length rec) found e

pub users_passed : (rec : AsmRec) (found : ℕ) → rows_over rec ≡ None → found ≡ users_length rec → most_users < found → limit_of rec ≡ Some (OUTPUT_LENGTH, found)
unfolding limit_of
users_passed rec found e f lt =
    let over : nat_lt most_users found ≡ true = lt-ltb most_users found lt in
    no_rows (long_table rec) (runs_have_spelling rec) (users_length rec) (laid_length rec) e ∙ rw (← f, over) refl

pub bytes_passed : (rec : AsmRec) (found : ℕ) → rows_over rec ≡ None → users_length rec ≤ most_users → found ≡ laid_length rec → most_bytes < found → limit_of rec ≡ Some (OUTPUT_LENGTH, found)
unfolding limit_of
bytes_passed rec found e users f lt =
    let few : nat_lt most_users (users_length rec) ≡ false = le-ltb most_users (users_length rec) users in
    let over : nat_lt most_bytes found ≡ true = lt-ltb most_bytes found lt in
    no_rows (long_table rec) (runs_have_spelling rec) (users_length rec) (laid_length rec) e ∙ rw (few, ← f, over) refl

pub none_passed : (rec : AsmRec) → rows_over rec ≡ None → users_length rec ≤ most_users → laid_length rec ≤ most_bytes → limit_of rec ≡ None
unfolding limit_of
none_passed rec e users bytes =
    let few : nat_lt most_users (users_length rec) ≡ false = le-ltb most_users (users_length rec) users in
    let small : nat_lt most_bytes (laid_length rec) ≡ false = le-ltb most_bytes (laid_length rec) bytes in
    no_rows (long_table rec) (runs_have_spelling rec) (users_length rec) (laid_length rec) e ∙ rw (few, small) refl
