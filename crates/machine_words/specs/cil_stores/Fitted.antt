-- Values of which some are kept already.
use Rattle.std.specs.Prelude.{List, ◌++◌, Option, Some, None}

-- all of some, after those that are kept
abbrev pub after : {A : Type 0} → List A → Option (List A) → Option (List A)
after kept None = None
after kept (Some rest) = Some (kept ++ rest)
