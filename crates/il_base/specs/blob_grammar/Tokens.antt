-- Tokens in signatures (II.23.2.8): the number `row * 4 + tag`, whose tag names the table of the row.
use Rattle.std.specs.Prelude.{ℕ, ◌+◌, ◌*◌, ◌/◌, ◌%◌, ◌<◌, ◌==◌, List, if◌then◌else◌}
use Rattle.il_base.specs.blob_grammar.Numbers.{IsNumber, shortest}

-- tag 0 is TypeDef, 1 TypeRef, 2 TypeSpec
abbrev pub table_of : ℕ → ℕ
table_of tag = if tag == 0 then 2 else if tag == 1 then 1 else 27

abbrev pub tag_of : ℕ → ℕ
tag_of table = if table == 2 then 0 else if table == 1 then 1 else 2

-- Which bytes spell which token. A token has the table in its highest byte and the row in the three below, so a
-- larger row has none.
pub data IsToken : ℕ → List ℕ → Type 0 where
  coded : (row tag : ℕ) (bs : List ℕ) → row < 16777216 → tag < 3 → IsNumber (row * 4 + tag) bs → IsToken (table_of tag * 16777216 + row) bs

-- the shortest spelling of a TypeDef, TypeRef or TypeSpec token
unfoldable pub token_bytes : ℕ → List ℕ
token_bytes token = shortest (token % 16777216 * 4 + tag_of (token / 16777216))
