-- Methods with the addresses of their bodies, as the code holds them.
use Rattle.std.specs.Prelude.{◌≡◌, ℕ, ◌+◌, ◌%◌, List, [], ◌∷◌, length, Option, Some, None}
use Rattle.il_base.specs.declared.body.Body.{Body}
use Rattle.il_base.specs.body_grammar.BodySpelling.{body_bytes}
use Rattle.il_base.specs.declared.world_model.known.Known.{Known}
use Rattle.il_base.specs.declared.world_model.known.Known.TheVariants.{Good, Bad}
use Rattle.il_base.specs.declared.world_model.members.MethodDefRow.{MethodDefRow}
use Rattle.rules.specs.file_layout.Bytes.{aligned}
use Rattle.rules.specs.file_layout.Bodies.{code_behind, rva_at}
use Rattle.rules.specs.merge_rules.Restricted.{put_rva, bodies_of, placed_methods}
use Rattle.merge_plan.specs.declared.method_places.places.Placed.{Placed}

-- how many bytes the bodies take with one more body after so many bytes
abbrev pub size_behind : ℕ → Option (Known Body) → ℕ
size_behind before None = before
size_behind before (Some (Good b)) = aligned 4 before + length (body_bytes b)
size_behind before (Some (Bad why)) = before

-- rows whose bodies have so many bytes before them, and how many there are after them, modulo 2^32
unfoldable pub rows_from : ℕ → List MethodDefRow → List MethodDefRow
rows_from n [] = []
rows_from n (m ∷ ms) = put_rva (rva_at n m.body) m ∷ rows_from (size_behind n m.body % 4294967296) ms

unfoldable pub size_from : ℕ → List MethodDefRow → ℕ
size_from n [] = n
size_from n (m ∷ ms) = size_from (size_behind n m.body % 4294967296) ms

-- the rows with the addresses of their bodies, and how many bytes these take
pub record ArePlaced (ms : List MethodDefRow) (p : Placed) : Type 0 where
  pub rows : p.rows ≡ placed_methods ms
  pub size : p.size ≡ length (code_behind [] (bodies_of p.rows)) % 4294967296
