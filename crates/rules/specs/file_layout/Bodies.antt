-- Where method bodies stand (II.25.4): in the order of their methods, each at a multiple of 4.
use Rattle.std.specs.Prelude.{ℕ, ◌+◌, ◌%◌, List, [], ◌∷◌, ◌++◌, length, Option, Some, None}
use Rattle.il_base.specs.declared.body.Body.{Body}
use Rattle.il_base.specs.body_grammar.BodySpelling.{body_bytes}
use Rattle.il_base.specs.declared.world_model.known.Known.{Known}
use Rattle.il_base.specs.declared.world_model.known.Known.TheVariants.{Good, Bad}
use Rattle.rules.specs.file_layout.Bytes.{aligned, padded}
use Rattle.rules.specs.file_layout.Image.{code_rva}

-- a body after the bytes that stand before it
unfoldable pub body_behind : List ℕ → Body → List ℕ
body_behind before b = padded 4 before ++ body_bytes b

abbrev pub behind : List ℕ → Option (Known Body) → List ℕ
behind before None = before
behind before (Some (Good b)) = body_behind before b
behind before (Some (Bad why)) = before

-- the bodies after some bytes
unfoldable pub code_behind : List ℕ → List (Option (Known Body)) → List ℕ
code_behind before [] = before
code_behind before (b ∷ bs) = code_behind (behind before b) bs

-- the RVA of a body after so many bytes, 0 for none; RVAs have 32 bits
abbrev pub rva_at : ℕ → Option (Known Body) → ℕ
rva_at before None = 0
rva_at before (Some (Good b)) = (code_rva + aligned 4 before) % 4294967296
rva_at before (Some (Bad why)) = 0

unfoldable pub rvas_behind : List ℕ → List (Option (Known Body)) → List ℕ
rvas_behind before [] = []
rvas_behind before (b ∷ bs) = rva_at (length before) b ∷ rvas_behind (behind before b) bs
