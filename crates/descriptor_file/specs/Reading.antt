-- What a descriptor file reads as: its roots, or the place of the first byte of the first token that isn't allowed there.
use Rattle.std.specs.Prelude.{◌≡◌, ◌≤◌, ℕ, zero, suc, ◌+◌, ◌-◌, Bool, true, false, List, [], ◌∷◌, drop, take, Option, Some, None, Result, Ok, Err, codes, if◌then◌else◌}
use Rattle.std.specs.Option.{option_map, option_and_then}
use Rattle.std.specs.Str.{is_utf8}
use Rattle.descriptor_file.specs.declared.token.Piece.{Piece}
use Rattle.descriptor_file.specs.declared.root.Root.{Root}
use Rattle.descriptor_file.specs.declared.state.Spot.{Spot}
use Rattle.descriptor_file.specs.declared.state.Spot.TheVariants as spot
use Rattle.descriptor_file.specs.declared.state.State.{State}
use Rattle.descriptor_file.specs.declared.error.DescriptorError.{DescriptorError}
use Rattle.descriptor_file.specs.declared.error.DescriptorError.TheVariants.{Bad, NoMemory}
use Rattle.descriptor_file.specs.Values.{begins}
use Rattle.descriptor_file.specs.Tokens.{is_space, place_of, content_token, tag_token}
use Rattle.descriptor_file.specs.Grammar.{step, first_state, is_done}

-- the token at the front: in a tag, or in content
abbrev pub token_at : Spot → Bool → List ℕ → Option Piece
token_at spot.Content spaced bs = content_token bs
token_at _ spaced bs = tag_token spaced bs

-- the state after the token at the front, and how many bytes that token takes
unfoldable pub token_step : State → Bool → ℕ → List ℕ → Option (State × ℕ)
token_step s spaced at bs = option_and_then (λ p. option_map (λ next. (next, p.size)) (step at p.token s)) (token_at s.spot spaced bs)

abbrev pub or_bad : {A B : Type 0} → ℕ → Option A → (A → Result B ℕ) → Result B ℕ
or_bad at None f = Err at
or_bad at (Some x) f = f x

-- The rest of a file from a place on, after `skip` bytes that belong to a token: whitespace, and tokens. `spaced` says
-- whether whitespace stands before the place.
unfoldable pub read_from : ℕ → Bool → ℕ → List ℕ → State → Result (List Root) ℕ
read_from skip spaced at [] s = if is_done s.place s.spot then Ok s.roots else Err at
read_from (suc skip) spaced at (b ∷ bs) s = read_from skip spaced (at + 1) bs s
read_from zero spaced at (b ∷ bs) s =
    if is_space b then read_from zero true (at + 1) bs s
    else or_bad at (token_step s spaced at (b ∷ bs)) (λ x. read_from (x.1 - 1) false (at + 1) bs x.0)

-- a byte order mark may stand first
abbrev pub mark_length : List ℕ → ℕ
mark_length bs = if begins (0xef ∷ 0xbb ∷ 0xbf ∷ []) bs then 3 else 0

-- `<?xml` up to the first `?>` may come then: how many bytes it takes, 0 where there is none
unfoldable pub declaration : List ℕ → Option ℕ
declaration bs =
    if begins (codes "<?xml") bs then option_and_then (λ n. if is_utf8 (take n bs) then Some (n + 2) else None) (place_of (codes "?>") bs)
    else Some 0

-- what the bytes of a descriptor file read as
unfoldable pub descriptor_of : List ℕ → Result (List Root) ℕ
descriptor_of bs =
    or_bad (mark_length bs) (declaration (drop (mark_length bs) bs))
    (λ n. read_from 0 false (mark_length bs + n) (drop (mark_length bs + n) bs) first_state)

-- a call answers what the bytes read as, unless memory ran out
abbrev pub Answers : Result (List Root) DescriptorError → Result (List Root) ℕ → Type 0
Answers (Ok roots) read = read ≡ Ok roots
Answers (Err (Bad at)) read = read ≡ Err at
Answers (Err NoMemory) read = Unit {0}

-- a place in a file of this length, or its end
abbrev pub IsWithin : ℕ → DescriptorError → Type 0
IsWithin n (Bad at) = at ≤ n
IsWithin n NoMemory = Unit {0}
