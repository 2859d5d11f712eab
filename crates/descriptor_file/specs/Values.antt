-- Values of attributes: what stands between the quotes, with five entities and no `<`.
use Rattle.std.specs.Prelude.{ℕ, zero, suc, Bool, ◌==◌, ◌||◌, List, [], ◌∷◌, length, take, Option, Some, None, codes, nat_eq, nat_lt, if◌then◌else◌}
use Rattle.std.specs.List.{starts_with, position_or_len}
use Rattle.std.specs.Option.{option_map, option_and_then}
use Rattle.std.specs.Str.{is_utf8}

-- the bytes begin with this text
abbrev pub begins : List ℕ → List ℕ → Bool
begins text bs = starts_with nat_eq bs text

-- The entity after a `&`: the character that it stands for, and how many bytes it takes after the `&`.
unfoldable pub entity : List ℕ → Option (ℕ × ℕ)
entity bs =
    if begins (codes "lt;") bs then Some (60, 3)
    else if begins (codes "gt;") bs then Some (62, 3)
    else if begins (codes "amp;") bs then Some (38, 4)
    else if begins (codes "quot;") bs then Some (34, 5)
    else if begins (codes "apos;") bs then Some (39, 5)
    else None

-- the text that escaped bytes stand for, after the first `skip` of them
unfoldable pub unescaped : ℕ → List ℕ → Option (List ℕ)
unescaped skip [] = Some []
unescaped (suc skip) (b ∷ bs) = unescaped skip bs
unescaped zero (b ∷ bs) =
    if b == 60 then None
    else if b == 38 then option_and_then (λ e. option_map (λ text. e.0 ∷ text) (unescaped e.1 bs)) (entity bs)
    else option_map (λ text. b ∷ text) (unescaped zero bs)

-- the text that the bytes between the quotes stand for
unfoldable pub text_of : List ℕ → Option (List ℕ)
text_of raw = if is_utf8 raw then unescaped 0 raw else None

-- the place of the quote, or how many bytes there are
abbrev pub up_to : ℕ → List ℕ → ℕ
up_to quote bs = position_or_len (λ b. b == quote) bs

-- the bytes before a closing quote
unfoldable pub before_quote : ℕ → List ℕ → Option (List ℕ)
before_quote quote bs = if nat_lt (up_to quote bs) (length bs) then Some (take (up_to quote bs) bs) else None

-- the bytes between two quotes of one kind, `"` or `'`, at the front
unfoldable pub quoted : List ℕ → Option (List ℕ)
quoted [] = None
quoted (b ∷ bs) = if b == 34 || b == 39 then before_quote b bs else None
