-- What the exception handling clauses of a body keep (II.19, II.25.4.6). A range of code is the IL offset of its first
-- byte and that of its end; it is looked at by these two alone, so an empty range stands between two bytes.
use Rattle.std.specs.Prelude.{ℕ, ◌+◌, Bool, true, false, not, ◌&&◌, ◌||◌, ◌==◌, nat_le, nat_lt, List, [], ◌∷◌, Option, Some, None, if◌then◌else◌}
use Rattle.il_base.specs.declared.body.Instr.{Instr}
use Rattle.il_base.specs.declared.body.Handler.{Handler}
use Rattle.il_base.specs.declared.body_grammar.body.Range.{Range}

abbrev pub try_of : Handler → Range
try_of h = record { from = h.try_at; to = h.try_at + h.try_len }

abbrev pub handler_of : Handler → Range
handler_of h = record { from = h.at; to = h.at + h.len }

abbrev pub are_disjoint : Range → Range → Bool
are_disjoint r s = nat_le r.to s.from || nat_le s.to r.from

abbrev pub lies_in : Range → Range → Bool
lies_in r s = nat_le s.from r.from && nat_le r.to s.to

abbrev pub is_same : Range → Range → Bool
is_same r s = r.from == s.from && r.to == s.to

unfoldable pub lies_strictly_in : Range → Range → Bool
lies_strictly_in r s = lies_in r s && not (is_same r s)

-- two ranges are disjoint, or one lies in the other
unfoldable pub nest : Range → Range → Bool
nest r s = are_disjoint r s || lies_in r s || lies_in s r

-- an instruction of the code begins there
abbrev pub begins : List Instr → ℕ → Bool
begins [] at = false
begins (i ∷ is) at = i.at == at || begins is at

-- an instruction of the code begins there, before the code ends
abbrev pub is_start : List Instr → ℕ → ℕ → Bool
is_start code size at = nat_lt at size && begins code at

-- a range begins at an instruction, and ends at one or at the end of the code
unfoldable pub is_range : (ℕ → Bool) → ℕ → Range → Bool
is_range start size r = start r.from && (start r.to || r.to == size)

-- two ranges that nest and aren't the same
unfoldable pub nest_apart : Range → Range → Bool
nest_apart r s = nest r s && not (is_same r s)

-- Any two ranges of a body nest and are not the same. Only the try ranges of catch clauses may be the same.
unfoldable pub ranges_fit : Handler → Handler → Bool
ranges_fit h k =
    nest (try_of h) (try_of k) && (not (is_same (try_of h) (try_of k)) || h.kind == 0 && k.kind == 0)
    && nest_apart (try_of h) (handler_of k) && nest_apart (handler_of h) (try_of k) && nest_apart (handler_of h) (handler_of k)

-- Where the try range of the first clause lies strictly within a range of the second, its handler lies in that range
-- too; within a try range, the first clause also stands before the second.
unfoldable pub nests_right : ℕ → Handler → ℕ → Handler → Bool
nests_right i h j k =
    (not (lies_strictly_in (try_of h) (try_of k)) || nat_lt i j && lies_in (handler_of h) (try_of k))
    && (not (lies_strictly_in (try_of h) (handler_of k)) || lies_in (handler_of h) (handler_of k))

-- what clause i keeps beside clause j
unfoldable pub fits_beside : ℕ → Handler → ℕ → Handler → Bool
fits_beside i h j k = i == j || ranges_fit h k && nests_right i h j k

-- beside every clause from number j on
unfoldable pub fits_beside_all : ℕ → Handler → ℕ → List Handler → Bool
fits_beside_all i h j [] = true
fits_beside_all i h j (k ∷ ks) = fits_beside i h j k && fits_beside_all i h (j + 1) ks

-- what a clause keeps by itself: its ranges are made of whole instructions, and they are disjoint and not the same
unfoldable pub is_clause : (ℕ → Bool) → ℕ → Handler → Bool
is_clause start size h =
    is_range start size (try_of h) && is_range start size (handler_of h)
    && are_disjoint (try_of h) (handler_of h) && not (is_same (try_of h) (handler_of h))

-- clause i keeps its own rules, and those beside each clause of the body
unfoldable pub meets_rules : (ℕ → Bool) → ℕ → List Handler → ℕ → Handler → Bool
meets_rules start size all i h = is_clause start size h && fits_beside_all i h 0 all

-- the first clause from number i on that doesn't meet the rules
unfoldable pub offender_from : (ℕ → Bool) → ℕ → List Handler → ℕ → List Handler → Option ℕ
offender_from start size all i [] = None
offender_from start size all i (h ∷ hs) =
    if meets_rules start size all i h then offender_from start size all (i + 1) hs else Some i

-- the first clause of a body that doesn't meet the rules, counted from 0; start says where instructions begin
abbrev pub offender : (ℕ → Bool) → ℕ → List Handler → Option ℕ
offender start size all = offender_from start size all 0 all
