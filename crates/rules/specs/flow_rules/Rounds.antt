-- What walks through a body reach, found in rounds: whether the body has depths (III.1.7.4, III.1.7.5), the depth at each instruction,
-- and the sources that are carried to slots. `Depths` and `Carrying` say the same by walks. There are as many rounds as there can be
-- finds, so none is missed. Instructions are counted from 0.
use Rattle.std.specs.Prelude.{ℕ, ◌+◌, Bool, not, ◌==◌, ◌&&◌, ◌||◌, List, [], ◌∷◌, ◌++◌, length, map, Option, Some, None, if◌then◌else◌}
use Rattle.std.specs.List.{list_all, list_any, filter, flat_map, range_with_len}
use Rattle.rules.specs.link_rules.Cycles.{add_all, led_to}
use Rattle.rules.specs.declared.flow_rules.exit.Exit.{Exit}
use Rattle.rules.specs.declared.flow_rules.source.Source.{Source}
use Rattle.rules.specs.flow_rules.Depths.{entered, is_wrong}
use Rattle.rules.specs.flow_rules.Sources.{same_source}
use Rattle.rules.specs.flow_rules.Carrying.{Flow, Held, held, sent, born, is_slot}

-- ---- depths: a find is an instruction with a depth at which a walk comes there

abbrev pub same_find : ℕ × ℕ → ℕ × ℕ → Bool
same_find x y = x.0 == y.0 && x.1 == y.1

abbrev pub entered_after : List Exit → ℕ × ℕ → List (ℕ × ℕ)
entered_after exits x = entered exits x.0 x.1

-- In a body that has depths each instruction has one.
unfoldable pub places_found : List Exit → List (ℕ × ℕ)
places_found exits = led_to same_find (entered_after exits) (length exits) ((0, 0) ∷ [])

abbrev pub agree : ℕ × ℕ → ℕ × ℕ → Bool
agree x y = not (x.0 == y.0) || x.1 == y.1

abbrev pub is_right_find : List Exit → ℕ → ℕ × ℕ → Bool
is_right_find exits most x = not (is_wrong exits most x.0 x.1) && list_all (agree x) (places_found exits)

-- whether a body has depths: no walk goes wrong, and no two walks reach one instruction at two depths
unfoldable pub has_depths : List Exit → ℕ → Bool
has_depths exits most = list_all (is_right_find exits most) (places_found exits)

abbrev pub depth_found : List (ℕ × ℕ) → ℕ → Option ℕ
depth_found [] i = None
depth_found (x ∷ finds) i = if x.0 == i then Some x.1 else depth_found finds i

-- the depth at each instruction; None for one that no walk reaches
unfoldable pub depths_found : List Exit → List (Option ℕ)
depths_found exits = map (depth_found (places_found exits)) (range_with_len 0 (length exits))

-- ---- sources: a find is a source in a slot at an instruction

abbrev pub same_held : Held Source → Held Source → Bool
same_held x y = x.at == y.at && x.slot == y.slot && same_source x.source y.source

abbrev pub is_in_slot : Flow Source → Held Source → Bool
is_in_slot f h = is_slot f h.at h.slot

abbrev pub sent_on : Flow Source → Held Source → List (Held Source)
sent_on f h = filter (is_in_slot f) (sent f h.at h.slot h.source)

abbrev pub begun_from : ℕ → List Source → List (Held Source)
begun_from slot [] = []
begun_from slot (s ∷ ss) = held 0 slot s ∷ begun_from (slot + 1) ss

-- what is there at an instruction whatever was there before
abbrev pub held_at : Flow Source → ℕ → List (Held Source)
held_at f i = map (λ slot. held i slot f.unknown) f.taken ++ born f i

-- each once
abbrev pub held_first : Flow Source → List (Held Source)
held_first f = add_all same_held [] (filter (is_in_slot f) (begun_from 0 f.begins ++ flat_map (held_at f) (range_with_len 0 (length f.depths))))

-- what is carried in so many rounds
unfoldable pub held_found : Flow Source → ℕ → List (Held Source)
held_found f rounds = led_to same_held (sent_on f) rounds (held_first f)

-- whether a source is carried to a slot at an instruction in so many rounds
abbrev pub is_found : Flow Source → ℕ → ℕ → ℕ → Source → Bool
is_found f rounds i slot s = list_any (same_held (held i slot s)) (held_found f rounds)
